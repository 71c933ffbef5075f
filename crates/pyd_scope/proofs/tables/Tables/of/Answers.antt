use Rattle.std.proofs.Common.{◌≡◌, ◌∙◌, suc, ◌+◌, ◌++◌, ◌∷◌, [], List, length, map, length-append, Bor, ap, sym, refl, subst, arith}
use Rattle.pyd_tree.specs.declared.file.Func.{Func}
use Rattle.pyd_names.specs.Binding.{module_variables}
use Rattle.pyd_scope.specs.declared.table.Entry.{Entry}
use Rattle.pyd_scope.proofs.Rows.{Rows, row_more, rows_are}
use Rattle.pyd_scope.proofs.Knowing.{table_is, function_table_is}
use Rattle.pyd_scope.proofs.tables.Tables.of.Goals as goal

pub loop-func-init : goal.loop-func-init
loop-func-init c =
    let are : c.push.new.self.items ≡ c.in_ok-module.module ∷ [] =
    c.in_ok-push.ensures.items ∙ ap (λ (ts : List (List Entry)). ts ++ c.in_ok-module.module ∷ []) c.new-tables.ensures.items in
    record {
      counted = ap (λ (ts : List (List Entry)). length ts) are;
      right = subst (Rows c.args.file.now 0) (sym are)
          (table_is c.args.file.now c.in_ok-outside.outside 0 (module_variables c.args.file.now) c.in_ok-module.module c.in_ok-outside.ensures refl c.in_ok-module.ensures, tt);
    }

pub loop-func-preserved : goal.loop-func-preserved
loop-func-preserved c =
    let counted : length c.loop-func.tables.items ≡ c.loop-func.func-index + 1 = c.loop-func.invariant.counted in
    let grown : length (c.loop-func.tables.items ++ c.in_ok-table.table ∷ []) ≡ length c.loop-func.tables.items + 1 =
    length-append c.loop-func.tables.items (c.in_ok-table.table ∷ []) in
    record {
      counted = ap (λ (ts : List (List Entry)). length ts) c.in_ok-push-2.ensures.items ∙ omega (arith, counted, grown);
      right = subst (Rows c.args.file.now 0) (sym c.in_ok-push-2.ensures.items)
          (row_more c.args.file.now 0 (suc c.loop-func.func-index) c.loop-func.tables.items c.in_ok-table.table c.loop-func.invariant.right (omega (arith, counted))
          (function_table_is c.args.file.now c.in_ok-outside.outside c.deref-func-items.result.now c.loop-func.func-index c.func-item.result c.in_ok-table.table
          c.in_ok-outside.ensures (ap (λ (fs : List (Bor Func)). map (λ f. f.now) fs) c.deref-func-items.ensures.value ∙ c.in_ok-funcs.ensures)
          c.func-item.is c.loop-func-test.true c.in_ok-table.ensures));
    }

pub returns : goal.returns
returns c = rows_are c.args.file.now c.loop-func.tables.items c.loop-func.invariant.right

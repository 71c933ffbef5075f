use Rattle.std.proofs.Common.{◌∙◌, map, sym, ap, refl}
use Rattle.std.specs.Borrow.{Bor}
use Rattle.pyd_tree.specs.declared.statement.Stmt.{Stmt}
use Rattle.pyd_scope.specs.Resolving.{slots_of}
use Rattle.pyd_meaning.specs.Module.{end_of}
use Rattle.pyd_eval.proofs.Scripts.{script-holds, script-unbound, script-ran, same-end}
use Rattle.pyd_eval.proofs.script.module.Goals as goal

pub exec_all-requires : goal.exec_all-requires
exec_all-requires c =
    let are = ap (map (λ (s : Bor Stmt). s.now)) c.deref.ensures.value ∙ c.in_ok-statements.ensures in
    script-holds _ _ _ c.new-slots.result.items _ refl are c.slot_count.ensures c.new-slots.ensures.items (c.as_mut_slice.ensures.value ∙ c.in_ok-fill.ensures)

pub returns-clause-end : goal.returns-clause-end
returns-clause-end c =
    let are = ap (map (λ (s : Bor Stmt). s.now)) c.deref.ensures.value ∙ c.in_ok-statements.ensures in
    let none = script-unbound (slots_of c.args.program.now 0) _ _ _ c.new-slots.ensures.items (c.as_mut_slice.ensures.value ∙ c.in_ok-fill.ensures) in
    let ran = script-ran c.args.program.now.file c.args.limits _ _ _ _ _ are none c.new-lines.ensures c.in_ok-how.ensures in
    c.end_of-end.ensures ∙ sym (same-end _ _) ∙ ap end_of ran.1

pub returns-clause-lines : goal.returns-clause-lines
returns-clause-lines c =
    let are = ap (map (λ (s : Bor Stmt). s.now)) c.deref.ensures.value ∙ c.in_ok-statements.ensures in
    let none = script-unbound (slots_of c.args.program.now 0) _ _ _ c.new-slots.ensures.items (c.as_mut_slice.ensures.value ∙ c.in_ok-fill.ensures) in
    (script-ran c.args.program.now.file c.args.limits _ _ _ _ _ are none c.new-lines.ensures c.in_ok-how.ensures).0

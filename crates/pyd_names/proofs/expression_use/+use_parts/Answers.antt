use Rattle.std.proofs.Common.{rules, append_assoc, ap, sym, ◌++◌, ◌∙◌}
use Rattle.std.proofs.lemmas.Result.{IfOk-equal}
use Rattle.std.specs.List.{flat_map}
use Rattle.pyd_names.specs.Uses.{part_uses, expression_uses}
use Rattle.pyd_value.specs.declared.operator.BinOp.{BinOp}
use Rattle.pyd_value.specs.declared.operator.CmpOp.{CmpOp}
use Rattle.pyd_tree.specs.declared.expression.Expr.{Expr}
use Rattle.pyd_names.proofs.Lists.{put_after}
use Rattle.pyd_names.proofs.Used.{listed_uses, chain_uses, compare_uses, choice_uses, power_uses, suffixed_uses, call_uses}
use Rattle.pyd_names.proofs.expression_use.+use_parts.Goals as goal

pub add_expression-returns-in_ok-add_expression-in-Chain : goal.add_expression-returns-in_ok-add_expression-in-Chain
add_expression-returns-in_ok-add_expression-in-Chain t c =
    IfOk-equal _ _ _ _ c.add_operands.ensures
    (ap (λ ls. c.add_expression-in-Chain.new.out ++ flat_map (λ (l : BinOp × Expr). part_uses c.args.line l.1) ls) c.as_slice.ensures
    ∙ put_after c.args.out.now _ _ _ _ c.in_ok-add_expression-in-Chain.ensures
    (ap (λ e. expression_uses e c.args.line c.args.manner) c.in-Chain.is
    ∙ chain_uses c.in-Chain.first c.in-Chain.links c.args.line c.args.manner
    ∙ ap (λ e. part_uses c.args.line e ++ flat_map (λ (l : BinOp × Expr). part_uses c.args.line l.1) c.in-Chain.links) (sym c.get-in-Chain.ensures)))

pub add_expression-returns-in_ok-add_expression-in-Compare : goal.add_expression-returns-in_ok-add_expression-in-Compare
add_expression-returns-in_ok-add_expression-in-Compare t c =
    IfOk-equal _ _ _ _ c.add_compared.ensures
    (ap (λ ls. c.add_expression-in-Compare.new.out ++ flat_map (λ (l : CmpOp × Expr). part_uses c.args.line l.1) ls) c.as_slice-in-Compare.ensures
    ∙ put_after c.args.out.now _ _ _ _ c.in_ok-add_expression-in-Compare.ensures
    (ap (λ e. expression_uses e c.args.line c.args.manner) c.in-Compare.is
    ∙ compare_uses c.in-Compare.first c.in-Compare.links c.args.line c.args.manner
    ∙ ap (λ e. part_uses c.args.line e ++ flat_map (λ (l : CmpOp × Expr). part_uses c.args.line l.1) c.in-Compare.links) (sym c.get-in-Compare.ensures)))

pub add_expression-returns-in_ok-add_expression-in-If-2 : goal.add_expression-returns-in_ok-add_expression-in-If-2
add_expression-returns-in_ok-add_expression-in-If-2 t c = search (rules, IfOk-equal, append_assoc, choice_uses)

pub add_expression-returns-in_ok-add_expression-in-Power : goal.add_expression-returns-in_ok-add_expression-in-Power
add_expression-returns-in_ok-add_expression-in-Power t c = search (rules, IfOk-equal, append_assoc, power_uses)

pub add_expression-returns-in_ok-add_expression-in-Suffixed : goal.add_expression-returns-in_ok-add_expression-in-Suffixed
add_expression-returns-in_ok-add_expression-in-Suffixed t c = search (rules, IfOk-equal, append_assoc, suffixed_uses)

pub add_expression-returns-in_ok-add_name-in-Call : goal.add_expression-returns-in_ok-add_name-in-Call
add_expression-returns-in_ok-add_name-in-Call t c = search (rules, IfOk-equal, append_assoc, call_uses)

pub add_expression-returns-in-Tuple : goal.add_expression-returns-in-Tuple
add_expression-returns-in-Tuple t c =
    IfOk-equal _ _ _ _ c.add_each-in-Tuple.ensures
    (ap (λ es. c.args.out.now ++ flat_map (part_uses c.args.line) es) c.as_slice-in-Tuple.ensures
    ∙ ap (λ us. c.args.out.now ++ us) (sym (listed_uses c.args.e.now _ c.args.line c.args.manner c.in-Tuple.is)))

use Rattle.std.proofs.Common.{rules, append_assoc, ap, sym, ◌++◌, ◌∙◌}
use Rattle.std.specs.List.{flat_map}
use Rattle.pyd_names.specs.Uses.{statement_uses}
use Rattle.pyd_names.proofs.Lists.{all_walked}
use Rattle.pyd_names.proofs.Used.{block_uses, choices_use, while_uses, for_uses, assert_uses}
use Rattle.std.proofs.lemmas.Result.{IfOk-equal}
use Rattle.pyd_names.proofs.name_use.+use_names.Goals as goal

pub add_block-returns : goal.add_block-returns
add_block-returns t c =
    all_walked statement_uses c.as_slice-stmt-items.result.now _ _ _ c.loop-stmt-test.false c.loop-stmt.invariant
    ∙ ap (λ items. c.args.out.now ++ flat_map statement_uses items) c.as_slice-stmt-items.ensures
    ∙ ap (λ bs. c.args.out.now ++ bs) (sym (block_uses c.args.block.now))

pub add_what-returns-in_ok-add_arms-in-If : goal.add_what-returns-in_ok-add_arms-in-If
add_what-returns-in_ok-add_arms-in-If t c = search (rules, IfOk-equal, append_assoc, choices_use)

pub add_what-returns-in_ok-add_expression-in-While : goal.add_what-returns-in_ok-add_expression-in-While
add_what-returns-in_ok-add_expression-in-While t c = search (rules, IfOk-equal, append_assoc, while_uses)

pub add_what-returns-in_ok-add_expression-in-For : goal.add_what-returns-in_ok-add_expression-in-For
add_what-returns-in_ok-add_expression-in-For t c = search (rules, IfOk-equal, append_assoc, for_uses)

pub add_what-returns-in_ok-add_expression-in-Assert : goal.add_what-returns-in_ok-add_expression-in-Assert
add_what-returns-in_ok-add_expression-in-Assert t c = search (rules, IfOk-equal, append_assoc, assert_uses)

use Rattle.std.proofs.Common.{rules, append_assoc, ap, sym, ◌++◌, ◌∙◌}
use Rattle.std.specs.List.{flat_map}
use Rattle.pyd_names.specs.Binding.{statement_bindings}
use Rattle.pyd_names.proofs.Lists.{all_walked}
use Rattle.std.proofs.lemmas.Result.{IfOk-equal}
use Rattle.pyd_names.proofs.Bound.{choice_binds, for_binds, block_binds}
use Rattle.pyd_names.proofs.binding.+bind.Goals as goal

pub add_what-returns-in_ok-add_arms-in-If : goal.add_what-returns-in_ok-add_arms-in-If
add_what-returns-in_ok-add_arms-in-If t c = search (rules, IfOk-equal, append_assoc, choice_binds)

pub add_what-returns-in_ok-add_names-in-For : goal.add_what-returns-in_ok-add_names-in-For
add_what-returns-in_ok-add_names-in-For t c = search (rules, IfOk-equal, append_assoc, for_binds)

pub add_block-returns : goal.add_block-returns
add_block-returns t c =
    all_walked statement_bindings c.as_slice-stmt-items.result.now _ _ _ c.loop-stmt-test.false c.loop-stmt.invariant
    ∙ ap (λ items. c.args.out.now ++ flat_map statement_bindings items) c.as_slice-stmt-items.ensures
    ∙ ap (λ bs. c.args.out.now ++ bs) (sym (block_binds c.args.block.now))

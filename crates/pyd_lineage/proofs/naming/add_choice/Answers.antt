use Rattle.std.proofs.Common.{[], ◌∷◌, ◌++◌}
use Rattle.std.proofs.lemmas.Result.{on_ok_weaker}
use Rattle.pyd_ir.specs.Arguments.{side_arguments}
use Rattle.pyd_lineage.proofs.Walks.{arguments_then}
use Rattle.pyd_lineage.proofs.naming.add_choice.Goals as goal

pub returns : goal.returns
returns c =
    let yes_args = side_arguments c.args.«yes».now in
    let no_args = side_arguments c.args.«no».now in
    on_ok_weaker c.add_arguments.result
    (λ adds. arguments_then c.args.set.now c.add_argument.new.set c.add_arguments.new.set (c.args.test.now ∷ []) (yes_args ++ (no_args ++ c.args.env.now))
    c.in_ok-add_argument.ensures
    (arguments_then c.add_argument.new.set c.add_side.new.set c.add_arguments.new.set yes_args (no_args ++ c.args.env.now)
    c.in_ok-add_side.ensures
    (arguments_then c.add_side.new.set c.add_side-2.new.set c.add_arguments.new.set no_args c.args.env.now
    c.in_ok-add_side-2.ensures adds)))
    c.add_arguments.ensures

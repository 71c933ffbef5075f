use Rattle.std.proofs.Common.{◌≡◌, ◌++◌, ◌∙◌, ap, rules}
use Rattle.pyd_ops.proofs.Repeats.{repeat_more}
use Rattle.pyd_ops.proofs.joining.repeat_members.Goals as goal

pub loop-preserved : goal.loop-preserved
loop-preserved c =
    let e : c.append.new.members ≡ c.loop.members ++ c.args.xs.now = search rules in
    e ∙ ap (λ x. x ++ c.args.xs.now) c.loop.invariant ∙ repeat_more c.loop.counter c.args.xs.now

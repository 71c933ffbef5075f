use Rattle.std.proofs.Common.{◌≡◌, ◌++◌, ◌∙◌, ap, string_bytes, rules}
use Rattle.pyd_ops.proofs.Repeats.{repeat_more}
use Rattle.pyd_ops.proofs.joining.repeat_str.Goals as goal

pub loop-preserved : goal.loop-preserved
loop-preserved c =
    let e : string_bytes c.push_str.new.self ≡ string_bytes c.loop.repeated ++ c.args.s.now = search rules in
    e ∙ ap (λ x. x ++ c.args.s.now) c.loop.invariant ∙ repeat_more c.loop.counter c.args.s.now

use Rattle.std.proofs.Common.{◌≡◌, ◌-◌, ◌++◌, length, replicate}
use Rattle.pyd_ir.specs.declared.arg.Arg.TheVariants.{Unbound}
use Rattle.pyd_refine.proofs.enter.fill.Given as goal

abbrev pub decreases-loop-env : goal.decreases-loop-env
decreases-loop-env l = l.count - length l.env.items

abbrev pub invariant-loop-env : goal.invariant-loop-env
invariant-loop-env l =
    l.env.items ++ replicate (l.count - length l.env.items) Unbound
    ≡ l.initial.env.items ++ replicate (l.count - length l.initial.env.items) Unbound

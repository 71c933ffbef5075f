-- The arguments so far are redirected.
use Rattle.std.proofs.Common.{◌≡◌, take}
use Rattle.pyd_refine.specs.Redirecting.{redirect_all}
use Rattle.pyd_desk.proofs.redirecting.Images.args.Given as goal

abbrev pub invariant-loop-arg : goal.invariant-loop-arg
invariant-loop-arg l =
    l.list ≡ redirect_all l.self.id l.self.ports.now (take l.arg-index l.args)

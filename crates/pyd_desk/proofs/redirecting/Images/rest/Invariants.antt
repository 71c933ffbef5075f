-- The frames so far are redirected.
use Rattle.std.proofs.Common.{◌≡◌, take}
use Rattle.pyd_refine.specs.Redirecting.{redirect_rest}
use Rattle.pyd_desk.proofs.redirecting.Images.rest.Given as goal

abbrev pub invariant-loop-frame : goal.invariant-loop-frame
invariant-loop-frame l =
    l.frames ≡ redirect_rest l.self.id l.self.ports.now (take l.frame-index l.rest)

use Rattle.std.proofs.Common.{◌≡◌, ◌++◌, take}
use Rattle.pyd_translate.proofs.frames.add_frames.Given as goal

abbrev pub invariant-loop-frame : goal.invariant-loop-frame
invariant-loop-frame l = l.rest ≡ l.initial.rest ++ take l.frame-index l.frames

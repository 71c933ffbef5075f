-- The best so far among those that are left gives the best of all.
use Rattle.std.proofs.Common.{◌≡◌, drop}
use Rattle.pyd_ops.specs.Calls.{choose_best, replaces}
use Rattle.pyd_ops.proofs.extremes.choose_best.Given as goal

abbrev pub invariant-loop-candidate : goal.invariant-loop-candidate
invariant-loop-candidate l =
    choose_best (replaces l.which) l.best (drop l.candidate-index l.rest) l.line ≡ choose_best (replaces l.which) l.first l.rest l.line

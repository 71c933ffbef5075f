use Rattle.std.proofs.Common.{◌≡◌, length, map}
use Rattle.clap.specs.Words.{found_of, rows_of}
use Rattle.pyd_words.specs.Rows.{choice_of}
use Rattle.pyd_words.specs.Words as spec
use Rattle.pyd_words.proofs.read.are_formed.Given as goal

abbrev pub invariant-loop-options : goal.invariant-loop-options
invariant-loop-options l =
    spec.are_formed (map choice_of l.options) (rows_of (found_of l.matches)) ≡ spec.are_formed (map choice_of l.initial.options) (rows_of (found_of l.matches))

abbrev pub decreases-loop-options : goal.decreases-loop-options
decreases-loop-options l = length l.options

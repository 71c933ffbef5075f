use Rattle.std.proofs.Common.{◌≡◌, length}
use Rattle.pyd_lex.specs.Words.{begins}
use Rattle.pyd_lex.proofs.run.begins.Given as goal

abbrev pub invariant-loop-spelling : goal.invariant-loop-spelling
invariant-loop-spelling l = begins l.spelling l.text ≡ begins l.initial.spelling l.initial.text

abbrev pub decreases-loop-spelling : goal.decreases-loop-spelling
decreases-loop-spelling l = length l.spelling

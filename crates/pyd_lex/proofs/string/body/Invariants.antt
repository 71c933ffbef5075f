use Rattle.std.proofs.Common.{◌≡◌, ℕ, ◌+◌, length, Option}
use Rattle.pyd_lex.specs.declared.fault.Flaw.{Flaw}
use Rattle.pyd_lex.specs.Quoted.{Ends, spelling}
use Rattle.pyd_lex.proofs.string.body.Given as goal

abbrev pub invariant-loop-rest : goal.invariant-loop-rest
invariant-loop-rest l = record {
  total : l.n + length l.rest ≡ length l.text;
  same : (m : ℕ) (f : Option Flaw) → Ends (spelling l.quotes) l.rest m f → Ends (spelling l.quotes) l.text (l.n + m) f;
}

abbrev pub decreases-loop-rest : goal.decreases-loop-rest
decreases-loop-rest l = length l.rest

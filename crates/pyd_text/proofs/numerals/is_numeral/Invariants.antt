-- What is left, behind a digit if there was one, is a numeral where the whole is one.
use Rattle.std.proofs.Common.{◌≡◌, ◌∷◌, cond, drop}
use Rattle.pyd_text.specs.Numerals.{is_numeral}
use Rattle.pyd_text.proofs.numerals.is_numeral.Given as goal

abbrev pub invariant-loop-c : goal.invariant-loop-c
invariant-loop-c l =
    cond l.after_digit (is_numeral (48 ∷ drop l.c-index l.s)) (is_numeral (drop l.c-index l.s)) ≡ is_numeral l.s

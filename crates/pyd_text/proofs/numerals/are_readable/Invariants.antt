-- The characters that are left decide.
use Rattle.std.proofs.Common.{◌≡◌, drop}
use Rattle.std.specs.List.{list_all}
use Rattle.pyd_text.specs.Numerals.{is_readable}
use Rattle.pyd_text.proofs.numerals.are_readable.Given as goal

abbrev pub invariant-loop-c : goal.invariant-loop-c
invariant-loop-c l = list_all is_readable (drop l.c-index l.s) ≡ list_all is_readable l.s

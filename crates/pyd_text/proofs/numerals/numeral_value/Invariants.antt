-- The digits so far and what is left write the number, up to the cut.
use Rattle.std.proofs.Common.{◌≡◌, ◌-◌, ◌^◌, ◌<◌, min, drop}
use Rattle.std.specs.Prelude.{filter}
use Rattle.std.specs.Str.Parse.{digits_value_after}
use Rattle.std.specs.Char.{is_ascii_digit}
use Rattle.pyd_text.specs.Numerals.{numeral_value}
use Rattle.pyd_text.proofs.numerals.numeral_value.Given as goal

abbrev pub invariant-loop-c : goal.invariant-loop-c
invariant-loop-c l =
    record {
      fits : l.n < 2 ^ 128;
      same : min (digits_value_after 10 l.n (filter is_ascii_digit (drop l.c-index l.s))) (2 ^ 128 - 1) ≡ min (numeral_value l.s) (2 ^ 128 - 1);
    }

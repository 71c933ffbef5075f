-- The characters that are left decide.
use Rattle.std.proofs.Common.{◌≡◌, IsUtf8, chars}
use Rattle.std.specs.Str.Iter.{chars_rest}
use Rattle.pyd_text.specs.Quoting.{has}
use Rattle.pyd_text.proofs.quoting.has.Given as goal

abbrev pub invariant-loop-d : goal.invariant-loop-d
invariant-loop-d l =
    record {
      text : IsUtf8 (chars_rest l.d-iterator);
      same : has l.c (chars (chars_rest l.d-iterator)) ≡ has l.c (chars l.fn.s);
    }

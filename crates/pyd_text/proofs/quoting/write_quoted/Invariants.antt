-- What is written and what is left are all.
use Rattle.std.proofs.Common.{◌≡◌, ◌++◌, IsUtf8, chars, string_bytes, encode_utf8_all}
use Rattle.std.specs.List.{flat_map}
use Rattle.std.specs.Str.Iter.{chars_rest}
use Rattle.pyd_text.specs.Quoting.{escaped}
use Rattle.pyd_text.proofs.quoting.write_quoted.Given as goal

abbrev pub invariant-loop-c : goal.invariant-loop-c
invariant-loop-c l =
    record {
      text : IsUtf8 (chars_rest l.c-iterator);
      same : string_bytes l.out ++ encode_utf8_all (flat_map (escaped l.quote) (chars (chars_rest l.c-iterator)))
          ≡ string_bytes l.initial.out ++ encode_utf8_all (flat_map (escaped l.quote) (chars l.fn.s));
    }

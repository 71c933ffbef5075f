-- What is counted and what is left are all, up to the cut.
use Rattle.std.proofs.Common.{◌≡◌, ◌+◌, ◌-◌, ◌^◌, ◌<◌, min, IsUtf8, chars}
use Rattle.std.specs.List.{flat_map}
use Rattle.std.specs.Str.Iter.{chars_rest}
use Rattle.pyd_text.specs.Quoting.{escaped}
use Rattle.pyd_text.specs.Writing.{byte_count}
use Rattle.pyd_text.proofs.quoting.quoted_len.Given as goal

abbrev pub invariant-loop-c : goal.invariant-loop-c
invariant-loop-c l =
    record {
      text : IsUtf8 (chars_rest l.c-iterator);
      fits : l.len < 2 ^ 64;
      same : min (l.len + byte_count (flat_map (escaped l.quote) (chars (chars_rest l.c-iterator)))) (2 ^ 64 - 1)
          ≡ min (2 + byte_count (flat_map (escaped l.quote) (chars l.fn.s))) (2 ^ 64 - 1);
    }

-- What is counted and what is left are all, up to the cut.
use Rattle.std.proofs.Common.{◌≡◌, ◌+◌, ◌-◌, ◌^◌, ◌<◌, min, drop, codes}
use Rattle.std.specs.List.{join_by}
use Rattle.pyd_text.specs.Texts.{repr}
use Rattle.pyd_text.specs.Writing.{byte_count}
use Rattle.pyd_text.proofs.Joining.{joined_from}
use Rattle.pyd_text.proofs.measuring.+repr_len.Given as goal

abbrev pub invariant-listed_len-loop-i : goal.invariant-listed_len-loop-i
invariant-listed_len-loop-i l =
    record {
      fits : l.len < 2 ^ 64;
      same : min (l.len + byte_count (joined_from repr (codes ", ") l.i (drop l.i l.members))) (2 ^ 64 - 1)
          ≡ min (byte_count (join_by repr (codes ", ") l.members)) (2 ^ 64 - 1);
    }

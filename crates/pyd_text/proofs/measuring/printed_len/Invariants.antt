-- What is counted and what is left are all, up to the cut.
use Rattle.std.proofs.Common.{◌≡◌, ◌+◌, ◌-◌, ◌^◌, ◌<◌, min, drop, codes}
use Rattle.pyd_text.specs.Texts.{str, printed}
use Rattle.pyd_text.specs.Writing.{byte_count}
use Rattle.pyd_text.proofs.Joining.{joined_from}
use Rattle.pyd_text.proofs.measuring.printed_len.Given as goal

abbrev pub invariant-loop-i : goal.invariant-loop-i
invariant-loop-i l =
    record {
      fits : l.len < 2 ^ 64;
      same : min (l.len + byte_count (joined_from str (codes " ") l.i (drop l.i l.args))) (2 ^ 64 - 1)
          ≡ min (byte_count (printed l.args)) (2 ^ 64 - 1);
    }

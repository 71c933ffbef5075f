-- What is written and what is left are all.
use Rattle.std.proofs.Common.{◌≡◌, ◌++◌, drop, codes, string_bytes, encode_utf8_all}
use Rattle.std.specs.List.{join_by}
use Rattle.pyd_text.specs.Texts.{repr}
use Rattle.pyd_text.proofs.Joining.{joined_from}
use Rattle.pyd_text.proofs.writing.+write_repr.Given as goal

abbrev pub invariant-write_listed-loop-i : goal.invariant-write_listed-loop-i
invariant-write_listed-loop-i l =
    string_bytes l.out ++ encode_utf8_all (joined_from repr (codes ", ") l.i (drop l.i l.members))
    ≡ string_bytes l.initial.out ++ encode_utf8_all (join_by repr (codes ", ") l.members)

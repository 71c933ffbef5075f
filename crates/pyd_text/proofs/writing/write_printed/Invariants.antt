-- What is written and what is left are all.
use Rattle.std.proofs.Common.{◌≡◌, ◌++◌, drop, codes, string_bytes, encode_utf8_all}
use Rattle.pyd_text.specs.Texts.{str, printed}
use Rattle.pyd_text.proofs.Joining.{joined_from}
use Rattle.pyd_text.proofs.writing.write_printed.Given as goal

abbrev pub invariant-loop-i : goal.invariant-loop-i
invariant-loop-i l =
    string_bytes l.out ++ encode_utf8_all (joined_from str (codes " ") l.i (drop l.i l.args))
    ≡ string_bytes l.initial.out ++ encode_utf8_all (printed l.args)

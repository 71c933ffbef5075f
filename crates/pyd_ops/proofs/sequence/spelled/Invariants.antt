-- The text is the characters so far.
use Rattle.std.proofs.Common.{◌≡◌, string_bytes, encode_utf8_all, take}
use Rattle.pyd_ops.proofs.sequence.spelled.Given as goal

abbrev pub invariant-loop-c : goal.invariant-loop-c
invariant-loop-c l = string_bytes l.text ≡ encode_utf8_all (take l.c-index l.characters)

use Rattle.std.proofs.Common.{◌≡◌, ◌++◌, encode_utf8_all, length}
use Rattle.std.specs.String.{string_bytes}
use Rattle.pyd_lex.specs.Strings.{value}
use Rattle.pyd_lex.specs.Quoted.{spelling}
use Rattle.pyd_lex.proofs.text.written.Given as goal

abbrev pub invariant-loop-c : goal.invariant-loop-c
invariant-loop-c l = string_bytes l.out ++ encode_utf8_all (value (spelling l.quotes) l.rest) ≡ encode_utf8_all (value (spelling l.quotes) l.text)

abbrev pub decreases-loop-c : goal.decreases-loop-c
decreases-loop-c l = length l.rest

-- What is there is the text, as often as there were turns.
use Rattle.std.proofs.Common.{◌≡◌, string_bytes}
use Rattle.std.specs.List.{repeat}
use Rattle.pyd_ops.proofs.joining.repeat_str.Given as goal

abbrev pub invariant-loop : goal.invariant-loop
invariant-loop l = string_bytes l.repeated ≡ repeat l.counter l.s

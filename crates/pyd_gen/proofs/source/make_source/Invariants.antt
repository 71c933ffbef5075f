use Rattle.std.proofs.Common.{◌≡◌, ◌++◌, codes}
use Rattle.std.specs.List.{flat_map, range_with_len}
use Rattle.std.specs.String.{string_bytes}
use Rattle.pyd_gen.specs.Source.{heading, addend, part_lines, total_lines}
use Rattle.pyd_gen.proofs.source.make_source.Given as goal

abbrev pub invariant-loop-part : goal.invariant-loop-part
invariant-loop-part l = string_bytes l.text ≡ heading ++ flat_map (λ k. part_lines k (addend l.number k)) (range_with_len 0 l.part)

abbrev pub invariant-loop-part-2 : goal.invariant-loop-part-2
invariant-loop-part-2 l =
    string_bytes l.text ≡ (string_bytes l.initial.text) ++ flat_map total_lines (range_with_len 0 l.part)

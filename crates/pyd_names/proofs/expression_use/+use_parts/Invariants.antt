-- What was put at the end, and then what is left, is all that is to be put there.
use Rattle.std.proofs.Common.{◌≡◌, ◌++◌, drop}
use Rattle.std.specs.List.{flat_map}
use Rattle.pyd_names.specs.Uses as spec
use Rattle.pyd_names.proofs.expression_use.+use_parts.Given as goal

abbrev pub invariant-add_each-loop-expr : goal.invariant-add_each-loop-expr
invariant-add_each-loop-expr l =
    l.out ++ flat_map (spec.part_uses l.line) (drop l.expr-index l.exprs) ≡ l.initial.out ++ flat_map (spec.part_uses l.line) l.exprs

abbrev pub invariant-add_operands-loop-link : goal.invariant-add_operands-loop-link
invariant-add_operands-loop-link l =
    l.out ++ flat_map (λ k. spec.part_uses l.line k.1) (drop l.link-index l.links) ≡ l.initial.out ++ flat_map (λ k. spec.part_uses l.line k.1) l.links

abbrev pub invariant-add_compared-loop-link : goal.invariant-add_compared-loop-link
invariant-add_compared-loop-link l =
    l.out ++ flat_map (λ k. spec.part_uses l.line k.1) (drop l.link-index l.links) ≡ l.initial.out ++ flat_map (λ k. spec.part_uses l.line k.1) l.links

abbrev pub invariant-add_suffixes-loop-suffix : goal.invariant-add_suffixes-loop-suffix
invariant-add_suffixes-loop-suffix l =
    l.out ++ flat_map (spec.bracket_uses l.line) (drop l.suffix-index l.suffixes) ≡ l.initial.out ++ flat_map (spec.bracket_uses l.line) l.suffixes

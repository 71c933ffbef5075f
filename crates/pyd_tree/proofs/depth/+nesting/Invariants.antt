-- The greatest so far or of what is left is the greatest of all, up to the cut.
use Rattle.std.proofs.Common.{◌≡◌, ◌-◌, ◌^◌, ◌<◌, min, max, map, drop}
use Rattle.pyd_value.specs.Size.{greatest}
use Rattle.pyd_tree.specs.Nesting.{nesting, suffix_nesting}
use Rattle.pyd_tree.proofs.depth.+nesting.Given as goal

abbrev pub invariant-greatest-loop-expr : goal.invariant-greatest-loop-expr
invariant-greatest-loop-expr l =
    record {
      fits : l.deepest < 2 ^ 32;
      same : min (max l.deepest (greatest (map nesting (drop l.expr-index l.exprs)))) (2 ^ 32 - 1) ≡ min (greatest (map nesting l.exprs)) (2 ^ 32 - 1);
    }

abbrev pub invariant-greatest_operand-loop-link : goal.invariant-greatest_operand-loop-link
invariant-greatest_operand-loop-link l =
    record {
      fits : l.deepest < 2 ^ 32;
      same : min (max l.deepest (greatest (map (λ k. nesting k.1) (drop l.link-index l.links)))) (2 ^ 32 - 1) ≡ min (greatest (map (λ k. nesting k.1) l.links)) (2 ^ 32 - 1);
    }

abbrev pub invariant-greatest_compared-loop-link : goal.invariant-greatest_compared-loop-link
invariant-greatest_compared-loop-link l =
    record {
      fits : l.deepest < 2 ^ 32;
      same : min (max l.deepest (greatest (map (λ k. nesting k.1) (drop l.link-index l.links)))) (2 ^ 32 - 1) ≡ min (greatest (map (λ k. nesting k.1) l.links)) (2 ^ 32 - 1);
    }

abbrev pub invariant-greatest_suffix-loop-suffix : goal.invariant-greatest_suffix-loop-suffix
invariant-greatest_suffix-loop-suffix l =
    record {
      fits : l.deepest < 2 ^ 32;
      same : min (max l.deepest (greatest (map suffix_nesting (drop l.suffix-index l.suffixes)))) (2 ^ 32 - 1) ≡ min (greatest (map suffix_nesting l.suffixes)) (2 ^ 32 - 1);
    }

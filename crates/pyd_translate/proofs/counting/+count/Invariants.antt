use Rattle.std.proofs.Common.{◌≡◌, ◌+◌, map, drop}
use Rattle.pyd_value.specs.Size.{total}
use Rattle.pyd_tree.specs.declared.file.File.{File}
use Rattle.pyd_translate.specs.Expressions.{unfolded, unfolded_suffix, counts, operand_counts}
use Rattle.pyd_translate.specs.Drafts.{unfolded_operands, unfolded_links}
use Rattle.pyd_translate.proofs.counting.+count.Given as goal

abbrev pub invariant-count_each-loop-e : goal.invariant-count_each-loop-e
invariant-count_each-loop-e l =
    (file : File) → l.total + counts (map (unfolded file) (drop l.e-index l.es)) ≡ counts (map (unfolded file) l.es)

abbrev pub invariant-count_operands-loop-link : goal.invariant-count_operands-loop-link
invariant-count_operands-loop-link l =
    (file : File) → l.total + operand_counts (unfolded_operands file (drop l.link-index l.links)) ≡ operand_counts (unfolded_operands file l.links)

abbrev pub invariant-count_compared-loop-link : goal.invariant-count_compared-loop-link
invariant-count_compared-loop-link l =
    (file : File) → l.total + operand_counts (unfolded_links file (drop l.link-index l.links)) ≡ operand_counts (unfolded_links file l.links)

abbrev pub invariant-count_suffixes-loop-suffix : goal.invariant-count_suffixes-loop-suffix
invariant-count_suffixes-loop-suffix l =
    (file : File) → l.total + total (map (λ s. s.count) (map (unfolded_suffix file) (drop l.suffix-index l.suffixes))) ≡ total (map (λ s. s.count) (map (unfolded_suffix file) l.suffixes))

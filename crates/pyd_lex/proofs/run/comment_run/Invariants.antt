use Rattle.std.proofs.Common.{◌≡◌, ◌+◌, ◌-◌, ◌≤◌, length, drop}
use Rattle.std.specs.List.{prefix_len}
use Rattle.pyd_lex.specs.Spelling.{in_comment}
use Rattle.pyd_lex.proofs.run.comment_run.Given as goal

abbrev pub invariant-loop-n : goal.invariant-loop-n
invariant-loop-n l = (l.n + prefix_len in_comment (drop l.n l.text) ≡ prefix_len in_comment l.text) × (l.n ≤ length l.text)

abbrev pub decreases-loop-n : goal.decreases-loop-n
decreases-loop-n l = length l.text - l.n

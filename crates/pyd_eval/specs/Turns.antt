-- What a `for` does over a value, over items and over numbers, and what one turn of it does.
use Rattle.std.specs.Prelude.{ℕ, List, Option}
use Rattle.pyd_value.specs.declared.value.Value.{Value}
use Rattle.pyd_tree.specs.declared.expression.Expr.{Expr}
use Rattle.pyd_tree.specs.declared.statement.Block.{Block}
use Rattle.pyd_tree.specs.declared.statement.Targets.{Targets}
use Rattle.pyd_ops.specs.declared.ranges.Span.{Span}
use Rattle.pyd_ops.specs.Sequence.{item_at}
use Rattle.pyd_meaning.specs.Evaluation.{Evaluation, ◌>>=◌}
use Rattle.pyd_meaning.specs.Setting.{place_of}
use Rattle.pyd_meaning.specs.Assignment.{assign}
use Rattle.pyd_meaning.specs.Completion.{Reached}
use Rattle.pyd_meaning.specs.Loops.{for_from, for_loop, numbers}
use Rattle.pyd_meaning.specs.Statement.{block_action, calls_range}
use Rattle.pyd_eval.specs.declared.activation.Activation.{Activation}
use Rattle.pyd_eval.specs.Frames.{setting, names_of}

-- one turn with an item: its targets, and then the suite
abbrev pub does_turn : Activation → Targets → Block → Value → ℕ → List (Option Value)
    → Evaluation Reached
does_turn on targets body item line slots =
    assign targets item (place_of line) (names_of on slots) >>= block_action (setting on) body

-- the turns over the value of an iterable
abbrev pub does_for : Activation → Targets → Expr → Block → Value → ℕ → List (Option Value)
    → Evaluation Reached
does_for on targets e body over line slots =
    for_loop on.limits.turns (place_of line) targets (block_action (setting on) body)
    (calls_range (setting on) e) over 0 (names_of on slots)

-- the turns over the items of a value
abbrev pub does_items : Activation → Targets → Block → Value → ℕ → List (Option Value)
    → Evaluation Reached
does_items on targets body over line slots =
    for_from on.limits.turns (place_of line) targets (block_action (setting on) body)
    (item_at over) 0 (names_of on slots)

-- the turns over the numbers of a range
abbrev pub does_numbers : Activation → Targets → Block → Span → ℕ → List (Option Value)
    → Evaluation Reached
does_numbers on targets body span line slots =
    for_from on.limits.turns (place_of line) targets (block_action (setting on) body)
    (numbers span span.count) 0 (names_of on slots)

-- What an activation is in the meaning: its setting, and the names that its slots bind.
use Rattle.std.specs.Prelude.{◌≡◌, ℕ, ◌≤◌, List, map, length, slice_get, Bool, true, Option, Some, None, option_and_then}
use Rattle.std.specs.List.{list_all}
use Rattle.pyd_value.specs.declared.value.Value.{Value}
use Rattle.pyd_tree.specs.declared.expression.Expr.{Expr}
use Rattle.pyd_tree.specs.declared.statement.Block.{Block}
use Rattle.pyd_tree.specs.declared.statement.Stmt.{Stmt}
use Rattle.pyd_names.specs.declared.binding.Binding.{Binding}
use Rattle.pyd_names.specs.Binding.{is_among}
use Rattle.pyd_scope.specs.Places.{place}
use Rattle.pyd_scope.specs.Resolving.{slots_of}
use Rattle.pyd_meaning.specs.Evaluation.{Evaluation}
use Rattle.pyd_meaning.specs.Names.{Names}
use Rattle.pyd_meaning.specs.Setting.{Setting, place_of}
use Rattle.pyd_meaning.specs.Expression.{meaning_of, each}
use Rattle.pyd_meaning.specs.Completion.{Reached}
use Rattle.pyd_meaning.specs.Statement.{action_of, block_action}
use Rattle.pyd_meaning.specs.Module.{setting_at}
use Rattle.pyd_eval.specs.declared.activation.Activation.{Activation}

-- the names of its slots
abbrev pub slot_names : Activation → List (List ℕ)
slot_names on = slots_of on.program.now on.routine

-- its setting
abbrev pub setting : Activation → Setting
setting on = setting_at on.program.now.file on.limits on.routine on.depth

-- a slot that may not be there, and that may be empty
abbrev pub flat : Option (Option Value) → Option Value
flat (Some slot) = slot
flat None = None

-- the names that slots bind: each is bound to what lies in the first slot of its name
abbrev pub bound_by : List (List ℕ) → List (Option Value) → Names
bound_by names slots name = option_and_then (λ i. flat (slice_get slots i)) (place names name)

-- the names that the slots of an activation bind
abbrev pub names_of : Activation → List (Option Value) → Names
names_of on slots = bound_by (slot_names on) slots

-- what an expression does in a line of an activation
abbrev pub evaluation : Activation → Expr → ℕ → List (Option Value) → Evaluation Value
evaluation on e line slots = meaning_of (setting on) e (place_of line) (names_of on slots)

-- what expressions do one after another
abbrev pub evaluations : Activation → List Expr → ℕ → List (Option Value) → Evaluation (List Value)
evaluations on es line slots =
    each (map (meaning_of (setting on)) es) (place_of line) (names_of on slots)

-- what a statement does
abbrev pub execution : Activation → Stmt → List (Option Value) → Evaluation Reached
execution on s slots = action_of (setting on) s (names_of on slots)

-- what a suite does
abbrev pub suite_execution : Activation → Block → List (Option Value) → Evaluation Reached
suite_execution on block slots = block_action (setting on) block (names_of on slots)

-- whether each of some names has a slot
abbrev pub have_slots : Activation → List (List ℕ) → Bool
have_slots on names = list_all (is_among (slot_names on)) names

-- there is a slot for each name of the routine, and each of some names has one
pub record Holds (on : Activation) (slots : List (Option Value)) (names : List (List ℕ)) : Type 0 where
  pub enough : length (slot_names on) ≤ length slots
  pub named : have_slots on names ≡ true

-- What a turn of a loop does, from the value of the test on or from an item on, and what a range has.
use Rattle.std.specs.Prelude.{◌≡◌, ◌≢◌, ◌↔◌, ℕ, suc, ◌<◌, pos, List, [], ◌∷◌, length, Bool, true, false, Some, None}
use Rattle.pyd_value.specs.declared.value.Value.{Value}
use Rattle.pyd_value.specs.declared.fault.Kind.TheVariants.{TypeError, ValueError}
use Rattle.pyd_value.specs.declared.fault.Limit.TheVariants.{Turn}
use Rattle.pyd_value.specs.Truth.{is_true, is_nonzero}
use Rattle.pyd_tree.specs.declared.statement.Targets.{Targets}
use Rattle.pyd_ops.specs.declared.ranges.Span.{Span}
use Rattle.pyd_ops.specs.Integer.{is_within}
use Rattle.pyd_ops.specs.Ranges.{number_at}
use Rattle.pyd_ops.specs.Sequence.{items}
use Rattle.pyd_meaning.specs.Evaluation.{gives, step, ◌>>=◌}
use Rattle.pyd_meaning.specs.Names.{Names, bind}
use Rattle.pyd_meaning.specs.Setting.{Place, raises, exceeds}
use Rattle.pyd_meaning.specs.Expression.{Meaning}
use Rattle.pyd_meaning.specs.Assignment.{assign}
use Rattle.pyd_meaning.specs.Completion.{Action, normally}
use Rattle.pyd_meaning.specs.Loops.{Items, turned, while_from, for_from, for_loop, items_over, is_range}

-- a `while` whose test was false is over; else a turn is wanted, and counts
pub record WhileTurns : Type 0 where
  pub over : (turns : ℕ) (at : Place) (test : Meaning) (body : Action) (v : Value) (names : Names)
      → is_true v ≡ false → while_from turns at test body v names ≡ gives (normally names)
  pub limit : (at : Place) (test : Meaning) (body : Action) (v : Value) (names : Names)
      → is_true v ≡ true → while_from 0 at test body v names ≡ step (exceeds Turn at)
  pub turn : (turns : ℕ) (at : Place) (test : Meaning) (body : Action) (v : Value) (names : Names)
      → is_true v ≡ true
      → while_from (suc turns) at test body v names
      ≡ step (turned body (λ now. test at now >>= (λ w. while_from turns at test body w now)) names)

-- a `for` that has no item is over; else a turn is wanted, and counts
pub record ForTurns : Type 0 where
  pub over : (turns : ℕ) (at : Place) (targets : Targets) (body : Action) (item : Items) (t : ℕ) (names : Names)
      → item t ≡ None → for_from turns at targets body item t names ≡ gives (normally names)
  pub limit : (at : Place) (targets : Targets) (body : Action) (item : Items) (t : ℕ) (v : Value) (names : Names)
      → item t ≡ Some v → for_from 0 at targets body item t names ≡ step (exceeds Turn at)
  pub turn : (turns : ℕ) (at : Place) (targets : Targets) (body : Action) (item : Items) (t : ℕ) (v : Value) (names : Names)
      → item t ≡ Some v
      → for_from (suc turns) at targets body item t names
      ≡ step (assign targets v at names >>= turned body (for_from turns at targets body item (suc t)))
  -- what is no tuple, text or range can't be gone over
  pub nothing : (turns : ℕ) (at : Place) (targets : Targets) (body : Action) (ranged : Bool) (over : Value) (t : ℕ) (names : Names)
      → items_over ranged over ≡ None
      → for_loop turns at targets body ranged over t names ≡ raises TypeError at

-- a range has a step that isn't 0 and as many numbers as it counts, each within the limits, and no other has
abbrev pub RangeLaw : Type 0
RangeLaw = (span : Span) (count : ℕ)
    → (is_range span (pos count) ≡ true)
    ↔ ((is_nonzero span.step ≡ true) × ((t : ℕ) → t < count → is_within (number_at span t) ≡ true))

-- one target takes the value; several take its items, and none is bound where these are missing or not as many
pub record TargetsLaw : Type 0 where
  pub one : (targets : Targets) (name : List ℕ) (v : Value) (at : Place) (names : Names)
      → targets.tuple ≡ false → targets.names ≡ name ∷ []
      → assign targets v at names ≡ gives (bind names name v)
  pub kind : (targets : Targets) (v : Value) (at : Place) (names : Names)
      → targets.tuple ≡ true → items v ≡ None → assign targets v at names ≡ raises TypeError at
  pub count : (targets : Targets) (v : Value) (vs : List Value) (at : Place) (names : Names)
      → targets.tuple ≡ true → items v ≡ Some vs → length targets.names ≢ length vs
      → assign targets v at names ≡ raises ValueError at

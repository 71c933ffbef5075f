-- Arms of an `if`, from what their tests and suites do.
use Rattle.std.proofs.Common.{◌≡◌, ℕ, ◌+◌, ◌<◌, ◌≤◌, suc, length, map, drop, get_or, add-one, drop-cons, List, true, false, refl, sym, ap, ◌∙◌, Ok, Err}
use Rattle.std.proofs.lemmas.List.{drop_all}
use Rattle.pyd_value.specs.declared.value.Value.{Value}
use Rattle.pyd_value.specs.declared.fault.Fault.{Fault}
use Rattle.pyd_value.specs.Truth.{is_true}
use Rattle.pyd_tree.specs.declared.statement.Arm.{Arm, out-Arm}
use Rattle.pyd_meaning.specs.Names.{Names}
use Rattle.pyd_meaning.specs.Setting.{Setting, place_of}
use Rattle.pyd_meaning.specs.Expression.{meaning_of, branch}
use Rattle.pyd_meaning.specs.Completion.{Action}
use Rattle.pyd_meaning.specs.Statement.{arm_action, block_action, arms}
use Rattle.pyd_meaning.specs.Outcome.{outcome}
use Rattle.pyd_meaning.proofs.Sequencing.{outcome-ok, outcome-err}
use Rattle.pyd_meaning.proofs.Statements.{arm}

module _ (setting : Setting) (choices : List Arm) (last : Action) (i : ℕ) (names : Names) (old : List (List ℕ)) where
  -- no arm is left
  pub arms_done : length choices ≤ i
      → outcome old (arms (map (arm_action setting) (drop i choices)) last names) ≡ outcome old (last names)
  unfolding arms
  arms_done le = rw (drop_all i choices le) refl

  module _ (a : Arm) (mid : List (List ℕ)) (lt : i < length choices) (is : a ≡ get_or choices i a) where
    -- a test ends in a fault
    pub arms_fault : (f : Fault) → outcome old (meaning_of setting (out-Arm a).test (place_of (out-Arm a).line) names) ≡ (mid, Err f)
        → outcome old (arms (map (arm_action setting) (drop i choices)) last names) ≡ (mid, Err f)
    unfolding arms
    arms_fault f h = rw (drop-cons choices i a lt, ← is, arm) (outcome-err old mid _ _ f h)

    -- a test is false
    pub arms_next : (v : Value) → outcome old (meaning_of setting (out-Arm a).test (place_of (out-Arm a).line) names) ≡ (mid, Ok v)
        → is_true v ≡ false
        → outcome old (arms (map (arm_action setting) (drop i choices)) last names)
        ≡ outcome mid (arms (map (arm_action setting) (drop (i + 1) choices)) last names)
    unfolding arms
    arms_next v h isnt =
        rw (drop-cons choices i a lt, ← is, arm) (outcome-ok old mid _ _ v h)
        ∙ ap (λ b. outcome mid (branch b (block_action setting (out-Arm a).body) (arms (map (arm_action setting) (drop (suc i) choices)) last) names)) isnt
        ∙ ap (λ n. outcome mid (arms (map (arm_action setting) (drop n choices)) last names)) (sym (add-one i))

    -- a test is true
    pub arms_taken : (v : Value) → outcome old (meaning_of setting (out-Arm a).test (place_of (out-Arm a).line) names) ≡ (mid, Ok v)
        → is_true v ≡ true
        → outcome old (arms (map (arm_action setting) (drop i choices)) last names) ≡ outcome mid (block_action setting (out-Arm a).body names)
    unfolding arms
    arms_taken v h holds =
        rw (drop-cons choices i a lt, ← is, arm) (outcome-ok old mid _ _ v h)
        ∙ ap (λ b. outcome mid (branch b (block_action setting (out-Arm a).body) (arms (map (arm_action setting) (drop (suc i) choices)) last) names)) holds

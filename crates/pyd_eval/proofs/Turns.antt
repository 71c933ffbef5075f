-- Turns of loops, from what their tests, targets and suites do.
use Rattle.std.proofs.Common.{◌≡◌, ℕ, zero, suc, ◌+◌, ◌-◌, List, true, false, Option, Some, None, refl, sym, ap, ◌∙◌, Ok, Err, arith}
use Rattle.pyd_value.specs.declared.value.Value.{Value}
use Rattle.pyd_value.specs.declared.fault.Fault.{Fault}
use Rattle.pyd_value.specs.declared.fault.Fault.TheVariants.{Limit as Exceeds}
use Rattle.pyd_value.specs.declared.fault.Limit.TheVariants.{Turn}
use Rattle.pyd_value.specs.Truth.{is_true}
use Rattle.pyd_tree.specs.declared.statement.Targets.{Targets}
use Rattle.pyd_meaning.specs.Evaluation.{Evaluation, gives, ◌>>=◌}
use Rattle.pyd_meaning.specs.Names.{Names}
use Rattle.pyd_meaning.specs.Setting.{Place}
use Rattle.pyd_meaning.specs.Expression.{Meaning}
use Rattle.pyd_meaning.specs.Assignment.{assign}
use Rattle.pyd_meaning.specs.Completion as meaning
use Rattle.pyd_meaning.specs.Completion.{Action, left, normally, after_turn}
use Rattle.pyd_meaning.specs.Loops.{Items, turned, while_from, while_loop, for_from}
use Rattle.pyd_meaning.specs.Outcome.{outcome}
use Rattle.pyd_meaning.proofs.Sequencing.{outcome-step, outcome-settled, outcome-ok, outcome-err, then-then}
use Rattle.pyd_meaning.proofs.Loops.{while_turns, for_turns}
use Rattle.pyd_eval.specs.declared.completion.Completion.{Completion}
use Rattle.pyd_eval.specs.declared.completion.Completion.TheVariants.{Normal, Break, Continue, Return}
use Rattle.pyd_eval.specs.Left.{completion_of, exit_of}

-- a turn that leaves its loop
pub turn_exits : (how exit : Completion) (names : Names) (next : Action) → exit_of how ≡ Some exit
    → after_turn (completion_of how) names next ≡ gives (left (completion_of exit) names)
turn_exits Normal exit names next is = cc
turn_exits Continue exit names next is = cc
turn_exits Break exit names next is = let e : Normal ≡ exit = cc in ap (λ x. gives (left (completion_of x) names)) e
turn_exits (Return v) exit names next is = let e : Return v ≡ exit = cc in ap (λ x. gives (left (completion_of x) names)) e

-- a turn after which the loop goes on
pub turn_goes_on : (how : Completion) (names : Names) (next : Action) → exit_of how ≡ None
    → after_turn (completion_of how) names next ≡ next names
turn_goes_on Normal names next is = refl
turn_goes_on Continue names next is = refl
turn_goes_on Break names next is = cc
turn_goes_on (Return v) names next is = cc

module _ (at : Place) (test : Meaning) (body : Action) (names : Names) (old mid : List (List ℕ)) where
  -- the test of a `while` ends in a fault
  pub while_fault : (turns : ℕ) (f : Fault) → outcome old (test at names) ≡ (mid, Err f)
      → outcome old (while_loop turns at test body names) ≡ (mid, Err f)
  while_fault turns f h = outcome-err old mid _ _ f h

  -- it is false
  pub while_over : (turns : ℕ) (v : Value) → outcome old (test at names) ≡ (mid, Ok v) → is_true v ≡ false
      → outcome old (while_loop turns at test body names) ≡ (mid, Ok (normally names))
  while_over turns v h is =
      outcome-ok old mid _ _ v h ∙ ap (outcome mid) (while_turns.over turns at test body v names is) ∙ outcome-settled mid _

  -- it is true, and no turn is left
  pub while_limit : (turns : ℕ) (v : Value) → turns ≡ 0 → outcome old (test at names) ≡ (mid, Ok v) → is_true v ≡ true
      → outcome old (while_loop turns at test body names) ≡ (mid, Err (Exceeds Turn at.line))
  while_limit zero v none h is =
      outcome-ok old mid _ _ v h ∙ ap (outcome mid) (while_turns.limit at test body v names is) ∙ outcome-step mid _ ∙ outcome-settled mid _
  while_limit (suc turns) v none h is = absurd (omega arith)

  module _ (new : List (List ℕ)) where
    -- the suite is done
    pub while_more : (turns : ℕ) (v : Value) (names' : Names) (how : meaning.Completion) → (turns ≡ 0 → ⊥)
        → outcome old (test at names) ≡ (mid, Ok v) → is_true v ≡ true → outcome mid (body names) ≡ (new, Ok (left how names'))
        → outcome old (while_loop turns at test body names) ≡ outcome new (after_turn how names' (while_loop (turns - 1) at test body))
    while_more zero v names' how some h is b = absurd (some refl)
    while_more (suc turns) v names' how some h is b =
        let e : suc turns - 1 ≡ turns = omega arith in
        outcome-ok old mid _ _ v h ∙ ap (outcome mid) (while_turns.turn turns at test body v names is) ∙ outcome-step mid _
        ∙ outcome-ok mid new _ _ (left how names') b
        ∙ ap (λ n. outcome new (after_turn how names' (while_loop n at test body))) (sym e)

    -- the suite ends in a fault
    pub while_stops : (turns : ℕ) (v : Value) (f : Fault) → (turns ≡ 0 → ⊥)
        → outcome old (test at names) ≡ (mid, Ok v) → is_true v ≡ true → outcome mid (body names) ≡ (new, Err f)
        → outcome old (while_loop turns at test body names) ≡ (new, Err f)
    while_stops zero v f some h is b = absurd (some refl)
    while_stops (suc turns) v f some h is b =
        outcome-ok old mid _ _ v h ∙ ap (outcome mid) (while_turns.turn turns at test body v names is) ∙ outcome-step mid _
        ∙ outcome-err mid new _ _ f b

module _ (at : Place) (targets : Targets) (body : Action) (item : Items) (t : ℕ) (names : Names) (old : List (List ℕ)) where
  -- a `for` has no item
  pub for_over : (turns : ℕ) → item t ≡ None
      → outcome old (for_from turns at targets body item t names) ≡ (old, Ok (normally names))
  for_over turns none = ap (outcome old) (for_turns.over turns at targets body item t names none) ∙ outcome-settled old _

  -- it has one, and no turn is left
  pub for_limit : (turns : ℕ) (v : Value) → turns ≡ 0 → item t ≡ Some v
      → outcome old (for_from turns at targets body item t names) ≡ (old, Err (Exceeds Turn at.line))
  for_limit zero v none some =
      ap (outcome old) (for_turns.limit at targets body item t v names some) ∙ outcome-step old _ ∙ outcome-settled old _
  for_limit (suc turns) v none some = absurd (omega arith)

  -- the targets and the suite, and then what the turn leads to
  turn_is : (turns : ℕ) (v : Value) → item t ≡ Some v
      → outcome old (for_from (suc turns) at targets body item t names)
      ≡ outcome old ((assign targets v at names >>= body) >>= (λ r. after_turn r.completion r.names (for_from turns at targets body item (suc t))))
  turn_is turns v some =
      ap (outcome old) (for_turns.turn turns at targets body item t v names some) ∙ outcome-step old _
      ∙ ap (outcome old) (sym (then-then (assign targets v at names) body (λ r. after_turn r.completion r.names (for_from turns at targets body item (suc t)))))

  module _ (new : List (List ℕ)) where
    -- a turn is done
    pub for_more : (turns : ℕ) (v : Value) (names' : Names) (how : meaning.Completion) → (turns ≡ 0 → ⊥) → item t ≡ Some v
        → outcome old (assign targets v at names >>= body) ≡ (new, Ok (left how names'))
        → outcome old (for_from turns at targets body item t names)
        ≡ outcome new (after_turn how names' (for_from (turns - 1) at targets body item (suc t)))
    for_more zero v names' how some there h = absurd (some refl)
    for_more (suc turns) v names' how some there h =
        let e : suc turns - 1 ≡ turns = omega arith in
        turn_is turns v there ∙ outcome-ok old new _ _ (left how names') h
        ∙ ap (λ n. outcome new (after_turn how names' (for_from n at targets body item (suc t)))) (sym e)

    -- a turn ends in a fault
    pub for_stops : (turns : ℕ) (v : Value) (f : Fault) → (turns ≡ 0 → ⊥) → item t ≡ Some v
        → outcome old (assign targets v at names >>= body) ≡ (new, Err f)
        → outcome old (for_from turns at targets body item t names) ≡ (new, Err f)
    for_stops zero v f some there h = absurd (some refl)
    for_stops (suc turns) v f some there h = turn_is turns v there ∙ outcome-err old new _ _ f h

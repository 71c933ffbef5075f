-- Turns of a `for` counted from the first, from what their targets and suites do.
use Rattle.std.proofs.Common.{◌≡◌, ℕ, zero, suc, ◌+◌, ◌-◌, ◌*◌, ◌<◌, ◌≤◌, ℤ, pos, negsuc, ◌+ℤ◌, ◌*ℤ◌, nat_lt, int_lt, to_z, of_z, List, Bool, true, false, ◌&&◌, Option, Some, None, refl, sym, ap, ◌∙◌, Ok, Err, arith}
use Rattle.std.specs.Bool.{then_some}
use Rattle.std.specs.Int.{w128}
use Rattle.std.proofs.lemmas.Int.{ints, to_z-of_z}
use Rattle.std.proofs.Math.IntN.{pos-*ℤ-negsuc}
use Rattle.pyd_value.specs.declared.value.Value.{Value, Int}
use Rattle.pyd_value.specs.declared.fault.Fault.{Fault}
use Rattle.pyd_value.specs.declared.fault.Fault.TheVariants.{Limit as Exceeds, Raised}
use Rattle.pyd_value.specs.declared.fault.Kind.TheVariants.{TypeError}
use Rattle.pyd_value.specs.declared.fault.Limit.TheVariants.{Turn}
use Rattle.pyd_tree.specs.declared.statement.Targets.{Targets}
use Rattle.pyd_ops.specs.declared.ranges.Span.{Span}
use Rattle.pyd_ops.specs.Integer.{is_within}
use Rattle.pyd_ops.specs.Ranges.{number_at}
use Rattle.pyd_ops.proofs.Limits.{below_when, within_fits}
use Rattle.pyd_meaning.specs.Evaluation.{◌>>=◌}
use Rattle.pyd_meaning.specs.Names.{Names}
use Rattle.pyd_meaning.specs.Setting.{Place}
use Rattle.pyd_meaning.specs.Assignment.{assign}
use Rattle.pyd_meaning.specs.Completion.{Action, left}
use Rattle.pyd_meaning.specs.Loops.{Items, for_from, for_items, for_loop, items_over, is_range, numbers}
use Rattle.pyd_meaning.specs.Outcome.{outcome}
use Rattle.pyd_meaning.proofs.Sequencing.{outcome-settled}
use Rattle.pyd_meaning.proofs.Loops.{for_turns}
use Rattle.pyd_meaning.proofs.Ranges.{range}
use Rattle.pyd_eval.specs.declared.completion.Completion.{Completion}
use Rattle.pyd_eval.specs.Left.{completion_of, exit_of}
use Rattle.pyd_eval.proofs.Turns.{for_limit, for_more, for_stops, turn_exits, turn_goes_on}

module _ (at : Place) (targets : Targets) (body : Action) (item : Items) (t all : ℕ) (names : Names) (old : List (List ℕ)) where
  -- all turns are used up
  pub round_limit : (v : Value) → t ≡ all → item t ≡ Some v
      → outcome old (for_from (all - t) at targets body item t names) ≡ (old, Err (Exceeds Turn at.line))
  round_limit v e there = for_limit at targets body item t names old (all - t) v (omega (arith, e)) there

  module _ (new : List (List ℕ)) (v : Value) (le : t ≤ all) (ne : t ≡ all → ⊥) (there : item t ≡ Some v) where
    some_left : all - t ≡ 0 → ⊥
    some_left e = ne (omega (arith, e, le))

    -- a turn ends in a fault
    pub round_stops : (f : Fault) → outcome old (assign targets v at names >>= body) ≡ (new, Err f)
        → outcome old (for_from (all - t) at targets body item t names) ≡ (new, Err f)
    round_stops f h = for_stops at targets body item t names old new (all - t) v f some_left there h

    module _ (names' : Names) (how : Completion) (h : outcome old (assign targets v at names >>= body) ≡ (new, Ok (left (completion_of how) names'))) where
      -- a turn leaves the loop
      pub round_exits : (exit : Completion) → exit_of how ≡ Some exit
          → outcome old (for_from (all - t) at targets body item t names) ≡ (new, Ok (left (completion_of exit) names'))
      round_exits exit is =
          for_more at targets body item t names old new (all - t) v names' (completion_of how) some_left there h
          ∙ ap (outcome new) (turn_exits how exit names' (for_from (all - t - 1) at targets body item (suc t)) is) ∙ outcome-settled new _

      -- a turn is done, and the next one begins
      pub round_more : exit_of how ≡ None
          → outcome old (for_from (all - t) at targets body item t names) ≡ outcome new (for_from (all - (t + 1)) at targets body item (t + 1) names')
      round_more is =
          let e : all - t - 1 ≡ all - (t + 1) = omega arith in
          let n : suc t ≡ t + 1 = omega arith in
          for_more at targets body item t names old new (all - t) v names' (completion_of how) some_left there h
          ∙ ap (outcome new) (turn_goes_on how names' (for_from (all - t - 1) at targets body item (suc t)) is)
          ∙ ap (λ k. outcome new (for_from k at targets body item (suc t) names')) e
          ∙ ap (λ k. outcome new (for_from (all - (t + 1)) at targets body item k names')) n

module _ (turns : ℕ) (at : Place) (targets : Targets) (body : Action) (ranged : Bool) (over : Value) (names : Names) where
  -- what has items
  pub loop_over : (item : Items) → items_over ranged over ≡ Some item
      → for_loop turns at targets body ranged over 0 names ≡ for_from turns at targets body item 0 names
  loop_over item is =
      let e : turns - 0 ≡ turns = omega arith in
      ap (λ o. for_items (turns - 0) at targets body o 0 names) is ∙ ap (λ n. for_from n at targets body item 0 names) e

  -- what has none
  pub loop_nothing : (old : List (List ℕ)) → items_over ranged over ≡ None
      → outcome old (for_loop turns at targets body ranged over 0 names) ≡ (old, Err (Raised TypeError at.line))
  loop_nothing old is = ap (outcome old) (for_turns.nothing turns at targets body ranged over 0 names is) ∙ outcome-settled old _

lt_pos : (t c : ℕ) → int_lt (pos t) (pos c) ≡ true → nat_lt t c ≡ true
lt_pos t c h = h

ge_pos : (t c : ℕ) → int_lt (pos t) (pos c) ≡ false → nat_lt t c ≡ false
ge_pos t c h = h

-- a number of a range is within the limits
pub number_within : (span : Span) (count : ℤ) (t : ℕ) → is_range span count ≡ true → int_lt (pos t) count ≡ true → is_within (number_at span t) ≡ true
number_within span (pos c) t is lt = ((range span c).0 is).1 t (below_when t c (lt_pos t c lt))
number_within span (negsuc c) t is lt = cc

-- and it is there
pub number_there : (span : Span) (count : ℤ) (t : ℕ) (n : ℤ) → int_lt (pos t) count ≡ true → n ≡ number_at span t → numbers span count t ≡ Some (Int n)
number_there span (pos c) t n lt e = ap (λ b. then_some b (Int (number_at span t))) (lt_pos t c lt) ∙ ap (λ z. Some (Int z)) (sym e)
number_there span (negsuc c) t n lt e = cc

-- past the count there is none
pub number_past : (span : Span) (count : ℤ) (t : ℕ) → int_lt (pos t) count ≡ false → numbers span count t ≡ None
number_past span (pos c) t ge = ap (λ b. then_some b (Int (number_at span t))) (ge_pos t c ge)
number_past span (negsuc c) t ge = refl

-- the next number
next_at : (a s : ℤ) (t : ℕ) → a +ℤ (pos (t + 1) *ℤ s) ≡ (a +ℤ (pos t *ℤ s)) +ℤ s
next_at a (pos s) t = let e : (t + 1) * s ≡ t * s + s = omega arith in omega (arith, ints)
next_at a (negsuc s) t =
    let e : (t + 1) * suc s ≡ t * suc s + suc s = omega arith in
    let c = pos-*ℤ-negsuc t s in
    let d = pos-*ℤ-negsuc (t + 1) s in
    omega (arith, ints)

number_next : (span : Span) (t : ℕ) (n next : ℤ) → n ≡ number_at span t → (is_within (n +ℤ span.step) ≡ true → next ≡ n +ℤ span.step)
    → is_within (number_at span (t + 1)) ≡ true → next ≡ number_at span (t + 1)
number_next span t n next e h w =
    let same : n +ℤ span.step ≡ number_at span (t + 1) = ap (λ z. z +ℤ span.step) e ∙ sym (next_at span.from span.step t) in
    h (ap is_within same ∙ w) ∙ same

-- the next number, as 128 bits hold it
pub number_held : (span : Span) (t : ℕ) (n next : ℤ) → n ≡ number_at span t → (is_within (n +ℤ span.step) ≡ true → next ≡ n +ℤ span.step)
    → is_within (number_at span (t + 1)) ≡ true → to_z w128 (of_z w128 next) ≡ number_at span (t + 1)
number_held span t n next e h w =
    ap (λ z. to_z w128 (of_z w128 z)) (number_next span t n next e h w)
    ∙ to_z-of_z w128 (number_at span (t + 1)) (within_fits (number_at span (t + 1)) w)

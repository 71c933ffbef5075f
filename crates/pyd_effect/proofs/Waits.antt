-- A print waits exactly where a value is absent.
use Rattle.std.proofs.Common.{◌≡◌, ℕ, zero, suc, ◌<◌, List, [], ◌∷◌, length, slice_index_or, Option, Some, None, option_map, Contains, ◌↔◌, refl, sym, ap, subst, ◌∙◌, arith}
use Rattle.pyd_value.specs.declared.value.Value.{Value}
use Rattle.pyd_value.specs.declared.fault.Outcome.{Outcome}
use Rattle.pyd_value.specs.declared.fault.Outcome.TheVariants as outcome
use Rattle.pyd_meaning.specs.declared.ran.Ran.{Ran}
use Rattle.pyd_ir.specs.Inputs.{both}
use Rattle.pyd_effect.specs.declared.settled.Settled.{Settled}
use Rattle.pyd_effect.specs.declared.settled.Settled.TheVariants.{Waits}
use Rattle.pyd_effect.specs.Settling.{all_there, settled, settled_or_waits}
use Rattle.pyd_effect.specs.Waiting.{WaitsFor}

-- what gave something doesn't wait
settled-moves : (id : ℕ) (lines : List (List ℕ)) (o : Outcome) → settled lines o ≡ Waits id → ⊥
settled-moves id lines (outcome.Ok v) e = let k : ⊥ = cc in k
settled-moves id lines (outcome.Fault f) e = let k : ⊥ = cc in k

moves : (id : ℕ) (ran : Option Ran) → settled_or_waits id ran ≡ Waits id → ran ≡ None
moves id (Some ran) e = absurd (settled-moves id ran.lines ran.outcome e)
moves id None e = refl

-- nothing comes of nothing alone
mapped-none : {A B : Type 0} (f : A → B) (o : Option A) → option_map f o ≡ None → o ≡ None
mapped-none f None e = refl
mapped-none f (Some a) e = cc

-- where not all are there one is absent
both-none : (v : Value) (o : Option (List Value)) → both (Some v) o ≡ None → o ≡ None
both-none v None e = refl
both-none v (Some vs) e = cc

behind : (o : Option Value) (os : List (Option Value)) → Contains os None → Contains (o ∷ os) None
behind o os (k, within, is) = (suc k, omega (arith, within), is)

absent : (os : List (Option Value)) → all_there os ≡ None → Contains os None
absent [] e = cc
absent (None ∷ os) e = (0, omega arith, refl)
absent (Some v ∷ os) e = behind (Some v) os (absent os (both-none v (all_there os) e))

-- and the other way round
not_all : (os : List (Option Value)) (k : ℕ) → k < length os → slice_index_or os k None ≡ None
    → all_there os ≡ None
not_all [] k within e = absurd (omega (arith, within))
not_all (None ∷ os) k within e = refl
not_all (Some v ∷ os) zero within e = cc
not_all (Some v ∷ os) (suc k) within e = ap (both (Some v)) (not_all os k (omega (arith, within)) e)

-- what is settled of a print
pub prints_wait : (id : ℕ) (inputs : List (Option Value)) (print : List Value → Ran) (s : Settled)
    → s ≡ settled_or_waits id (option_map print (all_there inputs))
    → WaitsFor id s ↔ Contains inputs None
prints_wait id inputs print s is = (
  λ e. absent inputs (mapped-none print (all_there inputs) (moves id _ (sym is ∙ e))),
  λ c. is ∙ ap (λ o. settled_or_waits id (option_map print o)) (not_all inputs c.0 c.1 c.2),
)

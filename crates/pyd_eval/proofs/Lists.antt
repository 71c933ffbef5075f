-- Expressions evaluated one after another, and slots that hold their values.
use Rattle.std.proofs.Common.{◌≡◌, ℕ, ◌+◌, ◌<◌, ◌≤◌, List, [], ◌∷◌, ◌++◌, map, drop, length, get_or, Option, Some, None, refl, sym, ap, ◌∙◌, Ok, Err, add-one, drop-cons}
use Rattle.std.proofs.lemmas.List.{drop_all}
use Rattle.pyd_value.specs.declared.value.Value.{Value}
use Rattle.pyd_value.specs.declared.fault.Fault.{Fault}
use Rattle.pyd_meaning.specs.Outcome.{outcome, each_after}
use Rattle.pyd_meaning.specs.Names.{Names}
use Rattle.pyd_meaning.specs.Setting.{Place}
use Rattle.pyd_meaning.specs.Expression.{Meaning, each}
use Rattle.pyd_meaning.proofs.Sequencing.{outcome-ok, outcome-err, outcome-settled, each_after-none, each_after-more, each_after-start}
use Rattle.pyd_eval.specs.Passed.{values_in}

-- all of them, of which none was evaluated
pub each-start : (es : List Meaning) (at : Place) (names : Names) (before : List (List ℕ))
    → outcome before (each_after [] es at names) ≡ outcome before (each es at names)
each-start es at names before = ap (outcome before) (each_after-start es at names)

-- those that are left
module _ {E : Type 0} (m : E → Meaning) (es : List E) (i : ℕ) (done : List Value) (at : Place) (names : Names) (before : List (List ℕ)) where
  pub each-done : length es ≤ i
      → outcome before (each_after done (map m (drop i es)) at names) ≡ (before, Ok done)
  each-done over =
      rw (drop_all i es over) (ap (outcome before) (each_after-none done at names) ∙ outcome-settled before (Ok done))

  -- the next of them
  module _ (e : E) (mid : List (List ℕ)) (some : i < length es) (is : e ≡ get_or es i e) where
    pub each-more : (v : Value) → outcome before (m e at names) ≡ (mid, Ok v)
        → outcome before (each_after done (map m (drop i es)) at names)
        ≡ outcome mid (each_after (done ++ v ∷ []) (map m (drop (i + 1) es)) at names)
    each-more v item =
        rw (add-one, drop-cons es i e some, ← is)
        (ap (outcome before) (each_after-more done (m e) _ at names) ∙ outcome-ok before mid _ _ v item)

    pub each-fault : (f : Fault) → outcome before (m e at names) ≡ (mid, Err f)
        → outcome before (each_after done (map m (drop i es)) at names) ≡ (mid, Err f)
    each-fault f item =
        rw (drop-cons es i e some, ← is)
        (ap (outcome before) (each_after-more done (m e) _ at names) ∙ outcome-err before mid _ _ f item)

-- the values of slots, and of one more that isn't empty
pub values_in-push : (slots : List (Option Value)) (v : Value) → values_in (slots ++ Some v ∷ []) ≡ values_in slots ++ v ∷ []
values_in-push [] v = refl
values_in-push (None ∷ slots) v = values_in-push slots v
values_in-push (Some w ∷ slots) v = ap (λ vs. w ∷ vs) (values_in-push slots v)

-- values in slots, none of which is empty, and one more
pub full-push : (slots : List (Option Value)) (v : Value) → slots ≡ map Some (values_in slots)
    → slots ++ Some v ∷ [] ≡ map Some (values_in (slots ++ Some v ∷ []))
full-push slots v full =
    ap (λ s. s ++ Some v ∷ []) full ∙ map-push (values_in slots) v ∙ ap (map Some) (sym (values_in-push slots v))
  where
    map-push : (vs : List Value) (v : Value) → map Some vs ++ Some v ∷ [] ≡ map Some (vs ++ v ∷ [])
    map-push [] v = refl
    map-push (w ∷ vs) v = ap (λ s. Some w ∷ s) (map-push vs v)

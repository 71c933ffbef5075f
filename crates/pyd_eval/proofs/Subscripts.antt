-- What is left of the brackets behind a value.
use Rattle.std.proofs.Common.{◌≡◌, ℕ, ◌+◌, ◌<◌, ◌≤◌, List, [], ◌∷◌, map, drop, length, get_or, refl, sym, ap, ◌∙◌, Ok, Err, add-one, drop-cons}
use Rattle.std.proofs.lemmas.List.{drop_all}
use Rattle.pyd_value.specs.declared.value.Value.{Value}
use Rattle.pyd_value.specs.declared.fault.Fault.{Fault}
use Rattle.pyd_meaning.specs.Outcome.{outcome}
use Rattle.pyd_meaning.specs.Names.{Names}
use Rattle.pyd_meaning.specs.Setting.{Place}
use Rattle.pyd_meaning.specs.Expression.{SuffixMeaning, suffixed}
use Rattle.pyd_meaning.proofs.Sequencing.{outcome-ok, outcome-err, outcome-settled}

-- the brackets behind a value, of which some are left
module _ {S : Type 0} (m : S → SuffixMeaning) (ss : List S) (i : ℕ) (a : Value) (at : Place) (names : Names) (before : List (List ℕ)) where
  pub suffixed-done : length ss ≤ i → outcome before (suffixed a (map m (drop i ss)) at names) ≡ (before, Ok a)
  unfolding suffixed
  suffixed-done over = rw (drop_all i ss over) (outcome-settled before (Ok a))

  -- the next of them
  module _ (s : S) (mid : List (List ℕ)) (some : i < length ss) (is : s ≡ get_or ss i s) where
    pub suffixed-more : (v : Value) → outcome before (m s a at names) ≡ (mid, Ok v)
        → outcome before (suffixed a (map m (drop i ss)) at names) ≡ outcome mid (suffixed v (map m (drop (i + 1) ss)) at names)
    unfolding suffixed
    suffixed-more v item = rw (add-one, drop-cons ss i s some, ← is) (outcome-ok before mid _ _ v item)

    pub suffixed-fault : (f : Fault) → outcome before (m s a at names) ≡ (mid, Err f)
        → outcome before (suffixed a (map m (drop i ss)) at names) ≡ (mid, Err f)
    unfolding suffixed
    suffixed-fault f item = rw (drop-cons ss i s some, ← is) (outcome-err before mid _ _ f item)

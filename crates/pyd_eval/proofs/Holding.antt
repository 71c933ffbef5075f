-- Names that have slots: parts of what is bound, and slots of the same number.
use Rattle.std.proofs.Common.{◌≡◌, ℕ, zero, suc, ◌<◌, List, [], ◌∷◌, ◌++◌, length, get_or, Bool, true, false, ◌&&◌, refl, sym, ap, ◌∙◌, subst, arith}
use Rattle.std.specs.List.{list_all, flat_map}
use Rattle.std.proofs.lemmas.List.Folds.{list_all-append, list_all-map}
use Rattle.pyd_value.specs.declared.value.Value.{Value}
use Rattle.std.specs.Prelude.{Option}
use Rattle.pyd_names.specs.declared.binding.Binding.{Binding}
use Rattle.pyd_names.specs.Binding.{names_of, is_among}
use Rattle.pyd_eval.specs.declared.activation.Activation.{Activation}
use Rattle.pyd_eval.specs.Frames.{slot_names, have_slots, Holds}

-- both of two tests
both : (p q : Bool) → p && q ≡ true → (p ≡ true) × (q ≡ true)
both true true h = (refl, refl)
both true false h = cc
both false q h = cc

-- a test that two lists end to end pass, each passes
all_both : {A : Type 0} (p : A → Bool) (xs ys : List A) → list_all p (xs ++ ys) ≡ true → (list_all p xs ≡ true) × (list_all p ys ≡ true)
all_both p xs ys h = both (list_all p xs) (list_all p ys) (sym (list_all-append p xs ys) ∙ h)

-- of lists that are laid end to end, each passes
all_member : {A B : Type 0} (p : B → Bool) (f : A → List B) (xs : List A) (i : ℕ) (x : A)
    → i < length xs → x ≡ get_or xs i x → list_all p (flat_map f xs) ≡ true → list_all p (f x) ≡ true
all_member p f [] i x lt is h = absurd (omega arith)
all_member p f (y ∷ ys) zero x lt is h = subst (λ z. list_all p (f z) ≡ true) (sym is) (all_both p (f y) (flat_map f ys) h).0
all_member p f (y ∷ ys) (suc i) x lt is h = all_member p f ys i x (omega arith) is (all_both p (f y) (flat_map f ys) h).1

-- the names of bindings pass as the bindings do
names_pass : (on : Activation) (bs : List Binding) → have_slots on (names_of bs) ≡ list_all (λ b. is_among (slot_names on) b.name) bs
names_pass on bs = list_all-map (is_among (slot_names on)) (λ b. b.name) bs

module _ (on : Activation) (slots : List (Option Value)) where
  -- of names that are there, others may be as many
  pub holds_kept : (slots' : List (Option Value)) (names : List (List ℕ)) → length slots' ≡ length slots
      → Holds on slots names → Holds on slots' names
  holds_kept slots' names same h = record { enough = omega (arith, h.enough, same); named = h.named }

  -- the names of the first of two lists of bindings
  pub holds_first : (bs cs : List Binding) → Holds on slots (names_of (bs ++ cs)) → Holds on slots (names_of bs)
  holds_first bs cs h =
      record { enough = h.enough; named = names_pass on bs ∙ (all_both _ bs cs (sym (names_pass on (bs ++ cs)) ∙ h.named)).0 }

  -- the names of the second
  pub holds_second : (bs cs : List Binding) → Holds on slots (names_of (bs ++ cs)) → Holds on slots (names_of cs)
  holds_second bs cs h =
      record { enough = h.enough; named = names_pass on cs ∙ (all_both _ bs cs (sym (names_pass on (bs ++ cs)) ∙ h.named)).1 }

  -- the names of one of many parts
  pub holds_member : {A : Type 0} (f : A → List Binding) (xs : List A) (i : ℕ) (x : A) → i < length xs → x ≡ get_or xs i x
      → Holds on slots (names_of (flat_map f xs)) → Holds on slots (names_of (f x))
  holds_member f xs i x lt is h =
      record { enough = h.enough; named = names_pass on (f x) ∙ all_member _ f xs i x lt is (sym (names_pass on (flat_map f xs)) ∙ h.named) }

  -- the same names in other words
  pub holds_as : (names names' : List (List ℕ)) → names ≡ names' → Holds on slots names → Holds on slots names'
  holds_as names names' same h = subst (Holds on slots) same h

-- a test that all pass, each passes
all_one : {A : Type 0} (p : A → Bool) (xs : List A) (i : ℕ) (x : A) → i < length xs → x ≡ get_or xs i x → list_all p xs ≡ true → p x && true ≡ true
all_one p [] i x lt is h = absurd (omega arith)
all_one p (y ∷ ys) zero x lt is h = ap (λ b. b && true) (ap p is ∙ (both (p y) (list_all p ys) h).0)
all_one p (y ∷ ys) (suc i) x lt is h = all_one p ys i x (omega arith) is (both (p y) (list_all p ys) h).1

-- one of the names
pub holds_name : (on : Activation) (slots slots' : List (Option Value)) (names : List (List ℕ)) (i : ℕ) (x : List ℕ)
    → length slots' ≡ length slots → i < length names → x ≡ get_or names i x → Holds on slots names → Holds on slots' (x ∷ [])
holds_name on slots slots' names i x same lt is h =
    let e = h.enough in
    record { enough = omega (arith, e, same); named = all_one (is_among (slot_names on)) names i x lt is h.named }

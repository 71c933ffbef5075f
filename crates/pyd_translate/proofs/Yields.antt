-- What holds of each value that an evaluation gives.
use Rattle.std.proofs.Common.{◌≡◌, ℕ, List, refl, ap, subst, Result, Ok, Err}
use Rattle.pyd_value.specs.declared.fault.Fault.{Fault}
use Rattle.pyd_meaning.specs.Evaluation.{Evaluation, settled, gives, faults, step, go_on, ◌>>=◌}

-- P of each value given
abbrev pub Yields : {A : Type 0} → Evaluation A → (A → Type 0) → Type 0
Yields {A} m P = (x : A) → m.result ≡ Ok x → P x

value_in : {A : Type 0} → A → Result A Fault → A
value_in d (Ok x) = x
value_in d (Err f) = d

-- a value alone
pub yields-gives : {A : Type 0} (a : A) (P : A → Type 0) → P a → Yields (gives a) P
unfolding settled value_in
yields-gives a P p x e = subst P (ap (value_in a) e) p

-- a fault gives none
pub yields-faults : {A : Type 0} (f : Fault) (P : A → Type 0) → Yields (faults f) P
unfolding settled
yields-faults f P x e = absurd (cc e)

-- a step more
pub yields-step : {A : Type 0} (m : Evaluation A) (P : A → Type 0) → Yields m P → Yields (step m) P
unfolding step
yields-step m P p = p

go : {A B : Type 0} (lines : List (List ℕ)) (n : ℕ) (r : Result A Fault) (f : A → Evaluation B)
    (P : A → Type 0) (Q : B → Type 0) → ((x : A) → r ≡ Ok x → P x)
    → ((x : A) → P x → Yields (f x) Q) → (y : B) → (go_on lines n r f).result ≡ Ok y → Q y
go lines n (Ok x) f P Q p q y e = q x (p x refl) y e
go lines n (Err x) f P Q p q y e = absurd (cc e)

-- one evaluation and then the next
pub yields-then : {A B : Type 0} (m : Evaluation A) (f : A → Evaluation B) (P : A → Type 0)
    (Q : B → Type 0) → Yields m P → ((x : A) → P x → Yields (f x) Q) → Yields (m >>= f) Q
unfolding ◌>>=◌
yields-then m f P Q p q = go m.lines m.steps m.result f P Q p q

-- the same, whatever the first gives
pub yields-after : {A B : Type 0} (m : Evaluation A) (f : A → Evaluation B) (Q : B → Type 0)
    → ((x : A) → Yields (f x) Q) → Yields (m >>= f) Q
yields-after m f Q q = yields-then m f (λ x. Unit {0}) Q (λ x e. tt) (λ x t. q x)

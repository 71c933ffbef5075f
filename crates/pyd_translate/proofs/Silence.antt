-- What prints nothing, alone and one after another.
use Rattle.std.proofs.Common.{◌≡◌, ℕ, List, [], ◌++◌, refl, ap, ◌∙◌, Result, Ok, Err}
use Rattle.pyd_value.specs.declared.fault.Fault.{Fault}
use Rattle.pyd_meaning.specs.Evaluation.{Evaluation, settled, step, go_on, ◌>>=◌}

-- no line is printed
abbrev pub IsSilent : {A : Type 0} → Evaluation A → Type 0
IsSilent m = m.lines ≡ []

-- a result alone
pub silent-settled : {A : Type 0} (r : Result A Fault) → IsSilent (settled r)
unfolding settled
silent-settled r = refl

-- a step more
pub silent-step : {A : Type 0} (m : Evaluation A) → IsSilent m → IsSilent (step m)
unfolding step
silent-step m s = s

go : {A B : Type 0} (lines : List (List ℕ)) (n : ℕ) (r : Result A Fault) (f : A → Evaluation B)
    → lines ≡ [] → ((x : A) → IsSilent (f x)) → (go_on lines n r f).lines ≡ []
go lines n (Ok x) f l s = ap (λ ls. ls ++ (f x).lines) l ∙ s x
go lines n (Err e) f l s = l

-- one evaluation and then the next
pub silent-then : {A B : Type 0} (m : Evaluation A) (f : A → Evaluation B) → IsSilent m
    → ((x : A) → IsSilent (f x)) → IsSilent (m >>= f)
unfolding ◌>>=◌
silent-then m f s t = go m.lines m.steps m.result f s t

-- What an evaluation does, and how one follows another.
use Rattle.std.specs.Prelude.{ℕ, suc, ◌+◌, List, [], ◌∷◌, ◌++◌, Result, Ok, Err}
use Rattle.pyd_value.specs.declared.fault.Fault.{Fault}

-- the lines it prints, the value it gives or the fault that ends it, and its steps
pub record Evaluation (A : Type 0) : Type 0 where
  pub lines : List (List ℕ)
  pub result : Result A Fault
  pub steps : ℕ

-- a result alone
unfoldable pub settled : {A : Type 0} → Result A Fault → Evaluation A
settled r = record { lines = []; result = r; steps = 0 }

-- a value alone
abbrev pub gives : {A : Type 0} → A → Evaluation A
gives x = settled (Ok x)

-- a fault alone
abbrev pub faults : {A : Type 0} → Fault → Evaluation A
faults f = settled (Err f)

-- one line, and then a value
unfoldable pub prints : {A : Type 0} → List ℕ → A → Evaluation A
prints line x = record { lines = line ∷ []; result = Ok x; steps = 0 }

-- one step, and then the rest
unfoldable pub step : {A : Type 0} → Evaluation A → Evaluation A
step e = record { lines = e.lines; result = e.result; steps = suc e.steps }

-- what was done before comes first
abbrev pub after : {A : Type 0} → List (List ℕ) → ℕ → Evaluation A → Evaluation A
after lines steps e = record { lines = lines ++ e.lines; result = e.result; steps = steps + e.steps }

-- goes on with a value, and ends at a fault
abbrev pub go_on : {A B : Type 0} → List (List ℕ) → ℕ → Result A Fault → (A → Evaluation B) → Evaluation B
go_on lines steps (Ok x) next = after lines steps (next x)
go_on lines steps (Err f) next = record { lines = lines; result = Err f; steps = steps }

infixl 20 ◌>>=◌
-- one evaluation and then the next, on the value of the first
unfoldable pub ◌>>=◌ : {A B : Type 0} → Evaluation A → (A → Evaluation B) → Evaluation B
e >>= next = go_on e.lines e.steps e.result next

-- The names that are bound, with their values (Python Language Reference, 4.2, "Naming and binding").
use Rattle.std.specs.Prelude.{ℕ, List, [], ◌∷◌, Option, Some, None, if◌then◌else◌}
use Rattle.std.specs.Str.{bytes_eq}
use Rattle.pyd_value.specs.declared.value.Value.{Value}

-- the value of each name that is bound, and none for any other
abbrev pub Names : Type 0
Names = List ℕ → Option Value

-- no name is bound
abbrev pub no_names : Names
no_names name = None

-- one name is bound to a value, and all others are as before
abbrev pub bind : Names → List ℕ → Value → Names
bind names name v = λ other. if bytes_eq other name then Some v else names other

-- names are bound from the left, each to its value; none where there are more of one than of the other
abbrev pub bind_all : Names → List (List ℕ) → List Value → Option Names
bind_all names [] [] = Some names
bind_all names [] (v ∷ vs) = None
bind_all names (x ∷ xs) [] = None
bind_all names (x ∷ xs) (v ∷ vs) = bind_all (bind names x v) xs vs

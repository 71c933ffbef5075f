-- What a sum of characters or of numbers gives.
use Rattle.std.proofs.Common.{◌≡◌, ℕ, ◌≤◌, ℤ, List, [], ◌∷◌, map, length, Bool, true, false, Some, Result, refl, sym, ap, ◌∙◌, arith}
use Rattle.pyd_value.specs.declared.value.Value.{Value, Int}
use Rattle.pyd_value.specs.declared.fault.Fault.{Fault}
use Rattle.pyd_value.specs.declared.fault.Kind.TheVariants.{TypeError}
use Rattle.pyd_value.specs.declared.operator.BinOp.TheVariants.{Add}
use Rattle.pyd_value.specs.Shape.{Shape, number, text, tuple, nothing, shape_of, number_in, number_of}
use Rattle.pyd_value.proofs.Constructs.{shape_of-int, shape_of-text}
use Rattle.pyd_ops.specs.Answer.{raise}
use Rattle.pyd_ops.specs.Operators.{binary, add}
use Rattle.pyd_ops.specs.Sequence.{character}
use Rattle.pyd_ops.specs.Calls.{and_then, sum_items, sum_in, sum}

-- nothing is added to a character but a text
no_sum : (x : Shape Value) (start : Value) (c : ℕ) (vs : List Value) (line : ℕ) → shape_of start ≡ x
    → sum_in x start (Some (character c ∷ vs)) line ≡ raise TypeError line
no_sum x start c vs line e = by_shape x e
  where
    added : (x : Shape Value) → shape_of start ≡ x → binary Add start (character c) line ≡ add x (text (c ∷ [])) line
    added x e = ap (λ y. add y (shape_of (character c)) line) e ∙ ap (λ y. add x y line) (shape_of-text (c ∷ []))

    next : Value → Result Value Fault
    next v = sum_items v vs line

    by_shape : (x : Shape Value) → shape_of start ≡ x → sum_in x start (Some (character c ∷ vs)) line ≡ raise TypeError line
    by_shape (number n) e = ap (λ r. and_then r (λ v. sum_items v vs line)) (added (number n) e)
    by_shape (text s) e = refl
    by_shape (tuple xs) e = ap (λ r. and_then r (λ v. sum_items v vs line)) (added (tuple xs) e)
    by_shape nothing e = ap (λ r. and_then r (λ v. sum_items v vs line)) (added nothing e)

pub no_sum_of_characters : (start : Value) (s : List ℕ) (line : ℕ) (b : Bool) → (s ≡ [] → b ≡ true) → b ≡ false
    → sum start (Some (map character s)) line ≡ raise TypeError line
no_sum_of_characters start [] line b f e = absurd (let h = f refl in let k : ⊥ = cc in k)
no_sum_of_characters start (c ∷ s) line b f e = no_sum (shape_of start) start c (map character s) line refl

-- a sum begins with the number that its start is, whatever the start's type
shape_from_number : (x : Shape Value) (n : ℤ) → number_in x ≡ Some n → x ≡ number n
shape_from_number (number m) n e = let k : m ≡ n = cc in ap number k
shape_from_number (text s) n e = absurd (let k : ⊥ = cc in k)
shape_from_number (tuple xs) n e = absurd (let k : ⊥ = cc in k)
shape_from_number nothing n e = absurd (let k : ⊥ = cc in k)

pub sum_from_number : (start : Value) (n : ℤ) (xs : List Value) (line : ℕ) → 1 ≤ length xs → number_of start ≡ Some n
    → sum_items (Int n) xs line ≡ sum_items start xs line
sum_from_number start n [] line h e = absurd (none h)
  where
    none : 1 ≤ 0 → ⊥
    none h = omega arith
sum_from_number start n (x ∷ xs) line h e =
    ap (λ y. and_then (add y (shape_of x) line) (λ v. sum_items v xs line))
    (shape_of-int n ∙ sym (shape_from_number (shape_of start) n e))

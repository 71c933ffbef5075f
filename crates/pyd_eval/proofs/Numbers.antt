-- Chains of small numbers do what chains do.
use Rattle.std.proofs.Common.{◌≡◌, ℕ, ℤ, pos, negsuc, ◌+ℤ◌, ◌-ℤ◌, ◌*ℤ◌, ◌+◌, ◌<◌, ◌≤◌, List, map, drop, length, get_or, Option, Some, None, Ok, refl, sym, ap, ◌∙◌, arith, FitsSigned, SomeIff, IfSome}
use Rattle.std.specs.Prelude.{option_map}
use Rattle.std.specs.Int.{w64, w128}
use Rattle.pyd_value.specs.declared.value.Value.{Value, Int}
use Rattle.pyd_value.specs.declared.operator.BinOp.{BinOp}
use Rattle.pyd_value.specs.declared.operator.BinOp.TheVariants.{Add, Sub, Mul}
use Rattle.pyd_value.specs.Shape.{number, shape_of}
use Rattle.pyd_value.proofs.Constructs.{shape_of-int}
use Rattle.pyd_ops.specs.Integer.{integer, checked}
use Rattle.pyd_ops.specs.Operators.{add, multiply, on_numbers, binary}
use Rattle.pyd_ops.proofs.Limits.{some_within}
use Rattle.pyd_tree.specs.declared.expression.Expr.{Expr}
use Rattle.pyd_tree.specs.declared.expression.Expr.TheVariants as expression
use Rattle.pyd_meaning.specs.Evaluation.{settled}
use Rattle.pyd_meaning.specs.Setting.{place_of}
use Rattle.pyd_meaning.specs.Expression.{meaning_of}
use Rattle.pyd_meaning.specs.Reference.{read}
use Rattle.pyd_meaning.proofs.Expressions as law
use Rattle.pyd_meaning.proofs.Sequencing.{outcome-ok, outcome-step, outcome-settled}
use Rattle.pyd_eval.specs.declared.activation.Activation.{Activation}
use Rattle.pyd_eval.specs.declared.small.Number.{Number}
use Rattle.pyd_eval.specs.Frames.{setting, names_of}
use Rattle.pyd_eval.specs.Small.{IsNumber, IsAnswer, IsChain, Remains}
use Rattle.pyd_eval.proofs.Tails.{chained-more, chained-done}

-- what fits 64 bits fits 128
wider : (z : ℤ) → FitsSigned w64 z → FitsSigned w128 z
wider (pos n) h = record { sfits = omega (arith, h.sfits) }
wider (negsuc n) h = record { sfits = omega (arith, h.sfits) }

-- a number of 64 bits is an integer within the limits
fitted : (o : Option ℤ) (z : ℤ) (line : ℕ) → SomeIff o (FitsSigned w64 z) z → IfSome o (λ x. integer z line ≡ Ok (Int x))
fitted None z line h = tt
fitted (Some x) z line h =
    ap (λ w. checked w line) (some_within z (wider z h.0)) ∙ ap (λ y. Ok (Int y)) (sym h.1)

-- an operator whose answer is the integer that was checked
pub answered-number : (op : BinOp) (a b z : ℤ) (o : Option ℤ) (r : Option Number)
    → ((line : ℕ) → binary op (Int a) (Int b) line ≡ integer z line)
    → option_map (λ n. n.value) r ≡ o → SomeIff o (FitsSigned w64 z) z
    → IfSome r (λ n. IsAnswer op a b n.value)
answered-number op a b z o None same is fits = tt
answered-number op a b z None (Some n) same is fits = absurd cc
answered-number op a b z (Some x) (Some n) same is fits = λ line.
    let value : n.value ≡ x = cc in
    same line ∙ fitted (Some x) z line fits ∙ ap (λ y. Ok (Int y)) (sym value)

-- the sum of two integers
pub sum_of : (a b : ℤ) (line : ℕ) → binary Add (Int a) (Int b) line ≡ integer (a +ℤ b) line
sum_of a b line =
    ap (λ x. add x (shape_of (Int b)) line) (shape_of-int a) ∙ ap (λ x. add (number a) x line) (shape_of-int b)

-- their difference
pub difference_of : (a b : ℤ) (line : ℕ) → binary Sub (Int a) (Int b) line ≡ integer (a -ℤ b) line
difference_of a b line =
    ap (λ x. on_numbers Sub x (shape_of (Int b)) line) (shape_of-int a)
    ∙ ap (λ x. on_numbers Sub (number a) x line) (shape_of-int b)

-- their product
pub product_of : (a b : ℤ) (line : ℕ) → binary Mul (Int a) (Int b) line ≡ integer (a *ℤ b) line
product_of a b line =
    ap (λ x. multiply x (shape_of (Int b)) line) (shape_of-int a)
    ∙ ap (λ x. multiply (number a) x line) (shape_of-int b)

-- a literal, or a name, whose value is a number
module _ (on : Activation) (line : ℕ) (slots : List (Option Value)) (e : Expr) (v : Value) where
  pub literal-number : (r : Option Number) → e ≡ expression.Lit v → IfSome r (λ z. v ≡ Int z.value)
      → IfSome r (λ z. IsNumber on e line slots z.value)
  literal-number None is n = tt
  literal-number (Some z) is n = λ before. rw (is, law.literal, outcome-step, n) (outcome-settled before _)

  pub name-number : (name : List ℕ) (r : Option Number) → e ≡ expression.Name name
      → read (setting on) name (place_of line) (names_of on slots) ≡ settled (Ok v)
      → IfSome r (λ z. v ≡ Int z.value) → IfSome r (λ z. IsNumber on e line slots z.value)
  name-number name None is there n = tt
  name-number name (Some z) is there n = λ before.
      rw (is, law.name_read, outcome-step, there, n) (outcome-settled before _)

-- a chain from its first operand on
module _ (on : Activation) (first : Expr) (links : List (BinOp × Expr)) (line : ℕ) (slots : List (Option Value)) where
  pub chain-begins : (z : ℤ) → IsNumber on first line slots z → Remains on first links links line slots z
  chain-begins z is = λ before.
      sym (rw (law.chain, outcome-step) (outcome-ok before before _ _ (Int z) (is before)))

  pub chain-goes_on : (i : ℕ) (link : BinOp × Expr) (a b z : ℤ) → i < length links → link ≡ get_or links i link
      → IsNumber on link.1 line slots b → IsAnswer link.0 a b z
      → Remains on first links (drop i links) line slots a → Remains on first links (drop (i + 1) links) line slots z
  chain-goes_on i link a b z some is right value so = λ before.
      sym (chained-more (meaning_of (setting on)) links i (Int a) (place_of line) (names_of on slots) before link before some is (Int z)
      (outcome-ok before before _ _ (Int b) (right before) ∙ outcome-settled before _ ∙ ap (λ r. (before, r)) (value line)))
      ∙ so before

  pub chain-ends : (i : ℕ) (z : ℤ) → length links ≤ i → Remains on first links (drop i links) line slots z
      → IsChain on first links line slots z
  chain-ends i z over so = λ before.
      sym (so before) ∙ chained-done (meaning_of (setting on)) links i (Int z) (place_of line) (names_of on slots) before over

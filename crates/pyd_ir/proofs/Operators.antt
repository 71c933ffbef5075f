-- What operators give.
use Rattle.std.proofs.Common.{◌≡◌, ◌≢◌, ℕ, suc, List, [], ◌∷◌, length, cond, Some, Result, Ok, refl, ap, ◌∙◌}
use Rattle.std.proofs.lemmas.Bool.{ne_eqb, eq-eqb}
use Rattle.pyd_value.specs.declared.value.Value.{Value, Tuple}
use Rattle.pyd_value.specs.declared.fault.Fault.{Fault}
use Rattle.pyd_value.specs.declared.fault.Kind.TheVariants.{TypeError, ValueError}
use Rattle.pyd_value.proofs.Constructs.{shape_of-tuple}
use Rattle.pyd_ops.specs.Answer.{raise}
use Rattle.pyd_ops.specs.Operators.{unary, binary}
use Rattle.pyd_ops.specs.Sequence.{items_in, item_in}
use Rattle.pyd_ir.specs.Operation.{of_one, of_two, unpack, assert}
use Rattle.pyd_ir.specs.Laws.{OperatorLaw, SliceLaw, UnpackLaw, AssertLaw}

-- any other count of values than one
of_one-other : (f : Value → Result Value Fault) (vs : List Value) (line : ℕ)
    → length vs ≢ 1 → of_one f vs line ≡ raise TypeError line
of_one-other f [] line other = refl
of_one-other f (a ∷ []) line other = absurd (other refl)
of_one-other f (a ∷ b ∷ vs) line other = refl

-- any other count of values than two
of_two-other : (f : Value → Value → Result Value Fault) (vs : List Value) (line : ℕ)
    → length vs ≢ 2 → of_two f vs line ≡ raise TypeError line
of_two-other f [] line other = refl
of_two-other f (a ∷ vs) line other = of_one-other (f a) vs line (λ e. other (ap suc e))

-- as many items as are asked for
unpack-members : (xs : List Value) (line : ℕ) → unpack (length xs) (Some xs) line ≡ Ok (Tuple xs)
unpack-members xs line =
    ap (λ b. cond b (Ok (Tuple xs)) (raise ValueError line)) (eq-eqb (length xs) (length xs) refl)

-- more or fewer
unpack-other : (count : ℕ) (xs : List Value) (line : ℕ)
    → length xs ≢ count → unpack count (Some xs) line ≡ raise ValueError line
unpack-other count xs line other =
    ap (λ b. cond b (Ok (Tuple xs)) (raise ValueError line)) (ne_eqb (length xs) count other)

-- each operator
pub operators : OperatorLaw
operators = record {
  unary = λ op a line. refl;
  binary = λ op a b line. refl;
  compare = λ op a b line. refl;
  index = λ a i line. refl;
  tuple = λ vs line. refl;
  one_value = λ op vs line other. of_one-other (λ a. unary op a line) vs line other;
  two_values = λ op vs line other. of_two-other (λ a b. binary op a b line) vs line other;
}

-- slices
pub slices : SliceLaw
slices = record {
  whole = λ a line. refl;
  from = λ a low line. refl;
  to = λ a high line. refl;
  between = λ a low high line. refl;
}

-- unpacking
pub unpacking : UnpackLaw
unpacking = record {
  kind = λ count a line none. ap (λ xs. unpack count xs line) none;
  count = λ count a xs line some other. ap (λ xs. unpack count xs line) some ∙ unpack-other count xs line other;
  members = λ a xs line some. ap (λ o. unpack (length xs) o line) some ∙ unpack-members xs line;
  ports = λ count port args xs. ap (λ shape. item_in (items_in shape) port) (shape_of-tuple xs);
}

-- assertions
pub assertions : AssertLaw
assertions = record {
  passes = λ a line holds. ap (λ b. assert b line) holds;
  fails = λ a line fails. ap (λ b. assert b line) fails;
}

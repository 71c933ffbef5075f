-- The line of a `print`, as a text and as it is printed.
use Rattle.std.proofs.Common.{◌≡◌, ℕ, List, [], ◌∷◌, ◌++◌, Bool, true, false, cond, Result, Ok, Err, IfOk, inl, inr, ◌⊎◌, refl, sym, ap, ◌∙◌}
use Rattle.pyd_value.specs.declared.value.Value.{Value, Text, None}
use Rattle.pyd_value.specs.declared.fault.Fault.{Fault}
use Rattle.pyd_value.specs.declared.fault.Fault.TheVariants as limited
use Rattle.pyd_value.specs.declared.fault.Limit.TheVariants as limit
use Rattle.pyd_value.specs.declared.fault.Outcome.TheVariants as outcome
use Rattle.pyd_ops.specs.Answer.{exceed, outcome_of}
use Rattle.pyd_ops.specs.Joining.{fits}
use Rattle.pyd_value.specs.declared.fault.Outcome.{Outcome}
use Rattle.pyd_meaning.specs.Evaluation.{Evaluation, settled}
use Rattle.pyd_meaning.specs.Outcome.{outcome as printed_by}
use Rattle.pyd_meaning.proofs.Sequencing.{outcome-settled, outcome-prints}
use Rattle.pyd_eval.specs.Given.{Does}
use Rattle.pyd_value.specs.declared.memory.NoMemory.{NoMemory}
use Rattle.pyd_value.specs.declared.operator.Builtin.{Builtin}
use Rattle.pyd_value.specs.declared.operator.Builtin.TheVariants as builtin
use Rattle.pyd_ops.specs.Calls.{builtin as value_builtin}
use Rattle.pyd_ops.specs.Ranges.{range_of}
use Rattle.pyd_meaning.specs.Calls.{builtin_called, range_value, printed as prints_or_faults}
use Rattle.pyd_eval.specs.declared.got.Got.{Got}
use Rattle.pyd_eval.specs.Given.{seen}
use Rattle.pyd_text.specs.Calls.{text_builtin}
use Rattle.pyd_text.specs.Texts.{printed, line, line_of}

-- a fault of the text is the line's
pub line-faults : (vs : List Value) (at : ℕ) (f : Fault) → outcome.Fault f ≡ outcome_of (line_of vs at) → line vs at ≡ Err f
line-faults vs at f is =
    elim (fits (Text (printed vs))) as (λ b. outcome.Fault f ≡ outcome_of (cond b (Ok (Text (printed vs))) (exceed limit.Size at))
    → cond b (Ok (printed vs)) (exceed limit.Size at) ≡ Err f) [
      | true ↦ λ e. cc
      | false ↦ λ e. let g : f ≡ limited.Limit limit.Size at = cc in ap (λ (h : Fault). Err h) (sym g)
    ] is

-- a value or a fault that is handed out so
outcome-same : (a b : Result Value Fault) → outcome_of a ≡ outcome_of b → a ≡ b
outcome-same (Ok v) (Ok w) is = let e : v ≡ w = cc in ap (λ (x : Value). Ok x) e
outcome-same (Ok v) (Err f) is = cc
outcome-same (Err f) (Ok v) is = cc
outcome-same (Err f) (Err g) is = let e : f ≡ g = cc in ap (λ (x : Fault). Err x) e

-- a line that is put behind the others is printed
pub line-printed : (vs : List Value) (at : ℕ) (v : Value) (before new : List (List ℕ)) → outcome.Ok v ≡ outcome_of (line_of vs at)
    → ((t : List ℕ) → v ≡ Text t → new ≡ before ++ t ∷ []) → Does before (prints_or_faults (line vs at)) new (Ok None)
line-printed vs at v before new is put =
    elim (fits (Text (printed vs))) as (λ b. outcome.Ok v ≡ outcome_of (cond b (Ok (Text (printed vs))) (exceed limit.Size at))
    → Does before (prints_or_faults (cond b (Ok (printed vs)) (exceed limit.Size at))) new (Ok None)) [
      | true ↦ λ e. let t : v ≡ Text (printed vs) = cc in outcome-prints before (printed vs) None ∙ ap (λ lines. (lines, Ok None)) (sym (put (printed vs) t))
      | false ↦ λ e. cc
    ] is

-- what prints nothing, from the outcome that was handed out
pub settles : (before : List (List ℕ)) (e : Evaluation Value) (a b : Result Value Fault) (o : Outcome)
    → e ≡ settled b → outcome_of a ≡ o → o ≡ outcome_of b → Does before e before a
settles before e a b o is given was =
    ap (printed_by before) is ∙ outcome-settled before b ∙ ap (λ r. (before, r)) (outcome-same b a (sym (given ∙ was)))

-- what the builtins that make texts do
pub texts-settled : (which : Builtin) (vs : List Value) (at : ℕ) → (which ≡ builtin.Str) ⊎ ((which ≡ builtin.Repr) ⊎ (which ≡ builtin.Int))
    → builtin_called which vs at ≡ settled (text_builtin which vs at)
texts-settled which vs at (inl is) = rw is refl
texts-settled which vs at (inr (inl is)) = rw is refl
texts-settled which vs at (inr (inr is)) = rw is refl

-- what the builtins on values do
pub values-settled : (which : Builtin) (vs : List Value) (at : ℕ)
    → (which ≡ builtin.Len) ⊎ ((which ≡ builtin.Abs) ⊎ ((which ≡ builtin.Min) ⊎ ((which ≡ builtin.Max) ⊎ ((which ≡ builtin.Sum) ⊎ (which ≡ builtin.Bool)))))
    → builtin_called which vs at ≡ settled (value_builtin which vs at)
values-settled which vs at (inl is) = rw is refl
values-settled which vs at (inr (inl is)) = rw is refl
values-settled which vs at (inr (inr (inl is))) = rw is refl
values-settled which vs at (inr (inr (inr (inl is)))) = rw is refl
values-settled which vs at (inr (inr (inr (inr (inl is))))) = rw is refl
values-settled which vs at (inr (inr (inr (inr (inr is))))) = rw is refl

-- what `range` does
pub range-settled : (which : Builtin) (vs : List Value) (at : ℕ) (before : List (List ℕ)) (r : Result (Result Got Fault) NoMemory) → which ≡ builtin.Range
    → IfOk r (λ got. seen got ≡ range_value (range_of vs at)) → IfOk r (λ got. Does before (builtin_called which vs at) before (seen got))
range-settled which vs at before (Ok got) is gave = rw is (outcome-settled before (range_value (range_of vs at)) ∙ ap (λ r. (before, r)) (sym gave))
range-settled which vs at before (Err e) is gave = tt

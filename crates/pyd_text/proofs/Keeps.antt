-- From operands within the limits every text function gives values within them.
use Rattle.std.proofs.Common.{◌≡◌, ℕ, ℤ, pos, List, [], ◌∷◌, Bool, true, false, cond, Option, Some, None, Ok, refl, sym, ap, ◌∙◌, arith, if◌then◌else◌}
use Rattle.std.specs.List.{list_all}
use Rattle.pyd_value.specs.declared.value.Value.{Value, Int, Text}
use Rattle.pyd_value.specs.declared.fault.Limit.TheVariants as limit
use Rattle.pyd_value.specs.declared.operator.Builtin.{Builtin}
use Rattle.pyd_value.specs.declared.operator.Builtin.TheVariants as variant
use Rattle.pyd_value.specs.Shape.{Shape, number, text, tuple, nothing, shape_of}
use Rattle.pyd_ops.specs.Answer.{exceed}
use Rattle.pyd_ops.specs.Joining.{fits, text_if_fits}
use Rattle.pyd_ops.specs.Limited.{Limited, EachLimited}
use Rattle.pyd_ops.proofs.Keeping.{same_value, limited_int, limited_text, integer_limited, text_limited}
use Rattle.pyd_ops.proofs.Parts.{Inside, inside}
use Rattle.pyd_text.specs.Numerals.{is_readable, strip, signed_numeral}
use Rattle.pyd_text.specs.Texts.{str, repr, printed, line, as_text, int_if_any, int_in, int_of}
use Rattle.pyd_text.specs.Calls.{text_builtin}
use Rattle.pyd_text.specs.Laws.{TextsKeepLimits, LineIsItsText}

if_any_limited : (o : Option ℤ) (v : Value) (at : ℕ) → int_if_any o at ≡ Ok v → Limited v
if_any_limited (Some n) v at e = integer_limited n v at e
if_any_limited None v at e = cc

by_readable : (b : Bool) (o : Option ℤ) (v : Value) (at : ℕ)
    → (if b then int_if_any o at else exceed limit.Outside at) ≡ Ok v → Limited v
by_readable true o v at e = if_any_limited o v at e
by_readable false o v at e = cc

int_limited : (x : Shape Value) (v : Value) (at : ℕ) → Inside x → int_in x at ≡ Ok v → Limited v
int_limited (number n) v at h e = same_value (Int n) v e (limited_int n h)
int_limited (text s) v at h e = by_readable (list_all is_readable s) (signed_numeral (strip s)) v at e
int_limited (tuple xs) v at h e = cc
int_limited nothing v at h e = cc

int_of_limited : (a v : Value) (at : ℕ) → Limited a → int_of a at ≡ Ok v → Limited v
int_of_limited a v at h e = int_limited (shape_of a) v at (inside a h) e

-- a text that is given fits
by_size : (b : Bool) (s t : List ℕ) (at : ℕ) → fits (Text s) ≡ b → cond b (Ok s) (exceed limit.Size at) ≡ Ok t → text_if_fits t at ≡ Ok (Text t)
by_size true s t at f e =
    let same : s ≡ t = cc in
    ap (λ b. cond b (Ok (Text t)) (exceed limit.Size at)) (ap (λ x. fits (Text x)) (sym same) ∙ f)
by_size false s t at f e = cc

line_limited : (args : List Value) (s : List ℕ) (at : ℕ) → line args at ≡ Ok s → Limited (Text s)
line_limited args s at e =
    text_limited s (Text s) at (by_size (fits (Text (printed args))) (printed args) s at refl e)

call_limited : (which : Builtin) (args : List Value) (v : Value) (at : ℕ) → EachLimited args → text_builtin which args at ≡ Ok v → Limited v
call_limited variant.Str [] v at h e = same_value (Text []) v e (limited_text [] (omega arith))
call_limited variant.Str (a ∷ []) v at h e = text_limited (str a) v at e
call_limited variant.Str (a ∷ b ∷ args) v at h e = cc
call_limited variant.Repr [] v at h e = cc
call_limited variant.Repr (a ∷ []) v at h e = text_limited (repr a) v at e
call_limited variant.Repr (a ∷ b ∷ args) v at h e = cc
call_limited variant.Int [] v at h e = same_value (Int (pos 0)) v e (limited_int (pos 0) refl)
call_limited variant.Int (a ∷ []) v at h e = int_of_limited a v at h.0 e
call_limited variant.Int (a ∷ b ∷ []) v at h e = cc
call_limited variant.Int (a ∷ b ∷ d ∷ args) v at h e = cc
call_limited variant.Print args v at h e = cc
call_limited variant.Len args v at h e = cc
call_limited variant.Abs args v at h e = cc
call_limited variant.Min args v at h e = cc
call_limited variant.Max args v at h e = cc
call_limited variant.Sum args v at h e = cc
call_limited variant.Bool args v at h e = cc
call_limited variant.Range args v at h e = cc

pub texts_keep_limits : TextsKeepLimits
texts_keep_limits = record {
  str_of = λ a v at e. text_limited (str a) v at e;
  repr_of = λ a v at e. text_limited (repr a) v at e;
  int_of = int_of_limited;
  line = line_limited;
  line_of = λ args v at e. text_limited (printed args) v at e;
  text_builtin = call_limited;
}

-- a line and its text are given together
by_fit : (b : Bool) (s : List ℕ) (at : ℕ)
    → cond b (Ok (Text s)) (exceed limit.Size at) ≡ as_text (cond b (Ok s) (exceed limit.Size at))
by_fit true s at = refl
by_fit false s at = refl

pub line_is_its_text : LineIsItsText
line_is_its_text args at = by_fit (fits (Text (printed args))) (printed args) at

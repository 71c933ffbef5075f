-- The characters of bytes that are UTF-8, and of bytes that aren't.
use Rattle.std.proofs.Common.{◌≡◌, ℕ, List, [], Bool, true, false, cond, refl, sym, ap, subst, ◌∙◌, IfOk, Result, Ok, Err, encode_utf8_all}
use Rattle.std.specs.Str.{IsUtf8, chars, is_utf8}
use Rattle.std.proofs.lemmas.Str.{is_utf8-from_IsUtf8, IsUtf8-from_is_utf8, chars-nil}
use Rattle.pyd_lex.specs.declared.token.Token.{Token}
use Rattle.pyd_lex.specs.Strings.{string_value}
use Rattle.pyd_lex.specs.Texts.{spelling_of, IsTextOf}
use Rattle.pyd_value.specs.declared.memory.NoMemory.{NoMemory}
use Rattle.pyd_derivation.specs.Pieces.{characters, text_in}

good : (bytes : List ℕ) → IsUtf8 bytes → characters bytes ≡ chars bytes
good bytes u = ap (λ (b : Bool). cond b (chars bytes) []) (is_utf8-from_IsUtf8 bytes u)

none : (b : Bool) (z : List ℕ) → (b ≡ true → ⊥) → cond b z [] ≡ []
none true z n = absurd (n refl)
none false z n = refl

bad : (bytes : List ℕ) → (IsUtf8 bytes → ⊥) → characters bytes ≡ []
bad bytes n = none (is_utf8 bytes) (chars bytes) (λ h. n (IsUtf8-from_is_utf8 bytes h))

pub from_good : (bytes s : List ℕ) (r : Result (List ℕ) NoMemory) → s ≡ bytes → IsUtf8 bytes → IfOk r (λ t. t ≡ chars s) → IfOk r (λ t. t ≡ characters bytes)
from_good bytes s (Ok t) e u h = h ∙ ap chars e ∙ sym (good bytes u)
from_good bytes s (Err x) e u h = tt

pub from_bad : (bytes : List ℕ) (r : Result (List ℕ) NoMemory) → (IsUtf8 bytes → ⊥) → IfOk r (λ t. t ≡ []) → IfOk r (λ t. t ≡ characters bytes)
from_bad bytes (Ok t) n h = h ∙ sym (bad bytes n)
from_bad bytes (Err x) n h = tt

pub text_good : (bytes s text : List ℕ) (t : Token) (r : Result (List ℕ) NoMemory) → IsUtf8 (spelling_of bytes t.from t.to) → IsTextOf bytes t text → s ≡ text →
    IfOk r (λ z. z ≡ chars s) → IfOk r (λ z. z ≡ text_in bytes t)
text_good bytes s text t (Ok z) u i e h = h ∙ ap chars (e ∙ i u) ∙ ap (λ (y : List ℕ). chars (encode_utf8_all (string_value y))) (sym (good (spelling_of bytes t.from t.to) u))
text_good bytes s text t (Err x) u i e h = tt

pub text_bad : (bytes : List ℕ) (t : Token) (r : Result (List ℕ) NoMemory) → (IsUtf8 (spelling_of bytes t.from t.to) → ⊥) → IfOk r (λ z. z ≡ []) → IfOk r (λ z. z ≡ text_in bytes t)
text_bad bytes t (Ok z) n h = h ∙ sym chars-nil ∙ sym (ap (λ (y : List ℕ). chars (encode_utf8_all (string_value y))) (bad (spelling_of bytes t.from t.to) n))
text_bad bytes t (Err x) n h = tt

pub same_utf8 : (s t : List ℕ) → s ≡ t → IsUtf8 s → IsUtf8 t
same_utf8 s t e u = subst (λ (z : List ℕ). IsUtf8 z) e u

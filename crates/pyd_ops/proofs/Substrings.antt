-- A text stands within another exactly where its bytes do.
use Rattle.std.proofs.Common.{◌≡◌, ℕ, ◌<◌, ◌≤◌, List, [], ◌∷◌, ◌++◌, length, take, Bool, true, false, ◌&&◌, ◌||◌, nat_eq, refl, sym, ap, subst, ◌∙◌, arith, eqb-true, eq-eqb, length-append, encode_utf8_all, slice_index}
use Rattle.std.specs.Bool.{Decides, one_answer}
use Rattle.std.specs.Str.{chars, IsUtf8, IsCharBoundary}
use Rattle.std.specs.Str.Iter.{HasSubslice}
use Rattle.std.proofs.lemmas.List.{append-nil, take_at, get_or_at}
use Rattle.std.proofs.lemmas.Str.{encodes-append, encodes-chars, chars-append, chars-nil, IsUtf8-take, IsCharBoundary-start}
use Rattle.pyd_ops.specs.Comparing.{is_prefix, is_substring}

both : (p q : Bool) → p && q ≡ true → (p ≡ true) × (q ≡ true)
both true true e = (refl, refl)
both true false e = cc
both false q e = cc

prefix_when : (s t : List ℕ) → is_prefix s t ≡ true → (r : List ℕ) × (t ≡ s ++ r)
prefix_when [] t e = (t, refl)
prefix_when (c ∷ s) [] e = cc
prefix_when (c ∷ s) (d ∷ t) e =
    let h = both (nat_eq c d) (is_prefix s t) e in
    let k = prefix_when s t h.1 in
    let f : c ≡ d = eqb-true c d h.0 in
    (k.0, ap (λ x. x ∷ t) (sym f) ∙ ap (λ x. c ∷ x) k.1)

prefix_so : (s r : List ℕ) → is_prefix s (s ++ r) ≡ true
prefix_so [] r = refl
prefix_so (c ∷ s) r = ap (λ b. b && is_prefix s (s ++ r)) (eq-eqb c c refl) ∙ prefix_so s r

abbrev Found : Bool → Bool → List ℕ → List ℕ → Type 0
Found p q s t = (p ≡ true → HasSubslice t s) → (q ≡ true → HasSubslice t s) → p || q ≡ true → HasSubslice t s

found : (p q : Bool) (s t : List ℕ) → Found p q s t
found true q s t f g e = f refl
found false q s t f g e = g e

at_once : (s t : List ℕ) → is_prefix s t ≡ true → HasSubslice t s
at_once s t e = let h = prefix_when s t e in ([], h.0, h.1)

later : (s t : List ℕ) (d : ℕ) → HasSubslice t s → HasSubslice (d ∷ t) s
later s t d h = (d ∷ h.0, h.1, ap (λ x. d ∷ x) h.2)

substring_when : (s t : List ℕ) → is_substring s t ≡ true → HasSubslice t s
substring_when s [] e = at_once s [] e
substring_when s (d ∷ t) e =
    found (is_prefix s (d ∷ t)) (is_substring s t) s (d ∷ t) (at_once s (d ∷ t)) (λ k. later s t d (substring_when s t k)) e

or_true : (p : Bool) → p || true ≡ true
or_true true = refl
or_true false = refl

substring_front : (s t : List ℕ) → is_prefix s t ≡ true → is_substring s t ≡ true
substring_front s [] e = e
substring_front s (d ∷ t) e = ap (λ b. b || is_substring s t) e

substring_so : (a s b : List ℕ) → is_substring s (a ++ (s ++ b)) ≡ true
substring_so [] s b = substring_front s (s ++ b) (prefix_so s b)
substring_so (d ∷ a) s b =
    ap (λ q. is_prefix s (d ∷ (a ++ (s ++ b))) || q) (substring_so a s b) ∙ or_true (is_prefix s (d ∷ (a ++ (s ++ b))))

pub substring_decides : (s t : List ℕ) → Decides (is_substring s t) (HasSubslice t s)
substring_decides s t = (substring_when s t, λ h. ap (is_substring s) h.2 ∙ substring_so h.0 s h.1)

-- the bytes of a text that aren't none begin a character
boundary : (bs a b x : List ℕ) → bs ≡ a ++ (x ++ b) → IsUtf8 x → 0 < length x → IsCharBoundary bs (length a)
boundary bs a b [] e u h = absurd_less h
  where
    absurd_less : 0 < 0 → IsCharBoundary bs (length a)
    absurd_less h = omega arith
boundary bs a b (y ∷ x) e u h =
    let first : slice_index bs (length a) ≡ y = ap (λ z. slice_index z (length a)) e ∙ get_or_at a y (x ++ b) 0 (length a) refl in
    let start = IsCharBoundary-start (y ∷ x) u in
    (omega (arith, ap length e, length-append a ((y ∷ x) ++ b)), λ k l. subst (λ z. 192 ≤ z) (sym first) (start.1 h (subst (λ z. 128 ≤ z) first l)))

chars_of_bytes : (bs x : List ℕ) → IsUtf8 bs → IsUtf8 x → HasSubslice bs x → HasSubslice (chars bs) (chars x)
chars_of_bytes bs [] u v h = (chars bs, [], sym (append-nil (chars bs)) ∙ ap (λ z. chars bs ++ (z ++ [])) (sym chars-nil))
chars_of_bytes bs (y ∷ x) u v h =
    let w : IsUtf8 (take (length h.0) bs) = IsUtf8-take bs (length h.0) u (boundary bs h.0 h.1 (y ∷ x) h.2 v (omega arith)) in
    let front : take (length h.0) bs ≡ h.0 = ap (take (length h.0)) h.2 ∙ take_at h.0 ((y ∷ x) ++ h.1) (length h.0) refl in (
      chars h.0,
      chars h.1,
      ap chars h.2 ∙ chars-append h.0 ((y ∷ x) ++ h.1) (subst IsUtf8 front w) ∙ ap (λ z. chars h.0 ++ z) (chars-append (y ∷ x) h.1 v),
    )

bytes_of_chars : (bs x : List ℕ) → IsUtf8 bs → IsUtf8 x → HasSubslice (chars bs) (chars x) → HasSubslice bs x
bytes_of_chars bs x u v h = (
  encode_utf8_all h.0,
  encode_utf8_all h.1,
  sym (encodes-chars bs u) ∙ ap encode_utf8_all h.2 ∙ encodes-append h.0 (chars x ++ h.1)
      ∙ ap (λ z. encode_utf8_all h.0 ++ z) (encodes-append (chars x) h.1 ∙ ap (λ z. z ++ encode_utf8_all h.1) (encodes-chars x v)),
)

-- what looks for bytes looks for a text
pub substring_by_bytes : (r : Bool) (bs x : List ℕ) → IsUtf8 bs → IsUtf8 x → Decides r (HasSubslice bs x) → r ≡ is_substring (chars x) (chars bs)
substring_by_bytes r bs x u v d =
    one_answer r (is_substring (chars x) (chars bs)) d (
      λ e. bytes_of_chars bs x u v (substring_when (chars x) (chars bs) e),
      λ h. (substring_decides (chars x) (chars bs)).1 (chars_of_bytes bs x u v h),
    )

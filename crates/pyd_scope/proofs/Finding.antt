-- Places of names in lists that grow at the end.
use Rattle.std.proofs.Common.{◌≡◌, ℕ, suc, ◌+◌, ◌<◌, nat_lt, ◌&&◌, encode_utf8_all, List, [], ◌∷◌, ◌++◌, length, Bool, true, false, cond, ◌||◌, Option, Some, None, is_some, refl, ap, sym, ◌∙◌, arith, subst, inl, inr, ◌⊎◌}
use Rattle.std.specs.Str.{IsAscii, chars}
use Rattle.std.specs.Char.{is_ascii}
use Rattle.std.specs.List.{position_from, list_any, list_all}
use Rattle.std.proofs.lemmas.Str.{encode_ascii, chars-IsAscii}
use Rattle.std.proofs.lemmas.Str.Ascii.{IsAscii-nil, IsAscii-cons}
use Rattle.std.specs.BTreeMap.{is_at}
use Rattle.std.specs.Ordering.{nat_cmp}
use Rattle.std.specs.Cmp.Lexicographic.{slice_cmp}
use Rattle.std.proofs.lemmas.Map.Text.{is_eq-slice_cmp}
use Rattle.std.proofs.lemmas.Slice.Eq.{bytes_eq-Decides}
use Rattle.pyd_names.specs.Binding.{same_name, is_among}
use Rattle.pyd_scope.specs.Places.{place}

-- a truth value is one of two
pub truth_cases : (b : Bool) → (b ≡ true) ⊎ (b ≡ false)
truth_cases true = inl refl
truth_cases false = inr refl

-- what is found is there
is_some-position : {X : Type 0} (t : X → Bool) (i : ℕ) (xs : List X) → is_some (position_from t i xs) ≡ list_any t xs
is_some-position t i [] = refl
is_some-position t i (x ∷ xs) =
    elim (t x) as (λ b. is_some (cond b (Some i) (position_from t (i + 1) xs)) ≡ (b || list_any t xs))
    [ true ↦ refl | false ↦ is_some-position t (i + 1) xs ]

-- a name has a place where it is among the names
pub is_some-place : (names : List (List ℕ)) (name : List ℕ) → is_some (place names name) ≡ is_among names name
is_some-place names name = is_some-position (same_name name) 0 names

-- one more item is found where none before it is
position-push : {X : Type 0} (t : X → Bool) (i : ℕ) (xs : List X) (y : X)
    → position_from t i (xs ++ y ∷ []) ≡ cond (list_any t xs) (position_from t i xs) (cond (t y) (Some (i + length xs)) None)
position-push t i [] y = ap (λ (n : ℕ). cond (t y) (Some n) None) (omega arith)
position-push t i (x ∷ xs) y =
    elim (t x) as (λ b. cond b (Some i) (position_from t (i + 1) (xs ++ y ∷ [])) ≡ cond (b || list_any t xs) (cond b (Some i) (position_from t (i + 1) xs)) (cond (t y) (Some (i + suc (length xs))) None)) [
      | true ↦ refl
      | false ↦ position-push t (i + 1) xs y ∙ ap (λ (n : ℕ). cond (list_any t xs) (position_from t (i + 1) xs) (cond (t y) (Some n) None)) (omega arith)
    ]

-- names that are the same are one
pub same_is : (a b : List ℕ) → same_name a b ≡ true → a ≡ b
same_is a b h = (bytes_eq-Decides a b).0 h

-- a name is the same as itself
pub same_self : (a : List ℕ) → same_name a a ≡ true
same_self a = (bytes_eq-Decides a a).1 refl

-- two truth values that hold together are one
both_ways : (a b : Bool) → (a ≡ true → b ≡ true) → (b ≡ true → a ≡ true) → a ≡ b
both_ways true b f g = sym (f refl)
both_ways false true f g = g refl
both_ways false false f g = refl

-- which name is compared with which doesn't matter
pub same_name-flip : (a b : List ℕ) → same_name a b ≡ same_name b a
same_name-flip a b = both_ways (same_name a b) (same_name b a)
    (λ h. (bytes_eq-Decides b a).1 (sym (same_is a b h)))
    (λ h. (bytes_eq-Decides a b).1 (sym (same_is b a h)))

-- a place that there is not is none
nowhere : (b : Bool) (o : Option ℕ) → is_some o ≡ b → cond b o None ≡ o
nowhere true o e = refl
nowhere false None e = refl
nowhere false (Some n) e = cc

-- a name that is there already takes no place
pub place-again : (names : List (List ℕ)) (name q : List ℕ) → is_among names name ≡ true → place (names ++ name ∷ []) q ≡ place names q
place-again names name q there =
    position-push (same_name q) 0 names name
    ∙ elim (truth_cases (same_name q name)) [
      | inl same ↦ ap (λ (b : Bool). cond b (place names q) (cond (same_name q name) (Some (0 + length names)) None))
          (subst (λ (n : List ℕ). is_among names n ≡ true) (sym (same_is q name same)) there)
      | inr apart ↦ ap (λ (b : Bool). cond (is_among names q) (place names q) (cond b (Some (0 + length names)) None)) apart
          ∙ nowhere (is_among names q) (place names q) (is_some-place names q)
    ]

-- how a tree of names compares a key
at_key : (name q : List ℕ) → is_at (slice_cmp nat_cmp name) q ≡ same_name q name
at_key name q = is_eq-slice_cmp name q ∙ same_name-flip name q

-- a name that is new has the place behind the others
pub place-new : (names : List (List ℕ)) (name q : List ℕ) → is_among names name ≡ false
    → place (names ++ name ∷ []) q ≡ cond (is_at (slice_cmp nat_cmp name) q) (Some (length names)) (place names q)
place-new names name q new =
    position-push (same_name q) 0 names name
    ∙ elim (truth_cases (same_name q name)) [
      | inl same ↦ ap (λ (b : Bool). cond b (place names q) (cond (same_name q name) (Some (0 + length names)) None))
          (subst (λ (n : List ℕ). is_among names n ≡ false) (sym (same_is q name same)) new)
          ∙ ap (λ (b : Bool). cond b (Some (0 + length names)) None) same
          ∙ ap (λ (n : ℕ). Some n) (omega arith)
          ∙ sym (ap (λ (b : Bool). cond b (Some (length names)) (place names q)) (at_key name q ∙ same))
      | inr apart ↦ ap (λ (b : Bool). cond (is_among names q) (place names q) (cond b (Some (0 + length names)) None)) apart
          ∙ nowhere (is_among names q) (place names q) (is_some-place names q)
          ∙ sym (ap (λ (b : Bool). cond b (Some (length names)) (place names q)) (at_key name q ∙ apart))
    ]

-- what a tree of places has after a new name was put into it
pub place-grown : (names : List (List ℕ)) (name key q : List ℕ) (size : ℕ) (before after : Option ℕ)
    → is_among names name ≡ false → key ≡ name → size ≡ length names → before ≡ place names q
    → after ≡ cond (is_at (slice_cmp nat_cmp key) q) (Some size) before → after ≡ place (names ++ name ∷ []) q
place-grown names name key q size before after new keyed sized was is =
    is
    ∙ ap (λ (k : List ℕ). cond (is_at (slice_cmp nat_cmp k) q) (Some size) before) keyed
    ∙ ap (λ (n : ℕ). cond (is_at (slice_cmp nat_cmp name) q) (Some n) before) sized
    ∙ ap (λ (o : Option ℕ). cond (is_at (slice_cmp nat_cmp name) q) (Some (length names)) o) was
    ∙ sym (place-new names name q new)

-- of two truth values that hold together, each does
both_hold : (a b : Bool) → (a && b) ≡ true → (a ≡ true) × (b ≡ true)
both_hold true b h = (refl, h)
both_hold false b h = cc

below_from_test : (n m : ℕ) → nat_lt n m ≡ true → n < m
below_from_test n m h = grind arith

-- a word of ASCII has no other bytes
word_ascii : (word : List ℕ) → list_all is_ascii word ≡ true → IsAscii word
word_ascii [] h = IsAscii-nil
word_ascii (c ∷ cs) h =
    let parts : (is_ascii c ≡ true) × (list_all is_ascii cs ≡ true) = both_hold (is_ascii c) (list_all is_ascii cs) h in
    IsAscii-cons c cs (below_from_test c 128 parts.0) (word_ascii cs parts.1)

-- a word of ASCII is its own bytes
word_bytes : (word : List ℕ) → list_all is_ascii word ≡ true → encode_utf8_all word ≡ word
word_bytes [] h = refl
word_bytes (c ∷ cs) h =
    let parts : (is_ascii c ≡ true) × (list_all is_ascii cs ≡ true) = both_hold (is_ascii c) (list_all is_ascii cs) h in
    (λ k. encode_ascii c (below_from_test c 128 parts.0) k ++ word_bytes cs parts.1 k)

-- the bytes of a name are those of a word of ASCII exactly where the name is the word
pub same_word : (name word bytes : List ℕ) → list_all is_ascii word ≡ true → chars bytes ≡ name → bytes ≡ encode_utf8_all name
    → same_name bytes word ≡ same_name name word
same_word name word bytes ascii spelled encoded = both_ways (same_name bytes word) (same_name name word)
    (λ h. (bytes_eq-Decides name word).1 (sym spelled ∙ ap chars (same_is bytes word h) ∙ chars-IsAscii word (word_ascii word ascii)))
    (λ h. (bytes_eq-Decides bytes word).1 (encoded ∙ ap encode_utf8_all (same_is name word h) ∙ word_bytes word ascii))

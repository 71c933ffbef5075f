-- A string token's text is no longer than its spelling, so it is within the size limit.
use Rattle.std.proofs.Common.{◌≡◌, ℕ, zero, suc, ◌+◌, ◌<◌, ◌≤◌, Bool, true, false, cond, ◌==◌, List, [], ◌∷◌, length, drop, take, Option, Some, None, refl, sym, ap, subst, arith, rules, if◌then◌else◌, encode_utf8_all, le-leb, length-append, length-drop, length-take}
use Rattle.std.specs.Prelude.{encode_utf8}
use Rattle.std.specs.Str.{chars, is_utf8, all_scalars}
use Rattle.std.proofs.lemmas.Bool.{and_from, and_parts}
use Rattle.std.proofs.lemmas.Str.{length-encode, len_utf8_bounds, len_utf8_ascii, IsUtf8-from_is_utf8, encodes-chars, chars-encodes, scalars-chars}
use lib.Utf8.{scalar}
use Rattle.pyd_lex.specs.declared.string.Part.{Part}
use Rattle.pyd_lex.specs.declared.string.Part.TheVariants.{Close, Nul, Backslash, BareBreak, Plain}
use Rattle.pyd_lex.specs.declared.token.Token.{Token}
use Rattle.pyd_lex.specs.Words.{Text}
use Rattle.pyd_lex.specs.Strings.{part, value, escape, is_triple, spelled, more, rest_of, string_value}
use Rattle.pyd_lex.specs.Texts.{spelling_of}
use Rattle.pyd_value.specs.Size.{size_of}
use Rattle.pyd_value.specs.Limits.{largest_size}
use Rattle.pyd_value.specs.declared.value.Value.{the_lemmas, out-Value}
use Rattle.pyd_value.specs.declared.value.Value.TheVariants as value
use Rattle.pyd_derivation.specs.Pieces.{characters, text_in, token_of}
use Rattle.pyd_names.specs.WellFormed.{is_scalar}
use Rattle.pyd_grammar.proofs.ExpressionLaws.{TextsFit}

-- the bytes of a text
abbrev bytes_of : Text → ℕ
bytes_of z = length (encode_utf8_all z)

-- a text of characters where the other has only these, and not longer
record Shrinks (x z : Text) : Type 0 where
  scalar : all_scalars z ≡ true → all_scalars x ≡ true
  size : bytes_of x ≤ bytes_of z

bytes_cons : (c : ℕ) (z : Text) → bytes_of (c ∷ z) ≡ length (encode_utf8 c) + bytes_of z
bytes_cons c z = length-append (encode_utf8 c) (encode_utf8_all z)

one_byte : (c : ℕ) → 1 ≤ length (encode_utf8 c)
one_byte c = let a = length-encode c in let b = (len_utf8_bounds c).0 in omega arith

-- a character that may stand in the place of another
record Less (e d : ℕ) : Type 0 where
  scalar : scalar d ≡ true → scalar e ≡ true
  size : length (encode_utf8 e) ≤ length (encode_utf8 d)

less_same : (d : ℕ) → Less d d
less_same d = record { scalar = λ h. h; size = omega arith }

less_ascii : (e d : ℕ) → e < 128 → scalar e ≡ true → Less e d
less_ascii e d l h = record { scalar = λ k. h; size = let a = length-encode e in let b = len_utf8_ascii e l in let c = one_byte d in omega arith }

less_line_feed : (d : ℕ) → Less 10 d
less_line_feed d = less_ascii 10 d (omega arith) refl

less_tab : (d : ℕ) → Less 9 d
less_tab d = less_ascii 9 d (omega arith) refl

less_return : (d : ℕ) → Less 13 d
less_return d = less_ascii 13 d (omega arith) refl

some_same : (a b : ℕ) → let x : Option ℕ = Some a in let y : Option ℕ = Some b in x ≡ y → a ≡ b
some_same a b h = cc

escape_less : (d e : ℕ) (k l m n : Bool) → (if k then Some d else (if l then Some 10 else (if m then Some 9 else (if n then Some 13 else None)))) ≡ Some e → Less e d
escape_less d e true l m n h = subst (λ (x : ℕ). Less x d) (some_same d e h) (less_same d)
escape_less d e false true m n h = subst (λ (x : ℕ). Less x d) (some_same 10 e h) (less_line_feed d)
escape_less d e false false true n h = subst (λ (x : ℕ). Less x d) (some_same 9 e h) (less_tab d)
escape_less d e false false false true h = subst (λ (x : ℕ). Less x d) (some_same 13 e h) (less_return d)
escape_less d e false false false false h = absurd cc

-- a character and the rest in the place of at least as much
shrink_cons : (e d : ℕ) (x z : Text) → Less e d → Shrinks x z → Shrinks (e ∷ x) (d ∷ z)
shrink_cons e d x z l s = record {
  scalar = λ h. let p = and_parts _ _ h in and_from _ _ (l.scalar p.0) (s.scalar p.1);
  size = let a = bytes_cons e x in let b = bytes_cons d z in let j = l.size in let k = s.size in omega arith;
}

shrink_more : (c : ℕ) (x z : Text) → Shrinks x z → Shrinks x (c ∷ z)
shrink_more c x z s = record {
  scalar = λ h. s.scalar (and_parts _ _ h).1;
  size = let b = bytes_cons c z in let k = s.size in omega arith;
}

shrink_none : (z : Text) → Shrinks [] z
shrink_none z = record { scalar = λ h. refl; size = omega arith }

module _ (q : Text) where
  to : (x z : Text) → value q z ≡ x → Shrinks x z → Shrinks (value q z) z
  to x z e s = subst (λ (y : Text). Shrinks y z) (sym e) s

  one_left : (c : ℕ) (p : Part) (b : Bool) → part q (c ∷ []) ≡ p → (c == 13) ≡ b → Shrinks (value q (c ∷ [])) (c ∷ [])
  unfolding value
  one_left c Plain true e f = to (10 ∷ []) (c ∷ []) (rw (e, f, value) refl) (shrink_cons 10 c [] [] (less_line_feed c) (shrink_none []))
  one_left c Plain false e f = to (c ∷ []) (c ∷ []) (rw (e, f, value) refl) (shrink_cons c c [] [] (less_same c) (shrink_none []))
  one_left c Close b e f = to [] (c ∷ []) (rw (e, value) refl) (shrink_none (c ∷ []))
  one_left c Nul b e f = to [] (c ∷ []) (rw (e, value) refl) (shrink_none (c ∷ []))
  one_left c Backslash b e f = to [] (c ∷ []) (rw (e, value) refl) (shrink_none (c ∷ []))
  one_left c BareBreak b e f = to [] (c ∷ []) (rw (e, value) refl) (shrink_none (c ∷ []))

  two_left : (c d : ℕ) (z : Text) (p : Part) (b k : Bool) (o : Option ℕ) → part q (c ∷ d ∷ z) ≡ p → (c == 13) ≡ b → (d == 10) ≡ k → escape d ≡ o →
      Shrinks (value q z) z → Shrinks (value q (d ∷ z)) (d ∷ z) → Shrinks (value q (c ∷ d ∷ z)) (c ∷ d ∷ z)
  unfolding value
  two_left c d z Plain true true o e f g h s t = to (10 ∷ value q z) (c ∷ d ∷ z) (rw (e, f, g, value) refl) (shrink_cons 10 c (value q z) (d ∷ z) (less_line_feed c) (shrink_more d (value q z) z s))
  two_left c d z Plain true false o e f g h s t = to (10 ∷ value q (d ∷ z)) (c ∷ d ∷ z) (rw (e, f, g, value) refl) (shrink_cons 10 c (value q (d ∷ z)) (d ∷ z) (less_line_feed c) t)
  two_left c d z Plain false k o e f g h s t = to (c ∷ value q (d ∷ z)) (c ∷ d ∷ z) (rw (e, f, value) refl) (shrink_cons c c (value q (d ∷ z)) (d ∷ z) (less_same c) t)
  two_left c d z Backslash b k (Some x) e f g h s t =
      to (x ∷ value q z) (c ∷ d ∷ z) (rw (e, h, value) refl) (shrink_more c (x ∷ value q z) (d ∷ z) (shrink_cons x d (value q z) z (escape_less d x _ _ _ _ h) s))
  two_left c d z Backslash b k None e f g h s t = to [] (c ∷ d ∷ z) (rw (e, h, value) refl) (shrink_none (c ∷ d ∷ z))
  two_left c d z Close b k o e f g h s t = to [] (c ∷ d ∷ z) (rw (e, value) refl) (shrink_none (c ∷ d ∷ z))
  two_left c d z Nul b k o e f g h s t = to [] (c ∷ d ∷ z) (rw (e, value) refl) (shrink_none (c ∷ d ∷ z))
  two_left c d z BareBreak b k o e f g h s t = to [] (c ∷ d ∷ z) (rw (e, value) refl) (shrink_none (c ∷ d ∷ z))

  value_shrinks : (z : Text) → Shrinks (value q z) z
  unfolding value
  value_shrinks [] = shrink_none []
  value_shrinks (c ∷ []) = one_left c (part q (c ∷ [])) (c == 13) refl refl
  value_shrinks (c ∷ d ∷ z) = two_left c d z (part q (c ∷ d ∷ z)) (c == 13) (d == 10) (escape d) refl refl refl refl (value_shrinks z) (value_shrinks (d ∷ z))

drop_shrinks : (n : ℕ) (z : Text) → Shrinks (drop n z) z
drop_shrinks zero z = record { scalar = λ h. h; size = omega arith }
drop_shrinks (suc n) [] = shrink_none []
drop_shrinks (suc n) (c ∷ z) = shrink_more c (drop n z) z (drop_shrinks n z)

both : (x y z : Text) → Shrinks x y → Shrinks y z → Shrinks x z
both x y z s t = record { scalar = λ h. s.scalar (t.scalar h); size = let a = s.size in let b = t.size in omega arith }

-- the value of a string is one byte shorter at least, if it has any
string_shrinks : (c : ℕ) (z : Text) → Shrinks (string_value (c ∷ z)) z
string_shrinks c z =
    let r = rest_of (is_triple c z) z in
    both (string_value (c ∷ z)) r z (value_shrinks (spelled (is_triple c z) c) r) (drop_shrinks (more (is_triple c z)) z)

-- a value of a string of no more bytes than the limit has fewer, so there is room for the one that each text counts besides
string_size : (z : Text) → all_scalars z ≡ true → bytes_of z ≤ largest_size → (all_scalars (string_value z) ≡ true) × (1 + bytes_of (string_value z) ≤ largest_size)
string_size [] h l = (refl, omega arith)
string_size (c ∷ z) h l =
    let s = string_shrinks c z in
    let k = s.size in
    let a = bytes_cons c z in
    let b = one_byte c in
    (s.scalar (and_parts _ _ h).1, omega arith)

spelling_size : (bytes : List ℕ) (from to : ℕ) → length (spelling_of bytes from to) ≤ length bytes
spelling_size bytes from to = let a = length-drop from (take to bytes) in let b = length-take to bytes in omega arith

characters_size : (bytes : List ℕ) (b : Bool) → is_utf8 bytes ≡ b → (all_scalars (characters bytes) ≡ true) × (bytes_of (characters bytes) ≤ length bytes)
characters_size bytes true h =
    let u = IsUtf8-from_is_utf8 bytes h in
    let same : characters bytes ≡ chars bytes = ap (λ (b : Bool). cond b (chars bytes) []) h in
    let P : List ℕ → Type 0 = λ z. (all_scalars z ≡ true) × (bytes_of z ≤ length bytes) in
    subst P (sym same) (scalars-chars bytes u, let e = ap length (encodes-chars bytes u) in omega arith)
characters_size bytes false h =
    let same : characters bytes ≡ [] = ap (λ (b : Bool). cond b (chars bytes) []) h in
    let P : List ℕ → Type 0 = λ z. (all_scalars z ≡ true) × (bytes_of z ≤ length bytes) in
    subst P (sym same) (refl, omega arith)

text_size : (bytes : List ℕ) (t : Token) → length bytes ≤ largest_size → 1 + bytes_of (text_in bytes t) ≤ largest_size
text_size bytes t l =
    let b = spelling_of bytes t.from t.to in
    let a = spelling_size bytes t.from t.to in
    let c = characters_size b (is_utf8 b) refl in
    let k = c.1 in
    let s = string_size (characters b) c.0 (omega arith) in
    subst (λ (z : List ℕ). 1 + bytes_of z ≤ largest_size) (sym (chars-encodes (string_value (characters b)) s.0)) s.1

size_of-text : (s : List ℕ) → size_of (value.Text s) ≡ 1 + bytes_of s
size_of-text s = search (rules, the_lemmas)

text_scalar : (s : List ℕ) → is_scalar (out-Value (value.Text s)) ≡ true
text_scalar s = search (rules, the_lemmas)

-- each text of a source within the limit is within the size limit
pub texts_fit : (bytes : List ℕ) → length bytes ≤ largest_size → TextsFit bytes
texts_fit bytes l = λ a.
    let s = text_in bytes (token_of a) in
    let fits : size_of (value.Text s) ≤ largest_size = subst (λ (n : ℕ). n ≤ largest_size) (sym (size_of-text s)) (text_size bytes (token_of a) l) in
    and_from _ _ (text_scalar s) (le-leb (size_of (value.Text s)) largest_size fits)

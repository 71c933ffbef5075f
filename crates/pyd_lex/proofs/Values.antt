-- The value of a string, character by character.
use Rattle.std.proofs.Common.{◌≡◌, ℕ, ◌≤◌, Bool, true, false, ◌==◌, List, [], ◌∷◌, length, drop, Option, Some, None, refl, sym, ap, subst, ◌∙◌, arith, if◌then◌else◌, ◌++◌, ◌<◌, get_or, encode_utf8_all, append_assoc, append-nil}
use Rattle.std.specs.Prelude.{encode_utf8}
use Rattle.pyd_lex.specs.declared.string.Quotes.{Quotes}
use Rattle.pyd_lex.specs.Quoted.{escaped, first, first_of, plain, spelling}
use Rattle.pyd_lex.specs.declared.string.Part.{Part}
use Rattle.pyd_lex.specs.declared.string.Part.TheVariants.{Close, Nul, Backslash, BareBreak, Plain}
use Rattle.pyd_lex.specs.Words.{Text}
use Rattle.pyd_lex.specs.Strings.{part, value, escape, is_triple, spelled, more, string_value}
use Rattle.pyd_lex.proofs.Words.{some_is}

-- the first character of a value, and how much of the text spells it
pub record Spells (q z : Text) (r : ℕ × ℕ) : Type 0 where
  pub same : value q z ≡ r.0 ∷ value q (drop r.1 z)
  pub within : r.1 ≤ length z
  pub moves : 1 ≤ r.1

module _ (q : Text) where
  one_left : (a : ℕ) (r : ℕ × ℕ) → part q (a ∷ []) ≡ Plain → plain (a ∷ []) ≡ Some r → Spells q (a ∷ []) r
  unfolding value
  one_left a r e h =
      subst (Spells q (a ∷ [])) (some_is {A = ℕ × ℕ} (if a == 13 then 10 else a, 1) r h)
      (record { same = rw (e, value) refl; within = omega arith; moves = omega arith })

  two_plain : (a d : ℕ) (z : Text) (b : Bool) (k : Bool) (r : ℕ × ℕ) → part q (a ∷ d ∷ z) ≡ Plain → (a == 13) ≡ b → (d == 10) ≡ k → plain (a ∷ d ∷ z) ≡ Some r → Spells q (a ∷ d ∷ z) r
  unfolding value
  two_plain a d z true true r e f g h =
      let i = rw (f, g) at h in
      subst (Spells q (a ∷ d ∷ z)) (some_is {A = ℕ × ℕ} (10, 2) r i) (record { same = rw (e, f, g, value) refl; within = omega arith; moves = omega arith })
  two_plain a d z true false r e f g h =
      let i = rw (f, g) at h in
      subst (Spells q (a ∷ d ∷ z)) (some_is {A = ℕ × ℕ} (10, 1) r i) (record { same = rw (e, f, g, value) refl; within = omega arith; moves = omega arith })
  two_plain a d z false k r e f g h =
      let i = rw f at h in
      subst (Spells q (a ∷ d ∷ z)) (some_is {A = ℕ × ℕ} (a, 1) r i) (record { same = rw (e, f, value) refl; within = omega arith; moves = omega arith })

  two_escaped : (a d : ℕ) (z : Text) (o : Option ℕ) (r : ℕ × ℕ) → part q (a ∷ d ∷ z) ≡ Backslash → escape d ≡ o → escaped (a ∷ d ∷ z) ≡ Some r → Spells q (a ∷ d ∷ z) r
  unfolding value
  two_escaped a d z None r e f h = absurd (let i = rw (f, escaped) at h in cc)
  two_escaped a d z (Some x) r e f h =
      let i = rw (f, escaped) at h in
      subst (Spells q (a ∷ d ∷ z)) (some_is {A = ℕ × ℕ} (x, 2) r i) (record { same = rw (e, f, value) refl; within = omega arith; moves = omega arith })

  by_part : (z : Text) (p : Part) (r : ℕ × ℕ) → part q z ≡ p → first_of p z ≡ Some r → Spells q z r
  by_part [] Plain r e h = cc
  by_part [] Backslash r e h = cc
  by_part (a ∷ []) Plain r e h = one_left a r e h
  by_part (a ∷ []) Backslash r e h = cc
  by_part (a ∷ d ∷ z) Plain r e h = two_plain a d z (a == 13) (d == 10) r e refl refl h
  by_part (a ∷ d ∷ z) Backslash r e h = two_escaped a d z (escape d) r e refl h
  by_part z Close r e h = cc
  by_part z Nul r e h = cc
  by_part z BareBreak r e h = cc

  pub spells_first : (z : Text) (r : ℕ × ℕ) → first q z ≡ Some r → Spells q z r
  spells_first z r h = by_part z (part q z) r refl h

  plain_more : (a d : ℕ) (z : Text) (b k : Bool) → (a == 13) ≡ b → (d == 10) ≡ k → plain (a ∷ d ∷ z) ≡ None → value q (a ∷ d ∷ z) ≡ []
  plain_more a d z true true f g h = absurd (let i = rw (f, g) at h in cc)
  plain_more a d z true false f g h = absurd (let i = rw (f, g) at h in cc)
  plain_more a d z false k f g h = absurd (let i = rw f at h in cc)

  no_escape : (a d : ℕ) (z : Text) (o : Option ℕ) → part q (a ∷ d ∷ z) ≡ Backslash → escape d ≡ o → escaped (a ∷ d ∷ z) ≡ None → value q (a ∷ d ∷ z) ≡ []
  unfolding value
  no_escape a d z None e f h = rw (e, f, value) refl
  no_escape a d z (Some x) e f h = absurd (let i = rw (f, escaped) at h in cc)

  none_by : (z : Text) (p : Part) → part q z ≡ p → first_of p z ≡ None → value q z ≡ []
  unfolding value
  none_by [] p e h = refl
  none_by (a ∷ []) Plain e h = cc
  none_by (a ∷ []) Backslash e h = rw (e, value) refl
  none_by (a ∷ []) Close e h = rw (e, value) refl
  none_by (a ∷ []) Nul e h = rw (e, value) refl
  none_by (a ∷ []) BareBreak e h = rw (e, value) refl
  none_by (a ∷ d ∷ z) Plain e h = plain_more a d z (a == 13) (d == 10) refl refl h
  none_by (a ∷ d ∷ z) Backslash e h = no_escape a d z (escape d) e refl h
  none_by (a ∷ d ∷ z) Close e h = rw (e, value) refl
  none_by (a ∷ d ∷ z) Nul e h = rw (e, value) refl
  none_by (a ∷ d ∷ z) BareBreak e h = rw (e, value) refl

  pub no_first : (z : Text) → first q z ≡ None → value q z ≡ []
  no_first z h = none_by z (part q z) refl h

pub written_step : (q rest more' : Text) (out new all : List ℕ) (c n : ℕ) → first q rest ≡ Some (c, n) → more' ≡ drop n rest → new ≡ out ++ encode_utf8 c → out ++ encode_utf8_all (value q rest) ≡ all → new ++ encode_utf8_all (value q more') ≡ all
written_step q rest more' out new all c n f m w h =
    let s = spells_first q rest (c, n) f in
    (λ i. w i ++ encode_utf8_all (value q (m i))) ∙ append_assoc out (encode_utf8 c) (encode_utf8_all (value q (drop n rest))) ∙ ap (λ v. out ++ encode_utf8_all v) (sym s.same) ∙ h

pub written_end : (q rest : Text) (out all : List ℕ) → first q rest ≡ None → out ++ encode_utf8_all (value q rest) ≡ all → out ≡ all
written_end q rest out all f h =
    sym (append-nil out) ∙ ap (λ v. out ++ encode_utf8_all v) (sym (no_first q rest f)) ∙ h

pub value_at : (text tail inner : Text) (c m : ℕ) (q : Quotes) → 0 < length text → c ≡ get_or text 0 0 → tail ≡ drop 1 text → q ≡ record { quote = c; triple = is_triple c tail } → m ≡ more q.triple → inner ≡ drop m tail → value (spelling q) inner ≡ string_value text
value_at [] tail inner c m q l e t k h i = absurd (omega arith)
value_at (d ∷ z) tail inner c m q l e t k h i =
    ap (value (spelling q)) (i ∙ (λ j. drop (h j) (t j))) ∙ ap (λ r. value (spelling r) (drop (more r.triple) z)) k ∙ (λ j. value (spelled (is_triple (e j) (t j)) (e j)) (drop (more (is_triple (e j) (t j))) z))

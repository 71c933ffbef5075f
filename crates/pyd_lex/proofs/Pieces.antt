-- The longest piece at the front, by the class of its first character.
use Rattle.std.proofs.Common.{◌≡◌, ℕ, zero, suc, ◌+◌, ◌<◌, ◌≤◌, Bool, true, false, ◌&&◌, ◌||◌, ◌==◌, [], ◌∷◌, length, take, drop, get_or, Some, None, Ok, Err, refl, sym, ap, subst, ◌∙◌, arith, inl, inr, eqb}
use Rattle.std.proofs.lemmas.Bool.Decides.{nat_tests}
use Rattle.std.proofs.lemmas.Bool.{cases_Bool, eqb-true}
use Rattle.std.proofs.Math.Bool.{or-true}
use Rattle.std.proofs.lemmas.Grind.{common_steps}
use Rattle.std.specs.List.{list_all, prefix_len}
use Rattle.std.specs.Str.{bytes_eq}
use Rattle.pyd_lex.specs.declared.fault.Flaw.{Flaw}
use Rattle.pyd_lex.specs.declared.fault.Flaw.TheVariants.{BadChar}
use Rattle.pyd_lex.specs.declared.mark.Mark.{Mark}
use Rattle.pyd_lex.specs.declared.run.Class.{Class}
use Rattle.pyd_lex.specs.declared.run.Class.TheVariants.{Return, Hash, Quote, Digit, Letter, Other}
use Rattle.pyd_lex.specs.declared.token.Shape.{Shape}
use Rattle.pyd_lex.specs.declared.token.Shape.TheVariants as shape
use Rattle.pyd_lex.specs.declared.token.TokenKind.{TokenKind}
use Rattle.pyd_lex.specs.declared.token.TokenKind.TheVariants as kind
use Rattle.pyd_lex.specs.Words.{Text, begins, marks, mark_of, front_mark}
use Rattle.pyd_lex.specs.Strings.{string_flaw}
use Rattle.pyd_lex.specs.Numbers.{number}
use Rattle.pyd_lex.specs.Spelling.{class_of, in_comment, continues, belong, IsLast, Extends, IsLongest, HasClass}
use Rattle.pyd_lex.specs.Meaning.{meaning, judged, as_token, name, ended, other, spacing, spacing_or, marked}
use Rattle.pyd_lex.specs.declared.fault.Stop.{Stop}
use Rattle.pyd_lex.specs.declared.fault.Stop.TheVariants as stop
use Rattle.pyd_lex.specs.Front.{IsGood, IsFlawed}
use Rattle.pyd_lex.specs.Stops.{IfFlaw}
use Rattle.pyd_lex.proofs.Words.{and_left, FrontRow, front_row, no_front, descending}
use Rattle.pyd_lex.proofs.Spelling.{longest_from}

one_more : (n : ℕ) → suc n ≡ 1 + n
one_more n = omega arith

run_last : (p : ℕ → Bool) (z : Text) → IsLast (λ j. list_all p (take j z)) (length z) (prefix_len p z)
run_last p [] = record { within = omega arith; here = refl; beyond = λ j lt le. absurd (omega arith) }
run_last p (x ∷ z) =
    let r = run_last p z in
    elim (cases_Bool (p x)) [
      | inl t ↦ rw t (subst (λ m. IsLast (λ j. list_all p (take j (x ∷ z))) (suc (length z)) m) (one_more (prefix_len p z)) (record {
        within = let w = r.within in omega arith;
        here = rw t r.here;
        beyond = λ j lt le. elim j as (λ i. suc (prefix_len p z) < i → i ≤ suc (length z) → list_all p (take i (x ∷ z)) ≡ false) [
          | zero ↦ λ l m. absurd (omega arith)
          | suc i ↦ λ l m. rw t (r.beyond i (omega arith) (omega arith))
        ] lt le;
      }))
      | inr f ↦ rw f (record {
        within = omega arith;
        here = refl;
        beyond = λ j lt le. elim j as (λ i. 0 < i → list_all p (take i (x ∷ z)) ≡ false) [
          | zero ↦ λ l. absurd (omega arith)
          | suc i ↦ λ l. rw f refl
        ] lt;
      })
    ]

-- ---- from the part after the first character to the piece

pub longest_after : (k : Class) (text : Text) (n : ℕ) → HasClass k text → Extends k (get_or text 0 0) (drop 1 text) n → IsLongest text (1 + n)
longest_after k [] n h x = absurd h
longest_after k (c ∷ z) n h x = subst (IsLongest (c ∷ z)) (one_more n) (longest_from k c z n h x)

meaning_after : (k : Class) (text : Text) (n : ℕ) → HasClass k text → meaning (take (1 + n) text) ≡ judged k (get_or text 0 0) (take n (drop 1 text))
unfolding meaning
meaning_after k [] n h = absurd h
meaning_after k (c ∷ z) n h = subst (λ m. meaning (take m (c ∷ z)) ≡ judged k c (take n z)) (one_more n) (ap (λ t. judged t c (take n z)) h)

whole_after : (k : Class) (text : Text) (n : ℕ) → HasClass k text → get_or text 0 0 ∷ take n (drop 1 text) ≡ take (1 + n) text
whole_after k [] n h = absurd h
whole_after k (c ∷ z) n h = subst (λ m. c ∷ take n z ≡ take m (c ∷ z)) (one_more n) refl

-- ---- comments, numbers and names

pub comment_longest : (text : Text) → HasClass Hash text → (n : ℕ) → n ≡ prefix_len in_comment (drop 1 text) → IsGood text shape.Comment (1 + n)
unfolding belong judged
comment_longest text h n e = record {
  longest = longest_after Hash text n h (subst (λ m. Extends Hash (get_or text 0 0) (drop 1 text) m) (sym e) (run_last in_comment (drop 1 text)));
  means = meaning_after Hash text n h;
  moves = omega arith;
}

pub number_longest : (text : Text) → HasClass Digit text → (n : ℕ) → n ≡ prefix_len continues (drop 1 text) → IsLongest text (1 + n)
unfolding belong
number_longest text h n e = longest_after Digit text n h (subst (λ m. Extends Digit (get_or text 0 0) (drop 1 text) m) (sym e) (run_last continues (drop 1 text)))

pub number_means : (text : Text) → HasClass Digit text → (n : ℕ) → meaning (take (1 + n) text) ≡ as_token (number (take (1 + n) text))
unfolding judged
number_means text h n = meaning_after Digit text n h ∙ ap (λ t. as_token (number t)) (whole_after Digit text n h)

pub name_longest : (text : Text) → HasClass Letter text → (n : ℕ) → n ≡ prefix_len continues (drop 1 text) → IsLongest text (1 + n)
unfolding belong
name_longest text h n e = longest_after Letter text n h (subst (λ m. Extends Letter (get_or text 0 0) (drop 1 text) m) (sym e) (run_last continues (drop 1 text)))

pub name_means : (text : Text) → HasClass Letter text → (n : ℕ) → meaning (take (1 + n) text) ≡ as_token (name (take (1 + n) text))
unfolding judged
name_means text h n = meaning_after Letter text n h ∙ ap (λ t. as_token (name t)) (whole_after Letter text n h)

-- ---- strings

pub string_means : (text : Text) → HasClass Quote text → (n : ℕ) → meaning (take (1 + n) text) ≡ as_token (ended (string_flaw (get_or text 0 0) (take n (drop 1 text))))
unfolding judged
string_means text h n = meaning_after Quote text n h

-- ---- line ends

feed_only : (z : Text) (j : ℕ) → 1 < j → j ≤ suc (length z) → (bytes_eq (take j (10 ∷ z)) [] || bytes_eq (take j (10 ∷ z)) (10 ∷ [])) ≡ false
feed_only z zero lt le = absurd (omega arith)
feed_only z (suc zero) lt le = absurd (omega arith)
feed_only [] (suc (suc j)) lt le = absurd (omega arith)
feed_only (d ∷ z) (suc (suc j)) lt le = refl

pub return_feed : (c : ℕ) (z : Text) → class_of c ≡ Return → IsGood (c ∷ 10 ∷ z) shape.Break 2
unfolding belong judged meaning
return_feed c z h = record {
  longest = longest_from Return c (10 ∷ z) 1 h (record {
    within = omega arith;
    here = refl;
    beyond = λ j lt le. feed_only z j lt le;
  });
  means = ap (λ t. judged t c (10 ∷ [])) h;
  moves = omega arith;
}

not_ten : (d : ℕ) → (eqb 10 d && true) ≡ false → eqb d 10 ≡ false
not_ten d h = grind (arith, nat_tests)

no_feed : (z : Text) (j : ℕ) → begins (10 ∷ []) z ≡ false → 0 < j → j ≤ length z → (bytes_eq (take j z) [] || bytes_eq (take j z) (10 ∷ [])) ≡ false
no_feed z zero h lt le = absurd (omega arith)
no_feed [] (suc j) h lt le = absurd (omega arith)
no_feed (d ∷ z) (suc j) h lt le = let e = not_ten d h in rw e refl

pub return_only : (c : ℕ) (z : Text) → class_of c ≡ Return → begins (10 ∷ []) z ≡ false → IsGood (c ∷ z) shape.Break 1
unfolding belong judged meaning
return_only c z h b = record {
  longest = longest_from Return c z 0 h (record {
    within = omega arith;
    here = refl;
    beyond = λ j lt le. no_feed z j b lt le;
  });
  means = ap (λ t. judged t c []) h;
  moves = omega arith;
}

-- ---- marks and other characters

not_empty : (z : Text) (j : ℕ) → 0 < j → j ≤ length z → bytes_eq (take j z) [] ≡ false
not_empty z zero lt le = absurd (omega arith)
not_empty [] (suc j) lt le = absurd (omega arith)
not_empty (d ∷ z) (suc j) lt le = refl

pub other_alone : (c : ℕ) (z : Text) → class_of c ≡ Other → front_mark (c ∷ z) ≡ None → IsLongest (c ∷ z) 1
unfolding belong front_mark mark_of
other_alone c z h e = longest_from Other c z 0 h (record {
  within = omega arith;
  here = refl;
  beyond = λ j lt le. let f = not_empty z j lt le in let g = no_front marks (c ∷ z) (suc j) e in rw (f, g) refl;
})

pub other_means : (c : ℕ) (z : Text) → class_of c ≡ Other → meaning (c ∷ z) ≡ other c (mark_of (c ∷ z))
unfolding meaning judged
other_means c z h = ap (λ t. judged t c z) h

pub no_mark : (c : ℕ) (z : Text) → front_mark (c ∷ z) ≡ None → mark_of (c ∷ []) ≡ None
unfolding front_mark mark_of
no_mark c z e = no_front marks (c ∷ z) 1 e

ordered : descending marks ≡ true
ordered = refl

mark_row : (text : Text) (n : ℕ) (m : Mark) → front_mark text ≡ Some (n, m) → FrontRow marks text n m
unfolding front_mark
mark_row text n m e = front_row marks text n m ordered e

pub mark_here : (text : Text) (n : ℕ) (m : Mark) → front_mark text ≡ Some (n, m) → mark_of (take n text) ≡ Some m
unfolding mark_of
mark_here text n m e = (mark_row text n m e).here

pub mark_moves : (text : Text) (n : ℕ) (m : Mark) → front_mark text ≡ Some (n, m) → 1 ≤ n
unfolding mark_of
mark_moves text zero m e = absurd (let h = mark_here text zero m e in cc)
mark_moves text (suc n) m e = omega arith

pub mark_longest : (c : ℕ) (z : Text) (n : ℕ) (m : Mark) → class_of c ≡ Other → front_mark (c ∷ z) ≡ Some (n, m) → IsLongest (c ∷ z) n
unfolding belong mark_of
mark_longest c z zero m h e = absurd (let l = mark_moves (c ∷ z) zero m e in omega arith)
mark_longest c z (suc n) m h e =
    let r = mark_row (c ∷ z) (suc n) m e in
    longest_from Other c z n h (record {
      within = let w = r.within in omega arith;
      here = let g = r.here in rw g (or-true (bytes_eq (take n z) []));
      beyond = λ j lt le. let f = not_empty z j (omega arith) le in let g = r.beyond (suc j) (omega arith) (omega arith) in rw (f, g) refl;
    })

-- ---- the same, of a text by its class

pub has_class : (k : Class) (text : Text) → 0 < length text → class_of (get_or text 0 0) ≡ k → HasClass k text
has_class k [] l h = absurd (omega arith)
has_class k (c ∷ z) l h = h

pub good_feed : (text : Text) → HasClass Return text → begins (10 ∷ []) (drop 1 text) ≡ true → IsGood text shape.Break 2
good_feed [] h b = absurd h
good_feed (c ∷ []) h b = cc
good_feed (c ∷ d ∷ z) h b =
    let e = eqb-true 10 d (and_left (eqb 10 d) true b) in
    subst (λ x. IsGood (c ∷ x ∷ z) shape.Break 2) e (return_feed c z h)

pub good_return : (text : Text) → HasClass Return text → begins (10 ∷ []) (drop 1 text) ≡ false → IsGood text shape.Break 1
good_return [] h b = absurd h
good_return (c ∷ z) h b = return_only c z h b

spacing_front : (c : ℕ) (z : Text) (s : Shape) → spacing c ≡ Some s → front_mark (c ∷ z) ≡ None
unfolding front_mark
spacing_front c z s h =
    elim (cases_Bool (c == 32)) [
      | inl t ↦ subst (λ x. front_mark (x ∷ z) ≡ None) (sym (eqb-true c 32 t)) refl
      | inr f ↦ elim (cases_Bool (c == 9)) [
        | inl t ↦ subst (λ x. front_mark (x ∷ z) ≡ None) (sym (eqb-true c 9 t)) refl
        | inr g ↦ elim (cases_Bool (c == 10)) [
          | inl t ↦ subst (λ x. front_mark (x ∷ z) ≡ None) (sym (eqb-true c 10 t)) refl
          | inr k ↦ absurd (let e = rw (f, g, k) at h in cc)
        ]
      ]
    ]

pub good_spacing : (text : Text) (c : ℕ) (s : Shape) → HasClass Other text → c ≡ get_or text 0 0 → spacing c ≡ Some s → IsGood text s 1
good_spacing [] c s h e b = absurd h
good_spacing (d ∷ z) c s h e b =
    let k : spacing d ≡ Some s = ap spacing (sym e) ∙ b in
    let f = spacing_front d z s k in
    record {
      longest = other_alone d z h f;
      means = other_means d [] h ∙ ap (λ b. spacing_or b (mark_of (d ∷ []))) k;
      moves = omega arith;
    }

pub good_mark : (text : Text) (c n : ℕ) (m : Mark) → HasClass Other text → c ≡ get_or text 0 0 → spacing c ≡ None → front_mark text ≡ Some (n, m) → IsGood text (shape.Token (kind.Mark m)) n
good_mark [] c n m h e b f = absurd h
good_mark (d ∷ z) c zero m h e b f = absurd (let l = mark_moves (d ∷ z) zero m f in omega arith)
good_mark (d ∷ z) c (suc n) m h e b f =
    let k : spacing d ≡ None = ap spacing (sym e) ∙ b in
    let g = mark_here (d ∷ z) (suc n) m f in
    record {
      longest = mark_longest d z (suc n) m h f;
      means = other_means d (take n z) h ∙ ap (λ b. spacing_or b (mark_of (d ∷ take n z))) k ∙ ap marked g;
      moves = omega arith;
    }

pub flawed_other : (text : Text) (c : ℕ) → HasClass Other text → c ≡ get_or text 0 0 → spacing c ≡ None → front_mark text ≡ None → IsFlawed text BadChar
flawed_other [] c h e b f = absurd h
flawed_other (d ∷ z) c h e b f =
    let k : spacing d ≡ None = ap spacing (sym e) ∙ b in
    let g = no_mark d z f in
    (1, other_alone d z h f, other_means d [] h ∙ ap (λ b. spacing_or b (mark_of (d ∷ []))) k ∙ ap marked g)

pub class_length : (k : Class) (text : Text) → HasClass k text → 0 < length text
class_length k [] h = absurd h
class_length k (c ∷ z) h = omega arith

pub good_string : (text tail : Text) (c n : ℕ) → HasClass Quote text → c ≡ get_or text 0 0 → tail ≡ drop 1 text → Extends Quote c tail n → string_flaw c (take n tail) ≡ None → IsGood text (shape.Token kind.Str) (1 + n)
good_string text tail c n h e t x f = record {
  longest = longest_after Quote text n h (subst (λ d. Extends Quote d (drop 1 text) n) e (subst (λ y. Extends Quote c y n) t x));
  means = string_means text h n ∙ ap (λ o. as_token (ended o)) ((λ i. string_flaw (sym e i) (take n (sym t i))) ∙ f);
  moves = omega arith;
}

pub flawed_string : (text tail : Text) (c n : ℕ) (f : Flaw) → HasClass Quote text → c ≡ get_or text 0 0 → tail ≡ drop 1 text → Extends Quote c tail n → string_flaw c (take n tail) ≡ Some f → IsFlawed text f
flawed_string text tail c n f h e t x g =
    (1 + n, longest_after Quote text n h (subst (λ d. Extends Quote d (drop 1 text) n) e (subst (λ y. Extends Quote c y n) t x)), string_means text h n ∙ ap (λ o. as_token (ended o)) ((λ i. string_flaw (sym e i) (take n (sym t i))) ∙ g))

pub good_number : (text piece tail : Text) (n : ℕ) (k : TokenKind) → HasClass Digit text → tail ≡ drop 1 text → n ≡ prefix_len continues tail → piece ≡ take (1 + n) text → number piece ≡ Ok k → IsGood text (shape.Token k) (1 + n)
good_number text piece tail n k h t e p m = record {
  longest = number_longest text h n (e ∙ ap (prefix_len continues) t);
  means = number_means text h n ∙ ap (λ z. as_token (number z)) (sym p) ∙ ap as_token m;
  moves = omega arith;
}

pub flawed_number : (text piece tail : Text) (n : ℕ) (f : Flaw) → HasClass Digit text → tail ≡ drop 1 text → n ≡ prefix_len continues tail → piece ≡ take (1 + n) text → number piece ≡ Err f → IsFlawed text f
flawed_number text piece tail n f h t e p m =
    (1 + n, number_longest text h n (e ∙ ap (prefix_len continues) t), number_means text h n ∙ ap (λ z. as_token (number z)) (sym p) ∙ ap as_token m)

pub good_name : (text piece tail : Text) (n : ℕ) (k : TokenKind) → HasClass Letter text → tail ≡ drop 1 text → n ≡ prefix_len continues tail → piece ≡ take (1 + n) text → name piece ≡ Ok k → IsGood text (shape.Token k) (1 + n)
good_name text piece tail n k h t e p m = record {
  longest = name_longest text h n (e ∙ ap (prefix_len continues) t);
  means = name_means text h n ∙ ap (λ z. as_token (name z)) (sym p) ∙ ap as_token m;
  moves = omega arith;
}

pub flawed_name : (text piece tail : Text) (n : ℕ) (f : Flaw) → HasClass Letter text → tail ≡ drop 1 text → n ≡ prefix_len continues tail → piece ≡ take (1 + n) text → name piece ≡ Err f → IsFlawed text f
flawed_name text piece tail n f h t e p m =
    (1 + n, name_longest text h n (e ∙ ap (prefix_len continues) t), name_means text h n ∙ ap (λ z. as_token (name z)) (sym p) ∙ ap as_token m)

-- ---- flaws and want of memory

pub map_flaw : (e : Stop) (P Q : Flaw → Type 0) → ((f : Flaw) → P f → Q f) → IfFlaw e P → IfFlaw e Q
map_flaw (stop.Flaw f) P Q h p = h f p
map_flaw stop.NoMemory P Q h p = tt

-- ---- an element, at a default

pub at_default : (z : Text) (k x : ℕ) → k < length z → x ≡ get_or z k x → x ≡ get_or z k 0
at_default z k x l e = grind (arith, common_steps)

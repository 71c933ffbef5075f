-- Where a string ends, step by step.
use Rattle.std.proofs.Common.{◌≡◌, ℕ, zero, suc, ◌+◌, ◌<◌, ◌≤◌, Bool, true, false, ◌&&◌, ◌==◌, [], ◌∷◌, length, take, drop, get_or, nat_le, Option, Some, None, refl, sym, ap, subst, ◌∙◌, arith, inl, inr, length-take-le, if◌then◌else◌}
use Rattle.std.proofs.lemmas.Bool.{cases_Bool, cases_lt, eqb-true, eq-eqb}
use Rattle.std.proofs.Math.Bool.{or-false}
use Rattle.std.specs.Str.{bytes_eq}
use Rattle.pyd_lex.specs.declared.fault.Flaw.{Flaw}
use Rattle.pyd_lex.specs.declared.fault.Flaw.TheVariants.{BadChar, BadString}
use Rattle.pyd_lex.specs.declared.run.Class.TheVariants.{Quote}
use Rattle.pyd_lex.specs.declared.string.Part.{Part}
use Rattle.pyd_lex.specs.declared.string.Part.TheVariants.{Close, Nul, Backslash, BareBreak, Plain}
use Rattle.pyd_lex.specs.Words.{Text, begins}
use Rattle.pyd_lex.specs.Strings.{part, part_of, inside, flaw, escape, one, three, is_triple, is_string, string_flaw, spelled, rest_of, more, is_break}
use Rattle.pyd_lex.specs.declared.string.Quotes.{Quotes}
use Rattle.pyd_lex.specs.Spelling.{IsLast, Extends, belong}
use Rattle.pyd_lex.specs.Quoted.{Ends, IsBroken, Skips, spelling}
use Rattle.pyd_lex.proofs.Words.{and_left, and_right, not_begins_take, begins_longer, begins_front, begins_length, begins_itself, same_itself, differ_length}
use Rattle.pyd_lex.proofs.Spelling.{last_exists}

module _ (q : Text) where
  part_is : (z : Text) (c : ℕ) → begins q (c ∷ z) ≡ false → part q (c ∷ z) ≡ part_of q c
  unfolding part
  part_is z c h = ap (λ b. if b then Close else part_of q c) h

  pub part_close : (z : Text) (c : ℕ) → begins q (c ∷ z) ≡ true → part q (c ∷ z) ≡ Close
  unfolding part
  part_close z c h = ap (λ b. if b then Close else part_of q c) h

  -- a part that doesn't close is the same in a front part of the text
  pub part_kept : (z : Text) (c i : ℕ) (p : Part) → (p ≡ Close → ⊥) → part q (c ∷ z) ≡ p → part q (c ∷ take i z) ≡ p
  part_kept z c i p stays e =
      elim (cases_Bool (begins q (c ∷ z))) [
        | inl t ↦ absurd (stays (sym e ∙ part_close z c t))
        | inr f ↦ part_is (take i z) c (not_begins_take q (c ∷ z) (suc i) f) ∙ sym (part_is z c f) ∙ e
      ]

  inside_plain : (c : ℕ) (v : Text) → part q (c ∷ v) ≡ Plain → inside q (c ∷ v) ≡ inside q v
  unfolding inside
  inside_plain c [] e = refl
  inside_plain c (d ∷ v) e = rw (e, inside)

  flaw_plain : (c : ℕ) (v : Text) → part q (c ∷ v) ≡ Plain → flaw q (c ∷ v) ≡ flaw q v
  unfolding flaw
  flaw_plain c [] e = rw (e, flaw)
  flaw_plain c (d ∷ v) e = rw (e, flaw)

  inside_escape : (c d : ℕ) (v : Text) → part q (c ∷ d ∷ v) ≡ Backslash → inside q (c ∷ d ∷ v) ≡ inside q v
  unfolding inside
  inside_escape c d v e = rw (e, inside)

  flaw_escape : (c d x : ℕ) (v : Text) → part q (c ∷ d ∷ v) ≡ Backslash → escape d ≡ Some x → flaw q (c ∷ d ∷ v) ≡ flaw q v
  unfolding flaw
  flaw_escape c d x v e h = rw (e, h, flaw)

  not_plain : Plain ≡ Close → ⊥
  not_plain e = cc

  not_backslash : Backslash ≡ Close → ⊥
  not_backslash e = cc

  pub ends_plain : (c : ℕ) (z : Text) (n : ℕ) (f : Option Flaw) → part q (c ∷ z) ≡ Plain → Ends q z n f → Ends q (c ∷ z) (suc n) f
  ends_plain c z n f e h =
      let last = h.last in
      record {
        last = record {
          within = let w = last.within in omega arith;
          here = inside_plain c (take n z) (part_kept z c n Plain not_plain e) ∙ last.here;
          beyond = λ j lt le. elim j as (λ i. suc n < i → i ≤ suc (length z) → inside q (take i (c ∷ z)) ≡ false) [
            | zero ↦ λ l m. absurd (omega arith)
            | suc i ↦ λ l m. inside_plain c (take i z) (part_kept z c i Plain not_plain e) ∙ last.beyond i (omega arith) (omega arith)
          ] lt le;
        };
        flawed = flaw_plain c (take n z) (part_kept z c n Plain not_plain e) ∙ h.flawed;
      }

  pub ends_escape : (c d x : ℕ) (z : Text) (n : ℕ) (f : Option Flaw) → part q (c ∷ d ∷ z) ≡ Backslash → escape d ≡ Some x → Ends q z n f → Ends q (c ∷ d ∷ z) (suc (suc n)) f
  unfolding inside
  ends_escape c d x z n f e s h =
      let last = h.last in
      record {
        last = record {
          within = let w = last.within in omega arith;
          here = inside_escape c d (take n z) (part_kept (d ∷ z) c (suc n) Backslash not_backslash e) ∙ last.here;
          beyond = λ j lt le. elim j as (λ i. suc (suc n) < i → i ≤ suc (suc (length z)) → inside q (take i (c ∷ d ∷ z)) ≡ false) [
            | zero ↦ λ l m. absurd (omega arith)
            | suc i ↦ λ l m. elim i as (λ k. suc (suc n) < suc k → suc k ≤ suc (suc (length z)) → inside q (c ∷ take k (d ∷ z)) ≡ false) [
              | zero ↦ λ l m. absurd (omega arith)
              | suc k ↦ λ l m. inside_escape c d (take k z) (part_kept (d ∷ z) c (suc k) Backslash not_backslash e) ∙ last.beyond k (omega arith) (omega arith)
            ] l m
          ] lt le;
        };
        flawed = flaw_escape c d x (take n z) (part_kept (d ∷ z) c (suc n) Backslash not_backslash e) s ∙ h.flawed;
      }

  -- at the end of the text the closing quotes are missing
  pub ends_missing : Ends q [] 0 (Some BadString)
  unfolding inside flaw
  ends_missing = record {
    last = record { within = omega arith; here = refl; beyond = λ j lt le. absurd (omega arith) };
    flawed = refl;
  }

  inside_close : (w : Text) → begins q w ≡ true → 1 < length w → inside q w ≡ bytes_eq q w
  unfolding inside
  inside_close [] b l = absurd (omega arith)
  inside_close (c ∷ []) b l = absurd (omega arith)
  inside_close (c ∷ d ∷ w) b l = rw (part_close (d ∷ w) c b, inside)

  inside_short : (w : Text) → length w ≤ 1 → inside q w ≡ true
  unfolding inside
  inside_short [] l = refl
  inside_short (c ∷ []) l = refl
  inside_short (c ∷ d ∷ w) l = absurd (omega arith)

  flaw_close : (w : Text) → 1 ≤ length w → begins q w ≡ true → flaw q w ≡ None
  unfolding flaw
  flaw_close [] l b = absurd (omega arith)
  flaw_close (c ∷ []) l b = rw (part_close [] c b, flaw)
  flaw_close (c ∷ d ∷ w) l b = rw (part_close (d ∷ w) c b, flaw)

  inside_itself : inside q q ≡ true
  inside_itself =
      elim (cases_lt 1 (length q)) [
        | inl l ↦ inside_close q (begins_itself q) l ∙ same_itself q
        | inr l ↦ inside_short q l
      ]

  -- the closing quotes are at the front
  pub ends_close : (z : Text) → 1 ≤ length q → begins q z ≡ true → Ends q z (length q) None
  ends_close z l b =
      let front = begins_front q z b in
      record {
        last = record {
          within = begins_length q z b;
          here = rw front inside_itself;
          beyond = λ j lt le.
              let k = length-take-le j z le in
              inside_close (take j z) (begins_longer q z j b (omega arith)) (omega arith) ∙ differ_length q (take j z) (omega arith);
        };
        flawed = rw front (flaw_close q l (begins_itself q));
      }

  -- what is wrong at the front stays wrong, however long the string is
  at_least : (text : Text) (n k : ℕ) → IsLast (λ j. inside q (take j text)) (length text) n → k ≤ length text → inside q (take k text) ≡ true → k ≤ n
  at_least text n k last le h =
      elim (cases_lt n k) [ inl lt ↦ absurd (let f = last.beyond k lt le in cc) | inr m ↦ m ]

  ends_some : (text : Text) → (n : ℕ) × IsLast (λ j. inside q (take j text)) (length text) n
  unfolding inside
  ends_some text = last_exists (λ j. inside q (take j text)) (length text) refl

  flaw_nul : (c : ℕ) (v : Text) → part q (c ∷ v) ≡ Nul → flaw q (c ∷ v) ≡ Some BadChar
  unfolding flaw
  flaw_nul c [] e = rw (e, flaw)
  flaw_nul c (d ∷ v) e = rw (e, flaw)

  flaw_break : (c : ℕ) (v : Text) → part q (c ∷ v) ≡ BareBreak → flaw q (c ∷ v) ≡ Some BadString
  unfolding flaw
  flaw_break c [] e = rw (e, flaw)
  flaw_break c (d ∷ v) e = rw (e, flaw)

  first_kept : (c : ℕ) (z : Text) (n : ℕ) (f : Option Flaw) → 1 ≤ n → ((i : ℕ) → flaw q (c ∷ take i z) ≡ f) → flaw q (take n (c ∷ z)) ≡ f
  first_kept c z zero f l h = absurd (omega arith)
  first_kept c z (suc n) f l h = h n

  broken_by : (c : ℕ) (z : Text) (f : Flaw) → ((i : ℕ) → flaw q (c ∷ take i z) ≡ Some f) → IsBroken q (c ∷ z) f
  unfolding inside
  broken_by c z f h =
      let r = ends_some (c ∷ z) in (
        r.0,
        record {
          last = r.1;
          flawed = first_kept c z r.0 (Some f) (at_least (c ∷ z) r.0 1 r.1 (omega arith) refl) h;
        },
      )

  pub broken_nul : (c : ℕ) (z : Text) → part q (c ∷ z) ≡ Nul → IsBroken q (c ∷ z) BadChar
  broken_nul c z e = broken_by c z BadChar (λ i. flaw_nul c (take i z) (part_kept z c i Nul (λ x. cc) e))

  pub broken_break : (c : ℕ) (z : Text) → part q (c ∷ z) ≡ BareBreak → IsBroken q (c ∷ z) BadString
  broken_break c z e = broken_by c z BadString (λ i. flaw_break c (take i z) (part_kept z c i BareBreak (λ x. cc) e))

  flaw_alone : (c : ℕ) → part q (c ∷ []) ≡ Backslash → flaw q (c ∷ []) ≡ Some BadString
  unfolding flaw
  flaw_alone c e = rw (e, flaw)

  pub broken_end : (c : ℕ) → part q (c ∷ []) ≡ Backslash → IsBroken q (c ∷ []) BadString
  broken_end c e = broken_by c [] BadString (λ i. elim i as (λ k. flaw q (c ∷ take k []) ≡ Some BadString) [ zero ↦ flaw_alone c e | suc k ↦ flaw_alone c e ])

  flaw_bad : (c d : ℕ) (v : Text) → part q (c ∷ d ∷ v) ≡ Backslash → escape d ≡ None → flaw q (c ∷ d ∷ v) ≡ Some BadString
  unfolding flaw
  flaw_bad c d v e h = rw (e, h, flaw)

  pub broken_escape : (c d : ℕ) (z : Text) → part q (c ∷ d ∷ z) ≡ Backslash → escape d ≡ None → IsBroken q (c ∷ d ∷ z) BadString
  unfolding inside
  broken_escape c d z e h =
      broken_by c (d ∷ z) BadString (λ i. elim i as (λ k. flaw q (c ∷ take k (d ∷ z)) ≡ Some BadString) [
        | zero ↦ flaw_alone c (part_kept (d ∷ z) c 0 Backslash not_backslash e)
        | suc k ↦ flaw_bad c d (take k z) (part_kept (d ∷ z) c (suc k) Backslash not_backslash e) h
      ])

one_after : (n : ℕ) → suc n ≡ 1 + n
one_after n = omega arith

two_after : (n : ℕ) → suc (suc n) ≡ 2 + n
two_after n = omega arith

bare : (b : Bool) (c : ℕ) → (if b then BareBreak else Plain) ≡ Close → ⊥
bare true c e = cc
bare false c e = cc

-- ---- a whole text by what is at its front

module _ (q : Text) where
  not_close : (c : ℕ) → part_of q c ≡ Close → ⊥
  not_close c e =
      elim (cases_Bool (c == 0)) [
        | inl t ↦ let k = rw t at e in cc
        | inr f ↦ elim (cases_Bool (c == 92)) [
          | inl t ↦ let k = rw (f, t) at e in cc
          | inr g ↦ let k = rw (f, g) at e in bare (is_break c && nat_le (length q) 1) c k
        ]
      ]

  pub step_plain : (text : Text) → 0 < length text → part q text ≡ Plain → Skips q text 1
  step_plain [] l e = absurd (omega arith)
  step_plain (c ∷ z) l e = record {
    moves = omega arith;
    within = omega arith;
    same = λ n f h. subst (λ m. Ends q (c ∷ z) m f) (one_after n) (ends_plain q c z n f e h);
  }

  pub step_nul : (text : Text) → 0 < length text → part q text ≡ Nul → IsBroken q text BadChar
  step_nul [] l e = absurd (omega arith)
  step_nul (c ∷ z) l e = broken_nul q c z e

  pub step_break : (text : Text) → 0 < length text → part q text ≡ BareBreak → IsBroken q text BadString
  step_break [] l e = absurd (omega arith)
  step_break (c ∷ z) l e = broken_break q c z e

  pub step_close : (text : Text) → 0 < length text → part q text ≡ Close → begins q text ≡ true
  step_close [] l e = absurd (omega arith)
  step_close (c ∷ z) l e =
      elim (cases_Bool (begins q (c ∷ z))) [
        | inl t ↦ t
        | inr f ↦ absurd (let k = sym (part_is q z c f) ∙ e in not_close c k)
      ]

  pub step_end : (text : Text) → 0 < length text → length text ≡ 1 → part q text ≡ Backslash → IsBroken q text BadString
  step_end [] l m e = absurd (omega arith)
  step_end (c ∷ []) l m e = broken_end q c e
  step_end (c ∷ d ∷ z) l m e = absurd (omega arith)

  pub step_escape : (text : Text) (x : ℕ) → 1 < length text → part q text ≡ Backslash → escape (get_or text 1 0) ≡ Some x → Skips q text 2
  step_escape [] x l e h = absurd (omega arith)
  step_escape (c ∷ []) x l e h = absurd (omega arith)
  step_escape (c ∷ d ∷ z) x l e h = record {
    moves = omega arith;
    within = omega arith;
    same = λ n f k. subst (λ m. Ends q (c ∷ d ∷ z) m f) (two_after n) (ends_escape q c d x z n f e h k);
  }

  pub step_bad : (text : Text) → 1 < length text → part q text ≡ Backslash → escape (get_or text 1 0) ≡ None → IsBroken q text BadString
  step_bad [] l e h = absurd (omega arith)
  step_bad (c ∷ []) l e h = absurd (omega arith)
  step_bad (c ∷ d ∷ z) l e h = broken_escape q c d z e h

none_more : (n : ℕ) → n ≡ 0 + n
none_more n = omega arith

-- a string of one or of three quotes ends where what is after its opening quotes does
module _ (c : ℕ) where
  two : (z : Text) → is_triple c z ≡ true → z ≡ c ∷ c ∷ drop 2 z
  two [] h = cc
  two (a ∷ []) h = absurd (let k = and_right (c == a) false h in cc)
  two (a ∷ b ∷ z) h =
      let e = eqb-true c a (and_left (c == a) ((c == b) && true) h) in
      let f = eqb-true c b (and_left (c == b) true (and_right (c == a) ((c == b) && true) h)) in
      λ i. sym e i ∷ sym f i ∷ z

  not_one : (v : Text) → inside (one c) (c ∷ c ∷ v) ≡ false
  unfolding inside
  not_one v = let e = part_close (one c) (c ∷ v) c (begins_itself (one c)) in rw (e, inside) (differ_length (one c) (c ∷ c ∷ v) (omega arith))

  triple_itself : (v : Text) → is_triple c (c ∷ c ∷ v) ≡ true
  triple_itself v = let e = eq-eqb c c refl in rw e

  triple_string : (v : Text) → is_string c (c ∷ c ∷ v) ≡ inside (three c) v
  triple_string v = let e = not_one v in let f = triple_itself v in rw (e, f)

  single_string : (v : Text) → is_triple c v ≡ false → is_string c v ≡ inside (one c) v
  single_string v h = rw h (or-false (inside (one c) v))

  triple_flaw : (v : Text) → string_flaw c (c ∷ c ∷ v) ≡ flaw (three c) v
  triple_flaw v = let f = triple_itself v in rw f

  pub string_triple : (rest : Text) (n : ℕ) (f : Option Flaw) → Ends (three c) rest n f → Extends Quote c (c ∷ c ∷ rest) (suc (suc n)) × (string_flaw c (take (suc (suc n)) (c ∷ c ∷ rest)) ≡ f)
  unfolding belong inside
  string_triple rest n f h =
      let last = h.last in (
        record {
          within = let w = last.within in omega arith;
          here = triple_string (take n rest) ∙ last.here;
          beyond = λ j lt le. elim j as (λ i. suc (suc n) < i → i ≤ suc (suc (length rest)) → is_string c (take i (c ∷ c ∷ rest)) ≡ false) [
            | zero ↦ λ l m. absurd (omega arith)
            | suc i ↦ λ l m. elim i as (λ k. suc (suc n) < suc k → suc k ≤ suc (suc (length rest)) → is_string c (c ∷ take k (c ∷ rest)) ≡ false) [
              | zero ↦ λ l m. absurd (omega arith)
              | suc k ↦ λ l m. triple_string (take k rest) ∙ last.beyond k (omega arith) (omega arith)
            ] l m
          ] lt le;
        },
        triple_flaw (take n rest) ∙ h.flawed,
      )

  pub string_single : (z : Text) (n : ℕ) (f : Option Flaw) → is_triple c z ≡ false → Ends (one c) z n f → Extends Quote c z n × (string_flaw c (take n z) ≡ f)
  unfolding belong
  string_single z n f h e =
      let last = e.last in (
        record {
          within = last.within;
          here = single_string (take n z) (not_begins_take (c ∷ c ∷ []) z n h) ∙ last.here;
          beyond = λ j lt le. single_string (take j z) (not_begins_take (c ∷ c ∷ []) z j h) ∙ last.beyond j lt le;
        },
        (let g = not_begins_take (c ∷ c ∷ []) z n h in rw g e.flawed),
      )

  -- after the quotes that are there
  pub string_ends : (z : Text) (n : ℕ) (f : Option Flaw) → Ends (spelled (is_triple c z) c) (rest_of (is_triple c z) z) n f → Extends Quote c z (more (is_triple c z) + n) × (string_flaw c (take (more (is_triple c z) + n) z) ≡ f)
  string_ends z n f h =
      elim (cases_Bool (is_triple c z)) [
        | inl t ↦
            let g : Ends (three c) (drop 2 z) n f = subst (λ b. Ends (spelled b c) (rest_of b z) n f) t h in
            let r = string_triple (drop 2 z) n f g in
            subst (λ b. Extends Quote c z (more b + n) × (string_flaw c (take (more b + n) z) ≡ f)) (sym t)
            (subst (λ m. Extends Quote c z m × (string_flaw c (take m z) ≡ f)) (two_after n)
            (subst (λ y. Extends Quote c y (suc (suc n)) × (string_flaw c (take (suc (suc n)) y) ≡ f)) (sym (two z t)) r))
        | inr e ↦
            let g : Ends (one c) z n f = subst (λ b. Ends (spelled b c) (rest_of b z) n f) e h in
            let r = string_single z n f e g in
            subst (λ b. Extends Quote c z (more b + n) × (string_flaw c (take (more b + n) z) ≡ f)) (sym e)
            (subst (λ m. Extends Quote c z m × (string_flaw c (take m z) ≡ f)) (none_more n) r)
      ]

-- a string by its quotes and what is after them
pub string_whole : (quote : ℕ) (tail text : Text) (q : Quotes) (m n : ℕ) (f : Option Flaw) → q ≡ record { quote = quote; triple = is_triple quote tail } → m ≡ more q.triple → text ≡ drop m tail → Ends (spelling q) text n f → Extends Quote quote tail (m + n) × (string_flaw quote (take (m + n) tail) ≡ f)
string_whole quote tail text q m n f e h t x =
    let k : m ≡ more (is_triple quote tail) = h ∙ ap (λ r. more r.triple) e in
    let g : text ≡ rest_of (is_triple quote tail) tail = t ∙ ap (λ i. drop i tail) k in
    subst (λ i. Extends Quote quote tail (i + n) × (string_flaw quote (take (i + n) tail) ≡ f)) (sym k)
    (string_ends quote tail n f (subst (λ r. Ends (spelling r) (rest_of (is_triple quote tail) tail) n f) e (subst (λ y. Ends (spelling q) y n f) g x)))

spelling_length : (b : Bool) (c : ℕ) → length (spelled b c) ≡ more b + 1
spelling_length true c = refl
spelling_length false c = refl

-- ---- a string from its front on

abbrev pub Behind : Text → Text → Text → ℕ → Type 0
Behind q text rest n = (m : ℕ) (f : Option Flaw) → Ends q rest m f → Ends q text (n + m) f

pub body_close : (q : Quotes) (text rest : Text) (n m : ℕ) → m ≡ more q.triple → Behind (spelling q) text rest n → begins (spelling q) rest ≡ true → Ends (spelling q) text (n + m + 1) None
body_close q text rest n m e h b =
    let l = spelling_length q.triple q.quote in
    subst (λ k. Ends (spelling q) text k None) (omega arith) (h (length (spelling q)) None (ends_close (spelling q) rest (omega arith) b))

pub body_broken : (q text rest : Text) (n : ℕ) (f : Flaw) → Behind q text rest n → IsBroken q rest f → IsBroken q text f
body_broken q text rest n f h b = (n + b.0, h b.0 (Some f) b.1)

pub body_skips : (q text rest tail : Text) (n k : ℕ) → Skips q rest k → tail ≡ drop k rest → Behind q text rest n → Behind q text tail (n + k)
body_skips q text rest tail n k s t h m f e =
    subst (λ i. Ends q text i f) (omega arith) (h (k + m) f (s.same m f (subst (λ y. Ends q y m f) t e)))

pub body_missing : (q text rest : Text) (n : ℕ) → length rest ≡ 0 → Behind q text rest n → IsBroken q text BadString
body_missing q text [] n l h = (n + 0, h 0 (Some BadString) (ends_missing q))
body_missing q text (c ∷ z) n l h = absurd (omega arith)

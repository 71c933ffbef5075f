-- Texts that begin with a spelling, and rows that are found by their spelling.
use Rattle.std.proofs.Common.{◌≡◌, ℕ, zero, suc, ◌<◌, ◌≤◌, Bool, true, false, ◌&&◌, ◌==◌, nat_le, List, [], ◌∷◌, length, take, Some, None, refl, sym, ap, subst, ◌∙◌, arith, length-take-le, inl, inr, if◌then◌else◌}
use Rattle.std.specs.List.{list_all}
use Rattle.std.specs.Str.{bytes_eq}
use Rattle.std.proofs.lemmas.Slice.Eq.{bytes_eq-Decides}
use Rattle.std.proofs.lemmas.Bool.{eqb-true, leb-true, cases_Bool}
use Rattle.pyd_lex.specs.Words.{Text, begins, first_same, first_front}

pub and_left : (x y : Bool) → (x && y) ≡ true → x ≡ true
and_left true y h = refl
and_left false y h = h

pub and_right : (x y : Bool) → (x && y) ≡ true → y ≡ true
and_right true y h = h
and_right false y h = cc

-- what begins a front part of a text begins the text
pub begins_take : (s z : Text) (j : ℕ) → begins s (take j z) ≡ true → begins s z ≡ true
begins_take [] z j h = refl
begins_take (a ∷ s) [] zero h = h
begins_take (a ∷ s) [] (suc j) h = h
begins_take (a ∷ s) (b ∷ z) zero h = cc
begins_take (a ∷ s) (b ∷ z) (suc j) h =
    let e = and_left (a == b) (begins s (take j z)) h in
    let f = begins_take s z j (and_right (a == b) (begins s (take j z)) h) in
    ap (λ t. t && begins s z) e ∙ f

pub not_begins_take : (s z : Text) (j : ℕ) → begins s z ≡ false → begins s (take j z) ≡ false
not_begins_take s z j h =
    elim (cases_Bool (begins s (take j z))) [ inl t ↦ absurd (let e = begins_take s z j t in cc) | inr f ↦ f ]

-- and any part that is long enough begins so too
pub begins_longer : (s z : Text) (j : ℕ) → begins s z ≡ true → length s ≤ j → begins s (take j z) ≡ true
begins_longer [] z j h l = refl
begins_longer (a ∷ s) [] j h l = cc
begins_longer (a ∷ s) (b ∷ z) zero h l = absurd (omega arith)
begins_longer (a ∷ s) (b ∷ z) (suc j) h l =
    let e = and_left (a == b) (begins s z) h in
    let f = begins_longer s z j (and_right (a == b) (begins s z) h) (omega arith) in
    ap (λ t. t && begins s (take j z)) e ∙ f

pub begins_front : (s z : Text) → begins s z ≡ true → take (length s) z ≡ s
begins_front [] z h = refl
begins_front (a ∷ s) [] h = cc
begins_front (a ∷ s) (b ∷ z) h =
    let e = eqb-true a b (and_left (a == b) (begins s z) h) in
    let f = begins_front s z (and_right (a == b) (begins s z) h) in
    λ i. sym e i ∷ f i

pub begins_length : (s z : Text) → begins s z ≡ true → length s ≤ length z
begins_length [] z h = omega arith
begins_length (a ∷ s) [] h = cc
begins_length (a ∷ s) (b ∷ z) h =
    let f = begins_length s z (and_right (a == b) (begins s z) h) in omega arith

pub begins_same : (s z : Text) → length s ≡ length z → begins s z ≡ bytes_eq s z
begins_same [] [] h = refl
begins_same [] (b ∷ z) h = absurd (omega arith)
begins_same (a ∷ s) [] h = absurd (omega arith)
begins_same (a ∷ s) (b ∷ z) h = ap (λ t. (a == b) && t) (begins_same s z (omega arith))

pub same_itself : (s : Text) → bytes_eq s s ≡ true
same_itself s = (bytes_eq-Decides s s).1 refl

pub same_text : (s z : Text) → bytes_eq s z ≡ true → s ≡ z
same_text s z h = (bytes_eq-Decides s z).0 h

pub differ : (s z : Text) → (s ≡ z → ⊥) → bytes_eq s z ≡ false
differ s z h = elim (cases_Bool (bytes_eq s z)) [ inl t ↦ absurd (h (same_text s z t)) | inr f ↦ f ]

pub differ_length : (s z : Text) → length s < length z → bytes_eq s z ≡ false
differ_length s z h = differ s z (λ e. let k = ap length e in omega arith)

pub begins_itself : (s : Text) → begins s s ≡ true
begins_itself s = begins_same s s refl ∙ same_itself s

-- where no spelling begins the text, none is a front part of it
differ_front : (s z : Text) (j : ℕ) → begins s z ≡ false → bytes_eq s (take j z) ≡ false
differ_front s z j h =
    differ s (take j z) (λ e.
    let b = begins_take s z j (subst (λ t. begins s t ≡ true) e (begins_itself s)) in cc)

pub some_is : {A : Type 0} (x y : A) → Some x ≡ Some y → x ≡ y
some_is x y e = cc

module _ {X : Type 0} where
  pub no_front : (rows : List (Text × X)) (z : Text) (j : ℕ) → first_front rows z ≡ None → first_same rows (take j z) ≡ None
  no_front [] z j h = refl
  no_front (row ∷ rows) z j h =
      elim (cases_Bool (begins row.0 z)) [
        | inl t ↦ absurd (let e = subst (λ b. (if b then Some (length row.0, row.1) else first_front rows z) ≡ None) t h in cc)
        | inr f ↦
            let e = subst (λ b. (if b then Some (length row.0, row.1) else first_front rows z) ≡ None) f h in
            let g = differ_front row.0 z j f in
            rw g (no_front rows z j e)
      ]

  -- each spelling is at most this long
  abbrev pub up_to : ℕ → List (Text × X) → Bool
  up_to n rows = list_all (λ row. nat_le (length row.0) n) rows

  -- no spelling is longer than one before it
  abbrev pub descending : List (Text × X) → Bool
  descending [] = true
  descending (row ∷ rows) = up_to (length row.0) rows && descending rows

  too_long : (n : ℕ) (rows : List (Text × X)) (w : Text) → up_to n rows ≡ true → n < length w → first_same rows w ≡ None
  too_long n [] w h l = refl
  too_long n (row ∷ rows) w h l =
      let k = leb-true (length row.0) n (and_left (nat_le (length row.0) n) (up_to n rows) h) in
      let g = differ_length row.0 w (omega arith) in
      rw g (too_long n rows w (and_right (nat_le (length row.0) n) (up_to n rows) h) l)

  -- the first row that begins the text, in an order by length, is the longest
  pub record FrontRow (rows : List (Text × X)) (z : Text) (n : ℕ) (x : X) : Type 0 where
    pub within : n ≤ length z
    pub here : first_same rows (take n z) ≡ Some x
    pub beyond : (j : ℕ) → n < j → j ≤ length z → first_same rows (take j z) ≡ None

  pub front_row : (rows : List (Text × X)) (z : Text) (n : ℕ) (x : X) → descending rows ≡ true → first_front rows z ≡ Some (n, x) → FrontRow rows z n x
  front_row [] z n x d h = cc
  front_row (row ∷ rows) z n x d h =
      elim (cases_Bool (begins row.0 z)) [
        | inl t ↦
            let e = subst (λ b. (if b then Some (length row.0, row.1) else first_front rows z) ≡ Some (n, x)) t h in
            let pair = some_is {A = ℕ × X} (length row.0, row.1) (n, x) e in
            let len : length row.0 ≡ n = ap (λ p. p.0) pair in
            let val : row.1 ≡ x = ap (λ p. p.1) pair in
            let front : take n z ≡ row.0 = subst (λ m. take m z ≡ row.0) len (begins_front row.0 z t) in
            record {
              within = subst (λ m. m ≤ length z) len (begins_length row.0 z t);
              here = rw front (rw (same_itself row.0) (ap Some val));
              beyond = λ j lt le.
                  let lj = length-take-le j z le in
                  let g = differ_length row.0 (take j z) (omega arith) in
                  rw g (too_long (length row.0) rows (take j z) (and_left (up_to (length row.0) rows) (descending rows) d) (omega arith));
            }
        | inr f ↦
            let e = subst (λ b. (if b then Some (length row.0, row.1) else first_front rows z) ≡ Some (n, x)) f h in
            let r = front_row rows z n x (and_right (up_to (length row.0) rows) (descending rows) d) e in
            record {
              within = r.within;
              here = let g = differ_front row.0 z n f in rw g r.here;
              beyond = λ j lt le. let g = differ_front row.0 z j f in rw g (r.beyond j lt le);
            }
      ]

-- What stands behind what was there, piece after piece.
use Rattle.std.proofs.Common.{◌≡◌, ℕ, zero, suc, Result, Ok, Err, OnOk, List, [], ◌∷◌, ◌++◌, encode_utf8, encode_utf8_all, refl, sym, ap, ◌∙◌, append_assoc, append-nil}
use Rattle.pyd_text.specs.Writing.{divider}
use Rattle.std.proofs.lemmas.Str.{encodes-append}

-- two pieces, one after another
pub then_more : (start middle end s t : List ℕ) → middle ≡ start ++ encode_utf8_all s → end ≡ middle ++ encode_utf8_all t
    → end ≡ start ++ encode_utf8_all (s ++ t)
then_more start middle end s t e f =
    f ∙ ap (λ x. x ++ encode_utf8_all t) e ∙ append_assoc start (encode_utf8_all s) (encode_utf8_all t)
    ∙ ap (λ x. start ++ x) (sym (encodes-append s t))

-- one piece more behind its divider, and what is left of them gives all
pub piece_more : (divider piece rest all left before between after whole : List ℕ)
    → all ≡ divider ++ (piece ++ rest) → left ≡ rest
    → between ≡ before ++ encode_utf8_all divider → after ≡ between ++ encode_utf8_all piece
    → before ++ encode_utf8_all all ≡ whole
    → after ++ encode_utf8_all left ≡ whole
piece_more divider piece rest all left before between after whole e f g h k =
    let both = then_more before between after divider piece g h in
    ap (λ x. after ++ encode_utf8_all x) f
    ∙ then_more before after (after ++ encode_utf8_all rest) (divider ++ piece) rest both refl
    ∙ ap (λ x. before ++ encode_utf8_all x) (append_assoc divider piece rest ∙ sym e)
    ∙ k

-- one piece more with no divider
pub piece_next : (piece rest all before after whole : List ℕ)
    → all ≡ piece ++ rest → after ≡ before ++ encode_utf8_all piece
    → before ++ encode_utf8_all all ≡ whole
    → after ++ encode_utf8_all rest ≡ whole
piece_next piece rest all before after whole e f h =
    then_more before after (after ++ encode_utf8_all rest) piece rest f refl
    ∙ ap (λ x. before ++ encode_utf8_all x) (sym e) ∙ h

-- a text between two others
pub wrapped : (start one two end front r back : List ℕ)
    → one ≡ start ++ encode_utf8_all front → two ≡ one ++ encode_utf8_all r → end ≡ two ++ encode_utf8_all back
    → end ≡ start ++ encode_utf8_all (front ++ (r ++ back))
wrapped start one two end front r back e f g = then_more start one end front (r ++ back) e (then_more one two end r back f g)

-- a divider of ASCII is its own bytes
pub divider_encodes : (sep : List ℕ) → sep ≡ encode_utf8_all sep → (i : ℕ) → divider sep i ≡ encode_utf8_all (divider sep i)
divider_encodes sep e zero = refl
divider_encodes sep e (suc i) = e

-- what follows from a fact on success
pub on_ok : {E P Q : Type 0} (r : Result (Unit {0}) E) → (P → Q) → OnOk r P → OnOk r Q
on_ok (Ok u) f p = f p
on_ok (Err e) f p = tt

-- one character
pub one_more : (c : ℕ) (before after : List ℕ) → after ≡ before ++ encode_utf8 c → after ≡ before ++ encode_utf8_all (c ∷ [])
one_more c before after e = e ∙ ap (λ x. before ++ x) (sym (append-nil (encode_utf8 c)))

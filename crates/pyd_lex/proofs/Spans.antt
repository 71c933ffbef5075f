-- The bytes between a piece's places are the piece.
use Rattle.std.proofs.Common.{◌≡◌, ℕ, zero, suc, ◌+◌, Bool, true, false, ◌&&◌, List, [], ◌∷◌, ◌++◌, length, take, drop, refl, sym, ap, subst, ◌∙◌, append_assoc, length-append, take-append-drop, encode_utf8_all, if◌then◌else◌, ◌==◌}
use Rattle.std.proofs.Math.Seq.{take-append_seam, drop-append_seam}
use Rattle.std.proofs.lemmas.Bool.{eqb-true}
use Rattle.std.proofs.lemmas.Str.{encodes-append, encodes-chars, chars-encodes, scalars-chars}
use Rattle.std.specs.Str.{IsUtf8, chars, all_scalars}
use Rattle.std.proofs.Math.Utf8.{scalar}
use Rattle.pyd_lex.specs.declared.place.Place.{Place}
use Rattle.pyd_lex.specs.Words.{Text}
use Rattle.pyd_lex.specs.Spelling.{IsCut}
use Rattle.pyd_lex.specs.Lines.{size, after}
use Rattle.pyd_lex.specs.Reads.{has_bom, without_bom, start}
use Rattle.pyd_lex.specs.Texts.{spelling_of}
use Rattle.pyd_lex.specs.Laws.{AreSpelled, Spelled}
use Rattle.pyd_lex.proofs.Words.{and_left, and_right}
use Rattle.pyd_lex.proofs.Steps.{bom_bytes}

both : (x y : Bool) → x ≡ true → y ≡ true → (x && y) ≡ true
both x y e f = ap (λ t. t && y) e ∙ f

scalars_take : (n : ℕ) (z : Text) → all_scalars z ≡ true → all_scalars (take n z) ≡ true
scalars_take zero z h = refl
scalars_take (suc n) [] h = refl
scalars_take (suc n) (c ∷ z) h =
    both (scalar c) (all_scalars (take n z)) (and_left (scalar c) (all_scalars z) h) (scalars_take n z (and_right (scalar c) (all_scalars z) h))

scalars_drop : (n : ℕ) (z : Text) → all_scalars z ≡ true → all_scalars (drop n z) ≡ true
scalars_drop zero z h = h
scalars_drop (suc n) [] h = refl
scalars_drop (suc n) (c ∷ z) h = scalars_drop n z (and_right (scalar c) (all_scalars z) h)

-- bytes that are a front, a piece and a rest
middle : (front part rest : List ℕ) (from to : ℕ) → from ≡ length front → to ≡ length front + length part → spelling_of (front ++ (part ++ rest)) from to ≡ part
middle front part rest from to f t =
    let k : to ≡ length (front ++ part) = t ∙ sym (length-append front part) in
    (λ i. drop (f i) (take (k i) (sym (append_assoc front part rest) i))) ∙ ap (drop (length front)) (take-append_seam (front ++ part) rest) ∙ drop-append_seam front part

encodes_split : (n : ℕ) (z : Text) → encode_utf8_all z ≡ encode_utf8_all (take n z) ++ encode_utf8_all (drop n z)
encodes_split n z = ap encode_utf8_all (sym (take-append-drop n z)) ∙ encodes-append (take n z) (drop n z)

spans : (bytes front : List ℕ) (p : Place) (text : Text) (pieces : List Text) → bytes ≡ front ++ encode_utf8_all text → p.at ≡ length front → all_scalars text ≡ true → IsCut text pieces → AreSpelled bytes p pieces
spans bytes front p text [] e l s c = tt
spans bytes front p text (z ∷ zs) e l s c =
    let n = length z in
    let rest = drop n text in
    let split : encode_utf8_all text ≡ encode_utf8_all z ++ encode_utf8_all rest = encodes_split n text ∙ ap (λ y. encode_utf8_all y ++ encode_utf8_all rest) (sym c.0) in
    let whole : bytes ≡ front ++ (encode_utf8_all z ++ encode_utf8_all rest) = e ∙ ap (λ y. front ++ y) split in
    let is : spelling_of bytes p.at (p.at + size z) ≡ encode_utf8_all z = ap (λ b. spelling_of b p.at (p.at + size z)) whole ∙ middle front (encode_utf8_all z) (encode_utf8_all rest) p.at (p.at + size z) l (ap (λ m. m + size z) l) in
    let scalar_z : all_scalars z ≡ true = subst (λ y. all_scalars y ≡ true) (sym c.0) (scalars_take n text s) in (
      subst IsUtf8 (sym is) (z, (scalar_z, refl)),
      ap chars is ∙ chars-encodes z scalar_z,
      spans bytes (front ++ encode_utf8_all z) (after p z) rest zs (whole ∙ sym (append_assoc front (encode_utf8_all z) (encode_utf8_all rest))) (ap (λ m. m + size z) l ∙ sym (length-append front (encode_utf8_all z))) (scalars_drop n text s) c.2,
    )

from_bom : (bytes : List ℕ) (text : Text) (pieces : List Text) (b : Bool) → encode_utf8_all text ≡ bytes → all_scalars text ≡ true → has_bom text ≡ b → IsCut (without_bom text) pieces → AreSpelled bytes (start text) pieces
from_bom bytes text pieces false e s m c =
    subst (λ t. AreSpelled bytes (record { at = if t then 3 else 0; line = 1 }) pieces) (sym m)
    (spans bytes [] (record { at = 0; line = 1 }) text pieces (sym e) refl s (subst (λ t. IsCut (if t then drop 1 text else text) pieces) m c))
from_bom bytes [] pieces true e s m c = cc
from_bom bytes (a ∷ z) pieces true e s m c =
    let k : 0xFEFF ≡ a = eqb-true 0xFEFF a (and_left (0xFEFF == a) true m) in
    let bytes_are : bytes ≡ encode_utf8_all (0xFEFF ∷ []) ++ encode_utf8_all z = sym e ∙ encodes_split 1 (a ∷ z) ∙ ap (λ x. encode_utf8_all (x ∷ []) ++ encode_utf8_all z) (sym k) in
    subst (λ t. AreSpelled bytes (record { at = if t then 3 else 0; line = 1 }) pieces) (sym m)
    (spans bytes (encode_utf8_all (0xFEFF ∷ [])) (record { at = 3; line = 1 }) z pieces bytes_are (sym bom_bytes) (scalars_drop 1 (a ∷ z) s) (subst (λ t. IsCut (if t then z else a ∷ z) pieces) m c))

pub spelled : Spelled
spelled bytes pieces u c = from_bom bytes (chars bytes) pieces (has_bom (chars bytes)) (encodes-chars bytes u) (scalars-chars bytes u) refl c

-- Texts of ASCII are their own bytes.
use Rattle.std.proofs.Common.{◌≡◌, ℕ, ◌+◌, ◌<◌, Bool, true, false, ◌&&◌, List, [], ◌∷◌, ◌++◌, length, encode_utf8_all, refl, ap, ◌∙◌, arith}
use Rattle.std.specs.Char.{is_ascii}
use Rattle.std.specs.List.{list_all}
use Rattle.std.proofs.lemmas.Bool.Decides.{nat_tests}
use Rattle.std.proofs.lemmas.Str.{encode_ascii}
use Rattle.pyd_text.specs.Writing.{byte_count}

below : (c : ℕ) → is_ascii c ≡ true → c < 128
below c h = grind (arith, nat_tests)

both : (p q : Bool) → p && q ≡ true → (p ≡ true) × (q ≡ true)
both true true e = (refl, refl)
both true false e = cc
both false q e = cc

pub plain : (s : List ℕ) → list_all is_ascii s ≡ true → encode_utf8_all s ≡ s
plain [] e = refl
plain (c ∷ s) e =
    let h = both (is_ascii c) (list_all is_ascii s) e in
    ap (λ x. x ++ encode_utf8_all s) (encode_ascii c (below c h.0)) ∙ ap (λ x. c ∷ x) (plain s h.1)

-- and take a byte for each character
pub plain_count : (s : List ℕ) → list_all is_ascii s ≡ true → byte_count s ≡ length s
plain_count s e = ap length (plain s e)

-- two of them together
pub lengths : (s t : List ℕ) → list_all is_ascii s ≡ true → list_all is_ascii t ≡ true → byte_count s + byte_count t ≡ length s + length t
lengths s t e f = ap (λ n. n + byte_count t) (plain_count s e) ∙ ap (λ n. length s + n) (plain_count t f)

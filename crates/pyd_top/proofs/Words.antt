-- A word that stands alone.
use Rattle.std.proofs.Common.{◌≡◌, ℕ, List, [], ◌∷◌, length, get_or, refl, ap, sym, ◌∙◌, arith, eqb, map, String, string_bytes, IsTrue, ◌↔◌}
use Rattle.std.specs.declared.alloc.Global.{Global}
use Rattle.std.specs.Cmp.Lexicographic.{pointwise}
use Rattle.std.proofs.lemmas.Slice.Eq.{slice_eq-Decides}
use Rattle.std.proofs.lemmas.Bool.Decides.{Decides-eqb}

-- one word is this one where its bytes are
pub alone : (words : List (String Global)) (w : String Global) (word : List ℕ) → length words ≡ 1 → w ≡ get_or words 0 w
    → IsTrue (pointwise eqb (string_bytes w) word) ↔ (map string_bytes words ≡ word ∷ [])
alone [] w word one first = absurd (omega (arith, one))
alone (v ∷ []) w word one first =
    let decides = slice_eq-Decides Decides-eqb (string_bytes w) word _ refl in (
      λ is. ap (λ bs. bs ∷ []) (ap string_bytes (sym first) ∙ decides.0 is),
      λ are. decides.1 (ap string_bytes first ∙ let e : string_bytes v ≡ word = cc are in e),
    )
alone (v ∷ u ∷ words) w word one first = absurd (omega (arith, one))

-- The bytes of lines, one line after another.
use Rattle.std.proofs.Common.{◌≡◌, ℕ, ◌+◌, ◌<◌, List, [], ◌∷◌, ◌++◌, length, slice_index_or, take, ap, sym, ◌∙◌, append_assoc, append-nil, encode_utf8_all}
use Rattle.std.proofs.lemmas.Grind.{flat_map-append}
use Rattle.std.proofs.lemmas.List.{take_more}
use Rattle.pyd_meaning.specs.Module.{bytes_of}

bytes_append : (lines more : List (List ℕ))
    → bytes_of (lines ++ more) ≡ bytes_of lines ++ bytes_of more
unfolding bytes_of
bytes_append lines more = flat_map-append (λ line. encode_utf8_all line ++ 10 ∷ []) lines more

-- the bytes of a line, and then a newline
pub bytes_line : (before line : List ℕ)
    → (before ++ encode_utf8_all line) ++ 10 ∷ [] ≡ before ++ bytes_of (line ∷ [])
unfolding bytes_of
bytes_line before line =
    append_assoc before (encode_utf8_all line) (10 ∷ [])
    ∙ ap (λ bytes. before ++ bytes) (sym (append-nil (encode_utf8_all line ++ 10 ∷ [])))

-- none
pub bytes_none : (bytes : List ℕ) → bytes ≡ [] → bytes ≡ bytes_of []
unfolding bytes_of
bytes_none bytes none = none

-- the bytes of one line more
pub bytes_more : (lines : List (List ℕ)) (i : ℕ) (line : List ℕ) → i < length lines
    → line ≡ slice_index_or lines i line
    → bytes_of (take i lines) ++ bytes_of (line ∷ []) ≡ bytes_of (take (i + 1) lines)
bytes_more lines i line within is =
    sym (ap bytes_of (take_more lines i line within
    ∙ ap (λ (l : List ℕ). take i lines ++ l ∷ []) (sym is))
    ∙ bytes_append (take i lines) (line ∷ []))

-- The tokens of bytes, or their first fault.
use Rattle.std.specs.Prelude.{◌≡◌, ℕ, Bool, ◌⊎◌, List, [], ◌∷◌, drop, Err, if◌then◌else◌}
use Rattle.std.specs.Str.{IsUtf8, chars}
use Rattle.std.specs.Str.Lossy.{utf8_valid_len}
use Rattle.pyd_lex.specs.declared.fault.LexFault.TheVariants.{Utf8}
use Rattle.pyd_lex.specs.declared.place.Place.{Place}
use Rattle.pyd_lex.specs.Words.{Text, begins}
use Rattle.pyd_lex.specs.Spelling.{IsCut}
use Rattle.pyd_lex.specs.Lines.{Answer, read}

-- whether a byte order mark, of three bytes, is at the start
abbrev pub has_bom : Text → Bool
has_bom z = begins (0xFEFF ∷ []) z

-- the text after the byte order mark
abbrev pub without_bom : Text → Text
without_bom z = if has_bom z then drop 1 z else z

-- the place where the text begins
abbrev pub start : Text → Place
start z = record { at = if has_bom z then 3 else 0; line = 1 }

-- some cut of the text has these tokens, or this fault
abbrev pub CutReads : Place → Text → Answer → Type 0
CutReads p text answer = (pieces : List Text) × IsCut text pieces × (read p pieces ≡ answer)

-- the same of the text behind its byte order mark
abbrev pub TextReads : Text → Answer → Type 0
TextReads z = CutReads (start z) (without_bom z)

-- these bytes have these tokens, or this fault
abbrev pub Reads : List ℕ → Answer → Type 0
Reads bytes answer =
    ((IsUtf8 bytes → ⊥) × (answer ≡ Err (Utf8 (utf8_valid_len bytes)))) ⊎ (IsUtf8 bytes × TextReads (chars bytes) answer)

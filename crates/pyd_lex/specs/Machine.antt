-- A machine that takes the pieces one by one, with a mode and a stack of widths.
use Rattle.std.specs.Prelude.{ℕ, ◌+◌, Bool, true, false, ◌&&◌, ◌==◌, List, [], ◌∷◌, Ok, Err}
use Rattle.pyd_lex.specs.declared.fault.LexFault.TheVariants as fault
use Rattle.pyd_lex.specs.declared.mode.Mode.{Mode}
use Rattle.pyd_lex.specs.declared.mode.Mode.TheVariants.{Indentation, Inside}
use Rattle.pyd_lex.specs.declared.place.Place.{Place}
use Rattle.pyd_lex.specs.declared.token.Shape.{Shape}
use Rattle.pyd_lex.specs.declared.token.Shape.TheVariants.{Space, Tab, Comment, Break, Token as Spelled}
use Rattle.pyd_lex.specs.declared.token.Token.{Token}
use Rattle.pyd_lex.specs.declared.token.TokenKind.TheVariants as kind
use Rattle.pyd_lex.specs.Lines.{Piece, Answer, ahead, bracket, closing, empty_at, fault_in, indented, place_of, token_at, token_if}

-- the number that a mode counts
abbrev pub count : Mode → ℕ
count (Indentation width tab) = width
count (Inside depth has_tokens) = depth

-- the mode after a piece that is no token, where the line has none so far
abbrev pub indentation_after : ℕ → Bool → Shape → Mode
indentation_after width tab Space = Indentation (width + 1) tab
indentation_after width tab Tab = Indentation (width + 1) true
indentation_after width tab Comment = Inside 0 false
indentation_after width tab Break = Indentation 0 false
indentation_after width tab (Spelled k) = Indentation width tab

-- the end of a line that the text's end leaves unfinished
abbrev pub unfinished : Mode → Place → List Token
unfinished (Indentation width tab) end = []
unfinished (Inside depth has_tokens) end = token_if (has_tokens && (depth == 0)) (empty_at kind.Newline end)

-- a line that begins here with this width, where no tab is before it
abbrev pub started : Bool → ℕ → Place → List ℕ → (List ℕ → Answer) → Answer
started true w p ws next = Err (fault.Tab p.line)
started false w p ws next = indented w p ws next

-- the tokens of the pieces from this mode and these widths on, or the first fault
unfoldable pub run : Place → List Piece → Mode → List ℕ → Answer
run end [] mode ws = ahead (unfinished mode end) (Ok (closing end ws))
run end (p ∷ ps) (Indentation width tab) ws =
    elim (p.means) [
      | Err f ↦ started tab width (place_of p) ws (λ vs. Err (fault_in f p.line))
      | Ok s ↦ elim s [
        | Spelled k ↦ started tab width (place_of p) ws (λ vs. ahead (token_at k p ∷ []) (run end ps (Inside (bracket 0 k) true) vs))
        | Break ↦ run end ps (Indentation 0 false) ws
        | Space ↦ run end ps (Indentation (width + 1) tab) ws
        | Tab ↦ run end ps (Indentation (width + 1) true) ws
        | Comment ↦ run end ps (Inside 0 false) ws
      ]
    ]
run end (p ∷ ps) (Inside depth has_tokens) ws =
    elim (p.means) [
      | Err f ↦ Err (fault_in f p.line)
      | Ok s ↦ elim s [
        | Spelled k ↦ ahead (token_if has_tokens (token_at k p)) (run end ps (Inside (bracket depth k) has_tokens) ws)
        | Break ↦ elim (depth == 0) [
          | true ↦ ahead (token_if has_tokens (token_at kind.Newline p)) (run end ps (Indentation 0 false) ws)
          | false ↦ run end ps (Inside depth has_tokens) ws
        ]
        | Space ↦ run end ps (Inside depth has_tokens) ws
        | Tab ↦ run end ps (Inside depth has_tokens) ws
        | Comment ↦ run end ps (Inside depth has_tokens) ws
      ]
    ]

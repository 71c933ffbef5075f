-- Pieces at their places, the logical lines that they make, and the tokens of these.
use Rattle.std.specs.Prelude.{ℕ, ◌+◌, ◌-◌, Bool, true, false, not, ◌&&◌, ◌||◌, ◌==◌, nat_lt, List, [], ◌∷◌, ◌++◌, length, Result, Ok, Err, if◌then◌else◌, encode_utf8_all}
use Rattle.pyd_lex.specs.declared.fault.Flaw.{Flaw}
use Rattle.pyd_lex.specs.declared.fault.Flaw.TheVariants as flaw
use Rattle.pyd_lex.specs.declared.fault.LexFault.{LexFault}
use Rattle.pyd_lex.specs.declared.fault.LexFault.TheVariants as fault
use Rattle.pyd_lex.specs.declared.mark.Mark.TheVariants.{LeftParen, RightParen, LeftBracket, RightBracket}
use Rattle.pyd_lex.specs.declared.place.Place.{Place}
use Rattle.pyd_lex.specs.declared.token.Shape.TheVariants.{Space, Tab, Comment, Break, Token as Spelled}
use Rattle.pyd_lex.specs.declared.token.Token.{Token}
use Rattle.pyd_lex.specs.declared.token.TokenKind.{TokenKind}
use Rattle.pyd_lex.specs.declared.token.TokenKind.TheVariants as kind
use Rattle.pyd_lex.specs.Words.{Text, begins}
use Rattle.pyd_lex.specs.Meaning.{Judged, meaning}

-- ---- places

-- whether a line ends with c before z; a carriage return before a line feed ends none
abbrev pub is_end : ℕ → Text → Bool
is_end c z = c == 10 || (c == 13 && not (begins (10 ∷ []) z))

-- the line ends in a piece
abbrev pub ends : Text → ℕ
ends [] = 0
ends (c ∷ z) = (if is_end c z then 1 else 0) + ends z

-- the bytes of a piece
abbrev pub size : Text → ℕ
size z = length (encode_utf8_all z)

-- the place after a piece
abbrev pub after : Place → Text → Place
after p z = record { at = p.at + size z; line = p.line + ends z }

-- what a piece means, its first byte, the byte after it and the line that it begins in
pub record Piece : Type 0 where
  pub means : Judged
  pub from : ℕ
  pub to : ℕ
  pub line : ℕ

-- where a piece begins
abbrev pub place_of : Piece → Place
place_of p = record { at = p.from; line = p.line }

-- these pieces one after the other, from this place on
abbrev pub placed : Place → List Text → List Piece
placed p [] = []
placed p (z ∷ zs) = record { means = meaning z; from = p.at; to = p.at + size z; line = p.line } ∷ placed (after p z) zs

-- the place after all pieces
abbrev pub end_of : Place → List Text → Place
end_of p [] = p
end_of p (z ∷ zs) = end_of (after p z) zs

-- ---- logical lines

-- how many brackets are open after a token, and never below none
abbrev pub bracket : ℕ → TokenKind → ℕ
bracket depth (kind.Mark LeftParen) = depth + 1
bracket depth (kind.Mark LeftBracket) = depth + 1
bracket depth (kind.Mark RightParen) = depth - 1
bracket depth (kind.Mark RightBracket) = depth - 1
bracket depth k = depth

-- the open brackets after a piece
abbrev pub depth_after : ℕ → Judged → ℕ
depth_after depth (Ok (Spelled k)) = bracket depth k
depth_after depth j = depth

-- a line end outside brackets
abbrev pub closes_line : ℕ → Judged → Bool
closes_line depth (Ok Break) = depth == 0
closes_line depth j = false

-- a logical line: its pieces, with the line end that closes it
abbrev pub Line : Type 0
Line = List Piece

-- the line that is begun, and the lines after it
pub record Lines : Type 0 where
  pub first : Line
  pub others : List Line

-- the lines in their order
abbrev pub all_lines : Lines → List Line
all_lines ls = ls.first ∷ ls.others

-- a piece before these lines: a line of its own, or the first of the line that is begun
abbrev pub joined : Bool → Piece → Lines → Lines
joined true p ls = record { first = p ∷ []; others = all_lines ls }
joined false p ls = record { first = p ∷ ls.first; others = ls.others }

-- the pieces by logical lines: each goes on to the first line end outside brackets
unfoldable pub lines : ℕ → List Piece → Lines
lines depth [] = record { first = []; others = [] }
lines depth (p ∷ ps) = joined (closes_line depth p.means) p (lines (depth_after depth p.means) ps)

-- ---- the tokens of a line

-- tokens, or a fault
abbrev pub Answer : Type 0
Answer = Result (List Token) LexFault

-- these tokens before an answer's
abbrev pub ahead : List Token → Answer → Answer
ahead ts (Ok us) = Ok (ts ++ us)
ahead ts (Err f) = Err f

-- a token that no byte spells
abbrev pub empty_at : TokenKind → Place → Token
empty_at k p = record { kind = k; from = p.at; to = p.at; line = p.line }

-- the token of this kind that a piece spells
abbrev pub token_at : TokenKind → Piece → Token
token_at k p = record { kind = k; from = p.from; to = p.to; line = p.line }

-- the fault of a flaw in a line
abbrev pub fault_in : Flaw → ℕ → LexFault
fault_in flaw.BadChar line = fault.BadChar line
fault_in flaw.BadName line = fault.BadName line
fault_in flaw.BadNumber line = fault.BadNumber line
fault_in flaw.WideNumber line = fault.WideNumber line
fault_in flaw.BadString line = fault.BadString line

-- a token, where the test says so
abbrev pub token_if : Bool → Token → List Token
token_if true t = t ∷ []
token_if false t = []

-- the tokens of a line's pieces from its first that isn't white space; a blank line has none
unfoldable pub tokens_of_pieces : Place → Bool → ℕ → Line → Answer → Answer
tokens_of_pieces end has_tokens depth [] later = ahead (token_if (has_tokens && (depth == 0)) (empty_at kind.Newline end)) later
tokens_of_pieces end has_tokens depth (p ∷ ps) later =
    elim (p.means) [
      | Err f ↦ Err (fault_in f p.line)
      | Ok s ↦ elim s [
        | Spelled k ↦ ahead (token_if has_tokens (token_at k p)) (tokens_of_pieces end has_tokens (bracket depth k) ps later)
        | Break ↦ elim (depth == 0) [
          | true ↦ ahead (token_if has_tokens (token_at kind.Newline p)) later
          | false ↦ tokens_of_pieces end has_tokens depth ps later
        ]
        | Space ↦ tokens_of_pieces end has_tokens depth ps later
        | Tab ↦ tokens_of_pieces end has_tokens depth ps later
        | Comment ↦ tokens_of_pieces end has_tokens depth ps later
      ]
    ]

-- a space or a tab
abbrev pub is_white_space : Judged → Bool
is_white_space (Ok Space) = true
is_white_space (Ok Tab) = true
is_white_space j = false

-- a tab
abbrev pub is_tab : Judged → Bool
is_tab (Ok Tab) = true
is_tab j = false

-- the spaces and tabs before a line's first other piece
abbrev pub width : Line → ℕ
width [] = 0
width (p ∷ ps) = if is_white_space p.means then 1 + width ps else 0

-- whether a tab is among a line's leading white space
abbrev pub has_tab : Line → Bool
has_tab [] = false
has_tab (p ∷ ps) = is_white_space p.means && (is_tab p.means || has_tab ps)

-- a line from its first piece that isn't white space
abbrev pub content : Line → Line
content [] = []
content (p ∷ ps) = if is_white_space p.means then content ps else p ∷ ps

-- ---- widths

-- the width of the innermost line that is begun, or 0
abbrev pub top : List ℕ → ℕ
top [] = 0
top (w ∷ ws) = w

-- the wider lines are closed down to this width, which must be that of one that is still there
unfoldable pub lowered : ℕ → Place → List ℕ → (List ℕ → Answer) → Answer
lowered w p [] next = if w == 0 then next [] else Err (fault.BadDedent p.line)
lowered w p (v ∷ vs) next =
    if nat_lt w v then ahead (empty_at kind.Dedent p ∷ []) (lowered w p vs next)
    else (if w == v then next (v ∷ vs) else Err (fault.BadDedent p.line))

-- the widths above 0 of the lines that stay begun, the innermost first
unfoldable pub indented : ℕ → Place → List ℕ → (List ℕ → Answer) → Answer
indented w p ws next =
    if nat_lt (top ws) w then ahead (empty_at kind.Indent p ∷ []) (next (w ∷ ws)) else lowered w p ws next

-- what a blank line goes on with after its white space
abbrev pub is_comment_or_end : Judged → Bool
is_comment_or_end (Ok Comment) = true
is_comment_or_end (Ok Break) = true
is_comment_or_end j = false

-- a line's tokens by its width, whether a tab is before its first token, and what comes from there on
unfoldable pub tokens_of_line : Place → Line → ℕ → Bool → List ℕ → (List ℕ → Answer) → Answer
tokens_of_line end [] w tab ws later = later ws
tokens_of_line end (p ∷ ps) w tab ws later =
    elim (is_comment_or_end p.means) [
      | true ↦ tokens_of_pieces end false 0 (p ∷ ps) (later ws)
      | false ↦ elim tab [
        | true ↦ Err (fault.Tab p.line)
        | false ↦ indented w (place_of p) ws (λ vs. tokens_of_pieces end true 0 (p ∷ ps) (later vs))
      ]
    ]

-- at the end, one dedent for each width and the last token
abbrev pub closing : Place → List ℕ → List Token
closing end [] = empty_at kind.End end ∷ []
closing end (w ∷ ws) = empty_at kind.Dedent end ∷ closing end ws

-- the tokens of these lines under these widths, or the first fault
unfoldable pub tokens_of_lines : Place → List Line → List ℕ → Answer
tokens_of_lines end [] ws = Ok (closing end ws)
tokens_of_lines end (l ∷ ls) ws = tokens_of_line end (content l) (width l) (has_tab l) ws (tokens_of_lines end ls)

-- the tokens of these pieces from this place on, or the first fault
unfoldable pub read : Place → List Text → Answer
read p zs = tokens_of_lines (end_of p zs) (all_lines (lines 0 (placed p zs))) []

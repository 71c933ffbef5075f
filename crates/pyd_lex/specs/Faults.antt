-- The first place in the text where no token fits: a flawed piece, or a line indented wrongly.
use Rattle.std.specs.Prelude.{ℕ, Bool, true, ◌||◌, ◌==◌, nat_lt, List, [], ◌∷◌, filter, Option, Some, None, Ok, Err, if◌then◌else◌}
use Rattle.std.specs.List.{list_all, list_any}
use Rattle.pyd_lex.specs.declared.fault.LexFault.{LexFault}
use Rattle.pyd_lex.specs.declared.fault.LexFault.TheVariants as fault
use Rattle.pyd_lex.specs.Lines.{Line, content, width, has_tab, is_comment_or_end, fault_in}

-- a line of width w may stand here: it is as wide as an open one, or wider than all
abbrev pub may_stand : ℕ → List ℕ → Bool
may_stand w open_widths =
    list_any (λ v. w == v) open_widths || list_all (λ v. nat_lt v w) open_widths

-- the widths that are open after a line of width w: those below it, and its own
abbrev pub opened : ℕ → List ℕ → List ℕ
opened w open_widths = w ∷ filter (λ v. nat_lt v w) open_widths

-- a line of white space alone, or with a comment
abbrev pub is_blank_line : Line → Bool
is_blank_line l = elim (content l) [ [] ↦ true | p ∷ ps ↦ is_comment_or_end p.means ]

-- the number of the line in which a logical line's first piece is that isn't white space
abbrev pub line_number : Line → ℕ
line_number l = elim (content l) [ [] ↦ 0 | p ∷ ps ↦ p.line ]

-- what is wrong with a line's indentation; a tab comes first
abbrev pub indentation_fault : List ℕ → Line → Option LexFault
indentation_fault open_widths l =
    if is_blank_line l then None
    else (if has_tab l then Some (fault.Tab (line_number l))
    else (if may_stand (width l) open_widths then None
    else Some (fault.BadDedent (line_number l))))

-- the widths that are open after this line; a blank line changes none
abbrev pub opened_by : Line → List ℕ → List ℕ
opened_by l open_widths = if is_blank_line l then open_widths else opened (width l) open_widths

-- the fault of the first piece that has a flaw
abbrev pub flaw_fault : Line → Option LexFault
flaw_fault [] = None
flaw_fault (p ∷ ps) = elim (p.means) [ Err x ↦ Some (fault_in x p.line) | Ok s ↦ flaw_fault ps ]

-- the first of two faults
abbrev pub or_else : Option LexFault → Option LexFault → Option LexFault
or_else (Some f) g = Some f
or_else None g = g

-- the first fault of logical lines: of each its indentation, then its pieces
abbrev pub first_fault : List ℕ → List Line → Option LexFault
first_fault open_widths [] = None
first_fault open_widths (l ∷ ls) =
    or_else (indentation_fault open_widths l)
    (or_else (flaw_fault l) (first_fault (opened_by l open_widths) ls))

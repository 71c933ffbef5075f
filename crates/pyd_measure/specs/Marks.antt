-- The statements and headers of a derivation in text order, each with its line, its nesting, and whether its target fits.
use Rattle.std.specs.Prelude.{ℕ, suc, ◌+◌, List, [], ◌∷◌, ◌++◌, map, Bool, true, cond, eqb, ltb, Option, Some, None, option_map}
use Rattle.std.specs.Option.{is_some}
use Rattle.pyd_value.specs.Size.{greatest}
use Rattle.pyd_syntax.specs.Rules.{suite}
use Rattle.pyd_tree.specs.declared.expression.Expr.{Expr}
use Rattle.pyd_tree.specs.Nesting.{nesting, or_zero}
use Rattle.pyd_derivation.specs.declared.piece.Piece.{Piece}
use Rattle.pyd_derivation.specs.declared.piece.Piece.TheVariants as piece
use Rattle.pyd_derivation.specs.Pieces.{part, tuple_of, optional_tuple}
use Rattle.pyd_derivation.specs.Actions.{name_of, targets_of}
use Rattle.pyd_derivation.specs.Forms.{header, of_production}
use Rattle.pyd_derivation.specs.Productions.{grammar}
use Rattle.pyd_derivation.specs.Derivation.{Trees, End, Token_then, Production_then, leaves, line_of, values}
use Rattle.pyd_measure.specs.Limit.{deepest}

-- a statement or a header: its line, its nesting, and whether what it assigns to can be assigned to
pub record Mark : Type 0 where
  pub line : ℕ
  pub nesting : ℕ
  pub fits : Bool

-- the expression that a part of a statement or a header is, where it is there; of an assignment, its right side
abbrev pub expression : Piece → Option Expr
expression (piece.Assign right) = Some right
expression (piece.Augment op right) = Some right
expression p = optional_tuple p

-- the nesting of a part, 0 where it is missing
abbrev pub part_nesting : Piece → ℕ
part_nesting p = or_zero (option_map nesting (expression p))

-- whether the left side fits what stands behind it: of an assignment it is a name or a tuple of names that isn't empty,
-- of an augmented one a name; where nothing is assigned, anything fits
abbrev pub fits : Expr → Piece → Bool
fits left (piece.Assign right) = is_some (targets_of left)
fits left (piece.Augment op right) = is_some (name_of left)
fits left p = true

-- the mark of parts in so many suites, where the parts at these places count; only in the statement of an assignment is
-- the second part what is assigned, and then the first is the left side
abbrev pub mark : ℕ → ℕ → List Piece → List ℕ → Mark
mark suites line parts places =
    record {
      line = line;
      nesting = suites + greatest (map (λ i. part_nesting (part parts i)) places);
      fits = fits (tuple_of (part parts 0)) (part parts 1);
    }

-- the mark of a production that is a statement or a header
abbrev pub own : Option (List ℕ) → ℕ → ℕ → List Piece → List Mark
own None suites line parts = []
own (Some places) suites line parts = mark suites line parts places ∷ []

-- the number of suites round the parts of a production in so many suites
abbrev pub inside : ℕ → ℕ → ℕ
inside p suites = cond (eqb (of_production grammar p) suite) (suc suites) suites

-- the marks of derivations in so many suites, in text order
abbrev pub marks : List ℕ → ℕ → Trees → List Mark
marks bytes suites End = []
marks bytes suites (Token_then t ds) = marks bytes suites ds
marks bytes suites (Production_then p cs ds) =
    own (header grammar p) suites (line_of (leaves cs)) (values grammar bytes cs)
    ++ (marks bytes (inside p suites) cs ++ marks bytes suites ds)

-- the line of the first mark that nests deeper than the limit
abbrev pub deep_line : List Mark → Option ℕ
deep_line [] = None
deep_line (m ∷ ms) = cond (ltb deepest m.nesting) (Some m.line) (deep_line ms)

-- the line of the first mark whose target doesn't fit
abbrev pub target_line : List Mark → Option ℕ
target_line [] = None
target_line (m ∷ ms) = cond m.fits (target_line ms) (Some m.line)

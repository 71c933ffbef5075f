-- The least of some lines.
use Rattle.std.specs.Prelude.{ℕ, min, List, [], ◌∷◌, Option, Some, None}

-- the lesser of two lines, either of which may be missing
abbrev pub lesser : Option ℕ → Option ℕ → Option ℕ
lesser None other = other
lesser (Some a) None = Some a
lesser (Some a) (Some b) = Some (min a b)

-- the least of some lines, where there are any
abbrev pub least : List ℕ → Option ℕ
least [] = None
least (line ∷ lines) = lesser (Some line) (least lines)

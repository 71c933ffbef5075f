-- The limit on nesting, which is the profile's own.
use Rattle.std.specs.Prelude.{ℕ}

-- the deepest nesting of a statement or a header
abbrev pub deepest : ℕ
deepest = 24

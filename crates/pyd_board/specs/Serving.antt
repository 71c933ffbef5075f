-- For which files and limits an answer or a runner is right.
use Rattle.std.specs.Prelude.{◌≡◌, ℕ, List, Option, Some, map, option_map, slice_get}
use Rattle.pyd_tree.specs.declared.file.File.{File}
use Rattle.pyd_board.specs.declared.kept.RunName.{RunName}

-- a file, and the limits on turns and depth under which it means something
pub record Basis : Type 0 where
  pub file : File
  pub turns : ℕ
  pub depth : ℕ

-- what a run's name says of it
abbrev pub basis_of : RunName → Basis
basis_of name = record { file = name.file; turns = name.setup.turns; depth = name.setup.depth }

-- the file of a run, none where the run isn't one of these
abbrev pub file_at : List Basis → ℕ → Option File
file_at bases run = option_map (λ basis. basis.file) (slice_get bases run)

-- the run is one of these, and the job fits its file
abbrev pub Serves : List Basis → ℕ → (File → Type 0) → Type 0
Serves bases run fits = (basis : Basis) × (slice_get bases run ≡ Some basis) × fits basis.file

-- a board and a runner name the same files and limits
abbrev pub SameBases : List RunName → List Basis → Type 0
SameBases name bases = map basis_of name ≡ bases

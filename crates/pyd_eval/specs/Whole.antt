-- What a call from outside needs and gives.
use Rattle.std.specs.Prelude.{◌≡◌, ℕ, ◌≤◌, List, length, Some}
use Rattle.std.specs.List.{flat_map}
use Rattle.pyd_value.specs.declared.value.Value.{Value}
use Rattle.pyd_tree.specs.declared.file.File.{File}
use Rattle.pyd_tree.specs.declared.file.Func.{Func}
use Rattle.pyd_tree.specs.declared.statement.Stmt.{Stmt}
use Rattle.pyd_names.specs.Binding as names
use Rattle.pyd_meaning.specs.declared.limits.Limits.{Limits}
use Rattle.pyd_meaning.specs.declared.ran.Ran.{Ran}
use Rattle.pyd_meaning.specs.Module.{call_at}
use Rattle.pyd_meaning.specs.Outcome.{IsRunOf}

-- a function of a file that is called with so many arguments, as many as it has parameters
pub record IsCalled (file : File) (k count : ℕ) : Type 0 where
  pub func : Func
  pub found : names.function file k ≡ Some func
  pub even : length func.params ≡ count

-- a depth at which a call may run
abbrev pub IsDepth : Limits → ℕ → Type 0
IsDepth limits depth = (1 ≤ depth) × (depth ≤ limits.depth)

-- the value or fault and the lines of a call, which don't depend on the caller's line
abbrev pub IsRunOfCall : File → Limits → ℕ → ℕ → List Value → Ran → Type 0
IsRunOfCall file limits depth k args ran =
    (line : ℕ) → IsRunOf ran (call_at file limits depth k args line)

-- the names that statements bind
abbrev pub all_bound : List Stmt → List (List ℕ)
all_bound stmts = names.names_of (flat_map names.statement_bindings stmts)

-- Which names are bound once.
use Rattle.std.specs.Prelude.{ℕ, List, [], ◌∷◌, ◌++◌, Bool, not, ◌&&◌, if◌then◌else◌, Option, Some, None, is_some}
use Rattle.pyd_tree.specs.declared.expression.Expr.{Expr}
use Rattle.pyd_tree.specs.declared.statement.Stmt.{Stmt}
use Rattle.pyd_names.specs.Literal.{literal}
use Rattle.pyd_names.specs.Binding.{is_among, plain_assignment}
use Rattle.pyd_scope.specs.declared.once.Once.{Once}

-- the name, if it is among others
abbrev pub if_among : List (List ℕ) → List ℕ → List (List ℕ)
if_among names name = if is_among names name then name ∷ [] else []

-- the names that repeat one before them
abbrev pub repeated : List (List ℕ) → List (List ℕ) → List (List ℕ)
repeated before [] = []
repeated before (n ∷ ns) = if_among before n ++ repeated (before ++ n ∷ []) ns

-- whether a name is bound, and not bound again
abbrev pub has_once : Once → List ℕ → Bool
has_once once name = is_among once.bound name && not (is_among once.again name)

-- the name of a plain assignment of a literal, where constants may stand and it is bound once
abbrev pub constant_in : (List ℕ → Bool) → Bool → Option (List ℕ × Expr) → Option (List ℕ)
constant_in once early None = None
constant_in once early (Some a) = if early && (once a.0 && is_some (literal a.1)) then Some a.0 else None

-- the name of the constant that a statement is
abbrev pub constant_name : (List ℕ → Bool) → Bool → Stmt → Option (List ℕ)
constant_name once early s = constant_in once early (plain_assignment s)

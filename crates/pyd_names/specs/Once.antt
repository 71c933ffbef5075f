-- What the two sets of names tell, and of an item by them.
use Rattle.std.specs.Prelude.{◌≡◌, ℕ, List, Bool, not, ◌&&◌, Option, option_to_list}
use Rattle.std.specs.BTreeSet.{contains}
use Rattle.std.specs.Cmp.Lexicographic.{slice_cmp}
use Rattle.std.specs.Ordering.{nat_cmp}
use Rattle.pyd_value.specs.declared.value.Value.{Value}
use Rattle.pyd_tree.specs.declared.file.Item.{Item}
use Rattle.pyd_tree.specs.declared.statement.Stmt.{Stmt}
use Rattle.pyd_names.specs.declared.binding.Binding.{Binding}
use Rattle.pyd_names.specs.declared.once.Once.{Once}
use Rattle.pyd_names.specs.Binding.{is_once, names_of, is_constant_literal, literal_assignment, line_of, constant_in, statement_in, is_constant}

-- whether a name is bound, and not bound again
abbrev pub has_once : Once → List ℕ → Bool
has_once once name = contains (slice_cmp nat_cmp) once.bound name && not (contains (slice_cmp nat_cmp) once.again name)

-- the sets tell of each name what the test does
abbrev pub Tells : Once → (List ℕ → Bool) → Type 0
Tells once test = (name : List ℕ) → has_once once name ≡ test name

-- whether the bindings have a name once
abbrev pub have_once : List Binding → List ℕ → Bool
have_once bindings name = is_once name (names_of bindings)

-- whether a statement is a plain assignment of a literal to a name that is bound once
abbrev pub assigns_once : Once → Stmt → Bool
assigns_once once s = is_constant_literal (has_once once) (literal_assignment s)

-- the constant that an item is, or nothing; constants may stand where it is early
abbrev pub constants_at : Once → Bool → Item → List (List ℕ × Value)
constants_at once early item = option_to_list (constant_in (line_of (has_once once) early item))

-- the module statement that an item is
abbrev pub statement_at : Once → Bool → Item → Option Stmt
statement_at once early item = statement_in (line_of (has_once once) early item)

-- whether an item is a constant
abbrev pub is_constant_at : Once → Bool → Item → Bool
is_constant_at once early item = is_constant (line_of (has_once once) early item)

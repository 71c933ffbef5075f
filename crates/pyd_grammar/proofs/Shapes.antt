-- What each rule's symbol is read as, given how many parts its tokens may make.
use Rattle.std.proofs.Common.{◌≡◌, ℕ, ◌+◌, ◌≤◌, List, [], ◌∷◌, ◌++◌, length, map, get_or, true, cond, leb}
use Rattle.std.specs.List.{list_all}
use Rattle.pyd_value.specs.Size.{total}
use Rattle.pyd_syntax.specs.declared.symbol.Symbol.{Symbol}
use Rattle.pyd_syntax.specs.declared.symbol.Symbol.TheVariants.{Terminal, Rule}
use Rattle.pyd_tree.specs.declared.file.Item.{Item}
use Rattle.pyd_tree.specs.declared.file.Func.{Func}
use Rattle.pyd_derivation.specs.declared.piece.Piece.{Piece}
use Rattle.pyd_derivation.specs.declared.piece.Piece.TheVariants as piece
use Rattle.pyd_derivation.specs.Forms.{Form, Action, apply}
use Rattle.pyd_names.specs.WellFormed.{is_formed_item, item_parts, is_formed_block, block_parts}
use Rattle.pyd_grammar.proofs.FormedExpressions.{Formed, FormedAll, FormedMaybe, FormedLinks, FormedCompares, FormedSuffix, FormedSuffixes, FormedBoth}
use Rattle.pyd_grammar.proofs.FormedStatements.{FormedStmt, FormedStmts, FormedBlock, FormedArms}

-- kinds of rules by what they are read as
pub data Kind : Type 0 where
  Files : Kind
  Items : Kind
  Names : Kind
  Def : Kind
  Params : Kind
  Suite : Kind
  Stmts : Kind
  Stmt : Kind
  Arms : Kind
  Other : Kind
  Assigned : Kind
  Options : Kind
  Tests : Kind
  More : Kind
  Test : Kind
  Condition : Kind
  Members : Kind
  Compared : Kind
  Linked : Kind
  Maybe : Kind
  Suffixes : Kind
  Sub : Kind
  Bound : Kind
  Arguments : Kind

-- the kinds of the rules, by their numbers
abbrev pub kinds : List Kind
kinds =
    Files ∷ Files ∷ Items ∷ Items ∷ Names ∷ Def ∷ Params ∷ Params ∷ Suite ∷ Stmts ∷
    Stmt ∷ Stmt ∷ Arms ∷ Other ∷ Stmt ∷ Stmt ∷ Names ∷ Names ∷ Stmt ∷ Assigned ∷
    Maybe ∷ Options ∷ Tests ∷ More ∷ Test ∷ Condition ∷ Test ∷ Members ∷ Test ∷ Members ∷
    Test ∷ Test ∷ Compared ∷ Test ∷ Linked ∷ Test ∷ Linked ∷ Test ∷ Linked ∷ Test ∷
    Linked ∷ Test ∷ Linked ∷ Test ∷ Linked ∷ Test ∷ Test ∷ Maybe ∷ Test ∷ Suffixes ∷
    Sub ∷ Bound ∷ Maybe ∷ Test ∷ Arguments ∷ []

-- the kind of a rule
abbrev pub kind : ℕ → Kind
kind n = get_or kinds n Files

-- a file's items are well formed, and have no more parts than this
pub record FormedItems (is : List Item) (w : ℕ) : Type 0 where
  pub formed : list_all is_formed_item is ≡ true
  pub few : total (map item_parts is) ≤ w

-- the same of one item
pub record FormedItem (i : Item) (w : ℕ) : Type 0 where
  pub formed : is_formed_item i ≡ true
  pub few : item_parts i ≤ w

-- the same of a function and its decorators
pub record FormedDef (ms : List (ℕ × List ℕ)) (f : Func) (w : ℕ) : Type 0 where
  pub formed : is_formed_block f.body ≡ true
  pub few : (length ms + (length f.params + block_parts f.body)) + 4 ≤ w

-- a piece is one of this kind, well formed, and has few enough parts
abbrev pub Meets : Kind → Piece → ℕ → Type 0
Meets Files (piece.Items is) w = FormedItems is w
Meets Items (piece.Item i) w = FormedItem i w
Meets Names piece.Nothing w = Unit {0}
Meets Names (piece.Names ns) w = length ns ≤ w
Meets Def (piece.Def ms f) w = FormedDef ms f w
Meets Params piece.Nothing w = Unit {0}
Meets Params (piece.Params ps) w = length ps ≤ w
Meets Suite (piece.Suite b) w = FormedBlock b w
Meets Stmts piece.Nothing w = Unit {0}
Meets Stmts (piece.Stmts ss) w = FormedStmts ss w
Meets Stmt (piece.Stmt s) w = FormedStmt s w
Meets Arms piece.Nothing w = Unit {0}
Meets Arms (piece.Arms xs) w = FormedArms xs w
Meets Other piece.Nothing w = Unit {0}
Meets Other (piece.Suite b) w = FormedBlock b w
Meets Assigned piece.Nothing w = Unit {0}
Meets Assigned (piece.Assign e) w = Formed e w
Meets Assigned (piece.Augment op e) w = Formed e w
Meets Options piece.Nothing w = Unit {0}
Meets Options (piece.Expr e) w = Formed e w
Meets Options (piece.Many es) w = FormedAll es w
Meets Tests (piece.Expr e) w = Formed e w
Meets Tests (piece.Many es) w = FormedAll es w
Meets More piece.Nothing w = Unit {0}
Meets More (piece.Many es) w = FormedAll es w
Meets Test (piece.Expr e) w = Formed e w
Meets Condition piece.Nothing w = Unit {0}
Meets Condition (piece.Condition t n) w = FormedBoth t n w
Meets Members piece.Nothing w = Unit {0}
Meets Members (piece.Many (e ∷ es)) w = FormedAll (e ∷ es) w
Meets Compared piece.Nothing w = Unit {0}
Meets Compared (piece.Compares (l ∷ ls)) w = FormedCompares (l ∷ ls) w
Meets Linked piece.Nothing w = Unit {0}
Meets Linked (piece.Links (l ∷ ls)) w = FormedLinks (l ∷ ls) w
Meets Maybe piece.Nothing w = Unit {0}
Meets Maybe (piece.Expr e) w = Formed e w
Meets Suffixes piece.Nothing w = Unit {0}
Meets Suffixes (piece.Suffixes (s ∷ ss)) w = FormedSuffixes (s ∷ ss) w
Meets Sub (piece.Suffix s) w = FormedSuffix s w
Meets Bound piece.Nothing w = Unit {0}
Meets Bound (piece.Bound e) w = FormedMaybe e w
Meets Arguments piece.Nothing w = Unit {0}
Meets Arguments (piece.Args es) w = FormedAll es w
Meets k p w = ⊥

-- how many parts a token of this terminal may make; an end, a line end and indentation make none
abbrev pub worth : ℕ → ℕ
worth k = cond (leb k 4) 0 32

-- the action makes one of this kind of what the symbols are read as, behind the parts that are there
abbrev pub Takes : List ℕ → Action → Kind → List Piece → ℕ → List Symbol → Type 0
Takes bytes a k vs w [] = (line : ℕ) → Meets k (apply a bytes line vs) w
Takes bytes a k vs w (Terminal t ∷ ss) = (v : Piece) → Takes bytes a k (vs ++ v ∷ []) (w + worth t) ss
Takes bytes a k vs w (Rule n ∷ ss) = (v : Piece) (m : ℕ) → Meets (kind n) v m → Takes bytes a k (vs ++ v ∷ []) (w + m) ss

-- the action of a form makes what its rule is read as
abbrev pub Law : List ℕ → Form → Type 0
Law bytes f = Takes bytes f.does (kind f.production.of) [] 0 f.production.to

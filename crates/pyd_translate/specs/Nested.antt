-- Rests whose frames stand one round the other, and how few nodes are made then.
use Rattle.std.specs.Prelude.{ℕ, suc, ◌+◌, ◌*◌, ◌≤◌, ◌<◌, List, [], ◌∷◌, length}
use Rattle.pyd_tree.specs.declared.statement.Stmt.{Stmt}
use Rattle.pyd_tree.specs.declared.file.File.{File}
use Rattle.pyd_ir.specs.declared.arg.Arg.{Arg}
use Rattle.pyd_ir.specs.declared.node.Node.{Node}
use Rattle.pyd_ir.specs.declared.work.Frame.{Frame}
use Rattle.pyd_ir.specs.declared.work.Frame.TheVariants.{After, Again}
use Rattle.pyd_ir.specs.declared.work.Side.{Side}
use Rattle.pyd_ir.specs.declared.work.Work.{Work}
use Rattle.pyd_ir.specs.declared.work.Work.TheVariants.{Op, Read, Call, Stop, Print, Run, Cond, While, For, Pick, Enter}
use Rattle.pyd_scope.specs.Numbering.{contents, body}
use Rattle.pyd_scope.specs.Passages.{Passage, passage_at}
use Rattle.pyd_translate.specs.declared.at.Start.{Start}
use Rattle.pyd_translate.specs.declared.at.Start.TheVariants as at
use Rattle.pyd_translate.specs.Compounds.{Compound, Choice, WhileLoop, ForLoop, Simple, compound_at, passage_behind}
use Rattle.pyd_translate.specs.Starts.{passage}
use Rattle.pyd_translate.specs.Sides.{side_unfolds}
use Rattle.pyd_translate.specs.Statements.{context}
use Rattle.pyd_translate.specs.Rests.{block_unfolds}
use Rattle.pyd_translate.specs.Laws.{IsPlaced}
use Rattle.pyd_translate.specs.Counts.{all_items}

-- the number behind the statements of a passage and all that stand in them
abbrev pub number_behind : Passage → ℕ
number_behind here = here.point.statement + (contents here.stmts).statements

-- statements that stand between two numbers; none stand anywhere
abbrev pub AreWithin : ℕ → ℕ → List Stmt → ℕ → Type 0
AreWithin first last [] number = Unit {0}
AreWithin first last (s ∷ ss) number =
    (first ≤ number) × (number + (contents (s ∷ ss)).statements ≤ last)

-- the statements of a passage stand between two numbers
abbrev pub IsWithin : ℕ → ℕ → Passage → Type 0
IsWithin first last here = AreWithin first last here.stmts here.point.statement

module _ (file : File) (routine : ℕ) where
  -- what follows statement k in its block
  abbrev pub following : ℕ → Passage
  following k = passage_behind (passage_at file routine k)

  -- the number behind statement k and all that stand in it
  abbrev pub end_of : ℕ → ℕ
  end_of k = (following k).point.statement

  -- a rest behind statements between two numbers: what goes on stands behind them, and a loop that is gone on with stands round them
  abbrev pub IsNested : ℕ → ℕ → List Frame → Type 0
  IsNested first last [] = Unit {0}
  IsNested first last (After k ∷ rest) =
      (last ≤ end_of k) × IsNested first (number_behind (following k)) rest
  IsNested first last (Again k turns over ∷ rest) =
      (k < first) × ((last ≤ end_of k) × IsNested k (end_of k) rest)

-- the items that a loop doesn't need again: a `for` has its iterable
abbrev pub spare_items : Compound → ℕ
spare_items (WhileLoop test body) = 0
spare_items (ForLoop targets e body) = 1
spare_items (Choice arms otherwise) = 0
spare_items Simple = 0

-- those of all loops that are gone on with
abbrev pub rest_spare : File → ℕ → List Frame → ℕ
rest_spare file routine [] = 0
rest_spare file routine (After k ∷ rest) = rest_spare file routine rest
rest_spare file routine (Again k turns over ∷ rest) =
    spare_items (compound_at file routine k) + rest_spare file routine rest

-- the suite that begins at a start stands between the number of its statement and the end of that
abbrev pub IsInside : File → ℕ → Start → Type 0
IsInside file routine at.Body = Unit {0}
IsInside file routine (at.Arm k arm) =
    IsWithin (suc k) (end_of file routine k) (passage file routine (at.Arm k arm))
IsInside file routine (at.Otherwise k) =
    IsWithin (suc k) (end_of file routine k) (passage file routine (at.Otherwise k))
IsInside file routine (at.LoopBody k) =
    IsWithin (suc k) (end_of file routine k) (passage file routine (at.LoopBody k))
IsInside file routine at.Rest = Unit {0}

-- so do all
abbrev pub StartWithin : Type 0
StartWithin = (file : File) (routine : ℕ) (s : Start) → IsInside file routine s

-- the rest of a composite is nested round its statement
abbrev pub HasNested : File → ℕ → Work → Type 0
HasNested file routine (Op op args) = Unit {0}
HasNested file routine (Read arg kind) = Unit {0}
HasNested file routine (Call func args) = Unit {0}
HasNested file routine (Stop fault) = Unit {0}
HasNested file routine (Print args) = Unit {0}
HasNested file routine (Run func args) = Unit {0}
HasNested file routine (Cond test k arm rest env) =
    IsNested file routine k (end_of file routine k) rest
HasNested file routine (While test k turns rest env) =
    IsNested file routine k (end_of file routine k) rest
HasNested file routine (For over k turns rest env) =
    IsNested file routine k (end_of file routine k) rest
HasNested file routine (Pick test first second env) = Unit {0}
HasNested file routine (Enter func args) = Unit {0}

-- so are those of all nodes
abbrev pub AreNested : File → List Node → Type 0
AreNested file [] = Unit {0}
AreNested file (n ∷ ns) = HasNested file n.routine n.work × AreNested file ns

-- statements of a routine, and a nested rest, have 3 nodes for each item of the routine at most, and each `for` that is gone on with leaves 3 to spare
abbrev pub RoutineCount : Type 0
RoutineCount = (file : File) (routine depth first last : ℕ) (here : Passage) (rest : List Frame)
    (ids : ℕ) (env : List Arg)
    → IsPlaced file routine here → first ≤ last → IsWithin first last here
    → IsNested file routine first last rest
    → length (block_unfolds file routine depth here rest env ids).nodes
    + 3 * rest_spare file routine rest
    ≤ 3 * all_items (body file routine)

-- and the rests of their composites are nested too
abbrev pub BlockNested : Type 0
BlockNested = (file : File) (routine depth first last : ℕ) (here : Passage) (rest : List Frame)
    (ids : ℕ) (env : List Arg)
    → IsPlaced file routine here → first ≤ last → IsWithin first last here
    → IsNested file routine first last rest
    → AreNested file (block_unfolds file routine depth here rest env ids).nodes

-- a side has no composite with a rest
abbrev pub SideNested : Type 0
SideNested = (file : File) (routine depth line : ℕ) (s : Side) (ids : ℕ) (env : List Arg)
    → AreNested file (side_unfolds file s (context routine depth line env) ids).nodes

-- How nodes are made: a list of them, what goes on from there or that a Stop ends it, and the next free number.
use Rattle.std.specs.Prelude.{ℕ, suc, List, [], ◌∷◌, ◌++◌, Option, Some, None}
use Rattle.pyd_value.specs.declared.fault.Fault.{Fault}
use Rattle.pyd_value.specs.declared.fault.Kind.{Kind}
use Rattle.pyd_value.specs.declared.fault.Fault.TheVariants.{Raised}
use Rattle.pyd_ir.specs.declared.arg.Arg.{Arg}
use Rattle.pyd_ir.specs.declared.arg.Arg.TheVariants.{From}
use Rattle.pyd_ir.specs.declared.arg.Ref.{Ref}
use Rattle.pyd_ir.specs.declared.node.Node.{Node}
use Rattle.pyd_ir.specs.declared.work.Work.{Work}
use Rattle.pyd_ir.specs.declared.work.Work.TheVariants.{Stop}

-- nodes, what came of them, which is nothing behind a Stop, and the next free number
pub record Piece (A : Type 0) : Type 0 where
  pub nodes : List Node
  pub got : Option A
  pub next : ℕ

-- a piece by the number of its first node
abbrev pub Making : Type 0 → Type 0
Making A = ℕ → Piece A

-- no node
unfoldable pub pure : {A : Type 0} → A → Making A
pure a ids = record { nodes = []; got = Some a; next = ids }

-- nodes that were made, and then those that are made from what came of them
abbrev pub carry : {A B : Type 0} → List Node → Option A → ℕ → (A → Making B) → Piece B
carry nodes (Some a) next f =
    record { nodes = nodes ++ (f a next).nodes; got = (f a next).got; next = (f a next).next }
carry nodes None next f = record { nodes = nodes; got = None; next = next }

infixl 20 ◌>>>◌
-- one piece and then the next, on what came of the first; behind a Stop nothing is made
unfoldable pub ◌>>>◌ : {A B : Type 0} → Making A → (A → Making B) → Making B
(u >>> f) ids = carry (u ids).nodes (u ids).got (u ids).next f

-- what nodes are made in: the line of the statement or header, the depth and number of the routine, and the arguments of its slots
pub record Context : Type 0 where
  pub line : ℕ
  pub depth : ℕ
  pub routine : ℕ
  pub env : List Arg

-- the node of this number and work
abbrev pub node_of : Context → ℕ → Work → Node
node_of at id work =
    record { id = id; line = at.line; depth = at.depth; routine = at.routine; work = work }

-- one node, and its number
unfoldable pub emit : Context → Work → Making ℕ
emit at work ids = record { nodes = node_of at ids work ∷ []; got = Some ids; next = suc ids }

-- a Stop, behind which nothing is made
unfoldable pub stop : {A : Type 0} → Context → Fault → Making A
stop at fault ids = record { nodes = node_of at ids (Stop fault) ∷ []; got = None; next = suc ids }

-- a Stop that raises an exception in the line
abbrev pub stop_by : {A : Type 0} → Context → Kind → Making A
stop_by at kind = stop at (Raised kind at.line)

-- a port of a node
abbrev pub port : ℕ → ℕ → Ref
port id p = record { node = id; port = p }

-- one node, and its value
abbrev pub emit_value : Context → Work → Making Arg
emit_value at work = emit at work >>> (λ id. pure (From (port id 0)))

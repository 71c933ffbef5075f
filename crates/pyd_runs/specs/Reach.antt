-- Which nodes the chain reaches through arguments.
use Rattle.std.specs.Prelude.{◌≡◌, ℕ, List, [], ◌∷◌, None, ◌⊎◌}
use Rattle.std.specs.List.{Contains}
use Rattle.pyd_ir.specs.declared.arg.Arg.{Arg}
use Rattle.pyd_ir.specs.declared.arg.Arg.TheVariants.{Known, From, Slot, Unbound}
use Rattle.pyd_ir.specs.declared.node.Node.{Node}
use Rattle.pyd_ir.specs.Arguments.{arguments}
use Rattle.pyd_runs.specs.Graphs.{Graph, nodes}
use Rattle.pyd_runs.specs.Desks.{Stores}
use Rattle.pyd_runs.specs.Records.{records}

-- an argument names a node
abbrev pub IsOf : ℕ → Arg → Type 0
IsOf k (Known v) = ⊥
IsOf k (From at) = at.node ≡ k
IsOf k (Slot at) = at.node ≡ k
IsOf k Unbound = ⊥

-- one of the arguments names a node
abbrev pub AreOf : ℕ → List Arg → Type 0
AreOf k [] = ⊥
AreOf k (a ∷ args) = IsOf k a ⊎ AreOf k args

-- a node has an argument that names the node of a number
abbrev pub Names : Node → ℕ → Type 0
Names n k = AreOf k (arguments n.work)

-- a node of the chain names it, or a past node that the chain reaches
pub data Reached (g : Graph) : ℕ → Type 0 where
  by_chain : (n : Node) (k : ℕ) → Contains g.chain n → Names n k → Reached g k
  by_past : (n : Node) (k : ℕ) → Contains g.past n → Reached g n.id → Names n k → Reached g k

-- it stands in the chain, or a node that is needed and has no record names it
pub data Needed (g : Graph) (stores : Stores) : ℕ → Type 0 where
  in_chain : (n : Node) → Contains g.chain n → Needed g stores n.id
  by_needed : (n : Node) (k : ℕ) → Contains (nodes g) n → Needed g stores n.id
      → records g stores n.id ≡ None → Names n k → Needed g stores k

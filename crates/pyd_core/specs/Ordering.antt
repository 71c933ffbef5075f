-- The node that is due in head order, by its number.
use Rattle.std.specs.Prelude.{◌≡◌, ℕ, List, [], ◌∷◌, Option, Some, None}
use Rattle.std.specs.List.{slice_get}
use Rattle.pyd_ir.specs.declared.arg.Arg.{Arg}
use Rattle.pyd_ir.specs.declared.node.Node.{Node}
use Rattle.pyd_runs.specs.Effects.{State}
use Rattle.pyd_runs.specs.HeadOrder.{node_due}

-- the number is that of the node that is due
abbrev pub IsNumberDue : State → ℕ → Type 0
IsNumberDue s number =
    (head : Node) (rest : List Node) → s.graph.chain ≡ head ∷ rest → number ≡ (node_due s head).id

-- the number of a node, if there is one, else another
abbrev pub number_or : Option Node → ℕ → ℕ
number_or None other = other
number_or (Some n) other = n.id

-- the number of the node at a place, if there is one, else another
abbrev pub number_at : List Node → Option ℕ → ℕ → ℕ
number_at nodes None other = other
number_at nodes (Some place) other = number_or (slice_get nodes place) other

-- an argument alone
abbrev pub alone : Arg → List Arg
alone a = a ∷ []

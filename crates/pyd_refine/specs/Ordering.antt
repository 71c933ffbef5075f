-- Lists whose nodes are numbered apart, each naming only nodes that are known or stand before it.
use Rattle.std.specs.Prelude.{◌≡◌, ℕ, ◌<◌, List, [], ◌∷◌, nat_eq, true, false, ◌||◌}
use Rattle.pyd_ir.specs.declared.node.Node.{Node}
use Rattle.pyd_ir.specs.Arguments.{arguments}
use Rattle.pyd_translate.specs.Naming.{Numbers, AreAmong}

-- these and one more
abbrev pub and_one : Numbers → ℕ → Numbers
and_one known id m = nat_eq m id || known m

-- these and those of nodes
abbrev pub and_nodes : Numbers → List Node → Numbers
and_nodes known [] = known
and_nodes known (n ∷ ns) = and_nodes (and_one known n.id) ns

-- numbers differ and lie below the next number, and each node names only what is known or stands before it
abbrev pub IsOrdered : Numbers → ℕ → List Node → Type 0
IsOrdered known next [] = Unit {0}
IsOrdered known next (n ∷ ns) =
    (n.id < next) × (known n.id ≡ false) × AreAmong known (arguments n.work)
    × IsOrdered (and_one known n.id) next ns

-- what is known lies below the next number
abbrev pub LieBelow : Numbers → ℕ → Type 0
LieBelow known next = (m : ℕ) → known m ≡ true → m < next

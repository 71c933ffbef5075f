-- Lists of nodes that stand in order, with the set of their numbers.
use Rattle.std.specs.Prelude.{ℕ, nat_eq, List, map}
use Rattle.std.specs.List.{IsDistinct}
use Rattle.std.specs.BTreeSet.{BTreeSet}
use Rattle.pyd_ir.specs.declared.node.Node.{Node}
use Rattle.pyd_lineage.specs.Lineage.{NamesEarlier}
use Rattle.pyd_lineage.specs.Marking.{IsSetOf}

-- the numbers of the nodes differ, each node names only nodes that stand earlier, and a set has the numbers
pub record AreOrdered (later : BTreeSet ℕ) (xs : List Node) : Type 0 where
  pub numbers : IsSetOf later (map (λ x. x.id) xs)
  pub differ : IsDistinct nat_eq (map (λ x. x.id) xs)
  pub earlier : NamesEarlier (λ x. Unit {0}) xs

-- Which past nodes are wanted and not known.
use Rattle.std.specs.Prelude.{ℕ, List, Bool, not, ◌&&◌}
use Rattle.std.specs.BTreeSet.{BTreeSet}
use Rattle.pyd_ir.specs.declared.node.Node.{Node}
use Rattle.pyd_lineage.specs.Lineage.{is_among}
use Rattle.pyd_lineage.specs.Marking.{has, past_names}

-- whether a node isn't known, and is wanted or named in turn by such a past node
abbrev pub is_awaited : (ℕ → Bool) → List Node → List ℕ → Node → Bool
is_awaited known past wanted x = is_among (past_names known past wanted) x.id && not (known x.id)

-- the same by sets
abbrev pub is_missing : BTreeSet ℕ → BTreeSet ℕ → Node → Bool
is_missing wanted known x = has wanted x.id && not (has known x.id)

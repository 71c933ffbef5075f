-- The two lists of nodes, what settled nodes gave, and what was put out.
use Rattle.std.specs.Prelude.{ℕ, List, [], ◌∷◌, ◌++◌, Option, Some, None}
use Rattle.pyd_value.specs.declared.fault.End.{End}
use Rattle.pyd_value.specs.declared.fault.End.TheVariants.{Finished}
use Rattle.pyd_names.specs.Binding.{module_variables}
use Rattle.pyd_meaning.specs.declared.ran.Ran.{Ran}
use Rattle.pyd_scope.specs.Numbering.{body, start}
use Rattle.pyd_ir.specs.declared.node.Node.{Node}
use Rattle.pyd_ir.specs.Inputs.{Given}
use Rattle.pyd_translate.specs.Making.{Piece}
use Rattle.pyd_translate.specs.Slots.{unbound_slots}
use Rattle.pyd_translate.specs.Statements.{Done}
use Rattle.pyd_translate.specs.Rests.{block_unfolds}
use Rattle.pyd_runs.specs.Plans.{Plan}

-- what doesn't depend on machines
pub record Graph : Type 0 where
  -- the settled pure nodes that were not trimmed, and then the nodes that aren't settled, in program order
  pub past : List Node
  pub chain : List Node
  -- the first number that no node has had
  pub next : ℕ
  -- what stood at the ports of each settled node, also of one that is gone
  pub given : Given
  -- what the driver keeps of effects
  pub driver : ℕ → Option Ran
  -- the lines put out, and the end of the run
  pub out : List (List ℕ)
  pub end : Option End

-- all nodes in program order
abbrev pub nodes : Graph → List Node
nodes g = g.past ++ g.chain

-- a run ends where no node is left
abbrev pub end_at : List Node → Option End
end_at [] = Some Finished
end_at (n ∷ ns) = None

-- the piece of the module's statements
abbrev pub module_piece : Plan → Piece Done
module_piece p =
    block_unfolds p.file 0 0 (record { stmts = body p.file 0; point = start }) []
    (unbound_slots (module_variables p.file)) 0

-- the graph before any event
abbrev pub first_graph : Plan → Graph
first_graph p = record {
  past = [];
  chain = (module_piece p).nodes;
  next = (module_piece p).next;
  given = λ node port. None;
  driver = λ node. None;
  out = [];
  end = end_at (module_piece p).nodes;
}

-- A core whose head has left the chain, or whose run has ended, before the entry for it.
use Rattle.std.specs.Prelude.{◌≡◌, ◌≤◌, ◌∷◌, List, false, length}
use Rattle.pyd_value.specs.declared.value.Value.{Value}
use Rattle.pyd_meaning.specs.Evaluation.{Evaluation}
use Rattle.pyd_ir.specs.declared.node.Node.{Node}
use Rattle.pyd_ir.specs.Arguments.{is_composite}
use Rattle.pyd_ir.specs.Meaning.{ran_of}
use Rattle.pyd_runs.specs.Plans.{Plan}
use Rattle.pyd_runs.specs.Effects.{State, settled_by}
use Rattle.pyd_runs.specs.Sound.{IsSound}
use Rattle.pyd_desk.specs.States.{HasSameMachines}
use Rattle.pyd_core.specs.declared.keeper.Core.{Core}
use Rattle.pyd_core.specs.declared.settling.Leaves.{Leaves}
use Rattle.pyd_core.specs.Cores.{IsTied, plan_of}
use Rattle.pyd_core.specs.Settling.{leaves_by}

-- of a state it keeps what it has once its head gave this
abbrev pub KeepsSettled : Core → Core → Leaves → Type 0
KeepsSettled old new leaves = (p : Plan) (s : State) (n : Node) (rest : List Node)
    (does : Evaluation Value) → IsSound p s → IsTied old s → s.graph.chain ≡ n ∷ rest → is_composite n.work ≡ false
    → leaves ≡ leaves_by n.work (ran_of does).outcome
    → IsTied new (record s { graph = settled_by s.graph n rest does.lines does.result })

-- so it is, and nothing else has changed
pub record HasLeft (old new : Core) (leaves : Leaves) : Type 0 where
  pub settled : KeepsSettled old new leaves
  pub plan : plan_of new ≡ plan_of old
  pub log : new.log ≡ old.log
  pub lost : new.lost ≡ old.lost
  pub within : new.line.settled ≤ length new.line.nodes.items
  pub machines : HasSameMachines old.desk new.desk

-- What is recorded of settled nodes is what they gave, and what is recorded of a head is what it does.
use Rattle.std.specs.Prelude.{◌≡◌, ℕ, List, ◌∷◌, map, Bool, true, false, Some, None, IsTrue}
use Rattle.pyd_value.specs.declared.value.Value.{Value}
use Rattle.pyd_meaning.specs.declared.ran.Ran.{Ran}
use Rattle.pyd_meaning.specs.Evaluation.{Evaluation}
use Rattle.pyd_board.specs.declared.event.Act.TheVariants.{Settle}
use Rattle.pyd_board.specs.declared.event.Event.{Event}
use Rattle.pyd_ir.specs.declared.node.Node.{Node}
use Rattle.pyd_ir.specs.declared.work.Work.{Work}
use Rattle.pyd_ir.specs.declared.work.Work.TheVariants.{Op, Read, Call, Stop, Print, Run, Cond, While, For, Pick, Enter}
use Rattle.pyd_ir.specs.Arguments.{arguments}
use Rattle.pyd_ir.specs.Inputs.{value_of, leaf_meaning}
use Rattle.pyd_ir.specs.Meaning.{ran_of}
use Rattle.pyd_runs.specs.Plans.{Plan, limits_of}
use Rattle.pyd_runs.specs.Records.{records, recorded}
use Rattle.pyd_runs.specs.Effects.{State, happens, settled_by}
use Rattle.pyd_runs.specs.Enabled.{CanSettle}
use Rattle.pyd_runs.specs.Sound.{IsSound, is_over}

-- what is recorded at the ports of a settled node that may be named is what it gave
abbrev pub RecordLaw : Type 0
RecordLaw = (p : Plan) (s : State) (k port : ℕ) (ran : Ran) → IsSound p s
    → IsTrue (is_over s.graph k) → records s.graph s.desk.stores k ≡ Some ran
    → recorded s.graph s.desk.stores k port ≡ s.graph.given k port

-- whether a node has a job
abbrev pub has_job : Work → Bool
has_job (Op op args) = true
has_job (Read arg kind) = true
has_job (Call func args) = true
has_job (Stop fault) = false
has_job (Print args) = false
has_job (Run func args) = true
has_job (Cond test stmt arm rest env) = false
has_job (While test stmt turns rest env) = false
has_job (For over stmt turns rest env) = false
has_job (Pick test first second env) = false
has_job (Enter func args) = false

-- what the head that may be settled does, and what is recorded of it
pub record IsHeadOf (p : Plan) (s : State) (k : ℕ) : Type 0 where
  pub head : Node
  pub rest : List Node
  pub chain : s.graph.chain ≡ head ∷ rest
  pub number : head.id ≡ k
  -- what it does by what settled nodes gave
  pub does : Evaluation Value
  pub meaning : leaf_meaning p.file (limits_of p) s.graph.given head ≡ Some does
  -- the record of a head with a job is what it does
  pub own : has_job head.work ≡ true → records s.graph s.desk.stores k ≡ Some (ran_of does)
  -- what is recorded of the inputs of any other is what was given
  pub inputs : has_job head.work ≡ false
      → map (value_of (recorded s.graph s.desk.stores)) (arguments head.work)
      ≡ map (value_of s.graph.given) (arguments head.work)
  -- its Settle does just that
  pub leaves : (e : Event) → e.act ≡ Settle k
      → (happens p s e).graph ≡ settled_by s.graph head rest does.lines does.result

-- so it is in a sound state
abbrev pub HeadLaw : Type 0
HeadLaw = (p : Plan) (s : State) (k : ℕ) → IsSound p s → s.graph.end ≡ None → CanSettle s k
    → IsHeadOf p s k

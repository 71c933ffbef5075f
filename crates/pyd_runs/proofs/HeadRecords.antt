-- What is recorded of a head that may be settled is what it does.
use Rattle.std.proofs.Common.{◌≡◌, ◌||◌, ℕ, Bool, true, false, List, [], ◌∷◌, Option, None, Some, is_some, refl, ap, sym, ◌∙◌, subst}
use Rattle.std.specs.Prelude.{IsTrue, map}
use Rattle.std.specs.List.{Contains}
use Rattle.std.proofs.lemmas.List.Elements.{Contains-append_right}
use Rattle.pyd_value.specs.declared.value.Value.{Value}
use Rattle.pyd_meaning.specs.declared.ran.Ran.{Ran}
use Rattle.pyd_meaning.specs.Evaluation.{Evaluation}
use Rattle.pyd_board.specs.declared.event.Act.{Act}
use Rattle.pyd_board.specs.declared.event.Act.TheVariants.{Settle}
use Rattle.pyd_board.specs.declared.event.Event.{Event}
use Rattle.pyd_ir.specs.declared.arg.Arg.{Arg}
use Rattle.pyd_ir.specs.declared.arg.Arg.TheVariants.{Known, From, Slot, Unbound}
use Rattle.pyd_ir.specs.declared.node.Node.{Node}
use Rattle.pyd_ir.specs.declared.work.Work.{Work}
use Rattle.pyd_ir.specs.declared.work.Work.TheVariants.{Op, Read, Call, Stop, Print, Run, Cond, While, For, Pick, Enter}
use Rattle.pyd_ir.specs.Arguments.{arguments}
use Rattle.pyd_ir.specs.Inputs.{value_of, has_value, have_values, has_inputs, leaf_meaning}
use Rattle.pyd_ir.specs.Meaning.{ran_of}
use Rattle.pyd_translate.specs.Naming.{AreAmong, IsAmong}
use Rattle.pyd_translate.specs.Supplied.{AreSupplied}
use Rattle.pyd_refine.specs.Ordering.{IsOrdered}
use Rattle.pyd_runs.specs.Plans.{Plan, limits_of}
use Rattle.pyd_runs.specs.Graphs.{nodes}
use Rattle.pyd_runs.specs.Records.{records, recorded}
use Rattle.pyd_runs.specs.Effects.{State, acted, happens, settled, settled_chain, settled_as, settled_by}
use Rattle.pyd_runs.specs.Enabled.{WaitsNot, IsRecorded}
use Rattle.pyd_runs.specs.Sound.{IsSound, leaf_seen, sight, stands, is_over}
use Rattle.pyd_runs.specs.Heads.{RecordLaw, has_job, HeadLaw}
use Rattle.pyd_runs.proofs.Readiness.{and_parts}
use Rattle.pyd_runs.proofs.Seeing.{AgreeOn, leaf_same}
use Rattle.pyd_runs.proofs.Without.{here}
use Rattle.pyd_runs.proofs.Standing.{same_node}
use Rattle.pyd_runs.proofs.Within.{some_there, under_some}
use Rattle.pyd_runs.proofs.Knowing.{record_seen, recorded_seen, sight_else}
use Rattle.pyd_runs.proofs.Once.{head_means}
use Rattle.pyd_runs.proofs.Going.{recorded_given, over_fresh}

-- the law
pub records_give : RecordLaw
records_give p s k port ran sound over is = recorded_given p s sound k port ran over is

-- a head with a job that doesn't wait has a record
job_recorded : (s : State) (k : ℕ) (w : Work) → has_job w ≡ true → WaitsNot s k w
    → IsRecorded (records s.graph s.desk.stores k)
job_recorded s k (Op op args) job waits = waits
job_recorded s k (Read arg kind) job waits = waits
job_recorded s k (Call func args) job waits = waits
job_recorded s k (Stop fault) job waits = absurd (cc (job))
job_recorded s k (Print args) job waits = absurd (cc (job))
job_recorded s k (Run func args) job waits = waits
job_recorded s k (Cond test stmt arm rest env) job waits = absurd waits
job_recorded s k (While test stmt turns rest env) job waits = absurd waits
job_recorded s k (For over stmt turns rest env) job waits = absurd waits
job_recorded s k (Pick test first second env) job waits = absurd waits
job_recorded s k (Enter func args) job waits = absurd waits

record_there : (o : Option Ran) → IsRecorded o → (ran : Ran) × (o ≡ Some ran)
record_there None is = absurd is
record_there (Some ran) is = (ran, refl)

-- what may be named is over, or stands in the chain
over_present : (a b : Bool) → a ≡ true → (a || b) ≡ true
over_present true b is = refl
over_present false b is = absurd (cc (is))

module _ (p : Plan) (s : State) (sound : IsSound p s) where
  -- what is seen of settled nodes that may be named is what they gave
  given_seen : AgreeOn (is_over s.graph) s.graph.given (sight p s.graph)
  given_seen k over = sym (sight_else p s.graph k (over_fresh s.graph k over))

  -- so what is recorded of them was given
  port_given : (k port : ℕ) (v : Value) → is_over s.graph k ≡ true
      → recorded s.graph s.desk.stores k port ≡ Some v → s.graph.given k port ≡ Some v
  port_given k port v over is =
      ap (λ (f : ℕ → Option Value). f port) (given_seen k over)
      ∙ recorded_seen p s.graph s.desk s.lost sound.graph sound.desk k port v
      (over_present (is_over s.graph k) (stands k s.graph.chain) over) is

  port_same : (k port : ℕ) → is_over s.graph k ≡ true
      → IsTrue (is_some (recorded s.graph s.desk.stores k port))
      → recorded s.graph s.desk.stores k port ≡ s.graph.given k port
  port_same k port over is =
      let v = some_there (recorded s.graph s.desk.stores k port) is in
      v.1 ∙ sym (port_given k port v.0 over v.1)

  arg_same : (a : Arg) → IsAmong (is_over s.graph) a
      → IsTrue (has_value (recorded s.graph s.desk.stores) a)
      → value_of (recorded s.graph s.desk.stores) a ≡ value_of s.graph.given a
  arg_same (Known v) among is = refl
  arg_same (From at) among is = port_same at.node at.port among is
  arg_same (Slot at) among is = port_same at.node at.port among is
  arg_same Unbound among is = refl

  -- of all arguments that have values
  args_same : (args : List Arg) → AreAmong (is_over s.graph) args
      → IsTrue (have_values (recorded s.graph s.desk.stores) args)
      → map (value_of (recorded s.graph s.desk.stores)) args ≡ map (value_of s.graph.given) args
  args_same [] among is = refl
  args_same (a ∷ args) among is =
      let parts = and_parts (has_value (recorded s.graph s.desk.stores) a)
      (have_values (recorded s.graph s.desk.stores) args) is in
      ap (λ v. v ∷ map (value_of (recorded s.graph s.desk.stores)) args)
      (arg_same a among.0 parts.0)
      ∙ ap (λ vs. value_of s.graph.given a ∷ vs) (args_same args among.1 parts.1)

  -- the inputs of a head without a job
  inputs_same : (k : ℕ) (w : Work) → has_job w ≡ false → WaitsNot s k w
      → AreAmong (is_over s.graph) (arguments w)
      → map (value_of (recorded s.graph s.desk.stores)) (arguments w)
      ≡ map (value_of s.graph.given) (arguments w)
  inputs_same k (Op op args) job waits among = absurd (cc (job))
  inputs_same k (Read arg kind) job waits among = absurd (cc (job))
  inputs_same k (Call func args) job waits among = absurd (cc (job))
  inputs_same k (Stop fault) job waits among = refl
  inputs_same k (Print args) job waits among = args_same args among waits
  inputs_same k (Run func args) job waits among = absurd (cc (job))
  inputs_same k (Cond test stmt arm rest env) job waits among = absurd waits
  inputs_same k (While test stmt turns rest env) job waits among = absurd waits
  inputs_same k (For over stmt turns rest env) job waits among = absurd waits
  inputs_same k (Pick test first second env) job waits among = absurd waits
  inputs_same k (Enter func args) job waits among = absurd waits

  -- the record of a node of the list that names what is over is what it does
  own_record : (n : Node) (does : Evaluation Value) (ran : Ran) → Contains (nodes s.graph) n
      → AreAmong (is_over s.graph) (arguments n.work)
      → leaf_meaning p.file (limits_of p) s.graph.given n ≡ Some does
      → records s.graph s.desk.stores n.id ≡ Some ran → ran ≡ ran_of does
  own_record n does ran at among meaning is =
      let h = record_seen p s.graph s.desk s.lost n ran sound.graph sound.desk at is in
      let same = same_node p s.graph h.node n sound.graph h.stands at h.number in
      let seen = leaf_same p (is_over s.graph) s.graph.given (sight p s.graph) given_seen n among
      ∙ ap (leaf_seen p (sight p s.graph)) (sym same) ∙ h.meaning in
      let parts = under_some (has_inputs s.graph.given n.work)
      (leaf_meaning p.file (limits_of p) s.graph.given n) h.does seen in
      let one : h.does ≡ does = (let z = parts.1 in cc (z, meaning)) in
      h.as_done ∙ ap ran_of one

-- what a Settle of a head that means something leaves
settle_leaves : (p : Plan) (s : State) (head : Node) (rest : List Node) (does : Evaluation Value)
    (e : Event) (k : ℕ) → s.graph.chain ≡ head ∷ rest
    → leaf_meaning p.file (limits_of p) s.graph.given head ≡ Some does → e.act ≡ Settle k
    → (happens p s e).graph ≡ settled_by s.graph head rest does.lines does.result
unfolding happens acted settled
settle_leaves p s head rest does e k chain meaning is =
    ap (λ (a : Act). (acted p s e.by a).graph) is
    ∙ ap (settled_chain p s.graph) chain
    ∙ ap (settled_as s.graph head rest) meaning

-- the law
pub head_recorded : HeadLaw
unfolding AreSupplied
head_recorded p s k sound goes_on can =
    let g = s.graph in
    let n = can.head in
    let supplied = subst (λ (ns : List Node). AreSupplied p.file (limits_of p) g.next ns g.given)
    can.chain (sound.graph.supplied goes_on) in
    let order = subst (IsOrdered (is_over g) g.next) can.chain sound.graph.listed in
    let means = head_means p.file (limits_of p) s k n.routine g.given n.line n.depth n.work
    can.waits_not supplied.1 in
    let at : Contains (nodes g) n
    = Contains-append_right g.past g.chain n
    (subst (λ (ns : List Node). Contains ns n) (sym can.chain) (here n can.rest)) in
    record {
      head = n;
      rest = can.rest;
      chain = can.chain;
      number = can.number;
      does = means.0;
      meaning = means.1;
      own = λ job.
          (let there = record_there (records g s.desk.stores k)
          (job_recorded s k n.work job can.waits_not) in
          there.1 ∙ ap (λ r. Some r) (own_record p s sound n means.0 there.0 at order.2 means.1
          (ap (records g s.desk.stores) can.number ∙ there.1)));
      inputs = λ job. inputs_same p s sound k n.work job can.waits_not order.2;
      leaves = λ e is. settle_leaves p s n can.rest means.0 e k can.chain means.1 is;
    }

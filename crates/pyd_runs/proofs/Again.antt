-- Between two claims of a node stands a loss of the first one's machine.
use Rattle.std.proofs.Common.{◌≡◌, ◌≢◌, ℕ, suc, Bool, true, false, if◌then◌else◌, List, [], ◌∷◌, ◌++◌, append_assoc, Option, None, Some, ◌⊎◌, inl, inr, refl, ap, sym, ◌∙◌, subst, arith}
use Rattle.std.specs.Prelude.{Result, Ok, Err, option_map}
use Rattle.std.specs.List.{Contains}
use Rattle.pyd_value.specs.declared.value.Value.{Value}
use Rattle.pyd_value.specs.declared.fault.Fault.{Fault}
use Rattle.pyd_meaning.specs.declared.ran.Ran.{Ran}
use Rattle.pyd_meaning.specs.Evaluation.{Evaluation}
use Rattle.pyd_board.specs.declared.event.Act.{Act}
use Rattle.pyd_board.specs.declared.event.Act.TheVariants.{Place, Claim, Finish, Drop, Refine, Settle, Lose, Trim}
use Rattle.pyd_board.specs.declared.event.Event.{Event}
use Rattle.pyd_ir.specs.declared.node.Node.{Node}
use Rattle.pyd_ir.specs.Arguments.{is_pure}
use Rattle.pyd_ir.specs.Inputs.{leaf_meaning}
use Rattle.pyd_ir.specs.Meaning.{job_ran}
use Rattle.pyd_runs.specs.Plans.{Plan, limits_of}
use Rattle.pyd_runs.specs.Graphs.{Graph, nodes}
use Rattle.pyd_runs.specs.Desks.{Kept, Held}
use Rattle.pyd_runs.specs.Records.{stored, or_else, ready, job_with}
use Rattle.pyd_runs.specs.Losses.{held_elsewhere, kept_elsewhere}
use Rattle.pyd_runs.specs.Effects.{State, first_state, acted, happens, held_by, settled, settled_chain, settled_as, settled_by, passed, trimmed, finished_by, is_run, kept_by_driver, kept_by_machine}
use Rattle.pyd_runs.specs.Enabled.{CanAct, CanDrop, Enabled, Holds}
use Rattle.pyd_runs.specs.Replay.{after, IsLegalFrom}
use Rattle.pyd_runs.specs.Sound.{IsSound, IsFresh, IsGone}
use Rattle.pyd_runs.specs.Laws.{AgainLaw}
use Rattle.pyd_runs.proofs.Putting.{at_cases, put_here, put_else, put_same, other_test, none_apart}
use Rattle.pyd_runs.proofs.Without.{fresh_apart}
use Rattle.pyd_runs.proofs.Standing.{found_there}
use Rattle.pyd_runs.proofs.Holding.{elsewhere_kept, holds_some, finish_else}
use Rattle.pyd_runs.proofs.Claiming.{ready_parts, ready_job}
use Rattle.pyd_runs.proofs.Trimming.{still_gone, is_gone, is_past}
use Rattle.pyd_runs.proofs.Growing.{growing}
use Rattle.pyd_runs.proofs.Refined.{refines_so}
use Rattle.pyd_runs.proofs.Refining.{gone_grown}
use Rattle.pyd_runs.proofs.Settling.{fresh_less}
use Rattle.pyd_runs.proofs.Running.{event_keeps, runs_on}
use Rattle.pyd_runs.proofs.Beginnings.{legal_parts}
use Rattle.pyd_runs.proofs.Starting.{starts}

-- a machine has the claim of a node
record ClaimedOn (s : State) (k m : ℕ) : Type 0 where
  held : Held
  claim : s.desk.claim k ≡ Some held
  machine : held.machine ≡ m

-- or its record
record StoredOn (s : State) (k m : ℕ) : Type 0 where
  kept : Kept
  stores : s.desk.stores k ≡ Some kept
  machine : kept.machine ≡ m

-- or the driver has it, or the node is gone, or the run has ended: no ticket may be claimed
data IsBusy (s : State) (k m : ℕ) : Type 0 where
  claimed : ClaimedOn s k m → IsBusy s k m
  kept : StoredOn s k m → IsBusy s k m
  driven : (ran : Ran) → s.graph.driver k ≡ Some ran → IsBusy s k m
  gone : IsGone s.graph k → IsBusy s k m
  over : s.graph.end ≢ None → IsBusy s k m

-- the record of a store, or the driver's before it
stored_record : (a : Option Ran) (b : Option Kept) (x : Kept) → b ≡ Some x
    → or_else a (option_map (λ (kept : Kept). kept.ran) b) ≡ None → ⊥
stored_record (Some ran) b x e none = absurd (cc (none))
stored_record None None x e none = absurd (cc (e))
stored_record None (Some y) x e none = absurd (cc (none))

driven_record : (a : Option Ran) (b : Option Ran) (x : Ran) → a ≡ Some x → or_else a b ≡ None → ⊥
driven_record None b x e none = absurd (cc (e))
driven_record (Some y) b x e none = absurd (cc (none))

-- a node that is busy isn't claimed
not_busy : (p : Plan) (s : State) (seat k a n m : ℕ) → IsSound p s
    → CanAct p s seat (Claim k a n) → IsBusy s k m → ⊥
not_busy p s seat k a n m sound can (over ended) = ended can.0.goes_on
not_busy p s seat k a n m sound can (gone is) =
    let c = can.1 in
    let r = ready_parts s.graph s.desk.stores k (sound.desk.ticket_ready k c.ticket c.is_live) in
    let at = found_there (nodes s.graph) k r.node r.found in
    fresh_apart k (nodes s.graph) r.node is.1 at.0 at.1
not_busy p s seat k a n m sound can (driven ran is) =
    let c = can.1 in
    driven_record (s.graph.driver k) (stored s.desk.stores k) ran is
    (sound.desk.ticket_alone k c.ticket c.is_live).0
not_busy p s seat k a n m sound can (kept h) =
    let c = can.1 in
    stored_record (s.graph.driver k) (s.desk.stores k) h.kept h.stores
    (sound.desk.ticket_alone k c.ticket c.is_live).0
not_busy p s seat k a n m sound can (claimed h) =
    let c = can.1 in
    none_apart (s.desk.claim k) h.held (sound.desk.ticket_alone k c.ticket c.is_live).1 h.claim

-- a state that changed nothing of a node keeps it busy
busy_by : (s now : State) (k m : ℕ) → now.desk.claim k ≡ s.desk.claim k
    → now.desk.stores k ≡ s.desk.stores k
    → ((ran : Ran) → s.graph.driver k ≡ Some ran → (more : Ran) × (now.graph.driver k ≡ Some more))
    → (IsGone s.graph k → IsGone now.graph k)
    → (s.graph.end ≢ None → now.graph.end ≢ None) → IsBusy s k m → IsBusy now k m
busy_by s now k m claim stores driver gone_on end (claimed h) =
    claimed (record { held = h.held; claim = claim ∙ h.claim; machine = h.machine })
busy_by s now k m claim stores driver gone_on end (kept h) =
    kept (record { kept = h.kept; stores = stores ∙ h.stores; machine = h.machine })
busy_by s now k m claim stores driver gone_on end (driven ran is) =
    let more = driver ran is in driven more.0 more.1
busy_by s now k m claim stores driver gone_on end (gone is) = gone (gone_on is)
busy_by s now k m claim stores driver gone_on end (over is) = over (end is)

-- what a Finish changes of the other nodes
pub finish_stores : (p : Plan) (s : State) (k machine n : ℕ) (o : Option Held) → n ≢ k
    → (finished_by p s k machine o).desk.stores n ≡ s.desk.stores n
finish_stores p s k machine n None other = refl
finish_stores p s k machine n (Some c) other = by_kind (is_run c.job.task)
  where
    by_kind : (b : Bool)
        → (if b then kept_by_driver s k (job_ran p.file (limits_of p) c.job)
        else kept_by_machine s k machine (job_ran p.file (limits_of p) c.job)).desk.stores n
        ≡ s.desk.stores n
    by_kind true = refl
    by_kind false =
        put_else s.desk.stores k
        (Some (record { machine = machine; ran = job_ran p.file (limits_of p) c.job })) n other

pub finish_driver : (p : Plan) (s : State) (k machine n : ℕ) (o : Option Held) → n ≢ k
    → (finished_by p s k machine o).graph.driver n ≡ s.graph.driver n
finish_driver p s k machine n None other = refl
finish_driver p s k machine n (Some c) other = by_kind (is_run c.job.task)
  where
    by_kind : (b : Bool)
        → (if b then kept_by_driver s k (job_ran p.file (limits_of p) c.job)
        else kept_by_machine s k machine (job_ran p.file (limits_of p) c.job)).graph.driver n
        ≡ s.graph.driver n
    by_kind true =
        put_else s.graph.driver k (Some (job_ran p.file (limits_of p) c.job)) n other
    by_kind false = refl

finish_gone : (p : Plan) (s : State) (k machine n : ℕ) (o : Option Held) → IsGone s.graph n
    → IsGone (finished_by p s k machine o).graph n
finish_gone p s k machine n None is = is
finish_gone p s k machine n (Some c) is = by_kind (is_run c.job.task)
  where
    by_kind : (b : Bool)
        → IsGone (if b then kept_by_driver s k (job_ran p.file (limits_of p) c.job)
        else kept_by_machine s k machine (job_ran p.file (limits_of p) c.job)).graph n
    by_kind true = is
    by_kind false = is

finish_end : (p : Plan) (s : State) (k machine : ℕ) (o : Option Held) → s.graph.end ≢ None
    → (finished_by p s k machine o).graph.end ≢ None
finish_end p s k machine None is = is
finish_end p s k machine (Some c) is = by_kind (is_run c.job.task)
  where
    by_kind : (b : Bool)
        → (if b then kept_by_driver s k (job_ran p.file (limits_of p) c.job)
        else kept_by_machine s k machine (job_ran p.file (limits_of p) c.job)).graph.end ≢ None
    by_kind true = is
    by_kind false = is

-- where the claim is finished, the machine or the driver has the record
finish_busy : (p : Plan) (s : State) (k m : ℕ) (c : Held)
    → IsBusy (finished_by p s k m (Some c)) k m
finish_busy p s k m c = by_kind (is_run c.job.task)
  where
    by_kind : (b : Bool)
        → IsBusy (if b then kept_by_driver s k (job_ran p.file (limits_of p) c.job)
        else kept_by_machine s k m (job_ran p.file (limits_of p) c.job)) k m
    by_kind true =
        driven (job_ran p.file (limits_of p) c.job)
        (put_here s.graph.driver k (Some (job_ran p.file (limits_of p) c.job)))
    by_kind false = kept (record {
      kept = record { machine = m; ran = job_ran p.file (limits_of p) c.job };
      stores = put_here s.desk.stores k
          (Some (record { machine = m; ran = job_ran p.file (limits_of p) c.job }));
      machine = refl;
    })

-- a Finish of the node itself
finish_itself : (p : Plan) (s : State) (seat k a n m : ℕ) → IsSound p s
    → Holds (s.desk.claim k) seat a n → IsBusy s k m
    → IsBusy (finished_by p s k n (s.desk.claim k)) k m
finish_itself p s seat k a n m sound holds busy =
    let c = holds_some (s.desk.claim k) seat a n holds in
    subst (λ (o : Option Held). IsBusy (finished_by p s k n o) k m) (sym c.1)
    (by_busy c.0 c.1 c.4 busy)
  where
    by_busy : (c : Held) → s.desk.claim k ≡ Some c → c.machine ≡ n → IsBusy s k m
        → IsBusy (finished_by p s k n (Some c)) k m
    by_busy c claim machine (claimed h) =
        let was = h.claim in
        let same : h.held ≡ c = cc (was, claim) in
        let one : n ≡ m = sym machine ∙ sym (ap (λ (q : Held). q.machine) same) ∙ h.machine in
        subst (λ i. IsBusy (finished_by p s k n (Some c)) k i) one (finish_busy p s k n c)
    by_busy c claim machine (kept h) =
        absurd (stored_record (s.graph.driver k) (s.desk.stores k) h.kept h.stores
        (sound.desk.claim_alone k c claim))
    by_busy c claim machine (driven ran is) =
        absurd (driven_record (s.graph.driver k) (stored s.desk.stores k) ran is
        (sound.desk.claim_alone k c claim))
    by_busy c claim machine (gone is) = gone (finish_gone p s k n k (Some c) is)
    by_busy c claim machine (over is) = over (finish_end p s k n (Some c) is)

-- a Drop of the node itself
drop_itself : (p : Plan) (s : State) (seat k a n m : ℕ) → IsSound p s
    → CanDrop s seat k a n → IsBusy s k m → IsBusy (acted p s seat (Drop k a n)) k m
unfolding acted
drop_itself p s seat k a n m sound can (kept h) =
    kept (record { kept = h.kept; stores = h.stores; machine = h.machine })
drop_itself p s seat k a n m sound can (driven ran is) = driven ran is
drop_itself p s seat k a n m sound can (gone is) = gone is
drop_itself p s seat k a n m sound can (over is) = over is
drop_itself p s seat k a n m sound can (claimed h) = elim can [
  | inl undone ↦
      let x = holds_some (s.desk.undone k a) seat a n undone.1 in
      let lost : s.lost n ≡ true
      = ap s.lost (sym x.4) ∙ sound.desk.undone_lost k a x.0 x.1 in
      let lives = (sound.desk.claim_lives k h.held h.claim).not_lost in
      claimed (record {
        held = h.held;
        claim =
            put_here s.desk.claim k (held_elsewhere n (s.desk.claim k))
            ∙ elsewhere_kept n (s.desk.claim k) h.held h.claim (λ z.
            let y : s.lost n ≡ false = ap s.lost (sym z) ∙ lives in absurd (cc (lost, y)));
        machine = h.machine;
      })
  | inr left ↦ over (λ z. let w = left.1 in absurd (cc (w, z)))
]

-- a record that isn't in the store of a lost machine is left
kept_left : (machine : ℕ) (o : Option Kept) (x : Kept) → o ≡ Some x → x.machine ≢ machine
    → kept_elsewhere machine o ≡ Some x
kept_left machine None x e other = absurd (cc (e))
kept_left machine (Some q) x e other =
    let z : q ≡ x = cc (e) in
    let apart : q.machine ≢ machine
    = (λ w. other (ap (λ (y : Kept). y.machine) (sym z) ∙ w)) in
    ap (λ b. if b then None else Some q) (other_test q.machine machine apart) ∙ e

-- another machine's loss
lose_other : (p : Plan) (s : State) (seat n k m : ℕ) → n ≢ m → IsBusy s k m
    → IsBusy (acted p s seat (Lose n)) k m
unfolding acted
lose_other p s seat n k m other (claimed h) = claimed (record {
  held = h.held;
  claim = elsewhere_kept n (s.desk.claim k) h.held h.claim
      (λ z. other (sym z ∙ h.machine));
  machine = h.machine;
})
lose_other p s seat n k m other (kept h) = kept (record {
  kept = h.kept;
  stores = kept_left n (s.desk.stores k) h.kept h.stores (λ z. other (sym z ∙ h.machine));
  machine = h.machine;
})
lose_other p s seat n k m other (driven ran is) = driven ran is
lose_other p s seat n k m other (gone is) = gone is
lose_other p s seat n k m other (over is) = over is

-- a head that is settled
passed_gone : (b : Bool) (g : Graph) (n : Node) (rest : List Node) (lines : List (List ℕ))
    (v : Value) (k : ℕ) → g.chain ≡ n ∷ rest → IsGone g k
    → IsGone (passed b g n rest lines v) k
passed_gone true g n rest lines v k chain is = (
  is.0,
  subst (IsFresh k) (sym (append_assoc g.past (n ∷ []) rest))
      (subst (λ (ns : List Node). IsFresh k (g.past ++ ns)) chain is.1),
)
passed_gone false g n rest lines v k chain is =
    (is.0, fresh_less g.past n rest k (subst (λ (ns : List Node). IsFresh k (g.past ++ ns)) chain is.1))

passed_driver : (b : Bool) (g : Graph) (n : Node) (rest : List Node) (lines : List (List ℕ))
    (v : Value) (k : ℕ) (ran : Ran) → g.driver k ≡ Some ran
    → (more : Ran) × ((passed b g n rest lines v).driver k ≡ Some more)
passed_driver true g n rest lines v k ran is = (ran, is)
passed_driver false g n rest lines v k ran is = elim (at_cases k n.id) [
  | inl same ↦ (_, put_same g.driver n.id (Some _) k same)
  | inr other ↦ (ran, put_else g.driver n.id (Some _) k other ∙ is)
]

settled_busy : (s : State) (n : Node) (rest : List Node) (o : Option (Evaluation Value))
    (k m : ℕ) → s.graph.end ≡ None → s.graph.chain ≡ n ∷ rest → IsBusy s k m
    → IsBusy (record s { graph = settled_as s.graph n rest o }) k m
settled_busy s n rest None k m goes chain busy =
    busy_by s (record s { graph = s.graph }) k m refl refl (λ ran is. (ran, is)) (λ is. is)
    (λ is. is) busy
settled_busy s n rest (Some e) k m goes chain busy = by_result e.result
  where
    by_result : (r : Result Value Fault)
        → IsBusy (record s { graph = settled_by s.graph n rest e.lines r }) k m
    by_result (Ok v) =
        let b = is_pure n.work in
        busy_by s (record s { graph = passed b s.graph n rest e.lines v }) k m refl refl
        (passed_driver b s.graph n rest e.lines v k)
        (passed_gone b s.graph n rest e.lines v k chain) (λ ended. absurd (ended goes)) busy
    by_result (Err f) =
        busy_by s (record s { graph = settled_by s.graph n rest e.lines (Err f) }) k m refl refl
        (λ ran is. (ran, is)) (λ is. is) (λ ended. absurd (ended goes)) busy

-- what a seat does keeps a node busy, unless it loses the machine
act_busy : (p : Plan) (s : State) (seat : ℕ) (act : Act) (k m : ℕ) → IsSound p s
    → CanAct p s seat act → (act ≡ Lose m → ⊥) → IsBusy s k m
    → IsBusy (acted p s seat act) k m
unfolding acted settled trimmed
act_busy p s seat (Place j a n) k m sound can not busy =
    busy_by s (acted p s seat (Place j a n)) k m refl refl (λ ran is. (ran, is)) (λ is. is)
    (λ is. is) busy
act_busy p s seat (Claim j a n) k m sound can not busy = elim (at_cases k j) [
  | inl same ↦ absurd (not_busy p s seat j a n m sound can
      (subst (λ i. IsBusy s i m) same busy))
  | inr other ↦
      busy_by s (acted p s seat (Claim j a n)) k m
      (put_else s.desk.claim j (held_by a n seat (ready s.graph s.desk.stores j a)) k other) refl
      (λ ran is. (ran, is)) (λ is. is) (λ is. is) busy
]
act_busy p s seat (Finish j a n) k m sound can not busy = elim (at_cases k j) [
  | inl same ↦
      subst (λ i. IsBusy (finished_by p s j n (s.desk.claim j)) i m) (sym same)
      (finish_itself p s seat j a n m sound can.1.holds (subst (λ i. IsBusy s i m) same busy))
  | inr other ↦
      busy_by s (finished_by p s j n (s.desk.claim j)) k m
      (finish_else p s j n k (s.desk.claim j) other)
      (finish_stores p s j n k (s.desk.claim j) other)
      (λ ran is. (ran, finish_driver p s j n k (s.desk.claim j) other ∙ is))
      (finish_gone p s j n k (s.desk.claim j)) (finish_end p s j n (s.desk.claim j)) busy
]
act_busy p s seat (Drop j a n) k m sound can not busy = elim (at_cases k j) [
  | inl same ↦
      subst (λ i. IsBusy (acted p s seat (Drop j a n)) i m) (sym same)
      (drop_itself p s seat j a n m sound can (subst (λ i. IsBusy s i m) same busy))
  | inr other ↦
      busy_by s (acted p s seat (Drop j a n)) k m
      (put_else s.desk.claim j (held_elsewhere n (s.desk.claim j)) k other) refl
      (λ ran is. (ran, is)) (λ is. is) (λ is. is) busy
]
act_busy p s seat (Refine j) k m sound can not busy =
    let r = refines_so p s j sound can.0.goes_on can.1 in
    let goes = can.0.goes_on in
    subst (λ (g : Graph). IsBusy (record s { graph = g }) k m) (sym r.graph)
    (busy_by s (record s { graph = growing s.graph r.node r.before r.after r.piece }) k m refl refl
    (λ ran is. (ran, is))
    (gone_grown p s r.node r.before r.after r.piece sound r.grows k)
    (λ ended. absurd (ended goes)) busy)
act_busy p s seat (Settle j) k m sound can not busy =
    let c = can.1 in
    let goes = can.0.goes_on in
    subst (λ (ns : List Node). IsBusy (record s { graph = settled_chain p s.graph ns }) k m)
    (sym c.chain)
    (settled_busy s c.head c.rest (leaf_meaning p.file (limits_of p) s.graph.given c.head) k m
    goes c.chain busy)
act_busy p s seat (Lose n) k m sound can not busy =
    lose_other p s seat n k m (λ z. not (ap Lose z)) busy
act_busy p s seat (Trim j) k m sound can not busy = elim (at_cases k j) [
  | inl same ↦
      gone (subst (IsGone (trimmed j s.graph)) (sym same)
      (is_gone s.graph j (is_past p s j sound.graph can.1)))
  | inr other ↦
      busy_by s (acted p s seat (Trim j)) k m refl (put_else s.desk.stores j None k other)
      (λ ran is. (ran, is)) (still_gone s.graph j k) (λ is. is) busy
]

-- an event keeps a node busy, unless it is that loss
event_busy : (p : Plan) (s : State) (e : Event) (k m : ℕ) → IsSound p s → Enabled p s e
    → (e.act ≡ Lose m → ⊥) → IsBusy s k m → IsBusy (happens p s e) k m
unfolding happens
event_busy p s e k m sound can not busy =
    let now = acted p s e.by e.act in
    busy_by now (record now { journal = s.journal ++ e ∷ [] }) k m refl refl
    (λ ran is. (ran, is)) (λ is. is) (λ is. is)
    (act_busy p s e.by e.act k m sound can.act not busy)

-- a claim makes its node busy
claim_busy : (p : Plan) (s : State) (seat k a m : ℕ) → IsSound p s
    → CanAct p s seat (Claim k a m) → IsBusy (acted p s seat (Claim k a m)) k m
unfolding acted
claim_busy p s seat k a m sound can =
    let c = can.1 in
    let r = ready_parts s.graph s.desk.stores k (sound.desk.ticket_ready k c.ticket c.is_live) in
    claimed (record {
      held = record { attempt = a; machine = m; seat = seat; job = job_with r.node a r.task };
      claim =
          put_here s.desk.claim k (held_by a m seat (ready s.graph s.desk.stores k a))
          ∙ ap (held_by a m seat) (ready_job s.graph s.desk.stores k a r);
      machine = refl;
    })

claim_event : (p : Plan) (s : State) (e : Event) (k a m : ℕ) → IsSound p s → Enabled p s e
    → e.act ≡ Claim k a m → IsBusy (happens p s e) k m
unfolding happens
claim_event p s e k a m sound can is =
    let now = acted p s e.by e.act in
    busy_by now (record now { journal = s.journal ++ e ∷ [] }) k m refl refl
    (λ ran x. (ran, x)) (λ x. x) (λ x. x)
    (subst (λ (act : Act). IsBusy (acted p s e.by act) k m) (sym is)
    (claim_busy p s e.by k a m sound (subst (CanAct p s e.by) is can.act)))

-- an act is a machine's loss, or not
loss_or : (act : Act) (m : ℕ) → (act ≡ Lose m) ⊎ (act ≡ Lose m → ⊥)
loss_or (Place k a n) m = inr (λ z. absurd (cc (z)))
loss_or (Claim k a n) m = inr (λ z. absurd (cc (z)))
loss_or (Finish k a n) m = inr (λ z. absurd (cc (z)))
loss_or (Drop k a n) m = inr (λ z. absurd (cc (z)))
loss_or (Refine k) m = inr (λ z. absurd (cc (z)))
loss_or (Settle k) m = inr (λ z. absurd (cc (z)))
loss_or (Lose n) m = elim (at_cases n m) [
  | inl same ↦ inl (ap Lose same)
  | inr other ↦ inr (λ z. other (let w : n ≡ m = cc (z) in w))
]
loss_or (Trim k) m = inr (λ z. absurd (cc (z)))

-- an event stands in a list
event_here : (x : Event) (xs : List Event) → Contains (x ∷ xs) x
event_here x xs = (0, omega arith, refl)

event_behind : (y : Event) (xs : List Event) (x : Event) → Contains xs x → Contains (y ∷ xs) x
event_behind y xs x (k, within, is) = (suc k, omega (arith, within), is)

-- a busy node is claimed only behind that loss
busy_until : (p : Plan) (s : State) (es behind : List Event) (second : Event) (k m b n : ℕ)
    → IsSound p s → IsBusy s k m → IsLegalFrom p s (es ++ second ∷ behind)
    → second.act ≡ Claim k b n → (e : Event) × Contains es e × (e.act ≡ Lose m)
unfolding IsLegalFrom
busy_until p s [] later second k m b n sound busy legal is =
    absurd (not_busy p s second.by k b n m sound
    (subst (CanAct p s second.by) is legal.0.act) busy)
busy_until p s (e ∷ es) later second k m b n sound busy legal is = elim (loss_or e.act m) [
  | inl loss ↦ (e, event_here e es, loss)
  | inr not ↦
      let r = busy_until p (happens p s e) es later second k m b n
      (event_keeps p s e sound legal.0) (event_busy p s e k m sound legal.0 not busy) legal.1 is in
      (r.0, event_behind e es r.0 r.1, r.2)
]

-- the law
pub claimed_again : AgainLaw
unfolding IsLegalFrom
claimed_again p before between later first second k a b m n runnable legal one two =
    let parts = legal_parts p (first_state p) before (first ∷ (between ++ (second ∷ later))) legal in
    let s = after p (first_state p) before in
    let sound = runs_on p (first_state p) before (starts p runnable) parts.0 in
    busy_until p (happens p s first) between later second k m b n
    (event_keeps p s first sound parts.1.0) (claim_event p s first k a m sound parts.1.0 one)
    parts.1.1 two

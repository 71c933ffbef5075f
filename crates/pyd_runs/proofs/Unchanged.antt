-- What events leave as it was, and what tickets, claims and records have.
use Rattle.std.proofs.Common.{◌≡◌, ℕ, List, [], ◌∷◌, ◌++◌, Bool, true, false, if◌then◌else◌, Option, None, Some, refl, ap, sym, ◌∙◌, subst}
use Rattle.std.specs.Prelude.{Result, Ok, Err, option_map}
use Rattle.std.proofs.lemmas.List.{append-nil}
use Rattle.pyd_value.specs.declared.value.Value.{Value}
use Rattle.pyd_value.specs.declared.fault.Fault.{Fault}
use Rattle.pyd_meaning.specs.declared.ran.Ran.{Ran}
use Rattle.pyd_meaning.specs.Evaluation.{Evaluation}
use Rattle.pyd_board.specs.declared.event.Act.{Act}
use Rattle.pyd_board.specs.declared.event.Act.TheVariants.{Place, Claim, Finish, Drop, Refine, Settle, Lose, Trim}
use Rattle.pyd_ir.specs.declared.node.Node.{Node}
use Rattle.pyd_ir.specs.Arguments.{is_pure}
use Rattle.pyd_ir.specs.Inputs.{Given, leaf_meaning}
use Rattle.pyd_ir.specs.Meaning.{job_ran}
use Rattle.pyd_runs.specs.Plans.{Plan, limits_of}
use Rattle.pyd_runs.specs.Graphs.{Graph, nodes}
use Rattle.pyd_runs.specs.Desks.{Kept, Held, put_at}
use Rattle.pyd_runs.specs.Records.{node_at, or_else, stored, records, recorded, ready, job_with}
use Rattle.pyd_runs.specs.Growth.{grown, grown_by}
use Rattle.pyd_runs.specs.Effects.{State, acted, happens, held_by, claimed, settled, settled_chain, settled_as, settled_by, passed, trimmed, finished_by, is_run, kept_by_driver, kept_by_machine}
use Rattle.pyd_runs.specs.Enabled.{CanAct}
use Rattle.pyd_runs.specs.Sound.{IsSound}
use Rattle.pyd_runs.specs.Facts.{IsDeskAct, IsAlike, DeskLaw, PutsOut, OutputLaw, TicketLaw, IsClaimed, ClaimedLaw, IsFinished, FinishedLaw}
use Rattle.pyd_runs.proofs.Putting.{put_here}
use Rattle.pyd_runs.proofs.Standing.{found_there}
use Rattle.pyd_runs.proofs.Claiming.{ready_parts, ready_job}

-- a graph is like itself
alike_itself : (g : Graph) → IsAlike g g
alike_itself g = record {
  past = refl;
  chain = refl;
  next = refl;
  given = refl;
  out = refl;
  end = refl;
}

-- a Finish leaves it so
pub finish_alike : (p : Plan) (s : State) (k machine : ℕ) (o : Option Held)
    → IsAlike s.graph (finished_by p s k machine o).graph
finish_alike p s k machine None = alike_itself s.graph
finish_alike p s k machine (Some c) = by_kind (is_run c.job.task)
  where
    by_kind : (b : Bool)
        → IsAlike s.graph (if b then kept_by_driver s k (job_ran p.file (limits_of p) c.job)
        else kept_by_machine s k machine (job_ran p.file (limits_of p) c.job)).graph
    by_kind true = record {
      past = refl;
      chain = refl;
      next = refl;
      given = refl;
      out = refl;
      end = refl;
    }
    by_kind false = alike_itself s.graph

-- so does what a seat does with tickets, claims and losses
act_alike : (p : Plan) (s : State) (seat : ℕ) (act : Act) → IsDeskAct act
    → IsAlike s.graph (acted p s seat act).graph
unfolding acted
act_alike p s seat (Place k a m) is = alike_itself s.graph
act_alike p s seat (Claim k a m) is = alike_itself s.graph
act_alike p s seat (Finish k a m) is = finish_alike p s k m (s.desk.claim k)
act_alike p s seat (Drop k a m) is = alike_itself s.graph
act_alike p s seat (Lose m) is = alike_itself s.graph
act_alike p s seat (Refine k) is = absurd is
act_alike p s seat (Settle k) is = absurd is
act_alike p s seat (Trim k) is = absurd is

-- the law
pub desk_leaves : DeskLaw
unfolding happens
desk_leaves p s e is = act_alike p s e.by e.act is

-- lines that are put out behind others
record IsLonger (old new : List (List ℕ)) : Type 0 where
  lines : List (List ℕ)
  all : new ≡ old ++ lines

longer_by_none : (out : List (List ℕ)) → IsLonger out out
longer_by_none out = record { lines = []; all = sym (append-nil out) }

-- by the head
passed_longer : (b : Bool) (g : Graph) (n : Node) (rest : List Node) (lines : List (List ℕ))
    (v : Value) → IsLonger g.out (passed b g n rest lines v).out
passed_longer true g n rest lines v = record { lines = lines; all = refl }
passed_longer false g n rest lines v = record { lines = lines; all = refl }

result_longer : (g : Graph) (n : Node) (rest : List Node) (lines : List (List ℕ))
    (r : Result Value Fault) → IsLonger g.out (settled_by g n rest lines r).out
result_longer g n rest lines (Ok v) = passed_longer (is_pure n.work) g n rest lines v
result_longer g n rest lines (Err f) = record { lines = lines; all = refl }

head_longer : (g : Graph) (n : Node) (rest : List Node) (o : Option (Evaluation Value))
    → IsLonger g.out (settled_as g n rest o).out
head_longer g n rest None = longer_by_none g.out
head_longer g n rest (Some e) = result_longer g n rest e.lines e.result

chain_longer : (p : Plan) (g : Graph) (ns : List Node)
    → IsLonger g.out (settled_chain p g ns).out
chain_longer p g [] = longer_by_none g.out
chain_longer p g (n ∷ rest) =
    head_longer g n rest (leaf_meaning p.file (limits_of p) g.given n)

settled_longer : (p : Plan) (g : Graph) → IsLonger g.out (settled p g).out
unfolding settled
settled_longer p g = chain_longer p g g.chain

-- refining puts nothing out
piece_out : (p : Plan) (given : Given) (g : Graph) (k : ℕ) (o : Option Node)
    → (grown_by p given g k o).out ≡ g.out
piece_out p given g k None = refl
piece_out p given g k (Some n) = refl

grown_out : (p : Plan) (s : State) (k : ℕ) → (grown p s.desk.stores k s.graph).out ≡ s.graph.out
unfolding grown
grown_out p s k =
    piece_out p (recorded s.graph s.desk.stores) s.graph k (node_at s.graph.chain k)

-- the lines, where nothing is put out
silent : (old new : Graph) (act : Act) → new.out ≡ old.out → PutsOut old new act
silent old new act same = record {
  lines = [];
  out = same ∙ sym (append-nil old.out);
  by_settle = λ none. same;
}

act_puts : (p : Plan) (s : State) (seat : ℕ) (act : Act)
    → PutsOut s.graph (acted p s seat act).graph act
unfolding acted trimmed
act_puts p s seat (Place k a m) = silent s.graph s.graph (Place k a m) refl
act_puts p s seat (Claim k a m) = silent s.graph s.graph (Claim k a m) refl
act_puts p s seat (Finish k a m) =
    silent s.graph (finished_by p s k m (s.desk.claim k)).graph (Finish k a m)
    (finish_alike p s k m (s.desk.claim k)).out
act_puts p s seat (Drop k a m) = silent s.graph s.graph (Drop k a m) refl
act_puts p s seat (Lose m) = silent s.graph s.graph (Lose m) refl
act_puts p s seat (Refine k) =
    silent s.graph (grown p s.desk.stores k s.graph) (Refine k) (grown_out p s k)
act_puts p s seat (Trim k) = silent s.graph (trimmed k s.graph) (Trim k) refl
act_puts p s seat (Settle k) =
    let more = settled_longer p s.graph in record {
      lines = more.lines;
      out = more.all;
      by_settle = λ not. absurd (not tt);
    }

-- the law
pub events_put_out : OutputLaw
unfolding happens
events_put_out p s e =
    let puts = act_puts p s e.by e.act in record {
      lines = puts.lines;
      out = puts.out;
      by_settle = λ not. puts.by_settle not;
    }

-- a live ticket
pub tickets_live : TicketLaw
tickets_live p s k t sound live =
    let r = ready_parts s.graph s.desk.stores k (sound.desk.ticket_ready k t live) in
    let alone = sound.desk.ticket_alone k t live in record {
      job = job_with r.node t.attempt r.task;
      is_ready = ready_job s.graph s.desk.stores k t.attempt r;
      no_record = alone.0;
      no_claim = alone.1;
      last = sound.attempts.ticket k t live;
    }

-- what a Claim leaves
pub claimed_so : (p : Plan) (s : State) (seat k a m : ℕ) → IsSound p s
    → CanAct p s seat (Claim k a m) → IsClaimed s ((claimed s seat k a m).desk.claim k) seat k a m
claimed_so p s seat k a m sound can =
    let c = can.1 in
    let r = ready_parts s.graph s.desk.stores k (sound.desk.ticket_ready k c.ticket c.is_live) in
    record {
      job = job_with r.node a r.task;
      is_ready = ready_job s.graph s.desk.stores k a r;
      of_node = (found_there (nodes s.graph) k r.node r.found).1;
      of_attempt = refl;
      claim =
          put_here s.desk.claim k (held_by a m seat (ready s.graph s.desk.stores k a))
          ∙ ap (held_by a m seat) (ready_job s.graph s.desk.stores k a r);
    }

claimed_by : (p : Plan) (s : State) (seat k a m : ℕ) → IsSound p s
    → CanAct p s seat (Claim k a m)
    → IsClaimed s ((acted p s seat (Claim k a m)).desk.claim k) seat k a m
unfolding acted
claimed_by p s seat k a m sound can = claimed_so p s seat k a m sound can

-- the law
pub claims_have : ClaimedLaw
unfolding happens
claims_have p s e k a m sound can is =
    subst (λ (act : Act). IsClaimed s ((acted p s e.by act).desk.claim k) e.by k a m) (sym is)
    (claimed_by p s e.by k a m sound (subst (CanAct p s e.by) is can.act))

-- where neither has a record, the driver has none
driver_none : (a b : Option Ran) → or_else a b ≡ None → a ≡ None
driver_none None b e = refl
driver_none (Some ran) b e = absurd (cc (e))

-- what a Finish leaves
finished_so : (p : Plan) (s : State) (k machine : ℕ) (c : Held)
    → records s.graph s.desk.stores k ≡ None
    → IsFinished p (finished_by p s k machine (Some c)) k c
finished_so p s k machine c none = by_kind (is_run c.job.task)
  where
    by_kind : (b : Bool)
        → IsFinished p (if b then kept_by_driver s k (job_ran p.file (limits_of p) c.job)
        else kept_by_machine s k machine (job_ran p.file (limits_of p) c.job)) k c
    by_kind true =
        let ran : Ran = job_ran p.file (limits_of p) c.job in record {
          kept = ap (λ o. or_else o (stored s.desk.stores k))
              (put_here s.graph.driver k (Some ran));
          no_claim = put_here s.desk.claim k None;
        }
    by_kind false =
        let ran : Ran = job_ran p.file (limits_of p) c.job in
        let kept : Kept = record { machine = machine; ran = ran } in record {
          kept =
              ap (λ o. or_else o (stored (put_at s.desk.stores k (Some kept)) k))
              (driver_none (s.graph.driver k) (stored s.desk.stores k) none)
              ∙ ap (λ (o : Option Kept). option_map (λ (x : Kept). x.ran) o)
              (put_here s.desk.stores k (Some kept));
          no_claim = put_here s.desk.claim k None;
        }

pub finished_now : (p : Plan) (s : State) (k m : ℕ) (c : Held) → IsSound p s
    → s.desk.claim k ≡ Some c → IsFinished p (finished_by p s k m (s.desk.claim k)) k c
finished_now p s k m c sound is =
    subst (λ (o : Option Held). IsFinished p (finished_by p s k m o) k c) (sym is)
    (finished_so p s k m c (sound.desk.claim_alone k c is))

finished_act : (p : Plan) (s : State) (seat k a m : ℕ) (c : Held) → IsSound p s
    → s.desk.claim k ≡ Some c → IsFinished p (acted p s seat (Finish k a m)) k c
unfolding acted
finished_act p s seat k a m c sound is = finished_now p s k m c sound is

-- the law
pub finishes_keep : FinishedLaw
unfolding happens
finishes_keep p s e k a m c sound can at is =
    let now = subst (λ (act : Act). IsFinished p (acted p s e.by act) k c) (sym at)
    (finished_act p s e.by k a m c sound is) in
    record { kept = now.kept; no_claim = now.no_claim }

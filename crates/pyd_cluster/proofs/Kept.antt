-- What always holds of a cluster still does behind events of tickets, claims and losses.
use Rattle.std.proofs.Common.{◌≡◌, ℕ, List, [], ◌∷◌, ◌++◌, append_assoc, Bool, true, false, Option, is_some, ap, sym, subst, ◌∙◌}
use Rattle.std.specs.List.{All}
use Rattle.std.proofs.lemmas.List.Elements.{All-nil, All-cons, All-append}
use Rattle.pyd_board.specs.declared.event.Event.{Event}
use Rattle.pyd_board.specs.declared.history.Halt.{Halt}
use Rattle.pyd_board.specs.declared.seat.Ticket.{Ticket}
use Rattle.pyd_board.specs.declared.seat.Who.{Who}
use Rattle.pyd_boards.specs.declared.answers.Claimed.{Claimed}
use Rattle.pyd_boards.specs.declared.answers.Claimed.TheVariants as claimed
use Rattle.pyd_boards.specs.declared.answers.Finished.{Finished}
use Rattle.pyd_boards.specs.declared.answers.Finished.TheVariants as finished
use Rattle.pyd_boards.specs.Boards.{entry}
use Rattle.pyd_boards.specs.Calls.{claim_entries}
use Rattle.pyd_ir.specs.declared.job.Job.{Job}
use Rattle.pyd_runs.specs.Effects.{State}
use Rattle.pyd_runs.specs.Facts.{IsAlike, IsDeskAct}
use Rattle.pyd_runs.specs.Graphs.{Graph}
use Rattle.pyd_runs.specs.Plans.{Plan}
use Rattle.pyd_runs.specs.Replay.{IsLegal, replay}
use Rattle.pyd_runs.proofs.Beginnings.{goes_behind}
use Rattle.pyd_core.specs.declared.keeper.Core.{Core}
use Rattle.pyd_core.specs.Cores as cores
use Rattle.pyd_core.specs.Finishing.{act_of}
use Rattle.pyd_core.specs.Steps.{ComesBy}
use Rattle.pyd_steps.specs.declared.told.Told.{Told}
use Rattle.pyd_steps.specs.Losses.{events_behind, losses_first}
use Rattle.pyd_steps.specs.Settling.{head_lines}
use Rattle.pyd_cluster.specs.declared.known.Known.{Known}
use Rattle.pyd_cluster.specs.Keeping.{HasBegun, HasFailed, IsKept, SinkHolds, faults_of, known_by, lines_next, lines_out, plan_of, state_of, with_more}
use Rattle.pyd_cluster.proofs.Alike.{alike_after, head_alike}
use Rattle.pyd_cluster.proofs.Goings.{all_losses, legal_behind}

-- what is known of a plan and events
abbrev pub known_of : Plan → List Event → Bool → Option Halt → Told → Told → Known
known_of p es fault halt opening sink = record {
  run = record { file = p.file; setup = p.setup; opening = opening.held };
  history = record { events = es; sink_faults = faults_of fault; halted = halt };
  opening = opening;
  sink = sink;
}

-- what is known of a core that comes by events
pub known_comes : (c d : Core) (es : List Event) → ComesBy c d es → (fault : Bool)
    (halt : Option Halt) (opening sink : Told)
    → known_by d fault halt opening sink
    ≡ known_of (cores.plan_of c) (c.log.journal.items ++ es) fault halt opening sink
known_comes c d es come fault halt opening sink =
    ap (λ (p : Plan). known_of p d.log.journal.items fault halt opening sink) come.plan
    ∙ ap (λ js. known_of (cores.plan_of c) js fault halt opening sink) come.journal

-- they begin as before
pub begun_more : (p : Plan) (es more : List Event) → HasBegun p es → HasBegun p (es ++ more)
begun_more p es more begun = record {
  more = begun.more ++ more;
  begins = ap (λ js. js ++ more) begun.begins ∙ append_assoc _ begun.more more;
}

-- the graph behind further events of tickets, claims and losses
pub alike_behind : (p : Plan) (es more : List Event) → All (λ e. IsDeskAct e.act) more
    → IsAlike (replay p es).graph (replay p (es ++ more)).graph
alike_behind p es more acts =
    subst (λ (s : State). IsAlike (replay p es).graph s.graph)
    (sym (goes_behind p es more).state) (alike_after p (replay p es) more acts)

-- the sink holds what it held
pub holds_alike : (fault : Bool) (p : Plan) (opening sink : Told) (halt : Option Halt)
    (g h : Graph) → IsAlike g h → SinkHolds fault p opening sink halt g.out (head_lines p g)
    → SinkHolds fault p opening sink halt h.out (head_lines p h)
holds_alike fault p opening sink halt g h alike holds =
    subst (λ head. SinkHolds fault p opening sink halt h.out head) (sym (head_alike p g h alike))
    (subst (λ out. SinkHolds fault p opening sink halt out (head_lines p g)) (sym alike.out)
    holds)

-- all of it holds still
pub kept_more : (fault : Bool) (k : Known) (es : List Event) → IsKept fault k
    → IsLegal (plan_of k) (k.history.events ++ es) → All (λ e. IsDeskAct e.act) es
    → IsKept fault (with_more k es)
kept_more fault k es kept legal acts = record {
  runnable = kept.runnable;
  legal = legal;
  begun = begun_more (plan_of k) k.history.events es kept.begun;
  faults = kept.faults;
  opening = kept.opening;
  sink = holds_alike fault (plan_of k) k.opening k.sink k.history.halted (state_of k).graph
      (replay (plan_of k) (k.history.events ++ es)).graph
      (alike_behind (plan_of k) k.history.events es acts) kept.sink;
  goes_on = λ is. (alike_behind (plan_of k) k.history.events es acts).end ∙ kept.goes_on is;
}

-- a fault that is kept halts
pub halts_by : (fault : Bool) (k : Known) → IsKept fault k → fault ≡ true
    → is_some k.history.halted ≡ true
halts_by false k kept is = absurd (cc (is))
halts_by true k kept is = by_failed kept.sink
  where
    by_failed : HasFailed (plan_of k) k.opening k.sink k.history.halted (lines_out k)
        (lines_next k) → is_some k.history.halted ≡ true
    by_failed failed = ap is_some failed.halted

module _ (c d : Core) (fault : Bool) (halt : Option Halt) (opening sink : Told)
    (kept : IsKept fault (known_by c fault halt opening sink)) where
  -- so it is of a core that comes by such events
  pub stays_kept : (es : List Event) → ComesBy c d es → All (λ e. IsDeskAct e.act) es
      → IsKept fault (known_by d fault halt opening sink)
  stays_kept es come acts =
      subst (IsKept fault) (sym (known_comes c d es come fault halt opening sink))
      (kept_more fault (known_by c fault halt opening sink) es kept (legal_behind c d es come)
      acts)

-- losses are such events
pub losses_are : (seat : ℕ) (c : Core) → All (λ e. IsDeskAct e.act) (losses_first seat c)
losses_are seat c = all_losses (λ e. IsDeskAct e.act) seat (λ n machine. tt) (cores.state_of c)

-- so is what a claim appends
pub claim_acts : (c : Core) (ticket : Ticket) (who : Who) (answer : Claimed Job)
    → All (λ e. IsDeskAct e.act) (losses_first who.seat c
    ++ claim_entries answer ticket who (events_behind who.seat c))
claim_acts c ticket who answer =
    All-append (λ e. IsDeskAct e.act) (losses_first who.seat c)
    (claim_entries answer ticket who (events_behind who.seat c)) (losses_are who.seat c)
    (own answer)
  where
    own : (a : Claimed Job) → All (λ e. IsDeskAct e.act)
        (claim_entries a ticket who (events_behind who.seat c))
    own (claimed.Job job) = All-cons (λ e. IsDeskAct e.act) _ [] tt
        (All-nil (λ e. IsDeskAct e.act))
    own claimed.Over = All-nil (λ e. IsDeskAct e.act)
    own (claimed.Lost back) = All-nil (λ e. IsDeskAct e.act)
    own claimed.Stale = All-nil (λ e. IsDeskAct e.act)

-- and what a finish appends
pub finish_acts : (c : Core) (node attempt : ℕ) (who : Who) (answer : Finished)
    → All (λ e. IsDeskAct e.act) (losses_first who.seat c
    ++ entry (events_behind who.seat c) who.seat (act_of answer node attempt who.machine) ∷ [])
finish_acts c node attempt who answer =
    let e = entry (events_behind who.seat c) who.seat (act_of answer node attempt who.machine) in
    All-append (λ e. IsDeskAct e.act) (losses_first who.seat c) (e ∷ []) (losses_are who.seat c)
    (All-cons (λ e. IsDeskAct e.act) e [] (own answer) (All-nil (λ e. IsDeskAct e.act)))
  where
    own : (a : Finished) → IsDeskAct (act_of a node attempt who.machine)
    own finished.Kept = tt
    own finished.Dropped = tt

-- What a run tells as a board goes with the events that may come on it.
use Rattle.std.proofs.Common.{◌≡◌, ◌==◌, ℕ, List, [], ◌∷◌, ◌++◌, append_assoc, append-nil, Bool, true, false, ◌||◌, if◌then◌else◌, Option, Some, None, is_some, option_map, inl, inr, refl, ap, sym, subst, ◌∙◌, arith}
use Rattle.std.specs.List.{list_any}
use Rattle.std.proofs.lemmas.List.Elements.{All-head}
use Rattle.std.proofs.lemmas.List.Folds.{list_any-append}
use Rattle.pyd_value.specs.declared.fault.End.{End}
use Rattle.pyd_board.specs.declared.event.Act.{Act}
use Rattle.pyd_board.specs.declared.event.Act.TheVariants.{Place, Claim, Finish, Drop, Refine, Settle, Lose, Trim}
use Rattle.pyd_board.specs.declared.event.Event.{Event}
use Rattle.pyd_board.specs.declared.kept.RunName.{RunName}
use Rattle.pyd_board.specs.declared.seat.Who.{Who}
use Rattle.pyd_boards.specs.Boards.{IsSeatIn, entry}
use Rattle.pyd_boards.specs.Calls.{AreNext, NoneIn, is_loss, kind_of, drops, loses}
use Rattle.pyd_boards.specs.Lawful.{AreLawful}
use Rattle.pyd_ir.specs.declared.job.Job.{Job}
use Rattle.pyd_ir.specs.declared.job.Task.{Task}
use Rattle.pyd_ir.specs.declared.node.Node.{Node}
use Rattle.pyd_runs.specs.Desks.{Placed, Stores}
use Rattle.pyd_runs.specs.Effects.{State}
use Rattle.pyd_runs.specs.Enabled.{CanAct, CanClaim, CanLose, Enabled, IsQuiet, due}
use Rattle.pyd_runs.specs.Facts.{DeskLaw, IsDeskAct, TicketLaw}
use Rattle.pyd_runs.specs.Following.{BeginningLaw, JournalLaw, StepLaw}
use Rattle.pyd_runs.specs.Graphs.{Graph, nodes}
use Rattle.pyd_runs.specs.Laws.{BarLaw, IsRunnable, RunLaw}
use Rattle.pyd_runs.specs.NextLosses.{LeftLaw, is_lost_by}
use Rattle.pyd_runs.specs.Plans.{IsSeatOf, Plan}
use Rattle.pyd_runs.specs.Records.{job_by, job_with, node_at, ready, recorded, task_by}
use Rattle.pyd_runs.specs.Replay.{IsLegal, IsLegalFrom, after, replay}
use Rattle.pyd_runs.specs.Sound.{IsSound}
use Rattle.pyd_runs.proofs.Going.{seat_there}
use Rattle.pyd_runs.proofs.Putting.{if_cases, same_test, test_same}
use Rattle.pyd_runs.proofs.Standing.{found_there}
use Rattle.pyd_core.specs.Claiming.{is_for, live_job}
use Rattle.pyd_core.specs.Facts.{EndLaw, LawfulLaw, NextLaw, facts_of, may_come, no_facts, plan_by}
use Rattle.pyd_core.proofs.Stepped.{entry_enabled}

-- the machine of a loss
loss_of : (act : Act) → is_loss act ≡ true → (machine : ℕ) × (act ≡ Lose machine)
loss_of (Lose machine) is = (machine, refl)
loss_of (Place k attempt machine) is = absurd (cc (is))
loss_of (Claim k attempt machine) is = absurd (cc (is))
loss_of (Finish k attempt machine) is = absurd (cc (is))
loss_of (Drop k attempt machine) is = absurd (cc (is))
loss_of (Refine k) is = absurd (cc (is))
loss_of (Settle k) is = absurd (cc (is))
loss_of (Trim k) is = absurd (cc (is))

-- a run that goes on hasn't ended
not_both : (end : Option End) → end ≡ None → is_some end ≡ true → ⊥
not_both None goes_on ended = cc (ended)
not_both (Some end) goes_on ended = cc (goes_on)

-- in a run that has ended only Drops may come
drops_alone : (p : Plan) (s : State) (seat : ℕ) (act : Act) → CanAct p s seat act
    → is_some s.graph.end ≡ true → kind_of act ≡ drops
drops_alone p s seat (Drop k attempt machine) can ended = refl
drops_alone p s seat (Place k attempt machine) can ended =
    absurd (not_both s.graph.end can.0.goes_on ended)
drops_alone p s seat (Claim k attempt machine) can ended =
    absurd (not_both s.graph.end can.0.goes_on ended)
drops_alone p s seat (Finish k attempt machine) can ended =
    absurd (not_both s.graph.end can.0.goes_on ended)
drops_alone p s seat (Refine k) can ended = absurd (not_both s.graph.end can.0.goes_on ended)
drops_alone p s seat (Settle k) can ended = absurd (not_both s.graph.end can.0.goes_on ended)
drops_alone p s seat (Lose machine) can ended = absurd (not_both s.graph.end can.goes_on ended)
drops_alone p s seat (Trim k) can ended = absurd (not_both s.graph.end can.0.goes_on ended)

-- which change tickets, claims and losses alone
drop_is_of_desk : (act : Act) → kind_of act ≡ drops → IsDeskAct act
drop_is_of_desk (Drop k attempt machine) is = tt
drop_is_of_desk (Place k attempt machine) is = tt
drop_is_of_desk (Claim k attempt machine) is = tt
drop_is_of_desk (Finish k attempt machine) is = tt
drop_is_of_desk (Lose machine) is = tt
drop_is_of_desk (Refine k) is = cc (is)
drop_is_of_desk (Settle k) is = cc (is)
drop_is_of_desk (Trim k) is = cc (is)

-- a ticket for an attempt
record IsTicket (attempt : ℕ) (ticket : Option Placed) (there : Option Job) (job : Option Job)
    : Type 0 where
  pub placed : Placed
  pub is_there : ticket ≡ Some placed
  pub of_attempt : placed.attempt ≡ attempt
  pub same : there ≡ job

-- where there is a job there is a ticket
ticket_of : (attempt : ℕ) (ticket : Option Placed) (there : Option Job) (job : Job)
    → (if is_for attempt ticket then there else None) ≡ Some job
    → IsTicket attempt ticket there (Some job)
ticket_of attempt None there job is = absurd (cc (is))
ticket_of attempt (Some t) there job is =
    elim (if_cases (t.attempt == attempt) there None (Some job) is) [
      | inl yes_for ↦ record {
        placed = t;
        is_there = refl;
        of_attempt = test_same t.attempt attempt yes_for.0;
        same = yes_for.1;
      }
      | inr other ↦ absurd (let none = other.1 in cc (none))
    ]

-- what is there is something
some_of : {A : Type 0} (o : Option A) → is_some o ≡ true → (a : A) × (o ≡ Some a)
some_of None is = absurd (cc (is))
some_of (Some a) is = (a, refl)

-- the number and the attempt of the job of a node
made_with : (n : Node) (attempt : ℕ) (task : Option Task) (job : Job)
    → option_map (job_with n attempt) task ≡ Some job
    → (job.node ≡ n.id) × (job.attempt ≡ attempt)
made_with n attempt None job is = absurd (cc (is))
made_with n attempt (Some task) job is =
    let same : job_with n attempt task ≡ job = cc (is) in
    (ap (λ (j : Job). j.node) (sym same), ap (λ (j : Job). j.attempt) (sym same))

-- a job that is ready tells its node and its attempt
ready_tells : (g : Graph) (stores : Stores) (k attempt : ℕ) (job : Job)
    → ready g stores k attempt ≡ Some job → (job.node ≡ k) × (job.attempt ≡ attempt)
unfolding ready
ready_tells g stores k attempt job is = by_node (node_at (nodes g) k) refl is
  where
    by_node : (o : Option Node) → node_at (nodes g) k ≡ o
        → job_by g.chain (recorded g stores) attempt o ≡ Some job
        → (job.node ≡ k) × (job.attempt ≡ attempt)
    by_node None found e = absurd (cc (e))
    by_node (Some n) found e =
        let made = made_with n attempt (task_by g.chain (recorded g stores) n) job e in
        (made.0 ∙ (found_there (nodes g) k n found).1, made.1)

-- the laws on which it stands
pub record LawfulLaws : Type 0 where
  pub bar : BarLaw
  pub desk : DeskLaw
  pub journal : JournalLaw
  pub left : LeftLaw
  pub run : RunLaw
  pub step : StepLaw
  pub ticket : TicketLaw

module _ (laws : LawfulLaws) (p : Plan) (es : List Event) where
  abbrev s : State
  s = replay p es

  due_bars : (loss e : Event) → Enabled p s loss → is_loss loss.act ≡ true → Enabled p s e
      → is_loss e.act ≡ true
  due_bars loss e may is other =
      let m = loss_of loss.act is in
      let can : CanLose s loss.by m.0 = subst (CanAct p s loss.by) m.1 may.act in
      ap is_loss (laws.bar p s e m.0 can.goes_on can.is_due other)

  lost_stays : (e : Event) (machine : ℕ) → s.lost machine ≡ true
      → (replay p (es ++ e ∷ [])).lost machine ≡ true
  lost_stays e machine is =
      let test : Event → Bool = λ x. is_lost_by machine x.act in
      (laws.left p (es ++ e ∷ [])).lost machine
      ∙ list_any-append test es (e ∷ [])
      ∙ ap (λ b. b || list_any test (e ∷ [])) (sym ((laws.left p es).lost machine) ∙ is)

  ended_stays : (e : Event) → Enabled p s e → is_some s.graph.end ≡ true
      → is_some (replay p (es ++ e ∷ [])).graph.end ≡ true
  ended_stays e may ended =
      let of_desk = drop_is_of_desk e.act (drops_alone p s e.by e.act may.act ended) in
      ap (λ (t : State). is_some t.graph.end) (laws.step p es e).state
      ∙ ap is_some (laws.desk p s e of_desk).end ∙ ended

  -- where no loss may come, none is due
  none_due : IsRunnable p → s.graph.end ≡ None → NoneIn (facts_of p) (may_come p) loses 0 es
      → due s ≡ None
  none_due runnable goes_on none = by_due (due s) refl
    where
      by_due : (o : Option ℕ) → due s ≡ o → o ≡ None
      by_due None is = refl
      by_due (Some machine) is = absurd (none (entry es 0 (Lose machine)) (
        runnable,
        entry_enabled laws.journal p es 0 (Lose machine) (omega arith)
            (record { goes_on = goes_on; is_due = is; by = λ all. refl }),
      )
          (record { of_kind = refl; in_run = refl }))

  -- the ticket behind a job
  ticket_behind : (k attempt : ℕ) (job : Job) → live_job s k attempt ≡ Some job
      → IsTicket attempt (s.desk.ticket k) (ready s.graph s.desk.stores k attempt) (Some job)
  ticket_behind k attempt job is =
      ticket_of attempt (s.desk.ticket k) (ready s.graph s.desk.stores k attempt) job is

  tells : (k attempt : ℕ) (job : Job) → live_job s k attempt ≡ Some job
      → (job.node ≡ k) × (job.attempt ≡ attempt)
  tells k attempt job is =
      ready_tells s.graph s.desk.stores k attempt job (ticket_behind k attempt job is).same

  module _ (sound : IsSound p s) where
    -- the job of a ticket
    job_of_ticket : (k attempt : ℕ) (t : Placed) → s.desk.ticket k ≡ Some t
        → t.attempt ≡ attempt → is_some (live_job s k attempt) ≡ true
    job_of_ticket k attempt t there of =
        let live = laws.ticket p s k t sound there in
        let job : Option Job = ready s.graph s.desk.stores k attempt in
        ap (λ o. is_some (if is_for attempt o then job else None)) there
        ∙ ap (λ b. is_some (if b then job else None)) (same_test t.attempt attempt of)
        ∙ ap is_some (subst (λ a. ready s.graph s.desk.stores k a ≡ Some live.job) of live.is_ready)

    has_job : (e : Event) (k attempt machine : ℕ) → Enabled p s e
        → e.act ≡ Claim k attempt machine → is_some (live_job s k attempt) ≡ true
    has_job e k attempt machine may is =
        let can : IsQuiet s × CanClaim p s e.by k attempt machine
        = subst (CanAct p s e.by) is may.act in
        job_of_ticket k attempt can.1.ticket can.1.is_live can.1.of_attempt

-- the end isn't there
no_end : (end : Option End) → is_some end ≡ false → end ≡ None
no_end None is = refl
no_end (Some end) is = absurd (cc (is))

module _ (laws : LawfulLaws) (run : RunName) (es : List Event) where
  abbrev p : Plan
  p = plan_by run

  abbrev t : State
  t = replay (plan_by run) es

  job_is_live : IsRunnable p → (who : Who) (k attempt : ℕ) → IsSeatIn run.setup who
      → NoneIn (facts_of p) (may_come p) loses 0 es → is_some t.graph.end ≡ false
      → t.lost who.machine ≡ false → is_some (live_job t k attempt) ≡ true
      → may_come p es (entry es who.seat (Claim k attempt who.machine))
  job_is_live runnable who k attempt worker none goes_on lives is =
      let job = some_of (live_job t k attempt) is in
      let ticket = ticket_behind laws p es k attempt job.0 job.1 in
      let end = no_end t.graph.end goes_on in
      let of : IsSeatOf p who.machine who.seat = record { from = worker.from; to = worker.to } in (
        runnable,
        entry_enabled laws.journal p es who.seat (Claim k attempt who.machine)
            (seat_there p who.machine who.seat worker.machine of) (
              record { goes_on = end; none_due = none_due laws p es runnable end none },
              record {
                ticket = ticket.placed;
                is_live = ticket.is_there;
                of_attempt = ticket.of_attempt;
                lives = record { is_machine = worker.machine; not_lost = lives };
                by_seat = of;
              },
            ),
      )

  -- all of it, behind a legal run
  lawful_behind : IsRunnable p → IsLegal p es
      → AreLawful (run ∷ []) (facts_of p) (may_come p) es
  lawful_behind runnable legal =
      let sound = laws.run p es runnable legal in
      record {
        due_bars = λ loss e may is other same. due_bars laws p es loss e may.1 is other.1;
        ended_bars = λ e may ended. drops_alone p t e.by e.act may.1.act ended;
        lost_stays = λ e may number machine is. lost_stays laws p es e machine is;
        ended_stays = λ e may number ended. ended_stays laws p es e may.1 ended;
        has_job = λ e k attempt machine may is. has_job laws p es sound e k attempt machine may.1 is;
        job_is_live = λ who k attempt worker none goes_on lives is.
            job_is_live runnable who k attempt
            (All-head (λ (r : RunName). IsSeatIn r.setup who) run [] worker) none goes_on lives is;
        tells = λ k attempt job is. tells laws p es k attempt job is;
      }

-- before any event no node has a job to be claimed
no_first_job : (p : Plan) (k attempt : ℕ) → live_job (replay p []) k attempt ≡ None
unfolding after
no_first_job p k attempt = refl

-- so none is told
none_told_at_first : (p : Plan) (k attempt : ℕ)
    → is_some (live_job (replay p []) k attempt) ≡ true → ⊥
none_told_at_first p k attempt is =
    let not : false ≡ true = ap is_some (sym (no_first_job p k attempt)) ∙ is in cc (not)

-- before any event: a plan in which an event may come may be run, and no job is told
lawful_at_first : LawfulLaws → (run : RunName)
    → AreLawful (run ∷ []) (facts_of (plan_by run)) (may_come (plan_by run)) []
unfolding IsLegalFrom
lawful_at_first laws run =
    let behind = λ (runnable : IsRunnable (plan_by run)). lawful_behind laws run [] runnable tt in
    record {
      due_bars = λ loss e may is other same. (behind may.0).due_bars loss e may is other same;
      ended_bars = λ e may ended. (behind may.0).ended_bars e may ended;
      lost_stays = λ e may number machine is. (behind may.0).lost_stays e may number machine is;
      ended_stays = λ e may number ended. (behind may.0).ended_stays e may number ended;
      has_job = λ e k attempt machine may is. (behind may.0).has_job e k attempt machine may is;
      job_is_live = λ who k attempt worker none goes_on lives is.
          absurd (none_told_at_first (plan_by run) k attempt is);
      tells = λ k attempt job is. tells laws (plan_by run) [] k attempt job is;
    }

-- events that may come each in its turn make a legal run
next_legal : StepLaw → (p : Plan) (es more : List Event) → IsLegal p es
    → AreNext (may_come p) es more → IsLegal p (es ++ more)
unfolding AreNext
next_legal step p es [] legal next = subst (IsLegal p) (sym (append-nil es)) legal
next_legal step p es (e ∷ more) legal next =
    subst (IsLegal p) (append_assoc es (e ∷ []) more)
    (next_legal step p (es ++ e ∷ []) more ((step p es e).legal legal next.0.1) next.1)

-- and those of a legal run may come so
legal_next : StepLaw → BeginningLaw → (p : Plan) → IsRunnable p → (es more : List Event)
    → IsLegal p (es ++ more) → AreNext (may_come p) es more
unfolding AreNext
legal_next step beginning p runnable es [] legal = tt
legal_next step beginning p runnable es (e ∷ more) legal =
    let all = subst (IsLegal p) (sym (append_assoc es (e ∷ []) more)) legal in (
      (runnable, (step p es e).enabled ((beginning p (es ++ e ∷ []) more).beginning all)),
      legal_next step beginning p runnable (es ++ e ∷ []) more all,
    )

pub comes_next : StepLaw → BeginningLaw → NextLaw
comes_next step beginning p es more = record {
  legal = next_legal step p es more;
  next = λ runnable. legal_next step beginning p runnable es more;
}

-- of one run
lawful_of_one : LawfulLaws → (run : RunName) (es : List Event)
    → AreNext (may_come (plan_by run)) [] es
    → AreLawful (run ∷ []) (facts_of (plan_by run)) (may_come (plan_by run)) es
unfolding AreNext IsLegalFrom
lawful_of_one laws run [] next = lawful_at_first laws run
lawful_of_one laws run (e ∷ es) next =
    lawful_behind laws run (e ∷ es) next.0.0
    (next_legal laws.step (plan_by run) [] (e ∷ es) tt next)

-- where there isn't one run, nothing may come and nothing is told
lawful_without : (name : List RunName) (es : List Event)
    → AreLawful name no_facts (λ (events : List Event) (e : Event). ⊥) es
lawful_without name es = record {
  due_bars = λ loss e may is other same. absurd may;
  ended_bars = λ e may ended. absurd may;
  lost_stays = λ e may number machine is. absurd may;
  ended_stays = λ e may number ended. absurd may;
  has_job = λ e k attempt machine may is. absurd may;
  job_is_live = λ who k attempt worker none goes_on lives is. absurd (cc (is));
  tells = λ k attempt job is. absurd (cc (is));
}

pub lawful : LawfulLaws → LawfulLaw
lawful laws [] es next = lawful_without [] es
lawful laws (run ∷ []) es next = lawful_of_one laws run es next
lawful laws (run ∷ (other ∷ more)) es next = lawful_without (run ∷ (other ∷ more)) es

pub ended_alike : EndLaw
ended_alike [] h = refl
ended_alike (run ∷ []) h = refl
ended_alike (run ∷ (other ∷ more)) h = refl

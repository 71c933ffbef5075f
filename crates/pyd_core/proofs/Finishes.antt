-- A core once the outcome of a claim is kept or dropped.
use Rattle.std.proofs.Common.{List, [], ◌∷◌, ◌++◌, append-nil, ◌≡◌, ◌≢◌, ◌<◌, ◌||◌, ℕ, Bool, true, false, Option, Some, None, is_some, IsSome, Result, Ok, Err, OnOk, if◌then◌else◌, inl, inr, ◌⊎◌, length, refl, ap, sym, subst, ◌∙◌, arith}
use Rattle.pyd_value.specs.declared.fault.End.{End}
use Rattle.pyd_value.specs.declared.fault.Outcome.{Outcome}
use Rattle.pyd_board.specs.declared.event.Act.{Act}
use Rattle.pyd_board.specs.declared.event.Act.TheVariants.{Drop, Finish}
use Rattle.pyd_board.specs.declared.event.Event.{Event}
use Rattle.pyd_boards.specs.Boards.{entry}
use Rattle.pyd_ir.specs.declared.done.Done.{Done}
use Rattle.pyd_ir.specs.declared.job.Job.{Job}
use Rattle.pyd_ir.specs.declared.job.Task.{Task}
use Rattle.pyd_ir.specs.Meaning.{job_ran}
use Rattle.pyd_meaning.specs.declared.ran.Ran.{Ran}
use Rattle.pyd_runs.specs.Callees.{CalleeLaw, LeaveLaw, LeavesRecord}
use Rattle.pyd_runs.specs.Claims.{IsSeated, SeatLaw}
use Rattle.pyd_runs.specs.Desks as runs
use Rattle.pyd_runs.specs.Effects.{State, acted, dropped, is_run, kept_by_driver, kept_by_machine}
use Rattle.pyd_runs.specs.Enabled.{CanAct, IsUnbarred}
use Rattle.pyd_runs.specs.Facts.{NumberLaw, node_of}
use Rattle.pyd_runs.specs.Following.{JournalLaw, StepLaw}
use Rattle.pyd_runs.specs.Laws.{RunLaw}
use Rattle.pyd_runs.specs.Plans.{IsSeat, Plan, limits_of}
use Rattle.pyd_runs.specs.Releases.{HoldsClaim, ReleaseLaw}
use Rattle.pyd_runs.specs.Replay.{replay}
use Rattle.pyd_runs.specs.Sound.{IsSound}
use Rattle.pyd_runs.proofs.Going.{seat_there}
use Rattle.pyd_runs.proofs.InOrder.{true_or_false}
use Rattle.pyd_desk.specs.declared.desk.Desk.{Desk}
use Rattle.pyd_desk.specs.Desks.{desk_of, silent}
use Rattle.pyd_desk.specs.States.{Becomes, IsStateOf}
use Rattle.pyd_core.specs.declared.keeper.Core.{Core}
use Rattle.pyd_core.specs.Cores.{HasRoom, IsCore, plan_of, state_of}
use Rattle.pyd_core.specs.Finishing.{HoldsClaimWith, is_in_vain, with_record}
use Rattle.pyd_core.specs.Steps.{Makes, Stays}
use Rattle.pyd_core.proofs.Noted.{HasNoted, IsAsFar, notes}
use Rattle.pyd_core.proofs.Stepped.{entry_enabled}

-- the test of claims in vain tells them
vain_is : (lost : Bool) (end : Option End) → (lost || is_some end) ≡ true
    → (lost ≡ true) ⊎ (end ≢ None)
vain_is true end e = inl refl
vain_is false None e = absurd (cc (e))
vain_is false (Some x) e = inr (λ none. cc (none))

-- and the others
serves_is : (lost : Bool) (end : Option End) → (lost || is_some end) ≡ false
    → (lost ≡ true) ⊎ (end ≢ None) → ⊥
serves_is true end e vain = cc (e)
serves_is false None e (inl lost) = cc (lost)
serves_is false None e (inr gone) = gone refl
serves_is false (Some x) e vain = cc (e)

-- the state once what was done is kept, by whether it is an effect's
abbrev record_by : State → ℕ → ℕ → Ran → Bool → State
record_by s k machine ran run =
    if run then kept_by_driver s k ran else kept_by_machine s k machine (silent ran.outcome)

-- a Finish leaves what the job of the claim gave
left_with : (p : Plan) (s now : State) (k machine : ℕ) (c : runs.Held)
    → LeavesRecord p s now k machine c
    → now ≡ with_record s k machine c.job.task (job_ran p.file (limits_of p) c.job)
left_with p s now k machine c left =
    let ran : Ran = job_ran p.file (limits_of p) c.job in
    elim (true_or_false (is_run c.job.task)) [
      | inl run ↦ left.effect run ∙ sym (ap (record_by s k machine ran) run)
      | inr other ↦ left.outcome other ∙ sym (ap (record_by s k machine ran) other)
    ]

-- a record changes neither the end nor the losses to come
record_far : (s : State) (k machine : ℕ) (task : Task) (ran : Ran)
    → IsAsFar s (with_record s k machine task ran)
record_far s k machine task ran =
    elim (true_or_false (is_run task)) [
      | inl run ↦ subst (λ (b : Bool). IsAsFar s (record_by s k machine ran b)) (sym run)
          (record { end = refl; losses = refl })
      | inr other ↦ subst (λ (b : Bool). IsAsFar s (record_by s k machine ran b)) (sym other)
          (record { end = refl; losses = refl })
    ]

-- what holds where there is no error
pub on_ok : {A E : Type 0} (r : Result A E) (P Q : Type 0) → (P → Q) → OnOk r P → OnOk r Q
on_ok (Ok a) P Q f holds = f holds
on_ok (Err e) P Q f holds = holds

module _ (old new : Desk) (k machine : ℕ) (task : Task) (ran : Ran) where
  -- the driver keeps what was done of an effect
  pub effect_kept : (copy : Ran) → is_run task ≡ true → copy ≡ ran
      → Becomes old new (λ s. kept_by_driver s k copy)
      → Becomes old new (λ s. with_record s k machine task ran)
  effect_kept copy run same becomes line s is =
      subst (IsStateOf line new)
      (ap (kept_by_driver s k) same ∙ sym (ap (record_by s k machine ran) run))
      (becomes line s is)

  -- a machine keeps what was done of any other job
  pub outcome_kept : (copy : Outcome) → is_run task ≡ false → copy ≡ ran.outcome
      → Becomes old new (λ s. kept_by_machine s k machine (silent copy))
      → Becomes old new (λ s. with_record s k machine task ran)
  outcome_kept copy other same becomes line s is =
      let kept : kept_by_machine s k machine (silent copy)
      ≡ kept_by_machine s k machine (silent ran.outcome)
      = λ i. kept_by_machine s k machine (silent (same i)) in
      subst (IsStateOf line new) (kept ∙ sym (ap (record_by s k machine ran) other))
      (becomes line s is)

-- what was done of a job under a core's file and limits is what it means there
pub done_is : (d : Done) (c : Core) → d.file.value ≡ c.program.file
    → d.limits ≡ limits_of (plan_of c)
    → d.ran ≡ job_ran c.program.file (limits_of (plan_of c)) d.job
done_is d c file limits =
    let there : job_ran d.file.value d.limits d.job
    ≡ job_ran c.program.file (limits_of (plan_of c)) d.job
    = λ i. job_ran (file i) (limits i) d.job in
    d.meant ∙ there

-- the laws on which a Finish and a Drop stand
pub record FinishLaws : Type 0 where
  pub run : RunLaw
  pub step : StepLaw
  pub journal : JournalLaw
  pub number : NumberLaw
  pub seats : SeatLaw
  pub release : ReleaseLaw

-- a seat of a machine has an outcome of a job that it holds
pub record IsFinishing (c : Core) (seat k attempt machine : ℕ) (job : Job) : Type 0 where
  pub core : IsCore c
  pub unbarred : IsUnbarred (state_of c)
  pub holds : HoldsClaimWith (state_of c) seat k attempt machine job

module _ (laws : FinishLaws) (c : Core) (seat k attempt machine : ℕ) (job : Job)
    (is : IsFinishing c seat k attempt machine job) where
  abbrev p : Plan
  p = plan_of c

  abbrev s : State
  s = state_of c

  abbrev claim : runs.Held
  claim = is.holds.claim

  sound : IsSound p s
  sound = laws.run p c.log.journal.items is.core.runnable is.core.legal

  -- the claim is by a seat of its machine
  seated_claim : IsSeated p claim
  seated_claim = laws.seats p c.log.journal.items is.core.legal k claim is.holds.held

  seated : IsSeat p seat
  seated =
      subst (IsSeat p) is.holds.of_seat.by_seat
      (seat_there p claim.machine claim.seat seated_claim.is_machine seated_claim.of_machine)

  -- the seat has a count
  pub seat_counted : seat < length c.log.counts.items
  seat_counted =
      let seats = is.core.places.seats in
      let low = seated in
      omega (arith, seats, low)

  -- the machine has a store
  pub store_there : machine < length c.desk.stores.items
  store_there =
      subst (λ (n : ℕ). machine < n) (sym is.core.places.stores)
      (subst (λ (m : ℕ). m < p.setup.machines) is.holds.of_seat.on_machine seated_claim.is_machine)

  holds_claim : HoldsClaim s seat k attempt machine
  holds_claim = record {
    claim = claim;
    held = is.holds.held;
    of_seat = is.holds.of_seat;
  }

  -- the node's number was given
  numbered : (act : Act) → node_of act ≡ Some k → CanAct p s seat act → k < s.graph.next
  numbered act names can =
      let es = c.log.journal.items in
      laws.number p es (entry es seat act) k is.core.runnable is.core.legal
      (entry_enabled laws.journal p es seat act seated can) names

  module _ (vain : is_in_vain s machine ≡ true) where
    -- the claim may be let go
    can_drop : CanAct p s seat (Drop k attempt machine)
    can_drop =
        (laws.release p s seat k attempt machine sound is.unbarred).drops holds_claim
        (vain_is (s.lost machine) s.graph.end vain)

    -- its node has a mark
    pub dropped_below : k < length c.desk.marks.items
    dropped_below =
        subst (λ (n : ℕ). k < n) (sym is.core.tied.state.marks)
        (numbered (Drop k attempt machine) refl can_drop)

    -- a core without it
    pub makes_drop : HasRoom 1 c → (d : Core) → HasNoted c d seat (Drop k attempt machine)
        → Becomes c.desk d.desk (λ t. dropped t k attempt machine)
        → Makes c d seat (Drop k attempt machine)
    unfolding acted
    makes_drop room d noted becomes =
        notes c d seat (Drop k attempt machine) noted laws.step laws.journal is.core room seated
        can_drop (record { end = refl; losses = refl }) (becomes c.line s is.core.tied.state)

  module _ (serves : is_in_vain s machine ≡ false) where
    -- the claim may be finished
    can_finish : CanAct p s seat (Finish k attempt machine)
    can_finish =
        (laws.release p s seat k attempt machine sound is.unbarred).finishes holds_claim
        (serves_is (s.lost machine) s.graph.end serves)

    below : k < s.graph.next
    below = numbered (Finish k attempt machine) refl can_finish

    -- its node has a mark
    pub finished_below : k < length c.desk.marks.items
    finished_below = subst (λ (n : ℕ). k < n) (sym is.core.tied.state.marks) below

    -- and a place for what the driver keeps
    pub driver_below : k < length c.desk.driver.items
    driver_below = subst (λ (n : ℕ). k < n) (sym is.core.tied.state.driver) below

    -- the claim stands: its machine isn't lost
    stands : s.desk.claim k ≡ Some claim
    stands = elim is.holds.held [
      | inl there ↦ there
      | inr undone ↦
          let gone : s.lost machine ≡ true
          = sym (ap s.lost is.holds.of_seat.on_machine)
          ∙ sound.desk.undone_lost k claim.attempt claim undone in
          absurd (serves_is (s.lost machine) s.graph.end serves (inl gone))
    ]

    -- on the desk too
    pub claim_there : IsSome ((desk_of c.desk).claim k)
    claim_there =
        ap is_some (ap (λ (d : runs.Desk). d.claim k) (sym is.core.tied.state.desk) ∙ stands)

    module _ (callee : CalleeLaw) (leave : LeaveLaw) (ran : Ran)
        (ran_is : ran ≡ job_ran c.program.file (limits_of p) job) where
      -- what a Finish leaves
      left_is : acted p s seat (Finish k attempt machine) ≡ with_record s k machine job.task ran
      left_is =
          left_with p s (acted p s seat (Finish k attempt machine)) k machine claim
          (leave p s seat k attempt machine claim c.program.accepted
          (callee p c.log.journal.items) stands)
          ∙ ap (λ (j : Job). with_record s k machine j.task (job_ran p.file (limits_of p) j))
          is.holds.of_job
          ∙ ap (with_record s k machine job.task) (sym ran_is)

      -- a core with the outcome
      pub makes_finish : HasRoom 1 c → (d : Core) → HasNoted c d seat (Finish k attempt machine)
          → Becomes c.desk d.desk (λ t. with_record t k machine job.task ran)
          → Makes c d seat (Finish k attempt machine)
      makes_finish room d noted becomes =
          notes c d seat (Finish k attempt machine) noted laws.step laws.journal is.core room
          seated can_finish
          (subst (IsAsFar s) (sym left_is) (record_far s k machine job.task ran))
          (subst (IsStateOf c.line d.desk) (sym left_is) (becomes c.line s is.core.tied.state))

module _ (b c : Core) (still : Stays b c) where
  -- a core that stays has the same events
  entries_still : c.log.journal.items ≡ b.log.journal.items
  entries_still = still.journal ∙ append-nil b.log.journal.items

  -- it is in the same state
  state_still : state_of c ≡ state_of b
  state_still =
      ap (λ (p : Plan). replay p c.log.journal.items) still.plan
      ∙ ap (replay (plan_of b)) entries_still

  -- an outcome may be given to it still
  pub finishing_still : (seat k attempt machine : ℕ) (job : Job)
      → IsFinishing b seat k attempt machine job → IsFinishing c seat k attempt machine job
  finishing_still seat k attempt machine job is =
      let same = sym state_still in
      record {
        core = still.core;
        unbarred = subst IsUnbarred same is.unbarred;
        holds = subst (λ (s : State). HoldsClaimWith s seat k attempt machine job) same is.holds;
      }

  -- and its claim is in vain where it was
  pub vain_still : (machine : ℕ)
      → is_in_vain (state_of c) machine ≡ is_in_vain (state_of b) machine
  vain_still machine = ap (λ (s : State). is_in_vain s machine) state_still

  -- the file is the same, and so are the limits
  pub file_still : b.program.file ≡ c.program.file
  file_still = ap (λ (p : Plan). p.file) (sym still.plan)

  pub limits_still : limits_of (plan_of b) ≡ limits_of (plan_of c)
  limits_still = ap limits_of (sym still.plan)

  -- what it makes was made of the first one
  pub makes_on : (d : Core) (seat : ℕ) (act : Act) → Makes c d seat act → Makes b d seat act
  makes_on d seat act next = record {
    core = next.core;
    plan = next.plan ∙ still.plan;
    journal = next.journal ∙ ap (λ (es : List Event). es ++ entry es seat act ∷ []) entries_still;
  }

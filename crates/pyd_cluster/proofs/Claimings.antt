-- What a claim, a finish and losses leave, by their answers.
use Rattle.std.proofs.Common.{◌≡◌, ℕ, [], ◌∷◌, Bool, true, false, if◌then◌else◌, map, Option, Some, None, is_some, Result, Ok, Err, IfOk, OnErr}
use Rattle.pyd_value.specs.declared.memory.NoMemory.{NoMemory}
use Rattle.pyd_board.specs.declared.history.Halt.{Halt}
use Rattle.pyd_board.specs.declared.kept.RunName.{RunName}
use Rattle.pyd_board.specs.declared.seat.Ticket.{Ticket}
use Rattle.pyd_board.specs.declared.seat.Who.{Who}
use Rattle.pyd_board.specs.Serving.{Serves, basis_of}
use Rattle.pyd_boards.specs.declared.answers.Claimed.{Claimed}
use Rattle.pyd_boards.specs.declared.answers.Claimed.TheVariants as claimed
use Rattle.pyd_boards.specs.declared.answers.Finished.{Finished}
use Rattle.pyd_boards.specs.Boards.{ClaimAfter, HoldsJob}
use Rattle.pyd_boards.specs.Calls as calls
use Rattle.pyd_boards.specs.Calls.{GoesOnBy, IfJob, LosesIn, claimed_job}
use Rattle.pyd_ir.specs.declared.job.Job.{Job}
use Rattle.pyd_ir.specs.Meaning.{TaskFits}
use Rattle.pyd_runs.specs.Callees.{CalleeLaw, SilentLaw}
use Rattle.pyd_runs.specs.Effects.{State}
use Rattle.pyd_runs.specs.Following.{BeginningLaw}
use Rattle.pyd_runs.specs.Replay.{replay}
use Rattle.pyd_core.specs.declared.keeper.Core.{Core}
use Rattle.pyd_core.specs.Claiming.{live_job}
use Rattle.pyd_core.specs.Cores.{IsCore, plan_of, state_of}
use Rattle.pyd_core.specs.Facts.{NextLaw, facts_of, may_come}
use Rattle.pyd_core.specs.Steps.{ComesBy}
use Rattle.pyd_steps.specs.declared.told.Told.{Told}
use Rattle.pyd_steps.specs.Claiming.{Claims}
use Rattle.pyd_steps.specs.Finishing.{Finishes}
use Rattle.pyd_steps.specs.Losses.{events_behind, losses_first}
use Rattle.pyd_cluster.specs.Keeping.{IsKept, faults_of, known_by}
use Rattle.pyd_cluster.proofs.Goings.{by_seat, goes_on_by, same_still, told}
use Rattle.pyd_cluster.proofs.Held.{HeldLaws, finishes_claim, job_serves}
use Rattle.pyd_cluster.proofs.Kept.{claim_acts, finish_acts, halts_by, losses_are, stays_kept}
use Rattle.pyd_cluster.proofs.Takings.{claim_by_seat, claims_as, finish_by_seat, finishes_as, loses_as}

-- a job that is answered is the one that is told
job_told : (over lost : Bool) (ticket : Ticket) (there : Option Job) (job : Job)
    → claimed.Job job ≡ (if over then claimed.Over else
    if lost then claimed.Lost ticket else claimed_job there)
    → there ≡ Some job
job_told true lost ticket there job is = absurd (cc (is))
job_told false true ticket there job is = absurd (cc (is))
job_told false false ticket None job is = absurd (cc (is))
job_told false false ticket (Some j) job is = cc (is)

-- a core and its sink, as far as it has come, and the core that it comes to
module _ (c d : Core) (core : IsCore c) (fault : Bool) (halt : Option Halt)
    (opening sink : Told) (kept : IsKept fault (known_by c fault halt opening sink)) where
  -- what always holds still does
  abbrev HoldStill : Type 0
  HoldStill = IsCore d × IsKept fault (known_by d fault halt opening sink)

  -- behind losses
  pub losses_stay : (seat : ℕ) → ComesBy c d (losses_first seat c) → HoldStill
  losses_stay seat come = (
    come.core,
    stays_kept c d fault halt opening sink kept (losses_first seat c) come (losses_are seat c),
  )

  -- they are by the seat
  pub losses_go_on : NextLaw → (seat : ℕ) → ComesBy c d (losses_first seat c)
      → GoesOnBy (may_come (plan_of c)) seat (told c (faults_of fault) halt)
      (told d (faults_of fault) halt)
  losses_go_on next seat come =
      goes_on_by next c d seat (losses_first seat c) (faults_of fault) (faults_of fault) halt
      halt core come (by_seat seat (state_of c)) (same_still (faults_of fault) halt)

  module _ (ticket : Ticket) (who : Who) where
    -- behind a claim
    pub claim_stays : (result : Result (Claimed Job) NoMemory)
        → IfOk result (Claims (is_some halt) c d ticket who)
        → OnErr result (ComesBy c d (losses_first who.seat c)) → HoldStill
    claim_stays (Ok answer) claims memory = (
      claims.comes.core,
      stays_kept c d fault halt opening sink kept _ claims.comes (claim_acts c ticket who answer),
    )
    claim_stays (Err e) claims memory = losses_stay who.seat memory

    -- its entries are by the seat
    pub claim_goes_on : NextLaw → (result : Result (Claimed Job) NoMemory)
        → IfOk result (Claims (is_some halt) c d ticket who)
        → OnErr result (ComesBy c d (losses_first who.seat c))
        → GoesOnBy (may_come (plan_of c)) who.seat (told c (faults_of fault) halt)
        (told d (faults_of fault) halt)
    claim_goes_on next (Ok answer) claims memory =
        goes_on_by next c d who.seat _ (faults_of fault) (faults_of fault) halt halt core
        claims.comes (claim_by_seat c ticket who answer) (same_still (faults_of fault) halt)
    claim_goes_on next (Err e) claims memory = losses_go_on next who.seat memory

    -- it is one of the board
    pub claim_answers : BeginningLaw → (run : RunName) → (result : Result (Claimed Job) NoMemory)
        → IfOk result (Claims (is_some halt) c d ticket who)
        → IfOk result (λ answer. calls.Claims (facts_of (plan_of c)) (may_come (plan_of c))
        (run ∷ []) ticket who (told c (faults_of fault) halt) answer
        (told d (faults_of fault) halt))
    claim_answers beginning run (Ok answer) claims =
        claims_as beginning c d run fault halt ticket who answer
        (halts_by fault (known_by c fault halt opening sink) kept) claims
    claim_answers beginning run (Err e) claims = tt

    -- its job is for the run's file
    pub claim_fits : CalleeLaw → SilentLaw → (run : RunName) → c.program.file ≡ run.file
        → (result : Result (Claimed Job) NoMemory)
        → IfOk result (Claims (is_some halt) c d ticket who)
        → IfOk result (λ answer. IfJob answer (λ job.
        Serves (map basis_of (run ∷ [])) 0 (TaskFits job.task)))
    claim_fits callees silent run same (Err e) claims = tt
    claim_fits callees silent run same (Ok claimed.Over) claims = tt
    claim_fits callees silent run same (Ok (claimed.Lost back)) claims = tt
    claim_fits callees silent run same (Ok claimed.Stale) claims = tt
    claim_fits callees silent run same (Ok (claimed.Job job)) claims =
        let es = events_behind who.seat c in
        let s : State = replay (plan_of c) es in
        job_serves callees silent c run es ticket.node ticket.attempt job same
        (job_told _ (s.lost who.machine) ticket (live_job s ticket.node ticket.attempt) job
        claims.answers)

  -- losses alone are those of the run
  pub memory_loses : {A : Type 0} → BeginningLaw → (seat : ℕ) → (result : Result A NoMemory)
      → OnErr result (ComesBy c d (losses_first seat c))
      → OnErr result (LosesIn (facts_of (plan_of c)) (may_come (plan_of c)) 0
      (told c (faults_of fault) halt) (told d (faults_of fault) halt))
  memory_loses beginning seat (Ok answer) memory = tt
  memory_loses beginning seat (Err e) memory =
      loses_as beginning c d (faults_of fault) halt seat memory

  module _ (node attempt : ℕ) (who : Who) where
    -- behind a finish
    pub finish_stays : (result : Result Finished NoMemory)
        → IfOk result (Finishes c d node attempt who)
        → OnErr result (ComesBy c d (losses_first who.seat c)) → HoldStill
    finish_stays (Ok answer) finishes memory = (
      finishes.comes.core,
      stays_kept c d fault halt opening sink kept _ finishes.comes
          (finish_acts c node attempt who answer),
    )
    finish_stays (Err e) finishes memory = losses_stay who.seat memory

    -- its entries are by the seat
    pub finish_goes_on : NextLaw → (result : Result Finished NoMemory)
        → IfOk result (Finishes c d node attempt who)
        → OnErr result (ComesBy c d (losses_first who.seat c))
        → GoesOnBy (may_come (plan_of c)) who.seat (told c (faults_of fault) halt)
        (told d (faults_of fault) halt)
    finish_goes_on next (Ok answer) finishes memory =
        goes_on_by next c d who.seat _ (faults_of fault) (faults_of fault) halt halt core
        finishes.comes (finish_by_seat c node attempt who answer)
        (same_still (faults_of fault) halt)
    finish_goes_on next (Err e) finishes memory = losses_go_on next who.seat memory

  -- it is one of the board
  finish_answers : BeginningLaw → (claim : ClaimAfter) (who : Who)
      → (result : Result Finished NoMemory)
      → IfOk result (Finishes c d claim.node claim.attempt who)
      → IfOk result (λ answer. calls.Finishes (facts_of (plan_of c)) (may_come (plan_of c)) claim
      who (told c (faults_of fault) halt) answer (told d (faults_of fault) halt))
  finish_answers beginning claim who (Ok answer) finishes =
      finishes_as beginning c d (faults_of fault) halt claim who answer finishes
  finish_answers beginning claim who (Err e) finishes = tt

  -- also by the node and the attempt of the job
  pub finish_claims : HeldLaws → (who : Who) (job : Job)
      (held : HoldsJob (facts_of (plan_of c)) who job c.log.journal.items)
      → (result : Result Finished NoMemory)
      → IfOk result (Finishes c d job.node job.attempt who)
      → IfOk result (λ answer. calls.Finishes (facts_of (plan_of c)) (may_come (plan_of c))
      held.claim who (told c (faults_of fault) halt) answer (told d (faults_of fault) halt))
  finish_claims laws who job held (Ok answer) finishes =
      finish_answers laws.beginning held.claim who (Ok answer)
      (finishes_claim laws c core who job held d answer finishes)
  finish_claims laws who job held (Err e) finishes = tt

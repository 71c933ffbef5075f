-- Claims and finishes of a core as those of its board.
use Rattle.std.proofs.Common.{◌≡◌, ℕ, List, [], ◌∷◌, ◌++◌, Bool, true, false, ◌||◌, ◌&&◌, ◌==◌, cond, if◌then◌else◌, Option, is_some, refl, ap, ◌∙◌}
use Rattle.std.specs.List.{list_any}
use Rattle.std.proofs.lemmas.List.Elements.{All-nil, All-cons, All-append}
use Rattle.pyd_board.specs.declared.history.Halt.{Halt}
use Rattle.pyd_board.specs.declared.kept.RunName.{RunName}
use Rattle.pyd_board.specs.declared.seat.Ticket.{Ticket}
use Rattle.pyd_board.specs.declared.seat.Who.{Who}
use Rattle.pyd_board.specs.Histories.{AllBy}
use Rattle.pyd_boards.specs.declared.answers.Claimed.{Claimed}
use Rattle.pyd_boards.specs.declared.answers.Claimed.TheVariants as claimed
use Rattle.pyd_boards.specs.declared.answers.Finished.{Finished}
use Rattle.pyd_boards.specs.declared.answers.Finished.TheVariants as finished
use Rattle.pyd_boards.specs.Boards.{ClaimAfter, entry}
use Rattle.pyd_boards.specs.Calls as calls
use Rattle.pyd_boards.specs.Calls.{LosesIn, claim_entries, claimed_job, finish_act}
use Rattle.pyd_ir.specs.declared.job.Job.{Job}
use Rattle.pyd_runs.specs.Effects.{State}
use Rattle.pyd_runs.specs.Following.{BeginningLaw}
use Rattle.pyd_runs.specs.Replay.{replay}
use Rattle.pyd_core.specs.declared.keeper.Core.{Core}
use Rattle.pyd_core.specs.Claiming.{live_job}
use Rattle.pyd_core.specs.Cores.{plan_of, state_of}
use Rattle.pyd_core.specs.Facts.{facts_of, may_come}
use Rattle.pyd_core.specs.Finishing.{act_of, answer_by}
use Rattle.pyd_core.specs.Steps.{ComesBy}
use Rattle.pyd_steps.specs.Claiming.{Claims}
use Rattle.pyd_steps.specs.Finishing.{Finishes}
use Rattle.pyd_steps.specs.Losses.{events_behind, losses_first}
use Rattle.pyd_cluster.proofs.Dues.{are_due}
use Rattle.pyd_cluster.proofs.Goings.{by_seat, told}

-- the runs that keep a fault of the sink
abbrev pub faults_by : Bool → List ℕ
faults_by fault = cond fault (0 ∷ []) []

-- a fault that is kept halts the board
abbrev pub HaltsAt : Bool → Option Halt → Type 0
HaltsAt fault halt = fault ≡ true → is_some halt ≡ true

-- whether the first run keeps one
abbrev pub is_faulty : Bool → Bool
is_faulty fault = list_any (λ kept. kept == 0) (faults_by fault)

-- so the board is done where the run has ended or is halted
pub done_same : (ended fault halted : Bool) → (fault ≡ true → halted ≡ true)
    → (((ended || is_faulty fault) && true) || halted) ≡ (ended || halted)
done_same true fault halted halts = refl
done_same false true true halts = refl
done_same false true false halts = absurd (cc (halts refl))
done_same false false halted halts = refl

-- what a claim answers by these tests, with or without the faults that are kept
same_answer : {J : Type 0} (ended fault halted lost : Bool) (ticket : Ticket) (job : Option J)
    → (fault ≡ true → halted ≡ true)
    → (if ended || halted then claimed.Over else
    if lost then claimed.Lost ticket else claimed_job job)
    ≡ (if ((ended || is_faulty fault) && true) || halted then claimed.Over else
    if lost then claimed.Lost ticket else
    if ended || is_faulty fault then claimed.Stale else claimed_job job)
same_answer true fault halted lost ticket job halts = refl
same_answer false true true lost ticket job halts = refl
same_answer false true false lost ticket job halts = absurd (cc (halts refl))
same_answer false false true lost ticket job halts = refl
same_answer false false false lost ticket job halts = refl

-- a claim of a core is one of its board
pub claims_as : BeginningLaw → (c d : Core) (run : RunName) (fault : Bool) (halt : Option Halt)
    (ticket : Ticket) (who : Who) (answer : Claimed Job) → HaltsAt fault halt
    → Claims (is_some halt) c d ticket who answer
    → calls.Claims (facts_of (plan_of c)) (may_come (plan_of c)) (run ∷ []) ticket who
    (told c (faults_by fault) halt) answer (told d (faults_by fault) halt)
claims_as beginnings c d run fault halt ticket who answer halts claims =
    let s : State = replay (plan_of c) (events_behind who.seat c) in
    record {
      losses = losses_first who.seat c;
      due = are_due beginnings c who.seat;
      answers = claims.answers
          ∙ same_answer (is_some s.graph.end) fault (is_some halt) (s.lost who.machine) ticket
          (live_job s ticket.node ticket.attempt) halts;
      leaves = ap (λ es. record { events = es; sink_faults = faults_by fault; halted = halt })
          claims.comes.journal;
    }

-- the entries of a claim are by its seat
pub claim_by_seat : (c : Core) (ticket : Ticket) (who : Who) (answer : Claimed Job)
    → AllBy who.seat (losses_first who.seat c
    ++ claim_entries answer ticket who (events_behind who.seat c))
claim_by_seat c ticket who answer =
    All-append (λ e. e.by ≡ who.seat) (losses_first who.seat c)
    (claim_entries answer ticket who (events_behind who.seat c))
    (by_seat who.seat (state_of c)) (own answer)
  where
    own : (a : Claimed Job)
        → AllBy who.seat (claim_entries a ticket who (events_behind who.seat c))
    own (claimed.Job job) =
        All-cons (λ e. e.by ≡ who.seat) _ [] refl (All-nil (λ e. e.by ≡ who.seat))
    own claimed.Over = All-nil (λ e. e.by ≡ who.seat)
    own (claimed.Lost back) = All-nil (λ e. e.by ≡ who.seat)
    own claimed.Stale = All-nil (λ e. e.by ≡ who.seat)

-- what a finish answers by whether its claim is in vain
finish_same : (vain : Bool)
    → answer_by vain ≡ (if vain then finished.Dropped else finished.Kept)
finish_same true = refl
finish_same false = refl

-- what lets a claim go is the same act
act_same : (answer : Finished) (claim : ClaimAfter) (who : Who)
    → act_of answer claim.node claim.attempt who.machine ≡ finish_act answer claim who
act_same finished.Kept claim who = refl
act_same finished.Dropped claim who = refl

-- a finish of a core is one of its board
pub finishes_as : BeginningLaw → (c d : Core) (faults : List ℕ) (halt : Option Halt)
    (claim : ClaimAfter) (who : Who) (answer : Finished)
    → Finishes c d claim.node claim.attempt who answer
    → calls.Finishes (facts_of (plan_of c)) (may_come (plan_of c)) claim who
    (told c faults halt) answer (told d faults halt)
finishes_as beginnings c d faults halt claim who answer finishes =
    let s : State = replay (plan_of c) (events_behind who.seat c) in
    record {
      losses = losses_first who.seat c;
      due = are_due beginnings c who.seat;
      answers = finishes.answers ∙ finish_same (s.lost who.machine || is_some s.graph.end);
      leaves = ap (λ es. record { events = es; sink_faults = faults; halted = halt })
          (finishes.comes.journal
          ∙ ap (λ act. c.log.journal.items ++ (losses_first who.seat c
          ++ entry (events_behind who.seat c) who.seat act ∷ [])) (act_same answer claim who));
    }

-- the entries of a finish are by its seat
pub finish_by_seat : (c : Core) (node attempt : ℕ) (who : Who) (answer : Finished)
    → AllBy who.seat (losses_first who.seat c
    ++ entry (events_behind who.seat c) who.seat (act_of answer node attempt who.machine) ∷ [])
finish_by_seat c node attempt who answer =
    let e = entry (events_behind who.seat c) who.seat (act_of answer node attempt who.machine) in
    All-append (λ e. e.by ≡ who.seat) (losses_first who.seat c) (e ∷ [])
    (by_seat who.seat (state_of c))
    (All-cons (λ e. e.by ≡ who.seat) e [] refl (All-nil (λ e. e.by ≡ who.seat)))

-- losses alone are all that were due in the run
pub loses_as : BeginningLaw → (c d : Core) (faults : List ℕ) (halt : Option Halt) (seat : ℕ)
    → ComesBy c d (losses_first seat c)
    → LosesIn (facts_of (plan_of c)) (may_come (plan_of c)) 0 (told c faults halt)
    (told d faults halt)
loses_as beginnings c d faults halt seat comes = record {
  losses = losses_first seat c;
  due = are_due beginnings c seat;
  leaves = ap (λ es. record { events = es; sink_faults = faults; halted = halt }) comes.journal;
}

-- What a board tells of its runs, and which claims a seat holds.
use Rattle.std.specs.Prelude.{◌≡◌, ◌≤◌, ◌<◌, ◌*◌, ◌==◌, ◌++◌, ◌∷◌, [], ◌&&◌, ◌||◌, ℕ, suc, List, Bool, true, false, not, Option, Some, is_some, All}
use Rattle.std.specs.List.{list_any}
use Rattle.pyd_value.specs.declared.fault.End.{End}
use Rattle.pyd_board.specs.declared.event.Act.{Act}
use Rattle.pyd_board.specs.declared.event.Act.TheVariants.{Place, Claim, Finish, Drop, Refine, Settle, Lose, Trim}
use Rattle.pyd_board.specs.declared.event.Event.{Event}
use Rattle.pyd_board.specs.declared.history.History.{History}
use Rattle.pyd_board.specs.declared.kept.RunName.{RunName}
use Rattle.pyd_board.specs.declared.seat.Who.{Who}
use Rattle.pyd_board.specs.declared.setup.Setup.{Setup}
use Rattle.pyd_board.specs.Histories.{entries}

-- what a board of a name tells of events and histories
pub record Facts (J : Type 0) : Type 0 where
  -- the run of a node, and of the number that a Lose has
  pub run : ℕ → ℕ
  -- after events: whether a run has lost a machine, and whether it has ended
  pub has_lost : List Event → ℕ → ℕ → Bool
  pub has_ended : List Event → ℕ → Bool
  -- after events: the job that a claim of a node's attempt gets, none where the attempt isn't the node's live one
  pub job : List Event → ℕ → ℕ → Option J
  -- the node and the attempt of a job
  pub node_of : J → ℕ
  pub attempt_of : J → ℕ
  -- the board's end
  pub end : History → Option End

-- a seat of one of the workers of a machine
pub record IsSeatIn (setup : Setup) (who : Who) : Type 0 where
  pub machine : who.machine < setup.machines
  pub from : suc (who.machine * setup.workers) ≤ who.seat
  pub to : who.seat < suc (suc who.machine * setup.workers)

-- a worker's seat by the setup of each run
abbrev pub IsWorker : List RunName → Who → Type 0
IsWorker name who = All (λ run. IsSeatIn run.setup who) name

-- the entry that a seat makes after events
abbrev pub entry : List Event → ℕ → Act → Event
entry events seat act = record { by = seat; nth = entries seat events; act = act }

-- the history with further events
abbrev pub with_events : History → List Event → History
with_events h more = record h { events = h.events ++ more }

-- a claim of a node's attempt, made after events
pub record ClaimAfter : Type 0 where
  pub node : ℕ
  pub attempt : ℕ
  pub before : List Event

-- an act lets a claim of a node's attempt go
abbrev pub lets_go : ℕ → ℕ → Act → Bool
lets_go node attempt (Finish n a machine) = (n == node) && (a == attempt)
lets_go node attempt (Drop n a machine) = (n == node) && (a == attempt)
lets_go node attempt (Place n a machine) = false
lets_go node attempt (Claim n a machine) = false
lets_go node attempt (Refine n) = false
lets_go node attempt (Settle n) = false
lets_go node attempt (Lose machine) = false
lets_go node attempt (Trim n) = false

-- an event is the seat's own Finish or Drop of its claim
abbrev pub is_release : ℕ → ClaimAfter → Event → Bool
is_release seat claim e = (e.by == seat) && lets_go claim.node claim.attempt e.act

-- after events a seat holds the claim that it made, as a seat of its machine
pub record Holds (who : Who) (claim : ClaimAfter) (events : List Event) : Type 0 where
  pub since : List Event
  pub claimed : events ≡ claim.before
      ++ (entry claim.before who.seat (Claim claim.node claim.attempt who.machine) ∷ since)
  pub held : All (λ e. is_release who.seat claim e ≡ false) since

-- a run keeps a fault of its sink
abbrev pub keeps_fault : History → ℕ → Bool
keeps_fault h run = list_any (λ kept. kept == run) h.sink_faults

module _ {J : Type 0} where
  -- a run has ended or keeps a fault of its sink
  abbrev pub is_over : Facts J → History → ℕ → Bool
  is_over facts h run = facts.has_ended h.events run || keeps_fault h run

  -- every run from a number on is over
  abbrev pub are_over : Facts J → History → ℕ → List RunName → Bool
  are_over facts h run [] = true
  are_over facts h run (name ∷ names) = is_over facts h run && are_over facts h (suc run) names

  -- every run is over, or the board is halted
  abbrev pub is_done : Facts J → List RunName → History → Bool
  is_done facts name h = are_over facts h 0 name || is_some h.halted

  -- a machine is lost in a run from a number on that isn't over
  abbrev pub is_lost_from : Facts J → History → ℕ → ℕ → List RunName → Bool
  is_lost_from facts h machine run [] = false
  is_lost_from facts h machine run (name ∷ names) =
      (not (is_over facts h run) && facts.has_lost h.events run machine)
      || is_lost_from facts h machine (suc run) names

  -- after events a seat holds a claim that has this job
  pub record HoldsJob (facts : Facts J) (who : Who) (job : J) (events : List Event)
      : Type 0 where
    pub claim : ClaimAfter
    pub holds : Holds who claim events
    pub has_job : facts.job claim.before claim.node claim.attempt ≡ Some job

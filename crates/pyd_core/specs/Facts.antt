-- What a run tells as a board, and which events may come on it.
use Rattle.std.specs.Prelude.{◌≡◌, List, [], ◌∷◌, ◌++◌, false, None, is_some}
use Rattle.pyd_board.specs.declared.event.Event.{Event}
use Rattle.pyd_board.specs.declared.history.History.{History}
use Rattle.pyd_board.specs.declared.kept.RunName.{RunName}
use Rattle.pyd_boards.specs.Boards as boards
use Rattle.pyd_boards.specs.Calls.{AreNext}
use Rattle.pyd_boards.specs.Lawful.{AreLawful}
use Rattle.pyd_ir.specs.declared.job.Job.{Job}
use Rattle.pyd_runs.specs.Plans.{Plan}
use Rattle.pyd_runs.specs.Enabled.{Enabled}
use Rattle.pyd_runs.specs.Laws.{IsRunnable}
use Rattle.pyd_runs.specs.Replay.{IsLegal, replay}
use Rattle.pyd_core.specs.Claiming.{live_job}

-- the plan of a run
abbrev pub plan_by : RunName → Plan
plan_by run = record { file = run.file; setup = run.setup }

-- what a board of one run of a plan tells
abbrev pub facts_of : Plan → boards.Facts Job
facts_of p = record {
  run = λ node. 0;
  has_lost = λ events run machine. (replay p events).lost machine;
  has_ended = λ events run. is_some (replay p events).graph.end;
  job = λ events node attempt. live_job (replay p events) node attempt;
  node_of = λ job. job.node;
  attempt_of = λ job. job.attempt;
  end = λ h. (replay p h.events).graph.end;
}

-- an event may come behind others in a plan that may be run
abbrev pub may_come : Plan → List Event → Event → Type 0
may_come p events e = IsRunnable p × Enabled p (replay p events) e

-- what is told where there isn't one run: nothing
abbrev pub no_facts : boards.Facts Job
no_facts = record {
  run = λ node. 0;
  has_lost = λ events run machine. false;
  has_ended = λ events run. false;
  job = λ events node attempt. None;
  node_of = λ job. job.node;
  attempt_of = λ job. job.attempt;
  end = λ h. None;
}

-- what a board of one run tells, by its name
abbrev pub facts_by : List RunName → boards.Facts Job
facts_by [] = no_facts
facts_by (run ∷ []) = facts_of (plan_by run)
facts_by (run ∷ (next ∷ more)) = no_facts

-- which event may come, by its name
abbrev pub may_come_by : List RunName → List Event → Event → Type 0
may_come_by [] events e = ⊥
may_come_by (run ∷ []) events e = may_come (plan_by run) events e
may_come_by (run ∷ (next ∷ more)) events e = ⊥

-- behind events that came each in its turn what is told goes with the events that may come
abbrev pub LawfulLaw : Type 0
LawfulLaw = (name : List RunName) (events : List Event) → AreNext (may_come_by name) [] events
    → AreLawful name (facts_by name) (may_come_by name) events

-- the end is there exactly where the run has ended
abbrev pub EndLaw : Type 0
EndLaw = (name : List RunName) (h : History)
    → is_some ((facts_by name).end h) ≡ (facts_by name).has_ended h.events 0

-- events may come each in its turn behind a legal run just where the whole run is legal
pub record IsNext (p : Plan) (events more : List Event) : Type 0 where
  pub legal : IsLegal p events → AreNext (may_come p) events more → IsLegal p (events ++ more)
  pub next : IsRunnable p → IsLegal p (events ++ more) → AreNext (may_come p) events more

-- so it is of all events
abbrev pub NextLaw : Type 0
NextLaw = (p : Plan) (events more : List Event) → IsNext p events more

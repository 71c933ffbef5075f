-- How a run goes on one thread, and how it is cut off.
use Rattle.std.specs.Prelude.{◌≡◌, ◌≤◌, ◌++◌, [], ℕ, List, true, Option, Some, None, is_some, length, All}
use Rattle.pyd_board.specs.declared.event.Act.{Act}
use Rattle.pyd_board.specs.declared.event.Event.{Event}
use Rattle.pyd_board.specs.declared.history.Halt.{Halt}
use Rattle.pyd_board.specs.declared.history.Halt.TheVariants.{NoMemory, SinkFault}
use Rattle.pyd_board.specs.Serving.{Basis}
use Rattle.pyd_ir.specs.declared.job.Job.{Job}
use Rattle.pyd_meaning.specs.Module.{bytes_of}
use Rattle.pyd_runs.specs.Bounds.{event_bound}
use Rattle.pyd_runs.specs.Effects.{State}
use Rattle.pyd_runs.specs.Enabled.{CanSettle, IsLoss, due}
use Rattle.pyd_runs.specs.Plans.{Plan}
use Rattle.pyd_core.specs.declared.keeper.Core.{Core}
use Rattle.pyd_core.specs.Cores.{IsCore, plan_of, state_of}
use Rattle.pyd_core.specs.Steps.{ComesBy, Makes}
use Rattle.pyd_steps.specs.declared.told.Told.{Told}
use Rattle.pyd_steps.specs.Settling.{FailsOut}
use Rattle.pyd_steps.specs.Sinks.{Puts}
use Rattle.pyd_here.specs.Asked.{Follows, seat_for}
use Rattle.pyd_here.specs.Jobs.{AreJobsOf}

-- the file and the limits of a plan
abbrev pub basis_by : Plan → Basis
basis_by p = record { file = p.file; turns = p.setup.turns; depth = p.setup.depth }

-- while the run goes on and a loss is due, some entry is no loss
abbrev pub HasBegun : State → Type 0
HasBegun s = s.graph.end ≡ None → (machine : ℕ) → due s ≡ Some machine
    → All (λ e. IsLoss e.act) s.journal → ⊥

-- a run as far as it has come, with the jobs that are held
pub record IsHere (core : Core) (jobs : List Job) : Type 0 where
  pub is_core : IsCore core
  pub begun : HasBegun (state_of core)
  pub keeps : AreJobsOf (plan_of core) (state_of core) jobs

-- a run went on by events as they are asked for, and the bytes of their lines went out
pub record GoesOn (old new : Core) (told now : Told) (choices rest : List ℕ) : Type 0 where
  pub events : List Event
  pub comes : ComesBy old new events
  pub follows : Follows (plan_of old) (state_of old) choices events rest
  pub lines : List (List ℕ)
  pub out : (state_of new).graph.out ≡ (state_of old).graph.out ++ lines
  pub puts : Puts told (bytes_of lines) now

-- the sink failed as the lines of the head went out
pub record FailsAtHead (core : Core) (told now : Told) : Type 0 where
  pub number : ℕ
  pub can : CanSettle (state_of core) number
  pub part : FailsOut core told now

-- what cut a run off: want of memory put nothing out
abbrev pub IsCutBy : Core → Told → Told → Halt → Type 0
IsCutBy core told now NoMemory = now ≡ told
IsCutBy core told now SinkFault = FailsAtHead core told now

-- a run went on so, and was cut off
pub record IsCut (old new : Core) (told now : Told) (choices : List ℕ) (why : Halt) : Type 0 where
  pub rest : List ℕ
  pub between : Told
  pub goes : GoesOn old new told between choices rest
  pub cut : IsCutBy new between now why

-- what has become of a run: it has ended, or why it was cut off
abbrev pub Becomes : Core → Core → Told → Told → List ℕ → Option Halt → Type 0
Becomes old new told now choices None =
    ((rest : List ℕ) × GoesOn old new told now choices rest)
    × (is_some (state_of new).graph.end ≡ true)
Becomes old new told now choices (Some why) = IsCut old new told now choices why

-- without choices there are no more events than the bound says
abbrev pub IsBounded : Core → List ℕ → Type 0
IsBounded core choices =
    choices ≡ [] → length core.log.journal.items ≤ event_bound (plan_of core)

-- a core comes from another by what its seat does
abbrev pub MakesHere : Core → Core → Act → Type 0
MakesHere old new act = Makes old new (seat_for (plan_of old) (state_of old) act) act

-- and the bytes of the lines that this puts out went out
pub record MakesOut (old new : Core) (act : Act) (told now : Told) : Type 0 where
  pub makes : MakesHere old new act
  pub lines : List (List ℕ)
  pub out : (state_of new).graph.out ≡ (state_of old).graph.out ++ lines
  pub puts : Puts told (bytes_of lines) now

-- What the parts of a core stand for: the state after its journal.
use Rattle.std.specs.Prelude.{◌≡◌, ◌≤◌, ◌+◌, ◌*◌, ℕ, suc, drop, length, vec_capacity}
use Rattle.pyd_board.specs.declared.setup.Setup.{Setup}
use Rattle.pyd_runs.specs.Plans.{Plan}
use Rattle.pyd_runs.specs.Effects.{State}
use Rattle.pyd_runs.specs.Laws.{IsRunnable}
use Rattle.pyd_runs.specs.Replay.{IsLegal, replay}
use Rattle.pyd_desk.specs.States.{IsStateOf}
use Rattle.pyd_core.specs.declared.keeper.Core.{Core}
use Rattle.pyd_core.specs.Log.{IsCounted}

-- what a core runs
abbrev pub plan_of : Core → Plan
plan_of c = record { file = c.program.file; setup = c.setup }

-- the state after a core's events
abbrev pub state_of : Core → State
state_of c = replay (plan_of c) c.log.journal.items

-- the most machines
abbrev pub most_machines : ℕ
most_machines = 16

-- the most workers of each
abbrev pub most_workers : ℕ
most_workers = 4

-- there are few machines, and few workers of each
pub record IsFew (setup : Setup) : Type 0 where
  pub machines : setup.machines ≤ most_machines
  pub workers : setup.workers ≤ most_workers

-- a core keeps what a state has
pub record IsTied (c : Core) (s : State) : Type 0 where
  pub state : IsStateOf c.line c.desk s
  pub end : s.graph.end ≡ c.end
  pub losses : s.losses ≡ drop c.lost c.setup.losses

-- a place for each machine and each seat
pub record HasPlaces (c : Core) : Type 0 where
  pub settled : c.line.settled ≤ length c.line.nodes.items
  pub stores : length c.desk.stores.items ≡ c.setup.machines
  pub alive : length c.desk.alive.items ≡ c.setup.machines
  pub seats : length c.log.counts.items ≡ suc (c.setup.machines * c.setup.workers)

-- the journal has room for so many entries beside all losses to come
abbrev pub HasRoom : ℕ → Core → Type 0
HasRoom n c = n + (length c.log.journal.items + length (drop c.lost c.setup.losses))
    ≤ vec_capacity c.log.journal

-- a core: its events are those of a legal run, and it keeps the state after them
pub record IsCore (c : Core) : Type 0 where
  pub runnable : IsRunnable (plan_of c)
  pub few : IsFew c.setup
  pub legal : IsLegal (plan_of c) c.log.journal.items
  pub tied : IsTied c (state_of c)
  pub places : HasPlaces c
  pub counted : IsCounted c.log
  pub room : HasRoom 0 c

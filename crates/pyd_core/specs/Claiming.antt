-- The jobs that claims get.
use Rattle.std.specs.Prelude.{ℕ, ◌==◌, Bool, false, if◌then◌else◌, Option, Some, None}
use Rattle.pyd_ir.specs.declared.job.Job.{Job}
use Rattle.pyd_runs.specs.Desks.{Placed}
use Rattle.pyd_runs.specs.Effects.{State}
use Rattle.pyd_runs.specs.Records.{ready}

-- whether a ticket, if there is one, is for an attempt
abbrev pub is_for : ℕ → Option Placed → Bool
is_for attempt None = false
is_for attempt (Some t) = t.attempt == attempt

-- the job that a claim of a node's attempt gets: it needs a live ticket
abbrev pub live_job : State → ℕ → ℕ → Option Job
live_job s k attempt =
    if is_for attempt (s.desk.ticket k) then ready s.graph s.desk.stores k attempt else None

-- What a run is started with, and what the script that it runs means.
use Rattle.std.specs.Prelude.{ℕ, suc, ◌*◌, ◌<◌, ◌≤◌}
use Rattle.pyd_tree.specs.declared.file.File.{File}
use Rattle.pyd_board.specs.declared.setup.Setup.{Setup}
use Rattle.pyd_meaning.specs.declared.limits.Limits.{Limits}
use Rattle.pyd_meaning.specs.Evaluation.{Evaluation}
use Rattle.pyd_meaning.specs.Completion.{Reached}
use Rattle.pyd_meaning.specs.Module.{mean}

-- a script, and its limits, machines, workers, window and loss script
pub record Plan : Type 0 where
  pub file : File
  pub setup : Setup

-- the limits of a run
abbrev pub limits_of : Plan → Limits
limits_of p = record { turns = p.setup.turns; depth = p.setup.depth }

-- what the script does when it is run from the top to the bottom
abbrev pub meaning : Plan → Evaluation Reached
meaning p = mean p.file (limits_of p)

-- the first seat of a machine
abbrev pub first_seat : Plan → ℕ → ℕ
first_seat p machine = suc (machine * p.setup.workers)

-- a seat of one of the workers of a machine
pub record IsSeatOf (p : Plan) (machine seat : ℕ) : Type 0 where
  pub from : first_seat p machine ≤ seat
  pub to : seat < first_seat p (suc machine)

-- seat 0 is the driver's, and the others are the workers'
abbrev pub IsSeat : Plan → ℕ → Type 0
IsSeat p seat = seat ≤ p.setup.machines * p.setup.workers

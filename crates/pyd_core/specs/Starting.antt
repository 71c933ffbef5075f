-- The parts of a core before any event.
use Rattle.std.specs.Prelude.{◌≡◌, ◌≤◌, ◌*◌, suc, [], length, vec_capacity}
use Rattle.pyd_board.specs.declared.setup.Setup.{Setup}
use Rattle.pyd_scope.specs.declared.program.Program.{Program}
use Rattle.pyd_translate.specs.Scripts.{script_piece}
use Rattle.pyd_desk.specs.Starting.{IsFirst}
use Rattle.pyd_core.specs.declared.starting.FirstParts.{FirstParts}
use Rattle.pyd_core.specs.Log.{IsCounted}

-- the parts of a core before any event: the script's nodes, an empty desk and an empty journal
pub record HasFirst (program : Program) (setup : Setup) (parts : FirstParts) : Type 0 where
  pub nodes : parts.line.nodes.items ≡ (script_piece program.file).nodes
  pub settled : parts.line.settled ≡ 0
  pub desk : IsFirst parts.line.nodes.items setup.machines parts.desk
  pub journal : parts.log.journal.items ≡ []
  pub counted : IsCounted parts.log
  pub seats : length parts.log.counts.items ≡ suc (setup.machines * setup.workers)
  pub room : length setup.losses ≤ vec_capacity parts.log.journal

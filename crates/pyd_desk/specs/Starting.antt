-- What stands where before any event.
use Rattle.std.specs.Prelude.{◌≡◌, ℕ, List, false, None, length}
use Rattle.pyd_ir.specs.declared.node.Node.{Node}
use Rattle.pyd_translate.specs.Matching.{AreNumbered}
use Rattle.pyd_runs.specs.Desks.{first_desk}
use Rattle.pyd_desk.specs.declared.desk.Desk.{Desk}
use Rattle.pyd_desk.specs.declared.desk.Mark.{Mark}
use Rattle.pyd_desk.specs.Desks.{blank, desk_of, driver_of, is_lost}
use Rattle.pyd_desk.specs.Lines.{TellsPorts}
use Rattle.pyd_desk.specs.Works.{port_kind}

-- the mark of a node before any event
abbrev pub first_mark : Node → Mark
first_mark n = record blank { ports = port_kind n.work }

-- nothing stands on a desk, which has a place for each of these nodes and of so many machines, and all live
pub record IsFirst (nodes : List Node) (machines : ℕ) (d : Desk) : Type 0 where
  pub desk : desk_of d ≡ first_desk
  pub kept : driver_of d ≡ (λ k. None)
  pub lost : is_lost d.alive.items ≡ (λ machine. false)
  pub ports : AreNumbered 0 nodes → TellsPorts nodes d.marks.items
  pub marks : length d.marks.items ≡ length nodes
  pub driver : length d.driver.items ≡ length nodes
  pub stores : length d.stores.items ≡ machines
  pub alive : length d.alive.items ≡ machines

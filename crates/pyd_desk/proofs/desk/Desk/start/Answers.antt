use Rattle.std.proofs.Common.{length, ap, ◌∙◌, rules}
use Rattle.std.specs.FinMap as map
use Rattle.std.proofs.lemmas.List.{length-replicate}
use Rattle.pyd_desk.proofs.Started.{first_is}
use Rattle.pyd_desk.proofs.desk.Desk.start.Goals as goal

pub returns : goal.returns
returns c =
    first_is _ c.args.nodes.now c.args.machines c.in_ok-marks.ensures c.in_ok-driver.ensures
    (ap length c.in_ok-stores.ensures ∙ length-replicate c.args.machines map.empty)
    (c.in_ok-alive.ensures.items_if_clones_equal (λ y h. search rules)) c.new.ensures.items

use Rattle.std.proofs.Common.{Bor, Option, sym, ap, ◌∙◌}
use Rattle.pyd_translate.specs.Flows.{file_in}
use Rattle.std.specs.Option.{option_copied}
use Rattle.pyd_value.specs.declared.value.Value.{Value}
use Rattle.pyd_refine.specs.Composites.{slots_of, refined}
use Rattle.pyd_refine.proofs.Ended.{ended_as}
use Rattle.pyd_refine.proofs.NodeForms.{absent_node, enter_node, leaf_node, without_slots}
use Rattle.pyd_refine.proofs.composite.refine_node.Goals as goal

pub returns-in-None : goal.returns-in-None
returns-in-None c =
    ended_as _ _ _ _ _ _ _
    (ap (λ (o : Option (Bor Value)). refined (file_in c.args.at.now) c.args.limits c.args.node.now (option_copied o))
    (sym c.in-None.is))
    (absent_node _ _ _ c.args.at.now c.args.limits c.args.node.now c.args.env.now.items c.requires.setting c.in-Cond.is
    c.stop_by.ensures)

pub returns-in-Some : goal.returns-in-Some
returns-in-Some c =
    ended_as _ _ _ _ _ _ _
    (ap (λ (o : Option (Bor Value)). refined (file_in c.args.at.now) c.args.limits c.args.node.now (option_copied o))
    (sym c.in-Some.is))
    c.refine_by.ensures

pub returns-in-Enter : goal.returns-in-Enter
returns-in-Enter c =
    without_slots _ _ _ _ _ _ (c.requires.slots ∙ ap slots_of c.in-Enter.is)
    (enter_node c.args.at.now c.args.limits c.args.node.now c.requires.setting c.in-Enter.func c.in-Enter.args _
    (option_copied c.args.control) c.in-Enter.is c.as_slice.ensures)
    c.refine_enter.ensures

pub returns-in-Op : goal.returns-in-Op
returns-in-Op c =
    leaf_node c.args.draft.now (file_in c.args.at.now) c.args.limits c.args.node.now (option_copied c.args.control)
    c.args.env.now.items c.in-Op.is c.requires.slots

use Rattle.std.proofs.Common.{Some, ap, ◌∙◌}
use Rattle.pyd_translate.specs.Flows.{file_in}
use Rattle.pyd_refine.specs.Composites.{slots_of}
use Rattle.pyd_refine.proofs.Ended.{ended_as}
use Rattle.pyd_refine.proofs.NodeForms.{cond_node, while_node, for_node, pick_node, enter_node, leaf_node, without_slots}
use Rattle.pyd_refine.proofs.composite.refine_by.Goals as goal

pub returns-in-Cond : goal.returns-in-Cond
returns-in-Cond c =
    ended_as _ _ _ _ _ _ _
    (cond_node c.args.at.now c.args.limits c.args.node.now c.requires.setting c.in-Cond.stmt c.in-Cond.rest c.in-Cond.env
    c.args.control.now c.in-Cond.test c.in-Cond.arm _ _ c.args.env.now.items c.in-Cond.is c.requires.slots
    c.as_slice.ensures c.truth.ensures)
    c.refine_cond.ensures

pub returns-in-While : goal.returns-in-While
returns-in-While c =
    ended_as _ _ _ _ _ _ _
    (while_node c.args.at.now c.args.limits c.args.node.now c.requires.setting c.in-While.stmt c.in-While.rest
    c.in-While.env c.args.control.now c.in-While.test c.in-While.turns _ c.args.env.now.items c.in-While.is
    c.requires.slots c.as_slice-in-While.ensures)
    c.refine_loop.ensures

pub returns-in-For : goal.returns-in-For
returns-in-For c =
    ended_as _ _ _ _ _ _ _
    (for_node c.args.at.now c.args.limits c.args.node.now c.requires.setting c.in-For.stmt c.in-For.rest c.in-For.env
    c.args.control.now c.in-For.over c.in-For.turns _ c.args.env.now.items c.in-For.is c.requires.slots
    c.as_slice-in-For.ensures)
    c.refine_loop-in-For.ensures

pub returns-in-Pick : goal.returns-in-Pick
returns-in-Pick c =
    without_slots _ _ _ _ _ _ (c.requires.slots ∙ ap slots_of c.in-Pick.is)
    (pick_node c.args.at.now c.args.limits c.args.node.now c.requires.setting c.in-Pick.test c.in-Pick.yes c.in-Pick.no
    c.in-Pick.slots _ c.args.control.now _ c.in-Pick.is c.as_slice-in-Pick.ensures c.truth-in-Pick.ensures)
    c.refine_pick.ensures

pub returns-in-Enter : goal.returns-in-Enter
returns-in-Enter c =
    without_slots _ _ _ _ _ _ (c.requires.slots ∙ ap slots_of c.in-Enter.is)
    (enter_node c.args.at.now c.args.limits c.args.node.now c.requires.setting c.in-Enter.func c.in-Enter.args _
    (Some c.args.control.now) c.in-Enter.is c.as_slice-in-Enter.ensures)
    c.refine_enter.ensures

pub returns-in-Op : goal.returns-in-Op
returns-in-Op c =
    leaf_node c.args.draft.now (file_in c.args.at.now) c.args.limits c.args.node.now (Some c.args.control.now)
    c.args.env.now.items c.in-Op.is c.requires.slots

use Rattle.pyd_tree.specs.declared.statement.Arm.{out-Arm}
use Rattle.pyd_value.specs.declared.value.Value.{Bool as Truth}
use Rattle.std.specs.Prelude.{false}
use Rattle.pyd_ir.specs.declared.arg.Arg.TheVariants.{Known}
use Rattle.pyd_translate.specs.declared.composite.Composite.TheVariants.{Cond}
use Rattle.pyd_translate.specs.Flows.{if_at, composite_at, headed_at, spot_in}
use Rattle.pyd_translate.proofs.Members.{no_items}
use Rattle.pyd_translate.proofs.StatementFlows.{flows_so, if_first, if_none}
use Rattle.pyd_translate.proofs.statements.build_if.Goals as goal

pub returns-in_default : goal.returns-in_default
returns-in_default c =
    flows_so _ _ _ _ _ c.args.at.now.rest.now _ (composite_at c.args.at.now (Cond 0) (Known (Truth false)) c.args.env.now.items)
    (if_at c.args.at.now c.args.arms.now c.args.env.now.items)
    (if_none c.args.at.now c.args.arms.now c.args.env.now.items (no_items _ c.in_default.ensures.cases)) c.build_composite.ensures

pub returns : goal.returns
returns c =
    flows_so _ _ _ _ _ c.args.at.now.rest.now _ (headed_at (spot_in c.args.at.now (out-Arm c.in-Some.arm.now).line) (Cond 0) (out-Arm c.in-Some.arm.now).test c.args.env.now.items)
    (if_at c.args.at.now c.args.arms.now c.args.env.now.items)
    (if_first c.args.at.now c.args.arms.now c.in-Some._others.now c.in-Some.arm.now c.args.env.now.items c.in-Some.ensures.cases.0)
    (rw c.in_line-header.ensures at c.build_headed.ensures)

use Rattle.std.proofs.Common.{sym, ◌∙◌}
use Rattle.pyd_translate.specs.Flows.{file_in}
use Rattle.pyd_translate.proofs.Members.{no_items}
use Rattle.pyd_translate.proofs.PassageFlows.{frame_flows, frame_ended, rest_over}
use Rattle.pyd_translate.proofs.passages.build_rest.Goals as goal

pub loop-frame-preserved : goal.loop-frame-preserved
loop-frame-preserved c =
    frame_flows (file_in c.args.at.now) c.args.at.now.routine c.args.at.now.depth c.in-Some.others.now c.loop-frame.left.now c.in-Some.frame.now c.loop-frame.exit _ _ _ _ _ _ _
    c.in-Some.ensures.cases.0 c.in_ok-flow.ensures c.in-Left.next c.in-Left.is
    ∙ c.loop-frame.invariant

pub returns-in-Ended : goal.returns-in-Ended
returns-in-Ended c =
    sym c.loop-frame.invariant
    ∙ frame_ended (file_in c.args.at.now) c.args.at.now.routine c.args.at.now.depth c.in-Some.others.now c.loop-frame.left.now c.in-Some.frame.now c.loop-frame.exit _ _ _ _ _ _ _
    c.in-Some.ensures.cases.0 c.in_ok-flow.ensures c.in-Ended.value c.in-Ended.is

pub returns : goal.returns
returns c =
    sym c.loop-frame.invariant
    ∙ rest_over (file_in c.args.at.now) c.args.at.now.routine c.args.at.now.depth c.loop-frame.exit c.loop-frame.left.now c.loop-frame.env.items _ _ (no_items _ c.in_default.ensures.cases)

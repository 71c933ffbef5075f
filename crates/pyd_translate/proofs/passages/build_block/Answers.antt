use Rattle.pyd_translate.specs.Flows.{file_in, passage_of}
use Rattle.pyd_translate.proofs.PassageFlows.{block_left, block_ended}
use Rattle.pyd_translate.proofs.passages.build_block.Goals as goal

pub returns-in-Left : goal.returns-in-Left
returns-in-Left c =
    block_left (file_in c.args.at.now) c.args.at.now.routine c.args.at.now.depth c.args.rest.now _ _ _ _ c.args.env.now.items _ _ (passage_of c.args.here) _ _ _ _ _
    c.in_ok-flow.ensures c.in-Left.is c.build_rest.ensures

pub returns-in-Ended : goal.returns-in-Ended
returns-in-Ended c =
    block_ended (file_in c.args.at.now) c.args.at.now.routine c.args.at.now.depth c.args.rest.now _ _ _ _ c.args.env.now.items _ (passage_of c.args.here) _ _
    c.in_ok-flow.ensures c.in-Ended.is

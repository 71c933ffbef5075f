use Rattle.std.proofs.Common.{refl, inl, inr}
use Rattle.pyd_translate.specs.Flows.{file_in, passage_of}
use Rattle.pyd_translate.proofs.PassageFlows.{after_made, again_made, after_dropped, again_dropped, number_behind}
use Rattle.pyd_translate.proofs.passages.build_frame.Goals as goal

pub build_passage-requires : goal.build_passage-requires
build_passage-requires c = number_behind (file_in c.args.at.now) c.args.at.now.routine _ (passage_of c.behind.result) c.behind.ensures

pub returns-in-Normal : goal.returns-in-Normal
returns-in-Normal c =
    after_made (file_in c.args.at.now) c.args.at.now.routine c.args.at.now.depth c.args.others.now _ _ _ _ _ c.args.env.now.items _ c.args.frame.now c.args.exit c.in-After.stmt (passage_of c.behind.result)
    c.in-After.is c.in-Normal.is c.behind.ensures c.build_passage.ensures

pub returns-in-Break : goal.returns-in-Break
returns-in-Break c =
    after_dropped (file_in c.args.at.now) c.args.at.now.routine c.args.at.now.depth c.args.others.now c.args.frame.now c.args.exit _ c.in-After.stmt c.args.env.now.items _ _ c.in-After.is c.in-Break.is (inl refl)

pub returns-in-Continue : goal.returns-in-Continue
returns-in-Continue c =
    after_dropped (file_in c.args.at.now) c.args.at.now.routine c.args.at.now.depth c.args.others.now c.args.frame.now c.args.exit _ c.in-After.stmt c.args.env.now.items _ _ c.in-After.is c.in-Continue.is (inr refl)

pub returns-in-Normal-exit : goal.returns-in-Normal-exit
returns-in-Normal-exit c =
    again_made (file_in c.args.at.now) c.args.at.now.routine c.args.at.now.depth c.args.others.now _ _ _ _ _ c.args.env.now.items _ c.args.frame.now c.args.exit c.in-Again.stmt c.in-Again.turns c.in-Again.over
    c.in-Again.is c.in-Normal-exit.is c.build_again.ensures

pub returns-in-Break-exit : goal.returns-in-Break-exit
returns-in-Break-exit c =
    again_dropped (file_in c.args.at.now) c.args.at.now.routine c.args.at.now.depth c.args.others.now c.args.frame.now c.args.exit c.in-Again.stmt c.in-Again.turns c.in-Again.over c.args.env.now.items _ _ c.in-Again.is c.in-Break-exit.is

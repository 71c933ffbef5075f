use Rattle.std.proofs.Common.{◌∙◌, refl, sym}
use Rattle.pyd_desk.proofs.HeadPassing.{effect_is, pure_is}
use Rattle.pyd_desk.proofs.passing.pass_head.Goals as goal

pub returns-in-None-clause-state : goal.returns-in-None-clause-state
returns-in-None-clause-state c p s n rest lines v sound is chain leaf kept =
    pure_is c.args.line.now c.pass.new.self c.args.desk.now s n rest lines v is chain
    (sym c.in-None.is ∙ kept) c.pass.ensures.chain c.pass.ensures.past c.pass.ensures.nodes

pub returns-in-Some-clause-state : goal.returns-in-Some-clause-state
returns-in-Some-clause-state c p s n rest lines v sound is chain leaf kept =
    effect_is p c.args.line.now c.let_pass.new.self c.args.desk.now _ s c.head.result.now n rest lines v
    c.in-Some.ran sound is chain leaf (sym c.in-Some.is ∙ kept) c.head.ensures c.requires.driver
    c.let_pass.ensures.chain c.let_pass.ensures.past
    (record { desk = refl; alive = refl; marks = refl; driver = refl })

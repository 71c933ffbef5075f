use Rattle.std.proofs.Common.{Contains, true, sym, subst, arith}
use Rattle.pyd_board.proofs.Placing.{circle_all}
use Rattle.pyd_steps.proofs.Asking.{answered, unanswered}
use Rattle.pyd_steps.proofs.placers.chosen.Goals as goal

pub home-requires : goal.home-requires
home-requires g c =
    let lt = c.requires.some.1 in
    record { some = omega (arith, lt); few = c.requires.few }

pub returns-in-Some-clause-lives : goal.returns-in-Some-clause-lives
returns-in-Some-clause-lives g c =
    c.placed_on.ensures.lives (subst (λ xs. Contains xs true)
    (sym (circle_all c.args.alive.now c.requires.few)) c.requires.some)

pub returns-in-Some-clause-asks : goal.returns-in-Some-clause-asks
returns-in-Some-clause-asks g c =
    answered c.args.alive.now c.args.node c.args.func c.placed_on.result c.in-Some.answer
    c.ask.result _ _ c.in-Some.is c.ask.ensures c.placed_on.ensures.value

pub returns-in-None-clause-lives : goal.returns-in-None-clause-lives
returns-in-None-clause-lives g c =
    c.home.ensures.lives (subst (λ xs. Contains xs true)
    (sym (circle_all c.args.alive.now c.requires.few)) c.requires.some)

pub returns-in-None-clause-asks : goal.returns-in-None-clause-asks
returns-in-None-clause-asks g c =
    unanswered c.args.alive.now c.args.node c.args.func c.home.result c.ask.result _ _
    c.in-None.is c.ask.ensures c.home.ensures.value

use Rattle.pyd_steps.proofs.Asking.{tells_finish, tells_lose, tells_other}
use Rattle.pyd_steps.proofs.placers.tell_one.Goals as goal

pub returns-in-Finish : goal.returns-in-Finish
returns-in-Finish g c =
    tells_finish c.args.act c.in-Finish.node c.in-Finish.field-1 c.in-Finish.machine _ _
    c.in-Finish.is c.tell_ended.ensures

pub returns-in-Lose : goal.returns-in-Lose
returns-in-Lose g c =
    tells_lose c.args.act c.in-Lose.machine _ _ c.in-Lose.is c.tell_lost.ensures

pub returns-in-Place : goal.returns-in-Place
returns-in-Place g c = tells_other c.args.act _ c.in-Place.is

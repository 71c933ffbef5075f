use Rattle.pyd_here.proofs.Keeps.{HereLaws}
use Rattle.pyd_here.proofs.Losses.{can_lose, goes_lost, nearer, on_lost, still_begun, still_lost}
use Rattle.pyd_here.proofs.losing.lose.Goals as goal

pub lose-requires-clause-can : goal.lose-requires-clause-can
lose-requires-clause-can c =
    can_lose c.args.core.now c.args.machine c.requires.begun c.requires.goes_on c.requires.due
    c.own_seat-seat.result

pub returns : goal.returns
returns c =
    let laws : HereLaws = record {
      run = c.run_law.ensures;
      step = c.step_law.ensures;
      hold = c.hold_law.ensures;
      take = c.take_law.ensures;
    } in
    let old = c.args.core.now in
    let new = c.lose.new.self in
    let seat = c.own_seat-seat.result in
    let made = c.lose.ensures.makes in
    record {
      core = made.core;
      begun = still_begun laws old new seat c.args.machine c.requires.core made c.requires.goes_on
          c.requires.due c.requires.begun;
      here = still_lost laws old new seat c.args.machine c.requires.core made c.requires.goes_on
          c.requires.due;
      goes_on = on_lost laws old new seat c.args.machine c.requires.core made c.requires.goes_on
          c.requires.due c.desk_law.ensures;
      nearer = nearer c.journal_law.ensures old new c.args.machine c.requires.core c.requires.due
          made.plan c.lose.ensures.lost;
      goes = goes_lost laws old new seat c.args.machine c.requires.core made c.requires.goes_on
          c.requires.due c.journal_law.ensures c.output_law.ensures c.own_seat-seat.ensures.seat;
    }

use Rattle.std.proofs.Common.{sym, length-take, arith}
use Rattle.pyd_board.proofs.Placing.{circle_all}
use Rattle.pyd_board.proofs.machines.circle.Goals as goal

pub slice_bounds-result-end : goal.slice_bounds-result-end
slice_bounds-result-end c =
    let e = length-take 4294967296 c.args.alive.now in
    omega (arith, c.if-alive-le-NUMBERS.false)

pub returns-then-alive-le-NUMBERS : goal.returns-then-alive-le-NUMBERS
returns-then-alive-le-NUMBERS c = sym (circle_all c.args.alive.now c.if-alive-le-NUMBERS.true)

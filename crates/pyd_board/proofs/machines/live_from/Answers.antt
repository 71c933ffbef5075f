use Rattle.std.proofs.Common.{◌∙◌, ◌+◌, length, ap, sym, Some, cond, drop, false, arith, drop_of_length-le}
use Rattle.std.specs.List.{position_from}
use Rattle.pyd_board.proofs.Placing.{position_step, circle_within}
use Rattle.pyd_board.proofs.machines.live_from.Goals as goal

pub returns-then-circle-machine : goal.returns-then-circle-machine
returns-then-circle-machine c =
    let m = c.loop-machine.machine in
    let circle = c.circle-circle.result.now in
    sym (c.loop-machine.invariant ∙ position_step m circle false c.loop-machine-test.true
    ∙ ap (λ b. cond b (Some m) (position_from (λ a. a) (m + 1) (drop (m + 1) circle))) c.if-circle-machine.true)

pub loop-machine-preserved : goal.loop-machine-preserved
loop-machine-preserved c =
    let m = c.loop-machine.machine in
    let circle = c.circle-circle.result.now in
    c.loop-machine.invariant ∙ position_step m circle false c.loop-machine-test.true
    ∙ ap (λ b. cond b (Some m) (position_from (λ a. a) (m + 1) (drop (m + 1) circle))) c.if-circle-machine.false

pub returns : goal.returns
returns c =
    let m = c.loop-machine.machine in
    let circle = c.circle-circle.result.now in
    sym (c.loop-machine.invariant ∙ ap (position_from (λ a. a) m) (drop_of_length-le circle c.loop-machine-test.false))

pub overflow_cast-result : goal.overflow_cast-result
overflow_cast-result c =
    let within = circle_within c.args.alive.now in
    let same = ap length c.circle-circle.ensures in
    omega (arith, c.loop-machine-test.true)

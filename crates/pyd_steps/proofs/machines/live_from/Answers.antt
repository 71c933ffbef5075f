use Rattle.std.proofs.Common.{◌∙◌, ◌+◌, ap, sym, Some, cond, drop, false, drop_of_length-le, take_all}
use Rattle.std.specs.List.{position_from}
use Rattle.std.proofs.lemmas.List.{at_drop_more}
use Rattle.pyd_steps.proofs.machines.live_from.Goals as goal

pub loop-machine-init : goal.loop-machine-init
loop-machine-init c =
    let xs = c.args.alive.now in
    let m = c.args.place in
    ap (λ ys. position_from (λ a. a) m (drop m ys)) (take_all 4294967296 xs c.requires)

pub returns-then-alive-machine : goal.returns-then-alive-machine
returns-then-alive-machine c =
    let m = c.loop-machine.machine in
    let xs = c.args.alive.now in
    sym (c.loop-machine.invariant
    ∙ at_drop_more (λ rest. position_from (λ a. a) m rest) xs m false c.loop-machine-test.true
    ∙ ap (λ b. cond b (Some m) (position_from (λ a. a) (m + 1) (drop (m + 1) xs)))
    c.if-alive-machine.true)

pub loop-machine-preserved : goal.loop-machine-preserved
loop-machine-preserved c =
    let m = c.loop-machine.machine in
    let xs = c.args.alive.now in
    c.loop-machine.invariant
    ∙ at_drop_more (λ rest. position_from (λ a. a) m rest) xs m false c.loop-machine-test.true
    ∙ ap (λ b. cond b (Some m) (position_from (λ a. a) (m + 1) (drop (m + 1) xs)))
    c.if-alive-machine.false

pub returns : goal.returns
returns c =
    let m = c.loop-machine.machine in
    let xs = c.args.alive.now in
    sym (c.loop-machine.invariant
    ∙ ap (position_from (λ a. a) m) (drop_of_length-le xs c.loop-machine-test.false))

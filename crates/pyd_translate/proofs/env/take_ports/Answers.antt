use Rattle.std.proofs.Common.{◌≡◌, ◌<◌, length, ap, ◌∙◌, arith}
use Rattle.pyd_translate.specs.Flows.{slots_in}
use Rattle.pyd_translate.proofs.SlotsSet.{ports_next, ports_done}
use Rattle.pyd_translate.proofs.env.take_ports.Goals as goal

pub loop-port-preserved : goal.loop-port-preserved
loop-port-preserved c =
    let all : c.in_ok-count.count ≡ length (slots_in c.args.at.now) = c.in_ok-count.ensures ∙ ap length c.slots.ensures in
    let less : c.loop-port.port < length (slots_in c.args.at.now) = omega (arith, all, c.loop-port-test.true) in
    ports_next c.args.id c.loop-port.port (slots_in c.args.at.now) _ _ less c.loop-port.invariant c.in_ok-add.ensures

pub returns-clause-slots : goal.returns-clause-slots
returns-clause-slots c =
    let all : c.in_ok-count.count ≡ length (slots_in c.args.at.now) = c.in_ok-count.ensures ∙ ap length c.slots.ensures in
    let last : c.loop-port.port ≡ length (slots_in c.args.at.now) = omega (arith, all, c.loop-port-test.false, c.loop-port.auto.port-end) in
    ports_done c.args.id c.loop-port.port (slots_in c.args.at.now) _ last c.loop-port.invariant

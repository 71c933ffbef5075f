use Rattle.std.proofs.Common.{◌+◌, drop, get_or, arith}
use Rattle.pyd_core.proofs.InRow.{all_trimmed, next_can, next_driver, next_left, next_room, next_seat, none_left, none_trimmed, one_more_trimmed}
use Rattle.pyd_core.proofs.keeper.Core.trim_all.Goals as goal

pub loop-node-init : goal.loop-node-init
loop-node-init c =
    none_trimmed c.args.seat c.args.nodes.now c.args.self.now c.requires.core c.requires.goes_on
    c.requires.may

pub trim_next-requires : goal.trim_next-requires
trim_next-requires c =
    let ks = c.args.nodes.now in
    let i = c.loop-node.node-index in
    let old = c.args.self.now in
    let now = c.loop-node.self in
    let so_far = next_left c.args.seat ks i old now c.loop-node-test.true c.loop-node.invariant in
    let k = get_or ks i 0 in
    let left = drop (i + 1) ks in
    let beginning = c.beginning_law.ensures in
    record {
      core = so_far.comes.core;
      seat = next_seat beginning c.args.seat ks k left old now so_far c.requires.seat;
      driver = next_driver beginning c.args.seat ks k left old now so_far c.requires.driver;
      goes_on = so_far.goes_on;
      may = next_can beginning c.args.seat ks k left old now so_far;
      room = next_room beginning c.args.seat ks k left old now so_far c.requires.room;
    }

pub loop-node-preserved : goal.loop-node-preserved
loop-node-preserved c =
    let ks = c.args.nodes.now in
    let i = c.loop-node.node-index in
    let old = c.args.self.now in
    let now = c.loop-node.self in
    one_more_trimmed c.beginning_law.ensures c.args.seat ks (get_or ks i 0) (drop (i + 1) ks)
    old now
    (next_left c.args.seat ks i old now c.loop-node-test.true c.loop-node.invariant)
    c.trim_next.new.self c.trim_next.ensures.trims c.trim_next.ensures.leaves
    c.trim_next.ensures.room

pub returns : goal.returns
returns c =
    let ks = c.args.nodes.now in
    let done = none_left c.args.seat ks c.loop-node.node-index c.args.self.now c.loop-node.self
    c.loop-node-test.false c.loop-node.invariant in
    record {
      trims = all_trimmed c.args.seat ks c.args.self.now c.loop-node.self done;
      goes_on = done.goes_on;
      room = λ n room. (let now = done.room n room in omega (arith, now));
    }

use Rattle.std.proofs.Common.{◌<◌, arith}
use Rattle.pyd_refine.proofs.LoopForms.{item_goes, item_stops}
use Rattle.pyd_refine.proofs.turn.item_turn.Goals as goal

pub returns-then-branch : goal.returns-then-branch
returns-then-branch c =
    let lt : c.args.round.now.turns < c.args.round.now.limits.turns = omega (arith, c.left.ensures, c.if-left-eq0.false) in
    item_goes c.args.at.now c.args.round.now c.args.line c.args.env.now.items c.args.targets.now c.args.control.now c.go_on.result c.args.draft.now c.bind_targets.new.draft c.go_on.new.draft
    c.args.item c.in_ok-bind_targets.field-0 c.bind_targets.new.env.items c.go_on.new.env.items lt c.if-branch.true
    c.in_ok-bind_targets.ensures c.go_on.ensures

pub returns-else-branch : goal.returns-else-branch
returns-else-branch c =
    let lt : c.args.round.now.turns < c.args.round.now.limits.turns = omega (arith, c.left.ensures, c.if-left-eq0.false) in
    item_stops c.args.at.now c.args.round.now c.args.line c.args.env.now.items c.args.targets.now c.args.control.now c.args.draft.now c.bind_targets.new.draft c.args.item
    c.in_ok-bind_targets.field-0 c.bind_targets.new.env.items lt c.if-branch.false c.in_ok-bind_targets.ensures

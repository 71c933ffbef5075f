use Rattle.std.proofs.Common.{◌≡◌, ℕ, length, ◌<◌, ◌≤◌, arith}
use Rattle.pyd_eval.proofs.Writing.{place_within, put_binds, has_slot, one_test}
use Rattle.pyd_eval.specs.Frames.{slot_names}
use Rattle.pyd_eval.proofs.binding.bind.Goals as goal

pub put-requires : goal.put-requires
put-requires c =
    let p = c.resolve.ensures.slot c.in-Slot.at c.in-Slot.is in
    let w = place_within (slot_names c.args.on.now) c.args.name.now c.in-Slot.at p in
    let e = c.requires.enough in
    omega (arith, w, e)

pub returns-in-Slot : goal.returns-in-Slot
returns-in-Slot c =
    let p = c.resolve.ensures.slot c.in-Slot.at c.in-Slot.is in
    let w = place_within (slot_names c.args.on.now) c.args.name.now c.in-Slot.at p in
    let e = c.requires.enough in
    let lt : c.in-Slot.at < length c.args.slots.now = omega (arith, w, e) in
    rw c.put.ensures (put_binds (slot_names c.args.on.now) c.args.slots.now c.args.name.now c.in-Slot.at c.args.v p lt)

pub returns-in_default : goal.returns-in_default
returns-in_default c =
    absurd (has_slot c.args.on.now.program.now c.args.on.now.routine c.args.name.now c.resolve.result c.args.on.now.program.now.its_routines c.resolve.ensures (one_test _ c.requires.named) c.in_default.not-Slot)

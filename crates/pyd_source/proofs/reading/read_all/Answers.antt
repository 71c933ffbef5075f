-- What was taken before the last call is added to what it took.
use Rattle.std.proofs.Common.{arith, rules, length-take-le, ◌≡◌, ap, Err}
use Rattle.std.proofs.lemmas.Grind.{common_steps}
use Rattle.pyd_source.specs.declared.reading.ReadStop.TheVariants.{TooLong}
use Rattle.pyd_source.proofs.Moves.{took_exactly, took_at_most}
use Rattle.pyd_source.proofs.reading.read_all.Goals as goal

pub returns-in_err-count-clause-long : goal.returns-in_err-count-clause-long
returns-in_err-count-clause-long g c stop =
    let same : c.in_err-count.field-0.0 ≡ TooLong = search rules in
    took_exactly _ _ _ _ _ _ c.loop-bytes.invariant.taken (c.in_err-count.ensures.long (ap Err same)) (grind (arith, common_steps))

pub returns-in_err-extend_from_slice-clause-memory : goal.returns-in_err-extend_from_slice-clause-memory
returns-in_err-extend_from_slice-clause-memory g c stop =
    let took = length-take-le c.in_ok-count.count c.take_next.new.chunk c.in_ok-count.ensures.fits in
    took_at_most _ _ _ _ _ _ c.loop-bytes.invariant.taken c.in_ok-count.ensures.ok (omega (arith, took, c.in_ok-count.ensures.within, c.len.ensures, c.loop-bytes.invariant.within, c.loop-bytes.bytes.ok))

-- The size and nesting of a tuple tell whether it is within the limits so many times over.
use Rattle.std.proofs.Common.{◌∙◌, ap, sym, true, false, rules}
use Rattle.pyd_value.specs.declared.value.Value.{Tuple}
use Rattle.pyd_value.specs.declared.fault.Outcome.TheVariants as outcome
use Rattle.std.specs.List.{repeat}
use Rattle.pyd_ops.proofs.Holding.{tuple_repeated, tuple_tested, nothing_repeated, by_tuple, something}
use Rattle.pyd_ops.proofs.operators.repeat_value.Goals as goal

pub returns-then-is_nothing : goal.returns-then-is_nothing
returns-then-is_nothing c =
    ap (λ m. outcome.Ok (Tuple m)) c.new.ensures
    ∙ by_tuple c.args.a.now c.in-Tuple.members c.args.n c.args.line _ c.in-Tuple.is
    (nothing_repeated c.in-Tuple.members c.args.n c.args.line (c.is_nothing.ensures.0 (search (rules, c.if-is_nothing.true))))

pub returns-in_ok-repeat_members-in-Tuple : goal.returns-in_ok-repeat_members-in-Tuple
returns-in_ok-repeat_members-in-Tuple c =
    let h = something c.args.n c.in-Tuple.members c.is_nothing.result c.is_nothing.ensures c.if-is_nothing.false in
    ap (λ m. outcome.Ok (Tuple m)) (c.in_ok-repeat_members-in-Tuple.ensures ∙ ap (repeat c.args.n) c.as_slice.ensures)
    ∙ by_tuple c.args.a.now c.in-Tuple.members c.args.n c.args.line _ c.in-Tuple.is
    (tuple_tested (repeat c.args.n c.in-Tuple.members) c.args.line true
    (tuple_repeated c.args.a.now c.in-Tuple.members c.args.n c.in-Tuple.is h ∙ sym c.fits_repeated.ensures ∙ c.if-fits_repeated.true))

pub returns-else-fits_repeated : goal.returns-else-fits_repeated
returns-else-fits_repeated c =
    let h = something c.args.n c.in-Tuple.members c.is_nothing.result c.is_nothing.ensures c.if-is_nothing.false in
    c.exceed.ensures
    ∙ by_tuple c.args.a.now c.in-Tuple.members c.args.n c.args.line _ c.in-Tuple.is
    (tuple_tested (repeat c.args.n c.in-Tuple.members) c.args.line false
    (tuple_repeated c.args.a.now c.in-Tuple.members c.args.n c.in-Tuple.is h ∙ sym c.fits_repeated.ensures ∙ c.if-fits_repeated.false))

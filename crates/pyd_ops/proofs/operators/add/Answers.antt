-- The sizes and nestings of both tuples tell whether their join is within the limits.
use Rattle.std.proofs.Common.{◌++◌, ◌∙◌, ap, sym, true, false}
use Rattle.pyd_value.specs.declared.value.Value.{Tuple}
use Rattle.pyd_value.specs.declared.fault.Outcome.TheVariants as outcome
use Rattle.pyd_ops.proofs.Holding.{tuples_joined, tuple_tested, by_tuples}
use Rattle.pyd_ops.proofs.operators.add.Goals as goal

pub returns-in_ok-join_members-in-Tuple-Tuple : goal.returns-in_ok-join_members-in-Tuple-Tuple
returns-in_ok-join_members-in-Tuple-Tuple c =
    let t = c.in-Tuple-Tuple in
    ap (λ m. outcome.Ok (Tuple m))
    (c.in_ok-join_members-in-Tuple-Tuple.ensures ∙ ap (λ m. m ++ c.as_slice-then-fit_together.result.now) c.as_slice.ensures ∙ ap (λ m. t.xs ++ m) c.as_slice-then-fit_together.ensures)
    ∙ by_tuples c.args.a.now c.args.b.now t.xs t.ys c.args.line _ t.is-0 t.is-1
    (tuple_tested (t.xs ++ t.ys) c.args.line true
    (tuples_joined c.args.a.now c.args.b.now t.xs t.ys t.is-0 t.is-1 ∙ sym c.fit_together.ensures ∙ c.if-fit_together.true))

pub returns-else-fit_together : goal.returns-else-fit_together
returns-else-fit_together c =
    let t = c.in-Tuple-Tuple in
    c.exceed.ensures
    ∙ by_tuples c.args.a.now c.args.b.now t.xs t.ys c.args.line _ t.is-0 t.is-1
    (tuple_tested (t.xs ++ t.ys) c.args.line false
    (tuples_joined c.args.a.now c.args.b.now t.xs t.ys t.is-0 t.is-1 ∙ sym c.fit_together.ensures ∙ c.if-fit_together.false))

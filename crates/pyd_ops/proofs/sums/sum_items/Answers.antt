-- A sum begins with the number that its start is.
use Rattle.std.proofs.Common.{◌∙◌, ap, sym, FitsSigned, rules}
use Rattle.std.specs.Int.{w128}
use Rattle.std.proofs.lemmas.Int.{to_z-of_z}
use Rattle.pyd_value.specs.declared.value.Value.{Int}
use Rattle.pyd_ops.specs.Answer.{outcome_of}
use Rattle.pyd_ops.specs.Calls.{sum_items as summed}
use Rattle.pyd_ops.proofs.Summing.{sum_from_number}
use Rattle.pyd_ops.proofs.sums.sum_items.Goals as goal

pub returns-in-Some-len1-up : goal.returns-in-Some-len1-up
returns-in-Some-len1-up c =
    let n = c.in-Some-len1-up.n in
    let f : FitsSigned w128 n = search rules in
    c.sum_numbers.ensures
    ∙ ap (λ z. outcome_of (summed (Int z) c.args.items.now c.args.line)) (to_z-of_z w128 n f)
    ∙ ap outcome_of (sum_from_number c.args.start.now n c.args.items.now c.args.line c.in-Some-len1-up.len_at_least (sym c.number.ensures ∙ c.in-Some-len1-up.is-0))

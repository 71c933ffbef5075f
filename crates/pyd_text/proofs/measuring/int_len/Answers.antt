use Rattle.std.proofs.Common.{◌∙◌, ap, FitsSigned, rules}
use Rattle.std.specs.Fmt.{signed_decimal}
use Rattle.std.specs.Int.{w128}
use Rattle.std.proofs.lemmas.Int.{to_z-of_z}
use Rattle.pyd_text.proofs.Counting.{ascii_count}
use Rattle.pyd_text.proofs.measuring.int_len.Goals as goal

pub returns : goal.returns
returns c =
    let fits : FitsSigned w128 c.args.n = search rules in
    ascii_count c.format.result.now (signed_decimal c.args.n)
    (c.format.ensures.text ∙ ap signed_decimal (to_z-of_z w128 c.args.n fits)) c.format.ensures.ascii c.format.ensures.short

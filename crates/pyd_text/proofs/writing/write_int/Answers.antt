use Rattle.std.proofs.Common.{◌≡◌, ◌++◌, ◌∙◌, ap, sym, string_bytes, encode_utf8_all, FitsSigned, rules}
use Rattle.std.specs.Fmt.{signed_decimal}
use Rattle.std.specs.Int.{w128}
use Rattle.std.proofs.lemmas.Int.{to_z-of_z}
use Rattle.std.proofs.lemmas.Str.{encodes-IsAscii}
use Rattle.pyd_text.proofs.writing.write_int.Goals as goal

pub returns : goal.returns
returns c =
    let digits = c.format.result.now in
    let fits : FitsSigned w128 c.args.n = search rules in
    let e : string_bytes c.push_str.new.self ≡ string_bytes c.args.out.now ++ digits = search rules in
    let f : digits ≡ signed_decimal c.args.n = c.format.ensures.text ∙ ap signed_decimal (to_z-of_z w128 c.args.n fits) in
    e ∙ ap (λ x. string_bytes c.args.out.now ++ x) (sym (encodes-IsAscii digits c.format.ensures.ascii) ∙ ap encode_utf8_all f)

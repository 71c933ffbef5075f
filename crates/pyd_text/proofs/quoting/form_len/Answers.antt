use Rattle.std.proofs.Common.{◌∙◌, ap, sym}
use Rattle.pyd_text.specs.Writing.{byte_count, written}
use Rattle.pyd_text.proofs.Quotes.{hexadecimal_count}
use Rattle.pyd_text.proofs.quoting.form_len.Goals as goal

pub returns-in-Hexadecimal : goal.returns-in-Hexadecimal
returns-in-Hexadecimal c =
    let form = c.in-Hexadecimal in
    hexadecimal_count form.letter form.digits form.code c.len_utf8-in-Hexadecimal.result c.from.result
    c.len_utf8-in-Hexadecimal.ensures.len c.from.ensures
    ∙ ap (λ f. byte_count (written f)) (sym form.is)

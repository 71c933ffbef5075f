use Rattle.std.proofs.Common.{ap, ◌∙◌, sym, subst}
use Rattle.std.proofs.lemmas.Fmt.{parse-decimal, IsAscii-decimal}
use Rattle.std.proofs.lemmas.Str.{IsUtf8-from_ascii}
use Rattle.std.specs.Result.{result_unwrap_or}
use Rattle.std.specs.Str.{IsUtf8}
use Rattle.pyd_trace.proofs.guess.number_of.Goals as goal

pub returns-in-Ok : goal.returns-in-Ok
returns-in-Ok c number fits is =
    c.unwrap_or.ensures
    ∙ ap (λ r. result_unwrap_or r 0) (parse-decimal 64 number c.in-Ok.text.now c.parse.result fits fits (c.in-Ok.ensures.cases.0 ∙ is) c.parse.ensures.value.0)

pub returns-in-Err : goal.returns-in-Err
returns-in-Err c number fits is = absurd (c.in-Err.ensures.cases.0 (subst IsUtf8 (sym is) (IsUtf8-from_ascii _ (IsAscii-decimal number fits))))

use Rattle.std.proofs.Common.{◌∙◌, sym, ap, arith, ◌<◌, length}
use Rattle.pyd_lex.specs.Strings.{escape}
use Rattle.pyd_lex.specs.Quoted.{spelling}
use Rattle.pyd_lex.proofs.Pieces.{at_default}
use Rattle.pyd_lex.proofs.Strings.{step_end, step_escape, step_bad}
use Rattle.pyd_lex.proofs.string.Quotes.escape_step.Goals as goal

pub returns-then-text-eq1 : goal.returns-then-text-eq1
returns-then-text-eq1 c = step_end (spelling c.args.self) c.args.text.now c.requires.room (omega arith) c.requires.part

pub returns-in-Some : goal.returns-in-Some
returns-in-Some c =
    let l : 1 < length c.args.text.now = omega arith in
    let d = at_default c.args.text.now 1 c.index-text-1.result l c.index-text-1.is in
    step_escape (spelling c.args.self) c.args.text.now c.in-Some.field-0 l c.requires.part (ap escape (sym d) ∙ sym c.escape.ensures ∙ c.in-Some.is)

pub returns-in-None : goal.returns-in-None
returns-in-None c =
    let l : 1 < length c.args.text.now = omega arith in
    let d = at_default c.args.text.now 1 c.index-text-1.result l c.index-text-1.is in
    step_bad (spelling c.args.self) c.args.text.now l c.requires.part (ap escape (sym d) ∙ sym c.escape.ensures ∙ c.in-None.is)

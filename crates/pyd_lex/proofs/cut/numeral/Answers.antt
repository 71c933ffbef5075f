use Rattle.std.proofs.Common.{◌∙◌, sym}
use Rattle.pyd_lex.proofs.Pieces.{good_number, flawed_number}
use Rattle.pyd_lex.proofs.cut.numeral.Goals as goal

pub returns-in-Ok-clause-ok : goal.returns-in-Ok-clause-ok
returns-in-Ok-clause-ok c = good_number c.args.text.now c.split_at-2.result.0.now c.split_at.result.1.now c.name_run-n.result c.in-Ok.kind c.requires c.split_at.ensures.back c.name_run-n.ensures.value c.split_at-2.ensures.front (sym (c.number.ensures) ∙ c.in-Ok.is)

pub returns-in-Err-clause-flaw : goal.returns-in-Err-clause-flaw
returns-in-Err-clause-flaw c = flawed_number c.args.text.now c.split_at-2.result.0.now c.split_at.result.1.now c.name_run-n.result c.in-Err.flaw c.requires c.split_at.ensures.back c.name_run-n.ensures.value c.split_at-2.ensures.front (sym (c.number.ensures) ∙ c.in-Err.is)

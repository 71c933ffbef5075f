use Rattle.pyd_lex.specs.declared.run.Class.TheVariants.{Quote}
use Rattle.pyd_lex.proofs.Pieces.{good_string, flawed_string, at_default, class_length}
use Rattle.pyd_lex.proofs.cut.quoted.Goals as goal

pub returns-in-Ok-clause-ok : goal.returns-in-Ok-clause-ok
returns-in-Ok-clause-ok c =
    let d = at_default c.args.text.now 0 c.index-text-0.result (class_length Quote c.args.text.now c.requires) c.index-text-0.is in
    good_string c.args.text.now c.split_at.result.1.now c.index-text-0.result c.in-Ok.n c.requires d c.split_at.ensures.back c.in-Ok.ensures.ok.0 c.in-Ok.ensures.ok.1

pub returns-in-Err-clause-flaw : goal.returns-in-Err-clause-flaw
returns-in-Err-clause-flaw c =
    let d = at_default c.args.text.now 0 c.index-text-0.result (class_length Quote c.args.text.now c.requires) c.index-text-0.is in
    let broken = c.in-Err.ensures.err in
    flawed_string c.args.text.now c.split_at.result.1.now c.index-text-0.result broken.0 c.in-Err.flaw c.requires d c.split_at.ensures.back broken.1 broken.2

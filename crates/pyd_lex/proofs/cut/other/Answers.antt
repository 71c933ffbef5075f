use Rattle.std.proofs.Common.{◌∙◌, sym}
use Rattle.pyd_lex.proofs.Pieces.{good_spacing, good_mark, flawed_other}
use Rattle.pyd_lex.proofs.cut.other.Goals as goal

pub returns-in-Some-clause-ok : goal.returns-in-Some-clause-ok
returns-in-Some-clause-ok c = good_spacing c.args.text.now c.args.c c.in-Some.shape c.requires.first c.requires.c (sym c.spacing.ensures ∙ c.in-Some.is)

pub returns-in-Some-front_mark-clause-ok : goal.returns-in-Some-front_mark-clause-ok
returns-in-Some-front_mark-clause-ok c =
    good_mark c.args.text.now c.args.c c.in-Some-front_mark.n c.in-Some-front_mark.mark c.requires.first c.requires.c (sym c.spacing.ensures ∙ c.in_default.is) (sym c.front_mark.ensures ∙ c.in-Some-front_mark.is)

pub returns-in-None-clause-flaw : goal.returns-in-None-clause-flaw
returns-in-None-clause-flaw c =
    flawed_other c.args.text.now c.args.c c.requires.first c.requires.c (sym c.spacing.ensures ∙ c.in_default.is) (sym c.front_mark.ensures ∙ c.in-None.is)

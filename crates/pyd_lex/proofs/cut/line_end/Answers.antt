use Rattle.std.proofs.Common.{◌∙◌, sym, ap, [], ◌∷◌}
use Rattle.pyd_lex.specs.Words.{begins}
use Rattle.pyd_lex.proofs.Pieces.{good_feed, good_return}
use Rattle.pyd_lex.proofs.cut.line_end.Goals as goal

pub returns-then-begins : goal.returns-then-begins
returns-then-begins c =
    good_feed c.args.text.now c.requires (ap (begins (10 ∷ [])) (sym c.split_at.ensures.back) ∙ sym c.begins.ensures ∙ search c.if-begins.true)

pub returns-else-begins : goal.returns-else-begins
returns-else-begins c =
    good_return c.args.text.now c.requires (ap (begins (10 ∷ [])) (sym c.split_at.ensures.back) ∙ sym c.begins.ensures ∙ search c.if-begins.false)

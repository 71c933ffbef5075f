use Rattle.pyd_eval.proofs.Printing.{settles, texts-settled, values-settled, range-settled}
use Rattle.pyd_eval.proofs.builtins.answer.Goals as goal

pub returns-in-Range : goal.returns-in-Range
returns-in-Range c = range-settled c.args.which c.args.args.now c.args.line _ c.range.result c.in-Range.is c.range.ensures

pub returns-in_ok-text_builtin-in-Str : goal.returns-in_ok-text_builtin-in-Str
returns-in_ok-text_builtin-in-Str c = settles _ _ _ _ _ (texts-settled c.args.which _ _ c.in-Str.is) c.given.ensures c.in_ok-text_builtin-in-Str.ensures

pub returns-in_ok-builtin-in-Len : goal.returns-in_ok-builtin-in-Len
returns-in_ok-builtin-in-Len c = settles _ _ _ _ _ (values-settled c.args.which _ _ c.in-Len.is) c.given-in-Len.ensures c.in_ok-builtin-in-Len.ensures

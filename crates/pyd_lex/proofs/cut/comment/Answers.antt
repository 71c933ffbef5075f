use Rattle.std.proofs.Common.{◌∙◌, ap}
use Rattle.std.specs.List.{prefix_len}
use Rattle.pyd_lex.specs.Spelling.{in_comment}
use Rattle.pyd_lex.proofs.Pieces.{comment_longest}
use Rattle.pyd_lex.proofs.cut.comment.Goals as goal

pub returns : goal.returns
returns c =
    comment_longest c.args.text.now c.requires c.comment_run.result (c.comment_run.ensures.value ∙ ap (prefix_len in_comment) c.split_at.ensures.back)

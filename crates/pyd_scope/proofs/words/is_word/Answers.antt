use Rattle.std.proofs.Common.{◌∙◌}
use Rattle.pyd_scope.proofs.Finding.{same_word}
use Rattle.pyd_scope.proofs.words.is_word.Goals as goal

pub returns : goal.returns
returns c = c.eq.ensures ∙ same_word c.args.name.now c.args.word.now c.as_str.result.now c.requires c.as_str.ensures.characters c.as_str.ensures.bytes

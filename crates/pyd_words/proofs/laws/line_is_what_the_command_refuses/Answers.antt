use Rattle.pyd_words.proofs.NotLine.{line_is_refused, refused_is_line}
use Rattle.pyd_words.proofs.laws.line_is_what_the_command_refuses.Goals as goal

pub returns : goal.returns
returns c ws = (line_is_refused ws, refused_is_line ws)

use Rattle.pyd_top.proofs.Words.{alone}
use Rattle.pyd_top.proofs.mode.is_alone.Goals as goal

pub returns-then-words-eq1 : goal.returns-then-words-eq1
returns-then-words-eq1 c =
    rw (c.eq.ensures, c.as_str.ensures.value) (alone c.args.words.now c.index-words-0.result c.args.word.now c.if-words-eq1.true c.index-words-0.is)

use Rattle.pyd_lex.specs.Front.{IsFlawed}
use Rattle.pyd_lex.proofs.Pieces.{good_name, flawed_name, map_flaw}
use Rattle.pyd_lex.proofs.cut.word.Goals as goal

pub returns-in-Ok-clause-ok : goal.returns-in-Ok-clause-ok
returns-in-Ok-clause-ok c = good_name c.args.text.now c.split_at-2.result.0.now c.split_at.result.1.now c.name_run-n.result c.in-Ok.kind c.requires c.split_at.ensures.back c.name_run-n.ensures.value c.split_at-2.ensures.front c.in-Ok.ensures.ok

pub returns-in-Err-clause-flaw : goal.returns-in-Err-clause-flaw
returns-in-Err-clause-flaw c =
    map_flaw c.in-Err.stop _ (IsFlawed c.args.text.now)
    (λ f h. flawed_name c.args.text.now c.split_at-2.result.0.now c.split_at.result.1.now c.name_run-n.result f c.requires c.split_at.ensures.back c.name_run-n.ensures.value c.split_at-2.ensures.front h) c.in-Err.ensures.flaw

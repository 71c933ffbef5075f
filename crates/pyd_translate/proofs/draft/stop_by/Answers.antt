use Rattle.pyd_translate.proofs.Onto.{onto_stop}
use Rattle.pyd_translate.proofs.draft.stop_by.Goals as goal

pub returns : goal.returns
returns c = onto_stop _ _ _ _ _ _ _ c.in_ok-emit.ensures

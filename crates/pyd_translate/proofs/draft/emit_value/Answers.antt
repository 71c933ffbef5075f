use Rattle.pyd_translate.proofs.Onto.{onto_value}
use Rattle.pyd_translate.proofs.draft.emit_value.Goals as goal

pub returns : goal.returns
returns c = rw c.value_of.ensures (onto_value _ _ _ _ _ _ _ c.in_ok-id.ensures)

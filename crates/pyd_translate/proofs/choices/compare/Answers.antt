use Rattle.pyd_translate.proofs.Links.{link_chosen_made}
use Rattle.pyd_translate.proofs.choices.compare.Goals as goal

pub returns-in-Ok : goal.returns-in-Ok
returns-in-Ok c =
    link_chosen_made _ _ _ _ _ _ _ _ _ _ _ _ _ _ _ _ c.in-Ok.ensures c.value_of.ensures c.value_of-in-Ok.ensures c.choose.ensures

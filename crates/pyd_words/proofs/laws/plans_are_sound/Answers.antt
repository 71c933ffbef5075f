use Rattle.pyd_words.proofs.Sound.{plan_is_sound}
use Rattle.pyd_words.proofs.laws.plans_are_sound.Goals as goal

pub returns : goal.returns
returns c = plan_is_sound

use Rattle.std.proofs.Common.{refl}
use Rattle.std.specs.Str.{chars}
use Rattle.std.proofs.lemmas.Result.{IfOk-equal}
use Rattle.pyd_scope.proofs.routine.add_module.Goals as goal

pub returns : goal.returns
unfolding chars
returns c = IfOk-equal _ _ _ _ c.add.ensures.ok (rw (c.in_ok-name.ensures, c.in_ok-slots.ensures) refl)

use Rattle.std.proofs.Common.{refl}
use Rattle.std.specs.Str.{chars}
use Rattle.std.proofs.lemmas.Result.{IfOk-equal}
use Rattle.pyd_names.proofs.module.add_name_constant.Goals as goal

pub returns : goal.returns
unfolding chars
returns c = IfOk-equal _ _ _ _ c.add.ensures.ok (rw (c.in_ok-name.ensures, c.in_ok-value.ensures) refl)

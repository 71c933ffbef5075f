-- The rules that ask for uses alone, as one.
use Rattle.std.specs.Prelude.{Bool, not, ◌&&◌}
use Rattle.pyd_scope.specs.declared.sightings.Sighting.{Sighting}
use Rattle.pyd_scope.specs.declared.sightings.UseRule.{UseRule}
use Rattle.pyd_scope.specs.declared.sightings.UseRule.TheVariants.{FunctionValue, CallOfVariable, GlobalRead, Impure}
use Rattle.pyd_scope.specs.Rules.{is_no_value, is_call, is_variable, is_global, may_print}

-- whether a use breaks a rule
abbrev pub is_broken_by : UseRule → Sighting → Bool
is_broken_by FunctionValue s = is_no_value s.standing s.manner
is_broken_by CallOfVariable s = is_call s.manner && is_variable s.standing
is_broken_by GlobalRead s = not (is_call s.manner) && is_global s.standing
is_broken_by Impure s = s.functional && (is_call s.manner && may_print s.standing)

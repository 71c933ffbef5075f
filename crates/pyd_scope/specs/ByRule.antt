-- Refusals by rules without lines.
use Rattle.std.specs.Prelude.{ℕ, List, Option, None, option_map}
use Rattle.pyd_scope.specs.declared.refusal.Refusal.{Refusal}
use Rattle.pyd_scope.specs.declared.refusal.Refusal.TheVariants as refusal
use Rattle.pyd_scope.specs.declared.refusals.Rule.{Rule}
use Rattle.pyd_scope.specs.declared.refusals.Rule.TheVariants.{TwiceDefined, Rebind, FunctionValue, CallOfVariable, GlobalRead, Impure, ReturnOutside, BreakOutside, LateDef, NotConstant, Decorator, TwiceParameter}
use Rattle.pyd_scope.specs.declared.sightings.Sighting.{Sighting}
use Rattle.pyd_scope.specs.declared.sightings.UseRule.{UseRule}
use Rattle.pyd_scope.specs.declared.sightings.UseRule.TheVariants as uses
use Rattle.pyd_scope.specs.Checks.{or_else}
use Rattle.pyd_scope.specs.Least.{least}
use Rattle.pyd_scope.specs.Rules.{seen_where}
use Rattle.pyd_scope.specs.UseRules.{is_broken_by}

-- the refusal by a rule at a line
abbrev pub at_line : Rule → ℕ → Refusal
at_line TwiceDefined l = refusal.TwiceDefined l
at_line Rebind l = refusal.Rebind l
at_line FunctionValue l = refusal.FunctionValue l
at_line CallOfVariable l = refusal.CallOfVariable l
at_line GlobalRead l = refusal.GlobalRead l
at_line Impure l = refusal.Impure l
at_line ReturnOutside l = refusal.ReturnOutside l
at_line BreakOutside l = refusal.BreakOutside l
at_line LateDef l = refusal.LateDef l
at_line NotConstant l = refusal.NotConstant l
at_line Decorator l = refusal.Decorator l
at_line TwiceParameter l = refusal.TwiceParameter l

-- the refusal by a rule on uses, if one breaks it
abbrev pub by_use : Rule → UseRule → List Sighting → Option Refusal
by_use rule by ss = option_map (at_line rule) (least (seen_where (is_broken_by by) ss))

-- the first refusal by a rule on uses
abbrev pub misused : List Sighting → Option Refusal
misused ss = or_else (by_use FunctionValue uses.FunctionValue ss) (or_else (by_use CallOfVariable uses.CallOfVariable ss)
    (or_else (by_use GlobalRead uses.GlobalRead ss) (or_else (by_use Impure uses.Impure ss) None)))

-- The numbers of the rules, and the lines of refusals.
use Rattle.std.specs.Prelude.{ℕ}
use Rattle.pyd_scope.specs.declared.refusal.Refusal.{Refusal}
use Rattle.pyd_scope.specs.declared.refusal.Refusal.TheVariants.{TwiceDefined, Rebind, FunctionValue, CallOfVariable, GlobalRead, Impure, ReturnOutside, BreakOutside, LateDef, NotConstant, Decorator, TwiceParameter}

-- the number of the rule that a refusal is by
abbrev pub number : Refusal → ℕ
number (TwiceDefined line) = 1
number (Rebind line) = 2
number (FunctionValue line) = 3
number (CallOfVariable line) = 4
number (GlobalRead line) = 5
number (Impure line) = 6
number (ReturnOutside line) = 7
number (BreakOutside line) = 8
number (LateDef line) = 9
number (NotConstant line) = 10
number (Decorator line) = 11
number (TwiceParameter line) = 12

-- the line of a refusal
abbrev pub line : Refusal → ℕ
line (TwiceDefined l) = l
line (Rebind l) = l
line (FunctionValue l) = l
line (CallOfVariable l) = l
line (GlobalRead l) = l
line (Impure l) = l
line (ReturnOutside l) = l
line (BreakOutside l) = l
line (LateDef l) = l
line (NotConstant l) = l
line (Decorator l) = l
line (TwiceParameter l) = l

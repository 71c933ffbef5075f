-- The parameters so far, and then those that are left, are all that is put at the end.
use Rattle.std.proofs.Common.{◌≡◌, ◌++◌, map, drop}
use Rattle.pyd_names.proofs.locals.add_parameters.Given as goal

abbrev pub invariant-loop-param : goal.invariant-loop-param
invariant-loop-param l = l.out ++ map (λ p. p.1) (drop l.param-index l.params) ≡ l.initial.out ++ map (λ p. p.1) l.params

use Rattle.std.proofs.Common.{◌≡◌, drop, map, []}
use Rattle.pyd_scope.specs.Rules as rule
use Rattle.pyd_scope.proofs.parameters.is_repeating.Given as goal

abbrev pub invariant-loop-param : goal.invariant-loop-param
invariant-loop-param l = rule.is_repeating [] (map (λ p. p.1) l.params) ≡ rule.is_repeating l.before (map (λ p. p.1) (drop l.param-index l.params))

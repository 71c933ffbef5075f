use Rattle.std.proofs.Common.{subst, sym, ℕ, ◌≤◌}
use Rattle.pyd_syntax.specs.declared.productions.TheConstants.{WIDTH}
use Rattle.pyd_syntax.proofs.Codes.{length_at, short}
use Rattle.pyd_syntax.proofs.code.length.Goals as goal

pub returns-clause-value : goal.returns-clause-value
returns-clause-value c = length_at c.args.production c.requires

pub returns-clause-within : goal.returns-clause-within
returns-clause-within c = subst (λ (z : ℕ). z ≤ WIDTH) (sym (length_at c.args.production c.requires)) (short c.args.production c.requires)

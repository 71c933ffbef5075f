use Rattle.std.proofs.Common.{[], ◌∷◌, subst, arith}
use Rattle.pyd_lineage.specs.Marking.{IsSetOf}
use Rattle.pyd_lineage.proofs.Sets.{walked, adds_to_none}
use Rattle.pyd_lineage.proofs.Walks.{singles}
use Rattle.pyd_lineage.proofs.numbers.set_of.Goals as goal

pub returns : goal.returns
returns c =
    subst (IsSetOf c.loop-number.set) (singles c.args.numbers.now)
    (adds_to_none c.new-set.result c.loop-number.set _ c.new-set.ensures.empty
    (walked (λ n. n ∷ []) c.args.numbers.now c.loop-number.number-index c.new-set.result c.loop-number.set
    (omega arith) c.loop-number.invariant))

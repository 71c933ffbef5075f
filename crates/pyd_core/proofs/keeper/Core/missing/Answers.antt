use Rattle.std.proofs.Common.{sym, subst, ◌∙◌}
use Rattle.std.proofs.lemmas.Result.{IfOk-weaker}
use Rattle.pyd_lineage.specs.Lineage.{AreNeeded, IsInOrder}
use Rattle.pyd_desk.specs.Lines.{chain_of}
use Rattle.pyd_core.proofs.Openings.{missing_are, order_here}
use Rattle.pyd_core.proofs.keeper.Core.missing.Goals as goal

pub needed_among-requires : goal.needed_among-requires
needed_among-requires c =
    subst (λ past. IsInOrder past c.chain.result.now) (sym c.past.ensures)
    (subst (IsInOrder _) (sym c.chain.ensures)
    (order_here c.run_law.ensures c.args.self.now c.requires c.in_order_law.ensures))

pub returns : goal.returns
returns c =
    IfOk-weaker c.needed_among.result _ _
    (λ numbers are.
    missing_are c.run_law.ensures c.args.self.now c.requires c.in_order_law.ensures
    c.as_slice.result.now numbers (c.as_slice.ensures.value ∙ c.in_ok-recorded.ensures)
    (subst (λ past. AreNeeded past (chain_of c.args.self.now.line) c.as_slice.result.now numbers)
    c.past.ensures
    (subst (λ chain. AreNeeded c.past.result.now chain c.as_slice.result.now numbers)
    c.chain.ensures are)))
    c.needed_among.ensures

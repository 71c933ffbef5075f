use Rattle.std.proofs.Common.{◌∙◌, drop, sym, ap}
use Rattle.std.specs.Prelude.{IfOk}
use Rattle.pyd_lineage.specs.Lineage.{AreUnreached, IsInOrder}
use Rattle.pyd_core.specs.Trimmings.{past_behind}
use Rattle.pyd_core.proofs.Unreached.{head_there, of_same}
use Rattle.pyd_core.proofs.keeper.Core.unreached_behind_head.Goals as goal

pub past_behind-requires : goal.past_behind-requires
past_behind-requires c =
    head_there c.run_law.ensures c.args.self.now c.requires.core c.requires.goes_on

pub chain_behind-requires : goal.chain_behind-requires
chain_behind-requires c =
    head_there c.run_law.ensures c.args.self.now c.requires.core c.requires.goes_on

pub trim_among-requires : goal.trim_among-requires
trim_among-requires c =
    let is = c.requires.core.tied.state.graph in
    of_same IsInOrder _ _ _ _
    (sym (c.past_behind.ensures ∙ (λ i. past_behind c.args.stays (sym is.past i) (sym is.chain i))))
    (sym (c.chain_behind.ensures ∙ ap (drop 1) (sym is.chain)))
    c.requires.order

pub returns : goal.returns
returns c =
    let is = c.requires.core.tied.state.graph in
    of_same (λ past chain. IfOk c.trim_among.result (AreUnreached past chain)) _ _ _ _
    (c.past_behind.ensures ∙ (λ i. past_behind c.args.stays (sym is.past i) (sym is.chain i)))
    (c.chain_behind.ensures ∙ ap (drop 1) (sym is.chain))
    c.trim_among.ensures

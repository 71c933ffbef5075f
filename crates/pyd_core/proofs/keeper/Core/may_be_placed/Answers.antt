use Rattle.std.proofs.Common.{◌&&◌, ◌||◌, ap, ◌∙◌}
use Rattle.pyd_runs.specs.Records.{heads}
use Rattle.pyd_core.specs.Cores.{state_of}
use Rattle.pyd_core.specs.Placing.{is_free_on, is_missing, is_ready_on}
use Rattle.pyd_core.proofs.Openings.{open_here}
use Rattle.pyd_core.proofs.keeper.Core.may_be_placed.Goals as goal

pub returns : goal.returns
returns c =
    let d = c.args.self.now.desk in
    let n = c.args.node.now in
    let s = state_of c.args.self.now in
    let head = c.heads-is_head.result in
    c.is_open.ensures
    ∙ ap (λ b. (b || head) && (is_ready_on d n head && is_free_on d n.id)) c.requires.missing
    ∙ ap (λ h. (is_missing s n || h) && (is_ready_on d n h && is_free_on d n.id))
    (c.heads-is_head.ensures ∙ ap (heads n.id) c.chain.ensures)
    ∙ open_here c.run_law.ensures c.args.self.now c.requires.core n c.requires.node

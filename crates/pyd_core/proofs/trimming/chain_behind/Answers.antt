use Rattle.std.proofs.Common.{◌≡◌, ◌+◌, ◌-◌, drop, length, take, sym, subst, ◌∙◌}
use Rattle.pyd_desk.specs.Lines.{chain_of}
use Rattle.pyd_core.proofs.Unreached.{all_from, chain_but_head}
use Rattle.pyd_core.proofs.trimming.chain_behind.Goals as goal

pub returns : goal.returns
returns c =
    let line = c.args.line.now in
    let i = line.settled + 1 in
    subst (λ ns. take (length ns - i) (drop i ns) ≡ drop 1 (chain_of line))
    (sym c.deref.ensures.value)
    (all_from line.nodes.items i ∙ chain_but_head line.nodes.items line.settled)

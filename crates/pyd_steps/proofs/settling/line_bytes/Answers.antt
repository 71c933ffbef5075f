use Rattle.std.proofs.Common.{◌++◌, ◌∷◌, [], ap, ◌∙◌}
use Rattle.pyd_meaning.specs.Module.{bytes_of}
use Rattle.pyd_steps.proofs.LineBytes.{bytes_more, bytes_none}
use Rattle.pyd_steps.proofs.settling.line_bytes.Goals as goal

pub loop-line-init : goal.loop-line-init
loop-line-init c = bytes_none c.new-bytes.result.items c.new-bytes.ensures.items

pub loop-line-preserved : goal.loop-line-preserved
loop-line-preserved c =
    c.in_ok-append_line.ensures
    ∙ ap (λ bytes. bytes ++ bytes_of (c.line-item.result ∷ [])) c.loop-line.invariant
    ∙ bytes_more c.args.lines.now c.loop-line.line-index c.line-item.result
    c.loop-line-test.true c.line-item.is

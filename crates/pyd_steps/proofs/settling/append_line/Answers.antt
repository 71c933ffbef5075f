use Rattle.std.proofs.Common.{◌++◌, ◌∷◌, [], ap, ◌∙◌}
use Rattle.pyd_steps.proofs.LineBytes.{bytes_line}
use Rattle.pyd_steps.proofs.settling.append_line.Goals as goal

pub returns : goal.returns
returns c =
    c.in_ok-push.ensures.items
    ∙ ap (λ bytes. bytes ++ 10 ∷ []) (c.in_ok-extend_from_slice.ensures.items
    ∙ ap (λ text. c.args.bytes.now.items ++ text)
    (c.as_bytes.ensures.value ∙ c.as_str.ensures.bytes))
    ∙ bytes_line c.args.bytes.now.items c.args.line.now

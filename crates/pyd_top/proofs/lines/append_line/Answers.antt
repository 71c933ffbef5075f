use Rattle.std.proofs.Common.{ap, ◌∙◌, ◌++◌, ◌∷◌, [], append_assoc}
use Rattle.pyd_top.proofs.lines.append_line.Goals as goal

pub returns : goal.returns
returns c =
    c.in_ok-push.ensures.items
    ∙ ap (λ bytes. bytes ++ 10 ∷ []) (c.in_ok-extend_from_slice.ensures.items ∙ ap (λ text. c.args.waiting.now.items ++ text) (c.as_bytes.ensures.value ∙ c.as_str.ensures.bytes))
    ∙ append_assoc c.args.waiting.now.items _ (10 ∷ [])

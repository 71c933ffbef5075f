use Rattle.std.proofs.Common.{◌≡◌, ◌++◌, ◌∙◌, ap, string_bytes, rules, encode_utf8}
use Rattle.pyd_ops.proofs.Repeats.{spelled_more}
use Rattle.pyd_ops.proofs.sequence.spelled.Goals as goal

pub loop-c-preserved : goal.loop-c-preserved
loop-c-preserved c =
    let e : string_bytes c.push.new.self ≡ string_bytes c.loop-c.text ++ encode_utf8 c.c-item.result = search rules in
    e ∙ ap (λ x. x ++ encode_utf8 c.c-item.result) c.loop-c.invariant
    ∙ spelled_more c.args.characters.now c.loop-c.c-index c.c-item.result c.c-item.is c.loop-c-test.true

use Rattle.std.proofs.Common.{◌≡◌, ◌∙◌, ◌+◌, ◌-◌, ◌^◌, min, ap, refl, arith, codes, drop, length}
use Rattle.pyd_text.specs.Texts.{str}
use Rattle.pyd_text.specs.Writing.{byte_count, divider}
use Rattle.pyd_text.proofs.Joining.{joined_first, joined_rest}
use Rattle.pyd_text.proofs.Plain.{plain_count}
use Rattle.pyd_text.proofs.Counting.{count_more, divider_count}
use Rattle.pyd_text.proofs.measuring.printed_len.Goals as goal

pub loop-i-preserved : goal.loop-i-preserved
loop-i-preserved c =
    let sep = codes " " in
    let i = c.loop-i.i in
    let x = c.index-args-i.result in
    let most = 2 ^ 64 - 1 in
    let more : c.saturating_add-len.result ≡ min (min (c.loop-i.len + length (divider sep i)) most + min (byte_count (str x)) most) most =
    c.saturating_add-len.ensures
    ∙ ap (λ n. min (n + c.str_len.result) most) (c.saturating_add.ensures ∙ ap (λ n. min (c.loop-i.len + n) most) c.divider_len.ensures)
    ∙ ap (λ n. min (min (c.loop-i.len + length (divider sep i)) most + n) most) c.str_len.ensures in
    record {
      fits = omega arith;
      same = count_more (divider sep i) (str x) _ _ _ c.loop-i.len c.saturating_add-len.result (length (divider sep i)) most _
          (joined_first str sep c.args.args.now i x c.index-args-i.is c.loop-i-test.true)
          (joined_rest str sep i (drop (i + 1) c.args.args.now))
          (divider_count sep (plain_count sep refl) i) more c.loop-i.invariant.same;
    }

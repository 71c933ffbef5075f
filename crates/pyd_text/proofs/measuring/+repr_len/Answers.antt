use Rattle.std.proofs.Common.{◌≡◌, ◌∙◌, ◌+◌, ◌-◌, ◌^◌, min, ap, refl, arith, codes, drop, length}
use Rattle.pyd_text.specs.Texts.{repr}
use Rattle.pyd_text.specs.Writing.{byte_count, cut, divider}
use Rattle.pyd_text.proofs.Joining.{joined_first, joined_rest}
use Rattle.pyd_text.proofs.Plain.{plain_count, lengths}
use Rattle.pyd_text.proofs.Counting.{count_more, between_count, divider_count}
use Rattle.pyd_text.proofs.Reprs.{one_member, more_members}
use Rattle.pyd_text.proofs.measuring.+repr_len.Goals as goal

pub listed_len-loop-i-preserved : goal.listed_len-loop-i-preserved
listed_len-loop-i-preserved t c =
    let sep = codes ", " in
    let i = c.loop-i.i in
    let x = c.index-members-i.result in
    let most = 2 ^ 64 - 1 in
    let more : c.saturating_add-len.result ≡ min (min (c.loop-i.len + length (divider sep i)) most + min (byte_count (repr x)) most) most =
    c.saturating_add-len.ensures
    ∙ ap (λ n. min (n + c.repr_len.result) most) (c.saturating_add.ensures ∙ ap (λ n. min (c.loop-i.len + n) most) c.divider_len.ensures)
    ∙ ap (λ n. min (min (c.loop-i.len + length (divider sep i)) most + n) most) c.repr_len.ensures in
    record {
      fits = omega arith;
      same = count_more (divider sep i) (repr x) _ _ _ c.loop-i.len c.saturating_add-len.result (length (divider sep i)) most _
          (joined_first repr sep c.args.members.now i x c.index-members-i.is c.loop-i-test.true)
          (joined_rest repr sep i (drop (i + 1) c.args.members.now))
          (divider_count sep (plain_count sep refl) i) more c.loop-i.invariant.same;
    }

pub tuple_len-returns-in-len1 : goal.tuple_len-returns-in-len1
tuple_len-returns-in-len1 t c =
    between_count (codes "(") (repr c.only-item.result) (codes ",)") c.repr_len.result c.saturating_add.result 3 (2 ^ 64 - 1)
    c.repr_len.ensures c.saturating_add.ensures (lengths (codes "(") (codes ",)") refl refl)
    ∙ ap (λ s. cut (byte_count s)) (one_member c.args.members.now c.only-item.result c.in-len1.len_at_least c.in-len1.len_below c.only-item.is)

pub tuple_len-returns-in_default : goal.tuple_len-returns-in_default
tuple_len-returns-in_default t c =
    between_count (codes "(") _ (codes ")") c.listed_len.result c.saturating_add-in_default.result 2 (2 ^ 64 - 1)
    c.listed_len.ensures c.saturating_add-in_default.ensures (lengths (codes "(") (codes ")") refl refl)
    ∙ ap (λ s. cut (byte_count s)) (more_members c.args.members.now c.in_default.len_at_least)

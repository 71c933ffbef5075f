use Rattle.std.proofs.Common.{◌≡◌, ◌∙◌, ◌+◌, ◌++◌, ap, refl, sym, codes, drop, string_bytes, encode_utf8_all, rules}
use Rattle.pyd_text.specs.Texts.{repr}
use Rattle.pyd_text.specs.Writing.{divider}
use Rattle.pyd_text.proofs.Joining.{joined_first, joined_rest}
use Rattle.pyd_text.proofs.Plain.{plain}
use Rattle.pyd_text.proofs.Appending.{piece_more, wrapped, divider_encodes, on_ok}
use Rattle.pyd_text.proofs.Reprs.{one_member, more_members}
use Rattle.pyd_text.proofs.writing.+write_repr.Goals as goal

pub write_listed-loop-i-preserved : goal.write_listed-loop-i-preserved
write_listed-loop-i-preserved t c =
    let sep = codes ", " in
    let i = c.loop-i.i in
    let x = c.index-members-i.result in
    let before = string_bytes c.loop-i.out in
    piece_more (divider sep i) (repr x) _ _ _ before (string_bytes c.write_divider.new.out) (string_bytes c.write_repr.new.out) _
    (joined_first repr sep c.args.members.now i x c.index-members-i.is c.loop-i-test.true)
    (joined_rest repr sep i (drop (i + 1) c.args.members.now))
    (c.in_ok-write_divider.ensures ∙ ap (λ s. before ++ s) (divider_encodes sep (sym (plain sep refl)) i))
    c.in_ok-write_repr.ensures c.loop-i.invariant

pub write_tuple-returns-in_ok-write_repr-in-len1 : goal.write_tuple-returns-in_ok-write_repr-in-len1
write_tuple-returns-in_ok-write_repr-in-len1 t c =
    let before = string_bytes c.args.out.now in
    let first : string_bytes c.push.new.self ≡ before ++ encode_utf8_all (codes "(") = search rules in
    on_ok c.write_bytes-in-len1.result
    (λ last. wrapped before (string_bytes c.push.new.self) (string_bytes c.write_repr.new.out) (string_bytes c.write_bytes-in-len1.new.out)
    (codes "(") (repr c.only-item.result) (codes ",)") first c.in_ok-write_repr-in-len1.ensures
    (last ∙ ap (λ s. string_bytes c.write_repr.new.out ++ s) (sym (plain (codes ",)") refl)))
    ∙ ap (λ s. before ++ encode_utf8_all s) (one_member c.args.members.now c.only-item.result c.in-len1.len_at_least c.in-len1.len_below c.only-item.is))
    c.write_bytes-in-len1.ensures

pub write_tuple-returns-in_ok-write_listed-in_default : goal.write_tuple-returns-in_ok-write_listed-in_default
write_tuple-returns-in_ok-write_listed-in_default t c =
    let before = string_bytes c.args.out.now in
    let first : string_bytes c.push-in_default.new.self ≡ before ++ encode_utf8_all (codes "(") = search rules in
    on_ok c.write_bytes-in_default.result
    (λ last. wrapped before (string_bytes c.push-in_default.new.self) (string_bytes c.write_listed.new.out) (string_bytes c.write_bytes-in_default.new.out)
    (codes "(") _ (codes ")") first c.in_ok-write_listed-in_default.ensures
    (last ∙ ap (λ s. string_bytes c.write_listed.new.out ++ s) (sym (plain (codes ")") refl)))
    ∙ ap (λ s. before ++ encode_utf8_all s) (more_members c.args.members.now c.in_default.len_at_least))
    c.write_bytes-in_default.ensures

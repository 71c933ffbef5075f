use Rattle.std.proofs.Common.{◌∙◌, ◌+◌, ◌++◌, ap, refl, sym, codes, drop, string_bytes}
use Rattle.pyd_text.specs.Texts.{str}
use Rattle.pyd_text.specs.Writing.{divider}
use Rattle.pyd_text.proofs.Joining.{joined_first, joined_rest}
use Rattle.pyd_text.proofs.Plain.{plain}
use Rattle.pyd_text.proofs.Appending.{piece_more, divider_encodes}
use Rattle.pyd_text.proofs.writing.write_printed.Goals as goal

pub loop-i-preserved : goal.loop-i-preserved
loop-i-preserved c =
    let sep = codes " " in
    let i = c.loop-i.i in
    let x = c.index-args-i.result in
    let before = string_bytes c.loop-i.out in
    piece_more (divider sep i) (str x) _ _ _ before (string_bytes c.write_divider.new.out) (string_bytes c.write_str.new.out) _
    (joined_first str sep c.args.args.now i x c.index-args-i.is c.loop-i-test.true)
    (joined_rest str sep i (drop (i + 1) c.args.args.now))
    (c.in_ok-write_divider.ensures ∙ ap (λ s. before ++ s) (divider_encodes sep (sym (plain sep refl)) i))
    c.in_ok-write_str.ensures c.loop-i.invariant

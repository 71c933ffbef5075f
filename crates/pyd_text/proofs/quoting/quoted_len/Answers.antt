use Rattle.std.proofs.Common.{◌≡◌, ◌∙◌, ap, sym, arith, chars, ◌+◌, ◌-◌, ◌^◌, min}
use Rattle.std.specs.List.{flat_map}
use Rattle.std.specs.Str.Iter.{chars_rest}
use Rattle.std.proofs.lemmas.Str.{IsUtf8-past_char, chars_past_char}
use Rattle.pyd_text.specs.Quoting.{escaped, quoted}
use Rattle.pyd_text.specs.Writing.{byte_count}
use Rattle.pyd_text.proofs.Counting.{count_next, chars_of_empty}
use Rattle.pyd_text.proofs.Quotes.{byte_count-quoted}
use Rattle.pyd_text.proofs.quoting.quoted_len.Goals as goal

pub loop-c-preserved : goal.loop-c-preserved
loop-c-preserved c =
    let left = c.loop-c.invariant in
    let quote = c.quote_of-quote.result in
    let parts = c.in-Some.ensures.steps.0 in
    let step = chars_past_char _ _ c.in-Some.c left.text parts in
    let more : c.saturating_add-len.result ≡ min (c.loop-c.len + byte_count (escaped quote c.in-Some.c)) (2 ^ 64 - 1) =
    c.saturating_add-len.ensures ∙ ap (λ n. min (c.loop-c.len + n) (2 ^ 64 - 1)) (c.form_len.ensures ∙ ap byte_count c.form_of.ensures) in
    record {
      text = IsUtf8-past_char _ _ c.in-Some.c left.text parts;
      fits = omega arith;
      same = count_next (escaped quote c.in-Some.c) (flat_map (escaped quote) (chars (chars_rest c.next.new.self))) _ c.loop-c.len c.saturating_add-len.result (2 ^ 64 - 1) _
          (ap (flat_map (escaped quote)) step) more left.same;
    }

pub returns : goal.returns
returns c =
    let left = c.loop-c.invariant in
    let quote = c.quote_of-quote.result in
    let s = chars c.args.s.now in
    let none : byte_count (flat_map (escaped quote) (chars (chars_rest c.loop-c.c-iterator))) ≡ 0 =
    ap (λ x. byte_count (flat_map (escaped quote) x)) (chars_of_empty _ c.in-None.ensures.steps.0.0) in
    let all : byte_count (quoted s) ≡ 2 + byte_count (flat_map (escaped quote) s) =
    byte_count-quoted s ∙ ap (λ q. 2 + byte_count (flat_map (escaped q) s)) (sym c.quote_of-quote.ensures) in
    omega (arith, left.same, left.fits)

use Rattle.std.proofs.Common.{◌≡◌, ◌++◌, ◌∙◌, [], ◌∷◌, ap, sym, chars, string_bytes, encode_utf8, encode_utf8_all, append-nil, rules}
use Rattle.std.specs.List.{flat_map}
use Rattle.std.specs.Str.Iter.{chars_rest}
use Rattle.std.proofs.lemmas.Str.{IsUtf8-past_char, chars_past_char}
use Rattle.pyd_text.specs.Quoting.{escaped, between_quotes}
use Rattle.pyd_text.proofs.Counting.{chars_of_empty}
use Rattle.pyd_text.proofs.Appending.{wrapped, piece_next, one_more}
use Rattle.pyd_text.proofs.quoting.write_quoted.Goals as goal

pub loop-c-preserved : goal.loop-c-preserved
loop-c-preserved c =
    let left = c.loop-c.invariant in
    let quote = c.quote_of-quote.result in
    let parts = c.in-Some.ensures.steps.0 in
    let step = chars_past_char _ _ c.in-Some.c left.text parts in
    let before = string_bytes c.loop-c.out in
    record {
      text = IsUtf8-past_char _ _ c.in-Some.c left.text parts;
      same = piece_next (escaped quote c.in-Some.c) (flat_map (escaped quote) (chars (chars_rest c.next.new.self))) _
          before (string_bytes c.write_form.new.out) _
          (ap (flat_map (escaped quote)) step)
          (c.in_ok-write_form.ensures ∙ ap (λ s. before ++ encode_utf8_all s) c.form_of.ensures) left.same;
    }

pub returns : goal.returns
returns c =
    let quote = c.quote_of-quote.result in
    let s = chars c.args.s.now in
    let before = string_bytes c.args.out.now in
    let first : string_bytes c.push.new.self ≡ before ++ encode_utf8 quote = search rules in
    let last : string_bytes c.push-2.new.self ≡ string_bytes c.loop-c.out ++ encode_utf8 quote = search rules in
    let body : string_bytes c.loop-c.out ≡ string_bytes c.push.new.self ++ encode_utf8_all (flat_map (escaped quote) s) =
    sym (append-nil (string_bytes c.loop-c.out))
    ∙ ap (λ x. string_bytes c.loop-c.out ++ encode_utf8_all (flat_map (escaped quote) x)) (sym (chars_of_empty _ c.in-None.ensures.steps.0.0))
    ∙ c.loop-c.invariant.same in
    wrapped before (string_bytes c.push.new.self) (string_bytes c.loop-c.out) (string_bytes c.push-2.new.self)
    (quote ∷ []) (flat_map (escaped quote) s) (quote ∷ []) (one_more quote _ _ first) body (one_more quote _ _ last)
    ∙ ap (λ q. before ++ encode_utf8_all (between_quotes q s)) c.quote_of-quote.ensures

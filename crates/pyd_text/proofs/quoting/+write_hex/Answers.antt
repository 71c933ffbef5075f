use Rattle.std.proofs.Common.{◌≡◌, ◌-◌, ◌/◌, [], ◌∷◌, ◌++◌, ◌∙◌, ap, sym, encode_utf8, encode_utf8_all, string_bytes, rules}
use Rattle.pyd_text.specs.Quoting.{hex_digits}
use Rattle.pyd_text.proofs.Appending.{then_more, one_more}
use Rattle.pyd_text.proofs.Quotes.{hex_digits-last}
use Rattle.pyd_text.proofs.quoting.+write_hex.Goals as goal

pub returns : goal.returns
returns t c =
    let k = c.args.digits in
    let n = c.args.n in
    let digit = c.hex_digit.result in
    let front = hex_digits (k - 1) (n / 16) in
    let before = string_bytes c.args.out.now in
    let last : string_bytes c.push.new.self ≡ string_bytes c.write_hex.new.out ++ encode_utf8 digit = search rules in
    then_more before (string_bytes c.write_hex.new.out) (string_bytes c.push.new.self) front (digit ∷ [])
    c.in_ok-write_hex.ensures (one_more digit (string_bytes c.write_hex.new.out) (string_bytes c.push.new.self) last)
    ∙ ap (λ d. before ++ encode_utf8_all (front ++ d ∷ [])) c.hex_digit.ensures
    ∙ ap (λ s. before ++ encode_utf8_all s) (sym (hex_digits-last k n c.if-digits-eq0.false))

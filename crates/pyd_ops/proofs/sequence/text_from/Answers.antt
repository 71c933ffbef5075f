-- What is spelled is UTF-8, so its characters are those that were spelled.
use Rattle.std.proofs.Common.{◌≡◌, sym, subst, IfOk, string_bytes}
use Rattle.std.proofs.lemmas.Str.{chars_from_encodes, IsUtf8-string_bytes}
use Rattle.pyd_ops.proofs.sequence.text_from.Goals as goal

pub returns : goal.returns
returns c =
    let text = c.in_ok-text.text in
    subst (λ x. IfOk c.from_string.result (λ t. t ≡ x))
    (sym (chars_from_encodes c.args.characters.now (string_bytes text) (IsUtf8-string_bytes text) (sym c.in_ok-text.ensures)))
    c.from_string.ensures

-- Each character of the text was counted.
use Rattle.std.proofs.Common.{◌≡◌, ◌∙◌, ap, length, rules}
use Rattle.std.specs.Str.{chars}
use Rattle.std.proofs.lemmas.Str.{chars_from_encodes}
use Rattle.pyd_value.proofs.text.Text.from_string.Goals as goal

pub from_counted-requires : goal.from_counted-requires
from_counted-requires c =
    let e : c.count-count.result ≡ length (chars c.as_str.result.now) = search (rules, chars_from_encodes) in
    e ∙ ap (λ bytes. length (chars bytes)) c.as_str.ensures.value

use Rattle.std.proofs.Common.{◌≡◌, ◌∙◌, rules}
use Rattle.std.specs.Str.{chars}
use Rattle.std.proofs.lemmas.Str.{chars_from_encodes}
use Rattle.pyd_ops.proofs.sequence.characters.Goals as goal

pub returns : goal.returns
returns c =
    let e : c.in_ok-collect.field-0.items ≡ chars c.as_str.result.now = search (rules, chars_from_encodes) in
    e ∙ c.as_str.ensures.characters

-- The bytes are looked for, which is as good as the characters.
use Rattle.std.proofs.Common.{◌∙◌, ap}
use Rattle.std.proofs.lemmas.Str.Pattern.{contains_text}
use Rattle.std.specs.Str.{chars}
use Rattle.pyd_ops.specs.Comparing.{is_substring}
use Rattle.pyd_ops.proofs.Substrings.{substring_by_bytes}
use Rattle.pyd_ops.proofs.comparing.is_substring.Goals as goal

pub returns : goal.returns
returns c =
    substring_by_bytes _ _ _ c.as_str.utf8 c.as_str-2.utf8 (contains_text _ _ _ c.contains.ensures.cases)
    ∙ ap (λ s. is_substring s (chars c.as_str.result.now)) c.as_str-2.ensures.characters ∙ ap (is_substring c.args.part.now) c.as_str.ensures.characters

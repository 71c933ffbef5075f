-- A text that was written from nothing, and fits, is the answer.
use Rattle.std.proofs.Common.{◌≡◌, ℕ, ◌<◌, List, [], ◌++◌, encode_utf8_all, string_bytes, sym, ap, ◌∙◌}
use Rattle.std.specs.declared.string.String.{String}
use Rattle.std.specs.declared.alloc.Global.{Global}
use Rattle.std.specs.Str.{chars}
use Rattle.std.proofs.lemmas.Str.{chars_from_encodes, IsUtf8-string_bytes}
use Rattle.pyd_value.specs.Limits.{largest_size}
use Rattle.pyd_ops.specs.Joining.{text_value, text_if_fits}
use Rattle.pyd_ops.proofs.Holding.{text_within}
use Rattle.pyd_text.specs.Writing.{Appends, byte_count}

pub built : (empty text : String Global) (s : List ℕ) (line : ℕ) → string_bytes empty ≡ [] → Appends empty text s → byte_count s < largest_size
    → text_value (chars (string_bytes text)) ≡ text_if_fits s line
built empty text s line e a h =
    let bytes : string_bytes text ≡ encode_utf8_all s = a ∙ ap (λ x. x ++ encode_utf8_all s) e in
    ap text_value (sym (chars_from_encodes s (string_bytes text) (IsUtf8-string_bytes text) (sym bytes)))
    ∙ sym (text_within s line h)

-- The text of a token.
use Rattle.std.specs.Prelude.{◌≡◌, ℕ, List, take, drop, encode_utf8_all}
use Rattle.std.specs.Str.{IsUtf8, chars}
use Rattle.pyd_lex.specs.declared.token.Token.{Token}
use Rattle.pyd_lex.specs.Words.{Text}
use Rattle.pyd_lex.specs.Strings.{string_value}

-- the bytes that spell a token
abbrev pub spelling_of : List ℕ → ℕ → ℕ → List ℕ
spelling_of bytes from to = drop from (take to bytes)

-- the bytes of a text
abbrev pub utf8 : Text → List ℕ
utf8 z = encode_utf8_all z

-- in UTF-8, the value of the string that the token's bytes spell
abbrev pub IsTextOf : List ℕ → Token → List ℕ → Type 0
IsTextOf bytes t text =
    IsUtf8 (spelling_of bytes t.from t.to) → text ≡ utf8 (string_value (chars (spelling_of bytes t.from t.to)))

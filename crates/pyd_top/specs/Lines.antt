-- How lines go out: some are put, and some wait to be put together.
use Rattle.std.specs.Prelude.{◌≡◌, ℕ, List, [], ◌∷◌, ◌++◌, Option, encode_utf8_all}
use Rattle.pyd_source.specs.Content.{Added}

-- a line in UTF-8 with a newline
abbrev pub line_bytes : List ℕ → List ℕ
line_bytes line = encode_utf8_all line ++ 10 ∷ []

-- what was put, and then what waits, are these bytes
pub record Gathers (before after : Option (List ℕ)) (waiting bytes : List ℕ) : Type 0 where
  pub gone : List ℕ
  pub added : Added before gone after
  pub whole : gone ++ waiting ≡ bytes

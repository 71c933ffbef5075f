-- The limit on sources, which is the profile's own.
use Rattle.std.specs.Prelude.{ℕ}

-- the longest source, in bytes
abbrev pub longest_source : ℕ
longest_source = 1048576

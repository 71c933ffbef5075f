-- What a call moves, told as equations: what was told before is told after, and what wasn't isn't.
use Rattle.std.specs.Prelude.{◌≡◌, ℕ, ◌+◌, ◌<◌, ◌≤◌, List, [], ◌++◌, length, Option, option_map, IfSome}

-- what was left is these bytes, and then what is left now
abbrev pub Taken : Option (List ℕ) → List ℕ → Option (List ℕ) → Type 0
Taken before bytes after = before ≡ option_map (λ rest. bytes ++ rest) after

-- some bytes were taken, this many
abbrev pub TookExactly : Option (List ℕ) → ℕ → Option (List ℕ) → Type 0
TookExactly before count after = (bytes : List ℕ) × (length bytes ≡ count) × Taken before bytes after

-- some bytes were taken, no more than this many
abbrev pub TookAtMost : Option (List ℕ) → ℕ → Option (List ℕ) → Type 0
TookAtMost before count after = (bytes : List ℕ) × (length bytes ≤ count) × Taken before bytes after

-- nothing is left, where what is left is told
abbrev pub AtEnd : Option (List ℕ) → Type 0
AtEnd left = IfSome left (λ bytes. bytes ≡ [])

-- what was left is told to be gone, where it was told
abbrev pub Emptied : Option (List ℕ) → Option (List ℕ) → Type 0
Emptied before after = after ≡ option_map (λ _. []) before

-- what is held is what was held, and then these bytes
abbrev pub Added : Option (List ℕ) → List ℕ → Option (List ℕ) → Type 0
Added before bytes after = after ≡ option_map (λ held. held ++ bytes) before

-- some of these bytes were added, from the first on
pub record AddedPrefix (before : Option (List ℕ)) (bytes : List ℕ) (after : Option (List ℕ)) : Type 0 where
  pub gone : List ℕ
  pub rest : List ℕ
  pub added : Added before gone after
  pub whole : gone ++ rest ≡ bytes

-- the room was this much larger
abbrev pub Lowered : Option ℕ → ℕ → Option ℕ → Type 0
Lowered before count after = before ≡ option_map (λ room. room + count) after

-- more bytes than the room, where that is told
abbrev pub Exceeds : ℕ → Option ℕ → Type 0
Exceeds count room = IfSome room (λ room. room < count)

-- Where names stand in a list.
use Rattle.std.specs.Prelude.{◌≡◌, ℕ, List, Option}
use Rattle.std.specs.List.{position_from}
use Rattle.std.specs.BTreeMap.{BTreeMap, get}
use Rattle.std.specs.Ordering.{nat_cmp}
use Rattle.std.specs.Cmp.Lexicographic.{slice_cmp}
use Rattle.pyd_names.specs.Binding.{same_name}

-- the first place of a name, counted from 0
abbrev pub place : List (List ℕ) → List ℕ → Option ℕ
place names name = position_from (same_name name) 0 names

-- a tree has the first place of each name
abbrev pub ArePlaces : List (List ℕ) → BTreeMap (List ℕ) ℕ → Type 0
ArePlaces names places = (q : List ℕ) → get (slice_cmp nat_cmp) places q ≡ place names q

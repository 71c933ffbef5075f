-- What a count of faults says of a call.
use Rattle.std.specs.Prelude.{ℕ, Bool, ◌+◌, ◌-◌, ◌^◌, ◌≤◌, min, if◌then◌else◌}

-- a count after one more fault: it stays at the end of its type once it is there
abbrev pub raised : ℕ → ℕ
raised count = min (count + 1) (2 ^ 64 - 1)

-- a count after a call that failed or didn't
abbrev pub count_after : Bool → ℕ → ℕ
count_after failed count = if failed then raised count else count

-- a count rose: a count at the end of its type is said to have risen too
abbrev pub Rose : ℕ → ℕ → Type 0
Rose before now = raised before ≤ now

-- over a call the count doesn't fall, and the call failed only where it rose
pub record Counted (before now : ℕ) (failed : Type 0) : Type 0 where
  pub never_falls : before ≤ now
  pub cause : failed → Rose before now

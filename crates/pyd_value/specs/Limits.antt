-- The limits on values, which are the profile's own.
use Rattle.std.specs.Prelude.{ℕ, ◌-◌, ◌^◌}

-- integers lie below this, and not below its negative
abbrev pub integer_bound : ℕ
integer_bound = 2 ^ 127

-- the greatest integer
abbrev pub greatest_integer : ℕ
greatest_integer = integer_bound - 1

-- the largest size of a value
abbrev pub largest_size : ℕ
largest_size = 1048576

-- the deepest nesting of a tuple
abbrev pub deepest_nesting : ℕ
deepest_nesting = 100

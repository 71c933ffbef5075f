-- Values and ranges within the limits on integers, size and nesting.
use Rattle.std.specs.Prelude.{◌≡◌, ℕ, pos, ◌<ℤ◌, List, [], ◌∷◌, Bool, true}
use Rattle.std.specs.List.{list_all}
use Rattle.pyd_value.specs.declared.value.Value.{Value, fold-Value}
use Rattle.pyd_value.specs.declared.value.Value.TheOpen.{Value-F}
use Rattle.pyd_ops.specs.declared.ranges.Span.{Span}
use Rattle.pyd_ops.specs.Integer.{is_within}
use Rattle.pyd_ops.specs.Joining.{fits}
use Rattle.pyd_ops.specs.Ranges.{number_at}

-- one level, each member being given by whether its integers are within
abbrev pub integers_step : Value-F Bool → Bool
integers_step (Value-F.Int n) = is_within n
integers_step (Value-F.Tuple members) = list_all (λ b. b) members
integers_step level = true

-- whether all integers of a value are within the limits, its members' too
abbrev pub integers_within : Value → Bool
integers_within = fold-Value Bool integers_step

-- a value within the limits on integers, size and nesting
pub record Limited (v : Value) : Type 0 where
  pub integers : integers_within v ≡ true
  pub size : fits v ≡ true

-- each value of a list within the limits
abbrev pub EachLimited : List Value → Type 0
EachLimited [] = Unit {0}
EachLimited (x ∷ xs) = Limited x × EachLimited xs

-- a range within the limits on integers, and each of its numbers too
pub record LimitedSpan (span : Span) : Type 0 where
  pub from : is_within span.from ≡ true
  pub step : is_within span.step ≡ true
  pub count : is_within span.count ≡ true
  pub numbers : (t : ℕ) → pos t <ℤ span.count → is_within (number_at span t) ≡ true

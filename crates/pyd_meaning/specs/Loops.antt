-- What loops do (Python Language Reference, 8.2 and 8.3), turn after turn, within a limit on their turns.
use Rattle.std.specs.Prelude.{ℕ, zero, suc, ◌-◌, ℤ, pos, negsuc, nat_lt, List, [], ◌∷◌, map, slice_get, Bool, true, false, ◌&&◌, Option, Some, None}
use Rattle.std.specs.Bool.{then_some}
use Rattle.pyd_value.specs.declared.value.Value.{Value, out-Value, Int}
use Rattle.pyd_value.specs.declared.value.Value.TheOpen.{Value-F}
use Rattle.pyd_value.specs.declared.fault.Kind.TheVariants.{TypeError}
use Rattle.pyd_value.specs.declared.fault.Limit.TheVariants.{Turn}
use Rattle.pyd_value.specs.Truth.{is_true, is_nonzero}
use Rattle.pyd_tree.specs.declared.statement.Targets.{Targets}
use Rattle.pyd_ops.specs.declared.ranges.Span.{Span}
use Rattle.pyd_ops.specs.Integer.{is_within}
use Rattle.pyd_ops.specs.Ranges.{number_at}
use Rattle.pyd_ops.specs.Sequence.{items}
use Rattle.pyd_meaning.specs.Evaluation.{gives, step, ◌>>=◌}
use Rattle.pyd_meaning.specs.Setting.{Place, raises, exceeds}
use Rattle.pyd_meaning.specs.Expression.{Meaning, branch}
use Rattle.pyd_meaning.specs.Assignment.{assign}
use Rattle.pyd_meaning.specs.Completion.{Action, normally, after_turn}

-- a turn counts as a step where it is wanted, and where none is wanted the loop is over
abbrev pub wanted : Bool → Action → Action
wanted is_wanted turn = branch is_wanted (λ now. step (turn now)) (λ now. gives (normally now))

-- the body, and then the next turn, unless the body left the loop
abbrev pub turned : Action → Action → Action
turned body next names = body names >>= (λ r. after_turn r.completion r.names next)

-- a `while` from the value of its test on, with so many turns left
unfoldable pub while_from : ℕ → Place → Meaning → Action → Value → Action
while_from zero at test body v = wanted (is_true v) (λ now. exceeds Turn at)
while_from (suc turns) at test body v =
    wanted (is_true v)
    (turned body (λ now. test at now >>= (λ w. while_from turns at test body w now)))

-- a `while`: its test, and then on from the value of that
abbrev pub while_loop : ℕ → Place → Meaning → Action → Action
while_loop turns at test body names =
    test at names >>= (λ v. while_from turns at test body v names)

-- items by their numbers, counted from 0; none past the end
abbrev pub Items : Type 0
Items = ℕ → Option Value

-- the items of a list
abbrev pub listed : Option (List Value) → Option Items
listed (Some vs) = Some (λ t. slice_get vs t)
listed None = None

-- whether the first of so many numbers and the last are within the limits, and so all between them
abbrev pub all_within : Span → ℕ → Bool
all_within span zero = true
all_within span (suc last) = is_within span.from && is_within (number_at span last)

-- whether so many numbers from a first one by a step are a range
abbrev pub is_range : Span → ℤ → Bool
is_range span (pos count) = is_nonzero span.step && all_within span count
is_range span (negsuc n) = false

-- the numbers of a range
abbrev pub numbers : Span → ℤ → Items
numbers span (pos count) t = then_some (nat_lt t count) (Int (number_at span t))
numbers span (negsuc n) t = None

-- the numbers of a range, if it is one
abbrev pub range_numbers : Span → Option Items
range_numbers span = then_some (is_range span span.count) (numbers span span.count)

-- the numbers of a range of three integers: its first number, its step and its count
abbrev pub integers_range : List (Value-F Value) → Option Items
integers_range (Value-F.Int from ∷ Value-F.Int by ∷ Value-F.Int count ∷ []) =
    range_numbers (record { from = from; step = by; count = count })
integers_range other = None

-- the numbers of what a call of `range` gave
abbrev pub range_items : Value-F Value → Option Items
range_items (Value-F.Tuple members) = integers_range (map out-Value members)
range_items (Value-F.Int n) = None
range_items (Value-F.Bool b) = None
range_items (Value-F.Text s) = None
range_items Value-F.None = None

-- the items that a `for` goes over: the numbers of a range, or the items of a text or tuple
abbrev pub items_over : Bool → Value → Option Items
items_over true over = range_items (out-Value over)
items_over false over = listed (items over)

-- a turn with this item, which counts as a step, and where there is none the loop is over
abbrev pub with_item : Option Value → (Value → Action) → Action
with_item (Some v) turn names = step (turn v names)
with_item None turn names = gives (normally names)

-- a `for` from item t on, with so many turns left
unfoldable pub for_from : ℕ → Place → Targets → Action → Items → ℕ → Action
for_from zero at targets body item t = with_item (item t) (λ v now. exceeds Turn at)
for_from (suc turns) at targets body item t =
    with_item (item t)
    (λ v now. assign targets v at now >>= turned body (for_from turns at targets body item (suc t)))

-- a `for` from turn t on, where there are items
abbrev pub for_items : ℕ → Place → Targets → Action → Option Items → ℕ → Action
for_items turns at targets body (Some item) t names = for_from turns at targets body item t names
for_items turns at targets body None t names = raises TypeError at

-- a `for` over a value that may be a range, from turn t on, of so many turns in all
abbrev pub for_loop : ℕ → Place → Targets → Action → Bool → Value → ℕ → Action
for_loop turns at targets body ranged over t =
    for_items (turns - t) at targets body (items_over ranged over) t

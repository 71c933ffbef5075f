-- What a turn of a loop does.
use Rattle.std.proofs.Common.{◌≡◌, ℕ, zero, suc, ◌-◌, Bool, true, false, Option, Some, None, ap}
use Rattle.pyd_value.specs.declared.value.Value.{Value}
use Rattle.pyd_value.specs.Truth.{is_true}
use Rattle.pyd_tree.specs.declared.statement.Targets.{Targets}
use Rattle.pyd_meaning.specs.Evaluation.{gives, step}
use Rattle.pyd_meaning.specs.Names.{Names}
use Rattle.pyd_meaning.specs.Setting.{Place}
use Rattle.pyd_meaning.specs.Expression.{Meaning}
use Rattle.pyd_meaning.specs.Completion.{Action, normally}
use Rattle.pyd_meaning.specs.Loops.{Items, while_from, for_from, wanted, with_item, for_items}
use Rattle.pyd_meaning.specs.LoopLaws.{WhileTurns, ForTurns}

-- no turn is wanted
unwanted : (b : Bool) (turn : Action) (names : Names) → b ≡ false → wanted b turn names ≡ gives (normally names)
unwanted b turn names is = ap (λ c. wanted c turn names) is

-- a turn is wanted
turn_wanted : (b : Bool) (turn : Action) (names : Names) → b ≡ true → wanted b turn names ≡ step (turn names)
turn_wanted b turn names is = ap (λ c. wanted c turn names) is

-- no item is there
no_item : (o : Option Value) (turn : Value → Action) (names : Names) → o ≡ None → with_item o turn names ≡ gives (normally names)
no_item o turn names is = ap (λ c. with_item c turn names) is

-- an item is there
an_item : (o : Option Value) (v : Value) (turn : Value → Action) (names : Names) → o ≡ Some v → with_item o turn names ≡ step (turn v names)
an_item o v turn names is = ap (λ c. with_item c turn names) is

-- a `while` whose test was false is over
while_over : (turns : ℕ) (at : Place) (test : Meaning) (body : Action) (v : Value) (names : Names)
    → is_true v ≡ false → while_from turns at test body v names ≡ gives (normally names)
unfolding while_from
while_over zero at test body v names is = unwanted (is_true v) _ names is
while_over (suc turns) at test body v names is = unwanted (is_true v) _ names is

-- a turn of a `while`
pub while_turns : WhileTurns
unfolding while_from
while_turns = record {
  over = while_over;
  limit = λ at test body v names is. turn_wanted (is_true v) _ names is;
  turn = λ turns at test body v names is. turn_wanted (is_true v) _ names is;
}

-- a `for` that has no item is over
for_over : (turns : ℕ) (at : Place) (targets : Targets) (body : Action) (item : Items) (t : ℕ) (names : Names)
    → item t ≡ None → for_from turns at targets body item t names ≡ gives (normally names)
unfolding for_from
for_over zero at targets body item t names is = no_item (item t) _ names is
for_over (suc turns) at targets body item t names is = no_item (item t) _ names is

-- a turn of a `for`
pub for_turns : ForTurns
unfolding for_from
for_turns = record {
  over = for_over;
  limit = λ at targets body item t v names is. an_item (item t) v _ names is;
  turn = λ turns at targets body item t v names is. an_item (item t) v _ names is;
  nothing = λ turns at targets body ranged over t names is. ap (λ o. for_items (turns - t) at targets body o t names) is;
}

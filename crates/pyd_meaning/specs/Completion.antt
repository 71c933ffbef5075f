-- How statements are left, and with which names bound.
use Rattle.std.specs.Prelude.{List, [], ◌∷◌}
use Rattle.pyd_value.specs.declared.value.Value.{Value}
use Rattle.pyd_value.specs.declared.value.Value.TheVariants as value
use Rattle.pyd_meaning.specs.Evaluation.{Evaluation, gives, ◌>>=◌}
use Rattle.pyd_meaning.specs.Names.{Names}

-- how statements are left
pub data Completion : Type 0 where
  Normal : Completion
  Break : Completion
  Continue : Completion
  Return : Value → Completion

-- the names after statements, and how they were left
pub record Reached : Type 0 where
  pub names : Names
  pub completion : Completion

-- what statements do, from the names that are bound
abbrev pub Action : Type 0
Action = Names → Evaluation Reached

-- statements that were left so
abbrev pub left : Completion → Names → Reached
left completion names = record { names = names; completion = completion }

-- statements that go on with what follows them
abbrev pub normally : Names → Reached
normally names = left Normal names

-- goes on after a normal completion, and is left like any other
abbrev pub left_by : Completion → Names → Action → Evaluation Reached
left_by Normal names next = next names
left_by Break names next = gives (left Break names)
left_by Continue names next = gives (left Continue names)
left_by (Return v) names next = gives (left (Return v) names)

-- one statement after another, until one isn't left normally
unfoldable pub in_turn : List Action → Action
in_turn [] names = gives (normally names)
in_turn (s ∷ ss) names = s names >>= (λ r. left_by r.completion r.names (in_turn ss))

-- after a turn of a loop: the next one, the end of the loop, or a return
abbrev pub after_turn : Completion → Names → Action → Evaluation Reached
after_turn Normal names next = next names
after_turn Continue names next = next names
after_turn Break names next = gives (normally names)
after_turn (Return v) names next = gives (left (Return v) names)

-- the value of a call whose body was left so
abbrev pub value_after : Completion → Value
value_after Normal = value.None
value_after Break = value.None
value_after Continue = value.None
value_after (Return v) = v

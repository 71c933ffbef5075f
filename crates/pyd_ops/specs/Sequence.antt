-- The items of a value: the characters of a text or the members of a tuple.
use Rattle.std.specs.Prelude.{ℕ, List, [], ◌∷◌, map, slice_get, Option, Some, None}
use Rattle.pyd_value.specs.declared.value.Value.{Value, Text}
use Rattle.pyd_value.specs.Shape.{Shape, number, text, tuple, nothing, shape_of}

-- a text of one character
abbrev pub character : ℕ → Value
character c = Text (c ∷ [])

-- the items of a shape, if it has any
abbrev pub items_in : Shape Value → Option (List Value)
items_in (text s) = Some (map character s)
items_in (tuple xs) = Some xs
items_in (number n) = None
items_in nothing = None

-- the items of a value, and none for what is neither text nor tuple
abbrev pub items : Value → Option (List Value)
items a = items_in (shape_of a)

-- item number t of a list that may be absent
abbrev pub item_in : Option (List Value) → ℕ → Option Value
item_in (Some xs) t = slice_get xs t
item_in None t = None

-- item number t, counted from 0, and none past the end
abbrev pub item_at : Value → ℕ → Option Value
item_at a t = item_in (items a) t

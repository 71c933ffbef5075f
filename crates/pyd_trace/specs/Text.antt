-- The text of a trace: a header, and a line for each event.
use Rattle.std.specs.Prelude.{ℕ, List, [], ◌∷◌, ◌++◌, codes}
use Rattle.std.specs.Fmt.{decimal}
use Rattle.std.specs.List.{flat_map}
use Rattle.pyd_board.specs.declared.event.Act.{Act}
use Rattle.pyd_board.specs.declared.event.Act.TheVariants.{Place, Claim, Finish, Drop, Refine, Settle, Lose, Trim}
use Rattle.pyd_board.specs.declared.event.Event.{Event}

-- the first line, with its end
abbrev pub header : List ℕ
header = codes "pydron-trace 1\n"

-- what an act is called
abbrev pub act_name : Act → List ℕ
act_name (Place node attempt machine) = codes "Place"
act_name (Claim node attempt machine) = codes "Claim"
act_name (Finish node attempt machine) = codes "Finish"
act_name (Drop node attempt machine) = codes "Drop"
act_name (Refine node) = codes "Refine"
act_name (Settle node) = codes "Settle"
act_name (Lose machine) = codes "Lose"
act_name (Trim node) = codes "Trim"

-- the numbers of an act in their order
abbrev pub act_fields : Act → List ℕ
act_fields (Place node attempt machine) = node ∷ attempt ∷ machine ∷ []
act_fields (Claim node attempt machine) = node ∷ attempt ∷ machine ∷ []
act_fields (Finish node attempt machine) = node ∷ attempt ∷ machine ∷ []
act_fields (Drop node attempt machine) = node ∷ attempt ∷ machine ∷ []
act_fields (Refine node) = node ∷ []
act_fields (Settle node) = node ∷ []
act_fields (Lose machine) = machine ∷ []
act_fields (Trim node) = node ∷ []

-- a number behind a space
abbrev pub field_text : ℕ → List ℕ
field_text number = 32 ∷ decimal number

-- numbers, each behind a space
abbrev pub fields_text : List ℕ → List ℕ
fields_text numbers = flat_map field_text numbers

-- an act: its name and its fields
abbrev pub act_text : Act → List ℕ
act_text act = act_name act ++ fields_text (act_fields act)

-- the line of an event with its end: the seat, its count and the act, divided by single spaces
abbrev pub line_text : Event → List ℕ
line_text event = decimal event.by ++ (field_text event.nth ++ (32 ∷ (act_text event.act ++ 10 ∷ [])))

-- the header, and the lines of the events
abbrev pub trace_text : List Event → List ℕ
trace_text events = header ++ flat_map line_text events

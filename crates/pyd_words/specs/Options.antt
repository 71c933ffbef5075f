-- The modes and the options of the command, one row each. A mode or an option more is one row more.
use Rattle.std.specs.Prelude.{ℕ, ◌-◌, ◌^◌, List, [], ◌∷◌, codes}
use Rattle.pyd_words.specs.declared.plan.Mode.{Mode}
use Rattle.pyd_words.specs.declared.plan.Mode.TheVariants.{Run, Trace, Check, Graph, Replay, Demo}

-- the bytes of a word or of a part of it
abbrev pub Text : Type 0
Text = List ℕ

-- the modes, each with its name
abbrev pub modes : List (Text × Mode)
modes =
    (codes "run", Run) ∷
    (codes "trace", Trace) ∷
    (codes "check", Check) ∷
    (codes "graph", Graph) ∷
    (codes "replay", Replay) ∷
    (codes "demo", Demo) ∷
    []

-- an option that takes a number: its name, the limits of the number, and the number that counts where none is given
pub record Numeral : Type 0 where
  pub name : Text
  pub least : ℕ
  pub most : ℕ
  pub default : ℕ

-- how many machines there are
abbrev pub machines : Numeral
machines = record { name = codes "machines"; least = 1; most = 16; default = 1 }

-- how many workers each machine has
abbrev pub workers : Numeral
workers = record { name = codes "workers"; least = 1; most = 4; default = 1 }

-- how many turns an activation of a loop may make
abbrev pub turns : Numeral
turns = record { name = codes "turns"; least = 1; most = 1000000; default = 100000 }

-- how deep a call may stand
abbrev pub depth : Numeral
depth = record { name = codes "depth"; least = 1; most = 64; default = 64 }

-- how many nodes may stand before a composite that is refined
abbrev pub window : Numeral
window = record { name = codes "window"; least = 1; most = 100000; default = 1000 }

-- the number of the generated source
abbrev pub number : Numeral
number = record { name = codes "number"; least = 0; most = 2 ^ 64 - 1; default = 0 }

-- an option, by what its value is: a number, a way to place nodes, or a loss script
pub data Choice : Type 0 where
  numeral : Numeral → Choice
  place : Choice
  lose : Choice

-- the name of an option
abbrev pub name_of : Choice → Text
name_of (numeral n) = n.name
name_of place = codes "place"
name_of lose = codes "lose"

-- the options in their order
abbrev pub options : List Choice
options =
    numeral machines ∷
    numeral workers ∷
    numeral turns ∷
    numeral depth ∷
    numeral window ∷
    place ∷
    lose ∷
    numeral number ∷
    []

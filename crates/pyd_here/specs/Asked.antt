-- The events of a run on one thread: losses that are due, then those that choices ask for, then head order.
use Rattle.std.specs.Prelude.{◌≡◌, ℕ, List, [], ◌∷◌, ◌%◌, length, drop, Option, Some, None}
use Rattle.std.specs.List.{slice_get}
use Rattle.pyd_board.specs.declared.event.Act.{Act}
use Rattle.pyd_board.specs.declared.event.Act.TheVariants.{Place, Claim, Finish, Drop, Refine, Settle, Lose, Trim}
use Rattle.pyd_board.specs.declared.event.Event.{Event}
use Rattle.pyd_board.specs.Placing.{least_live}
use Rattle.pyd_boards.specs.Boards.{entry}
use Rattle.pyd_runs.specs.Choices.{choices}
use Rattle.pyd_runs.specs.Desks.{Placed}
use Rattle.pyd_runs.specs.Effects.{State, happens}
use Rattle.pyd_runs.specs.Enabled.{due}
use Rattle.pyd_runs.specs.HeadOrder.{IsNext}
use Rattle.pyd_runs.specs.Plans.{Plan, first_seat}
use Rattle.pyd_steps.specs.Machines.{alive_in, home_of, live_around}

-- the least machine that lives
abbrev pub least_of : Plan → State → ℕ
least_of p s = least_live (alive_in p s)

-- the machine that does an act: a claim's own, and the least that lives for all others
abbrev pub machine_for : Plan → State → Act → ℕ
machine_for p s (Claim k attempt machine) = machine
machine_for p s (Finish k attempt machine) = machine
machine_for p s (Drop k attempt machine) = machine
machine_for p s (Place k attempt machine) = least_of p s
machine_for p s (Refine k) = least_of p s
machine_for p s (Settle k) = least_of p s
machine_for p s (Lose machine) = least_of p s
machine_for p s (Trim k) = least_of p s

-- it does so by its first seat
abbrev pub seat_for : Plan → State → Act → ℕ
seat_for p s act = first_seat p (machine_for p s act)

-- the act of a choice, numbered among those that may come
abbrev pub chosen : Plan → State → ℕ → Option Act
chosen p s choice = slice_get (choices p s) (choice % length (choices p s))

-- in head order a node is placed at its home, and claimed by its ticket's machine or the next one that lives
abbrev pub IsAtHome : Plan → State → Act → Type 0
IsAtHome p s (Place k attempt machine) = machine ≡ home_of (alive_in p s) k
IsAtHome p s (Claim k attempt machine) =
    (t : Placed) → s.desk.ticket k ≡ Some t → machine ≡ live_around (alive_in p s) t.machine
IsAtHome p s (Finish k attempt machine) = Unit {0}
IsAtHome p s (Drop k attempt machine) = Unit {0}
IsAtHome p s (Refine k) = Unit {0}
IsAtHome p s (Settle k) = Unit {0}
IsAtHome p s (Lose machine) = Unit {0}
IsAtHome p s (Trim k) = Unit {0}

-- what comes next in head order, by some seat
pub record IsNextHere (p : Plan) (s : State) (act : Act) : Type 0 where
  pub seat : ℕ
  pub next : IsNext p s seat act
  pub home : IsAtHome p s act

-- what is asked for, by the machine whose loss is due and the choices that are left
abbrev pub Asks : Plan → State → Option ℕ → List ℕ → Act → Type 0
Asks p s (Some machine) choices act = act ≡ Lose machine
Asks p s None [] act = IsNextHere p s act
Asks p s None (choice ∷ choices) act = chosen p s choice ≡ Some act

-- the choices that are left behind it: a loss uses none
abbrev pub left_by : Option ℕ → List ℕ → List ℕ
left_by (Some machine) choices = choices
left_by None choices = drop 1 choices

-- while the run goes on an event is the one that is asked for, the next entry of its seat
pub record IsAsked (p : Plan) (s : State) (choices : List ℕ) (e : Event) : Type 0 where
  pub goes_on : s.graph.end ≡ None
  pub asks : Asks p s (due s) choices e.act
  pub event : e ≡ entry s.journal (seat_for p s e.act) e.act

-- so is each of some events in its turn, and these choices are left behind them
abbrev pub Follows : Plan → State → List ℕ → List Event → List ℕ → Type 0
Follows p s choices [] rest = rest ≡ choices
Follows p s choices (e ∷ es) rest =
    IsAsked p s choices e × Follows p (happens p s e) (left_by (due s) choices) es rest

-- The laws of the words.
use Rattle.std.specs.Prelude.{◌≡◌, ◌≤◌, ◌==◌, ◌↔◌, ℕ, true, false, List, filter, Ok, Err}
use Rattle.std.specs.List.Sorted.{IsNonDecreasingBy}
use Rattle.pyd_board.specs.declared.setup.Loss.{Loss}
use Rattle.pyd_words.specs.declared.plan.Plan.{Plan}
use Rattle.pyd_words.specs.declared.fault.WordsFault.TheVariants.{Line}
use Rattle.pyd_words.specs.Options.{Text, Numeral, machines, workers, turns, depth, window, number}
use Rattle.pyd_words.specs.Command.{is_refused}
use Rattle.pyd_words.specs.Losses.{loses_none, loses_twice, loses_all, in_order}
use Rattle.pyd_words.specs.Words.{words}

-- a line is refused exactly where the definition of the command finds a fault
abbrev pub LineIsRefused : Type 0
LineIsRefused = (ws : List Text) → (words ws ≡ Err Line) ↔ (is_refused ws ≡ true)

-- the events never fall
abbrev pub EventsRise : Type 0
EventsRise = (ls : List Loss) → IsNonDecreasingBy (λ l. l.event) (in_order ls)

-- the losses of one event are those written, in the order in which they are written
abbrev pub SameEventAsWritten : Type 0
SameEventAsWritten =
    (ls : List Loss) (event : ℕ) → filter (λ l. l.event == event) (in_order ls) ≡ filter (λ l. l.event == event) ls

-- a number lies within the limits of its option
abbrev pub Within : Numeral → ℕ → Type 0
Within o n = (o.least ≤ n) × (n ≤ o.most)

-- what a run asks of its settings
pub record IsSound (plan : Plan) : Type 0 where
  pub machines_within : Within machines plan.machines
  pub workers_within : Within workers plan.workers
  pub turns_within : Within turns plan.turns
  pub depth_within : Within depth plan.depth
  pub window_within : Within window plan.window
  pub number_within : Within number plan.number
  pub rising : IsNonDecreasingBy (λ l. l.event) plan.losses
  pub machines_there : loses_none plan.machines plan.losses ≡ false
  pub none_twice : loses_twice plan.losses ≡ false
  pub one_left : loses_all plan.machines plan.losses ≡ false

-- every plan is sound
abbrev pub PlansAreSound : Type 0
PlansAreSound = (ws : List Text) (plan : Plan) → words ws ≡ Ok plan → IsSound plan

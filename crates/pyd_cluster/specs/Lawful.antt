-- That what the cluster tells goes with the events that may come on it.
use Rattle.std.specs.Prelude.{◌≡◌, [], List, true, is_some}
use Rattle.pyd_board.specs.declared.event.Event.{Event}
use Rattle.pyd_board.specs.declared.history.History.{History}
use Rattle.pyd_board.specs.declared.kept.RunName.{RunName}
use Rattle.pyd_boards.specs.Calls.{AreNext}
use Rattle.pyd_boards.specs.Lawful.{AreLawful}
use Rattle.pyd_runs.proofs.Barring.{due_bars}
use Rattle.pyd_runs.proofs.Beginnings.{journal_whole, steps_on}
use Rattle.pyd_runs.proofs.NextLost.{are_left}
use Rattle.pyd_runs.proofs.Running.{run_keeps}
use Rattle.pyd_runs.proofs.Unchanged.{desk_leaves, tickets_live}
use Rattle.pyd_core.specs.Facts.{facts_by, may_come_by}
use Rattle.pyd_core.proofs.Lawfulness as lawfulness

-- after events that came each in its turn
pub lawful : (name : List RunName) (events : List Event) → AreNext (may_come_by name) [] events
    → AreLawful name (facts_by name) (may_come_by name) events
lawful = lawfulness.lawful (record {
  bar = due_bars;
  desk = desk_leaves;
  journal = journal_whole;
  left = are_left;
  run = run_keeps;
  step = steps_on;
  ticket = tickets_live;
})

-- the board's end is there where its run has ended
pub end_of_run : (name : List RunName) (h : History) → true ≡ true
    → is_some ((facts_by name).end h) ≡ (facts_by name).has_ended h.events 0
end_of_run name h single = lawfulness.ended_alike name h

use Rattle.std.proofs.Common.{◌≡◌, ◌<◌, ◌^◌, ◌++◌, ◌∷◌, [], suc, length, refl, ap, sym, subst, ◌∙◌}
use Rattle.pyd_board.specs.declared.event.Act.TheVariants.{Place}
use Rattle.pyd_boards.specs.Boards.{entry}
use Rattle.pyd_runs.specs.Effects.{placed}
use Rattle.pyd_desk.specs.Desks.{mark_at}
use Rattle.pyd_desk.specs.States.{Becomes}
use Rattle.pyd_core.specs.Placing.{next_attempt_of}
use Rattle.pyd_core.proofs.Ticketed.{makes_place, placed_below, placed_few, placed_times}
use Rattle.pyd_core.proofs.keeper.Core.place.Goals as goal

pub next_attempt-attempt-requires-clause-node : goal.next_attempt-attempt-requires-clause-node
next_attempt-attempt-requires-clause-node c =
    subst (λ marks. c.args.node < length marks) (sym c.as_slice.ensures.value)
    (placed_below (record {
      run = c.run_law.ensures;
      step = c.step_law.ensures;
      journal = c.journal_law.ensures;
      number = c.number_law.ensures;
      place = c.place_test_law.ensures;
    }) c.args.self.now c.args.seat c.args.node c.args.machine (record {
      core = c.requires.core;
      room = c.requires.room;
      seat = c.requires.seat;
      quiet = c.requires.quiet;
      may = c.requires.may;
      lives = c.requires.lives;
    }))

pub next_attempt-attempt-requires-clause-few : goal.next_attempt-attempt-requires-clause-few
next_attempt-attempt-requires-clause-few c =
    subst (λ marks. suc (mark_at marks c.args.node).places < 2 ^ 64) (sym c.as_slice.ensures.value)
    (placed_few (record {
      run = c.run_law.ensures;
      step = c.step_law.ensures;
      journal = c.journal_law.ensures;
      number = c.number_law.ensures;
      place = c.place_test_law.ensures;
    }) c.args.self.now c.args.seat c.args.node c.args.machine (record {
      core = c.requires.core;
      room = c.requires.room;
      seat = c.requires.seat;
      quiet = c.requires.quiet;
      may = c.requires.may;
      lives = c.requires.lives;
    }))

pub place-requires : goal.place-requires
place-requires c =
    placed_below (record {
      run = c.run_law.ensures;
      step = c.step_law.ensures;
      journal = c.journal_law.ensures;
      number = c.number_law.ensures;
      place = c.place_test_law.ensures;
    }) c.args.self.now c.args.seat c.args.node c.args.machine (record {
      core = c.requires.core;
      room = c.requires.room;
      seat = c.requires.seat;
      quiet = c.requires.quiet;
      may = c.requires.may;
      lives = c.requires.lives;
    })

pub returns-clause-makes : goal.returns-clause-makes
returns-clause-makes c =
    let attempt : c.next_attempt-attempt.result ≡ next_attempt_of c.args.self.now c.args.node
    = c.next_attempt-attempt.ensures
    ∙ ap (λ marks. suc (mark_at marks c.args.node).places) c.as_slice.ensures.value
    ∙ sym (ap suc (placed_times (record {
      run = c.run_law.ensures;
      step = c.step_law.ensures;
      journal = c.journal_law.ensures;
      number = c.number_law.ensures;
      place = c.place_test_law.ensures;
    }) c.args.self.now c.args.seat c.args.node c.args.machine (record {
      core = c.requires.core;
      room = c.requires.room;
      seat = c.requires.seat;
      quiet = c.requires.quiet;
      may = c.requires.may;
      lives = c.requires.lives;
    }))) in
    makes_place (record {
      run = c.run_law.ensures;
      step = c.step_law.ensures;
      journal = c.journal_law.ensures;
      number = c.number_law.ensures;
      place = c.place_test_law.ensures;
    }) c.args.self.now c.args.seat c.args.node c.args.machine (record {
      core = c.requires.core;
      room = c.requires.room;
      seat = c.requires.seat;
      quiet = c.requires.quiet;
      may = c.requires.may;
      lives = c.requires.lives;
    }) _ (record {
      plan = refl;
      line = refl;
      lost = refl;
      end = refl;
      journal = c.note.ensures.journal
          ∙ ap (λ a. c.args.self.now.log.journal.items
          ++ entry c.args.self.now.log.journal.items c.args.seat
          (Place c.args.node a c.args.machine) ∷ [])
          attempt;
      counted = c.note.ensures.counted;
      seats = c.note.ensures.seats;
      capacity = c.note.ensures.capacity;
      machines = c.place.ensures.machines;
    })
    (subst (λ a. Becomes c.args.self.now.desk c.place.new.self
    (λ s. placed s c.args.node a c.args.machine)) attempt c.place.ensures.becomes)

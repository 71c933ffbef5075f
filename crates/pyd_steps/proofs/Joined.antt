-- A core that comes by events, and then by more.
use Rattle.std.proofs.Common.{◌≡◌, ℕ, List, [], ◌∷◌, ◌++◌, append_assoc, append-nil, ap, sym, subst, ◌∙◌}
use Rattle.pyd_board.specs.declared.event.Act.{Act}
use Rattle.pyd_board.specs.declared.event.Event.{Event}
use Rattle.pyd_boards.specs.Boards.{entry}
use Rattle.pyd_runs.specs.Effects.{State}
use Rattle.pyd_runs.specs.Enabled.{CanRefine}
use Rattle.pyd_runs.specs.Plans.{Plan}
use Rattle.pyd_runs.specs.Replay.{replay}
use Rattle.pyd_core.specs.declared.keeper.Core.{Core}
use Rattle.pyd_core.specs.Cores.{plan_of, state_of}
use Rattle.pyd_core.specs.Refining.{NoneRefinable}
use Rattle.pyd_core.specs.Settling.{NoneSettles}
use Rattle.pyd_core.specs.Steps.{ComesBy, Makes, Stays}

module _ (b c : Core) (es : List Event) (comes : ComesBy b c es) where
  -- the state there
  pub state_then : state_of c ≡ replay (plan_of b) (b.log.journal.items ++ es)
  state_then =
      ap (λ (p : Plan). replay p c.log.journal.items) comes.plan
      ∙ ap (replay (plan_of b)) comes.journal

  -- more events
  pub comes_on : (d : Core) (more : List Event) → ComesBy c d more → ComesBy b d (es ++ more)
  comes_on d more next = record {
    core = next.core;
    plan = next.plan ∙ comes.plan;
    journal = next.journal ∙ ap (λ (js : List Event). js ++ more) comes.journal
        ∙ append_assoc b.log.journal.items es more;
  }

  -- the next entry of a seat
  pub makes_then : (d : Core) (seat : ℕ) (act : Act) → Makes c d seat act
      → ComesBy b d (es ++ entry (b.log.journal.items ++ es) seat act ∷ [])
  makes_then d seat act next =
      subst (λ (js : List Event). ComesBy b d (es ++ entry js seat act ∷ [])) comes.journal
      (comes_on d (entry c.log.journal.items seat act ∷ []) next)

module _ (b c : Core) (still : Stays b c) where
  -- a core that stays is in the same state
  state_still : state_of c ≡ state_of b
  state_still =
      state_then b c [] still ∙ ap (replay (plan_of b)) (append-nil b.log.journal.items)

  -- what may not be done there may not be done then
  pub none_settles_still : NoneSettles (state_of b) → NoneSettles (state_of c)
  none_settles_still none = subst NoneSettles (sym state_still) none

  pub none_refinable_still : NoneRefinable b → NoneRefinable c
  none_refinable_still none k can =
      none k (subst (λ (p : Plan). CanRefine p (state_of b) k) still.plan
      (subst (λ (s : State). CanRefine (plan_of c) s k) state_still can))

  -- what comes of it comes of the one before
  pub comes_from : (d : Core) (es : List Event) → ComesBy c d es → ComesBy b d es
  comes_from d es next = comes_on b c [] still d es next

-- The first composite, refined by a seat.
use Rattle.std.proofs.Common.{◌≡◌, ℕ, [], ◌∷◌, refl}
use Rattle.std.proofs.lemmas.List.Elements.{All-nil, All-cons}
use Rattle.pyd_board.specs.declared.event.Act.TheVariants.{Refine}
use Rattle.pyd_board.specs.declared.event.Event.{Event}
use Rattle.pyd_boards.specs.Boards.{entry}
use Rattle.pyd_core.specs.declared.keeper.Core.{Core}
use Rattle.pyd_core.specs.Cores.{plan_of, state_of}
use Rattle.pyd_core.specs.Refining.{IsFirstRefinable, RefinesAt}
use Rattle.pyd_core.specs.Settling.{NoneSettles}
use Rattle.pyd_steps.specs.Refining.{RefinesFirst}
use Rattle.pyd_steps.proofs.Comings.{none_settle}

-- where no head may be settled, it is the second of the three things
pub refines_first : (b c : Core) (seat at : ℕ) → NoneSettles (state_of b) → IsFirstRefinable b at
    → RefinesAt b c seat at → RefinesFirst b c seat
refines_first b c seat at none first refines =
    let v : Event = entry b.log.journal.items seat (Refine first.is.node.id) in
    record {
      at = at;
      first = first;
      own = v ∷ [];
      comes = refines first.is.node first.is.there;
      by = All-cons (λ (e : Event). e.by ≡ seat) v [] refl (All-nil (λ (e : Event). e.by ≡ seat));
      refines = record {
        refined = v;
        acts = refl;
        is_refine = record { of_kind = refl; in_run = refl };
        no_settle = none_settle (plan_of b) b.log.journal.items none;
        answers = refl;
      };
    }

-- How the history of a core goes on where the core comes by events.
use Rattle.std.proofs.Common.{◌≡◌, ℕ, suc, length, List, [], ◌∷◌, ◌++◌, cond, Option, Some, None, is_some, refl, subst}
use Rattle.std.specs.Prelude.{Contains}
use Rattle.std.specs.List.{All}
use Rattle.std.proofs.lemmas.List.Elements.{All-nil, All-cons}
use Rattle.pyd_value.specs.declared.fault.End.{End}
use Rattle.pyd_board.specs.declared.event.Act.TheVariants.{Lose}
use Rattle.pyd_board.specs.declared.event.Event.{Event}
use Rattle.pyd_board.specs.declared.history.Halt.{Halt}
use Rattle.pyd_board.specs.declared.history.History.{History}
use Rattle.pyd_board.specs.Histories.{AllBy, entries}
use Rattle.pyd_boards.specs.Calls.{GoesOnBy}
use Rattle.pyd_runs.specs.Effects.{State}
use Rattle.pyd_runs.specs.NextLosses.{due_after, due_losses, loses}
use Rattle.pyd_runs.specs.Replay.{IsLegal}
use Rattle.pyd_core.specs.declared.keeper.Core.{Core}
use Rattle.pyd_core.specs.Cores.{IsCore, plan_of}
use Rattle.pyd_core.specs.Facts.{NextLaw, may_come}
use Rattle.pyd_core.specs.Losing.{losses_by}
use Rattle.pyd_core.specs.Steps.{ComesBy}

-- the history of a core, with the faults that are kept and its halt
abbrev pub told : Core → List ℕ → Option Halt → History
told c faults halt =
    record { events = c.log.journal.items; sink_faults = faults; halted = halt }

-- what is true of each loss by a seat is true of all that the seat appends one after another
all_lost : (P : Event → Type 0) (seat : ℕ)
    → ((n machine : ℕ) → P (record { by = seat; nth = n; act = Lose machine }))
    → (n : ℕ) (machines : List ℕ) → All P (loses seat n machines)
all_lost P seat each n [] = All-nil P
all_lost P seat each n (machine ∷ machines) =
    All-cons P (record { by = seat; nth = n; act = Lose machine }) (loses seat (suc n) machines)
    (each n machine) (all_lost P seat each (suc n) machines)

-- so it is of those that are due
pub all_losses : (P : Event → Type 0) (seat : ℕ)
    → ((n machine : ℕ) → P (record { by = seat; nth = n; act = Lose machine })) → (s : State)
    → All P (losses_by seat s)
all_losses P seat each s = by_end s.graph.end
  where
    by_end : (end : Option End) → All P (cond (is_some end) [] (due_losses seat s))
    by_end (Some end) = All-nil P
    by_end None =
        all_lost P seat each (entries seat s.journal) (due_after (length s.journal) s.losses)

-- they are by the seat
pub by_seat : (seat : ℕ) (s : State) → AllBy seat (losses_by seat s)
by_seat seat s = all_losses (λ e. e.by ≡ seat) seat (λ n machine. refl) s

-- a core that comes by events has them behind the others in a legal run
pub legal_behind : (c d : Core) (es : List Event) → ComesBy c d es
    → IsLegal (plan_of c) (c.log.journal.items ++ es)
legal_behind c d es come =
    subst (IsLegal (plan_of c)) come.journal
    (subst (λ p. IsLegal p d.log.journal.items) come.plan come.core.legal)

-- what a history keeps beside its events stays
pub record IsStill (faults now : List ℕ) (halt then : Option Halt) : Type 0 where
  pub faults_stay : (run : ℕ) → Contains faults run → Contains now run
  pub halt_stays : (why : Halt) → halt ≡ Some why → then ≡ Some why

-- where nothing changes
pub same_still : (faults : List ℕ) (halt : Option Halt) → IsStill faults faults halt halt
same_still faults halt = record {
  faults_stay = λ run there. there;
  halt_stays = λ why is. is;
}

-- the history goes on by events of a seat
pub goes_on_by : NextLaw → (c d : Core) (seat : ℕ) (es : List Event) (faults now : List ℕ)
    (halt then : Option Halt) → IsCore c → ComesBy c d es → AllBy seat es
    → IsStill faults now halt then
    → GoesOnBy (may_come (plan_of c)) seat (told c faults halt) (told d now then)
goes_on_by laws c d seat es faults now halt then core come by still = record {
  extends = record {
    extends = record {
      events = (es, come.journal);
      sink_faults = still.faults_stay;
      halted = still.halt_stays;
    };
    alone = by;
  };
  next =
      (laws (plan_of c) c.log.journal.items es).next core.runnable (legal_behind c d es come);
}

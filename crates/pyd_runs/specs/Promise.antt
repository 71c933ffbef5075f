-- What a run is, and what is promised of it.
-- A run is a list of events, each of which may come in its turn; the state after it follows from the list alone.
use Rattle.std.specs.Prelude.{◌≡◌, ◌≤◌, ℕ, List, ◌∷◌, ◌++◌, length, None, Some}
use Rattle.std.specs.List.{Contains, count_by}
use Rattle.pyd_value.specs.declared.fault.End.{End}
use Rattle.pyd_board.specs.declared.event.Act.TheVariants.{Claim, Lose}
use Rattle.pyd_board.specs.declared.event.Event.{Event}
use Rattle.pyd_runs.specs.Plans.{Plan, meaning}
use Rattle.pyd_runs.specs.Effects.{first_state}
use Rattle.pyd_runs.specs.Replay.{IsLegal, replay}
use Rattle.pyd_runs.specs.Sound.{IsSound, IsWhole}
use Rattle.pyd_runs.specs.Laws.{IsRunnable, AreAtPlaces, GoesOn, settles}
use Rattle.pyd_runs.specs.Bounds.{AllAlong, InHeadOrder, event_bound}

-- what a script and a run over machines that are lost have to do with one another
pub record IsPromised (p : Plan) (es : List Event) : Type 0 where
  -- the lines that were put out are the first of the script's
  pub begun : (more : List (List ℕ)) × ((replay p es).graph.out ++ more ≡ (meaning p).lines)
  -- where the run has ended they are all of them, and it ended as the script does
  pub whole : (end : End) → (replay p es).graph.end ≡ Some end
      → IsWhole p (replay p es).graph.out end
  -- no node is settled twice
  pub once : (k : ℕ) → count_by (λ e. settles k e.act) es ≤ 1
  -- a node that is claimed again was claimed on a machine that was lost meanwhile
  pub again : (before between behind : List Event) (first second : Event) (k a b m n : ℕ)
      → es ≡ before ++ (first ∷ (between ++ (second ∷ behind)))
      → first.act ≡ Claim k a m → second.act ≡ Claim k b n
      → (e : Event) × Contains between e × (e.act ≡ Lose m)
  -- losses come exactly at the places of the script
  pub losses : AreAtPlaces p es
  -- where the run hasn't ended an event may come that is neither a Trim nor a Drop
  pub goes_on : (replay p es).graph.end ≡ None → GoesOn p (replay p es)
  -- where the head alone is refined, and nothing is dropped or trimmed, its events are few
  pub bounded : AllAlong InHeadOrder p (first_state p) es → length es ≤ event_bound p
  -- what is recorded, placed and claimed is right
  pub sound : IsSound p (replay p es)

-- so much is promised of every legal run
abbrev pub Promise : Type 0
Promise = (p : Plan) (es : List Event) → IsRunnable p → IsLegal p es → IsPromised p es

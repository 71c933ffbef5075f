-- Events keep what holds, so it holds after every legal run.
use Rattle.std.proofs.Common.{◌≡◌, ℕ, List, [], ◌∷◌, ◌++◌, Option, None, Some, refl, ◌∙◌}
use Rattle.std.proofs.lemmas.List.{append-nil}
use Rattle.pyd_value.specs.declared.fault.End.{End}
use Rattle.pyd_board.specs.declared.event.Act.{Act}
use Rattle.pyd_board.specs.declared.event.Act.TheVariants.{Place, Claim, Finish, Drop, Refine, Settle, Lose, Trim}
use Rattle.pyd_board.specs.declared.event.Event.{Event}
use Rattle.pyd_runs.specs.Plans.{Plan, limits_of, meaning}
use Rattle.pyd_runs.specs.Graphs.{Graph}
use Rattle.pyd_runs.specs.Effects.{State, first_state, acted, happens}
use Rattle.pyd_runs.specs.Enabled.{CanAct}
use Rattle.pyd_runs.specs.Replay.{after, replay, IsLegalFrom}
use Rattle.pyd_runs.specs.Sound.{IsSound, IsGraphSound}
use Rattle.pyd_runs.specs.Laws.{EventLaw, RunLaw, PrefixLaw, EndLaw}
use Rattle.pyd_runs.proofs.Claiming.{claim_keeps}
use Rattle.pyd_runs.proofs.Dropping.{drop_keeps}
use Rattle.pyd_runs.proofs.Finishing.{finish_keeps}
use Rattle.pyd_runs.proofs.Losing.{lose_keeps}
use Rattle.pyd_runs.proofs.Settling.{settle_keeps}
use Rattle.pyd_runs.proofs.Ticketing.{place_keeps}
use Rattle.pyd_runs.proofs.Trimming.{trim_keeps}
use Rattle.pyd_translate.specs.Walk.{walk}
use Rattle.pyd_runs.proofs.Starting.{starts}
use Rattle.pyd_runs.proofs.Refined.{refine_keeps}

-- what a seat may do keeps what holds
pub act_keeps : (p : Plan) (s : State) (seat : ℕ) (act : Act) → IsSound p s
    → CanAct p s seat act → IsSound p (acted p s seat act)
act_keeps p s seat (Place k a m) sound can = place_keeps p s seat k a m sound can.1
act_keeps p s seat (Claim k a m) sound can = claim_keeps p s seat k a m sound can.1
act_keeps p s seat (Finish k a m) sound can = finish_keeps p s seat k a m sound can.1
act_keeps p s seat (Drop k a m) sound can = drop_keeps p s seat k a m sound
act_keeps p s seat (Refine k) sound can =
    refine_keeps p s seat k sound can.0.goes_on can.1
act_keeps p s seat (Settle k) sound can = settle_keeps p s seat k sound can.0.goes_on can.1
act_keeps p s seat (Lose m) sound can = lose_keeps p s seat m sound can
act_keeps p s seat (Trim k) sound can = trim_keeps p s seat k sound can.1

-- so does each event
pub event_keeps : EventLaw
unfolding happens
event_keeps p s e sound enabled =
    let k = act_keeps p s e.by e.act sound enabled.act in
    record {
      graph = k.graph;
      desk = k.desk;
      attempts = k.attempts;
      scripted = k.scripted;
      survivor = k.survivor;
    }

-- and all events in turn
pub runs_on : (p : Plan) (s : State) (es : List Event) → IsSound p s → IsLegalFrom p s es
    → IsSound p (after p s es)
unfolding after IsLegalFrom
runs_on p s [] sound legal = sound
runs_on p s (e ∷ es) sound legal =
    runs_on p (happens p s e) es (event_keeps p s e sound legal.0) legal.1

-- the state after a legal run is sound
pub run_keeps : RunLaw
run_keeps p es runnable legal = runs_on p (first_state p) es (starts p runnable) legal

-- what was put out is a beginning of the script's lines
begun : (p : Plan) (g : Graph) → IsGraphSound p g → (end : Option End) → g.end ≡ end
    → (more : List (List ℕ)) × (g.out ++ more ≡ (meaning p).lines)
begun p g sound None is =
    ((walk p.file (limits_of p) g.chain g.given).lines, (sound.goes_on is).lines)
begun p g sound (Some end) is = ([], append-nil g.out ∙ (sound.ended end is).lines)

pub prefix_keeps : PrefixLaw
prefix_keeps p es runnable legal =
    let g = (replay p es).graph in
    begun p g (run_keeps p es runnable legal).graph g.end refl

-- at the end it is all of them
pub end_keeps : EndLaw
end_keeps p es end runnable legal is = (run_keeps p es runnable legal).graph.ended end is

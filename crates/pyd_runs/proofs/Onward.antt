-- How many events may come yet in head order, whatever came before.
use Rattle.std.proofs.Common.{◌≡◌, ◌≤◌, ℕ, suc, ◌+◌, ◌*◌, List, [], ◌∷◌, length, refl, arith}
use Rattle.std.proofs.lemmas.Nat.{mul-le}
use Rattle.pyd_board.specs.declared.event.Event.{Event}
use Rattle.pyd_translate.specs.Counts.{file_items}
use Rattle.pyd_translate.specs.Nested.{AreNested}
use Rattle.pyd_runs.specs.Plans.{Plan}
use Rattle.pyd_runs.specs.Effects.{State, first_state, happens}
use Rattle.pyd_runs.specs.Replay.{IsLegal, IsLegalFrom, after, replay}
use Rattle.pyd_runs.specs.Sound.{IsSound}
use Rattle.pyd_runs.specs.Bounds.{AllAlong, InHeadOrder, OnwardBound, most_nodes, onward_bound, steps_left}
use Rattle.pyd_runs.proofs.Counting.{all_kinds, level, level_most, losing, lost_so_far, order_heads, total_most, worked, working}
use Rattle.pyd_runs.proofs.Made.{event_makes, first_nested, run_makes}
use Rattle.pyd_runs.proofs.Named.{AreMade, none_made, run_made}
use Rattle.pyd_runs.proofs.Running.{event_keeps, run_keeps}
use Rattle.pyd_runs.proofs.Starting.{starts}
use Rattle.pyd_runs.proofs.Stepping.{bounded_at, events_bound, taken}

-- the chain stays nested
run_nested : (p : Plan) (s : State) (es : List Event) → IsSound p s → IsLegalFrom p s es
    → AreNested p.file s.graph.chain → AreNested p.file (after p s es).graph.chain
unfolding IsLegalFrom after
run_nested p s [] sound legal nested = nested
run_nested p s (e ∷ es) sound legal nested =
    run_nested p (happens p s e) es (event_keeps p s e sound legal.0) legal.1
    (event_makes p s e sound legal.0.act nested).nested

-- the numbers alone: steps, nodes, losses and events
few_onward : (items steps advanced losses lost next behind all works count : ℕ)
    → advanced ≤ steps → lost ≤ losses
    → behind ≤ next + 3 * (advanced * suc items)
    → all ≡ next + 3 * (steps * suc items)
    → (behind ≤ all → works ≤ 3 * all + 3 * (lost * all)) → count ≡ advanced + (lost + works)
    → count ≤ steps + losses + 3 * (suc losses * all)
few_onward items steps advanced losses lost next behind all works count few less made is served kinds =
    let most : advanced * suc items ≤ steps * suc items =
    mul-le advanced (suc items) steps (suc items) few (omega arith) in
    let below : behind ≤ all = omega (arith, made, most, is) in
    let work = served below in
    let more : suc lost * all ≤ suc losses * all =
    mul-le (suc lost) all (suc losses) all (omega (arith, less)) (omega arith) in
    let parts : suc lost * all ≡ all + lost * all = omega arith in
    omega (arith, few, less, work, more, parts, kinds)

module _ (p : Plan) (s : State) (more : List Event) (sound : IsSound p s) (made : AreMade s)
    (nested : AreNested p.file s.graph.chain) (legal : IsLegalFrom p s more)
    (order : AllAlong InHeadOrder p s more) where
  -- so many come from a sound state on
  few_from : length more ≤ onward_bound p s
  few_from =
      few_onward (file_items p.file) (steps_left p s) (taken more) (length s.losses) (losing more)
      s.graph.next (after p s more).graph.next (most_nodes p s) (working more) (length more)
      (bounded_at p s.graph (taken more)
      (events_bound p s more sound (order_heads p s more order) legal))
      (lost_so_far p s more legal)
      (run_makes p s more sound legal nested)
      refl
      (λ below.
      let some = worked p s more (most_nodes p s) sound made legal order below in
      let each = total_most (level s) (most_nodes p s) (λ k. level_most _ _ _) in
      omega (arith, some, each))
      (all_kinds p s more order)

-- the law
pub onward_bounded : OnwardBound
onward_bounded p es more runnable legal on order =
    few_from p (replay p es) more (run_keeps p es runnable legal)
    (run_made p (first_state p) es (starts p runnable) (none_made p) legal)
    (run_nested p (first_state p) es (starts p runnable) legal (first_nested p)) on order

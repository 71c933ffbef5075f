-- A core once a machine is lost that is due.
use Rattle.std.proofs.Common.{◌≡◌, ◌<◌, ◌≤◌, ◌+◌, ◌*◌, ◌-◌, ℕ, suc, List, [], ◌∷◌, ◌++◌, drop, length, length-append, Some, vec_capacity, ap, sym, subst, ◌∙◌, arith}
use Rattle.std.specs.List.{All, Contains}
use Rattle.std.proofs.lemmas.List.{drop-drop, length-drop, take-append-drop}
use Rattle.std.proofs.lemmas.List.Elements.{All-contains_itself, All-drop, All-weaker}
use Rattle.pyd_board.specs.declared.event.Act.TheVariants.{Lose}
use Rattle.pyd_board.specs.declared.setup.Loss.{Loss}
use Rattle.pyd_boards.specs.Boards.{entry}
use Rattle.pyd_ir.specs.declared.node.Node.{Node}
use Rattle.pyd_runs.specs.Effects.{acted, lost_with}
use Rattle.pyd_runs.specs.Enabled.{CanLose, due}
use Rattle.pyd_runs.specs.Following.{JournalLaw, StepLaw}
use Rattle.pyd_runs.specs.Graphs.{nodes}
use Rattle.pyd_runs.specs.Laws.{RunLaw}
use Rattle.pyd_runs.specs.Losses.{due_at}
use Rattle.pyd_runs.specs.Plans.{IsSeat}
use Rattle.pyd_runs.specs.Sound.{IsSound}
use Rattle.pyd_runs.proofs.Named.{node_below}
use Rattle.pyd_desk.specs.Lines.{past_of}
use Rattle.pyd_desk.specs.States.{HasSameMachines, IsStateOf}
use Rattle.pyd_core.specs.declared.keeper.Core.{Core}
use Rattle.pyd_core.specs.Cores.{HasPlaces, IsCore, IsTied, plan_of, state_of}
use Rattle.pyd_core.specs.Log.{IsCounted}
use Rattle.pyd_core.specs.Steps.{KeepsRoom, Makes}
use Rattle.pyd_core.proofs.Scripted.{due_holds, due_within}
use Rattle.pyd_core.proofs.Stepped.{makes}

module _ (run : RunLaw) (c : Core) (core : IsCore c) where
  -- its state is sound
  pub is_sound : IsSound (plan_of c) (state_of c)
  is_sound = run (plan_of c) c.log.journal.items core.runnable core.legal

  -- its nodes are those of the line
  all_nodes : nodes (state_of c).graph ≡ c.line.nodes.items
  all_nodes =
      let g = core.tied.state.graph in
      ap (λ xs. xs ++ (state_of c).graph.chain) g.past ∙ ap (λ xs. past_of c.line ++ xs) g.chain
      ∙ take-append-drop c.line.settled c.line.nodes.items

  -- each of its nodes has a mark
  pub have_marks : All (λ (n : Node). n.id < length c.desk.marks.items) c.line.nodes.items
  have_marks =
      let is = core.tied.state in
      let g = (state_of c).graph in
      All-weaker (Contains c.line.nodes.items) (λ (n : Node). n.id < length c.desk.marks.items)
      (λ n there. subst (λ k. n.id < k) (sym is.marks)
      (node_below (plan_of c) g n is_sound.graph
      (subst (λ (ns : List Node). Contains ns n) (sym all_nodes) there)))
      c.line.nodes.items (All-contains_itself c.line.nodes.items)

module _ (c : Core) (machine : ℕ) (core : IsCore c)
    (is_due : due (state_of c) ≡ Some machine) where
  -- the entry that is due is the next one
  in_script : due_at (length (state_of c).journal) (drop c.lost c.setup.losses) ≡ Some machine
  in_script = sym (ap (due_at (length (state_of c).journal)) core.tied.losses) ∙ is_due

  -- it is in the script
  pub next_within : c.lost < length c.setup.losses
  next_within = due_within (length (state_of c).journal) c.lost machine c.setup.losses in_script

  -- its machine has a place
  machine_there : machine < c.setup.machines
  machine_there =
      due_holds (λ m. m < c.setup.machines) (length (state_of c).journal) machine
      (drop c.lost c.setup.losses) in_script
      (All-drop (λ (l : Loss). l.machine < c.setup.machines) c.lost c.setup.losses
      core.runnable.machines)

  pub store_there : machine < length c.desk.stores.items
  store_there = subst (λ k. machine < k) (sym core.places.stores) machine_there

  pub life_there : machine < length c.desk.alive.items
  life_there = subst (λ k. machine < k) (sym core.places.alive) machine_there

  -- there is room for an entry
  pub room_there : length c.log.journal.items < vec_capacity c.log.journal
  room_there =
      let room = core.room in
      let within = next_within in
      let left = length-drop c.lost c.setup.losses in
      omega (arith, room, within, left)

-- a seat has a place
pub seat_there : (c : Core) (seat : ℕ) → IsCore c → IsSeat (plan_of c) seat
    → seat < length c.log.counts.items
seat_there c seat core is =
    let seats = core.places.seats in
    omega (arith, seats, is)

-- with each loss the end of the script is nearer
pub is_nearer : (c d : Core) → plan_of d ≡ plan_of c → d.lost ≡ suc c.lost
    → c.lost < length c.setup.losses
    → length d.setup.losses - d.lost < length c.setup.losses - c.lost
is_nearer c d plan lost within =
    let all : length d.setup.losses ≡ length c.setup.losses
    = ap (λ p. length p.setup.losses) plan in
    omega (arith, lost, within, all)

-- a core with the entry of a loss, and all else but its desk and the losses to come as before
pub record HasLostOne (c d : Core) (seat machine : ℕ) : Type 0 where
  pub plan : plan_of d ≡ plan_of c
  pub line : d.line ≡ c.line
  pub end : d.end ≡ c.end
  pub lost : d.lost ≡ suc c.lost
  pub journal : d.log.journal.items
      ≡ c.log.journal.items ++ entry c.log.journal.items seat (Lose machine) ∷ []
  pub counted : IsCounted d.log
  pub seats : length d.log.counts.items ≡ length c.log.counts.items
  pub capacity : vec_capacity d.log.journal ≡ vec_capacity c.log.journal
  pub machines : HasSameMachines c.desk d.desk

module _ (c d : Core) (seat machine : ℕ) (has : HasLostOne c d seat machine) where
  -- the losses to come are one fewer
  left : drop 1 (drop c.lost c.setup.losses) ≡ drop d.lost d.setup.losses
  left =
      let lost = has.lost in
      let next : c.lost + 1 ≡ d.lost = omega (arith, lost) in
      drop-drop 1 c.lost c.setup.losses ∙ ap (λ i. drop i c.setup.losses) next
      ∙ ap (λ p. drop d.lost p.setup.losses) (sym has.plan)

  -- no more room is used than was kept for the loss
  pub room_kept : c.lost < length c.setup.losses → KeepsRoom c d
  room_kept within n room =
      let entries = ap length has.journal
      ∙ length-append c.log.journal.items (entry c.log.journal.items seat (Lose machine) ∷ []) in
      let before = length-drop c.lost c.setup.losses in
      let behind = ap length (sym left) ∙ length-drop 1 (drop c.lost c.setup.losses) in
      let capacity = has.capacity in
      omega (arith, room, entries, before, behind, capacity, within)

  -- the places are there still
  places_kept : HasPlaces c → HasPlaces d
  places_kept places = record {
    settled = subst (λ line. line.settled ≤ length line.nodes.items) (sym has.line) places.settled;
    stores = has.machines.stores ∙ places.stores ∙ ap (λ p. p.setup.machines) (sym has.plan);
    alive = has.machines.alive ∙ places.alive ∙ ap (λ p. p.setup.machines) (sym has.plan);
    seats = has.seats ∙ places.seats
        ∙ ap (λ p. suc (p.setup.machines * p.setup.workers)) (sym has.plan);
  }

  -- it keeps what the state has then
  tied_then : IsTied c (state_of c) → IsStateOf c.line d.desk (lost_with (state_of c) machine)
      → IsTied d (acted (plan_of c) (state_of c) seat (Lose machine))
  unfolding acted
  tied_then tied state = record {
    state = subst (λ line. IsStateOf line d.desk (lost_with (state_of c) machine)) (sym has.line)
        state;
    end = tied.end ∙ sym has.end;
    losses = ap (drop 1) tied.losses ∙ left;
  }

  -- it is a core then
  pub loses_one : StepLaw → JournalLaw → IsCore c → IsSeat (plan_of c) seat
      → CanLose (state_of c) seat machine
      → IsStateOf c.line d.desk (lost_with (state_of c) machine)
      → Makes c d seat (Lose machine)
  loses_one step journal core seated can state =
      makes step journal c d seat (Lose machine) core seated can (record {
        plan = has.plan;
        journal = has.journal;
        tied = tied_then core.tied state;
        places = places_kept core.places;
        counted = has.counted;
        room = room_kept (next_within c machine core can.is_due) 0 core.room;
      })

-- A core once a past node is trimmed.
use Rattle.std.proofs.Common.{◌≡◌, ◌<◌, ◌≤◌, ◌*◌, ℕ, zero, suc, List, [], ◌∷◌, ◌++◌, cond, drop, length, length-append, Some, vec_capacity, ap, sym, subst, ◌∙◌, arith}
use Rattle.std.specs.List.{slice_get}
use Rattle.std.proofs.lemmas.List.{drop_all, length-take-le}
use Rattle.std.proofs.lemmas.Option.{slice_get_past}
use Rattle.pyd_board.specs.declared.event.Act.TheVariants.{Trim}
use Rattle.pyd_boards.specs.Boards.{entry}
use Rattle.pyd_ir.specs.declared.node.Node.{Node}
use Rattle.pyd_runs.specs.Effects.{State, acted, trimmed}
use Rattle.pyd_runs.specs.Enabled.{CanTrim, IsQuiet}
use Rattle.pyd_runs.specs.Following.{JournalLaw, StepLaw}
use Rattle.pyd_runs.specs.Laws.{RunLaw}
use Rattle.pyd_runs.specs.Plans.{IsSeat, Plan}
use Rattle.pyd_runs.specs.Records.{node_at}
use Rattle.pyd_runs.specs.Sound.{IsSound}
use Rattle.pyd_runs.proofs.Putting.{same_test}
use Rattle.pyd_runs.proofs.Standing.{node_found, past_apart}
use Rattle.pyd_desk.specs.declared.desk.Desk.{Desk}
use Rattle.pyd_desk.specs.declared.line.Line.{Line}
use Rattle.pyd_desk.specs.Lines.{past_of}
use Rattle.pyd_desk.specs.States.{HasSameMachines, IsStateOf}
use Rattle.pyd_desk.specs.Trimming.{IsTrimmed}
use Rattle.pyd_core.specs.declared.keeper.Core.{Core}
use Rattle.pyd_core.specs.Cores.{HasRoom, IsCore, IsTied, plan_of, state_of}
use Rattle.pyd_core.specs.Log.{IsCounted}
use Rattle.pyd_core.specs.Steps.{Makes, UsesRoom}
use Rattle.pyd_core.proofs.Lost.{is_sound}
use Rattle.pyd_core.proofs.Stepped.{makes}

-- a place at which something stands is within the list
within_list : {A : Type 0} (xs : List A) (at : ℕ) (x : A) → slice_get xs at ≡ Some x
    → at < length xs
within_list [] at x e = absurd (cc (e))
within_list (y ∷ xs) zero x e = omega arith
within_list (y ∷ xs) (suc at) x e =
    let more = within_list xs at x e in omega (arith, more)

-- where a number isn't that of any node, its place is behind all
pub place_past : (ns : List Node) (k i : ℕ) → length ns ≤ i
    → node_at (drop i ns) k ≡ node_at ns k → slice_get ns i ≡ node_at ns k
place_past ns k i past none =
    slice_get_past ns i past ∙ sym (ap (λ xs. node_at xs k) (drop_all i ns past)) ∙ none

-- the first node of a number at its place
pub place_found : (ns : List Node) (k i : ℕ) (n : Node) → slice_get ns i ≡ Some n → n.id ≡ k
    → node_at (drop i ns) k ≡ node_at ns k → slice_get ns i ≡ node_at ns k
place_found ns k i n there is first =
    there
    ∙ sym (ap (λ xs. node_at xs k) (at_place ns i n there)
    ∙ ap (λ b. cond b (Some n) (node_at (drop (suc i) ns) k)) (same_test n.id k is))
    ∙ first
  where
    at_place : (xs : List Node) (j : ℕ) (x : Node) → slice_get xs j ≡ Some x
        → drop j xs ≡ x ∷ drop (suc j) xs
    at_place [] j x e = absurd (cc (e))
    at_place (y ∷ xs) zero x e = let z : y ≡ x = cc (e) in ap (λ w. w ∷ xs) z
    at_place (y ∷ xs) (suc j) x e = at_place xs j x e

-- a seat may trim a node
pub record IsTrimming (c : Core) (seat k : ℕ) : Type 0 where
  pub core : IsCore c
  pub quiet : IsQuiet (state_of c)
  pub seated : IsSeat (plan_of c) seat
  pub room : HasRoom 1 c
  pub may : CanTrim (state_of c) k

-- a core with one entry more, and all else but its line and its desk as before
pub record HasTrimmed (c d : Core) (seat k : ℕ) : Type 0 where
  pub plan : plan_of d ≡ plan_of c
  pub lost : d.lost ≡ c.lost
  pub end : d.end ≡ c.end
  pub journal : d.log.journal.items
      ≡ c.log.journal.items ++ entry c.log.journal.items seat (Trim k) ∷ []
  pub counted : IsCounted d.log
  pub seats : length d.log.counts.items ≡ length c.log.counts.items
  pub capacity : vec_capacity d.log.journal ≡ vec_capacity c.log.journal
  pub machines : HasSameMachines c.desk d.desk
  pub settled : d.line.settled ≤ length d.line.nodes.items

-- room for one entry is used then
pub room_of_trim : (c d : Core) (seat k : ℕ) → HasTrimmed c d seat k → UsesRoom c d
room_of_trim c d seat k has n room =
    let entries = ap length has.journal
    ∙ length-append c.log.journal.items (entry c.log.journal.items seat (Trim k) ∷ []) in
    let losses : length (drop d.lost d.setup.losses) ≡ length (drop c.lost c.setup.losses)
    = ap (λ i. length (drop i d.setup.losses)) has.lost
    ∙ ap (λ (p : Plan). length (drop c.lost p.setup.losses)) has.plan in
    let capacity = has.capacity in
    omega (arith, room, entries, losses, capacity)

module _ (run : RunLaw) (c : Core) (seat k : ℕ) (is : IsTrimming c seat k) where
  abbrev s : State
  s = state_of c

  sound : IsSound (plan_of c) (state_of c)
  sound = is_sound run c is.core

  module _ (at : ℕ) (first : slice_get (past_of c.line) at ≡ node_at (past_of c.line) k) where
    -- the node stands at its place
    node_there : slice_get (past_of c.line) at ≡ Some is.may.node
    node_there =
        first ∙ ap (node_at (past_of c.line)) (sym is.may.number)
        ∙ subst (λ (ns : List Node). node_at ns is.may.node.id ≡ Some is.may.node)
        is.core.tied.state.graph.past
        (node_found s.graph.past is.may.node (past_apart s.graph.past sound.graph.ordered)
        is.may.stands)

    -- which is one of the past
    pub place_there : at < c.line.settled
    place_there =
        let low = within_list (past_of c.line) at is.may.node node_there in
        let len : length (past_of c.line) ≡ c.line.settled
        = length-take-le c.line.settled c.line.nodes.items is.core.places.settled in
        omega (arith, low, len)

    -- what is kept is that of the state without the node
    state_then : (line : Line) (e : Desk) → IsTrimmed c.line c.desk at line e
        → IsStateOf line e (acted (plan_of c) s seat (Trim k))
    state_then line e is_trimmed =
        subst (λ j. IsStateOf line e (acted (plan_of c) s seat (Trim j))) is.may.number
        (is_trimmed (plan_of c) s seat is.may.node sound is.core.tied.state node_there)

    tied_then : (d : Core) → HasTrimmed c d seat k → IsTrimmed c.line c.desk at d.line d.desk
        → IsTied d (acted (plan_of c) s seat (Trim k))
    unfolding acted trimmed
    tied_then d has is_trimmed = record {
      state = state_then d.line d.desk is_trimmed;
      end = is.core.tied.end ∙ sym has.end;
      losses = is.core.tied.losses ∙ ap (λ i. drop i c.setup.losses) (sym has.lost)
          ∙ ap (λ (p : Plan). drop d.lost p.setup.losses) (sym has.plan);
    }

    -- a core without the node
    pub makes_trim : StepLaw → JournalLaw → (d : Core) → HasTrimmed c d seat k
        → IsTrimmed c.line c.desk at d.line d.desk → Makes c d seat (Trim k)
    makes_trim step journal d has is_trimmed =
        makes step journal c d seat (Trim k) is.core is.seated (is.quiet, is.may) (record {
          plan = has.plan;
          journal = has.journal;
          tied = tied_then d has is_trimmed;
          places = record {
            settled = has.settled;
            stores = has.machines.stores ∙ is.core.places.stores
                ∙ ap (λ (p : Plan). p.setup.machines) (sym has.plan);
            alive = has.machines.alive ∙ is.core.places.alive
                ∙ ap (λ (p : Plan). p.setup.machines) (sym has.plan);
            seats = has.seats ∙ is.core.places.seats
                ∙ ap (λ (p : Plan). suc (p.setup.machines * p.setup.workers)) (sym has.plan);
          };
          counted = has.counted;
          room = room_of_trim c d seat k has 0 is.room;
        })

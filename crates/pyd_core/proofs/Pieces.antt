-- A core once a piece stands in the place of a composite.
use Rattle.std.proofs.Common.{◌≡◌, ◌<◌, ◌≤◌, ◌+◌, ◌*◌, ℕ, zero, suc, List, [], ◌∷◌, ◌++◌, drop, take, get_or, length, length-append, append-nil, Option, Some, None, option_map, Result, Ok, Err, IfOk, OnOk, OnErr, vec_capacity, refl, ap, sym, subst, ◌∙◌, arith}
use Rattle.std.specs.List.{slice_get}
use Rattle.std.proofs.lemmas.List.{length-drop}
use Rattle.pyd_board.specs.declared.event.Act.TheVariants.{Refine}
use Rattle.pyd_board.specs.declared.event.Event.{Event}
use Rattle.pyd_boards.specs.Boards.{entry}
use Rattle.pyd_value.specs.declared.memory.NoMemory.{NoMemory}
use Rattle.pyd_ir.specs.declared.node.Node.{Node}
use Rattle.pyd_ir.specs.Inputs.{Given}
use Rattle.pyd_translate.specs.declared.piece.Piece.{Piece}
use Rattle.pyd_runs.specs.Effects.{State, acted}
use Rattle.pyd_runs.specs.Enabled.{CanRefine, IsQuiet}
use Rattle.pyd_runs.specs.Following.{JournalLaw, StepLaw}
use Rattle.pyd_runs.specs.Graphs.{Graph, end_at}
use Rattle.pyd_runs.specs.Growth.{grown, grown_by, piece_for}
use Rattle.pyd_runs.specs.Laws.{RunLaw}
use Rattle.pyd_runs.specs.Plans.{IsSeat, Plan}
use Rattle.pyd_runs.specs.Records.{node_at, recorded}
use Rattle.pyd_runs.specs.Replay.{replay}
use Rattle.pyd_runs.specs.Sound.{IsSound, is_over}
use Rattle.pyd_runs.proofs.Standing.{list_apart, node_found}
use Rattle.pyd_desk.specs.declared.desk.Desk.{Desk}
use Rattle.pyd_desk.specs.declared.line.Line.{Line}
use Rattle.pyd_desk.specs.Desks.{claim_by, is_lost, kept_in, mark_at, placed_of, undone_by, undone_in}
use Rattle.pyd_desk.specs.Growing.{IsRefined}
use Rattle.pyd_desk.specs.Lines.{TellsPorts, chain_of}
use Rattle.pyd_desk.specs.Reading.{given_of}
use Rattle.pyd_desk.specs.States.{HasSameMachines, IsSameDesk, IsSameLine, IsStateOf}
use Rattle.pyd_desk.proofs.Standing.{recorded_is}
use Rattle.pyd_core.specs.declared.keeper.Core.{Core}
use Rattle.pyd_core.specs.Cores.{HasRoom, IsCore, IsTied, plan_of, state_of}
use Rattle.pyd_core.specs.Log.{IsCounted}
use Rattle.pyd_core.specs.Refining.{IsPieceAt, IsRefinableAt, RefinesAt}
use Rattle.pyd_core.specs.Steps.{ComesBy, Makes, Stays}
use Rattle.pyd_core.proofs.Stepped.{makes, stays}

-- what holds anyway holds where there is an error
pub at_error : {T E : Type 0} (r : Result T E) (Q : Type 0) → Q → OnErr r Q
at_error (Ok x) Q q = tt
at_error (Err e) Q q = q

-- a place at which a list has something lies within it
pub place_within : {A : Type 0} (xs : List A) (at : ℕ) (x : A) → slice_get xs at ≡ Some x
    → at < length xs
place_within [] at x e = absurd (cc (e))
place_within (y ∷ xs) zero x e = omega arith
place_within (y ∷ xs) (suc at) x e = let r = place_within xs at x e in omega (arith, r)

-- behind the settled nodes too
pub place_in_line : (c : Core) (at : ℕ) → IsRefinableAt c at
    → c.line.settled + at < length c.line.nodes.items
place_in_line c at is =
    let within = place_within (chain_of c.line) at is.node is.there in
    let count = length-drop c.line.settled c.line.nodes.items in
    omega (arith, within, count)

-- what is recorded stands at the ports
pub recorded_here : (c : Core) → IsCore c
    → recorded (state_of c).graph (state_of c).desk.stores ≡ given_of c.desk
recorded_here c core =
    let is = core.tied.state in
    ap (λ d. recorded (state_of c).graph d.stores) is.desk
    ∙ recorded_is c.line c.desk (state_of c).graph is.graph

-- a piece by what stands at the ports is that by what is recorded
pub piece_here : (c : Core) (n : Node) (piece : Piece) → IsCore c
    → piece ≡ piece_for (plan_of c) (given_of c.desk) (length c.desk.marks.items) n
    → piece ≡ piece_for (plan_of c)
    (recorded (state_of c).graph (state_of c).desk.stores) (state_of c).graph.next n
piece_here c n piece core e =
    let is = core.tied.state in
    let g = (state_of c).graph in
    e ∙ ap (λ next. piece_for (plan_of c) (given_of c.desk) next n) is.marks
    ∙ ap (λ (given : Given). piece_for (plan_of c) given g.next n) (sym (recorded_here c core))

-- so it is that of the node at a place
pub piece_ok : (c : Core) (at : ℕ) (r : Result Piece NoMemory) (m : Node) → IsCore c
    → ((n : Node) → slice_get (chain_of c.line) at ≡ Some n → m ≡ n)
    → IfOk r (λ piece. piece
    ≡ piece_for (plan_of c) (given_of c.desk) (length c.desk.marks.items) m)
    → IfOk r (λ piece. IsPieceAt c at piece)
piece_ok c at (Ok piece) m core same e = λ n there.
    piece_here c n piece core
    (e ∙ ap (piece_for (plan_of c) (given_of c.desk) (length c.desk.marks.items)) (same n there))
piece_ok c at (Err none) m core same e = tt

-- line and desk stay those of a state where only room changes
pub state_still : (old new : Line) (d e : Desk) (s : State) → IsSameLine old new
    → IsSameDesk d e → IsStateOf old d s → IsStateOf new e s
state_still old new d e s line desk is =
    let settled : old.settled ≡ new.settled = sym line.settled in
    let nodes : old.nodes.items ≡ new.nodes.items = sym line.nodes in
    let marks : d.marks.items ≡ e.marks.items = sym desk.marks in
    let driver : d.driver.items ≡ e.driver.items = sym desk.driver in
    let stores : d.stores.items ≡ e.stores.items = sym desk.stores in
    let undone : d.undone.items ≡ e.undone.items = sym desk.undone in
    let alive : d.alive.items ≡ e.alive.items = sym (ap (λ v. v.items) desk.alive) in record {
      graph = record {
        past = is.graph.past ∙ (λ i. take (settled i) (nodes i));
        chain = is.graph.chain ∙ (λ i. drop (settled i) (nodes i));
        driver = is.graph.driver ∙ (λ i k. get_or (driver i) k None);
        ports = subst (λ ns. TellsPorts ns e.marks.items) (sym line.nodes)
            (subst (TellsPorts old.nodes.items) (sym desk.marks) is.graph.ports);
      };
      desk = is.desk ∙ (λ i. record {
        stores = λ k. kept_in (stores i) k (mark_at (marks i) k).machine;
        places = λ k. (mark_at (marks i) k).places;
        ticket = λ k. option_map placed_of (mark_at (marks i) k).ticket;
        claim = λ k. claim_by (alive i) (mark_at (marks i) k).claim;
        undone = λ k attempt. undone_by (alive i) attempt (mark_at (marks i) k).claim
            (undone_in (undone i) k attempt);
      });
      lost = is.lost ∙ sym (ap (λ x. is_lost x.items) desk.alive);
      marks = ap length desk.marks ∙ is.marks;
      driver = ap length desk.driver ∙ is.driver;
    }

-- a core whose line and desk have changed in their room alone
pub stays_reserved : (c : Core) (line : Line) (desk : Desk) → IsCore c → IsSameLine c.line line
    → IsSameDesk c.desk desk → HasSameMachines c.desk desk
    → Stays c (record c { line = line; desk = desk })
stays_reserved c line desk core same still machines =
    stays c (record c { line = line; desk = desk }) core (record {
      plan = refl;
      journal = refl;
      tied = record {
        state = state_still c.line line c.desk desk (state_of c) same still core.tied.state;
        end = core.tied.end;
        losses = core.tied.losses;
      };
      places = record {
        settled = subst (λ ns. line.settled ≤ length ns) (sym same.nodes)
            (subst (λ k. k ≤ length c.line.nodes.items) (sym same.settled) core.places.settled);
        stores = machines.stores ∙ core.places.stores;
        alive = machines.alive ∙ core.places.alive;
        seats = core.places.seats;
      };
      counted = core.counted;
      room = core.room;
    })

-- a core in which nothing has changed
pub stays_whole : (c : Core) → IsCore c → Stays c c
stays_whole c core = stays c c core (record {
  plan = refl;
  journal = refl;
  tied = core.tied;
  places = core.places;
  counted = core.counted;
  room = core.room;
})

-- a graph that has grown ends where no node is left
ends_grown : (p : Plan) (given : Given) (g : Graph) (k : ℕ) (n : Node) (o : Option Node)
    → o ≡ Some n → (grown_by p given g k o).end ≡ end_at (grown_by p given g k o).chain
ends_grown p given g k n o e =
    subst (λ o. (grown_by p given g k o).end ≡ end_at (grown_by p given g k o).chain) (sym e) refl

pub refined_end : (p : Plan) (s : State) (seat k : ℕ) → IsSound p s → CanRefine p s k
    → (acted p s seat (Refine k)).graph.end ≡ end_at (acted p s seat (Refine k)).graph.chain
unfolding acted grown
refined_end p s seat k sound can =
    let g = s.graph in
    let apart = list_apart (is_over g) g.next g.chain sound.graph.listed in
    ends_grown p (recorded g s.desk.stores) g k can.node (node_at g.chain k)
    (subst (λ i. node_at g.chain i ≡ Some can.node) can.number
    (node_found g.chain can.node apart can.stands))

refined_losses : (p : Plan) (s : State) (seat k : ℕ)
    → (acted p s seat (Refine k)).losses ≡ s.losses
unfolding acted
refined_losses p s seat k = refl

-- a core with a grown line and one entry more
pub record HasRefined (c d : Core) (seat at k : ℕ) (x : Piece) : Type 0 where
  pub program : d.program ≡ c.program
  pub setup : d.setup ≡ c.setup
  pub lost : d.lost ≡ c.lost
  pub end : d.end ≡ end_at (chain_of d.line)
  pub number : (n : Node) → slice_get (chain_of c.line) at ≡ Some n → k ≡ n.id
  pub piece : IsPieceAt c at x
  pub refined : IsRefined c.line c.desk at x d.line d.desk
  pub settled : d.line.settled ≤ length d.line.nodes.items
  pub machines : HasSameMachines c.desk d.desk
  pub journal : d.log.journal.items
      ≡ c.log.journal.items ++ entry c.log.journal.items seat (Refine k) ∷ []
  pub counted : IsCounted d.log
  pub seats : length d.log.counts.items ≡ length c.log.counts.items
  pub capacity : vec_capacity d.log.journal ≡ vec_capacity c.log.journal

-- a seat may refine the node at a place
pub record IsRefining (c : Core) (by at : ℕ) : Type 0 where
  pub core : IsCore c
  pub room : HasRoom 1 c
  pub quiet : IsQuiet (state_of c)
  pub seat : IsSeat (plan_of c) by
  pub may : IsRefinableAt c at

-- there is room for its entry, and the seat has a place
pub entry_fits : (c : Core) (seat at : ℕ) → IsRefining c seat at
    → length c.log.journal.items < vec_capacity c.log.journal
entry_fits c seat at is = let room = is.room in omega (arith, room)

pub seat_fits : (c : Core) (seat at : ℕ) → IsRefining c seat at
    → seat < length c.log.counts.items
seat_fits c seat at is =
    let seats = is.core.places.seats in
    let low = is.seat in
    omega (arith, seats, low)

module _ (run : RunLaw) (step : StepLaw) (journal : JournalLaw) (c d : Core)
    (seat at number : ℕ) (piece : Piece) (is : IsRefining c seat at)
    (has : HasRefined c d seat at number piece) where
  abbrev n : Node
  n = is.may.node

  abbrev s : State
  s = state_of c

  sound : IsSound (plan_of c) s
  sound = run (plan_of c) c.log.journal.items is.core.runnable is.core.legal

  same_plan : plan_of d ≡ plan_of c
  same_plan = λ i. record { file = (has.program i).file; setup = has.setup i }

  state_then : IsStateOf d.line d.desk (acted (plan_of c) s seat (Refine n.id))
  state_then =
      has.refined (plan_of c) s seat n sound is.core.tied.state is.may.there
      (has.piece n is.may.there)

  tied_then : IsTied d (acted (plan_of c) s seat (Refine n.id))
  tied_then = record {
    state = state_then;
    end = refined_end (plan_of c) s seat n.id sound is.may.may
        ∙ ap end_at state_then.graph.chain ∙ sym has.end;
    losses = refined_losses (plan_of c) s seat n.id ∙ is.core.tied.losses
        ∙ ap (λ i. drop i c.setup.losses) (sym has.lost)
        ∙ ap (λ p. drop d.lost p.setup.losses) (sym same_plan);
  }

  journal_then : d.log.journal.items
      ≡ c.log.journal.items ++ entry c.log.journal.items seat (Refine n.id) ∷ []
  journal_then =
      subst (λ k. d.log.journal.items
      ≡ c.log.journal.items ++ entry c.log.journal.items seat (Refine k) ∷ [])
      (has.number n is.may.there) has.journal

  room_then : HasRoom 0 d
  room_then =
      let room = is.room in
      let entries = ap length has.journal
      ∙ length-append c.log.journal.items (entry c.log.journal.items seat (Refine number) ∷ []) in
      let losses : length (drop d.lost d.setup.losses) ≡ length (drop c.lost c.setup.losses)
      = ap (λ i. length (drop i d.setup.losses)) has.lost
      ∙ ap (λ p. length (drop c.lost p.setup.losses)) same_plan in
      let capacity = has.capacity in
      omega (arith, room, entries, losses, capacity)

  makes_refine : Makes c d seat (Refine n.id)
  makes_refine =
      makes step journal c d seat (Refine n.id) is.core is.seat (is.quiet, is.may.may) (record {
        plan = same_plan;
        journal = journal_then;
        tied = tied_then;
        places = record {
          settled = has.settled;
          stores = has.machines.stores ∙ is.core.places.stores
              ∙ ap (λ p. p.setup.machines) (sym same_plan);
          alive = has.machines.alive ∙ is.core.places.alive
              ∙ ap (λ p. p.setup.machines) (sym same_plan);
          seats = has.seats ∙ is.core.places.seats
              ∙ ap (λ p. suc (p.setup.machines * p.setup.workers)) (sym same_plan);
        };
        counted = has.counted;
        room = room_then;
      })

  -- it comes by the Refine of the node at that place
  pub refines_at : RefinesAt c d seat at
  refines_at m there =
      let all : Some n ≡ Some m = sym is.may.there ∙ there in
      let same : n ≡ m = cc (all) in
      subst (λ (x : Node). Makes c d seat (Refine x.id)) same makes_refine

-- what may be done once only room has changed could be done before, and the other way round
module _ (c d : Core) (core : IsCore c) (same : Stays c d) where
  same_journal : d.log.journal.items ≡ c.log.journal.items
  same_journal = same.journal ∙ append-nil c.log.journal.items

  same_state : state_of d ≡ state_of c
  same_state =
      ap (λ (q : Plan). replay q d.log.journal.items) same.plan
      ∙ ap (replay (plan_of c)) same_journal

  same_chain : chain_of d.line ≡ chain_of c.line
  same_chain =
      sym same.core.tied.state.graph.chain ∙ ap (λ (s : State). s.graph.chain) same_state
      ∙ core.tied.state.graph.chain

  pub quiet_still : IsQuiet (state_of c) → IsQuiet (state_of d)
  quiet_still = subst IsQuiet (sym same_state)

  pub seat_still : (seat : ℕ) → IsSeat (plan_of c) seat → IsSeat (plan_of d) seat
  seat_still seat = subst (λ (p : Plan). IsSeat p seat) (sym same.plan)

  pub refinable_still : (at : ℕ) → IsRefinableAt c at → IsRefinableAt d at
  refinable_still at is = record {
    node = is.node;
    there = ap (λ ns. slice_get ns at) same_chain ∙ is.there;
    may = subst (λ (p : Plan). CanRefine p (state_of d) is.node.id) (sym same.plan)
        (subst (λ (s : State). CanRefine (plan_of c) s is.node.id) (sym same_state) is.may);
  }

  -- what comes from it comes from the one before
  comes_on : (e : Core) (es : List Event) → ComesBy d e es → ComesBy c e es
  comes_on e es by = record {
    core = by.core;
    plan = by.plan ∙ same.plan;
    journal = by.journal ∙ ap (λ xs. xs ++ es) same_journal;
  }

  pub refines_from : (e : Core) (seat at : ℕ) → RefinesAt d e seat at → RefinesAt c e seat at
  refines_from e seat at by n there =
      subst (λ es. ComesBy c e (entry es seat (Refine n.id) ∷ [])) same_journal
      (comes_on e _ (by n (ap (λ ns. slice_get ns at) same_chain ∙ there)))

  pub stays_from : (e : Core) → Stays d e → Stays c e
  stays_from e by = comes_on e [] by

-- one fact of a success follows from another
pub at_success : {T E : Type 0} (r : Result T E) (P Q : Type 0) → (P → Q) → OnOk r P → OnOk r Q
at_success (Ok x) P Q f p = f p
at_success (Err e) P Q f p = tt

-- and one fact of a failure from another
pub at_failure : {T E : Type 0} (r : Result T E) (P Q : Type 0) → (P → Q) → OnErr r P → OnErr r Q
at_failure (Ok x) P Q f p = tt
at_failure (Err e) P Q f p = f p

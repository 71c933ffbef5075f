-- A core whose head is settled.
use Rattle.std.proofs.Common.{◌≡◌, ◌<◌, ◌*◌, ℕ, suc, List, [], ◌∷◌, ◌++◌, length, length-append, length-drop, drop, vec_capacity, Bool, true, false, Option, Some, Result, Ok, Err, refl, ap, sym, subst, ◌∙◌, arith}
use Rattle.std.specs.List.{All, Contains}
use Rattle.std.proofs.lemmas.List.Elements.{All-contains_itself, All-weaker}
use Rattle.pyd_value.specs.declared.value.Value.{Value}
use Rattle.pyd_value.specs.declared.fault.Fault.{Fault}
use Rattle.pyd_value.specs.declared.fault.End.{End}
use Rattle.pyd_meaning.specs.declared.ran.Ran.{Ran}
use Rattle.pyd_meaning.specs.Module.{ended_by}
use Rattle.pyd_board.specs.declared.event.Act.{Act}
use Rattle.pyd_board.specs.declared.event.Act.TheVariants.{Settle}
use Rattle.pyd_board.specs.declared.event.Event.{Event}
use Rattle.pyd_boards.specs.Boards.{entry}
use Rattle.pyd_ir.specs.declared.node.Node.{Node}
use Rattle.pyd_ir.specs.declared.work.Work.{Work}
use Rattle.pyd_ir.specs.declared.work.Work.TheVariants.{Op, Read, Call, Stop, Print, Run, Cond, While, For, Pick, Enter}
use Rattle.pyd_ir.specs.Arguments.{is_composite, is_pure}
use Rattle.pyd_ir.specs.Meaning.{ran_of}
use Rattle.pyd_runs.specs.Plans.{IsSeat, Plan}
use Rattle.pyd_runs.specs.Graphs.{Graph, end_at}
use Rattle.pyd_runs.specs.Effects.{State, acted, happens, passed, settled_by}
use Rattle.pyd_runs.specs.Enabled.{IsQuiet, WaitsNot}
use Rattle.pyd_runs.specs.Following.{JournalLaw, StepLaw}
use Rattle.pyd_runs.specs.Laws.{RunLaw}
use Rattle.pyd_runs.specs.Replay.{replay}
use Rattle.pyd_runs.specs.Sound.{IsSound, is_over}
use Rattle.pyd_runs.proofs.Standing.{list_below}
use Rattle.pyd_desk.specs.declared.desk.Desk.{Desk}
use Rattle.pyd_desk.specs.declared.line.Line.{Line}
use Rattle.pyd_desk.specs.Lines.{chain_of}
use Rattle.pyd_desk.specs.Passing.{kept_of}
use Rattle.pyd_desk.specs.States.{IsStateOf}
use Rattle.pyd_core.specs.declared.keeper.Core.{Core}
use Rattle.pyd_core.specs.declared.log.Log.{Log}
use Rattle.pyd_core.specs.declared.settling.Leaves.{Leaves}
use Rattle.pyd_core.specs.declared.settling.Leaves.TheVariants.{Passed, Ended}
use Rattle.pyd_core.specs.declared.settling.Settling.{Settling}
use Rattle.pyd_core.specs.Cores.{HasPlaces, HasRoom, IsCore, IsTied, plan_of, state_of}
use Rattle.pyd_core.specs.Leaving.{HasLeft, KeepsSettled}
use Rattle.pyd_core.specs.Log.{IsCounted}
use Rattle.pyd_core.specs.Settling.{IsSettling, SettlesHead, leaves_by}
use Rattle.pyd_core.specs.Steps.{Makes, UsesRoom}
use Rattle.pyd_core.proofs.Stepped.{makes}

-- the end where the head was passed
passed_end : (b : Bool) (g : Graph) (n : Node) (rest : List Node) (lines : List (List ℕ)) (v : Value)
    → (passed b g n rest lines v).end ≡ end_at rest
passed_end true g n rest lines v = refl
passed_end false g n rest lines v = refl

-- the chain
passed_chain : (b : Bool) (g : Graph) (n : Node) (rest : List Node) (lines : List (List ℕ)) (v : Value)
    → (passed b g n rest lines v).chain ≡ rest
passed_chain true g n rest lines v = refl
passed_chain false g n rest lines v = refl

-- and what was put out
passed_out : (b : Bool) (g : Graph) (n : Node) (rest : List Node) (lines : List (List ℕ)) (v : Value)
    → (passed b g n rest lines v).out ≡ g.out ++ lines
passed_out true g n rest lines v = refl
passed_out false g n rest lines v = refl

settled_out : (g : Graph) (n : Node) (rest : List Node) (lines : List (List ℕ))
    (result : Result Value Fault) → (settled_by g n rest lines result).out ≡ g.out ++ lines
settled_out g n rest lines (Ok v) = passed_out (is_pure n.work) g n rest lines v
settled_out g n rest lines (Err f) = refl

-- what passes a head
abbrev pub Passes : Line → Desk → Line → Desk → Option Ran → Type 0
Passes line desk line_now desk_now kept = (p : Plan) (s : State) (n : Node) (rest : List Node)
    (lines : List (List ℕ)) (v : Value) → IsSound p s → IsStateOf line desk s
    → s.graph.chain ≡ n ∷ rest → is_composite n.work ≡ false → kept ≡ kept_of (is_pure n.work) v
    → IsStateOf line_now desk_now
    (record s { graph = passed (is_pure n.work) s.graph n rest lines v })

-- what an evaluation with this result leaves
abbrev result_leaves : Work → List (List ℕ) → Result Value Fault → Leaves
result_leaves w lines r =
    leaves_by w (ran_of (record { lines = lines; result = r; steps = 0 })).outcome

module _ (c d : Core) (plan : plan_of d ≡ plan_of c) (lost : d.lost ≡ c.lost) (s : State)
    (n : Node) (rest : List Node) (lines : List (List ℕ)) where
  losses_as : IsTied c s → s.losses ≡ drop d.lost d.setup.losses
  losses_as tied =
      tied.losses ∙ ap (λ i. drop i c.setup.losses) (sym lost)
      ∙ ap (λ p. drop d.lost p.setup.losses) (sym plan)

  passed_tied : (kept : Option Ran) (p : Plan) (r : Result Value Fault)
      → Passes c.line c.desk d.line d.desk kept → d.end ≡ end_at (chain_of d.line)
      → IsSound p s → IsTied c s → s.graph.chain ≡ n ∷ rest → is_composite n.work ≡ false
      → Passed kept ≡ result_leaves n.work lines r
      → IsTied d (record s { graph = settled_by s.graph n rest lines r })
  passed_tied kept p (Err f) passes end sound tied chain leaf is =
      let z : Passed kept ≡ Ended (ended_by f) = is in absurd (cc (z))
  passed_tied kept p (Ok v) passes end sound tied chain leaf is =
      let z : Passed kept ≡ Passed (kept_of (is_pure n.work) v) = is in
      let same : kept ≡ kept_of (is_pure n.work) v = cc (z) in
      let state = passes p s n rest lines v sound tied.state chain leaf same in
      record {
        state = state;
        end = passed_end (is_pure n.work) s.graph n rest lines v
            ∙ ap end_at (sym (passed_chain (is_pure n.work) s.graph n rest lines v)
            ∙ state.graph.chain)
            ∙ sym end;
        losses = losses_as tied;
      }

  ended_tied : (end : End) (r : Result Value Fault) → d.line ≡ c.line → d.desk ≡ c.desk
      → d.end ≡ Some end → IsTied c s → Ended end ≡ result_leaves n.work lines r
      → IsTied d (record s { graph = settled_by s.graph n rest lines r })
  ended_tied end (Ok v) line desk ends tied is =
      let z : Ended end ≡ Passed (kept_of (is_pure n.work) v) = is in absurd (cc (z))
  ended_tied end (Err f) line desk ends tied is =
      let z : Ended end ≡ Ended (ended_by f) = is in
      let same : end ≡ ended_by f = cc (z) in
      let state = tied.state in
      let t : State = record s { graph = settled_by s.graph n rest lines (Err f) } in
      record {
        state = subst (λ l. IsStateOf l d.desk t) (sym line)
            (subst (λ e. IsStateOf c.line e t) (sym desk) (record {
              graph = record {
                past = state.graph.past;
                chain = state.graph.chain;
                driver = state.graph.driver;
                ports = state.graph.ports;
              };
              desk = state.desk;
              lost = state.lost;
              marks = state.marks;
              driver = state.driver;
            }));
        end = ap (λ (e : End). Some e) (sym same) ∙ sym ends;
        losses = losses_as tied;
      }

-- a head that gave a value was passed
pub keeps_passed : (c d : Core) (kept : Option Ran) → Passes c.line c.desk d.line d.desk kept
    → d.end ≡ end_at (chain_of d.line) → plan_of d ≡ plan_of c → d.lost ≡ c.lost
    → KeepsSettled c d (Passed kept)
keeps_passed c d kept passes end plan lost p s n rest does sound tied chain leaf is =
    passed_tied c d plan lost s n rest does.lines kept p does.result passes end sound tied chain leaf is

-- a head that gave a fault ended the run
pub keeps_ended : (c d : Core) (end : End) → d.line ≡ c.line → d.desk ≡ c.desk
    → d.end ≡ Some end → plan_of d ≡ plan_of c → d.lost ≡ c.lost → KeepsSettled c d (Ended end)
keeps_ended c d end line desk ends plan lost p s n rest does sound tied chain leaf is =
    ended_tied c d plan lost s n rest does.lines end does.result line desk ends tied is

-- a head that doesn't wait isn't composite
pub waiting_leaf : (s : State) (k : ℕ) (w : Work) → WaitsNot s k w → is_composite w ≡ false
waiting_leaf s k (Op op args) w = refl
waiting_leaf s k (Read arg kind) w = refl
waiting_leaf s k (Call func args) w = refl
waiting_leaf s k (Stop fault) w = refl
waiting_leaf s k (Print args) w = refl
waiting_leaf s k (Run func args) w = refl
waiting_leaf s k (Cond test stmt arm rest env) w = absurd w
waiting_leaf s k (While test stmt turns rest env) w = absurd w
waiting_leaf s k (For over stmt turns rest env) w = absurd w
waiting_leaf s k (Pick test first second env) w = absurd w
waiting_leaf s k (Enter func args) w = absurd w

-- what has something behind a place is longer
pub longer : (xs : List Node) (i : ℕ) (n : Node) (rest : List Node) → drop i xs ≡ n ∷ rest
    → i < length xs
longer xs i n rest e =
    let all = length-drop i xs in
    let some = ap length e in
    omega (arith, all, some)

-- lists with the same first node
pub first_same : (n m : Node) (ns ms : List Node) → n ∷ ns ≡ m ∷ ms → n ≡ m
first_same n m ns ms e = cc (e)

-- a seat may settle the head with these lines, and there is room for its entry
pub record IsToSettle (c : Core) (seat : ℕ) (settling : Settling) : Type 0 where
  pub core : IsCore c
  pub quiet : IsQuiet (state_of c)
  pub is_seat : IsSeat (plan_of c) seat
  pub room : HasRoom 1 c
  pub prepared : IsSettling (plan_of c) (state_of c) settling

-- a core with the entry and what the head leaves
pub record HasSettled (c d : Core) (seat number : ℕ) (leaves : Leaves) : Type 0 where
  pub left : HasLeft c (record d { log = c.log }) leaves
  pub journal : d.log.journal.items
      ≡ c.log.journal.items ++ entry c.log.journal.items seat (Settle number) ∷ []
  pub counted : IsCounted d.log
  pub seats : length d.log.counts.items ≡ length c.log.counts.items
  pub capacity : vec_capacity d.log.journal ≡ vec_capacity c.log.journal

-- the journal isn't among what a state has
tied_log : (d e : Core) (s : State) → IsTied (record d { log = e.log }) s → IsTied d s
tied_log d e s tied = record { state = tied.state; end = tied.end; losses = tied.losses }

-- what becomes of the state
acted_as : (p : Plan) (s : State) (seat k : ℕ) (g : Graph) → (acted p s seat (Settle k)).graph ≡ g
    → acted p s seat (Settle k) ≡ record s { graph = g }
unfolding acted
acted_as p s seat k g e = ap (λ h. record s { graph = h }) e

-- and of its graph
pub happens_graph : (p : Plan) (s : State) (e : Event) → (happens p s e).graph ≡ (acted p s e.by e.act).graph
unfolding happens
happens_graph p s e = refl

module _ (c : Core) (seat : ℕ) (settling : Settling) (is : IsToSettle c seat settling) where
  abbrev s : State
  s = state_of c

  abbrev head : Node
  head = is.prepared.head

  -- the head of the line
  line_head : chain_of c.line ≡ head ∷ is.prepared.rest
  line_head = sym is.core.tied.state.graph.chain ∙ is.prepared.chain

  pub head_there : c.line.settled < length c.line.nodes.items
  head_there = longer c.line.nodes.items c.line.settled head is.prepared.rest line_head

  pub head_number : (h : Node) → chain_of c.line ≡ h ∷ drop 1 (chain_of c.line) → h.id ≡ head.id
  head_number h e =
      ap (λ (n : Node). n.id)
      (first_same h head (drop 1 (chain_of c.line)) is.prepared.rest (sym e ∙ line_head))

  -- its seat is counted
  pub seat_counted : seat < length c.log.counts.items
  seat_counted =
      let seats = is.core.places.seats in
      let low = is.is_seat in
      omega (arith, seats, low)

  sound : RunLaw → IsSound (plan_of c) s
  sound run = run (plan_of c) c.log.journal.items is.core.runnable is.core.legal

  -- the nodes of the chain have places with the driver
  pub driver_there : RunLaw → All (λ (n : Node). n.id < length c.desk.driver.items) (chain_of c.line)
  driver_there run =
      let low : All (λ (n : Node). n.id < s.graph.next) s.graph.chain
      = All-weaker (λ (n : Node). Contains s.graph.chain n) (λ (n : Node). n.id < s.graph.next)
      (λ x at. list_below (is_over s.graph) s.graph.next s.graph.chain x (sound run).graph.listed at)
      s.graph.chain (All-contains_itself s.graph.chain) in
      subst (λ (ns : List Node). All (λ (n : Node). n.id < length c.desk.driver.items) ns) is.core.tied.state.graph.chain
      (subst (λ k. All (λ (n : Node). n.id < k) s.graph.chain) (sym is.core.tied.state.driver) low)

  -- it isn't composite
  leaf : is_composite head.work ≡ false
  leaf =
      let can = is.prepared.can in
      subst (λ (n : Node). is_composite n.work ≡ false)
      (first_same can.head head can.rest is.prepared.rest (sym can.chain ∙ is.prepared.chain))
      (waiting_leaf s head.id can.head.work can.waits_not)

  module _ (d : Core) (done : HasSettled c d seat head.id settling.leaves) where
    -- an entry's room is used
    pub settled_room : UsesRoom c d
    settled_room n room =
        let entries = ap length done.journal
        ∙ length-append c.log.journal.items (entry c.log.journal.items seat (Settle head.id) ∷ []) in
        let losses : length (drop d.lost d.setup.losses) ≡ length (drop c.lost c.setup.losses)
        = ap (λ i. length (drop i d.setup.losses)) done.left.lost
        ∙ ap (λ p. length (drop c.lost p.setup.losses)) done.left.plan in
        let capacity = done.capacity in
        omega (arith, room, entries, losses, capacity)

    settled_places : HasPlaces d
    settled_places = record {
      settled = done.left.within;
      stores = done.left.machines.stores ∙ is.core.places.stores
          ∙ ap (λ p. p.setup.machines) (sym done.left.plan);
      alive = done.left.machines.alive ∙ is.core.places.alive
          ∙ ap (λ p. p.setup.machines) (sym done.left.plan);
      seats = done.seats ∙ is.core.places.seats
          ∙ ap (λ p. suc (p.setup.machines * p.setup.workers)) (sym done.left.plan);
    }

    settled_tied : RunLaw → IsTied d (acted (plan_of c) s seat (Settle head.id))
    settled_tied run =
        subst (IsTied d) (sym (acted_as (plan_of c) s seat head.id _ (is.prepared.graph seat)))
        (tied_log d c _
        (done.left.settled (plan_of c) s head is.prepared.rest is.prepared.does
        (sound run) is.core.tied is.prepared.chain
        leaf
        (ap (λ (x : Settling). x.leaves) is.prepared.made)))

    settled_makes : RunLaw → StepLaw → JournalLaw → Makes c d seat (Settle head.id)
    settled_makes run step journal =
        makes step journal c d seat (Settle head.id) is.core is.is_seat (is.quiet, is.prepared.can)
        (record {
          plan = done.left.plan;
          journal = done.journal;
          tied = settled_tied run;
          places = settled_places;
          counted = done.counted;
          room = settled_room 0 is.room;
        })

    -- the head is settled
    pub settles_head : RunLaw → StepLaw → JournalLaw → SettlesHead c d seat settling.lines
    settles_head run step journal =
        let e : Event = entry c.log.journal.items seat (Settle head.id) in
        let state : state_of d ≡ happens (plan_of c) s e
        = ap (λ p. replay p d.log.journal.items) done.left.plan ∙ ap (replay (plan_of c)) done.journal
        ∙ (step (plan_of c) c.log.journal.items e).state in
        record {
          head = head;
          rest = is.prepared.rest;
          chain = is.prepared.chain;
          makes = settled_makes run step journal;
          out = ap (λ (t : State). t.graph.out) state
              ∙ ap (λ (g : Graph). g.out) (happens_graph (plan_of c) s e ∙ is.prepared.graph seat)
              ∙ settled_out s.graph head is.prepared.rest is.prepared.does.lines
              is.prepared.does.result
              ∙ ap (λ (x : Settling). s.graph.out ++ x.lines) (sym is.prepared.made);
        }

-- a journal with the entry of a seat
pub record HasEntry (old new : Log) (seat : ℕ) (act : Act) : Type 0 where
  pub journal : new.journal.items ≡ old.journal.items ++ entry old.journal.items seat act ∷ []
  pub counted : IsCounted new
  pub seats : length new.counts.items ≡ length old.counts.items
  pub capacity : vec_capacity new.journal ≡ vec_capacity old.journal

-- what the head leaves, and then the entry
pub entered : (c m : Core) (log : Log) (seat number : ℕ) (leaves : Leaves) → HasLeft c m leaves
    → HasEntry m.log log seat (Settle number)
    → HasSettled c (record m { log = log }) seat number leaves
entered c m log seat number leaves left noted =
    let more = subst (λ old. HasEntry old log seat (Settle number)) left.log noted in
    record {
      left = subst (λ x. HasLeft c x leaves) (λ i. record m { log = left.log i }) left;
      journal = more.journal;
      counted = more.counted;
      seats = more.seats;
      capacity = more.capacity;
    }

-- what an entry needs
pub record HasEntryRoom (log : Log) (seat : ℕ) : Type 0 where
  pub room : length log.journal.items < vec_capacity log.journal
  pub within : seat < length log.counts.items
  pub counted : IsCounted log

pub entry_room : (c : Core) (seat : ℕ) (settling : Settling) → IsToSettle c seat settling
    → (log : Log) → log ≡ c.log → HasEntryRoom log seat
entry_room c seat settling is log same =
    let room = is.room in
    let low = seat_counted c seat settling is in
    subst (λ l. HasEntryRoom l seat) (sym same) (record {
      room = omega (arith, room);
      within = low;
      counted = is.core.counted;
    })

-- A core behind Trims in a row, each behind the losses that are due.
use Rattle.std.proofs.Common.{◌≡◌, ◌<◌, ◌≤◌, ◌+◌, ℕ, suc, List, [], ◌∷◌, ◌++◌, append_assoc, append-nil, drop, get_or, length, Bool, true, false, cond, None, is_some, refl, ap, sym, subst, ◌∙◌, arith}
use Rattle.std.specs.List.{All, Contains}
use Rattle.std.proofs.lemmas.List.{drop_all, drop_more}
use Rattle.std.proofs.lemmas.List.Elements.{All-contains, All-contains_itself, All-head, All-tail, All-weaker}
use Rattle.pyd_board.specs.declared.event.Act.TheVariants.{Lose, Trim}
use Rattle.pyd_board.specs.declared.event.Event.{Event}
use Rattle.pyd_board.specs.Histories.{entries}
use Rattle.pyd_boards.specs.Boards.{entry}
use Rattle.pyd_runs.specs.Effects.{State, acted, happens, trimmed}
use Rattle.pyd_runs.specs.Enabled.{CanTrim, IsLoss, IsQuiet, IsUnbarred}
use Rattle.pyd_runs.specs.Following.{BeginningLaw, JournalLaw, TrimmedLaw}
use Rattle.pyd_runs.specs.Graphs.{Graph}
use Rattle.pyd_runs.specs.NextLosses.{due_losses, loses, due_after}
use Rattle.pyd_runs.specs.Plans.{IsSeat, Plan}
use Rattle.pyd_runs.specs.Reach.{Reached}
use Rattle.pyd_runs.specs.Replay.{after, replay}
use Rattle.pyd_runs.proofs.NextLost.{all_first}
use Rattle.pyd_core.specs.declared.keeper.Core.{Core}
use Rattle.pyd_core.specs.Cores.{HasRoom, IsCore, plan_of, state_of}
use Rattle.pyd_core.specs.Losing.{losses_by}
use Rattle.pyd_core.specs.Steps.{ComesBy, Makes, UsesRoom}
use Rattle.pyd_core.specs.Trimmings.{AreTrimmable, LeavesTrims, trim_by, trims_by}

-- losses leave the graph
losses_graph : (p : Plan) (s : State) (seat nth : ℕ) (machines : List ℕ)
    → (after p s (loses seat nth machines)).graph ≡ s.graph
unfolding after happens acted
losses_graph p s seat nth [] = refl
losses_graph p s seat nth (machine ∷ machines) =
    losses_graph p (happens p s (record { by = seat; nth = nth; act = Lose machine }))
    seat (suc nth) machines

due_graph : (p : Plan) (s : State) (seat : ℕ) (ended : Bool)
    → (after p s (cond ended [] (due_losses seat s))).graph ≡ s.graph
unfolding after
due_graph p s seat true = refl
due_graph p s seat false =
    losses_graph p s seat (entries seat s.journal) (due_after (length s.journal) s.losses)

-- what may be trimmed depends on the graph alone
can_same : (s t : State) (k : ℕ) → t.graph ≡ s.graph → CanTrim s k → CanTrim t k
can_same s t k same can = record {
  node = can.node;
  stands = subst (λ (g : Graph). Contains g.past can.node) (sym same) can.stands;
  number = can.number;
  unreached = λ r. can.unreached (subst (λ (g : Graph). Reached g k) same r);
}

-- a Trim leaves how the run has ended
trim_end : (p : Plan) (s : State) (seat k : ℕ)
    → (acted p s seat (Trim k)).graph.end ≡ s.graph.end
unfolding acted trimmed
trim_end p s seat k = refl

-- the journal is no part of the graph
act_graph : (p : Plan) (s : State) (e : Event)
    → (happens p s e).graph ≡ (acted p s e.by e.act).graph
unfolding happens
act_graph p s e = refl

one_after : (p : Plan) (s : State) (e : Event) → after p s (e ∷ []) ≡ happens p s e
unfolding after
one_after p s e = refl

-- events, and then more
after_more : (p : Plan) (es more : List Event) (s : State)
    → after p s (es ++ more) ≡ after p (after p s es) more
unfolding after
after_more p [] more s = refl
after_more p (e ∷ es) more s = after_more p es more (happens p s e)

-- the state of a core that comes by events
pub state_by : BeginningLaw → (c d : Core) (es : List Event) → ComesBy c d es
    → state_of d ≡ after (plan_of c) (state_of c) es
state_by beginning c d es comes =
    ap (λ p. replay p d.log.journal.items) comes.plan ∙ ap (replay (plan_of c)) comes.journal
    ∙ (beginning (plan_of c) c.log.journal.items es).state

module _ (laws : TrimmedLaw) (beginning : BeginningLaw) (c d : Core) (seat k : ℕ)
    (losses : ComesBy c d (losses_by seat (state_of c))) where
  -- the graph is still the same behind the losses
  graph_still : (state_of d).graph ≡ (state_of c).graph
  graph_still =
      ap (λ (s : State). s.graph) (state_by beginning c d (losses_by seat (state_of c)) losses)
      ∙ due_graph (plan_of c) (state_of c) seat (is_some (state_of c).graph.end)

  pub still_goes_on : (state_of c).graph.end ≡ None → (state_of d).graph.end ≡ None
  still_goes_on goes_on = ap (λ (g : Graph). g.end) graph_still ∙ goes_on

  pub quiet_then : (state_of c).graph.end ≡ None → IsUnbarred (state_of d) → IsQuiet (state_of d)
  quiet_then goes_on unbarred =
      let on = still_goes_on goes_on in record { goes_on = on; none_due = unbarred on }

  pub still_trimmable : CanTrim (state_of c) k → CanTrim (state_of d) k
  still_trimmable can = can_same (state_of c) (state_of d) k graph_still can

  module _ (journals : JournalLaw) (e : Core) (makes : Makes d e seat (Trim k)) where
    -- the losses and the Trim
    pub comes_by_trim : ComesBy c e (trim_by seat (state_of c) k)
    comes_by_trim = record {
      core = makes.core;
      plan = makes.plan ∙ losses.plan;
      journal = makes.journal
          ∙ ap (λ es. es ++ entry es seat (Trim k) ∷ []) losses.journal
          ∙ append_assoc c.log.journal.items (losses_by seat (state_of c))
          (entry (c.log.journal.items ++ losses_by seat (state_of c)) seat (Trim k) ∷ [])
          ∙ ap (λ es. c.log.journal.items ++ (losses_by seat (state_of c)
          ++ entry (es ++ losses_by seat (state_of c)) seat (Trim k) ∷ []))
          (sym (journals (plan_of c) c.log.journal.items));
    }

    -- the state behind the Trim
    abbrev v : Event
    v = entry d.log.journal.items seat (Trim k)

    graph_then : (state_of e).graph ≡ (acted (plan_of d) (state_of d) seat (Trim k)).graph
    graph_then =
        ap (λ (s : State). s.graph) (state_by beginning d e (v ∷ []) makes
        ∙ one_after (plan_of d) (state_of d) v)
        ∙ act_graph (plan_of d) (state_of d) v

    -- it leaves the rest
    pub leaves_trims : LeavesTrims c e k
    leaves_trims = record {
      goes_on = λ on. ap (λ (g : Graph). g.end) graph_then
          ∙ trim_end (plan_of d) (state_of d) seat k ∙ still_goes_on on;
      others = λ j other can.
          can_same (acted (plan_of d) (state_of d) seat (Trim k)) (state_of e) j graph_then
          (laws (plan_of d) (state_of d) seat k j
          (can_same (state_of c) (state_of d) j graph_still can) other);
    }

-- the nodes that are trimmed so far, and those that are left
pub record HasTrimmedFirst (seat : ℕ) (ks left : List ℕ) (c d : Core) : Type 0 where
  pub events : List Event
  pub comes : ComesBy c d events
  pub whole : events ++ trims_by (plan_of c) seat (state_of d) left
      ≡ trims_by (plan_of c) seat (state_of c) ks
  pub goes_on : (state_of d).graph.end ≡ None
  pub may : AreTrimmable (state_of d) left
  pub room : (n : ℕ) → HasRoom (length ks + n) c → HasRoom (length left + n) d

-- none at first
pub none_trimmed : (seat : ℕ) (ks : List ℕ) (c : Core) → IsCore c
    → (state_of c).graph.end ≡ None → AreTrimmable (state_of c) ks → HasTrimmedFirst seat ks ks c c
none_trimmed seat ks c core goes_on may = record {
  events = [];
  comes = record { core = core; plan = refl; journal = sym (append-nil c.log.journal.items) };
  whole = refl;
  goes_on = goes_on;
  may = may;
  room = λ n room. room;
}

-- those that are left may be trimmed still
left_trimmable : (c d : Core) (k : ℕ) (ks : List ℕ) → LeavesTrims c d k
    → AreTrimmable (state_of c) (k ∷ ks) → AreTrimmable (state_of d) ks
left_trimmable c d k ks leaves are = record {
  may = All-weaker (Contains ks) (CanTrim (state_of d))
      (λ j there. leaves.others j
      (λ same. are.distinct.0 (subst (Contains ks) same there))
      (All-contains (CanTrim (state_of c)) ks j
      (All-tail (CanTrim (state_of c)) k ks are.may) there))
      ks (All-contains_itself ks);
  distinct = are.distinct.1;
}

module _ (beginning : BeginningLaw) (seat : ℕ) (ks : List ℕ) (k : ℕ) (left : List ℕ) (c d : Core)
    (so_far : HasTrimmedFirst seat ks (k ∷ left) c d) where
  pub next_can : CanTrim (state_of d) k
  next_can = All-head (CanTrim (state_of d)) k left so_far.may.may

  -- there is room for its Trim
  pub next_room : HasRoom (length ks) c → HasRoom 1 d
  next_room room =
      let all : HasRoom (length ks + 0) c = omega (arith, room) in
      let now = so_far.room 0 all in
      omega (arith, now)

  -- the seat may append losses
  pub next_driver : (All (λ (e : Event). IsLoss e.act) c.log.journal.items → seat ≡ 0)
      → All (λ (e : Event). IsLoss e.act) d.log.journal.items → seat ≡ 0
  next_driver driver all =
      driver (all_first (λ (e : Event). IsLoss e.act) c.log.journal.items so_far.events
      (subst (All (λ (e : Event). IsLoss e.act)) so_far.comes.journal all))

  pub next_seat : IsSeat (plan_of c) seat → IsSeat (plan_of d) seat
  next_seat is = subst (λ p. IsSeat p seat) (sym so_far.comes.plan) is

  -- one more
  pub one_more_trimmed : (e : Core) → ComesBy d e (trim_by seat (state_of d) k)
      → LeavesTrims d e k → UsesRoom d e → HasTrimmedFirst seat ks left c e
  one_more_trimmed e comes leaves uses = record {
    events = so_far.events ++ trim_by seat (state_of d) k;
    comes = record {
      core = comes.core;
      plan = comes.plan ∙ so_far.comes.plan;
      journal = comes.journal ∙ ap (λ es. es ++ trim_by seat (state_of d) k) so_far.comes.journal
          ∙ append_assoc c.log.journal.items so_far.events (trim_by seat (state_of d) k);
    };
    whole =
        append_assoc so_far.events (trim_by seat (state_of d) k)
        (trims_by (plan_of c) seat (state_of e) left)
        ∙ ap (λ t. so_far.events ++ (trim_by seat (state_of d) k
        ++ trims_by (plan_of c) seat t left))
        (state_by beginning d e (trim_by seat (state_of d) k) comes
        ∙ ap (λ p. after p (state_of d) (trim_by seat (state_of d) k)) so_far.comes.plan)
        ∙ so_far.whole;
    goes_on = leaves.goes_on so_far.goes_on;
    may = left_trimmable d e k left leaves so_far.may;
    room = λ n room.
        (let was = so_far.room n room in
        let more : HasRoom (suc (length left + n)) d = omega (arith, was) in
        uses (length left + n) more);
  }

-- the first of those that are left
pub next_left : (seat : ℕ) (ks : List ℕ) (i : ℕ) (c d : Core) → i < length ks
    → HasTrimmedFirst seat ks (drop i ks) c d
    → HasTrimmedFirst seat ks (get_or ks i 0 ∷ drop (i + 1) ks) c d
next_left seat ks i c d within so_far =
    subst (λ (left : List ℕ). HasTrimmedFirst seat ks left c d) (drop_more ks i 0 within) so_far

-- none is left
pub none_left : (seat : ℕ) (ks : List ℕ) (i : ℕ) (c d : Core) → length ks ≤ i
    → HasTrimmedFirst seat ks (drop i ks) c d → HasTrimmedFirst seat ks [] c d
none_left seat ks i c d past so_far =
    subst (λ (left : List ℕ). HasTrimmedFirst seat ks left c d) (drop_all i ks past) so_far

-- all in the end
pub all_trimmed : (seat : ℕ) (ks : List ℕ) (c d : Core) → HasTrimmedFirst seat ks [] c d
    → ComesBy c d (trims_by (plan_of c) seat (state_of c) ks)
all_trimmed seat ks c d so_far =
    subst (ComesBy c d) (sym (append-nil so_far.events) ∙ so_far.whole) so_far.comes

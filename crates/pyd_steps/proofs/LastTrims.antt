-- Trims in a row until no past node may be trimmed.
use Rattle.std.proofs.Common.{◌≡◌, ◌≢◌, ℕ, zero, suc, ◌⊎◌, List, [], ◌∷◌, ◌++◌, append_assoc, append-nil, Bool, true, false, cond, is_some, length, None, inl, inr, refl, ap, sym, subst, ◌∙◌, arith}
use Rattle.std.specs.List.{All, Contains}
use Rattle.std.proofs.lemmas.List.Elements.{All-append, All-cons, All-head, All-nil, All-tail, All-weaker}
use Rattle.pyd_board.specs.declared.event.Act.{Act}
use Rattle.pyd_board.specs.declared.event.Act.TheVariants.{Place, Claim, Finish, Drop, Refine, Settle, Lose, Trim}
use Rattle.pyd_board.specs.declared.event.Event.{Event}
use Rattle.pyd_board.specs.Histories.{AllBy, entries}
use Rattle.pyd_boards.specs.Boards.{entry}
use Rattle.pyd_boards.specs.Calls.{trims}
use Rattle.pyd_boards.specs.Moves.{EndsIn}
use Rattle.pyd_ir.specs.declared.node.Node.{Node}
use Rattle.pyd_lineage.specs.Lineage.{AreThose, AreUnreached, Reaches}
use Rattle.pyd_runs.specs.Effects.{State, acted, happens, trimmed}
use Rattle.pyd_runs.specs.Enabled.{CanTrim, IsLoss}
use Rattle.pyd_runs.specs.Following.{BeginningLaw}
use Rattle.pyd_runs.specs.Graphs.{Graph}
use Rattle.pyd_runs.specs.Laws.{ReachLaw}
use Rattle.pyd_runs.specs.NextLosses.{due_after, due_losses, loses}
use Rattle.pyd_runs.specs.Plans.{Plan}
use Rattle.pyd_runs.specs.Reach.{Reached, by_chain, by_past}
use Rattle.pyd_runs.specs.Replay.{after}
use Rattle.pyd_runs.proofs.Trimming.{still_reached}
use Rattle.pyd_runs.proofs.Without.{first_or_behind, fresh_apart, is_left, none_without, was_there, without}
use Rattle.pyd_core.specs.declared.keeper.Core.{Core}
use Rattle.pyd_core.specs.Cores.{IsCore, plan_of, state_of}
use Rattle.pyd_core.specs.Facts.{facts_of, may_come}
use Rattle.pyd_core.specs.Losing.{losses_by}
use Rattle.pyd_core.specs.Steps.{ComesBy}
use Rattle.pyd_core.specs.Trimmings.{AreTrimmable, trim_by, trims_by}
use Rattle.pyd_core.proofs.InRow.{state_by}
use Rattle.pyd_steps.specs.Settling.{IsTrimOrLoss, TrimsUnreached}

-- losses by a seat: each of them has what every loss by the seat has
each_lost : (P : Event → Type 0) (seat nth : ℕ) (machines : List ℕ)
    → ((n machine : ℕ) → P (record { by = seat; nth = n; act = Lose machine }))
    → All P (loses seat nth machines)
each_lost P seat nth [] each = All-nil P
each_lost P seat nth (machine ∷ machines) each =
    All-cons P (record { by = seat; nth = nth; act = Lose machine })
    (loses seat (suc nth) machines) (each nth machine)
    (each_lost P seat (suc nth) machines each)

-- so have those that are due
each_due : (P : Event → Type 0) (seat : ℕ) (s : State)
    → ((n machine : ℕ) → P (record { by = seat; nth = n; act = Lose machine }))
    → All P (losses_by seat s)
each_due P seat s each = by_end (is_some s.graph.end)
  where
    by_end : (ended : Bool) → All P (cond ended [] (due_losses seat s))
    by_end true = All-nil P
    by_end false =
        each_lost P seat (entries seat s.journal) (due_after (length s.journal) s.losses) each

-- and each of those and of Trims of nodes by the seat
each_trimmed : (P : Event → Type 0) (p : Plan) (seat : ℕ) (s : State) (ks : List ℕ)
    → ((n machine : ℕ) → P (record { by = seat; nth = n; act = Lose machine }))
    → ((n k : ℕ) → P (record { by = seat; nth = n; act = Trim k }))
    → All P (trims_by p seat s ks)
each_trimmed P p seat s [] lost trimmed = All-nil P
each_trimmed P p seat s (k ∷ ks) lost trimmed =
    let t = after p s (trim_by seat s k) in
    let v : Event = entry (s.journal ++ losses_by seat s) seat (Trim k) in
    All-append P (trim_by seat s k) (trims_by p seat t ks)
    (All-append P (losses_by seat s) (v ∷ []) (each_due P seat s lost)
    (All-cons P v [] (trimmed (entries seat (s.journal ++ losses_by seat s)) k) (All-nil P)))
    (each_trimmed P p seat t ks lost trimmed)

module _ (p : Plan) (seat : ℕ) (s : State) (ks : List ℕ) where
  -- they are the seat's
  pub trims_own : AllBy seat (trims_by p seat s ks)
  trims_own =
      each_trimmed (λ (e : Event). e.by ≡ seat) p seat s ks (λ n machine. refl) (λ n k. refl)

  -- they are Trims and losses
  pub trims_are : All (IsTrimOrLoss p) (trims_by p seat s ks)
  trims_are =
      each_trimmed (IsTrimOrLoss p) p seat s ks
      (λ n machine. inr (record { of_kind = refl; in_run = refl }))
      (λ n k. inl (record { of_kind = refl; in_run = refl }))

-- events end in a Trim where more of them do, or where it is the last
ends_more : (p : Plan) (first more : List Event) (v : Event)
    → EndsIn (facts_of p) (may_come p) trims 0 (first ++ v ∷ [])
    → (more ≡ []) ⊎ EndsIn (facts_of p) (may_come p) trims 0 more
    → EndsIn (facts_of p) (may_come p) trims 0 ((first ++ v ∷ []) ++ more)
ends_more p first more v ends (inl none) =
    subst (EndsIn (facts_of p) (may_come p) trims 0)
    (sym (append-nil (first ++ v ∷ [])) ∙ ap (λ es. (first ++ v ∷ []) ++ es) (sym none)) ends
ends_more p first more v ends (inr last) = (
  (first ++ v ∷ []) ++ last.0,
  (
    last.1.0,
    ap (λ es. (first ++ v ∷ []) ++ es) last.1.1
        ∙ sym (append_assoc (first ++ v ∷ []) last.0 (last.1.0 ∷ [])),
    last.1.2,
  ),
)

-- Trims in a row end in a Trim
pub trims_end : (p : Plan) (seat : ℕ) (s : State) (ks : List ℕ)
    → (trims_by p seat s ks ≡ []) ⊎ EndsIn (facts_of p) (may_come p) trims 0 (trims_by p seat s ks)
trims_end p seat s [] = inl refl
trims_end p seat s (k ∷ ks) =
    let t = after p s (trim_by seat s k) in
    let v : Event = entry (s.journal ++ losses_by seat s) seat (Trim k) in
    inr (ends_more p (losses_by seat s) (trims_by p seat t ks) v
    (losses_by seat s, (v, refl, record { of_kind = refl; in_run = refl }))
    (trims_end p seat t ks))

-- a loss leaves the graph
loss_graph : (p : Plan) (s : State) (seat : ℕ) (act : Act) → IsLoss act
    → (acted p s seat act).graph ≡ s.graph
unfolding acted
loss_graph p s seat (Lose machine) loss = refl
loss_graph p s seat (Place k attempt machine) loss = absurd loss
loss_graph p s seat (Claim k attempt machine) loss = absurd loss
loss_graph p s seat (Finish k attempt machine) loss = absurd loss
loss_graph p s seat (Drop k attempt machine) loss = absurd loss
loss_graph p s seat (Refine k) loss = absurd loss
loss_graph p s seat (Settle k) loss = absurd loss
loss_graph p s seat (Trim k) loss = absurd loss

-- the journal is no part of the graph
pub event_graph : (p : Plan) (s : State) (e : Event)
    → (happens p s e).graph ≡ (acted p s e.by e.act).graph
unfolding happens
event_graph p s e = refl

-- losses leave it
pub losses_graph : (p : Plan) (s : State) (es : List Event) → All (λ (e : Event). IsLoss e.act) es
    → (after p s es).graph ≡ s.graph
unfolding after
losses_graph p s [] losses = refl
losses_graph p s (e ∷ es) losses =
    losses_graph p (happens p s e) es (All-tail (λ (x : Event). IsLoss x.act) e es losses)
    ∙ event_graph p s e
    ∙ loss_graph p s e.by e.act (All-head (λ (x : Event). IsLoss x.act) e es losses)

-- a Trim takes its node from it
act_graph : (p : Plan) (s : State) (seat k : ℕ)
    → (acted p s seat (Trim k)).graph ≡ trimmed k s.graph
unfolding acted
act_graph p s seat k = refl

-- events, and then more
after_more : (p : Plan) (es more : List Event) (s : State)
    → after p s (es ++ more) ≡ after p (after p s es) more
unfolding after
after_more p [] more s = refl
after_more p (e ∷ es) more s = after_more p es more (happens p s e)

one_after : (p : Plan) (s : State) (e : Event) → after p s (e ∷ []) ≡ happens p s e
unfolding after
one_after p s e = refl

none_after : (p : Plan) (s : State) → after p s [] ≡ s
unfolding after
none_after p s = refl

-- so do losses and then a Trim
trim_graph : (p : Plan) (seat : ℕ) (s : State) (k : ℕ)
    → (after p s (trim_by seat s k)).graph ≡ trimmed k s.graph
trim_graph p seat s k =
    let t = after p s (losses_by seat s) in
    let v : Event = entry (s.journal ++ losses_by seat s) seat (Trim k) in
    ap (λ (u : State). u.graph) (after_more p (losses_by seat s) (v ∷ []) s ∙ one_after p t v)
    ∙ event_graph p t v ∙ act_graph p t seat k
    ∙ ap (trimmed k) (losses_graph p s (losses_by seat s)
    (each_due (λ (e : Event). IsLoss e.act) seat s (λ n machine. tt)))

-- which leaves what was put out
trimmed_out : (k : ℕ) (g : Graph) → (trimmed k g).out ≡ g.out
unfolding trimmed
trimmed_out k g = refl

pub trims_out : (p : Plan) (seat : ℕ) (s : State) (ks : List ℕ)
    → (after p s (trims_by p seat s ks)).graph.out ≡ s.graph.out
trims_out p seat s [] = ap (λ (u : State). u.graph.out) (none_after p s)
trims_out p seat s (k ∷ ks) =
    let t = after p s (trim_by seat s k) in
    ap (λ (u : State). u.graph.out) (after_more p (trim_by seat s k) (trims_by p seat t ks) s)
    ∙ trims_out p seat t ks
    ∙ ap (λ (g : Graph). g.out) (trim_graph p seat s k) ∙ trimmed_out k s.graph

-- without a node that isn't reached as much is reached
reached_without : (k : ℕ) (g : Graph) → (Reached g k → ⊥) → (m : ℕ) → Reached g m
    → Reached (trimmed k g) m
unfolding trimmed
reached_without k g un m (by_chain n i at names) = by_chain n m at names
reached_without k g un m (by_past n i at reached names) =
    by_past n m (is_left k g.past n at (λ same. un (subst (Reached g) same reached)))
    (reached_without k g un n.id reached) names

-- a node that is left stood there, and is another
left_past : (k : ℕ) (g : Graph) (n : Node) → Contains (trimmed k g).past n
    → Contains g.past n × (n.id ≢ k)
unfolding trimmed
left_past k g n at =
    (was_there k g.past n at, fresh_apart k (without k g.past) n (none_without k g.past) at)

-- so what may be trimmed behind a Trim could be before it, and is another node
could_trim : (s t : State) (k j : ℕ) → t.graph ≡ trimmed k s.graph → (Reached s.graph k → ⊥)
    → CanTrim t j → CanTrim s j × (j ≢ k)
could_trim s t k j same un can =
    let at = left_past k s.graph can.node
    (subst (λ (g : Graph). Contains g.past can.node) same can.stands) in (
      record {
        node = can.node;
        stands = at.0;
        number = can.number;
        unreached = λ r. can.unreached (subst (λ (g : Graph). Reached g j) (sym same)
            (reached_without k s.graph un j r));
      },
      λ is. at.1 (can.number ∙ is),
    )

-- a number of a list but the first
not_first : (j : ℕ) (js : List ℕ) (i : ℕ) → i ≢ j → Contains (j ∷ js) i → Contains js i
not_first j js i other (zero, within, is) = absurd (other (sym is))
not_first j js i other (suc n, within, is) = (n, omega (arith, within), is)

number_behind : (j : ℕ) (js : List ℕ) (i : ℕ) → Contains js i → Contains (j ∷ js) i
number_behind j js i (n, within, is) = (suc n, omega (arith, within), is)

none_in : {A : Type 0} (x : A) → Contains [] x → ⊥
none_in x (n, within, is) = omega (arith, within)

-- behind Trims of all nodes that may be trimmed none may be
pub none_trimmable : (p : Plan) (seat : ℕ) (s : State) (ks : List ℕ)
    → All (λ k. Reached s.graph k → ⊥) ks → ((k : ℕ) → CanTrim s k → Contains ks k)
    → (k : ℕ) → CanTrim (after p s (trims_by p seat s ks)) k → ⊥
none_trimmable p seat s [] un all k can =
    none_in k (all k (subst (λ (u : State). CanTrim u k) (none_after p s) can))
none_trimmable p seat s (j ∷ ks) un all k can =
    let t = after p s (trim_by seat s j) in
    let same = trim_graph p seat s j in
    let gone = All-head (λ i. Reached s.graph i → ⊥) j ks un in
    none_trimmable p seat t ks
    (All-weaker (λ i. Reached s.graph i → ⊥) (λ i. Reached t.graph i → ⊥)
    (λ i was r. was (still_reached j s.graph i (subst (λ (g : Graph). Reached g i) same r)))
    ks (All-tail (λ i. Reached s.graph i → ⊥) j ks un))
    (λ i may. (let was = could_trim s t j i same gone may in
    not_first j ks i was.1 (all i was.0)))
    k
    (subst (λ (u : State). CanTrim u k)
    (after_more p (trim_by seat s j) (trims_by p seat t ks) s) can)

-- each node of a part of the past that isn't reached is among those
among_those : ReachLaw → (g : Graph) (xs : List Node) (ks : List ℕ)
    → AreThose (λ (x : Node). Reaches g.past g.chain [] x.id → ⊥) xs ks
    → (n : Node) → Contains xs n → (Reached g n.id → ⊥) → Contains ks n.id
among_those reach g [] ks none n at un = absurd (none_in n at)
among_those reach g (x ∷ xs) ks (inl a) n at un =
    let more = a.1 in
    subst (λ (js : List ℕ). Contains js n.id) (sym more.1)
    (elim (first_or_behind x xs n at) [
      | inl same ↦ subst (λ (y : Node). Contains (x.id ∷ more.0) y.id) same
          (0, omega arith, refl)
      | inr later ↦ number_behind x.id more.0 n.id (among_those reach g xs more.0 more.2 n later un)
    ])
among_those reach g (x ∷ xs) ks (inr b) n at un =
    elim (first_or_behind x xs n at) [
      | inl same ↦ absurd (b.0 (λ r. un (subst (λ (y : Node). Reached g y.id) same
          ((reach g x.id).1 r))))
      | inr later ↦ among_those reach g xs ks b.1 n later un
    ]

-- so it is of all that may be trimmed
pub all_among : ReachLaw → (s : State) (ks : List ℕ)
    → AreThose (λ (x : Node). Reaches s.graph.past s.graph.chain [] x.id → ⊥) s.graph.past ks
    → (k : ℕ) → CanTrim s k → Contains ks k
all_among reach s ks those k can =
    subst (Contains ks) can.number
    (among_those reach s.graph s.graph.past ks those can.node can.stands
    (λ r. can.unreached (subst (Reached s.graph) can.number r)))

-- none of those that may be trimmed is reached
pub unreached_all : (s : State) (ks : List ℕ) → AreTrimmable s ks
    → All (λ k. Reached s.graph k → ⊥) ks
unreached_all s ks are =
    All-weaker (CanTrim s) (λ k. Reached s.graph k → ⊥) (λ k can. can.unreached) ks are.may

-- a core behind the Trims of what isn't reached
pub trims_made : BeginningLaw → ReachLaw → (c d : Core) (seat : ℕ) (ks : List ℕ)
    → AreUnreached (state_of c).graph.past (state_of c).graph.chain ks
    → AreTrimmable (state_of c) ks
    → ComesBy c d (trims_by (plan_of c) seat (state_of c) ks) → TrimsUnreached c d seat
trims_made beginning reach c d seat ks those are comes =
    let p = plan_of c in
    let s = state_of c in
    let own = trims_by p seat s ks in
    let state = state_by beginning c d own comes in
    record {
      own = own;
      comes = comes;
      by = trims_own p seat s ks;
      ends = trims_end p seat s ks;
      are_trims = trims_are p seat s ks;
      none_left = λ on k can. none_trimmable p seat s ks (unreached_all s ks are)
          (all_among reach s ks those) k (subst (λ (u : State). CanTrim u k) state can);
      out = ap (λ (u : State). u.graph.out) state ∙ trims_out p seat s ks;
    }

-- a core whose run has ended
pub none_made : (c : Core) (seat : ℕ) → IsCore c → (state_of c).graph.end ≢ None
    → TrimsUnreached c c seat
none_made c seat core ended = record {
  own = [];
  comes = record { core = core; plan = refl; journal = sym (append-nil c.log.journal.items) };
  by = All-nil (λ (e : Event). e.by ≡ seat);
  ends = inl refl;
  are_trims = All-nil (IsTrimOrLoss (plan_of c));
  none_left = λ on. absurd (ended on);
  out = refl;
}

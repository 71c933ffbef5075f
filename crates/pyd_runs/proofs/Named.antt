-- What events name lies below the next number.
use Rattle.std.proofs.Common.{◌≡◌, ◌<◌, ◌≤◌, ◌==◌, ℕ, List, [], ◌∷◌, Bool, true, false, not, ◌&&◌, ◌||◌, if◌then◌else◌, Option, None, Some, is_some, ◌⊎◌, inl, inr, refl, ap, sym, ◌∙◌, subst, arith}
use Rattle.std.specs.Prelude.{Result, Ok, Err, IsTrue}
use Rattle.std.specs.List.{Contains}
use Rattle.std.proofs.lemmas.List.Elements.{Contains-append_cases}
use Rattle.pyd_value.specs.declared.value.Value.{Value}
use Rattle.pyd_value.specs.declared.fault.Fault.{Fault}
use Rattle.pyd_meaning.specs.Evaluation.{Evaluation}
use Rattle.pyd_board.specs.declared.event.Act.{Act}
use Rattle.pyd_board.specs.declared.event.Act.TheVariants.{Place, Claim, Finish, Drop, Refine, Settle, Lose, Trim}
use Rattle.pyd_board.specs.declared.event.Event.{Event}
use Rattle.pyd_ir.specs.declared.node.Node.{Node}
use Rattle.pyd_ir.specs.Arguments.{is_pure}
use Rattle.pyd_ir.specs.Inputs.{leaf_meaning}
use Rattle.pyd_ir.specs.Meaning.{job_ran}
use Rattle.pyd_runs.specs.Plans.{Plan, limits_of}
use Rattle.pyd_runs.specs.Graphs.{Graph, nodes}
use Rattle.pyd_runs.specs.Desks.{Held, Stores, put_at}
use Rattle.pyd_runs.specs.Records.{is_ready}
use Rattle.pyd_runs.specs.Losses.{undone_with}
use Rattle.pyd_runs.specs.Effects.{State, first_state, acted, happens, settled, settled_chain, settled_as, settled_by, passed, trimmed, finished_by, is_run, kept_by_driver, kept_by_machine}
use Rattle.pyd_runs.specs.Enabled.{CanAct, CanDrop}
use Rattle.pyd_runs.specs.Replay.{IsLegalFrom, after}
use Rattle.pyd_runs.specs.Sound.{IsSound, IsGraphSound, stands, is_over}
use Rattle.pyd_runs.specs.Facts.{node_of, NumberLaw}
use Rattle.pyd_runs.proofs.Putting.{if_cases, put_cases}
use Rattle.pyd_runs.proofs.Dropping.{undone_was}
use Rattle.pyd_runs.proofs.Without.{here, stands_true, fresh_stands}
use Rattle.pyd_runs.proofs.Standing.{found_there, list_below}
use Rattle.pyd_runs.proofs.Knowing.{past_fresh}
use Rattle.pyd_runs.proofs.Claiming.{ready_parts}
use Rattle.pyd_runs.proofs.Holding.{holds_some, finish_undone}
use Rattle.pyd_runs.proofs.Trimming.{is_past}
use Rattle.pyd_runs.proofs.Growing.{growing}
use Rattle.pyd_runs.proofs.Refined.{refines_so}
use Rattle.pyd_runs.proofs.Running.{event_keeps, run_keeps}
use Rattle.pyd_runs.proofs.Starting.{starts}
use Rattle.pyd_runs.proofs.Unchanged.{finish_alike}

-- a node of a graph is numbered below the next one
pub node_below : (p : Plan) (g : Graph) (n : Node) → IsGraphSound p g → Contains (nodes g) n
    → n.id < g.next
node_below p g n sound at = elim (Contains-append_cases g.past g.chain n at) [
  | inr chain ↦ list_below (is_over g) g.next g.chain n sound.listed chain
  | inl past ↦
      let over : is_over g n.id ≡ true =
      ap (λ b. not b && (stands n.id g.past || is_some (g.driver n.id)))
      (fresh_stands n.id g.chain (past_fresh p g n sound past))
      ∙ ap (λ b. b || is_some (g.driver n.id)) (stands_true n.id g.past n past refl) in
      sound.below n.id over
]

-- so is one that is ready
pub ready_below : (p : Plan) (g : Graph) (stores : Stores) (k : ℕ) → IsGraphSound p g
    → IsTrue (is_ready g stores k) → k < g.next
ready_below p g stores k sound ready =
    let r = ready_parts g stores k ready in
    let at = found_there (nodes g) k r.node r.found in
    subst (λ i. i < g.next) at.1 (node_below p g r.node sound at.0)

-- and one that is claimed
pub claimed_below : (p : Plan) (s : State) (k : ℕ) (c : Held) → IsSound p s
    → s.desk.claim k ≡ Some c → k < s.graph.next
claimed_below p s k c sound is = elim (sound.desk.claimed k c is) [
  | inl job ↦ subst (λ i. i < s.graph.next) job.number (node_below p s.graph job.node sound.graph job.stands)
  | inr gone ↦ gone.0
]

-- numbers that are no less
pub no_less : (a b : ℕ) → b ≡ a → a ≤ b
no_less a b same = omega (arith, same)

-- nodes that were placed, or whose claims were undone, are numbered below the next one
pub record AreMade (s : State) : Type 0 where
  pub placed : (k : ℕ) → 0 < s.desk.places k → k < s.graph.next
  pub undone : (k attempt : ℕ) (c : Held) → s.desk.undone k attempt ≡ Some c → k < s.graph.next

-- a state with these counts and undone claims, and no smaller next number
made_by : (s now : State) → now.desk.places ≡ s.desk.places → now.desk.undone ≡ s.desk.undone
    → s.graph.next ≤ now.graph.next → AreMade s → AreMade now
made_by s now places undone more made = record {
  placed = λ k some.
      (let low = made.placed k (subst (λ (f : ℕ → ℕ). 0 < f k) places some) in
      omega (arith, low, more));
  undone = λ k a c is.
      (let low = made.undone k a c (ap (λ (f : ℕ → ℕ → Option Held). f k a) (sym undone) ∙ is) in
      omega (arith, low, more));
}

-- a Finish counts no place
pub finish_places : (p : Plan) (s : State) (k machine : ℕ) (o : Option Held)
    → (finished_by p s k machine o).desk.places ≡ s.desk.places
finish_places p s k machine None = refl
finish_places p s k machine (Some c) = by_kind (is_run c.job.task)
  where
    by_kind : (b : Bool)
        → (if b then kept_by_driver s k (job_ran p.file (limits_of p) c.job)
        else kept_by_machine s k machine (job_ran p.file (limits_of p) c.job)).desk.places
        ≡ s.desk.places
    by_kind true = refl
    by_kind false = refl

-- a Settle makes no number
passed_next : (b : Bool) (g : Graph) (n : Node) (rest : List Node) (lines : List (List ℕ))
    (v : Value) → (passed b g n rest lines v).next ≡ g.next
passed_next true g n rest lines v = refl
passed_next false g n rest lines v = refl

result_next : (g : Graph) (n : Node) (rest : List Node) (lines : List (List ℕ))
    (r : Result Value Fault) → (settled_by g n rest lines r).next ≡ g.next
result_next g n rest lines (Ok v) = passed_next (is_pure n.work) g n rest lines v
result_next g n rest lines (Err f) = refl

head_next : (g : Graph) (n : Node) (rest : List Node) (o : Option (Evaluation Value))
    → (settled_as g n rest o).next ≡ g.next
head_next g n rest None = refl
head_next g n rest (Some e) = result_next g n rest e.lines e.result

chain_next : (p : Plan) (g : Graph) (ns : List Node) → (settled_chain p g ns).next ≡ g.next
chain_next p g [] = refl
chain_next p g (n ∷ rest) = head_next g n rest (leaf_meaning p.file (limits_of p) g.given n)

pub settled_next : (p : Plan) (g : Graph) → (settled p g).next ≡ g.next
unfolding settled
settled_next p g = chain_next p g g.chain

-- what a loss undoes was claimed, or undone before
pub undone_from : (machine attempt : ℕ) (claim before : Option Held) (c : Held)
    → undone_with machine attempt claim before ≡ Some c → (claim ≡ Some c) ⊎ (before ≡ Some c)
undone_from machine attempt None before c e = inr e
undone_from machine attempt (Some q) before c e =
    elim (if_cases (q.machine == machine) (if q.attempt == attempt then Some q else before) before
    (Some c) e) [
      | inr other ↦ inr other.1
      | inl same ↦ elim (if_cases (q.attempt == attempt) (Some q) before (Some c) same.1) [
        | inl is ↦ inl is.1
        | inr later ↦ inr later.1
      ]
    ]

-- what a seat does keeps it so
act_made : (p : Plan) (s : State) (seat : ℕ) (act : Act) → IsSound p s → CanAct p s seat act
    → AreMade s → AreMade (acted p s seat act)
unfolding acted trimmed
act_made p s seat (Place k a m) sound can made = record {
  placed = λ n some. elim (put_cases s.desk.places k a n (put_at s.desk.places k a n) refl) [
    | inl here ↦ subst (λ i. i < s.graph.next) (sym here.0)
        (ready_below p s.graph s.desk.stores k sound.graph can.1.is_ready)
    | inr old ↦ made.placed n (subst (λ i. 0 < i) (sym old.1) some)
  ];
  undone = λ n b c is. made.undone n b c is;
}
act_made p s seat (Claim k a m) sound can made =
    made_by s (acted p s seat (Claim k a m)) refl refl (no_less s.graph.next s.graph.next refl)
    made
act_made p s seat (Finish k a m) sound can made =
    let now : State = finished_by p s k m (s.desk.claim k) in
    made_by s now (finish_places p s k m (s.desk.claim k))
    (finish_undone p s k m (s.desk.claim k))
    (no_less s.graph.next now.graph.next (finish_alike p s k m (s.desk.claim k)).next) made
act_made p s seat (Drop k a m) sound can made = record {
  placed = λ n some. made.placed n some;
  undone = λ n b c is. made.undone n b c (undone_was s.desk.undone k a n b c is);
}
act_made p s seat (Refine k) sound can made =
    let r = refines_so p s k sound can.0.goes_on can.1 in
    subst (λ (g : Graph). AreMade (record s { graph = g })) (sym r.graph)
    (made_by s (record s { graph = growing s.graph r.node r.before r.after r.piece }) refl refl
    r.grows.new.grown made)
act_made p s seat (Settle k) sound can made =
    made_by s (record s { graph = settled p s.graph }) refl refl
    (no_less s.graph.next (settled p s.graph).next (settled_next p s.graph)) made
act_made p s seat (Lose m) sound can made = record {
  placed = λ n some. made.placed n some;
  undone = λ n b c is.
      elim (undone_from m b (s.desk.claim n) (s.desk.undone n b) c is) [
        | inl claim ↦ claimed_below p s n c sound claim
        | inr old ↦ made.undone n b c old
      ];
}
act_made p s seat (Trim k) sound can made =
    made_by s (acted p s seat (Trim k)) refl refl (no_less s.graph.next s.graph.next refl) made

pub event_made : (p : Plan) (s : State) (e : Event) → IsSound p s → CanAct p s e.by e.act
    → AreMade s → AreMade (happens p s e)
unfolding happens
event_made p s e sound can made =
    let now = act_made p s e.by e.act sound can made in
    record { placed = λ k some. now.placed k some; undone = λ k a c is. now.undone k a c is }

pub run_made : (p : Plan) (s : State) (es : List Event) → IsSound p s → AreMade s
    → IsLegalFrom p s es → AreMade (after p s es)
unfolding IsLegalFrom after
run_made p s [] sound made legal = made
run_made p s (e ∷ es) sound made legal =
    run_made p (happens p s e) es (event_keeps p s e sound legal.0)
    (event_made p s e sound legal.0.act made) legal.1

-- nothing was placed before any event
pub none_made : (p : Plan) → AreMade (first_state p)
none_made p = record {
  placed = λ k some. absurd (omega (arith, some));
  undone = λ k a c is. absurd (cc (is));
}

-- what a seat may do names such a node
pub act_below : (p : Plan) (s : State) (seat : ℕ) (act : Act) (k : ℕ) → IsSound p s → AreMade s
    → CanAct p s seat act → node_of act ≡ Some k → k < s.graph.next
act_below p s seat (Place n a m) k sound made can is =
    let same : n ≡ k = cc (is) in
    subst (λ i. i < s.graph.next) same
    (ready_below p s.graph s.desk.stores n sound.graph can.1.is_ready)
act_below p s seat (Claim n a m) k sound made can is =
    let same : n ≡ k = cc (is) in
    subst (λ i. i < s.graph.next) same
    (ready_below p s.graph s.desk.stores n sound.graph
    (sound.desk.ticket_ready n can.1.ticket can.1.is_live))
act_below p s seat (Finish n a m) k sound made can is =
    let same : n ≡ k = cc (is) in
    let c = holds_some (s.desk.claim n) seat a m can.1.holds in
    subst (λ i. i < s.graph.next) same (claimed_below p s n c.0 sound c.1)
act_below p s seat (Drop n a m) k sound made can is =
    let same : n ≡ k = cc (is) in subst (λ i. i < s.graph.next) same (by_cause can)
  where
    by_cause : CanDrop s seat n a m → n < s.graph.next
    by_cause (inl undone) =
        let c = holds_some (s.desk.undone n a) seat a m undone.1 in made.undone n a c.0 c.1
    by_cause (inr left) =
        let c = holds_some (s.desk.claim n) seat a m left.2 in claimed_below p s n c.0 sound c.1
act_below p s seat (Refine n) k sound made can is =
    let same : n ≡ k = cc (is) in
    subst (λ i. i < s.graph.next) (can.1.number ∙ same)
    (list_below (is_over s.graph) s.graph.next s.graph.chain can.1.node sound.graph.listed
    can.1.stands)
act_below p s seat (Settle n) k sound made can is =
    let same : n ≡ k = cc (is) in
    subst (λ i. i < s.graph.next) (can.1.number ∙ same)
    (list_below (is_over s.graph) s.graph.next s.graph.chain can.1.head sound.graph.listed
    (subst (λ (ns : List Node). Contains ns can.1.head) (sym can.1.chain)
    (here can.1.head can.1.rest)))
act_below p s seat (Lose m) k sound made can is = absurd (cc (is))
act_below p s seat (Trim n) k sound made can is =
    let same : n ≡ k = cc (is) in
    subst (λ i. i < s.graph.next) same (is_past p s n sound.graph can.1).below

-- the law
pub numbers_below : NumberLaw
numbers_below p es e k runnable legal can is =
    act_below p (after p (first_state p) es) e.by e.act k (run_keeps p es runnable legal)
    (run_made p (first_state p) es (starts p runnable) (none_made p) legal) can.act is

-- Tests of what may be done in a state.
use Rattle.std.proofs.Common.{◌≡◌, ◌<◌, ◌==◌, nat_eq, ℕ, zero, suc, pred, Bool, true, false, not, ◌&&◌, ◌||◌, cond, List, [], ◌∷◌, Option, None, Some, is_some, ◌⊎◌, inl, inr, refl, ap, sym, ◌∙◌, subst, arith}
use Rattle.std.specs.Prelude.{nat_lt}
use Rattle.std.proofs.lemmas.Bool.Decides.{nat_tests}
use Rattle.pyd_meaning.specs.declared.ran.Ran.{Ran}
use Rattle.pyd_ir.specs.declared.arg.Arg.{Arg}
use Rattle.pyd_ir.specs.declared.node.Node.{Node}
use Rattle.pyd_ir.specs.declared.work.Work.{Work}
use Rattle.pyd_ir.specs.declared.work.Work.TheVariants.{Op, Read, Call, Stop, Print, Run, Cond, While, For, Pick, Enter}
use Rattle.pyd_ir.specs.Arguments.{control, is_composite}
use Rattle.pyd_ir.specs.Inputs.{Given}
use Rattle.pyd_lineage.specs.Lineage.{is_among}
use Rattle.pyd_lineage.specs.Marking.{reached_names}
use Rattle.pyd_lineage.proofs.Reaching.{marked_is_reached, reached_is_marked}
use Rattle.pyd_refine.proofs.Ordering.{one-true}
use Rattle.pyd_runs.specs.Plans.{Plan}
use Rattle.pyd_runs.specs.Records.{records, recorded, node_at, is_ready}
use Rattle.pyd_runs.specs.Reach.{Needed}
use Rattle.pyd_runs.specs.Effects.{State}
use Rattle.pyd_runs.specs.Enabled.{WithinWindow, IsControlled, IsRecorded, WaitsNot, CanRefine, CanSettle}
use Rattle.pyd_runs.specs.Sound.{IsSound, stands, is_over}
use Rattle.pyd_runs.specs.HeadOrder.{has_record}
use Rattle.pyd_runs.specs.Deciding.{is_needed, is_free, PlaceTestLaw, is_within, is_controlled, is_refinable, RefineTestLaw, waits_not, settles_first, SettleTestLaw, TrimTestLaw}
use Rattle.pyd_runs.proofs.Putting.{same_test, test_same, at_cases}
use Rattle.pyd_runs.proofs.Readiness.{and_parts, and_both}
use Rattle.pyd_runs.proofs.Seeing.{or_second}
use Rattle.pyd_runs.proofs.Without.{stands_true}
use Rattle.pyd_runs.proofs.Standing.{node_found, found_there, list_apart, list_below, stands_node}
use Rattle.pyd_runs.proofs.Knowing.{record_from}
use Rattle.pyd_runs.proofs.Lineage.{reaches_same, needs_same}
use Rattle.pyd_runs.proofs.InOrder.{in_order, true_or_false}
use Rattle.pyd_runs.proofs.Named.{node_below}

-- nothing is there, and the test that says so
none_by : {A : Type 0} (o : Option A) → not (is_some o) ≡ true → o ≡ None
none_by None is = refl
none_by (Some a) is = absurd (cc (is))

by_none : {A : Type 0} (o : Option A) → o ≡ None → not (is_some o) ≡ true
by_none o none = ap (λ x. not (is_some x)) none

-- a test that isn't met
not_met : (b : Bool) → not b ≡ true → b ≡ true → ⊥
not_met true is b = absurd (cc (is))
not_met false is b = absurd (cc (b))

met_not : (b : Bool) → (b ≡ true → ⊥) → not b ≡ true
met_not true apart = absurd (apart refl)
met_not false apart = refl

or_first : (a b : Bool) → a ≡ true → (a || b) ≡ true
or_first true b is = refl
or_first false b is = absurd (cc (is))

-- the numbers below one that pass a test
passing_below : (ℕ → Bool) → ℕ → List ℕ
passing_below test zero = []
passing_below test (suc n) =
    cond (test n) (n ∷ passing_below test n) (passing_below test n)

step_more : (b : Bool) (m : ℕ) (ks : List ℕ) (n : ℕ) → is_among ks n ≡ true
    → is_among (cond b (m ∷ ks) ks) n ≡ true
step_more true m ks n is = or_second (nat_eq n m) (is_among ks n) is
step_more false m ks n is = is

step_here : (b : Bool) (m : ℕ) (ks : List ℕ) (n : ℕ) → b ≡ true → n ≡ m
    → is_among (cond b (m ∷ ks) ks) n ≡ true
step_here true m ks n is same = or_first (nat_eq n m) (is_among ks n) (same_test n m same)
step_here false m ks n is same = absurd (cc (is))

step_cases : (b : Bool) (m : ℕ) (ks : List ℕ) (n : ℕ) → is_among (cond b (m ∷ ks) ks) n ≡ true
    → ((b ≡ true) × (n ≡ m)) ⊎ (is_among ks n ≡ true)
step_cases true m ks n is = elim (one-true (nat_eq n m) (is_among ks n) is) [
  | inl here ↦ inl (refl, test_same n m here)
  | inr more ↦ inr more
]
step_cases false m ks n is = inr is

passes_among : (test : ℕ → Bool) (next n : ℕ) → test n ≡ true → n < next
    → is_among (passing_below test next) n ≡ true
unfolding passing_below
passes_among test zero n is low = absurd (omega (arith, low))
passes_among test (suc m) n is low = elim (at_cases n m) [
  | inl same ↦ step_here (test m) m (passing_below test m) n (ap test (sym same) ∙ is) same
  | inr other ↦ step_more (test m) m (passing_below test m) n
      (passes_among test m n is (omega (arith, low, other)))
]

among_passes : (test : ℕ → Bool) (next n : ℕ) → is_among (passing_below test next) n ≡ true
    → test n ≡ true
unfolding passing_below
among_passes test zero n is = absurd (cc (is))
among_passes test (suc m) n is =
    elim (step_cases (test m) m (passing_below test m) n is) [
      | inl here ↦ ap test here.1 ∙ here.0
      | inr more ↦ among_passes test m n more
    ]

-- where all that pass it are below one, a number is among them exactly where it passes
among_tests : (test : ℕ → Bool) (next : ℕ) → ((m : ℕ) → test m ≡ true → m < next) → (n : ℕ)
    → test n ≡ is_among (passing_below test next) n
among_tests test next below n = elim (true_or_false (test n)) [
  | inl is ↦ is ∙ sym (passes_among test next n is (below n is))
  | inr not ↦ elim (true_or_false (is_among (passing_below test next) n)) [
    | inl among ↦ absurd (let z = among_passes test next n among in cc (z, not))
    | inr away ↦ not ∙ sym away
  ]
]

some_by : {A : Type 0} (o : Option A) → is_some o ≡ true → (a : A) × (o ≡ Some a)
some_by None is = absurd (cc (is))
some_by (Some a) is = (a, refl)

module _ (p : Plan) (s : State) (sound : IsSound p s) where
  -- a node of the chain, by its number
  chain_below : (k : ℕ) → stands k s.graph.chain ≡ true → k < s.graph.next
  chain_below k there =
      let x = stands_node s.graph.chain k there in
      subst (λ i. i < s.graph.next) x.2
      (list_below (is_over s.graph) s.graph.next s.graph.chain x.0 sound.graph.listed x.1)

  driven_over : (a b : Bool) (o : Option Ran) → a ≡ false → is_some o ≡ true
      → (not a && (b || is_some o)) ≡ true
  driven_over true b o is there = absurd (cc (is))
  driven_over false true o is there = refl
  driven_over false false o is there = there

  -- what has a record is numbered below the next node
  recorded_below : (k : ℕ) → has_record s k ≡ true → k < s.graph.next
  recorded_below k is =
      let r = some_by (records s.graph s.desk.stores k) is in
      elim (record_from (s.graph.driver k) (s.desk.stores k) r.0 r.1) [
        | inl driver ↦ elim (true_or_false (stands k s.graph.chain)) [
          | inl there ↦ chain_below k there
          | inr away ↦ sound.graph.below k
              (driven_over (stands k s.graph.chain) (stands k s.graph.past) (s.graph.driver k) away
              (ap is_some driver))
        ]
        | inr store ↦ elim (sound.desk.stored k store.0 store.1) [
          | inl seen ↦ subst (λ i. i < s.graph.next) seen.number
              (node_below p s.graph seen.node sound.graph seen.stands)
          | inr gone ↦ gone.0
        ]
      ]

  -- the numbers of the nodes that have records
  abbrev known : List ℕ
  known = passing_below (has_record s) s.graph.next

  known_same : (n : ℕ) → has_record s n ≡ is_among known n
  known_same = among_tests (has_record s) s.graph.next recorded_below

  needed_by : (k : ℕ) → is_needed s k ≡ true → Needed s.graph s.desk.stores k
  needed_by k is =
      (needs_same p s.graph s.desk.stores known k sound.graph (λ n. sym (known_same n))).1
      (elim (one-true (stands k s.graph.chain)
      (is_among (reached_names s.graph.past s.graph.chain (has_record s)) k) is) [
        | inl there ↦ inl there
        | inr named ↦ inr (marked_is_reached s.graph.past s.graph.chain known (has_record s)
            known_same k named)
      ])

  by_needed_node : (k : ℕ) → Needed s.graph s.desk.stores k → is_needed s k ≡ true
  by_needed_node k needed =
      elim ((needs_same p s.graph s.desk.stores known k sound.graph (λ n. sym (known_same n))).0
      needed) [
        | inl there ↦ or_first (stands k s.graph.chain)
            (is_among (reached_names s.graph.past s.graph.chain (has_record s)) k) there
        | inr reached ↦ or_second (stands k s.graph.chain)
            (is_among (reached_names s.graph.past s.graph.chain (has_record s)) k)
            (reached_is_marked s.graph.past s.graph.chain known (has_record s) known_same
            (in_order p s.graph sound.graph).earlier k reached)
      ]

-- the law of places
pub tells_places : PlaceTestLaw
tells_places p s k sound = record {
  may = λ is machine lives.
      (let a = and_parts (is_ready s.graph s.desk.stores k) (is_needed s k && is_free s k) is in
      let b = and_parts (is_needed s k) (is_free s k) a.1 in
      let c = and_parts (not (has_record s k))
      (not (is_some (s.desk.ticket k)) && not (is_some (s.desk.claim k))) b.1 in
      let d = and_parts (not (is_some (s.desk.ticket k))) (not (is_some (s.desk.claim k))) c.1 in
      record {
        is_ready = a.0;
        is_needed = needed_by p s sound k b.0;
        no_record = none_by (records s.graph s.desk.stores k) c.0;
        no_ticket = none_by (s.desk.ticket k) d.0;
        no_claim = none_by (s.desk.claim k) d.1;
        next_attempt = refl;
        lives = lives;
      });
  only = λ attempt machine can.
      and_both (is_ready s.graph s.desk.stores k) (is_needed s k && is_free s k) can.is_ready
      (and_both (is_needed s k) (is_free s k) (by_needed_node p s sound k can.is_needed)
      (and_both (not (has_record s k))
      (not (is_some (s.desk.ticket k)) && not (is_some (s.desk.claim k)))
      (by_none (records s.graph s.desk.stores k) can.no_record)
      (and_both (not (is_some (s.desk.ticket k))) (not (is_some (s.desk.claim k)))
      (by_none (s.desk.ticket k) can.no_ticket) (by_none (s.desk.claim k) can.no_claim))));
}

-- a window that a node stands within
some_window : (window : ℕ) → nat_lt 0 window ≡ true → 0 < window
some_window window is = grind (arith, nat_tests)

window_some : (window : ℕ) → 0 < window → nat_lt 0 window ≡ true
window_some window low = grind (arith, nat_tests)

within_by : (window k : ℕ) (ns : List Node) → is_within window k ns ≡ true
    → WithinWindow window k ns
within_by window k [] is = absurd (cc (is))
within_by window k (n ∷ ns) is =
    let a = and_parts (nat_lt 0 window) (n.id == k || is_within (pred window) k ns) is in (
      some_window window a.0,
      elim (one-true (n.id == k) (is_within (pred window) k ns) a.1) [
        | inl here ↦ inl (test_same n.id k here)
        | inr later ↦ inr (within_by (pred window) k ns later)
      ],
    )

by_within : (window k : ℕ) (ns : List Node) → WithinWindow window k ns
    → is_within window k ns ≡ true
by_within window k [] within = absurd within
by_within window k (n ∷ ns) within =
    and_both (nat_lt 0 window) (n.id == k || is_within (pred window) k ns)
    (window_some window within.0)
    (elim within.1 [
      | inl here ↦ or_first (n.id == k) (is_within (pred window) k ns) (same_test n.id k here)
      | inr later ↦ or_second (n.id == k) (is_within (pred window) k ns)
          (by_within (pred window) k ns later)
    ])

-- the control's record
controlled_by : (given : Given) (o : Option Arg) → is_controlled given o ≡ true
    → IsControlled given o
controlled_by given None is = tt
controlled_by given (Some a) is = is

by_controlled : (given : Given) (o : Option Arg) → IsControlled given o
    → is_controlled given o ≡ true
by_controlled given None is = refl
by_controlled given (Some a) is = is

refines_by : (p : Plan) (s : State) (k : ℕ) (o : Option Node) → node_at s.graph.chain k ≡ o
    → is_refinable (recorded s.graph s.desk.stores) o ≡ true
    → WithinWindow p.setup.window k s.graph.chain → CanRefine p s k
refines_by p s k None found is window = absurd (cc (is))
refines_by p s k (Some n) found is window =
    let at = found_there s.graph.chain k n found in
    let a = and_parts (is_composite n.work)
    (is_controlled (recorded s.graph s.desk.stores) (control n.work)) is in
    record {
      node = n;
      stands = at.0;
      number = at.1;
      composite = a.0;
      control = controlled_by (recorded s.graph s.desk.stores) (control n.work) a.1;
      window = window;
    }

-- the law of refinements
pub tells_refines : RefineTestLaw
tells_refines p s k sound = (
  λ is.
      (let a = and_parts
      (is_refinable (recorded s.graph s.desk.stores) (node_at s.graph.chain k))
      (is_within p.setup.window k s.graph.chain) is in
      refines_by p s k (node_at s.graph.chain k) refl a.0
      (within_by p.setup.window k s.graph.chain a.1)),
  λ can.
      (let apart = list_apart (is_over s.graph) s.graph.next s.graph.chain sound.graph.listed in
      let found : node_at s.graph.chain k ≡ Some can.node
      = ap (node_at s.graph.chain) (sym can.number)
      ∙ node_found s.graph.chain can.node apart can.stands in
      and_both (is_refinable (recorded s.graph s.desk.stores) (node_at s.graph.chain k))
      (is_within p.setup.window k s.graph.chain)
      (ap (is_refinable (recorded s.graph s.desk.stores)) found
      ∙ and_both (is_composite can.node.work)
      (is_controlled (recorded s.graph s.desk.stores) (control can.node.work)) can.composite
      (by_controlled (recorded s.graph s.desk.stores) (control can.node.work) can.control))
      (by_within p.setup.window k s.graph.chain can.window)),
)

-- a record is there
recorded_by : (o : Option Ran) → is_some o ≡ true → IsRecorded o
recorded_by None is = absurd (cc (is))
recorded_by (Some ran) is = tt

by_recorded : (o : Option Ran) → IsRecorded o → is_some o ≡ true
by_recorded None is = absurd is
by_recorded (Some ran) is = refl

-- a head that doesn't wait
waits_by : (s : State) (k : ℕ) (w : Work) → waits_not s k w ≡ true → WaitsNot s k w
waits_by s k (Op op args) is = recorded_by (records s.graph s.desk.stores k) is
waits_by s k (Read arg kind) is = recorded_by (records s.graph s.desk.stores k) is
waits_by s k (Call func args) is = recorded_by (records s.graph s.desk.stores k) is
waits_by s k (Stop fault) is = tt
waits_by s k (Print args) is = is
waits_by s k (Run func args) is = recorded_by (records s.graph s.desk.stores k) is
waits_by s k (Cond test stmt arm rest env) is = absurd (cc (is))
waits_by s k (While test stmt turns rest env) is = absurd (cc (is))
waits_by s k (For over stmt turns rest env) is = absurd (cc (is))
waits_by s k (Pick test first second env) is = absurd (cc (is))
waits_by s k (Enter func args) is = absurd (cc (is))

by_waits : (s : State) (k : ℕ) (w : Work) → WaitsNot s k w → waits_not s k w ≡ true
by_waits s k (Op op args) waits = by_recorded (records s.graph s.desk.stores k) waits
by_waits s k (Read arg kind) waits = by_recorded (records s.graph s.desk.stores k) waits
by_waits s k (Call func args) waits = by_recorded (records s.graph s.desk.stores k) waits
by_waits s k (Stop fault) waits = refl
by_waits s k (Print args) waits = waits
by_waits s k (Run func args) waits = by_recorded (records s.graph s.desk.stores k) waits
by_waits s k (Cond test stmt arm rest env) waits = absurd waits
by_waits s k (While test stmt turns rest env) waits = absurd waits
by_waits s k (For over stmt turns rest env) waits = absurd waits
by_waits s k (Pick test first second env) waits = absurd waits
by_waits s k (Enter func args) waits = absurd waits

settles_by : (s : State) (k : ℕ) (ns : List Node) → s.graph.chain ≡ ns
    → settles_first s k ns ≡ true → CanSettle s k
settles_by s k [] chain is = absurd (cc (is))
settles_by s k (n ∷ ns) chain is =
    let a = and_parts (n.id == k) (waits_not s k n.work) is in
    record {
      head = n;
      rest = ns;
      chain = chain;
      number = test_same n.id k a.0;
      waits_not = waits_by s k n.work a.1;
    }

-- the law of settlings
pub tells_settles : SettleTestLaw
tells_settles s k = (
  λ is. settles_by s k s.graph.chain refl is,
  λ can. ap (settles_first s k) can.chain
      ∙ and_both (can.head.id == k) (waits_not s k can.head.work)
      (same_test can.head.id k can.number) (by_waits s k can.head.work can.waits_not),
)

-- the law of trims
pub tells_trims : TrimTestLaw
tells_trims p s k sound =
    let g = s.graph in
    let none : ℕ → Bool = λ n. false in
    let reached = is_among (reached_names g.past g.chain none) k in (
      λ is.
          (let a = and_parts (stands k g.past) (not reached) is in
          let x = stands_node g.past k a.0 in
          record {
            node = x.0;
            stands = x.1;
            number = x.2;
            unreached = λ r. not_met reached a.1
                (reached_is_marked g.past g.chain [] none (λ n. refl)
                (in_order p g sound.graph).earlier k ((reaches_same g k).0 r));
          }),
      λ can. and_both (stands k g.past) (not reached)
          (stands_true k g.past can.node can.stands can.number)
          (met_not reached (λ r. can.unreached ((reaches_same g k).1
          (marked_is_reached g.past g.chain [] none (λ n. refl) k r)))),
    )

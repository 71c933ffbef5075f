-- The graph once a piece has taken the place of a composite of its chain.
use Rattle.std.proofs.Common.{◌≡◌, ◌≢◌, ◌<◌, ◌≤◌, ℕ, zero, suc, Bool, true, false, not, ◌&&◌, ◌||◌, List, [], ◌∷◌, ◌++◌, map, Option, None, Some, is_some, ◌⊎◌, inl, inr, refl, ap, sym, ◌∙◌, subst, arith}
use Rattle.std.specs.Prelude.{IsTrue, Result, Ok, Err}
use Rattle.std.specs.List.{Contains}
use Rattle.std.proofs.lemmas.List.Elements.{All-contains, All-weaker, All-contains_itself, Contains-append_left, Contains-append_right, Contains-append_cases}
use Rattle.pyd_value.specs.declared.fault.Fault.{Fault}
use Rattle.pyd_meaning.specs.declared.ran.Ran.{Ran}
use Rattle.pyd_meaning.specs.Module.{end_of}
use Rattle.pyd_ir.specs.declared.arg.Arg.{Arg}
use Rattle.pyd_ir.specs.declared.node.Node.{Node}
use Rattle.pyd_ir.specs.Arguments.{is_pure, is_composite, arguments}
use Rattle.pyd_ir.specs.Inputs.{Given, has_inputs, leaf_meaning}
use Rattle.pyd_ir.specs.Ports.{Ports, no_ports}
use Rattle.pyd_translate.specs.declared.piece.Piece.{Piece}
use Rattle.pyd_translate.specs.Naming.{Numbers}
use Rattle.pyd_translate.specs.Walk.{give, walk}
use Rattle.pyd_translate.specs.SlotPorts.{HavePorts, no_numbers}
use Rattle.pyd_translate.specs.Supplied.{AreSupplied}
use Rattle.pyd_refine.specs.Laws.{IsNew, IsReplaced}
use Rattle.pyd_refine.specs.Ordering.{IsOrdered, and_nodes}
use Rattle.pyd_refine.specs.Readiness.{EndAlike}
use Rattle.pyd_refine.specs.Redirecting.{piece_images, redirect_node, replaced_by}
use Rattle.pyd_refine.proofs.Ordering.{one-true}
use Rattle.pyd_runs.specs.Plans.{Plan, limits_of}
use Rattle.pyd_runs.specs.Graphs.{Graph, end_at}
use Rattle.pyd_runs.specs.Reach.{Reached, by_chain, by_past, Names}
use Rattle.pyd_runs.specs.Sound.{IsGraphSound, Completes, IsFresh, HasGiven, ports_seen, leaf_seen, seen, sight, stands, is_over}
use Rattle.pyd_runs.proofs.Putting.{at_cases, put_same, put_else, other_test, none_apart}
use Rattle.pyd_runs.proofs.Readiness.{IsWithin}
use Rattle.pyd_runs.proofs.Without.{here, behind, fresh_apart, fresh_append, fresh_parts, fresh_stands, stands_true, or_true}
use Rattle.pyd_runs.proofs.Seeing.{seen_else}
use Rattle.pyd_runs.proofs.Standing.{AreApart, list_apart, list_below, stands_node}
use Rattle.pyd_runs.proofs.Within.{look_leaf, under_some}
use Rattle.pyd_runs.proofs.Knowing.{present, past_fresh}
use Rattle.pyd_runs.proofs.Claiming.{leaf_named}
use Rattle.pyd_runs.proofs.Passing.{stands_append, whole_at, unended}
use Rattle.pyd_runs.proofs.Passed.{pure_leaf}
use Rattle.pyd_runs.proofs.Redirected.{redirected_pure, redirected_names, map_fresh, fresh_map, map_stands, map_from, from_fresh, from_high, named, named_of, some_of, known_or_stands, order_names}
use Rattle.pyd_runs.proofs.Leading.{unseen, seen_append, seen_within}

-- a number lies below another, or not
pub below_or : (k n : ℕ) → (k < n) ⊎ (n ≤ k)
below_or zero zero = inr (omega arith)
below_or zero (suc n) = inl (omega arith)
below_or (suc k) zero = inr (omega arith)
below_or (suc k) (suc n) = elim (below_or k n) [
  | inl less ↦ inl (omega (arith, less))
  | inr more ↦ inr (omega (arith, more))
]

-- the graph with a piece between these nodes
abbrev pub growing : Graph → Node → List Node → List Node → Piece → Graph
growing g c before after piece = record g {
  chain = before ++ replaced_by c.id piece after;
  next = piece.next;
  end = end_at (before ++ replaced_by c.id piece after);
}

-- a new piece may take the place of a composite of the chain
pub record IsGrowing (p : Plan) (g : Graph) (c : Node) (before after : List Node) (piece : Piece)
    : Type 0 where
  pub goes_on : g.end ≡ None
  pub split : g.chain ≡ before ++ c ∷ after
  pub composite : is_composite c.work ≡ true
  pub undriven : g.driver c.id ≡ None
  pub replaced : IsReplaced p.file (limits_of p) (is_over g) g.given before c after piece
  pub new : IsNew (named (arguments c.work)) g.next piece
  pub supplied : AreSupplied p.file (limits_of p) piece.next
      (before ++ replaced_by c.id piece after) g.given
  pub slots : HavePorts no_numbers (before ++ replaced_by c.id piece after)

-- numbers of a list that is apart
fresh_before : (before : List Node) (c : Node) (after : List Node)
    → AreApart (before ++ c ∷ after) → IsFresh c.id before
fresh_before [] c after apart = tt
fresh_before (x ∷ before) c after apart = (
  (λ z. fresh_apart x.id (before ++ c ∷ after) c apart.0
      (Contains-append_right before (c ∷ after) c (here c after)) (sym z)),
  fresh_before before c after apart.1,
)

fresh_after : (before : List Node) (c : Node) (after : List Node)
    → AreApart (before ++ c ∷ after) → IsFresh c.id after
fresh_after [] c after apart = apart.0
fresh_after (x ∷ before) c after apart = fresh_after before c after apart.1

-- tests
and_false : (b : Bool) → (not b && false) ≡ false
and_false true = refl
and_false false = refl

over_true : (a b : Bool) → a ≡ false → b ≡ true → (not a && b) ≡ true
over_true true b f t = absurd (cc (f))
over_true false b f t = t

-- a faultless end is alike
ends_alike : (x y : Result Given Fault) → EndAlike x y → end_of x ≡ end_of y
ends_alike (Ok x) (Ok y) alike = refl
ends_alike (Ok x) (Err f) alike = absurd alike
ends_alike (Err f) (Ok y) alike = absurd alike
ends_alike (Err f) (Err e) alike = ap (λ (z : Fault). end_of {A = Given} (Err z)) alike

-- what is seen of a list begins with its first node
first_seen : (p : Plan) (given : Given) (n : Node) (ns : List Node)
    → seen p given (n ∷ ns) ≡ seen p (give n.id (ports_seen n (leaf_seen p given n)) given) ns
unfolding seen
first_seen p given n ns = refl

module _ (p : Plan) (g : Graph) (c : Node) (before after : List Node) (piece : Piece)
    (sound : IsGraphSound p g) (m : IsGrowing p g c before after piece) where
  abbrev list : List Node
  list = before ++ replaced_by c.id piece after

  abbrev images : List Arg
  images = piece_images piece

  abbrev later : List Node
  later = map (redirect_node c.id (piece_images piece)) after

  pub chain_apart : AreApart (before ++ c ∷ after)
  chain_apart = subst AreApart m.split (list_apart (is_over g) g.next g.chain sound.listed)

  pub c_there : Contains g.chain c
  c_there =
      subst (λ (ns : List Node). Contains ns c) (sym m.split)
      (Contains-append_right before (c ∷ after) c (here c after))

  pub c_below : c.id < g.next
  c_below = list_below (is_over g) g.next g.chain c sound.listed c_there

  pub c_blank : (port : ℕ) → g.given c.id port ≡ None
  c_blank port = sound.blank c.id port (inl (stands_true c.id g.chain c c_there refl))

  pub c_before : IsFresh c.id before
  c_before = fresh_before before c after chain_apart

  pub c_after : IsFresh c.id after
  c_after = fresh_after before c after chain_apart

  -- numbers that were given before aren't the piece's
  pub new_fresh : (k : ℕ) → k < g.next → IsFresh k piece.nodes
  new_fresh k below = from_fresh g.next piece.nodes k m.new.numbers below

  pub c_gone : IsFresh c.id list
  c_gone =
      fresh_append c.id before (piece.nodes ++ later) c_before
      (fresh_append c.id piece.nodes later (new_fresh c.id c_below)
      (map_fresh c.id images after c.id c_after))

  pub fresh_now : (k : ℕ) → k < g.next → IsFresh k g.chain → IsFresh k list
  fresh_now k below fresh =
      let parts = fresh_parts k before (c ∷ after) (subst (IsFresh k) m.split fresh) in
      fresh_append k before (piece.nodes ++ later) parts.0
      (fresh_append k piece.nodes later (new_fresh k below)
      (map_fresh c.id images after k parts.1.1))

  pub fresh_was : (k : ℕ) → k ≢ c.id → IsFresh k list → IsFresh k g.chain
  fresh_was k other fresh =
      let parts = fresh_parts k before (piece.nodes ++ later) fresh in
      let behind = fresh_parts k piece.nodes later parts.1 in
      subst (IsFresh k) (sym m.split)
      (fresh_append k before (c ∷ after) parts.0
      ((λ z. other (sym z)), fresh_map c.id images after k behind.1))

  -- another number that was given before stands where it stood
  pub stands_now : (k : ℕ) → k < g.next → k ≢ c.id → stands k list ≡ stands k g.chain
  stands_now k below other =
      stands_append k before (piece.nodes ++ later)
      ∙ ap (λ b. stands k before || b)
      (stands_append k piece.nodes later
      ∙ ap (λ b. b || stands k later) (fresh_stands k piece.nodes (new_fresh k below))
      ∙ map_stands c.id images after k
      ∙ sym (ap (λ b. b || stands k after) (other_test c.id k (λ z. other (sym z)))))
      ∙ sym (stands_append k before (c ∷ after))
      ∙ ap (stands k) (sym m.split)

  -- a node of the chain has a number that was given
  pub stands_below : (k : ℕ) → stands k g.chain ≡ true → k < g.next
  stands_below k is =
      let x = stands_node g.chain k is in
      subst (λ i. i < g.next) x.2 (list_below (is_over g) g.next g.chain x.0 sound.listed x.1)

  -- so has what is settled
  pub done_below : (k : ℕ) → (stands k g.past || is_some (g.driver k)) ≡ true → k < g.next
  done_below k is = by_test (stands k g.chain) refl
    where
      by_test : (b : Bool) → stands k g.chain ≡ b → k < g.next
      by_test true there = stands_below k there
      by_test false away = sound.below k
          (over_true (stands k g.chain) (stands k g.past || is_some (g.driver k)) away is)

  driver_some : (o : Option Ran) → is_some o ≡ true → o ≡ None → ⊥
  driver_some o is none = absurd (let z = ap is_some none in cc (z, is))

  pub done_apart : (k : ℕ) → (stands k g.past || is_some (g.driver k)) ≡ true → k ≢ c.id
  done_apart k is same = elim (one-true (stands k g.past) (is_some (g.driver k)) is) [
    | inl past ↦
        let x = stands_node g.past k past in
        fresh_apart x.0.id g.chain c (past_fresh p g x.0 sound x.1) c_there
        (sym same ∙ sym x.2)
    | inr driver ↦ driver_some (g.driver k) driver (ap g.driver same ∙ m.undriven)
  ]

  -- what was over is over, and no other
  pub over_now : (k : ℕ) → is_over (growing g c before after piece) k ≡ is_over g k
  over_now k = by_test (stands k g.past || is_some (g.driver k)) refl
    where
      by_test : (b : Bool) → (stands k g.past || is_some (g.driver k)) ≡ b
          → is_over (growing g c before after piece) k ≡ is_over g k
      by_test false is =
          ap (λ b. not (stands k list) && b) is ∙ and_false (stands k list)
          ∙ sym (ap (λ b. not (stands k g.chain) && b) is ∙ and_false (stands k g.chain))
      by_test true is =
          ap (λ b. not b && (stands k g.past || is_some (g.driver k)))
          (stands_now k (done_below k is) (done_apart k is))

  -- what may be named still may, but for the composite
  pub present_now : (k : ℕ) → k ≢ c.id → IsTrue (present g k)
      → IsTrue (present (growing g c before after piece) k)
  present_now k other is = elim (one-true (is_over g k) (stands k g.chain) is) [
    | inl over ↦ ap (λ b. b || stands k list) (over_now k ∙ over)
    | inr there ↦
        ap (λ b. is_over (growing g c before after piece) k || b)
        (stands_now k (stands_below k there) other ∙ there)
        ∙ or_true (is_over (growing g c before after piece) k)
  ]

  -- a past node doesn't name the composite
  past_unnamed : (x : Node) → Contains g.past x → Names x c.id → ⊥
  past_unnamed x at names =
      let h = All-contains (HasGiven p g) g.past x sound.past at in
      let l = look_leaf p g.given x h.looked h.look in
      let inputs = (under_some (has_inputs g.given x.work)
      (leaf_meaning p.file (limits_of p) g.given x) h.looked l.1).0 in
      let w = leaf_named g.given x.work c.id (pure_leaf x.work l.0) inputs names in
      none_apart (g.given c.id w.0) w.1 (c_blank w.0) w.2

  past_below : (x : Node) → Contains g.past x → x.id < g.next
  past_below x at =
      done_below x.id (ap (λ b. b || is_some (g.driver x.id)) (stands_true x.id g.past x at refl))

  -- what the composite or the piece names, where it isn't new, the chain reached
  new_reached : (j : ℕ) → IsFresh j list
      → (named (arguments c.work) j ≡ true) ⊎ (stands j piece.nodes ≡ true) → Reached g j
  new_reached j fresh (inl of) = by_chain c j c_there (named_of (arguments c.work) j of)
  new_reached j fresh (inr there) =
      let parts = fresh_parts j before (piece.nodes ++ later) fresh in
      let f = fresh_stands j piece.nodes (fresh_parts j piece.nodes later parts.1).0 in
      absurd (cc (f, there))

  list_reached : (x : Node) (j : ℕ) → Contains list x → Names x j → IsFresh j list → Reached g j
  list_reached x j at names fresh =
      elim (Contains-append_cases before (piece.nodes ++ later) x at) [
        | inl first ↦ by_chain x j (subst (λ (ns : List Node). Contains ns x) (sym m.split)
            (Contains-append_left before (c ∷ after) x first)) names
        | inr more ↦ elim (Contains-append_cases piece.nodes later x more) [
          | inl own ↦ new_reached j fresh
              (order_names (named (arguments c.work)) piece.next piece.nodes x j m.new.nodes own
              names)
          | inr last ↦
              let from = map_from c.id images after x last in
              elim (redirected_names c.id images from.0 j
              (subst (λ (y : Node). Names y j) (sym from.2) names)) [
                | inl old ↦ by_chain from.0 j (subst (λ (ns : List Node). Contains ns from.0)
                    (sym m.split) (Contains-append_right before (c ∷ after) from.0
                    (behind c after from.0 from.1))) old
                | inr image ↦ new_reached j fresh
                    (known_or_stands (named (arguments c.work)) piece.nodes j
                    (some_of (and_nodes (named (arguments c.work)) piece.nodes) images j
                    m.new.ports image))
              ]
        ]
      ]

  reached_was : (j : ℕ) → Reached (growing g c before after piece) j → IsFresh j list
      → Reached g j
  reached_was j (by_chain x i at names) fresh = list_reached x j at names fresh
  reached_was j (by_past x i at reached names) fresh =
      by_past x j at (reached_was x.id reached
      (fresh_now x.id (past_below x at) (past_fresh p g x sound at))) names

  now_present : (k : ℕ) → Reached (growing g c before after piece) k
      → IsTrue (present (growing g c before after piece) k)
  now_present k (by_chain x i at names) =
      elim (order_names (is_over g) piece.next list x k m.replaced.order at names) [
        | inl over ↦ ap (λ b. b || stands k list) (over_now k ∙ over)
        | inr there ↦
            ap (λ b. is_over (growing g c before after piece) k || b) there
            ∙ or_true (is_over (growing g c before after piece) k)
      ]
  now_present k (by_past x i at reached names) =
      let old = reached_was x.id reached
      (fresh_now x.id (past_below x at) (past_fresh p g x sound at)) in
      present_now k (λ z. past_unnamed x at (subst (Names x) z names))
      (sound.present k (by_past x k at old names))

  -- a node of the chain is one of before, a new one, or one of before redirected
  pub list_cases : (x : Node) → Contains list x
      → Contains g.chain x ⊎ (Contains piece.nodes x
      ⊎ ((n : Node) × Contains after n × (redirect_node c.id (piece_images piece) n ≡ x)))
  list_cases x at = elim (Contains-append_cases before (piece.nodes ++ later) x at) [
    | inl first ↦ inl (subst (λ (ns : List Node). Contains ns x) (sym m.split)
        (Contains-append_left before (c ∷ after) x first))
    | inr more ↦ elim (Contains-append_cases piece.nodes later x more) [
      | inl own ↦ inr (inl own)
      | inr last ↦ inr (inr (map_from c.id images after x last))
    ]
  ]

  pub after_there : (n : Node) → Contains after n → Contains g.chain n
  after_there n at =
      subst (λ (ns : List Node). Contains ns n) (sym m.split)
      (Contains-append_right before (c ∷ after) n (behind c after n at))

  -- the driver has nothing of a new node
  pub new_undriven : (k : ℕ) → g.next ≤ k → g.driver k ≡ None
  new_undriven k high = by_record (g.driver k) refl
    where
      by_record : (o : Option Ran) → g.driver k ≡ o → g.driver k ≡ None
      by_record None is = is
      by_record (Some ran) is =
          let low = done_below k (ap (λ o. stands k g.past || is_some o) is
          ∙ or_true (stands k g.past)) in absurd (omega (arith, low, high))

  now_effects : (x : Node) → Contains (g.past ++ list) x → is_pure x.work ≡ true
      → g.driver x.id ≡ None
  now_effects x at pure = elim (Contains-append_cases g.past list x at) [
    | inl past ↦ sound.effects x (Contains-append_left g.past g.chain x past) pure
    | inr more ↦ elim (list_cases x more) [
      | inl old ↦ sound.effects x (Contains-append_right g.past g.chain x old) pure
      | inr rest ↦ elim rest [
        | inl new ↦ new_undriven x.id (from_high g.next piece.nodes x m.new.numbers new)
        | inr from ↦
            ap (λ (y : Node). g.driver y.id) (sym from.2)
            ∙ sound.effects from.0
            (Contains-append_right g.past g.chain from.0 (after_there from.0 from.1))
            (sym (redirected_pure c.id images from.0.work)
            ∙ ap (λ (y : Node). is_pure y.work) from.2 ∙ pure)
      ]
    ]
  ]

  now_completes : Completes p g.out (walk p.file (limits_of p) list g.given)
  now_completes =
      let old = subst (λ (ns : List Node). Completes p g.out (walk p.file (limits_of p) ns g.given))
      m.split (sound.goes_on m.goes_on) in
      let same = m.replaced.same in
      record {
        lines = ap (λ (lines : List (List ℕ)). g.out ++ lines) same.lines ∙ old.lines;
        as_script =
            ends_alike (walk p.file (limits_of p) list g.given).result
            (walk p.file (limits_of p) (before ++ c ∷ after) g.given).result same.ends
            ∙ old.as_script;
      }

  now_blank : (k port : ℕ) → IsTrue (stands k list) ⊎ (piece.next ≤ k)
      → g.given k port ≡ None
  now_blank k port (inr high) =
      let grown = m.new.grown in sound.blank k port (inr (omega (arith, high, grown)))
  now_blank k port (inl there) = elim (below_or k g.next) [
    | inr high ↦ sound.blank k port (inr high)
    | inl low ↦ elim (at_cases k c.id) [
      | inl same ↦ ap (λ i. g.given i port) same ∙ c_blank port
      | inr other ↦ sound.blank k port (inl (sym (stands_now k low other) ∙ there))
    ]
  ]

  -- the graph is sound
  pub graph_grown : IsGraphSound p (growing g c before after piece)
  graph_grown =
      let g' = growing g c before after piece in
      let over : is_over g' ≡ is_over g = (λ i k. over_now k i) in
      record {
        goes_on = λ none. now_completes;
        ended = λ end is. whole_at p g.out g.given list end is now_completes;
        unfinished = unended list;
        supplied = λ none. m.supplied;
        listed = subst (λ (known : Numbers). IsOrdered known piece.next list) (sym over)
            m.replaced.order;
        below = λ k is. (let low = sound.below k (sym (over_now k) ∙ is) in
            let grown = m.new.grown in omega (arith, low, grown));
        slots = m.slots;
        ordered = sound.ordered;
        apart = All-weaker (Contains g.past) (λ (x : Node). IsFresh x.id list)
            (λ x at. fresh_now x.id (past_below x at) (past_fresh p g x sound at))
            g.past (All-contains_itself g.past);
        past = All-weaker (HasGiven p g) (HasGiven p g')
            (λ x h. record {
              value = h.value;
              looked = h.looked;
              look = h.look;
              gave = h.gave;
              ports = h.ports;
            }) g.past sound.past;
        present = now_present;
        driven = λ k ran is fresh.
            (let other : k ≢ c.id = (λ z. none_apart (g.driver c.id) ran m.undriven
            (ap g.driver (sym z) ∙ is)) in
            let h = sound.driven k ran is (fresh_was k other fresh) in
            record {
              value = h.value;
              outcome = h.outcome;
              port = h.port;
              no_other = h.no_other;
            });
        effects = now_effects;
        blank = now_blank;
      }

  -- more is seen
  pub sight_grown : IsWithin (sight p g) (sight p (growing g c before after piece))
  sight_grown =
      let G : Given = seen p g.given before in
      let old : sight p g ≡ seen p G (c ∷ after)
      = ap (seen p g.given) m.split ∙ seen_append p g.given before (c ∷ after) in
      let now : sight p (growing g c before after piece) ≡ seen p (seen p G piece.nodes) later
      = seen_append p g.given before (piece.nodes ++ later) ∙ seen_append p G piece.nodes later in
      let all = seen_within p c.id images after (give c.id no_ports G) (seen p G piece.nodes)
      piece_within (λ port. ap (λ (f : Ports). f port) (put_same G c.id no_ports c.id refl)) c_after in
      λ k port v has.
      ap (λ (f : Given). f k port) now
      ∙ all k port v (sym (ap (λ (f : Given). f k port) (old ∙ composite_seen G)) ∙ has)
    where
      composite_seen : (G : Given) → seen p G (c ∷ after) ≡ seen p (give c.id no_ports G) after
      composite_seen G =
          first_seen p G c after ∙ ap (λ o. seen p (give c.id (ports_seen c o) G) after)
          (unseen p G c m.composite)

      before_below : (x : Node) → Contains before x → x.id < g.next
      before_below x at =
          list_below (is_over g) g.next g.chain x sound.listed
          (subst (λ (ns : List Node). Contains ns x) (sym m.split)
          (Contains-append_left before (c ∷ after) x at))

      high_fresh : (ns : List Node) (k : ℕ) → ((x : Node) → Contains ns x → x.id < g.next)
          → g.next ≤ k → IsFresh k ns
      high_fresh [] k low high = tt
      high_fresh (x ∷ ns) k low high = (
        (λ z. let less = low x (here x ns) in absurd (omega (arith, z, less, high))),
        high_fresh ns k (λ y at. low y (behind x ns y at)) high,
      )

      high_blank : (k port : ℕ) → g.next ≤ k → seen p g.given before k port ≡ None
      high_blank k port high =
          ap (λ (f : Ports). f port) (seen_else p g.given before k
          (high_fresh before k (λ x at. before_below x at) high))
          ∙ sound.blank k port (inr high)

      piece_within : IsWithin (give c.id no_ports (seen p g.given before))
          (seen p (seen p g.given before) piece.nodes)
      piece_within k port v has = elim (at_cases k c.id) [
        | inl same ↦ absurd (let z = sym (ap (λ (f : Ports). f port)
            (put_same (seen p g.given before) c.id no_ports k same)) ∙ has in cc (z))
        | inr other ↦
            let was = sym (ap (λ (f : Ports). f port)
            (put_else (seen p g.given before) c.id no_ports k other)) ∙ has in
            elim (below_or k g.next) [
              | inl low ↦
                  ap (λ (f : Ports). f port)
                  (seen_else p (seen p g.given before) piece.nodes k (new_fresh k low)) ∙ was
              | inr high ↦ absurd (none_apart (seen p g.given before k port) v
                  (high_blank k port high) was)
            ]
      ]

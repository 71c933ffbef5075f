-- A chain whose head gave a value and was passed.
use Rattle.std.proofs.Common.{◌≡◌, ◌≢◌, ◌<◌, ◌≤◌, ◌==◌, ℕ, Bool, true, false, ◌||◌, List, [], ◌∷◌, ◌++◌, append_assoc, Option, None, Some, ◌⊎◌, inl, inr, refl, ap, sym, ◌∙◌, subst, arith}
use Rattle.std.specs.Prelude.{IsTrue, Ok}
use Rattle.std.specs.List.{All, Contains}
use Rattle.std.proofs.lemmas.List.{append-nil}
use Rattle.std.proofs.lemmas.List.Elements.{All-contains, Contains-append_right}
use Rattle.std.proofs.lemmas.List.Folds.{list_any-append}
use Rattle.pyd_value.specs.declared.value.Value.{Value}
use Rattle.pyd_value.specs.declared.fault.End.{End}
use Rattle.pyd_meaning.specs.declared.ran.Ran.{Ran}
use Rattle.pyd_meaning.specs.Evaluation.{Evaluation, settled}
use Rattle.pyd_meaning.specs.Module.{end_of}
use Rattle.pyd_ir.specs.declared.node.Node.{Node}
use Rattle.pyd_ir.specs.Arguments.{is_pure}
use Rattle.pyd_ir.specs.Inputs.{Given, has_inputs, leaf_meaning}
use Rattle.pyd_ir.specs.Ports.{Ports, ports_of}
use Rattle.pyd_translate.specs.Naming.{Numbers}
use Rattle.pyd_translate.specs.Walk.{give, walk}
use Rattle.pyd_translate.specs.SlotPorts.{HavePorts, no_numbers}
use Rattle.pyd_translate.specs.Supplied.{AreSupplied, WhereGiven}
use Rattle.pyd_translate.proofs.SlotPorts.{leaf_ports}
use Rattle.pyd_refine.specs.Ordering.{IsOrdered, and_one}
use Rattle.pyd_runs.specs.Plans.{Plan, limits_of}
use Rattle.pyd_runs.specs.Graphs.{Graph, nodes, end_at}
use Rattle.pyd_runs.specs.Reach.{Reached}
use Rattle.pyd_runs.specs.Sound.{IsGraphSound, Completes, IsWhole, IsFresh, IsDriven, HasGiven, AreOrdered, leaf_seen, stands, is_over}
use Rattle.pyd_runs.proofs.Putting.{at_cases, put_same, put_else, same_test, other_test, none_apart}
use Rattle.pyd_runs.proofs.Readiness.{IsWithin}
use Rattle.pyd_runs.proofs.Without.{here, behind, fresh_apart, stands_true, fresh_stands}
use Rattle.pyd_runs.proofs.Seeing.{known_fresh}
use Rattle.pyd_runs.proofs.Within.{look_leaf, leaf_look, leaf_within, some_under}
use Rattle.pyd_runs.proofs.Knowing.{present, past_fresh}
use Rattle.pyd_runs.proofs.Leaves.{value_inputs, leaf_ok, walk_ok}
use Rattle.pyd_runs.proofs.Leading.{meaning_leaf}

-- the head of the chain gives a value
pub record IsHead (p : Plan) (g : Graph) (n : Node) (rest : List Node) (e : Evaluation Value)
    (v : Value) : Type 0 where
  pub goes_on : g.end ≡ None
  pub chain : g.chain ≡ n ∷ rest
  pub meant : leaf_meaning p.file (limits_of p) g.given n ≡ Some e
  pub gave : e.result ≡ Ok v

-- the graph once it is passed, with this past and these records of the driver
abbrev pub passing : Graph → Node → List Node → Evaluation Value → Value → List Node
    → (ℕ → Option Ran) → Graph
passing g n rest e v past driver = record {
  past = past;
  chain = rest;
  next = g.next;
  given = give n.id (ports_of n.work v) g.given;
  driver = driver;
  out = g.out ++ e.lines;
  end = end_at rest;
}

-- a list behind two others
pub stands_append : (k : ℕ) (xs ys : List Node)
    → stands k (xs ++ ys) ≡ (stands k xs || stands k ys)
stands_append k xs ys = list_any-append (λ (n : Node). n.id == k) xs ys

-- where no node is left, the lines that are out are all
pub whole_at : (p : Plan) (out : List (List ℕ)) (given : Given) (ns : List Node) (end : End)
    → end_at ns ≡ Some end → Completes p out (walk p.file (limits_of p) ns given)
    → IsWhole p out end
unfolding walk settled
whole_at p out given [] end is c = record {
  lines = sym (append-nil out) ∙ c.lines;
  as_script = (let z = c.as_script in cc (z, is));
}
whole_at p out given (x ∷ ns) end is c = absurd (cc (is))

-- where the run goes on, a node is left
pub unended : (ns : List Node) → end_at ns ≡ None → ns ≢ []
unended [] none = absurd (cc (none))
unended (x ∷ ns) none = λ z. absurd (cc (z))

module _ (p : Plan) (g : Graph) (n : Node) (rest : List Node) (e : Evaluation Value) (v : Value)
    (sound : IsGraphSound p g) (head : IsHead p g n rest e v) where
  -- what is given from now on
  abbrev pub now_given : Given
  now_given = give n.id (ports_of n.work v) g.given

  -- the chain is in order
  pub chain_order : IsOrdered (is_over g) g.next (n ∷ rest)
  chain_order = subst (IsOrdered (is_over g) g.next) head.chain sound.listed

  -- no slot port that the others name is the head's, which is a leaf
  rest_ports : HavePorts no_numbers rest
  rest_ports =
      leaf_ports no_numbers n rest
      (meaning_leaf p.file (limits_of p) g.given n.line n.depth n.work e head.meant)
      (subst (HavePorts no_numbers) head.chain sound.slots)

  -- the head stands in it
  pub head_there : Contains g.chain n
  head_there = subst (λ (ns : List Node). Contains ns n) (sym head.chain) (here n rest)

  pub head_among : Contains (nodes g) n
  head_among = Contains-append_right g.past g.chain n head_there

  pub rest_there : (x : Node) → Contains rest x → Contains g.chain x
  rest_there x at = subst (λ (ns : List Node). Contains ns x) (sym head.chain) (behind n rest x at)

  -- and isn't among the others
  pub head_fresh : IsFresh n.id rest
  head_fresh =
      known_fresh (and_one (is_over g) n.id) g.next rest n.id chain_order.3
      (ap (λ b. b || is_over g n.id) (same_test n.id n.id refl))

  -- a number that isn't the head's, and that the others don't have, the chain doesn't have
  pub chain_fresh : (k : ℕ) → k ≢ n.id → IsFresh k rest → IsFresh k g.chain
  chain_fresh k other fresh =
      subst (IsFresh k) (sym head.chain) ((λ z. other (sym z)), fresh)

  -- nothing stood at its ports
  pub head_blank : (port : ℕ) → g.given n.id port ≡ None
  head_blank port = sound.blank n.id port (inl (stands_true n.id g.chain n head_there refl))

  -- so more is given
  pub now_more : IsWithin g.given now_given
  now_more k port w has = elim (at_cases k n.id) [
    | inl same ↦ absurd (none_apart (g.given n.id port) w (head_blank port)
        (ap (λ i. g.given i port) (sym same) ∙ has))
    | inr other ↦
        ap (λ (ports : Ports). ports port) (put_else g.given n.id (ports_of n.work v) k other)
        ∙ has
  ]

  -- what is seen of the head
  pub head_leaf : leaf_seen p g.given n ≡ Some e
  head_leaf =
      some_under (has_inputs g.given n.work) (leaf_meaning p.file (limits_of p) g.given n) e
      (value_inputs p.file (limits_of p) g.given n.line n.depth n.work e v head.meant head.gave)
      head.meant

  -- a past node gave what it gave
  pub past_given : (past : List Node) (driver : ℕ → Option Ran) (x : Node) → Contains g.past x
      → HasGiven p (passing g n rest e v past driver) x
  past_given past driver x at =
      let h = All-contains (HasGiven p g) g.past x sound.past at in
      let l = look_leaf p g.given x h.looked h.look in
      let apart : x.id ≢ n.id
      = (λ z. fresh_apart x.id g.chain n (past_fresh p g x sound at) head_there (sym z)) in
      record {
        value = h.value;
        looked = h.looked;
        look = leaf_look p now_given x h.looked l.0
            (leaf_within p g.given now_given now_more x h.looked l.1);
        gave = h.gave;
        ports = λ port.
            ap (λ (ports : Ports). ports port)
            (put_else g.given n.id (ports_of n.work v) x.id apart)
            ∙ h.ports port;
      }

  -- and the head gave this
  pub head_given : (past : List Node) (driver : ℕ → Option Ran) → is_pure n.work ≡ true
      → HasGiven p (passing g n rest e v past driver) n
  head_given past driver pure = record {
    value = v;
    looked = e;
    look = leaf_look p now_given n e pure
        (leaf_within p g.given now_given now_more n e head_leaf);
    gave = head.gave;
    ports = λ port. ap (λ (ports : Ports). ports port)
        (put_same g.given n.id (ports_of n.work v) n.id refl);
  }

  -- what is over from now on: what was, and the head
  abbrev pub IsOverNow : List Node → (ℕ → Option Ran) → Type 0
  IsOverNow past driver =
      (k : ℕ) → is_over (passing g n rest e v past driver) k ≡ and_one (is_over g) n.id k

  -- the lines that are out and to come
  now_completes : Completes p (g.out ++ e.lines) (walk p.file (limits_of p) rest now_given)
  now_completes =
      let old = subst (λ (ns : List Node). Completes p g.out (walk p.file (limits_of p) ns g.given))
      head.chain (sound.goes_on head.goes_on) in
      let does = walk_ok p.file (limits_of p) g.given n rest e v head.meant head.gave in
      record {
        lines =
            append_assoc g.out e.lines (walk p.file (limits_of p) rest now_given).lines
            ∙ ap (λ (lines : List (List ℕ)). g.out ++ lines) (sym does.0)
            ∙ old.lines;
        as_script = ap (λ r. end_of r) (sym does.1) ∙ old.as_script;
      }

  -- the others have what they need
  now_supplied : AreSupplied p.file (limits_of p) g.next rest now_given
  unfolding AreSupplied
  now_supplied =
      let old = subst (λ (ns : List Node). AreSupplied p.file (limits_of p) g.next ns g.given)
      head.chain (sound.supplied head.goes_on) in
      subst (λ r. WhereGiven r
      (λ ports. AreSupplied p.file (limits_of p) g.next rest (give n.id ports g.given)))
      (leaf_ok p.file (limits_of p) g.given n e v head.meant head.gave).1 old.2

  -- what may be named still may
  pub now_present : (past : List Node) (driver : ℕ → Option Ran) → IsOverNow past driver
      → (k : ℕ) → IsTrue (present g k) → IsTrue (present (passing g n rest e v past driver) k)
  now_present past driver over k is =
      let old : IsTrue (is_over g k || stands k (n ∷ rest))
      = ap (λ (ns : List Node). is_over g k || stands k ns) (sym head.chain) ∙ is in
      ap (λ b. b || stands k rest) (over k)
      ∙ by_test (k == n.id) (n.id == k) (is_over g k) (stands k rest) (turned k n.id) old
    where
      turned : (i j : ℕ) → (i == j) ≡ (j == i)
      turned i j = elim (at_cases i j) [
        | inl same ↦ same_test i j same ∙ sym (same_test j i (sym same))
        | inr other ↦ other_test i j other ∙ sym (other_test j i (λ z. other (sym z)))
      ]

      by_test : (a b c d : Bool) → a ≡ b → (c || (b || d)) ≡ true → ((a || c) || d) ≡ true
      by_test true b c d same h = refl
      by_test false true c d same h = absurd (cc (same))
      by_test false false c d same h = h

  -- a graph with this past and driver is sound
  pub passed_sound : (past : List Node) (driver : ℕ → Option Ran) → IsOverNow past driver
      → AreOrdered past → All (λ (x : Node). IsFresh x.id rest) past
      → All (HasGiven p (passing g n rest e v past driver)) past
      → ((k : ℕ) → Reached (passing g n rest e v past driver) k → Reached g k)
      → ((k : ℕ) (ran : Ran) → driver k ≡ Some ran → IsFresh k rest
      → IsDriven (passing g n rest e v past driver) k ran)
      → ((x : Node) → Contains (past ++ rest) x → is_pure x.work ≡ true → driver x.id ≡ None)
      → IsGraphSound p (passing g n rest e v past driver)
  passed_sound past driver over ordered apart given reached driven effects =
      let g' = passing g n rest e v past driver in
      let same : is_over g' ≡ and_one (is_over g) n.id = (λ i k. over k i) in
      record {
        goes_on = λ none. now_completes;
        ended = λ end is. whole_at p (g.out ++ e.lines) now_given rest end is now_completes;
        unfinished = unended rest;
        supplied = λ none. now_supplied;
        listed = subst (λ (known : Numbers). IsOrdered known g.next rest) (sym same) chain_order.3;
        below = λ k is. below_now k (sym (over k) ∙ is);
        slots = rest_ports;
        ordered = ordered;
        apart = apart;
        past = given;
        present = λ k is. now_present past driver over k (sound.present k (reached k is));
        driven = driven;
        effects = effects;
        blank = λ k port is. now_blank k port is;
      }
    where
      below_now : (k : ℕ) → and_one (is_over g) n.id k ≡ true → k < g.next
      below_now k is = elim (at_cases k n.id) [
        | inl same ↦ rw same chain_order.0
        | inr other ↦ sound.below k
            (sym (ap (λ b. b || is_over g k) (other_test k n.id other)) ∙ is)
      ]

      now_blank : (k port : ℕ) → IsTrue (stands k rest) ⊎ (g.next ≤ k)
          → now_given k port ≡ None
      now_blank k port is = elim (at_cases k n.id) [
        | inl same ↦ absurd (elim is [
          | inl there ↦
              let f = fresh_stands n.id rest head_fresh in
              let w : stands n.id rest ≡ true = ap (λ i. stands i rest) (sym same) ∙ there in
              cc (f, w)
          | inr high ↦ let low = chain_order.0 in omega (arith, same)
        ])
        | inr other ↦
            ap (λ (ports : Ports). ports port) (put_else g.given n.id (ports_of n.work v) k other)
            ∙ sound.blank k port (elim is [
              | inl there ↦ inl
                  (ap (stands k) head.chain
                  ∙ ap (λ b. b || stands k rest) (other_test n.id k (λ z. other (sym z)))
                  ∙ there)
              | inr high ↦ inr high
            ])
      ]

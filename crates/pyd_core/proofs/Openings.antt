-- Which nodes of a core may be placed.
use Rattle.std.proofs.Common.{◌≡◌, ◌<◌, ◌+◌, ◌==◌, ℕ, zero, suc, List, [], ◌∷◌, nat_eq, drop, get_or, length, Bool, true, false, cond, not, ◌&&◌, ◌||◌, if◌then◌else◌, Option, Some, None, is_some, option_map, Contains, IsPermutation, IsSorted, inl, inr, refl, ap, sym, subst, ◌∙◌}
use Rattle.std.specs.List.{IsDistinct}
use Rattle.std.specs.List.Sorted.{IsStrictlyIncreasing}
use Rattle.std.specs.Ordering.{nat_cmp}
use Rattle.std.proofs.lemmas.List.{drop_more}
use Rattle.std.proofs.lemmas.List.Sorted.{IsNonDecreasingBy-from_sort, list_any-IsPermutation}
use Rattle.std.proofs.lemmas.Map.Keys.{IsDistinct-IsPermutation, IsStrictlyIncreasing-from_distinct}
use Rattle.pyd_meaning.specs.declared.ran.Ran.{Ran}
use Rattle.pyd_ir.specs.declared.node.Node.{Node}
use Rattle.pyd_ir.specs.Arguments.{is_pure}
use Rattle.pyd_ir.specs.Inputs.{has_inputs, task_of}
use Rattle.pyd_lineage.specs.Lineage.{AreNeeded, IsInOrder, is_among}
use Rattle.pyd_lineage.specs.Marking.{numbers_where, reached_names}
use Rattle.pyd_lineage.proofs.Reaching.{first_of}
use Rattle.pyd_runs.specs.Deciding.{is_free, is_needed, may_place}
use Rattle.pyd_runs.specs.Effects.{State}
use Rattle.pyd_runs.specs.Facts.{InOrderLaw}
use Rattle.pyd_runs.specs.Graphs.{nodes}
use Rattle.pyd_runs.specs.HeadOrder.{has_record}
use Rattle.pyd_runs.specs.Laws.{RunLaw}
use Rattle.pyd_runs.specs.Records.{heads, is_ready, job_by, job_with, node_at, ready, records, task_by}
use Rattle.pyd_runs.specs.Sound.{IsFresh, IsSound, stands}
use Rattle.pyd_runs.proofs.InOrder.{true_or_false}
use Rattle.pyd_runs.proofs.Putting.{at_cases, other_test, same_test}
use Rattle.pyd_runs.proofs.Standing.{AreApart, node_found, nodes_apart}
use Rattle.pyd_desk.specs.declared.desk.Desk.{Desk}
use Rattle.pyd_desk.specs.Desks.{claim_by, mark_at, stores_of}
use Rattle.pyd_desk.specs.Lines.{chain_of, past_of}
use Rattle.pyd_desk.specs.Reading.{given_of, outcome_at}
use Rattle.pyd_desk.proofs.Standing.{nodes_of, outcome_is, ready_is}
use Rattle.pyd_core.specs.declared.keeper.Core.{Core}
use Rattle.pyd_core.specs.Cores.{IsCore, plan_of, state_of}
use Rattle.pyd_core.specs.Placing.{is_first, is_free_on, is_missing, is_ready_on, is_wanted, missing_numbers, placeable_numbers, recorded_numbers}
use Rattle.pyd_core.proofs.Chosen.{among_own, and_false, and_true, distinct_where, first_where, left_where}
use Rattle.pyd_core.proofs.Missing.{needed_are}

pub mapped_there : {A B : Type 0} (f : A → B) (o : Option A) → is_some (option_map f o) ≡ is_some o
mapped_there f None = refl
mapped_there f (Some a) = refl

-- what is there under two tests meets the second
under_second : {A : Type 0} (a b : Bool) (o : Option A) → is_some (cond (a && b) o None) ≡ true
    → b ≡ true
under_second true true o is = refl
under_second true false o is = absurd (cc (is))
under_second false b o is = absurd (cc (is))

-- the head of a list stands in it
heads_stands : (k : ℕ) (ns : List Node) → heads k ns ≡ true → stands k ns ≡ true
heads_stands k [] is = absurd (cc (is))
heads_stands k (n ∷ ns) is = first_of (n.id == k) (stands k ns) is

-- a node that is ready and free may be placed where it is missing or the head
open_is : (pure record_there needed head ready free : Bool) → (ready ≡ true → (pure || head) ≡ true)
    → (head ≡ true → needed ≡ true) → (free ≡ true → record_there ≡ false)
    → (((pure && (not record_there && needed)) || head) && (ready && free))
    ≡ (ready && (needed && free))
open_is pure r needed head false free kind at none = and_false ((pure && (not r && needed)) || head)
open_is pure r needed head true false kind at none =
    and_false ((pure && (not r && needed)) || head) ∙ sym (and_false needed)
open_is pure true needed head true true kind at none = absurd (let z = none refl in cc (z))
open_is pure false false true true true kind at none = absurd (let z = at refl in cc (z))
open_is true false true true true true kind at none = refl
open_is false false true true true true kind at none = refl
open_is false false needed false true true kind at none = absurd (let z = kind refl in cc (z))
open_is true false true false true true kind at none = refl
open_is true false false false true true kind at none = refl

-- what isn't free has no record
free_none : (a b : Bool) → (not a && b) ≡ true → a ≡ false
free_none true b is = absurd (cc (is))
free_none false b is = refl

-- a list without a number has no node of it
stands_not : (ns : List Node) (k : ℕ) → stands k ns ≡ false → node_at ns k ≡ None
stands_not [] k none = refl
stands_not (n ∷ ns) k none = elim (at_cases n.id k) [
  | inl same ↦ absurd
      (let z = first_of (n.id == k) (stands k ns) (same_test n.id k same) in cc (z, none))
  | inr other ↦
      ap (λ b. cond b (Some n) (node_at ns k)) (other_test n.id k other)
      ∙ stands_not ns k (sym (ap (λ b. b || stands k ns) (other_test n.id k other)) ∙ none)
]

-- numbers differ in what is left of a list
drop_apart : (ns : List Node) (i : ℕ) → AreApart ns → AreApart (drop i ns)
drop_apart ns zero apart = apart
drop_apart [] (suc i) apart = apart
drop_apart (n ∷ ns) (suc i) apart = drop_apart ns i apart.1

module _ (runs : RunLaw) (c : Core) (core : IsCore c) where
  abbrev s : State
  s = state_of c

  abbrev d : Desk
  d = c.desk

  abbrev line : List Node
  line = c.line.nodes.items

  sound : IsSound (plan_of c) s
  sound = runs (plan_of c) c.log.journal.items core.runnable core.legal

  pub in_line : nodes s.graph ≡ line
  in_line = nodes_of c.line d s.graph core.tied.state.graph

  pub line_apart : AreApart line
  line_apart = subst AreApart in_line (nodes_apart (plan_of c) s.graph sound.graph)

  -- a record, by the outcome that is kept
  pub record_here : (k : ℕ) → is_some (outcome_at d k) ≡ has_record s k
  record_here k =
      ap is_some (sym (outcome_is d s.graph k core.tied.state.graph.driver))
      ∙ mapped_there (λ (r : Ran). r.outcome) (records s.graph (stores_of d) k)
      ∙ ap (λ e. is_some (records s.graph e.stores k)) (sym core.tied.state.desk)

  free_here : (k : ℕ) → is_free_on d k ≡ is_free s k
  free_here k =
      ap (λ b. not b && (not (is_some (mark_at d.marks.items k).ticket)
      && not (is_some (claim_by d.alive.items (mark_at d.marks.items k).claim)))) (record_here k)
      ∙ ap (λ b. not (has_record s k) && (not b
      && not (is_some (claim_by d.alive.items (mark_at d.marks.items k).claim))))
      (sym (mapped_there _ (mark_at d.marks.items k).ticket))
      ∙ ap (λ e. not (has_record s k) && (not (is_some (e.ticket k)) && not (is_some (e.claim k))))
      (sym core.tied.state.desk)

  -- whether a node is ready, by the line and the desk
  ready_by : (k : ℕ) → is_ready s.graph s.desk.stores k
      ≡ is_some (job_by (chain_of c.line) (given_of d) 0 (node_at line k))
  ready_by k =
      ap (λ e. is_some (ready s.graph e.stores k 0)) core.tied.state.desk
      ∙ ap is_some (ready_is c.line d s.graph k 0 core.tied.state.graph)

  ready_here : (n : Node) → Contains line n
      → is_ready_on d n (heads n.id (chain_of c.line)) ≡ is_ready s.graph s.desk.stores n.id
  ready_here n at =
      sym (ready_by n.id
      ∙ ap (λ o. is_some (job_by (chain_of c.line) (given_of d) 0 o))
      (node_found line n line_apart at)
      ∙ mapped_there (job_with n 0) (task_by (chain_of c.line) (given_of d) n))

  -- the head is needed
  head_needed : (k : ℕ) → heads k (chain_of c.line) ≡ true → is_needed s k ≡ true
  head_needed k is =
      first_of (stands k s.graph.chain)
      (is_among (reached_names s.graph.past s.graph.chain (has_record s)) k)
      (heads_stands k s.graph.chain (ap (heads k) core.tied.state.graph.chain ∙ is))

  -- whether a node of the line may be placed
  pub open_here : (n : Node) → Contains line n
      → ((is_missing s n || heads n.id (chain_of c.line))
      && (is_ready_on d n (heads n.id (chain_of c.line)) && is_free_on d n.id))
      ≡ may_place s n.id
  open_here n at =
      let head = heads n.id (chain_of c.line) in
      let is_here = is_ready_on d n head in
      ap (λ b. (is_missing s n || head) && (is_here && b)) (free_here n.id)
      ∙ open_is (is_pure n.work) (has_record s n.id) (is_needed s n.id) head is_here
      (is_free s n.id)
      (under_second (has_inputs (given_of d) n.work) (is_pure n.work || head)
      (task_of (given_of d) n.work))
      (head_needed n.id)
      (free_none (has_record s n.id)
      (not (is_some (s.desk.ticket n.id)) && not (is_some (s.desk.claim n.id))))
      ∙ ap (λ b. b && (is_needed s n.id && is_free s n.id)) (ready_here n at)

  -- what the lineage needs stands in order
  pub order_here : InOrderLaw → IsInOrder (past_of c.line) (chain_of c.line)
  order_here law =
      let g = core.tied.state.graph in
      subst (λ past. IsInOrder past (chain_of c.line)) g.past
      (subst (IsInOrder s.graph.past) g.chain (law (plan_of c) s.graph sound.graph))

  -- those that have to be done are those that are missing
  pub missing_are : InOrderLaw → (known ns : List ℕ) → known ≡ recorded_numbers c
      → AreNeeded (past_of c.line) (chain_of c.line) known ns → ns ≡ missing_numbers c
  missing_are law known ns same are =
      let g = core.tied.state.graph in
      let all : known ≡ numbers_where (λ n. has_record s n.id) (nodes s.graph)
      = same ∙ (λ i. numbers_where (λ n. record_here n.id i) line)
      ∙ ap (numbers_where (λ n. has_record s n.id)) (sym in_line) in
      let there : AreNeeded s.graph.past s.graph.chain
      (numbers_where (λ n. has_record s n.id) (nodes s.graph)) ns
      = subst (λ past. AreNeeded past s.graph.chain
      (numbers_where (λ n. has_record s n.id) (nodes s.graph)) ns) (sym g.past)
      (subst (λ chain. AreNeeded (past_of c.line) chain
      (numbers_where (λ n. has_record s n.id) (nodes s.graph)) ns) (sym g.chain)
      (subst (λ ks. AreNeeded (past_of c.line) (chain_of c.line) ks ns) all are)) in
      needed_are s (law (plan_of c) s.graph sound.graph)
      (nodes_apart (plan_of c) s.graph sound.graph) ns there
      ∙ ap (numbers_where (is_missing s)) in_line

  -- what is left from a node on
  from_here : (i : ℕ) (n : Node) → i < length line → n ≡ get_or line i n
      → drop i line ≡ n ∷ drop (i + 1) line
  from_here i n within at = drop_more line i n within ∙ ap (λ m. m ∷ drop (i + 1) line) (sym at)

  fresh_here : (i : ℕ) (n : Node) → i < length line → n ≡ get_or line i n
      → IsFresh n.id (drop (i + 1) line)
  fresh_here i n within at =
      (subst AreApart (from_here i n within at) (drop_apart line i line_apart)).0

  -- a node is missing where its number is the first of those that are left
  pub turn_first : (i : ℕ) (n : Node) (left : List ℕ) → i < length line → n ≡ get_or line i n
      → left ≡ numbers_where (is_missing s) (drop i line) → is_first n.id left ≡ is_missing s n
  turn_first i n left within at so_far =
      ap (is_first n.id) (so_far ∙ ap (numbers_where (is_missing s)) (from_here i n within at))
      ∙ first_where (is_missing s) n (drop (i + 1) line) (fresh_here i n within at)

  -- those behind it are left then
  pub turn_left : (i : ℕ) (n : Node) (left next : List ℕ) (b : Bool) → i < length line
      → n ≡ get_or line i n → left ≡ numbers_where (is_missing s) (drop i line)
      → b ≡ is_first n.id left → next ≡ (if b then drop 1 left else left)
      → next ≡ numbers_where (is_missing s) (drop (i + 1) line)
  turn_left i n left next b within at so_far test is =
      is ∙ ap (λ t. if t then drop 1 left else left) (test ∙ turn_first i n left within at so_far)
      ∙ ap (λ ns. if is_missing s n then drop 1 ns else ns)
      (so_far ∙ ap (numbers_where (is_missing s)) (from_here i n within at))
      ∙ left_where (is_missing s) n (drop (i + 1) line)

  -- a number of no node isn't ready
  unready : (k : ℕ) → stands k line ≡ false → may_place s k ≡ false
  unready k none =
      ap (λ b. b && (is_needed s k && is_free s k))
      (ready_by k ∙ ap (λ o. is_some (job_by (chain_of c.line) (given_of d) 0 o))
      (stands_not line k none))

  -- one that is wanted may be placed where it is ready
  pub wanted_place : (k : ℕ) → is_wanted s k ≡ true
      → is_some (job_by (chain_of c.line) (given_of d) 0 (node_at line k)) ≡ may_place s k
  wanted_place k wanted =
      sym (and_true (is_some (job_by (chain_of c.line) (given_of d) 0 (node_at line k))))
      ∙ ap (λ b. b && true) (sym (ready_by k))
      ∙ ap (λ b. is_ready s.graph s.desk.stores k && b) (sym wanted)

  -- a number is among them exactly where its node may be placed
  placeable_among : (k : ℕ) → is_among (placeable_numbers c) k ≡ may_place s k
  placeable_among k =
      among_own (may_place s) line k
      ∙ elim (true_or_false (stands k line)) [
        | inl there ↦ ap (λ b. b && may_place s k) there
        | inr away ↦ ap (λ b. b && may_place s k) away ∙ sym (unready k away)
      ]

  -- also in another order
  pub sorted_among : (old ns : List ℕ) → old ≡ placeable_numbers c → IsPermutation old ns → (k : ℕ)
      → is_among ns k ≡ may_place s k
  sorted_among old ns same moved k =
      sym (list_any-IsPermutation (nat_eq k) old ns moved) ∙ ap (λ ms. is_among ms k) same
      ∙ placeable_among k

  pub sorted_rises : (old ns : List ℕ) → old ≡ placeable_numbers c → IsPermutation old ns
      → IsSorted nat_cmp ns → IsStrictlyIncreasing ns
  sorted_rises old ns same moved sorted =
      IsStrictlyIncreasing-from_distinct ns (IsNonDecreasingBy-from_sort (λ n. n) ns sorted)
      (IsDistinct-IsPermutation nat_eq flips old ns moved
      (subst (IsDistinct nat_eq) (sym same)
      (distinct_where (λ n. may_place s n.id) line line_apart)))
    where
      flips : (x y : ℕ) → nat_eq x y ≡ nat_eq y x
      flips x y = elim (at_cases x y) [
        | inl same ↦ same_test x y same ∙ sym (same_test y x (sym same))
        | inr other ↦ other_test x y other ∙ sym (other_test y x (λ z. other (sym z)))
      ]

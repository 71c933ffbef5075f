-- The node that is due, by the place of the past node that is awaited first.
use Rattle.std.proofs.Common.{◌≡◌, ◌≤◌, ℕ, zero, suc, nat_lt, List, [], ◌∷◌, ◌++◌, append-nil, length, Bool, true, false, not, ◌&&◌, cond, Option, Some, None, unwrap_or, Contains, position, refl, ap, sym, ◌∙◌, arith}
use Rattle.std.specs.List.{find, flat_map, position_or_len, slice_get}
use Rattle.std.proofs.lemmas.List.Folds.{find_at}
use Rattle.std.proofs.lemmas.Bool.Decides.{nat_tests}
use Rattle.std.proofs.lemmas.List.Elements.{Contains-append_left}
use Rattle.pyd_ir.specs.declared.arg.Arg.{Arg}
use Rattle.pyd_ir.specs.declared.node.Node.{Node}
use Rattle.pyd_lineage.specs.Lineage.{is_among, named_by}
use Rattle.pyd_lineage.specs.Marking.{numbers_where, past_names}
use Rattle.pyd_lineage.specs.Awaiting as lineage
use Rattle.pyd_runs.specs.Effects.{State}
use Rattle.pyd_runs.specs.Graphs.{nodes}
use Rattle.pyd_runs.specs.HeadOrder.{has_record, is_awaited, node_due, waited_for}
use Rattle.pyd_runs.specs.Laws.{RunLaw}
use Rattle.pyd_runs.proofs.Without.{behind, here, stands_true}
use Rattle.pyd_core.specs.declared.keeper.Core.{Core}
use Rattle.pyd_core.specs.Cores.{IsCore, state_of}
use Rattle.pyd_core.specs.Ordering.{number_at, number_or}
use Rattle.pyd_core.specs.Placing.{recorded_numbers}
use Rattle.pyd_core.proofs.Chosen.{among_own}
use Rattle.pyd_core.proofs.Missing.{past_same}
use Rattle.pyd_core.proofs.Openings.{in_line, record_here}

-- one argument names what it names
pub named_alone : (a : Arg) (ns : List ℕ) → ns ≡ [] ++ named_by a → ns ≡ flat_map named_by (a ∷ [])
named_alone a ns is = is ∙ sym (append-nil (named_by a))

-- the first of a list is its first
pub first_node : {ns : List Node} (rest more : List Node) {m n : Node} → ns ≡ m ∷ rest
    → ns ≡ n ∷ more → m ≡ n
first_node rest more is so = cc (is, so)

-- nothing stands past the end of a list
get_past : (ns : List Node) (k : ℕ) → length ns ≤ k → slice_get ns k ≡ None
get_past [] k past = refl
get_past (n ∷ ns) zero past = absurd (omega (arith, past))
get_past (n ∷ ns) (suc k) past = get_past ns k (omega (arith, past))

-- the number at the place of the first node that passes a test is that of this node
placed_number : (test : Node → Bool) (ns : List Node) (other : ℕ)
    → number_at ns (position test ns) other ≡ number_or (find test ns) other
placed_number test ns other = by (nat_lt k (length ns)) refl
  where
    k : ℕ
    k = position_or_len test ns

    by : (b : Bool) → nat_lt k (length ns) ≡ b
        → number_at ns (cond b (Some k) None) other ≡ number_or (find test ns) other
    by true low = ap (λ o. number_or o other) (sym (find_at test ns))
    by false high =
        ap (λ o. number_or o other)
        (sym (find_at test ns ∙ get_past ns k (grind (arith, nat_tests, high))))

-- the first of a list that passes is the same by tests that agree on the list
find_same : (a b : Node → Bool) (ns : List Node) → ((n : Node) → Contains ns n → a n ≡ b n)
    → find a ns ≡ find b ns
find_same a b [] same = refl
find_same a b (n ∷ ns) same =
    ap (λ t. cond t (Some n) (find a ns)) (same n (here n ns))
    ∙ ap (λ o. cond (b n) (Some n) o) (find_same a b ns (λ m at. same m (behind n ns m at)))

-- the number of a node, if there is one, else of another
number_either : (o : Option Node) (head : Node) → number_or o head.id ≡ (unwrap_or o head).id
number_either None head = refl
number_either (Some n) head = refl

module _ (runs : RunLaw) (c : Core) (core : IsCore c) where
  abbrev s : State
  s = state_of c

  -- what is recorded of nodes of the line is recorded in the state
  known_is : recorded_numbers c ≡ numbers_where (λ n. has_record s n.id) (nodes s.graph)
  known_is =
      (λ i. numbers_where (λ n. record_here runs c core n.id i) c.line.nodes.items)
      ∙ ap (numbers_where (λ n. has_record s n.id)) (sym (in_line runs c core))

  agree : (x : Node) → Contains s.graph.past x
      → is_among (recorded_numbers c) x.id ≡ has_record s x.id
  agree x at =
      ap (λ ns. is_among ns x.id) known_is
      ∙ among_own (has_record s) (nodes s.graph) x.id
      ∙ ap (λ b. b && has_record s x.id)
      (stands_true x.id (nodes s.graph) x (Contains-append_left s.graph.past s.graph.chain x at) refl)

  -- a past node is awaited by what is recorded of the line where the head waits for it
  tests_agree : (head x : Node) → Contains s.graph.past x
      → lineage.is_awaited (is_among (recorded_numbers c)) s.graph.past
      (flat_map named_by (waited_for head.work)) x ≡ is_awaited s head x
  tests_agree head x at =
      ap (λ ns. is_among ns x.id && not (is_among (recorded_numbers c) x.id))
      (past_same (is_among (recorded_numbers c)) (has_record s) s.graph.past
      (flat_map named_by (waited_for head.work)) agree)
      ∙ ap (λ b. is_among (past_names (has_record s) s.graph.past
      (flat_map named_by (waited_for head.work))) x.id && not b) (agree x at)

  -- the number of the node that is due
  pub due_number : (head : Node)
      → number_at s.graph.past (position (lineage.is_awaited (is_among (recorded_numbers c))
      s.graph.past (flat_map named_by (waited_for head.work))) s.graph.past) head.id
      ≡ (node_due s head).id
  due_number head =
      placed_number (lineage.is_awaited (is_among (recorded_numbers c)) s.graph.past
      (flat_map named_by (waited_for head.work))) s.graph.past head.id
      ∙ ap (λ o. number_or o head.id) (find_same (lineage.is_awaited (is_among (recorded_numbers c))
      s.graph.past (flat_map named_by (waited_for head.work))) (is_awaited s head) s.graph.past
      (tests_agree head))
      ∙ number_either (find (is_awaited s head) s.graph.past) head

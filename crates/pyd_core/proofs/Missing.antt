-- The nodes that have to be done are those that are needed, where what has a record is known.
use Rattle.std.proofs.Common.{◌≡◌, ℕ, List, [], ◌∷◌, ◌++◌, Bool, true, false, cond, not, ◌&&◌, Contains, ◌⊎◌, inl, inr, refl, ap, sym, subst, ◌∙◌}
use Rattle.std.proofs.lemmas.List.Elements.{Contains-append_left, Contains-append_right}
use Rattle.pyd_ir.specs.declared.node.Node.{Node}
use Rattle.pyd_ir.specs.Arguments.{is_pure}
use Rattle.pyd_lineage.specs.Lineage.{AreNeeded, IsInOrder, IsNeeded, Reaches, is_among, named_nodes}
use Rattle.pyd_lineage.specs.Marking.{chain_names, numbers_where, past_names, reached_names, with_names}
use Rattle.pyd_lineage.proofs.Reaching.{first_of, marked_is_reached, reached_is_marked, second_of, split_or}
use Rattle.pyd_runs.specs.Deciding.{is_needed}
use Rattle.pyd_runs.specs.Effects.{State}
use Rattle.pyd_runs.specs.Graphs.{nodes}
use Rattle.pyd_runs.specs.HeadOrder.{has_record}
use Rattle.pyd_runs.specs.Sound.{stands}
use Rattle.pyd_runs.proofs.Readiness.{and_both, and_parts}
use Rattle.pyd_runs.proofs.Standing.{AreApart, one_node, stands_node}
use Rattle.pyd_runs.proofs.Without.{behind, here, stands_true}
use Rattle.pyd_core.specs.Placing.{is_missing}
use Rattle.pyd_core.proofs.Chosen.{among_own, those_where}

-- what tests that agree on nodes tell of what they name
chain_same : (a b : ℕ → Bool) (xs : List Node)
    → ((x : Node) → Contains xs x → a x.id ≡ b x.id) → chain_names a xs ≡ chain_names b xs
chain_same a b [] same = refl
chain_same a b (x ∷ xs) same =
    ap (λ t. cond t [] (named_nodes x.work) ++ chain_names a xs) (same x (here x xs))
    ∙ ap (λ ns. cond (b x.id) [] (named_nodes x.work) ++ ns)
    (chain_same a b xs (λ y at. same y (behind x xs y at)))

pub past_same : (a b : ℕ → Bool) (xs : List Node) (last : List ℕ)
    → ((x : Node) → Contains xs x → a x.id ≡ b x.id) → past_names a xs last ≡ past_names b xs last
past_same a b [] last same = refl
past_same a b (x ∷ xs) last same =
    ap (with_names a x) (past_same a b xs last (λ y at. same y (behind x xs y at)))
    ∙ ap (λ t. cond (is_among (past_names b xs last) x.id && not t)
    (named_nodes x.work ++ past_names b xs last) (past_names b xs last)) (same x (here x xs))

-- a test that isn't met
not_met : (b : Bool) → not b ≡ true → b ≡ false
not_met true is = absurd (cc (is))
not_met false is = refl

met_not : (b : Bool) → b ≡ false → not b ≡ true
met_not b is = ap not is

module _ (s : State) (order : IsInOrder s.graph.past s.graph.chain)
    (apart : AreApart (nodes s.graph)) where
  abbrev past : List Node
  past = s.graph.past

  abbrev chain : List Node
  chain = s.graph.chain

  -- the numbers of the nodes that have records
  abbrev known : List ℕ
  known = numbers_where (λ n. has_record s n.id) (nodes s.graph)

  known_at : (x : Node) → Contains (nodes s.graph) x → has_record s x.id ≡ is_among known x.id
  known_at x at =
      sym (among_own (has_record s) (nodes s.graph) x.id
      ∙ ap (λ b. b && has_record s x.id) (stands_true x.id (nodes s.graph) x at refl))

  names_same : reached_names past chain (has_record s) ≡ reached_names past chain (is_among known)
  names_same =
      ap (past_names (has_record s) past) (chain_same (has_record s) (is_among known) chain
      (λ x at. known_at x (Contains-append_right past chain x at)))
      ∙ past_same (has_record s) (is_among known) past (chain_names (is_among known) chain)
      (λ x at. known_at x (Contains-append_left past chain x at))

  -- a node that stands in the chain, or that it reaches
  asked_needed : (x : Node) → Contains chain x ⊎ Reaches past chain known x.id
      → is_needed s x.id ≡ true
  asked_needed x (inl at) =
      first_of (stands x.id chain) (is_among (reached_names past chain (has_record s)) x.id)
      (stands_true x.id chain x at refl)
  asked_needed x (inr reached) =
      second_of (stands x.id chain) (is_among (reached_names past chain (has_record s)) x.id)
      (ap (λ ns. is_among ns x.id) names_same
      ∙ reached_is_marked past chain known (is_among known) (λ n. refl) order.earlier x.id
      reached)

  needed_asked : (x : Node) → Contains (nodes s.graph) x → is_needed s x.id ≡ true
      → Contains chain x ⊎ Reaches past chain known x.id
  needed_asked x at needed =
      elim (split_or (stands x.id chain) (is_among (reached_names past chain (has_record s)) x.id)
      needed) [
        | inl there ↦ inl
            (let y = stands_node chain x.id there in
            subst (Contains chain) (one_node (nodes s.graph) y.0 x apart
            (Contains-append_right past chain y.0 y.1) at y.2) y.1)
        | inr marked ↦ inr (marked_is_reached past chain known (is_among known) (λ n. refl) x.id
            (sym (ap (λ ns. is_among ns x.id) names_same) ∙ marked))
      ]

  missing_met : (x : Node) → Contains (nodes s.graph) x → IsNeeded past chain known x
      → is_missing s x ≡ true
  missing_met x at needed =
      and_both (is_pure x.work) (not (has_record s x.id) && is_needed s x.id) needed.leaf
      (and_both (not (has_record s x.id)) (is_needed s x.id)
      (met_not (has_record s x.id) (known_at x at ∙ needed.unknown))
      (asked_needed x needed.asked))

  missing_so : (x : Node) → Contains (nodes s.graph) x → is_missing s x ≡ true
      → IsNeeded past chain known x
  missing_so x at is =
      let a = and_parts (is_pure x.work) (not (has_record s x.id) && is_needed s x.id) is in
      let b = and_parts (not (has_record s x.id)) (is_needed s x.id) a.1 in
      record {
        leaf = a.0;
        unknown = sym (known_at x at) ∙ not_met (has_record s x.id) b.0;
        asked = needed_asked x at b.1;
      }

  -- those that have to be done
  pub needed_are : (ns : List ℕ) → AreNeeded past chain known ns
      → ns ≡ numbers_where (is_missing s) (nodes s.graph)
  needed_are ns are =
      those_where (IsNeeded past chain known) (is_missing s) (nodes s.graph) ns
      missing_met missing_so are

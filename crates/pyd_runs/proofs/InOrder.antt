-- The two lists of a sound graph stand in order.
use Rattle.std.proofs.Common.{◌≡◌, nat_eq, ℕ, Bool, true, false, List, [], ◌∷◌, ◌++◌, map, ◌⊎◌, inl, inr, refl, sym}
use Rattle.std.specs.List.{Contains, AllByRecursion, IsDistinct}
use Rattle.std.proofs.lemmas.List.Elements.{All-contains, Contains-append_cases}
use Rattle.pyd_ir.specs.declared.node.Node.{Node}
use Rattle.pyd_ir.specs.Arguments.{arguments}
use Rattle.pyd_ir.specs.Inputs.{has_inputs, leaf_meaning}
use Rattle.pyd_lineage.specs.Lineage.{names, IsInUse, NamesEarlier}
use Rattle.pyd_translate.specs.Naming.{Numbers}
use Rattle.pyd_refine.specs.Ordering.{and_one, IsOrdered}
use Rattle.pyd_runs.specs.Plans.{Plan, limits_of}
use Rattle.pyd_runs.specs.Graphs.{Graph}
use Rattle.pyd_runs.specs.Reach.{AreOf}
use Rattle.pyd_runs.specs.Sound.{IsGraphSound, IsFresh, HasGiven, AreOrdered, is_over}
use Rattle.pyd_runs.specs.Facts.{InOrderLaw}
use Rattle.pyd_runs.proofs.Putting.{other_test, none_apart}
use Rattle.pyd_runs.proofs.Without.{here, behind, fresh_apart, stands_true}
use Rattle.pyd_runs.proofs.Seeing.{known_fresh}
use Rattle.pyd_runs.proofs.Standing.{AreApart, nodes_apart}
use Rattle.pyd_runs.proofs.Within.{look_leaf, under_some}
use Rattle.pyd_runs.proofs.Claiming.{leaf_named}
use Rattle.pyd_runs.proofs.Passed.{pure_leaf}
use Rattle.pyd_runs.proofs.Redirected.{some_of}
use Rattle.pyd_runs.proofs.Lineage.{among_of}

-- numbers that differ, as tests say it
others_differ : (k : ℕ) (ns : List Node) → IsFresh k ns
    → AllByRecursion (λ m. nat_eq k m ≡ false) (map (λ (n : Node). n.id) ns)
others_differ k [] fresh = tt
others_differ k (n ∷ ns) fresh =
    (other_test k n.id (λ z. fresh.0 (sym z)), others_differ k ns fresh.1)

all_differ : (ns : List Node) → AreApart ns → IsDistinct nat_eq (map (λ (n : Node). n.id) ns)
unfolding IsDistinct
all_differ [] apart = tt
all_differ (n ∷ ns) apart = (others_differ n.id ns apart.0, all_differ ns apart.1)

-- a truth value is one of two
pub true_or_false : (b : Bool) → (b ≡ true) ⊎ (b ≡ false)
true_or_false true = inl refl
true_or_false false = inr refl

-- what no argument names isn't named
names_not : (x : Node) (k : ℕ) → (AreOf k (arguments x.work) → ⊥) → names x k ≡ false
names_not x k apart = elim (true_or_false (names x k)) [
  | inl named ↦ absurd (apart (among_of (arguments x.work) k named))
  | inr not ↦ not
]

-- nodes of a chain name only what stands before them
chain_earlier : (InUse : Node → Type 0) (known : Numbers) (next : ℕ) (ns : List Node)
    → IsOrdered known next ns → NamesEarlier InUse ns
chain_earlier InUse known next [] order = tt
chain_earlier InUse known next (x ∷ ns) order = (
  λ used y at. names_not x y.id (λ of.
      fresh_apart y.id (x ∷ ns) y
      (known_fresh known next (x ∷ ns) y.id order
      (some_of known (arguments x.work) y.id order.2 of)) at refl),
  chain_earlier InUse (and_one known x.id) next ns order.3,
)

module _ (p : Plan) (g : Graph) (sound : IsGraphSound p g) where
  -- a past node names no node of the chain, as what it names had a value
  past_names : (x y : Node) → Contains g.past x → Contains g.chain y
      → AreOf y.id (arguments x.work) → ⊥
  past_names x y at there of =
      let h = All-contains (HasGiven p g) g.past x sound.past at in
      let l = look_leaf p g.given x h.looked h.look in
      let u = under_some (has_inputs g.given x.work)
      (leaf_meaning p.file (limits_of p) g.given x) h.looked l.1 in
      let gave = leaf_named g.given x.work y.id (pure_leaf x.work l.0) u.0 of in
      none_apart (g.given y.id gave.0) gave.1
      (sound.blank y.id gave.0 (inl (stands_true y.id g.chain y there refl))) gave.2

  -- past nodes, and then the chain
  past_earlier : (xs : List Node) → ((x : Node) → Contains xs x → Contains g.past x)
      → AreOrdered xs → NamesEarlier (IsInUse g.past g.chain) (xs ++ g.chain)
  past_earlier [] within order =
      chain_earlier (IsInUse g.past g.chain) (is_over g) g.next g.chain sound.listed
  past_earlier (x ∷ xs) within order = (
    λ used y at. names_not x y.id (λ of.
        elim (Contains-append_cases (x ∷ xs) g.chain y at) [
          | inl past ↦ fresh_apart y.id (x ∷ xs) y (order.1 y.id of) past refl
          | inr chain ↦ past_names x y (within x (here x xs)) chain of
        ]),
    past_earlier xs (λ y at. within y (behind x xs y at)) order.2,
  )

-- the law
pub in_order : InOrderLaw
in_order p g sound = record {
  differ = all_differ (g.past ++ g.chain) (nodes_apart p g sound);
  earlier = past_earlier p g sound g.past (λ x at. at) sound.ordered;
}

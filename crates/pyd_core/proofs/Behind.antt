-- Past nodes that the chain doesn't reach, now and behind the head.
use Rattle.std.proofs.Common.{◌≡◌, ℕ, zero, suc, ◌⊎◌, List, [], ◌∷◌, ◌++◌, Bool, true, false, drop, take, inl, inr, refl, ap, sym, subst, ◌∙◌, arith}
use Rattle.std.specs.List.{Contains}
use Rattle.std.proofs.lemmas.List.Elements.{All-cons, All-nil}
use Rattle.pyd_value.specs.declared.value.Value.{Value}
use Rattle.pyd_board.specs.declared.event.Act.TheVariants.{Settle}
use Rattle.pyd_ir.specs.declared.node.Node.{Node}
use Rattle.pyd_lineage.specs.Lineage.{AreThose, IsInOrder, Reaches}
use Rattle.pyd_runs.specs.Effects.{State, acted, passed}
use Rattle.pyd_runs.specs.Enabled.{CanTrim}
use Rattle.pyd_runs.specs.Facts.{InOrderLaw}
use Rattle.pyd_runs.specs.Graphs.{Graph}
use Rattle.pyd_runs.specs.Laws.{ReachLaw, SettleLaw}
use Rattle.pyd_runs.specs.Sound.{IsFresh}
use Rattle.pyd_runs.proofs.Standing.{AreApart, past_apart}
use Rattle.pyd_runs.proofs.Without.{here, behind}
use Rattle.pyd_core.specs.Trimmings.{AreTrimmable, BehindHeadLaw, UnreachedLaw, past_behind}
use Rattle.pyd_core.proofs.Unreached.{of_same}

-- a number that no node of a list has isn't among those of some of its nodes
apart_from : (IsSo : Node → Type 0) (k : ℕ) (xs : List Node) (ks : List ℕ) → IsFresh k xs
    → AreThose IsSo xs ks → Contains ks k → ⊥
apart_from IsSo k [] ks fresh none at =
    let z = subst (λ (js : List ℕ). Contains js k) none at in absurd (omega (arith, z.1))
apart_from IsSo k (x ∷ xs) ks fresh (inl a) at =
    let more = a.1 in
    elim (first_number x.id more.0 k (subst (λ (js : List ℕ). Contains js k) more.1 at)) [
      | inl is ↦ fresh.0 is
      | inr later ↦ apart_from IsSo k xs more.0 fresh.1 more.2 later
    ]
  where
    first_number : (j : ℕ) (js : List ℕ) (i : ℕ) → Contains (j ∷ js) i → (j ≡ i) ⊎ Contains js i
    first_number j js i (zero, within, is) = inl is
    first_number j js i (suc n, within, is) = inr (n, omega (arith, within), is)
apart_from IsSo k (x ∷ xs) ks fresh (inr b) at = apart_from IsSo k xs ks fresh.1 b.1 at

-- the nodes of a part of the past that aren't reached
those_trimmable : ReachLaw → (s : State) (xs : List Node) (ks : List ℕ)
    → ((n : Node) → Contains xs n → Contains s.graph.past n) → AreApart xs
    → AreThose (λ (x : Node). Reaches s.graph.past s.graph.chain [] x.id → ⊥) xs ks
    → AreTrimmable s ks
those_trimmable reach s [] ks within apart none =
    subst (AreTrimmable s) (sym none) (record { may = All-nil (CanTrim s); distinct = tt })
those_trimmable reach s (x ∷ xs) ks within apart (inl a) =
    let more = a.1 in
    let can : CanTrim s x.id = record {
      node = x;
      stands = within x (here x xs);
      number = refl;
      unreached = λ r. a.0 ((reach s.graph x.id).0 r);
    } in
    let rest = those_trimmable reach s xs more.0 (λ n at. within n (behind x xs n at)) apart.1
    more.2 in
    subst (AreTrimmable s) (sym more.1) (record {
      may = All-cons (CanTrim s) x.id more.0 can rest.may;
      distinct = (
        apart_from (λ (y : Node). Reaches s.graph.past s.graph.chain [] y.id → ⊥) x.id xs more.0
            apart.0 more.2,
        rest.distinct,
      );
    })
those_trimmable reach s (x ∷ xs) ks within apart (inr b) =
    those_trimmable reach s xs ks (λ n at. within n (behind x xs n at)) apart.1 b.1

pub unreached_trimmable : ReachLaw → UnreachedLaw
unreached_trimmable reach p s ks sound those =
    those_trimmable reach s s.graph.past ks (λ n at. at)
    (past_apart s.graph.past sound.graph.ordered) those

-- the two lists of a graph whose head was passed
passed_past : (pure : Bool) (g : Graph) (n : Node) (rest : List Node) (lines : List (List ℕ))
    (v : Value) → g.chain ≡ n ∷ rest
    → (passed pure g n rest lines v).past ≡ past_behind pure g.past g.chain
passed_past true g n rest lines v is = ap (λ ns. g.past ++ take 1 ns) (sym is)
passed_past false g n rest lines v is = refl

passed_chain : (pure : Bool) (g : Graph) (n : Node) (rest : List Node) (lines : List (List ℕ))
    (v : Value) → g.chain ≡ n ∷ rest → (passed pure g n rest lines v).chain ≡ drop 1 g.chain
passed_chain true g n rest lines v is = ap (drop 1) (sym is)
passed_chain false g n rest lines v is = ap (drop 1) (sym is)

pub in_order_behind : SettleLaw → InOrderLaw → BehindHeadLaw
in_order_behind settle in_order p s pure is sound goes_on =
    let now : State = acted p s 0 (Settle is.head.id) in
    let order = in_order p now.graph (settle p s 0 is.head.id sound goes_on is.can).graph in
    of_same IsInOrder now.graph.past now.graph.chain _ _
    (ap (λ (g : Graph). g.past) (is.graph 0)
    ∙ passed_past pure s.graph is.head is.rest is.lines is.value is.chain)
    (ap (λ (g : Graph). g.chain) (is.graph 0)
    ∙ passed_chain pure s.graph is.head is.rest is.lines is.value is.chain)
    order

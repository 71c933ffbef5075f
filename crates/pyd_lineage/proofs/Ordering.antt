-- A walk from the end of the list finds whether the nodes stand in order.
use Rattle.std.proofs.Common.{◌≡◌, ℕ, nat_eq, List, [], ◌∷◌, ◌++◌, map, Bool, true, false, ◌||◌, inl, inr, Contains, refl, sym, ap, ◌∙◌, arith}
use Rattle.std.specs.List.{list_any, IsDistinct, AllByRecursion}
use Rattle.std.specs.BTreeSet.{BTreeSet, IsDisjoint}
use Rattle.std.specs.BTreeMap.{is_at}
use Rattle.std.specs.Ordering.{nat_cmp}
use Rattle.std.proofs.lemmas.Bool.{eq-eqb}
use Rattle.pyd_ir.specs.declared.node.Node.{Node}
use Rattle.pyd_lineage.specs.Lineage.{named_nodes, is_among, names, NamesEarlier, IsInUse, IsInOrder}
use Rattle.pyd_lineage.specs.Marking.{has, Adds, IsSetOf}
use Rattle.pyd_lineage.specs.Ordered.{AreOrdered}
use Rattle.pyd_lineage.proofs.Reaching.{first_of, second_of, first_or_behind}

-- truth values
not_true : (b : Bool) → (b ≡ true → ⊥) → b ≡ false
not_true true never = absurd (never refl)
not_true false never = refl

neither : (a b : Bool) → (a || b) ≡ false → (a ≡ false) × (b ≡ false)
neither true b e = cc
neither false b e = (refl, e)

or_false : (b : Bool) → (b || false) ≡ b
or_false true = refl
or_false false = refl

-- a number that isn't among some differs from each
apart : (n : ℕ) (ns : List ℕ) → is_among ns n ≡ false → AllByRecursion (λ m. nat_eq n m ≡ false) ns
apart n [] e = tt
apart n (m ∷ ms) e =
    let both = neither (nat_eq n m) (is_among ms n) e in
    (both.0, apart n ms both.1)

-- the number of a node of a list is among its numbers
among : (xs : List Node) (y : Node) → Contains xs y → is_among (map (λ x. x.id) xs) y.id ≡ true
among [] y (k, within, is) = absurd (omega (arith, within))
among (x ∷ xs) y stands = elim (first_or_behind x xs y stands) [
  | inl is ↦ first_of (nat_eq y.id x.id) (is_among (map (λ z. z.id) xs) y.id) (eq-eqb y.id x.id (sym (ap (λ z. z.id) is)))
  | inr c ↦ second_of (nat_eq y.id x.id) (is_among (map (λ z. z.id) xs) y.id) (among xs y c)
]

-- no nodes stand in order
pub none_ordered : (none : BTreeSet ℕ) → none.keys ≡ [] → AreOrdered none []
unfolding IsDistinct
none_ordered none empty = record {
  numbers = λ n. ap (list_any (is_at (nat_cmp n))) empty;
  differ = tt;
  earlier = tt;
}

-- one node before others
pub one_ordered : (old new named : BTreeSet ℕ) (x : Node) (behind : List Node)
    → has old x.id ≡ false → Adds old new (x.id ∷ []) → IsSetOf named (named_nodes x.work)
    → IsDisjoint nat_cmp named new → AreOrdered old behind → AreOrdered new (x ∷ behind)
unfolding IsDistinct
one_ordered old new named x behind fresh adds names_of disjoint ordered =
    let numbers : IsSetOf new (x.id ∷ map (λ z. z.id) behind) =
    λ n. adds n ∙ ap (λ b. (nat_eq n x.id || false) || b) (ordered.numbers n)
    ∙ ap (λ b. b || is_among (map (λ z. z.id) behind) n) (or_false (nat_eq n x.id)) in
    record {
      numbers = numbers;
      differ = (apart x.id (map (λ z. z.id) behind) (sym (ordered.numbers x.id) ∙ fresh), ordered.differ);
      earlier = (
        λ used y c. not_true (names x y.id) (λ e.
            let there : has new y.id ≡ true = numbers y.id ∙ among (x ∷ behind) y c in
            let away : has new y.id ≡ false = disjoint y.id (names_of y.id ∙ e) in
            let k : ⊥ = cc in k),
        ordered.earlier,
      );
    }

-- what holds of all nodes holds of those in use
some_earlier : (InUse : Node → Type 0) (xs : List Node) → NamesEarlier (λ x. Unit {0}) xs → NamesEarlier InUse xs
some_earlier InUse [] all = tt
some_earlier InUse (x ∷ xs) all = (λ used. all.0 tt, some_earlier InUse xs all.1)

-- nodes in order are so
pub ordered_order : (later : BTreeSet ℕ) (past chain : List Node)
    → AreOrdered later (past ++ chain) → IsInOrder past chain
ordered_order later past chain ordered = record {
  differ = ordered.differ;
  earlier = some_earlier (IsInUse past chain) (past ++ chain) ordered.earlier;
}

-- nothing behind
pub after_all : (xs : List Node) → xs ++ [] ≡ xs
after_all [] = refl
after_all (x ∷ xs) = ap (λ ys. x ∷ ys) (after_all xs)

-- What sets of numbers have after numbers were put into them.
use Rattle.std.proofs.Common.{◌≡◌, ℕ, ◌+◌, ◌<◌, ◌≤◌, nat_eq, List, [], ◌∷◌, ◌++◌, length, get_or, drop, Bool, true, false, cond, ◌||◌, Ordering, Less, Equal, Greater, refl, sym, ap, ◌∙◌, arith}
use Rattle.std.specs.Ordering.{nat_cmp, eq_by_cmp, is_eq}
use Rattle.std.specs.Cmp.{ranked}
use Rattle.std.specs.List.{list_any, flat_map}
use Rattle.std.specs.BTreeSet.{BTreeSet}
use Rattle.std.specs.BTreeMap.{is_at}
use Rattle.std.proofs.lemmas.Bool.{ne_eqb, eq-eqb}
use Rattle.std.proofs.lemmas.List.{drop_more, drop_all}
use Rattle.std.proofs.lemmas.List.Folds.{list_any-append}
use Rattle.pyd_lineage.specs.Lineage.{is_among}
use Rattle.pyd_lineage.specs.Marking.{has, Adds, IsSetOf}

-- the order of numbers tells whether they are equal
ordered : (k q : ℕ) (r : Ordering) → r ≡ nat_cmp k q → is_eq r ≡ nat_eq q k
ordered k q Less e = let w : k < q = ranked k q Less e in sym (ne_eqb q k (λ same. omega (arith, w, same)))
ordered k q Equal e = sym (eq-eqb q k (sym (ranked k q Equal e)))
ordered k q Greater e = let w : q < k = ranked k q Greater e in sym (ne_eqb q k (λ same. omega (arith, w, same)))

by_order : (k q : ℕ) → eq_by_cmp nat_cmp k q ≡ nat_eq q k
by_order k q = ordered k q (nat_cmp k q) refl

either : (a b : Bool) → cond a true b ≡ ((a || false) || b)
either true b = refl
either false b = refl

-- what a set has once a number is put into it
pub adds_number : (old new : BTreeSet ℕ) (k : ℕ)
    → ((q : ℕ) → has new q ≡ cond (eq_by_cmp nat_cmp k q) true (has old q)) → Adds old new (k ∷ [])
adds_number old new k puts q =
    puts q ∙ ap (λ b. cond b true (has old q)) (by_order k q) ∙ either (nat_eq q k) (has old q)

-- a set that no number was put into
pub adds_nothing : (old new : BTreeSet ℕ) → old ≡ new → Adds old new []
adds_nothing old new same n = ap (λ s. has s n) (sym same)

regroup : (a b o : Bool) → (b || (a || o)) ≡ ((a || b) || o)
regroup true true o = refl
regroup true false o = refl
regroup false b o = refl

-- some numbers, and then more
pub adds_then : (old mid new : BTreeSet ℕ) (xs ys : List ℕ)
    → Adds old mid xs → Adds mid new ys → Adds old new (xs ++ ys)
adds_then old mid new xs ys first next n =
    next n ∙ ap (λ b. is_among ys n || b) (first n)
    ∙ regroup (is_among xs n) (is_among ys n) (has old n)
    ∙ ap (λ b. b || has old n) (sym (list_any-append (nat_eq n) xs ys))

-- numbers that are put into the set of some make the set of all
pub adds_to : (old new : BTreeSet ℕ) (xs ys : List ℕ)
    → Adds old new xs → IsSetOf old ys → IsSetOf new (xs ++ ys)
adds_to old new xs ys adds was n =
    adds n ∙ ap (λ b. is_among xs n || b) (was n) ∙ sym (list_any-append (nat_eq n) xs ys)

-- a walk that puts in what f gives of each item: what is left to put in, and the set so far
abbrev pub IsOnTheWay : {X : Type 0} → (X → List ℕ) → List X → ℕ → BTreeSet ℕ → BTreeSet ℕ → Type 0
IsOnTheWay f xs i first now =
    (n : ℕ) → (is_among (flat_map f (drop i xs)) n || has now n) ≡ (is_among (flat_map f xs) n || has first n)

-- one turn of the walk
pub one_turn : {X : Type 0} (f : X → List ℕ) (xs : List X) (i : ℕ) (x : X) (first now next : BTreeSet ℕ)
    → i < length xs → x ≡ get_or xs i x → IsOnTheWay f xs i first now → Adds now next (f x)
    → IsOnTheWay f xs (i + 1) first next
one_turn f xs i x first now next within is so_far adds n =
    ap (λ b. is_among (flat_map f (drop (i + 1) xs)) n || b) (adds n)
    ∙ regroup (is_among (f x) n) (is_among (flat_map f (drop (i + 1) xs)) n) (has now n)
    ∙ ap (λ b. b || has now n) (sym (list_any-append (nat_eq n) (f x) (flat_map f (drop (i + 1) xs))))
    ∙ ap (λ ys. is_among (flat_map f ys) n || has now n) (sym (drop_more xs i x within ∙ ap (λ y. y ∷ drop (i + 1) xs) (sym is)))
    ∙ so_far n

-- its end
pub walked : {X : Type 0} (f : X → List ℕ) (xs : List X) (i : ℕ) (first now : BTreeSet ℕ)
    → length xs ≤ i → IsOnTheWay f xs i first now → Adds first now (flat_map f xs)
walked f xs i first now over so_far n =
    sym (ap (λ ys. is_among (flat_map f ys) n || has now n) (drop_all i xs over)) ∙ so_far n

or_false : (b : Bool) → (b || false) ≡ b
or_false true = refl
or_false false = refl

-- an empty set that numbers were put into
pub adds_to_none : (none new : BTreeSet ℕ) (xs : List ℕ) → none.keys ≡ [] → Adds none new xs → IsSetOf new xs
adds_to_none none new xs empty adds n =
    adds n ∙ ap (λ ks. is_among xs n || list_any (is_at (nat_cmp n)) ks) empty ∙ or_false (is_among xs n)

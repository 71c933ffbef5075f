-- No act stands twice in the list of those that may come.
use Rattle.std.proofs.Common.{◌≡◌, ◌≤◌, ◌==◌, ℕ, zero, suc, Bool, true, false, cond, List, [], ◌∷◌, ◌++◌, Option, None, Some, inl, inr, refl, ap, sym, ◌∙◌, subst, arith}
use Rattle.std.specs.List.{Contains, flat_map}
use Rattle.std.proofs.lemmas.List.Elements.{Contains-append_left, Contains-append_right, Contains-append_cases}
use Rattle.pyd_board.specs.declared.event.Act.{Act}
use Rattle.pyd_board.specs.declared.event.Act.TheVariants.{Place, Claim, Finish, Drop, Refine, Settle, Lose, Trim}
use Rattle.pyd_runs.specs.Plans.{Plan}
use Rattle.pyd_runs.specs.Desks.{Placed, Held}
use Rattle.pyd_runs.specs.Effects.{State}
use Rattle.pyd_runs.specs.Sound.{IsSound}
use Rattle.pyd_runs.specs.Facts.{node_of}
use Rattle.pyd_runs.specs.Deciding.{may_place, may_refine, may_settle, may_trim}
use Rattle.pyd_runs.specs.Choices.{below, on_live, places, claims, finishes, drops_one, drops, of_each, AreDistinct, DistinctLaw}
use Rattle.pyd_runs.proofs.Choosing.{one_in, the_one, none_in, in_flat, in_below, in_met, in_unmet}

-- two lists without an element in common
both_distinct : {A : Type 0} (xs ys : List A) → AreDistinct xs → AreDistinct ys
    → ((a : A) → Contains xs a → Contains ys a → ⊥) → AreDistinct (xs ++ ys)
both_distinct [] ys first more apart = more
both_distinct (x ∷ xs) ys first more apart = (
  λ at. elim (Contains-append_cases xs ys x at) [
    | inl here ↦ first.0 here
    | inr later ↦ apart x (Contains-append_left (x ∷ []) xs x (the_one x)) later
  ],
  both_distinct xs ys first.1 more
      (λ a in_first in_more. apart a (Contains-append_right (x ∷ []) xs a in_first) in_more),
)

-- what a function gives of distinct elements, where each of it tells the element
flat_distinct : {X A : Type 0} (f : X → List A) (xs : List X) → AreDistinct xs
    → ((x : X) → AreDistinct (f x))
    → ((x y : X) (a : A) → Contains (f x) a → Contains (f y) a → x ≡ y)
    → AreDistinct (flat_map f xs)
flat_distinct f [] distinct each one = tt
flat_distinct f (x ∷ xs) distinct each one =
    both_distinct (f x) (flat_map f xs) (each x) (flat_distinct f xs distinct.1 each one)
    (λ a here later. let r = in_flat f xs a later in
    distinct.0 (subst (Contains xs) (sym (one x r.0 a here r.2)) r.1))

one_distinct : {A : Type 0} (x : A) → AreDistinct (x ∷ [])
one_distinct x = ((λ at. none_in x at), tt)

below_distinct : (n : ℕ) → AreDistinct (below n)
below_distinct zero = tt
below_distinct (suc n) =
    both_distinct (below n) (n ∷ []) (below_distinct n) (one_distinct n)
    (λ a here last. let low = in_below n a here in let is = one_in n a last in
    absurd (omega (arith, low, is)))

met_distinct : {A : Type 0} (b : Bool) (xs : List A) → AreDistinct xs → AreDistinct (cond b xs [])
met_distinct true xs distinct = distinct
met_distinct false xs distinct = tt

unmet_distinct : {A : Type 0} (b : Bool) (xs : List A) → AreDistinct xs
    → AreDistinct (cond b [] xs)
unmet_distinct true xs distinct = tt
unmet_distinct false xs distinct = distinct

-- the place of what an act does
rank : Act → ℕ
rank (Place k a m) = 0
rank (Claim k a m) = 1
rank (Finish k a m) = 2
rank (Drop k a m) = 3
rank (Refine k) = 4
rank (Settle k) = 5
rank (Trim k) = 6
rank (Lose m) = 7

-- acts of a node that do the same
record IsRow (f : ℕ → List Act) (i : ℕ) : Type 0 where
  node : (k : ℕ) (a : Act) → Contains (f k) a → node_of a ≡ Some k
  same : (k : ℕ) (a : Act) → Contains (f k) a → rank a ≡ i
  distinct : (k : ℕ) → AreDistinct (f k)

-- acts behind a place
AreFrom : ℕ → List Act → Type 0
AreFrom i acts = (a : Act) → Contains acts a → i ≤ rank a

module _ (p : Plan) (s : State) where
  live_is : (f : ℕ → Act) (a : Act) → Contains (on_live p s f) a → (m : ℕ) × (f m ≡ a)
  live_is f a at =
      let r = in_flat (λ m. cond (s.lost m) [] (f m ∷ [])) (below p.setup.machines) a at in
      (r.0, one_in (f r.0) a (in_unmet (s.lost r.0) (f r.0 ∷ []) a r.2).1)

  live_distinct : (f : ℕ → Act) → ((m n : ℕ) → f m ≡ f n → m ≡ n) → AreDistinct (on_live p s f)
  live_distinct f one =
      flat_distinct (λ m. cond (s.lost m) [] (f m ∷ [])) (below p.setup.machines)
      (below_distinct p.setup.machines)
      (λ m. unmet_distinct (s.lost m) (f m ∷ []) (one_distinct (f m)))
      (λ m n a here there.
      one m n (one_in (f m) a (in_unmet (s.lost m) (f m ∷ []) a here).1
      ∙ sym (one_in (f n) a (in_unmet (s.lost n) (f n ∷ []) a there).1)))

  row_distinct : (f : ℕ → List Act) (i : ℕ) → IsRow f i → AreDistinct (of_each s f)
  row_distinct f i row =
      flat_distinct f (below s.graph.next) (below_distinct s.graph.next) row.distinct
      (λ k j a here there. let x = row.node k a here in let y = row.node j a there in cc (x, y))

  row_from : (f : ℕ → List Act) (i : ℕ) → IsRow f i → (a : Act) → Contains (of_each s f) a
      → rank a ≡ i
  row_from f i row a at = let r = in_flat f (below s.graph.next) a at in row.same r.0 a r.2

  -- a row before what stands behind it
  row_first : (f : ℕ → List Act) (i : ℕ) (more : List Act) → IsRow f i → AreDistinct more
      → AreFrom (suc i) more → AreDistinct (of_each s f ++ more) × AreFrom i (of_each s f ++ more)
  unfolding AreFrom
  row_first f i more row distinct from = (
    both_distinct (of_each s f) more (row_distinct f i row) distinct
        (λ a here later. let x = row_from f i row a here in let y = from a later in
        absurd (omega (arith, x, y))),
    λ a at. elim (Contains-append_cases (of_each s f) more a at) [
      | inl here ↦ let x = row_from f i row a here in omega (arith, x)
      | inr later ↦ let y = from a later in omega (arith, y)
    ],
  )

  -- a single act under a test
  single : (f : ℕ → Act) (test : ℕ → Bool) (i : ℕ) → ((k : ℕ) → node_of (f k) ≡ Some k)
      → ((k : ℕ) → rank (f k) ≡ i) → IsRow (λ k. cond (test k) (f k ∷ []) []) i
  single f test i node same = record {
    node = λ k a at. ap node_of (sym (one_in (f k) a (in_met (test k) (f k ∷ []) a at).1)) ∙ node k;
    same = λ k a at. ap rank (sym (one_in (f k) a (in_met (test k) (f k ∷ []) a at).1)) ∙ same k;
    distinct = λ k. met_distinct (test k) (f k ∷ []) (one_distinct (f k));
  }

  places_row : IsRow (places p s) 0
  unfolding rank
  places_row = record {
    node = λ k a at.
        (let l = live_is (Place k (suc (s.desk.places k))) a
        (in_met (may_place s k) (on_live p s (Place k (suc (s.desk.places k)))) a at).1 in
        ap node_of (sym l.1));
    same = λ k a at.
        (let l = live_is (Place k (suc (s.desk.places k))) a
        (in_met (may_place s k) (on_live p s (Place k (suc (s.desk.places k)))) a at).1 in
        ap rank (sym l.1));
    distinct = λ k.
        met_distinct (may_place s k) (on_live p s (Place k (suc (s.desk.places k))))
        (live_distinct (Place k (suc (s.desk.places k))) (λ m n e. cc (e)));
  }

  claim_node : (k : ℕ) (o : Option Placed) (a : Act) → Contains (claims p s k o) a
      → (node_of a ≡ Some k) × (rank a ≡ 1)
  unfolding rank
  claim_node k None a at = absurd (none_in a at)
  claim_node k (Some t) a at =
      let l = live_is (Claim k t.attempt) a at in (ap node_of (sym l.1), ap rank (sym l.1))

  claim_distinct : (k : ℕ) (o : Option Placed) → AreDistinct (claims p s k o)
  claim_distinct k None = tt
  claim_distinct k (Some t) = live_distinct (Claim k t.attempt) (λ m n e. cc (e))

  claims_row : IsRow (λ k. claims p s k (s.desk.ticket k)) 1
  claims_row = record {
    node = λ k a at. (claim_node k (s.desk.ticket k) a at).0;
    same = λ k a at. (claim_node k (s.desk.ticket k) a at).1;
    distinct = λ k. claim_distinct k (s.desk.ticket k);
  }

  finish_node : (k : ℕ) (o : Option Held) (a : Act) → Contains (finishes s k o) a
      → (node_of a ≡ Some k) × (rank a ≡ 2)
  unfolding rank
  finish_node k None a at = absurd (none_in a at)
  finish_node k (Some c) a at =
      let is = one_in (Finish k c.attempt c.machine) a
      (in_unmet (s.lost c.machine) (Finish k c.attempt c.machine ∷ []) a at).1 in
      (ap node_of (sym is), ap rank (sym is))

  finish_distinct : (k : ℕ) (o : Option Held) → AreDistinct (finishes s k o)
  finish_distinct k None = tt
  finish_distinct k (Some c) =
      unmet_distinct (s.lost c.machine) (Finish k c.attempt c.machine ∷ [])
      (one_distinct (Finish k c.attempt c.machine))

  finishes_row : IsRow (λ k. finishes s k (s.desk.claim k)) 2
  finishes_row = record {
    node = λ k a at. (finish_node k (s.desk.claim k) a at).0;
    same = λ k a at. (finish_node k (s.desk.claim k) a at).1;
    distinct = λ k. finish_distinct k (s.desk.claim k);
  }

  -- a Drop tells its attempt and machine
  drop_is : (k m : ℕ) (o : Option Held) (a : Act) → Contains (drops_one k m o) a
      → (c : Held) × (o ≡ Some c) × (a ≡ Drop k c.attempt m)
  drop_is k m None a at = absurd (none_in a at)
  drop_is k m (Some c) a at =
      (c, refl, sym (one_in (Drop k c.attempt m) a (in_met (c.machine == m) (Drop k c.attempt m ∷ []) a at).1))

  drop_distinct : (k m : ℕ) (o : Option Held) → AreDistinct (drops_one k m o)
  drop_distinct k m None = tt
  drop_distinct k m (Some c) =
      met_distinct (c.machine == m) (Drop k c.attempt m ∷ []) (one_distinct (Drop k c.attempt m))

  -- those of a machine
  drops_on : ℕ → ℕ → List Act
  drops_on k m = flat_map (λ b. drops_one k m (s.desk.undone k b)) (below (suc (s.desk.places k)))

  drops_on_is : (k m : ℕ) (a : Act) → Contains (drops_on k m) a
      → (attempt : ℕ) × (a ≡ Drop k attempt m)
  unfolding drops_on
  drops_on_is k m a at =
      let r = in_flat (λ b. drops_one k m (s.desk.undone k b)) (below (suc (s.desk.places k))) a at in
      let d = drop_is k m (s.desk.undone k r.0) a r.2 in (d.0.attempt, d.2)

  drops_is : (k : ℕ) (a : Act) → Contains (drops p s k) a
      → (m : ℕ) × (attempt : ℕ) × (a ≡ Drop k attempt m)
  unfolding drops_on
  drops_is k a at =
      let r = in_flat (drops_on k) (below p.setup.machines) a at in
      let d = drops_on_is k r.0 a r.2 in (r.0, d.0, d.1)

  module _ (sound : IsSound p s) where
    drops_on_distinct : (k m : ℕ) → AreDistinct (drops_on k m)
    unfolding drops_on
    drops_on_distinct k m =
        flat_distinct (λ b. drops_one k m (s.desk.undone k b)) (below (suc (s.desk.places k)))
        (below_distinct (suc (s.desk.places k)))
        (λ b. drop_distinct k m (s.desk.undone k b))
        (λ b c a here there.
        let x = drop_is k m (s.desk.undone k b) a here in
        let y = drop_is k m (s.desk.undone k c) a there in
        let first = sound.desk.undone_attempt k b x.0 x.1 in
        let second = sound.desk.undone_attempt k c y.0 y.1 in
        let one = x.2 in let other = y.2 in
        let same : x.0.attempt ≡ y.0.attempt = cc (one, other) in
        sym first ∙ same ∙ second)

    drops_row : IsRow (drops p s) 3
    unfolding rank drops_on
    drops_row = record {
      node = λ k a at. ap node_of (drops_is k a at).2;
      same = λ k a at. ap rank (drops_is k a at).2;
      distinct = λ k.
          flat_distinct (drops_on k) (below p.setup.machines) (below_distinct p.setup.machines)
          (drops_on_distinct k)
          (λ m n a here there. let x = (drops_on_is k m a here).1 in
          let y = (drops_on_is k n a there).1 in cc (x, y));
    }

    refines_row : IsRow (λ k. cond (may_refine p s k) (Refine k ∷ []) []) 4
    unfolding rank
    refines_row = single Refine (may_refine p s) 4 (λ k. refl) (λ k. refl)

    settles_row : IsRow (λ k. cond (may_settle s k) (Settle k ∷ []) []) 5
    unfolding rank
    settles_row = single Settle (may_settle s) 5 (λ k. refl) (λ k. refl)

    trims_row : IsRow (λ k. cond (may_trim s k) (Trim k ∷ []) []) 6
    unfolding rank
    trims_row = single Trim (may_trim s) 6 (λ k. refl) (λ k. refl)

-- the law
pub none_twice : DistinctLaw
unfolding AreFrom
none_twice p s sound =
    let trims_of : ℕ → List Act = λ k. cond (may_trim s k) (Trim k ∷ []) [] in
    let last = row_distinct p s trims_of 6 (trims_row p s sound) in
    let from : AreFrom 6 (of_each s trims_of)
    = (λ a at. let is = row_from p s trims_of 6 (trims_row p s sound) a at in omega (arith, is)) in
    let d5 = row_first p s (λ k. cond (may_settle s k) (Settle k ∷ []) []) 5 (of_each s trims_of)
    (settles_row p s sound) last from in
    let d4 = row_first p s (λ k. cond (may_refine p s k) (Refine k ∷ []) []) 4 _
    (refines_row p s sound) d5.0 d5.1 in
    let d3 = row_first p s (drops p s) 3 _ (drops_row p s sound) d4.0 d4.1 in
    let d2 = row_first p s (λ k. finishes s k (s.desk.claim k)) 2 _ (finishes_row p s) d3.0 d3.1 in
    let d1 = row_first p s (λ k. claims p s k (s.desk.ticket k)) 1 _ (claims_row p s) d2.0 d2.1 in
    (row_first p s (places p s) 0 _ (places_row p s) d1.0 d1.1).0

-- The marks that a walk from the end of the list leaves are the nodes that the chain reaches.
use Rattle.std.proofs.Common.{◌≡◌, ℕ, zero, suc, nat_eq, List, [], ◌∷◌, ◌++◌, Bool, true, false, cond, not, ◌&&◌, ◌||◌, ◌⊎◌, inl, inr, Contains, refl, sym, ap, ◌∙◌, arith}
use Rattle.std.proofs.lemmas.List.Folds.{list_any-append}
use Rattle.std.proofs.lemmas.List.Elements.{Contains-append_left}
use Rattle.pyd_ir.specs.declared.node.Node.{Node}
use Rattle.pyd_lineage.specs.Lineage.{named_nodes, is_among, names, Reaches, by_chain, by_past, IsInUse, NamesEarlier}
use Rattle.pyd_lineage.specs.Marking.{chain_names, with_names, past_names, reached_names}

-- the first item of a list, and one behind it
pub here : {X : Type 0} (x : X) (xs : List X) → Contains (x ∷ xs) x
here x xs = (0, omega arith, refl)

pub behind : {X : Type 0} (y : X) (xs : List X) (x : X) → Contains xs x → Contains (y ∷ xs) x
behind y xs x (k, within, is) = (suc k, omega (arith, within), is)

-- an item is the first or one behind it
pub first_or_behind : {X : Type 0} (y : X) (xs : List X) (x : X)
    → Contains (y ∷ xs) x → (y ≡ x) ⊎ Contains xs x
first_or_behind y xs x (zero, within, is) = inl is
first_or_behind y xs x (suc k, within, is) = inr (k, omega (arith, within), is)

-- truth values
pub split_or : (a b : Bool) → (a || b) ≡ true → (a ≡ true) ⊎ (b ≡ true)
split_or true b e = inl refl
split_or false b e = inr e

pub second_of : (a b : Bool) → b ≡ true → (a || b) ≡ true
second_of true b e = refl
second_of false b e = e

pub first_of : (a b : Bool) → a ≡ true → (a || b) ≡ true
first_of true b e = refl
first_of false b e = cc

pub both_of : (a b : Bool) → (a && not b) ≡ true → (a ≡ true) × (b ≡ false)
both_of true true e = cc
both_of true false e = (refl, refl)
both_of false b e = cc

pub two_of : (a b : Bool) → a ≡ true → b ≡ false → (a && not b) ≡ true
two_of true false e f = refl
two_of true true e f = cc
two_of false b e f = cc

-- a number among two lists
among_two : (xs ys : List ℕ) (n : ℕ) → is_among (xs ++ ys) n ≡ true
    → (is_among xs n ≡ true) ⊎ (is_among ys n ≡ true)
among_two xs ys n e =
    split_or (is_among xs n) (is_among ys n) (sym (list_any-append (nat_eq n) xs ys) ∙ e)

among_second : (xs ys : List ℕ) (n : ℕ) → is_among ys n ≡ true → is_among (xs ++ ys) n ≡ true
among_second xs ys n e = list_any-append (nat_eq n) xs ys ∙ second_of (is_among xs n) (is_among ys n) e

among_first : (xs ys : List ℕ) (n : ℕ) → is_among xs n ≡ true → is_among (xs ++ ys) n ≡ true
among_first xs ys n e = list_any-append (nat_eq n) xs ys ∙ first_of (is_among xs n) (is_among ys n) e

-- what is known doesn't matter to what is in use
pub reached_anyway : (past chain : List Node) (known : List ℕ) (n : ℕ)
    → Reaches past chain known n → Reaches past chain [] n
reached_anyway past chain known n (by_chain x m stands unknown named) = by_chain x n stands refl named
reached_anyway past chain known n (by_past x m stands reached unknown named) =
    by_past x n stands (reached_anyway past chain known x.id reached) refl named

-- the first nodes of a list name only earlier ones where all do
earlier_first : (InUse : Node → Type 0) (xs ys : List Node)
    → NamesEarlier InUse (xs ++ ys) → NamesEarlier InUse xs
earlier_first InUse [] ys all = tt
earlier_first InUse (x ∷ xs) ys all =
    (λ used y stands. all.0 used y (Contains-append_left (x ∷ xs) ys y stands), earlier_first InUse xs ys all.1)

-- a number that nodes of the chain name, by whether the first of them is known
chain_cases : (b : Bool) (xs ys : List ℕ) (n : ℕ) → is_among (cond b [] xs ++ ys) n ≡ true
    → ((b ≡ false) × (is_among xs n ≡ true)) ⊎ (is_among ys n ≡ true)
chain_cases true xs ys n e = inr e
chain_cases false xs ys n e = elim (among_two xs ys n e) [ inl h ↦ inl (refl, h) | inr h ↦ inr h ]

-- the same of past nodes, by whether the first of them is named
past_cases : (b : Bool) (xs ys : List ℕ) (n : ℕ) → is_among (cond b (xs ++ ys) ys) n ≡ true
    → ((b ≡ true) × (is_among xs n ≡ true)) ⊎ (is_among ys n ≡ true)
past_cases true xs ys n e = elim (among_two xs ys n e) [ inl h ↦ inl (refl, h) | inr h ↦ inr h ]
past_cases false xs ys n e = inr e

-- what is put before the marks leaves them
chain_more : (b : Bool) (xs ys : List ℕ) (n : ℕ) → is_among ys n ≡ true → is_among (cond b [] xs ++ ys) n ≡ true
chain_more b xs ys n e = among_second (cond b [] xs) ys n e

past_more : (b : Bool) (xs ys : List ℕ) (n : ℕ) → is_among ys n ≡ true → is_among (cond b (xs ++ ys) ys) n ≡ true
past_more true xs ys n e = among_second xs ys n e
past_more false xs ys n e = e

module _ (past chain : List Node) (known : List ℕ) (test : ℕ → Bool)
    (same : (n : ℕ) → test n ≡ is_among known n) where
  -- what is marked from the chain is reached
  chain_marked : (xs : List Node) → ((x : Node) → Contains xs x → Contains chain x) → (n : ℕ)
      → is_among (chain_names test xs) n ≡ true → Reaches past chain known n
  chain_marked [] all n e = absurd (let k : ⊥ = cc in k)
  chain_marked (x ∷ xs) all n e =
      elim (chain_cases (test x.id) (named_nodes x.work) (chain_names test xs) n e) [
        | inl h ↦ by_chain x n (all x (here x xs)) (sym (same x.id) ∙ h.0) h.1
        | inr h ↦ chain_marked xs (λ y c. all y (behind x xs y c)) n h
      ]

  -- and what it names is marked
  chain_found : (xs : List Node) (x : Node) (n : ℕ) → Contains xs x → test x.id ≡ false
      → names x n ≡ true → is_among (chain_names test xs) n ≡ true
  chain_found [] x n (k, within, is) unknown named = absurd (omega (arith, within))
  chain_found (y ∷ ys) x n stands unknown named = elim (first_or_behind y ys x stands) [
    | inl is ↦
        let e : test y.id ≡ false = ap (λ z. test z.id) is ∙ unknown in
        ap (λ b. is_among (cond b [] (named_nodes y.work) ++ chain_names test ys) n) e
        ∙ among_first (named_nodes y.work) (chain_names test ys) n (ap (λ z. names z n) is ∙ named)
    | inr later ↦
        chain_more (test y.id) (named_nodes y.work) (chain_names test ys) n (chain_found ys x n later unknown named)
  ]

  -- the mark of a past node, where it is reached what it names
  marked_first : (x : Node) (later : List ℕ) (n : ℕ) → Contains past x
      → ((m : ℕ) → is_among later m ≡ true → Reaches past chain known m)
      → is_among (with_names test x later) n ≡ true → Reaches past chain known n
  marked_first x later n stands so_far e =
      elim (past_cases (is_among later x.id && not (test x.id)) (named_nodes x.work) later n e) [
        | inl h ↦
            let both = both_of (is_among later x.id) (test x.id) h.0 in
            by_past x n stands (so_far x.id both.0) (sym (same x.id) ∙ both.1) h.1
        | inr h ↦ so_far n h
      ]

  -- what is marked from the past on is reached
  past_marked : (xs : List Node) (last : List ℕ) → ((x : Node) → Contains xs x → Contains past x)
      → ((m : ℕ) → is_among last m ≡ true → Reaches past chain known m) → (n : ℕ)
      → is_among (past_names test xs last) n ≡ true → Reaches past chain known n
  past_marked [] last all so_far n e = so_far n e
  past_marked (x ∷ xs) last all so_far n e =
      marked_first x (past_names test xs last) n (all x (here x xs))
      (past_marked xs last (λ y c. all y (behind x xs y c)) so_far) e

  -- what was marked stays so
  past_kept : (xs : List Node) (last : List ℕ) (n : ℕ) → is_among last n ≡ true
      → is_among (past_names test xs last) n ≡ true
  past_kept [] last n e = e
  past_kept (x ∷ xs) last n e =
      past_more (is_among (past_names test xs last) x.id && not (test x.id)) (named_nodes x.work)
      (past_names test xs last) n (past_kept xs last n e)

  -- a node that is marked in the end was so when its turn came
  own_mark : (x : Node) (later : List ℕ) → is_among (with_names test x later) x.id ≡ true
      → is_among later x.id ≡ true
  own_mark x later e =
      elim (past_cases (is_among later x.id && not (test x.id)) (named_nodes x.work) later x.id e) [
        | inl h ↦ (both_of (is_among later x.id) (test x.id) h.0).0
        | inr h ↦ h
      ]

  -- what it names is marked then
  turn_found : (x : Node) (later : List ℕ) (n : ℕ) → is_among later x.id ≡ true → test x.id ≡ false
      → names x n ≡ true → is_among (with_names test x later) n ≡ true
  turn_found x later n marked unknown named =
      ap (λ b. is_among (cond b (named_nodes x.work ++ later) later) n)
      (two_of (is_among later x.id) (test x.id) marked unknown)
      ∙ among_first (named_nodes x.work) later n named

  -- a node before it names no node behind, so it was marked without it
  mark_behind : (y x : Node) (later : List ℕ)
      → ((m : ℕ) → is_among later m ≡ true → Reaches past chain known m)
      → (IsInUse past chain y → names y x.id ≡ false)
      → is_among (with_names test y later) x.id ≡ true → is_among later x.id ≡ true
  mark_behind y x later so_far earlier e =
      elim (past_cases (is_among later y.id && not (test y.id)) (named_nodes y.work) later x.id e) [
        | inl h ↦
            let used = reached_anyway past chain known y.id (so_far y.id (both_of (is_among later y.id) (test y.id) h.0).0) in
            let never : names y x.id ≡ false = earlier (inr used) in
            absurd (let k : ⊥ = cc in k)
        | inr h ↦ h
      ]

  -- what a marked past node names is marked
  past_found : (xs : List Node) (last : List ℕ) (x : Node) (n : ℕ)
      → ((y : Node) → Contains xs y → Contains past y) → NamesEarlier (IsInUse past chain) xs
      → ((m : ℕ) → is_among last m ≡ true → Reaches past chain known m)
      → Contains xs x → is_among (past_names test xs last) x.id ≡ true → test x.id ≡ false
      → names x n ≡ true → is_among (past_names test xs last) n ≡ true
  past_found [] last x n all earlier so_far (k, within, is) marked unknown named = absurd (omega (arith, within))
  past_found (y ∷ ys) last x n all earlier so_far stands marked unknown named =
      let later = past_names test ys last in
      let rest : (z : Node) → Contains ys z → Contains past z = λ z c. all z (behind y ys z c) in
      elim (first_or_behind y ys x stands) [
        | inl is ↦
            turn_found y later n
            (own_mark y later (ap (λ z. is_among (with_names test y later) z.id) is ∙ marked))
            (ap (λ z. test z.id) is ∙ unknown) (ap (λ z. names z n) is ∙ named)
        | inr c ↦
            past_more (is_among later y.id && not (test y.id)) (named_nodes y.work) later n
            (past_found ys last x n rest earlier.1 so_far c
            (mark_behind y x later (past_marked ys last rest so_far) (λ used. earlier.0 used x (behind y ys x c)) marked)
            unknown named)
      ]

  -- what is marked is reached
  pub marked_is_reached : (n : ℕ) → is_among (reached_names past chain test) n ≡ true
      → Reaches past chain known n
  marked_is_reached n e =
      past_marked past (chain_names test chain) (λ x c. c)
      (chain_marked chain (λ x c. c)) n e

  -- what is reached is marked
  pub reached_is_marked : NamesEarlier (IsInUse past chain) (past ++ chain) → (n : ℕ)
      → Reaches past chain known n → is_among (reached_names past chain test) n ≡ true
  reached_is_marked earlier n (by_chain x m stands unknown named) =
      past_kept past (chain_names test chain) n
      (chain_found chain x n stands (same x.id ∙ unknown) named)
  reached_is_marked earlier n (by_past x m stands reached unknown named) =
      past_found past (chain_names test chain) x n (λ y c. c)
      (earlier_first (IsInUse past chain) past chain earlier)
      (chain_marked chain (λ y c. c)) stands
      (reached_is_marked earlier x.id reached) (same x.id ∙ unknown) named

-- Each name once: what is left after a name, and a walk's turn.
use Rattle.std.proofs.Common.{◌≡◌, ℕ, ◌+◌, ◌<◌, ◌≤◌, count_by, subst, lit≤, ◌⊎◌, inl, inr, length, get_or, drop, Bool, true, false, not, cond, ◌&&◌, ◌||◌, List, [], ◌∷◌, ◌++◌, refl, sym, ◌∙◌, ap, append_assoc}
use Rattle.std.specs.List.{filter}
use Rattle.std.proofs.lemmas.List.{drop_more}
use Rattle.std.proofs.lemmas.List.Sums.{length-filter}
use Rattle.std.proofs.lemmas.Map.Views.{any-filter_same}
use Rattle.pyd_names.specs.Binding.{same_name, is_among, distinct}
use Rattle.pyd_names.specs.Laws.{DistinctNames}
use Rattle.pyd_names.proofs.Names.{same_is, same-flip}

kept : {X : Type 0} → (p q : X → Bool) (x : X) (xs : List X) (a b : Bool) → q x ≡ a → p x ≡ b
    → filter p (filter q xs) ≡ filter (λ y. q y && p y) xs → filter p (filter q (x ∷ xs)) ≡ filter (λ y. q y && p y) (x ∷ xs)
kept p q x xs false b hq hp more = rw (hq) more
kept p q x xs true false hq hp more = rw (hq, hp) more
kept p q x xs true true hq hp more = rw (hq, hp) (ap (λ ys. x ∷ ys) more)

-- a filter behind a filter
pub filter-filter : {X : Type 0} → (p q : X → Bool) (xs : List X) → filter p (filter q xs) ≡ filter (λ y. q y && p y) xs
filter-filter p q [] = refl
filter-filter p q (x ∷ xs) = kept p q x xs (q x) (p x) refl refl (filter-filter p q xs)

-- tests that agree filter alike
pub filter-same : {X : Type 0} → (p q : X → Bool) → ((x : X) → p x ≡ q x) → (xs : List X) → filter p xs ≡ filter q xs
filter-same p q same [] = refl
filter-same p q same (x ∷ xs) = ap (λ b. cond b (x ∷ filter p xs) (filter p xs)) (same x) ∙ ap (λ ys. cond (q x) (x ∷ ys) ys) (filter-same p q same xs)

neither : (a b : Bool) → not a && not b ≡ not (a || b)
neither true b = refl
neither false b = refl

-- without those seen, and without one more
pub narrowed : (n : List ℕ) (seen seen' : List ℕ → Bool) → ((q : List ℕ) → seen' q ≡ (same_name n q || seen q)) → (ms : List (List ℕ))
    → filter (λ m. not (seen m)) (filter (λ m. not (same_name n m)) ms) ≡ filter (λ m. not (seen' m)) ms
narrowed n seen seen' added ms =
    filter-filter (λ m. not (seen m)) (λ m. not (same_name n m)) ms
    ∙ filter-same _ _ (λ m. neither (same_name n m) (seen m) ∙ ap not (sym (added m))) ms

-- the turn of a name that is new
pub turn_new : (n : List ℕ) (ns out whole : List (List ℕ)) (seen seen' : List ℕ → Bool)
    → ((q : List ℕ) → seen' q ≡ (same_name n q || seen q)) → seen n ≡ false
    → out ++ filter (λ m. not (seen m)) (distinct (n ∷ ns)) ≡ whole → (out ++ n ∷ []) ++ filter (λ m. not (seen' m)) (distinct ns) ≡ whole
turn_new n ns out whole seen seen' added new so_far =
    append_assoc out (n ∷ []) (filter (λ m. not (seen' m)) (distinct ns))
    ∙ ap (λ ms. out ++ n ∷ ms) (sym (narrowed n seen seen' added (distinct ns)))
    ∙ ap (λ b. out ++ cond (not b) (n ∷ filter (λ m. not (seen m)) (filter (λ m. not (same_name n m)) (distinct ns))) (filter (λ m. not (seen m)) (filter (λ m. not (same_name n m)) (distinct ns)))) (sym new)
    ∙ so_far

-- the turn of a name that was there
pub turn_old : (n : List ℕ) (ns out whole : List (List ℕ)) (seen seen' : List ℕ → Bool)
    → ((q : List ℕ) → seen' q ≡ (same_name n q || seen q)) → seen n ≡ true
    → out ++ filter (λ m. not (seen m)) (distinct (n ∷ ns)) ≡ whole → out ++ filter (λ m. not (seen' m)) (distinct ns) ≡ whole
turn_old n ns out whole seen seen' added old so_far =
    ap (λ ms. out ++ ms) (sym (narrowed n seen seen' added (distinct ns)))
    ∙ ap (λ b. out ++ cond (not b) (n ∷ filter (λ m. not (seen m)) (filter (λ m. not (same_name n m)) (distinct ns))) (filter (λ m. not (seen m)) (filter (λ m. not (same_name n m)) (distinct ns)))) (sym old)
    ∙ so_far

-- nothing was seen
pub nothing_seen : (seen : List ℕ → Bool) → ((q : List ℕ) → seen q ≡ false) → (ms : List (List ℕ)) → filter (λ m. not (seen m)) ms ≡ ms
nothing_seen seen none [] = refl
nothing_seen seen none (m ∷ ms) = ap (λ b. cond (not b) (m ∷ filter (λ k. not (seen k)) ms) (filter (λ k. not (seen k)) ms)) (none m) ∙ ap (λ ks. m ∷ ks) (nothing_seen seen none ms)

-- the name in turn, put before those that follow it
pub in_turn : (names : List (List ℕ)) (i : ℕ) (n : List ℕ) → i < length names → n ≡ get_or names i n → drop i names ≡ n ∷ drop (i + 1) names
in_turn names i n within is = drop_more names i n within ∙ ap (λ m. m ∷ drop (i + 1) names) (sym is)

-- a turn of the walk, where the name is put at the end if it was not seen
pub turn_by_test : (names out out' whole : List (List ℕ)) (i : ℕ) (n : List ℕ) (seen seen' : List ℕ → Bool)
    → i < length names → n ≡ get_or names i n → ((q : List ℕ) → seen' q ≡ (same_name n q || seen q))
    → out ++ filter (λ m. not (seen m)) (distinct (drop i names)) ≡ whole
    → ((seen n ≡ false) × (out' ≡ out ++ n ∷ [])) ⊎ ((seen n ≡ true) × (out' ≡ out))
    → out' ++ filter (λ m. not (seen' m)) (distinct (drop (i + 1) names)) ≡ whole
turn_by_test names out out' whole i n seen seen' within is added so_far (inl (new, put)) =
    ap (λ ms. ms ++ filter (λ m. not (seen' m)) (distinct (drop (i + 1) names))) put
    ∙ turn_new n (drop (i + 1) names) out whole seen seen' added new
    (ap (λ ms. out ++ filter (λ m. not (seen m)) (distinct ms)) (sym (in_turn names i n within is)) ∙ so_far)
turn_by_test names out out' whole i n seen seen' within is added so_far (inr (old, kept)) =
    ap (λ ms. ms ++ filter (λ m. not (seen' m)) (distinct (drop (i + 1) names))) kept
    ∙ turn_old n (drop (i + 1) names) out whole seen seen' added old
    (ap (λ ms. out ++ filter (λ m. not (seen m)) (distinct ms)) (sym (in_turn names i n within is)) ∙ so_far)

-- whether a name is among the others, once the first is left out of them
either_way : (first flipped rest : Bool) → first ≡ flipped → (first || (not flipped && rest)) ≡ (first || rest)
either_way true flipped rest e = refl
either_way false false rest e = refl
either_way false true rest e = cc

-- the distinct names are the names
pub is_among-distinct : (ns : List (List ℕ)) (n : List ℕ) → is_among (distinct ns) n ≡ is_among ns n
is_among-distinct [] n = refl
is_among-distinct (m ∷ ms) n =
    ap (λ b. same_name n m || b)
    (any-filter_same (same_name n) (λ k. not (same_name m k)) (not (same_name m n)) (λ k h. ap (λ x. not (same_name m x)) (sym (same_is n k h))) (distinct ms))
    ∙ ap (λ b. same_name n m || (not (same_name m n) && b)) (is_among-distinct ms n)
    ∙ either_way (same_name n m) (same_name m n) (is_among ms n) (same-flip n m)

-- nothing passes
filter-none : {X : Type 0} → (xs : List X) → filter (λ x. false) xs ≡ []
filter-none [] = refl
filter-none (x ∷ xs) = filter-none xs

both_not : (b : Bool) → (not b && b) ≡ false
both_not true = refl
both_not false = refl

beside : (b c : Bool) → (c ≡ true → b ≡ false) → (not b && c) ≡ c
beside false c h = refl
beside true false h = refl
beside true true h = cc (h refl)

once_more : (n m : List ℕ) (ds : List (List ℕ)) (b : Bool) → same_name n m ≡ b → length (filter (same_name n) ds) ≤ 1
    → length (cond b (m ∷ filter (same_name n) (filter (λ k. not (same_name m k)) ds)) (filter (same_name n) (filter (λ k. not (same_name m k)) ds))) ≤ 1
once_more n m ds true h more =
    let none : filter (same_name n) (filter (λ k. not (same_name m k)) ds) ≡ [] =
    filter-filter (same_name n) (λ k. not (same_name m k)) ds
    ∙ filter-same _ (λ y. false) (λ y. ap (λ x. not (same_name x y) && same_name n y) (sym (same_is n m h)) ∙ both_not (same_name n y)) ds
    ∙ filter-none ds in
    let P : List (List ℕ) → Type 0 = λ ks. length (m ∷ ks) ≤ 1 in
    subst P (sym none) (lit≤ tt)
once_more n m ds false h more =
    let same : filter (same_name n) (filter (λ k. not (same_name m k)) ds) ≡ filter (same_name n) ds =
    filter-filter (same_name n) (λ k. not (same_name m k)) ds
    ∙ filter-same _ (same_name n) (λ y. beside (same_name m y) (same_name n y) (λ e. ap (same_name m) (sym (same_is n y e)) ∙ same-flip m n ∙ h)) ds in
    let P : List (List ℕ) → Type 0 = λ ks. length ks ≤ 1 in
    subst P (sym same) more

once_kept : (ns : List (List ℕ)) (n : List ℕ) → length (filter (same_name n) (distinct ns)) ≤ 1
once_kept [] n = lit≤ tt
once_kept (m ∷ ms) n = once_more n m (distinct ms) (same_name n m) refl (once_kept ms n)

-- each distinct name is there once at most
pub count-distinct : (ns : List (List ℕ)) (n : List ℕ) → count_by (same_name n) (distinct ns) ≤ 1
count-distinct ns n =
    let P : ℕ → Type 0 = λ k. k ≤ 1 in
    subst P (length-filter (same_name n) (distinct ns)) (once_kept ns n)

pub distinct_names : DistinctNames
distinct_names = record { same = is_among-distinct; once = count-distinct }

-- How often the names so far have a name, told by two sets.
use Rattle.std.proofs.Common.{◌≡◌, ℕ, ◌+◌, ◌<◌, Bool, true, false, cond, ◌||◌, nat_le, List, [], ◌∷◌, ◌++◌, map, take, length, get_or, count_by, refl, sym, ◌∙◌, ap, arith, zero-add}
use Rattle.std.proofs.lemmas.Grind.{common_steps}
use Rattle.std.proofs.lemmas.List.{take_more}
use Rattle.std.proofs.lemmas.List.Sums.{sum_by-append}
use Rattle.pyd_names.specs.declared.binding.Binding.{Binding}
use Rattle.pyd_names.specs.Binding.{same_name, names_of}
use Rattle.pyd_names.proofs.Names.{same_is, same-flip}

-- one more name
pub count-push : {X : Type 0} → (p : X → Bool) (xs : List X) (x : X) → count_by p (xs ++ x ∷ []) ≡ count_by p xs + cond (p x) 1 0
count-push p xs x =
    sum_by-append (λ y. cond (p y) 1 0) xs (x ∷ []) ∙ ap (λ n. count_by p xs + n) (zero-add (cond (p x) 1 0))

map-push : {X Y : Type 0} → (f : X → Y) (xs : List X) (x : X) → map f (xs ++ x ∷ []) ≡ map f xs ++ f x ∷ []
map-push f [] x = refl
map-push f (y ∷ xs) x = ap (λ zs. f y ∷ zs) (map-push f xs x)

-- the count one binding on
pub count_more : (q : List ℕ) (bs : List Binding) (i : ℕ) (b : Binding) → i < length bs → b ≡ get_or bs i b
    → count_by (same_name q) (names_of (take (i + 1) bs)) ≡ count_by (same_name q) (names_of (take i bs)) + cond (same_name q b.name) 1 0
count_more q bs i b within is =
    ap (λ cs. count_by (same_name q) (names_of cs)) (take_more bs i b within)
    ∙ ap (λ c. count_by (same_name q) (names_of (take i bs ++ c ∷ []))) (sym is)
    ∙ ap (count_by (same_name q)) (map-push (λ c. c.name) (take i bs) b)
    ∙ count-push (same_name q) (names_of (take i bs)) b.name

one_more : (same seen : Bool) (n : ℕ) → seen ≡ nat_le 1 n → (same || seen) ≡ nat_le 1 (n + cond same 1 0)
one_more true seen n is = grind (arith, common_steps)
one_more false seen n is = grind (arith, common_steps)

-- a name is bound after one more binding
pub bound_more : (q x : List ℕ) (seen seen' : Bool) (n n' : ℕ) → seen ≡ nat_le 1 n → n' ≡ n + cond (same_name q x) 1 0
    → seen' ≡ (same_name x q || seen) → seen' ≡ nat_le 1 n'
bound_more q x seen seen' n n' was count added =
    added ∙ ap (λ b. b || seen) (same-flip x q) ∙ one_more (same_name q x) seen n was ∙ ap (nat_le 1) (sym count)

again_true : (n : ℕ) → nat_le 1 n ≡ true → nat_le 2 (n + 1) ≡ true
again_true n h = grind (arith, common_steps)

again_false : (n : ℕ) → nat_le 1 n ≡ false → nat_le 2 n ≡ nat_le 2 (n + 1)
again_false n h = grind (arith, common_steps)

again_none : (n : ℕ) → nat_le 2 n ≡ nat_le 2 (n + 0)
again_none n = grind (arith, common_steps)

same_or_not : (q x : List ℕ) (again : Bool) (n : ℕ) (same : Bool) → same_name q x ≡ same
    → (same ≡ true → again ≡ nat_le 2 (n + 1)) → again ≡ nat_le 2 n → again ≡ nat_le 2 (n + cond same 1 0)
same_or_not q x again n true is then_ more = then_ refl
same_or_not q x again n false is then_ more = more ∙ again_none n

-- a name that is new is not bound again
pub again_new : (q x : List ℕ) (count : List ℕ → ℕ) (again again' : Bool) (n' : ℕ)
    → nat_le 1 (count x) ≡ false → again ≡ nat_le 2 (count q) → n' ≡ count q + cond (same_name q x) 1 0 → again' ≡ again → again' ≡ nat_le 2 n'
again_new q x count again again' n' new was one_more kept =
    kept ∙ same_or_not q x again (count q) (same_name q x) refl
    (λ h. was ∙ again_false (count q) (ap (λ y. nat_le 1 (count y)) (same_is q x h) ∙ new)) was
    ∙ ap (nat_le 2) (sym one_more)

or_same : (q x : List ℕ) (again : Bool) (n : ℕ) (same : Bool) → same_name q x ≡ same
    → (same ≡ true → nat_le 1 n ≡ true) → again ≡ nat_le 2 n → (same || again) ≡ nat_le 2 (n + cond same 1 0)
or_same q x again n true is old was = sym (again_true n (old refl))
or_same q x again n false is old was = was ∙ again_none n

-- a name that was there is bound again
pub again_old : (q x : List ℕ) (count : List ℕ → ℕ) (again again' : Bool) (n' : ℕ)
    → nat_le 1 (count x) ≡ true → again ≡ nat_le 2 (count q) → n' ≡ count q + cond (same_name q x) 1 0 → again' ≡ (same_name x q || again) → again' ≡ nat_le 2 n'
again_old q x count again again' n' old was one_more added =
    added ∙ ap (λ b. b || again) (same-flip x q)
    ∙ or_same q x again (count q) (same_name q x) refl (λ h. ap (λ y. nat_le 1 (count y)) (same_is q x h) ∙ old) was
    ∙ ap (nat_le 2) (sym one_more)

-- Functions of numbers that are written at one number.
use Rattle.std.proofs.Common.{◌≡◌, ℕ, ◌<◌, List, length, get_or, set, inl, inr, ap, sym, ◌∙◌}
use Rattle.std.proofs.lemmas.List.{get_or-set_same, get_or-set_other}
use Rattle.pyd_runs.specs.Desks.{put_at}
use Rattle.pyd_runs.proofs.Putting.{at_cases, put_same, put_else}

-- what is computed of it is written too
through_at : {A B : Type 0} (h : ℕ → A → B) (f : ℕ → A) (k : ℕ) (a : A) (n : ℕ)
    → h n (put_at f k a n) ≡ put_at (λ j. h j (f j)) k (h k a) n
through_at h f k a n = elim (at_cases n k) [
  | inl same ↦
      ap (h n) (put_same f k a n same) ∙ ap (λ j. h j a) same
      ∙ sym (put_same (λ j. h j (f j)) k (h k a) n same)
  | inr other ↦
      ap (h n) (put_else f k a n other) ∙ sym (put_else (λ j. h j (f j)) k (h k a) n other)
]

pub through : {A B : Type 0} (h : ℕ → A → B) (f : ℕ → A) (k : ℕ) (a : A)
    → (λ n. h n (put_at f k a n)) ≡ put_at (λ n. h n (f n)) k (h k a)
through h f k a = λ i n. through_at h f k a n i

-- where it was so before, nothing changes
unchanged_at : {A : Type 0} (f : ℕ → A) (k : ℕ) (a : A) (n : ℕ) → a ≡ f k → put_at f k a n ≡ f n
unchanged_at f k a n was = elim (at_cases n k) [
  | inl same ↦ put_same f k a n same ∙ was ∙ ap f (sym same)
  | inr other ↦ put_else f k a n other
]

pub unchanged : {A : Type 0} (f : ℕ → A) (k : ℕ) (a : A) → a ≡ f k → put_at f k a ≡ f
unchanged f k a was = λ i n. unchanged_at f k a n was i

-- what stands at the places of a list with one of them set
put_or_at : {A : Type 0} (xs : List A) (k : ℕ) (a d : A) (n : ℕ) → k < length xs
    → get_or (set xs k a) n d ≡ put_at (λ j. get_or xs j d) k a n
put_or_at xs k a d n within = elim (at_cases n k) [
  | inl same ↦
      ap (λ j. get_or (set xs k a) j d) same ∙ get_or-set_same xs k a d within
      ∙ sym (put_same (λ j. get_or xs j d) k a n same)
  | inr other ↦
      get_or-set_other xs k n a d other ∙ sym (put_else (λ j. get_or xs j d) k a n other)
]

pub put_or : {A : Type 0} (xs : List A) (k : ℕ) (a d : A) → k < length xs
    → (λ n. get_or (set xs k a) n d) ≡ put_at (λ n. get_or xs n d) k a
put_or xs k a d within = λ i n. put_or_at xs k a d n within i

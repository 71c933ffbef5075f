-- Jobs that are taken out, and jobs that are kept anew.
use Rattle.std.proofs.Common.{◌≡◌, ℕ, List, [], ◌∷◌, ◌++◌, Contains, Some, inl, inr, ◌⊎◌, refl, ap, sym, subst, ◌∙◌, arith}
use Rattle.std.proofs.lemmas.List.Elements.{Contains-append_left, Contains-append_right, Contains-append_cases, Contains-push_cases}
use Rattle.pyd_board.specs.declared.event.Event.{Event}
use Rattle.pyd_ir.specs.declared.job.Job.{Job}
use Rattle.pyd_runs.specs.Choices.{AreDistinct}
use Rattle.pyd_runs.specs.Claims.{HoldLaw, IsHeld, IsLetGo, LetGoLaw, LetsGo, TakeLaw}
use Rattle.pyd_board.specs.declared.event.Act.TheVariants.{Claim}
use Rattle.pyd_runs.specs.Desks.{Held}
use Rattle.pyd_runs.specs.Effects.{State, happens}
use Rattle.pyd_runs.specs.Enabled.{Enabled}
use Rattle.pyd_runs.specs.Plans.{Plan}
use Rattle.pyd_runs.specs.Sound.{IsSound}
use Rattle.pyd_here.specs.Jobs.{AreJobsOf, IsJobHeld, TakesOut}

-- a node holds one claim of an attempt at most
pub one_held : (p : Plan) (s : State) (k : ℕ) (c d : Held) → IsSound p s → IsHeld s k c
    → IsHeld s k d → c.attempt ≡ d.attempt → c ≡ d
one_held p s k c d sound (inl a) (inl b) same = (let both : Some c ≡ Some d = sym a ∙ b in cc (both))
one_held p s k c d sound (inl a) (inr b) same =
    let before = sound.attempts.before_claim k d.attempt d c b a in
    let last = sound.attempts.claim k c a in
    absurd (omega (arith, before, last, same))
one_held p s k c d sound (inr a) (inl b) same =
    let before = sound.attempts.before_claim k c.attempt c d a b in
    let last = sound.attempts.claim k d b in
    absurd (omega (arith, before, last, same))
one_held p s k c d sound (inr a) (inr b) same =
    (let both : Some c ≡ Some d
    = sym (subst (λ n. s.desk.undone k n ≡ Some c) same a) ∙ b in cc (both))

-- in a list without doubles what stands between two parts isn't in them
between : {A : Type 0} (xs ys : List A) (x : A) → AreDistinct (xs ++ x ∷ ys)
    → Contains (xs ++ ys) x → ⊥
between [] ys x distinct at = distinct.0 at
between (y ∷ xs) ys x distinct at = elim (Contains-append_cases (y ∷ []) (xs ++ ys) x at) [
  | inl first ↦
      distinct.0 (subst (Contains (xs ++ x ∷ ys)) (sym (alone y x first))
      (Contains-append_right xs (x ∷ ys) x (Contains-append_left (x ∷ []) ys x (0, omega arith, refl))))
  | inr later ↦ between xs ys x distinct.1 later
]
  where
    alone : {A : Type 0} (y x : A) → Contains (y ∷ []) x → y ≡ x
    alone y x at = elim (Contains-push_cases [] y x at) [
      | inl none ↦ absurd (let lt = none.1 in omega (arith, lt))
      | inr is ↦ is
    ]

-- what is in the parts was in the list
wider : {A : Type 0} (xs ys : List A) (x a : A) → Contains (xs ++ ys) a
    → Contains (xs ++ x ∷ ys) a
wider xs ys x a at = elim (Contains-append_cases xs ys a at) [
  | inl first ↦ Contains-append_left xs (x ∷ ys) a first
  | inr later ↦ Contains-append_right xs (x ∷ ys) a (Contains-append_right (x ∷ []) ys a later)
]

-- and what was in the list is in the parts, or what was taken out
narrower : {A : Type 0} (xs ys : List A) (x a : A) → Contains (xs ++ x ∷ ys) a
    → Contains (xs ++ ys) a ⊎ (x ≡ a)
narrower xs ys x a at = elim (Contains-append_cases xs (x ∷ ys) a at) [
  | inl first ↦ inl (Contains-append_left xs ys a first)
  | inr later ↦ elim (Contains-append_cases (x ∷ []) ys a later) [
    | inl one ↦ elim (Contains-push_cases [] x a one) [
      | inl none ↦ absurd (let lt = none.1 in omega (arith, lt))
      | inr is ↦ inr is
    ]
    | inr more ↦ inl (Contains-append_right xs ys a more)
  ]
]

-- the parts have no doubles
pub parts_distinct : {A : Type 0} (xs ys : List A) (x : A) → AreDistinct (xs ++ x ∷ ys)
    → AreDistinct (xs ++ ys)
parts_distinct [] ys x distinct = distinct.1
parts_distinct (y ∷ xs) ys x distinct =
    (λ at. distinct.0 (wider xs ys x y at), parts_distinct xs ys x distinct.1)

module _ (p : Plan) (s : State) (k a : ℕ) (jobs left : List Job) (job : Job) (c : Held)
    (sound : IsSound p s) (are : AreJobsOf p s jobs) (taken : TakesOut jobs left k a job)
    (held : IsHeld s k c) (of : c.attempt ≡ a) where
  was_there : Contains jobs job
  was_there =
      subst (λ js. Contains js job) (sym taken.was)
      (Contains-append_right taken.before (job ∷ taken.behind) job
      (Contains-append_left (job ∷ []) taken.behind job (0, omega arith, refl)))

  -- a job that is held for this attempt of the node is that of its claim
  its_job : (j : Job) → IsJobHeld s j → j.node ≡ k → j.attempt ≡ a → j ≡ c.job
  its_job j h node attempt =
      sym h.same
      ∙ ap (λ (d : Held). d.job)
      (one_held p s k h.claim c sound (subst (λ n. IsHeld s n h.claim) node h.held) held
      (h.attempt ∙ attempt ∙ sym of))

  -- so is the job that was taken out
  pub taken_is : job ≡ c.job
  taken_is = its_job job (are.held job was_there) taken.is_of.of_node taken.is_of.of_attempt

  -- once the claim is let go, those that are left are held
  pub left_held : HoldLaw → TakeLaw → LetGoLaw → (e : Event) → Enabled p s e
      → IsLetGo k c e → ((n b m : ℕ) → e.act ≡ Claim n b m → ⊥)
      → ((n b : ℕ) → LetsGo n b e.act → (n ≡ k) × (b ≡ a))
      → AreJobsOf p (happens p s e) left
  left_held holds takes gone e enabled lets_go no_claim only = record {
    claims = λ n d now. elim (takes p s e n d enabled now) [
      | inl was ↦ (let kept = are.claims n d was in record {
        of_job = kept.of_job;
        seat = kept.seat;
        kept = elim (narrower taken.before taken.behind job d.job
            (subst (λ js. Contains js d.job) taken.was kept.kept)) [
              | inl there ↦ subst (λ js. Contains js d.job) (sym taken.left) there
              | inr same ↦ absurd (
                  let node : n ≡ k
                  = sym kept.of_job.of_node ∙ ap (λ (j : Job). j.node) (sym same)
                  ∙ taken.is_of.of_node in
                  let attempt : d.attempt ≡ a
                  = sym kept.of_job.of_attempt ∙ ap (λ (j : Job). j.attempt) (sym same)
                  ∙ taken.is_of.of_attempt in
                  let it : d ≡ c
                  = one_held p s k d c sound (subst (λ m. IsHeld s m d) node was) held
                  (attempt ∙ sym of) in
                  gone p s e k c sound enabled lets_go
                  (subst (λ (x : Held). IsHeld (happens p s e) k x) it
                  (subst (λ m. IsHeld (happens p s e) m d) node now)))
            ];
      })
      | inr claims ↦ absurd (no_claim n d.attempt d.machine claims.act)
    ];
    held = λ j at.
        (let there : Contains (taken.before ++ taken.behind) j
        = subst (λ js. Contains js j) taken.left at in
        let was = are.held j (subst (λ js. Contains js j) (sym taken.was)
        (wider taken.before taken.behind job j there)) in
        record {
          claim = was.claim;
          held = holds p s e j.node was.claim sound enabled
              (λ lets. (let one = only j.node was.claim.attempt lets.1 in
              between taken.before taken.behind job
              (subst AreDistinct taken.was are.distinct)
              (subst (Contains (taken.before ++ taken.behind))
              (its_job j was one.0 (sym was.attempt ∙ one.1) ∙ sym taken_is) there)))
              was.held;
          attempt = was.attempt;
          same = was.same;
        });
    distinct = subst AreDistinct (sym taken.left)
        (parts_distinct taken.before taken.behind job (subst AreDistinct taken.was are.distinct));
  }

-- Jobs that are kept once a claim is made.
use Rattle.std.proofs.Common.{◌≡◌, ℕ, List, [], ◌∷◌, ◌++◌, Contains, Some, None, inl, inr, ap, sym, subst, ◌∙◌, arith}
use Rattle.std.proofs.lemmas.List.Elements.{Contains-append_left, Contains-append_right, Contains-push, Contains-push_cases}
use Rattle.pyd_board.specs.declared.event.Act.TheVariants.{Claim}
use Rattle.pyd_board.specs.declared.event.Event.{Event}
use Rattle.pyd_ir.specs.declared.job.Job.{Job}
use Rattle.pyd_runs.specs.Choices.{AreDistinct}
use Rattle.pyd_runs.specs.Claims.{HoldLaw, IsHeld, LetsGo, TakeLaw}
use Rattle.pyd_runs.specs.Desks.{Held}
use Rattle.pyd_runs.specs.Effects.{State, happens}
use Rattle.pyd_runs.specs.Enabled.{CanClaim, Enabled}
use Rattle.pyd_runs.specs.Facts.{IsClaimed}
use Rattle.pyd_runs.specs.Plans.{Plan, first_seat}
use Rattle.pyd_runs.specs.Sound.{IsSound}
use Rattle.pyd_here.specs.Jobs.{AreJobsOf}
use Rattle.pyd_here.proofs.Taken.{one_held}

-- one more element that isn't among those of a list without doubles
one_more : {A : Type 0} (xs : List A) (x : A) → AreDistinct xs → (Contains xs x → ⊥)
    → AreDistinct (xs ++ x ∷ [])
one_more [] x distinct apart = ((λ at. let lt = at.1 in absurd (omega (arith, lt))), tt)
one_more (y ∷ xs) x distinct apart = (
  λ at. elim (Contains-push_cases xs x y at) [
    | inl there ↦ distinct.0 there
    | inr same ↦ apart (0, omega arith, sym same)
  ],
  one_more xs x distinct.1 (λ at. apart (Contains-append_right (y ∷ []) xs x at)),
)

module _ (p : Plan) (s : State) (seat k a m : ℕ) (e : Event) (jobs : List Job)
    (sound : IsSound p s) (are : AreJobsOf p s jobs) (enabled : Enabled p s e)
    (act : e.act ≡ Claim k a m) (by : e.by ≡ first_seat p m)
    (can : CanClaim p s seat k a m)
    (claimed : IsClaimed s ((happens p s e).desk.claim k) e.by k a m) where
  abbrev now : Held
  now = record { attempt = a; machine = m; seat = e.by; job = claimed.job }

  -- the job of the attempt isn't kept yet
  fresh : Contains jobs claimed.job → ⊥
  fresh at =
      let was = are.held claimed.job at in
      let attempt : was.claim.attempt ≡ a = was.attempt ∙ claimed.of_attempt in
      let last = sound.attempts.ticket k can.ticket can.is_live in
      let is_last = can.of_attempt in
      elim (subst (λ n. IsHeld s n was.claim) claimed.of_node was.held) [
        | inl claim ↦
            (let none = (sound.desk.ticket_alone k can.ticket can.is_live).1 in
            let both : Some was.claim ≡ None = sym claim ∙ none in
            cc (both))
        | inr undone ↦
            (let before = sound.attempts.before_ticket k was.claim.attempt was.claim can.ticket
            undone can.is_live in
            absurd (omega (arith, before, last, is_last, attempt)))
      ]

  -- with its job they are those of all claims that are held
  pub with_claim : HoldLaw → TakeLaw → IsSound p (happens p s e)
      → AreJobsOf p (happens p s e) (jobs ++ claimed.job ∷ [])
  with_claim holds takes sound_now = record {
    claims = λ n d is. elim (takes p s e n d enabled is) [
      | inl was ↦ (let kept = are.claims n d was in record {
        of_job = kept.of_job;
        kept = Contains-append_left jobs (claimed.job ∷ []) d.job kept.kept;
        seat = kept.seat;
      })
      | inr taken ↦
          (let acts : Claim k a m ≡ Claim n d.attempt d.machine = sym act ∙ taken.act in
          let node : k ≡ n = cc (acts) in
          let attempt : a ≡ d.attempt = cc (acts) in
          let same : now ≡ d = one_held p (happens p s e) n now d sound_now
          (subst (λ i. IsHeld (happens p s e) i now) node (inl claimed.claim)) is attempt in
          record {
            of_job = record {
              of_node = ap (λ (h : Held). h.job.node) (sym same) ∙ claimed.of_node ∙ node;
              of_attempt = ap (λ (h : Held). h.job.attempt) (sym same) ∙ claimed.of_attempt
                  ∙ attempt;
            };
            kept = subst (λ (h : Held). Contains (jobs ++ claimed.job ∷ []) h.job) same
                (Contains-push jobs claimed.job);
            seat = sym taken.by ∙ by ∙ ap (λ (h : Held). first_seat p h.machine) same;
          })
    ];
    held = λ j at. elim (Contains-push_cases jobs claimed.job j at) [
      | inl there ↦ (let was = are.held j there in record {
        claim = was.claim;
        held = holds p s e j.node was.claim sound enabled
            (λ lets. subst (LetsGo j.node was.claim.attempt) act lets.1)
            was.held;
        attempt = was.attempt;
        same = was.same;
      })
      | inr same ↦ record {
        claim = now;
        held = subst (λ (x : Job). IsHeld (happens p s e) x.node now) same
            (subst (λ i. IsHeld (happens p s e) i now) (sym claimed.of_node)
            (inl claimed.claim));
        attempt = sym claimed.of_attempt ∙ ap (λ (x : Job). x.attempt) same;
        same = same;
      }
    ];
    distinct = one_more jobs claimed.job are.distinct fresh;
  }

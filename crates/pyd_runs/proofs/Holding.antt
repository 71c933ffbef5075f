-- A claim is held until its own seat finishes or drops it.
use Rattle.std.proofs.Common.{◌≡◌, ◌≢◌, ◌==◌, ℕ, Bool, true, false, if◌then◌else◌, Option, None, Some, inl, inr, refl, ap, sym, ◌∙◌, arith}
use Rattle.pyd_board.specs.declared.event.Act.{Act}
use Rattle.pyd_board.specs.declared.event.Act.TheVariants.{Place, Claim, Finish, Drop, Refine, Settle, Lose, Trim}
use Rattle.pyd_ir.specs.Meaning.{job_ran}
use Rattle.pyd_runs.specs.Plans.{Plan, limits_of}
use Rattle.pyd_runs.specs.Desks.{Held, put_at}
use Rattle.pyd_runs.specs.Records.{ready}
use Rattle.pyd_runs.specs.Losses.{held_elsewhere, undone_with}
use Rattle.pyd_runs.specs.Effects.{State, acted, happens, held_by, finished_by, is_run, kept_by_driver, kept_by_machine}
use Rattle.pyd_runs.specs.Enabled.{CanAct, Holds}
use Rattle.pyd_runs.specs.Sound.{IsSound}
use Rattle.pyd_runs.specs.Claims.{IsHeld, LetsGo, HoldLaw}
use Rattle.pyd_runs.proofs.Putting.{at_cases, put_else, put_same, same_test, other_test, none_apart}
use Rattle.pyd_runs.proofs.Dropping.{claims_but, undone_but}

-- a claim that isn't a machine's is left
pub elsewhere_kept : (machine : ℕ) (o : Option Held) (c : Held) → o ≡ Some c → c.machine ≢ machine
    → held_elsewhere machine o ≡ Some c
elsewhere_kept machine None c e other = absurd (cc (e))
elsewhere_kept machine (Some q) c e other =
    let z : q ≡ c = cc (e) in
    let apart : q.machine ≢ machine
    = (λ w. other (ap (λ (x : Held). x.machine) (sym z) ∙ w)) in
    ap (λ b. if b then None else Some q) (other_test q.machine machine apart) ∙ e

-- a claim that was undone stays where another one is dropped
undone_kept : (undone : ℕ → ℕ → Option Held) (k attempt n b : ℕ) (c : Held)
    → undone n b ≡ Some c → ((n ≡ k) → (b ≡ attempt) → ⊥)
    → undone_but undone k attempt n b ≡ Some c
undone_kept undone k attempt n b c e other =
    let new : ℕ → Option Held = put_at (undone k) attempt None in
    elim (at_cases n k) [
      | inr apart ↦ ap (λ (h : ℕ → Option Held). h b) (put_else undone k new n apart) ∙ e
      | inl same ↦ elim (at_cases b attempt) [
        | inl also ↦ absurd (other same also)
        | inr apart ↦
            ap (λ (h : ℕ → Option Held). h b) (put_same undone k new n same)
            ∙ put_else (undone k) attempt None b apart
            ∙ ap (λ i. undone i b) (sym same) ∙ e
      ]
    ]

-- the seat, attempt and machine of a claim
pub holds_some : (o : Option Held) (seat attempt machine : ℕ) → Holds o seat attempt machine
    → (c : Held) × (o ≡ Some c) × (c.seat ≡ seat) × (c.attempt ≡ attempt)
    × (c.machine ≡ machine)
holds_some None seat attempt machine h = absurd h
holds_some (Some q) seat attempt machine h =
    (q, refl, h.by_seat, h.of_attempt, h.on_machine)

-- the seat that holds a claim is the claim's, and so are the attempt and the machine
pub holds_parts : (o : Option Held) (seat attempt machine : ℕ) (c : Held)
    → Holds o seat attempt machine → o ≡ Some c
    → (seat ≡ c.seat) × (attempt ≡ c.attempt) × (machine ≡ c.machine)
holds_parts None seat attempt machine c h e = absurd h
holds_parts (Some q) seat attempt machine c h e =
    let z : q ≡ c = cc (e) in (
      sym h.by_seat ∙ ap (λ (x : Held). x.seat) z,
      sym h.of_attempt ∙ ap (λ (x : Held). x.attempt) z,
      sym h.on_machine ∙ ap (λ (x : Held). x.machine) z,
    )

-- a machine's claim is undone by its loss
undone_new : (machine : ℕ) (claim old : Option Held) (c : Held) → claim ≡ Some c
    → c.machine ≡ machine → undone_with machine c.attempt claim old ≡ Some c
undone_new machine None old c e h = absurd (cc (e))
undone_new machine (Some q) old c e h =
    let z : q ≡ c = cc (e) in
    ap (λ b. if b then (if q.attempt == c.attempt then Some q else old) else old)
    (same_test q.machine machine (ap (λ (x : Held). x.machine) z ∙ h))
    ∙ ap (λ b. if b then Some q else old)
    (same_test q.attempt c.attempt (ap (λ (x : Held). x.attempt) z)) ∙ e

-- where both answers of a test are one, it is that
either_way : {A : Type 0} (b : Bool) (x : A) → (if b then x else x) ≡ x
either_way true x = refl
either_way false x = refl

-- what was undone before stays undone
undone_old : (machine attempt : ℕ) (claim old : Option Held) (c : Held) → old ≡ Some c
    → ((q : Held) → claim ≡ Some q → q.attempt ≢ attempt)
    → undone_with machine attempt claim old ≡ Some c
undone_old machine attempt None old c e h = e
undone_old machine attempt (Some q) old c e h =
    ap (λ b. if q.machine == machine then (if b then Some q else old) else old)
    (other_test q.attempt attempt (h q refl))
    ∙ either_way (q.machine == machine) old ∙ e

-- what a Finish leaves of the claims of other nodes
pub finish_else : (p : Plan) (s : State) (k machine n : ℕ) (o : Option Held) → n ≢ k
    → (finished_by p s k machine o).desk.claim n ≡ s.desk.claim n
finish_else p s k machine n None other = refl
finish_else p s k machine n (Some c) other = by_kind (is_run c.job.task)
  where
    by_kind : (b : Bool)
        → (if b then kept_by_driver s k (job_ran p.file (limits_of p) c.job)
        else kept_by_machine s k machine (job_ran p.file (limits_of p) c.job)).desk.claim n
        ≡ s.desk.claim n
    by_kind true = put_else s.desk.claim k None n other
    by_kind false = put_else s.desk.claim k None n other

-- and of what was undone
pub finish_undone : (p : Plan) (s : State) (k machine : ℕ) (o : Option Held)
    → (finished_by p s k machine o).desk.undone ≡ s.desk.undone
finish_undone p s k machine None = refl
finish_undone p s k machine (Some c) = by_kind (is_run c.job.task)
  where
    by_kind : (b : Bool)
        → (if b then kept_by_driver s k (job_ran p.file (limits_of p) c.job)
        else kept_by_machine s k machine (job_ran p.file (limits_of p) c.job)).desk.undone
        ≡ s.desk.undone
    by_kind true = refl
    by_kind false = refl

-- a claim that stands, where another one is dropped
dropped_claim : (p : Plan) (s : State) (seat k attempt machine n : ℕ) (c : Held)
    → IsSound p s → CanAct p s seat (Drop k attempt machine)
    → ((seat ≡ c.seat) → LetsGo n c.attempt (Drop k attempt machine) → ⊥)
    → s.desk.claim n ≡ Some c → claims_but s.desk.claim k machine n ≡ Some c
dropped_claim p s seat k attempt machine n c h can apart d =
    let new : Option Held = held_elsewhere machine (s.desk.claim k) in
    elim (at_cases n k) [
      | inr other ↦ put_else s.desk.claim k new n other ∙ d
      | inl same ↦
          let here : s.desk.claim k ≡ Some c = ap s.desk.claim (sym same) ∙ d in
          elim can [
            | inl undone ↦
                let x = holds_some (s.desk.undone k attempt) seat attempt machine undone.1 in
                let gone : s.lost machine ≡ true
                = ap s.lost (sym x.4) ∙ h.desk.undone_lost k attempt x.0 x.1 in
                let lives = (h.desk.claim_lives k c here).not_lost in
                put_same s.desk.claim k new n same
                ∙ elsewhere_kept machine (s.desk.claim k) c here (λ w.
                let y : s.lost machine ≡ false = ap s.lost (sym w) ∙ lives in
                absurd (cc (gone, y)))
            | inr left ↦
                let x = holds_parts (s.desk.claim k) seat attempt machine c left.2 here in
                absurd (apart x.0 (sym same, x.1))
          ]
    ]

-- a claim that a loss undid, where another one is dropped
dropped_undone : (p : Plan) (s : State) (seat k attempt machine n : ℕ) (c : Held)
    → IsSound p s → CanAct p s seat (Drop k attempt machine)
    → ((seat ≡ c.seat) → LetsGo n c.attempt (Drop k attempt machine) → ⊥)
    → s.desk.undone n c.attempt ≡ Some c
    → undone_but s.desk.undone k attempt n c.attempt ≡ Some c
dropped_undone p s seat k attempt machine n c h can apart u =
    undone_kept s.desk.undone k attempt n c.attempt c u (λ same also. elim can [
      | inl undone ↦
          let here : s.desk.undone k attempt ≡ Some c
          = ap (λ j. s.desk.undone j attempt) (sym same)
          ∙ ap (s.desk.undone n) (sym also) ∙ u in
          let x = holds_parts (s.desk.undone k attempt) seat attempt machine c undone.1 here in
          apart x.0 (sym same, sym also)
      | inr left ↦
          let x = holds_some (s.desk.claim k) seat attempt machine left.2 in
          let now = h.attempts.claim k x.0 x.1 in
          let before = h.attempts.before_claim n c.attempt c x.0 u
          (ap s.desk.claim same ∙ x.1) in
          let places : s.desk.places n ≡ s.desk.places k = ap s.desk.places same in
          let at = x.3 in absurd (omega arith)
    ])

-- what a seat does keeps the claims that it doesn't let go
act_holds : (p : Plan) (s : State) (seat : ℕ) (act : Act) (n : ℕ) (c : Held) → IsSound p s
    → CanAct p s seat act → ((seat ≡ c.seat) → LetsGo n c.attempt act → ⊥) → IsHeld s n c
    → IsHeld (acted p s seat act) n c
unfolding acted
act_holds p s seat (Place k a m) n c h can why held = held
act_holds p s seat (Settle k) n c h can why held = held
act_holds p s seat (Refine k) n c h can why held = held
act_holds p s seat (Trim k) n c h can why held = held
act_holds p s seat (Claim k a m) n c h can why (inr u) = inr u
act_holds p s seat (Claim k a m) n c h can why (inl d) = elim (at_cases n k) [
  | inl same ↦
      let q = can.1 in
      absurd (none_apart (s.desk.claim k) c (h.desk.ticket_alone k q.ticket q.is_live).1
      (ap s.desk.claim (sym same) ∙ d))
  | inr other ↦ inl (put_else s.desk.claim k
      (held_by a m seat (ready s.graph s.desk.stores k a)) n other ∙ d)
]
act_holds p s seat (Finish k a m) n c h can apart (inr u) =
    inr (ap (λ (f : ℕ → ℕ → Option Held). f n c.attempt)
    (finish_undone p s k m (s.desk.claim k)) ∙ u)
act_holds p s seat (Finish k a m) n c h can apart (inl d) = elim (at_cases n k) [
  | inl same ↦
      let x = holds_parts (s.desk.claim k) seat a m c can.1.holds
      (ap s.desk.claim (sym same) ∙ d) in
      absurd (apart x.0 (sym same, x.1))
  | inr other ↦ inl (finish_else p s k m n (s.desk.claim k) other ∙ d)
]
act_holds p s seat (Drop k a m) n c h can apart (inl d) =
    inl (dropped_claim p s seat k a m n c h can apart d)
act_holds p s seat (Drop k a m) n c h can apart (inr u) =
    inr (dropped_undone p s seat k a m n c h can apart u)
act_holds p s seat (Lose m) n c h can why (inl d) = elim (at_cases c.machine m) [
  | inl same ↦ inr (undone_new m (s.desk.claim n) (s.desk.undone n c.attempt) c d same)
  | inr other ↦ inl (elsewhere_kept m (s.desk.claim n) c d other)
]
act_holds p s seat (Lose m) n c h can why (inr u) =
    inr (undone_old m c.attempt (s.desk.claim n) (s.desk.undone n c.attempt) c u (λ q e z.
    let now = h.attempts.claim n q e in
    let before = h.attempts.before_claim n c.attempt c q u e in absurd (omega arith)))

-- the law
pub claims_hold : HoldLaw
unfolding happens
claims_hold p s e k c sound enabled keeps held =
    elim (act_holds p s e.by e.act k c sound enabled.act (λ own go. keeps (own, go)) held) [
      | inl stays ↦ inl stays
      | inr undone ↦ inr undone
    ]

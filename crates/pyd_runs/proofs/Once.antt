-- No node is settled twice.
use Rattle.std.proofs.Common.{◌≡◌, ◌≢◌, ◌<◌, ◌≤◌, ◌+◌, ◌==◌, ℕ, Bool, true, false, cond, if◌then◌else◌, List, [], ◌∷◌, Option, None, Some, ◌⊎◌, inl, inr, refl, ap, sym, ◌∙◌, subst, arith}
use Rattle.std.specs.Prelude.{Result, Ok, Err, option_map}
use Rattle.std.specs.List.{Contains, count_by}
use Rattle.std.proofs.lemmas.List.Sums.{sum_by-cons}
use Rattle.pyd_value.specs.declared.value.Value.{Value}
use Rattle.pyd_value.specs.declared.fault.Fault.{Fault}
use Rattle.pyd_tree.specs.declared.file.File.{File}
use Rattle.pyd_meaning.specs.declared.limits.Limits.{Limits}
use Rattle.pyd_meaning.specs.Evaluation.{Evaluation}
use Rattle.pyd_board.specs.declared.event.Act.{Act}
use Rattle.pyd_board.specs.declared.event.Act.TheVariants.{Place, Claim, Finish, Drop, Refine, Settle, Lose, Trim}
use Rattle.pyd_board.specs.declared.event.Event.{Event}
use Rattle.pyd_ir.specs.declared.node.Node.{Node}
use Rattle.pyd_ir.specs.declared.work.Work.{Work}
use Rattle.pyd_ir.specs.declared.work.Work.TheVariants.{Op, Read, Call, Stop, Print, Run, Cond, While, For, Pick, Enter}
use Rattle.pyd_ir.specs.Arguments.{is_pure}
use Rattle.pyd_ir.specs.Inputs.{Given, work_meaning}
use Rattle.pyd_ir.specs.Meaning.{job_ran}
use Rattle.pyd_translate.specs.Supplied.{AreSupplied, HasNeeds}
use Rattle.pyd_runs.specs.Plans.{Plan, limits_of}
use Rattle.pyd_runs.specs.Graphs.{Graph}
use Rattle.pyd_runs.specs.Desks.{Held}
use Rattle.pyd_runs.specs.Effects.{State, first_state, acted, happens, settled, settled_chain, settled_as, settled_by, passed, trimmed, finished_by, is_run, kept_by_driver, kept_by_machine}
use Rattle.pyd_runs.specs.Enabled.{CanAct, WaitsNot}
use Rattle.pyd_runs.specs.Replay.{IsLegalFrom}
use Rattle.pyd_runs.specs.Sound.{IsSound, IsFresh, is_over}
use Rattle.pyd_runs.specs.Laws.{OnceLaw, settles}
use Rattle.pyd_runs.proofs.Putting.{test_same}
use Rattle.pyd_runs.proofs.Without.{here}
use Rattle.pyd_runs.proofs.Within.{values_there}
use Rattle.pyd_runs.proofs.Standing.{AreApart, list_apart, list_below}
use Rattle.pyd_runs.proofs.Growing.{fresh_now}
use Rattle.pyd_runs.proofs.Refined.{refines_so}
use Rattle.pyd_runs.proofs.Running.{event_keeps}
use Rattle.pyd_runs.proofs.Starting.{starts}

-- a head that doesn't wait and has what it needs means something
pub head_means : (file : File) (limits : Limits) (s : State) (k routine : ℕ) (given : Given)
    (line depth : ℕ) (w : Work) → WaitsNot s k w → HasNeeds file routine given w
    → (e : Evaluation Value) × (work_meaning file limits given line depth w ≡ Some e)
head_means file limits s k routine given line depth (Op op args) waits needs =
    let vs = values_there given args needs in (_, ap (option_map _) vs.1)
head_means file limits s k routine given line depth (Read arg kind) waits needs = (_, refl)
head_means file limits s k routine given line depth (Call func args) waits needs =
    let vs = values_there given args needs in (_, ap (option_map _) vs.1)
head_means file limits s k routine given line depth (Stop fault) waits needs = (_, refl)
head_means file limits s k routine given line depth (Print args) waits needs =
    let vs = values_there given args needs in (_, ap (option_map _) vs.1)
head_means file limits s k routine given line depth (Run func args) waits needs =
    let vs = values_there given args needs in (_, ap (option_map _) vs.1)
head_means file limits s k routine given line depth (Cond test stmt arm rest env) waits needs =
    absurd waits
head_means file limits s k routine given line depth (While test stmt turns rest env) waits needs =
    absurd waits
head_means file limits s k routine given line depth (For over stmt turns rest env) waits needs =
    absurd waits
head_means file limits s k routine given line depth (Pick test first second env) waits needs =
    absurd waits
head_means file limits s k routine given line depth (Enter func args) waits needs = absurd waits

-- a node was settled or replaced, or the run doesn't go on
abbrev pub IsSpent : Graph → ℕ → Type 0
IsSpent g k = ((k < g.next) × IsFresh k g.chain) ⊎ (g.end ≢ None)

-- a graph whose head is settled
spent_passed : (b : Bool) (g : Graph) (n : Node) (rest : List Node) (lines : List (List ℕ))
    (v : Value) (k : ℕ) → k < g.next → IsFresh k rest → IsSpent (passed b g n rest lines v) k
spent_passed true g n rest lines v k low fresh = inl (low, fresh)
spent_passed false g n rest lines v k low fresh = inl (low, fresh)

spent_result : (g : Graph) (n : Node) (rest : List Node) (lines : List (List ℕ))
    (r : Result Value Fault) (k : ℕ) → k < g.next → IsFresh k rest
    → IsSpent (settled_by g n rest lines r) k
spent_result g n rest lines (Ok v) k low fresh =
    spent_passed (is_pure n.work) g n rest lines v k low fresh
spent_result g n rest lines (Err f) k low fresh = inr (λ z. absurd (cc (z)))

-- by a Settle the head is spent, and what was spent still is
by_settle : (p : Plan) (s : State) (seat k j : ℕ) → IsSound p s → CanAct p s seat (Settle k)
    → ((j < s.graph.next) × IsFresh j s.graph.chain) ⊎ (j ≡ k)
    → IsSpent (acted p s seat (Settle k)).graph j
unfolding acted settled AreSupplied
by_settle p s seat k j sound can was =
    let g = s.graph in
    let c = can.1 in
    let supplied = subst (λ (ns : List Node). AreSupplied p.file (limits_of p) g.next ns g.given)
    c.chain (sound.graph.supplied can.0.goes_on) in
    let means = head_means p.file (limits_of p) s k c.head.routine g.given c.head.line c.head.depth
    c.head.work c.waits_not supplied.1 in
    let apart : AreApart (c.head ∷ c.rest)
    = subst AreApart c.chain (list_apart (is_over g) g.next g.chain sound.graph.listed) in
    let there : Contains g.chain c.head
    = subst (λ (ns : List Node). Contains ns c.head) (sym c.chain) (here c.head c.rest) in
    let low : (j < g.next) × IsFresh j c.rest = elim was [
      | inl old ↦ (old.0, (subst (IsFresh j) c.chain old.1).1)
      | inr same ↦
          let is : c.head.id ≡ j = c.number ∙ sym same in (
            subst (λ i. i < g.next) is
                (list_below (is_over g) g.next g.chain c.head sound.graph.listed there),
            subst (λ i. IsFresh i c.rest) is apart.0,
          )
    ] in
    subst (λ (ns : List Node). IsSpent (settled_chain p g ns) j) (sym c.chain)
    (subst (λ (o : Option (Evaluation Value)). IsSpent (settled_as g c.head c.rest o) j)
    (sym means.1)
    (spent_result g c.head c.rest means.0.lines means.0.result j low.0 low.1))

-- a job that is done changes no chain
finish_chain : (p : Plan) (s : State) (k machine : ℕ) (o : Option Held) (j : ℕ)
    → IsSpent s.graph j → IsSpent (finished_by p s k machine o).graph j
finish_chain p s k machine None j spent = spent
finish_chain p s k machine (Some c) j spent = by_kind (is_run c.job.task)
  where
    by_kind : (b : Bool)
        → IsSpent (if b then kept_by_driver s k (job_ran p.file (limits_of p) c.job)
        else kept_by_machine s k machine (job_ran p.file (limits_of p) c.job)).graph j
    by_kind true = spent
    by_kind false = spent

-- what is spent stays so
stays_spent : (p : Plan) (s : State) (seat : ℕ) (act : Act) (j : ℕ) → IsSound p s
    → CanAct p s seat act → IsSpent s.graph j → IsSpent (acted p s seat act).graph j
unfolding acted trimmed
stays_spent p s seat (Place k a m) j sound can spent = spent
stays_spent p s seat (Claim k a m) j sound can spent = spent
stays_spent p s seat (Finish k a m) j sound can spent =
    finish_chain p s k m (s.desk.claim k) j spent
stays_spent p s seat (Drop k a m) j sound can spent = spent
stays_spent p s seat (Lose m) j sound can spent = spent
stays_spent p s seat (Trim k) j sound can spent = spent
stays_spent p s seat (Settle k) j sound can (inl old) = by_settle p s seat k j sound can (inl old)
stays_spent p s seat (Settle k) j sound can (inr ended) = absurd (ended can.0.goes_on)
stays_spent p s seat (Refine k) j sound can (inr ended) = absurd (ended can.0.goes_on)
stays_spent p s seat (Refine k) j sound can (inl old) =
    let r = refines_so p s k sound can.0.goes_on can.1 in
    let low = old.0 in
    let grown_up = r.grows.new.grown in
    subst (λ (g : Graph). IsSpent g j) (sym r.graph)
    (inl (
      omega (arith, low, grown_up),
      fresh_now p s.graph r.node r.before r.after r.piece sound.graph r.grows j low old.1,
    ))

-- and can't be settled
not_spent : (p : Plan) (s : State) (seat k : ℕ) → CanAct p s seat (Settle k)
    → IsSpent s.graph k → ⊥
not_spent p s seat k can (inr ended) = ended can.0.goes_on
not_spent p s seat k can (inl old) =
    let c = can.1 in (subst (IsFresh k) c.chain old.1).0 c.number

-- how often events settle a node
settlings : ℕ → List Event → ℕ
settlings k es = count_by (λ (e : Event). settles k e.act) es

settlings_cons : (k : ℕ) (e : Event) (es : List Event)
    → settlings k (e ∷ es) ≡ cond (settles k e.act) 1 0 + settlings k es
unfolding settlings
settlings_cons k e es = sum_by-cons (λ (x : Event). cond (settles k x.act) 1 0) e es

-- at most once, and not where it is spent
record IsOnce (s : State) (k : ℕ) (es : List Event) : Type 0 where
  most : settlings k es ≤ 1
  none : IsSpent s.graph k → settlings k es ≡ 0

-- nothing and none are none
pub no_more : (c : ℕ) → c ≡ 0 → 0 + c ≡ 0
no_more c none = omega (arith, none)

counted : (p : Plan) (s : State) (seat : ℕ) (act : Act) (j c : ℕ) → IsSound p s
    → CanAct p s seat act → c ≤ 1 → (IsSpent (acted p s seat act).graph j → c ≡ 0)
    → (cond (settles j act) 1 0 + c ≤ 1)
    × (IsSpent s.graph j → cond (settles j act) 1 0 + c ≡ 0)
counted p s seat (Settle k) j c sound can most none = by_test (k == j) refl
  where
    by_test : (b : Bool) → (k == j) ≡ b
        → (cond b 1 0 + c ≤ 1) × (IsSpent s.graph j → cond b 1 0 + c ≡ 0)
    by_test true t =
        let same = test_same k j t in
        let z = none (by_settle p s seat k j sound can (inr (sym same))) in (
          omega (arith, z),
          (λ spent. absurd (not_spent p s seat k can (subst (IsSpent s.graph) (sym same) spent))),
        )
    by_test false t = (
      omega (arith, most),
      (λ spent. let z = none (stays_spent p s seat (Settle k) j sound can spent) in
          omega (arith, z)),
    )
counted p s seat (Place k a m) j c sound can most none =
    (omega (arith, most), (λ w. no_more c (none (stays_spent p s seat (Place k a m) j sound can w))))
counted p s seat (Claim k a m) j c sound can most none =
    (omega (arith, most), (λ w. no_more c (none (stays_spent p s seat (Claim k a m) j sound can w))))
counted p s seat (Finish k a m) j c sound can most none =
    (omega (arith, most), (λ w. no_more c (none (stays_spent p s seat (Finish k a m) j sound can w))))
counted p s seat (Drop k a m) j c sound can most none =
    (omega (arith, most), (λ w. no_more c (none (stays_spent p s seat (Drop k a m) j sound can w))))
counted p s seat (Lose m) j c sound can most none =
    (omega (arith, most), (λ w. no_more c (none (stays_spent p s seat (Lose m) j sound can w))))
counted p s seat (Refine k) j c sound can most none =
    (omega (arith, most), (λ w. no_more c (none (stays_spent p s seat (Refine k) j sound can w))))
counted p s seat (Trim k) j c sound can most none =
    (omega (arith, most), (λ w. no_more c (none (stays_spent p s seat (Trim k) j sound can w))))

counts : (p : Plan) (s : State) (k : ℕ) (es : List Event) → IsSound p s → IsLegalFrom p s es
    → IsOnce s k es
unfolding IsLegalFrom happens settlings
counts p s k [] sound legal = record { most = omega arith; none = λ spent. refl }
counts p s k (e ∷ es) sound legal =
    let r = counts p (happens p s e) k es (event_keeps p s e sound legal.0) legal.1 in
    let c = counted p s e.by e.act k (settlings k es) sound legal.0.act r.most (λ w. r.none w) in
    let all = settlings_cons k e es in
    let most = c.0 in
    record {
      most = omega (arith, all, most);
      none = λ spent. all ∙ c.1 spent;
    }

-- the law
pub once_settled : OnceLaw
unfolding settlings
once_settled p es k runnable legal =
    (counts p (first_state p) k es (starts p runnable) legal).most

-- How many events a run in head order has at most, by its script and its plan alone.
use Rattle.std.proofs.Common.{◌≡◌, ◌≤◌, ℕ, zero, suc, ◌+◌, ◌*◌, List, [], ◌∷◌, length, Some, inl, inr, refl, ap, sym, subst, ◌∙◌, mul-one, mul-suc, suc-mul, mul_assoc, mul_comm, mul_left_comm, arith}
use Rattle.std.proofs.lemmas.Nat.{mul-le}
use Rattle.pyd_value.specs.declared.fault.End.TheVariants.{Finished}
use Rattle.pyd_board.specs.declared.event.Act.{Act}
use Rattle.pyd_board.specs.declared.event.Act.TheVariants.{Place, Claim, Finish, Drop, Refine, Settle, Lose, Trim}
use Rattle.pyd_board.specs.declared.event.Event.{Event}
use Rattle.pyd_ir.specs.declared.node.Node.{Node}
use Rattle.pyd_translate.specs.Counts.{file_items}
use Rattle.pyd_runs.specs.Plans.{Plan, meaning}
use Rattle.pyd_runs.specs.Graphs.{module_piece, end_at}
use Rattle.pyd_runs.specs.Effects.{first_state}
use Rattle.pyd_runs.specs.Enabled.{CanAct}
use Rattle.pyd_runs.specs.Replay.{IsLegal, IsLegalFrom, replay}
use Rattle.pyd_runs.specs.Bounds.{event_bound, RunBound}
use Rattle.pyd_runs.proofs.Stepping.{taken}
use Rattle.pyd_runs.proofs.Counting.{losing, lost_so_far, few_steps, few_events}
use Rattle.pyd_runs.proofs.Made.{first_few, few_made}

-- a number is no more than its product with one that isn't 0
times_more : (a b : ℕ) → 1 ≤ b → a ≤ a * b
times_more a b some =
    let more : a * 1 ≤ a * b = mul-le a 1 a b (omega arith) some in
    let one : a * 1 ≡ a = mul-one a in
    omega (arith, more, one)

-- the nodes of a run, by the items of its file and the steps of its script
few_nodes : (items steps advanced next : ℕ) → 1 ≤ items → advanced ≤ 4 * steps
    → next ≤ 3 * items + 3 * (advanced * suc items) → next ≤ 24 * (suc steps * items)
few_nodes items steps advanced next some few made =
    let parts = mul-suc advanced items in
    let each = times_more advanced items some in
    let most : advanced * items ≤ 4 * steps * items =
    mul-le advanced items (4 * steps) items few (omega arith) in
    let same : 4 * steps * items ≡ 4 * (steps * items) = mul_assoc 4 steps items in
    let all = suc-mul steps items in
    omega (arith, made, parts, each, most, same, all)

-- its events, by those, the losses and its nodes
few_in_all : (items steps losses lost next count : ℕ) → 1 ≤ items → lost ≤ losses
    → next ≤ 24 * (suc steps * items) → count ≤ 4 * steps + lost + 3 * (suc lost * next)
    → count ≤ 100 * (suc losses * (suc steps * items))
few_in_all items steps losses lost next count some less few counted =
    let most : suc lost * next ≤ suc losses * (24 * (suc steps * items)) =
    mul-le (suc lost) next (suc losses) (24 * (suc steps * items)) (omega (arith, less)) few in
    let same : suc losses * (24 * (suc steps * items)) ≡ 24 * (suc losses * (suc steps * items)) =
    mul_left_comm (suc losses) 24 (suc steps * items) in
    let each = times_more steps items some in
    let parts = suc-mul steps items in
    let share = times_more losses (suc steps * items) (omega (arith, parts, some)) in
    let all = suc-mul losses (suc steps * items) in
    omega (arith, counted, less, most, same, each, parts, share, all)

-- the product as the law writes it
product : (items steps losses : ℕ)
    → 100 * items * (steps + 1) * (1 + losses) ≡ 100 * (suc losses * (suc steps * items))
product items steps losses =
    let more : steps + 1 ≡ suc steps = omega arith in
    let others : 1 + losses ≡ suc losses = omega arith in
    ap (λ n. n * (1 + losses)) (mul_assoc 100 items (steps + 1))
    ∙ mul_assoc 100 (items * (steps + 1)) (1 + losses)
    ∙ ap (λ n. 100 * n)
    (mul_comm (items * (steps + 1)) (1 + losses)
    ∙ ap (λ n. n * (items * (steps + 1))) others
    ∙ ap (λ n. suc losses * n)
    (mul_comm items (steps + 1) ∙ ap (λ n. n * items) more))

-- a run in which no node is made has ended
ended_at : (ns : List Node) → length ns ≤ 0 → end_at ns ≡ Some Finished
ended_at [] few = refl
ended_at (n ∷ ns) few = absurd (omega (arith, few))

-- where a run has ended before any event, none may come
none_first : (p : Plan) (seat : ℕ) (act : Act) → end_at (module_piece p).nodes ≡ Some Finished
    → CanAct p (first_state p) seat act → ⊥
none_first p seat (Place k a m) ended can = let on = can.0.goes_on in absurd (cc (on, ended))
none_first p seat (Claim k a m) ended can = let on = can.0.goes_on in absurd (cc (on, ended))
none_first p seat (Finish k a m) ended can = let on = can.0.goes_on in absurd (cc (on, ended))
none_first p seat (Drop k a m) ended can = elim can [
  | inl undone ↦ undone.1
  | inr left ↦ left.2
]
none_first p seat (Refine k) ended can = let on = can.0.goes_on in absurd (cc (on, ended))
none_first p seat (Settle k) ended can = let on = can.0.goes_on in absurd (cc (on, ended))
none_first p seat (Lose m) ended can = let on = can.goes_on in absurd (cc (on, ended))
none_first p seat (Trim k) ended can = let on = can.0.goes_on in absurd (cc (on, ended))

-- a run of a file without a statement has no event
no_events : (p : Plan) (es : List Event) → IsLegal p es → file_items p.file ≡ 0 → es ≡ []
unfolding IsLegalFrom
no_events p [] legal none = refl
no_events p (e ∷ es) legal none =
    let few = first_few p in
    absurd (none_first p e.by e.act
    (ended_at (module_piece p).nodes (omega (arith, few, none))) legal.0.act)

-- the law
pub run_bounded : RunBound
run_bounded p es runnable legal order = by_items (file_items p.file) refl
  where
    by_items : (n : ℕ) → file_items p.file ≡ n → length es ≤ event_bound p
    by_items zero is =
        let none : length es ≡ 0 = ap (λ (x : List Event). length x) (no_events p es legal is) in
        omega (arith, none)
    by_items (suc n) is =
        let items = file_items p.file in
        let steps = (meaning p).steps in
        let losses = length p.setup.losses in
        let nodes = few_nodes items steps (taken es) (replay p es).graph.next (omega (arith, is))
        (few_steps p es runnable legal order) (few_made p es runnable legal) in
        subst (λ m. length es ≤ m) (sym (product items steps losses))
        (few_in_all items steps losses (losing es) (replay p es).graph.next (length es)
        (omega (arith, is)) (lost_so_far p (first_state p) es legal) nodes
        (few_events p es runnable legal order))

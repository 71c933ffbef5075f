use Rattle.std.proofs.Common.{◌≡◌, ℕ, ◌+◌, ◌<◌, List, ◌++◌, ◌∷◌, [], length, get_or, set, refl, sym, subst, arith}
use Rattle.std.proofs.lemmas.Grind.{common_steps}
use Rattle.pyd_board.specs.declared.event.Event.{Event}
use Rattle.pyd_board.specs.Histories.{entries}
use Rattle.pyd_core.proofs.Logs.{count_fits, counted_more}
use Rattle.pyd_core.proofs.log.Log.note.Goals as goal

pub overflow_add-nth : goal.overflow_add-nth
overflow_add-nth c =
    let counts : List ℕ = c.args.self.now.counts.items in
    let seat : ℕ = c.args.seat in
    let n : get_or counts seat 0 ≡ c.index-nth.result.now = grind (arith, common_steps, c.index-nth.ensures, c.requires.seat) in
    let room = c.requires.room in
    let small = c.args.self.now.journal.small in
    let all = c.args.self.now.journal.ok.0 in
    let fits = count_fits counts c.args.self.now.journal.items seat c.requires.seat
    c.requires.counted (omega (arith, room, small, all)) in
    omega (arith, fits, n)

pub returns-clause-counted : goal.returns-clause-counted
returns-clause-counted c =
    let counts : List ℕ = c.args.self.now.counts.items in
    let seat : ℕ = c.args.seat in
    let e : Event = record { by = seat; nth = c.index-nth.result.now; act = c.args.act } in
    let n : get_or counts seat 0 ≡ c.index-nth.result.now = grind (arith, common_steps, c.index-nth.ensures, c.requires.seat) in
    subst (λ (js : List Event). (s : ℕ) → s < length (set counts seat (c.index-nth.result.now + 1)) → get_or (set counts seat (c.index-nth.result.now + 1)) s 0 ≡ entries s js)
    (sym c.push_reserved.ensures.items)
    (subst (λ (x : ℕ). (s : ℕ) → s < length (set counts seat (x + 1)) → get_or (set counts seat (x + 1)) s 0 ≡ entries s (c.args.self.now.journal.items ++ e ∷ []))
    n (counted_more counts c.args.self.now.journal.items seat e refl c.requires.seat c.requires.counted))

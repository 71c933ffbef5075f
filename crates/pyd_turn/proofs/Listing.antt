-- For callers who join the other seats in the order of their numbers.
use Rattle.std.proofs.Common.{◌≡◌, ◌≢◌, ℕ, ◌+◌, ◌<◌, List, [], ◌∷◌, ◌++◌, Contains, refl, sym, ap, subst, arith}
use Rattle.std.proofs.lemmas.List.Elements.{Contains-append_left, Contains-push}
use mathlib.Core.Logic.{dite}
use native.Mathlib.Decide.{ℕ_discrete}
use Rattle.pyd_turn.specs.declared.view.Tally.{Tally}
use Rattle.pyd_turn.specs.Views.{AllListed}

-- seat 0 is in no list
pub lists_none : (ts : List Tally) → AllListed 1 ts
lists_none ts k low high = absurd (omega arith)

-- the next seat is listed after those before it
pub lists_next : (n : ℕ) (ts us : List Tally) (a : Tally) → AllListed n ts → us ≡ ts ++ a ∷ [] → a.seat ≡ n → AllListed (n + 1) us
lists_next n ts us a all is seat k low high =
    let next : (m : ℕ) × Contains us (record { seat = k; entries = m }) = dite (ℕ_discrete k n)
    (λ e. (a.entries, subst (λ (z : List Tally × ℕ). Contains z.0 (record { seat = z.1; entries = a.entries })) (λ i. (sym is i, sym e i)) (subst (λ (z : ℕ). Contains (ts ++ a ∷ []) (record { seat = z; entries = a.entries })) seat (Contains-push ts a))))
    (λ ne. let h = all k low (omega arith) in (h.0, subst (λ (z : List Tally). Contains z (record { seat = k; entries = h.0 })) (sym is) (Contains-append_left ts (a ∷ []) (record { seat = k; entries = h.0 }) h.1))) in next

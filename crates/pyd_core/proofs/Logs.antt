-- The number of each seat's entries after one more.
use Rattle.std.proofs.Common.{◌≡◌, ◌≢◌, ℕ, ◌+◌, ◌^◌, ◌==◌, ◌<◌, List, [], ◌∷◌, ◌++◌, length, get_or, set, inl, inr, ap, sym, subst, ◌∙◌, arith, length-set}
use Rattle.std.proofs.lemmas.List.{get_or-set_same, get_or-set_other}
use Rattle.std.proofs.lemmas.List.Elements.{All-nil, All-cons}
use Rattle.std.proofs.lemmas.List.Sums.{count_by-le-length}
use Rattle.pyd_board.specs.declared.event.Event.{Event}
use Rattle.pyd_board.specs.Histories.{entries}
use Rattle.pyd_board.proofs.Extending.{entries-append, entries_own, entries_none}
use Rattle.pyd_runs.proofs.Putting.{at_cases}

alone : (seat : ℕ) (e : Event) → e.by ≡ seat → entries seat (e ∷ []) ≡ 1
alone seat e own =
    entries_own seat (e ∷ []) (All-cons (λ (x : Event). x.by ≡ seat) e [] own (All-nil (λ (x : Event). x.by ≡ seat)))

other : (seat s : ℕ) (e : Event) → e.by ≡ seat → s ≢ seat → entries s (e ∷ []) ≡ 0
other seat s e own apart =
    entries_none seat s apart (e ∷ []) (All-cons (λ (x : Event). x.by ≡ seat) e [] own (All-nil (λ (x : Event). x.by ≡ seat)))

-- counts after an entry of a seat
pub counted_more : (counts : List ℕ) (journal : List Event) (seat : ℕ) (e : Event)
    → e.by ≡ seat → seat < length counts
    → ((s : ℕ) → s < length counts → get_or counts s 0 ≡ entries s journal)
    → (s : ℕ) → s < length (set counts seat (get_or counts seat 0 + 1))
    → get_or (set counts seat (get_or counts seat 0 + 1)) s 0
    ≡ entries s (journal ++ e ∷ [])
counted_more counts journal seat e own within are s below =
    let more = entries-append s journal (e ∷ []) in
    let there : s < length counts = subst (λ n. s < n) (length-set counts seat (get_or counts seat 0 + 1)) below in
    elim (at_cases s seat) [
      | inl same ↦
          let at : get_or (set counts seat (get_or counts seat 0 + 1)) s 0 ≡ get_or counts seat 0 + 1 =
          ap (λ j. get_or (set counts seat (get_or counts seat 0 + 1)) j 0) same
          ∙ get_or-set_same counts seat (get_or counts seat 0 + 1) 0 within in
          let was : get_or counts seat 0 ≡ entries s journal = are seat within ∙ ap (λ j. entries j journal) (sym same) in
          let one : entries s (e ∷ []) ≡ 1 = alone s e (own ∙ sym same) in
          omega arith
      | inr apart ↦
          let at : get_or (set counts seat (get_or counts seat 0 + 1)) s 0 ≡ get_or counts s 0 =
          get_or-set_other counts seat s (get_or counts seat 0 + 1) 0 apart in
          let was : get_or counts s 0 ≡ entries s journal = are s there in
          let none : entries s (e ∷ []) ≡ 0 = other seat s e own apart in
          omega arith
    ]

-- one more is counted without overflow, where a journal is short enough
pub count_fits : (counts : List ℕ) (journal : List Event) (seat : ℕ) → seat < length counts
    → ((s : ℕ) → s < length counts → get_or counts s 0 ≡ entries s journal)
    → length journal < 2 ^ 63 → get_or counts seat 0 + 1 < 2 ^ 64
count_fits counts journal seat within are short =
    let counted = are seat within in
    let few = count_by-le-length (λ (e : Event). e.by == seat) journal in
    omega (arith, counted, few, short)

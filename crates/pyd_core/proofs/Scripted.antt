-- The entry of a script that is due.
use Rattle.std.proofs.Common.{◌≡◌, ◌<◌, ℕ, zero, suc, List, [], ◌∷◌, length, drop, Bool, true, false, cond, Some, None, inl, inr, refl, ap, subst}
use Rattle.std.specs.Prelude.{nat_le}
use Rattle.std.specs.List.{All, slice_get}
use Rattle.std.proofs.lemmas.Bool.{cases_lt}
use Rattle.std.proofs.lemmas.List.{drop_all}
use Rattle.std.proofs.lemmas.List.Elements.{All-head}
use Rattle.pyd_board.specs.declared.setup.Loss.{Loss}
use Rattle.pyd_runs.specs.Losses.{due_at}

-- where there is an entry at a place, it alone tells
pub due_some : (events place : ℕ) (ls : List Loss) (l : Loss) → slice_get ls place ≡ Some l
    → due_at events (drop place ls) ≡ cond (nat_le l.event events) (Some l.machine) None
due_some events place [] l at = absurd (cc (at))
due_some events zero (x ∷ ls) l at =
    let same : x ≡ l = cc (at) in
    ap (λ (y : Loss). cond (nat_le y.event events) (Some y.machine) None) same
due_some events (suc place) (x ∷ ls) l at = due_some events place ls l at

-- where there is none, none is due
pub due_none : (events place : ℕ) (ls : List Loss) → slice_get ls place ≡ None
    → due_at events (drop place ls) ≡ None
due_none events zero [] at = refl
due_none events (suc place) [] at = refl
due_none events zero (x ∷ ls) at = absurd (cc (at))
due_none events (suc place) (x ∷ ls) at = due_none events place ls at

-- the place of one that is due is in the script
pub due_within : (events place machine : ℕ) (ls : List Loss)
    → due_at events (drop place ls) ≡ Some machine → place < length ls
due_within events place machine ls due = elim (cases_lt place (length ls)) [
  | inl below ↦ below
  | inr past ↦
      let none : due_at events (drop place ls) ≡ None = ap (due_at events) (drop_all place ls past) in
      absurd (cc (due, none))
]

-- its machine has what all machines of the script have
pub due_holds : (P : ℕ → Type 0) (events machine : ℕ) (ls : List Loss)
    → due_at events ls ≡ Some machine → All (λ (l : Loss). P l.machine) ls → P machine
due_holds P events machine [] due all = absurd (cc (due))
due_holds P events machine (l ∷ ls) due all = by_test (nat_le l.event events) due
  where
    by_test : (b : Bool) → cond b (Some l.machine) None ≡ Some machine → P machine
    by_test true is =
        let same : l.machine ≡ machine = cc (is) in
        subst P same (All-head (λ (x : Loss). P x.machine) l ls all)
    by_test false is = absurd (cc (is))

-- Terminals are a script, have a hopeless one, or are unfinished: the parser's run, as a proof.
use Rattle.std.proofs.Common.{◌≡◌, ℕ, ◌+◌, ◌<◌, suc, zero, List, [], ◌∷◌, ◌++◌, get_or, drop, length, Bool, true, false, eqb, refl, inl, inr, arith, ◌⊎◌}
use Rattle.std.proofs.lemmas.Bool.{cases_lt, eqb-true, eqb-false}
use Rattle.pyd_syntax.specs.declared.symbol.Symbol.{Symbol}
use Rattle.pyd_syntax.specs.declared.symbol.Symbol.TheVariants.{Terminal, Rule}
use Rattle.pyd_syntax.specs.declared.step.Step.{Step}
use Rattle.pyd_syntax.specs.declared.step.Step.TheVariants.{Shift, Expand}
use Rattle.pyd_syntax.specs.declared.terminal.TheConstants.{END}
use Rattle.pyd_syntax.specs.Grammar.{grammar, start}
use Rattle.pyd_syntax.specs.Derivation.{symbols, Stands, FirstHopeless, Unfinished}
use Rattle.pyd_syntax.specs.Table.{Table, table, entry, ahead, Turn, Stuck}
use Rattle.pyd_syntax.proofs.Valid.{Valid}
use Rattle.pyd_syntax.proofs.Turns.{Reads, left, turned, falls_turned, stopped, ended, done, too_much}
use Rattle.pyd_syntax.proofs.Entries.{table_valid, begins}
use Rattle.pyd_syntax.proofs.Ends.{finished}

-- a script, a hopeless terminal, or neither
abbrev Outcome : Table → List Symbol → List ℕ → Type 0
Outcome g st ts = Stands g.productions st ts ⊎ (((i : ℕ) × FirstHopeless g.productions st ts i) ⊎ Unfinished g.productions st ts)

decided : (b : Bool) → (b ≡ true) ⊎ (b ≡ false)
decided true = inl refl
decided false = inr refl

-- where the parser is stuck
on_stuck : (g : Table) → Valid g → (st : List Symbol) (ts : List ℕ) (s : Symbol) (ss : List Symbol) (steps : List Step) (i : ℕ) →
    Reads g st ts (s ∷ ss) steps i → Stuck g ts s i → Outcome g st ts
on_stuck g v st ts s ss steps i r u = elim (cases_lt i (length ts)) [
  | inl e ↦ inr (inl (i, stopped g v st ts s ss steps i r u e))
  | inr e ↦ inr (inr (ended g v st ts s ss steps i r u e))
]

-- the parser turns, or is stuck
next : (g : Table) (ts : List ℕ) (s : Symbol) (ss : List Symbol) (i : ℕ) →
    ((step : Step) × (us : List Symbol) × (j : ℕ) × Turn g ts s ss i step us j) ⊎ Stuck g ts s i
next g ts (Terminal k) ss i = elim (cases_lt i (length ts)) [
  | inl e ↦ elim (decided (eqb (get_or ts i 0) k)) [
    | inl f ↦ inl (Shift, ss, i + 1, (e, eqb-true _ _ f, refl, refl, refl))
    | inr f ↦ inr (λ l h. eqb-false _ _ f h)
  ]
  | inr e ↦ inr (λ l h. absurd (omega arith))
]
next g ts (Rule n) ss i = elim (cases_lt (entry g n (ahead (drop i ts))) (length g.productions)) [
  | inl e ↦ inl (Expand (entry g n (ahead (drop i ts))), symbols g.productions (entry g n (ahead (drop i ts))) ++ ss, i, (e, refl, refl, refl))
  | inr e ↦ inr (λ l. absurd (omega arith))
]

-- the parser from here on, with turns enough
run : (g : Table) → Valid g → (st : List Symbol) (ts : List ℕ) (n : ℕ) (ss : List Symbol) (steps : List Step) (i : ℕ) →
    Reads g st ts ss steps i → left g ts ss i < n → Outcome g st ts
run g v st ts zero ss steps i r l = absurd (omega arith)
run g v st ts (suc n) [] steps i r l = elim (cases_lt i (length ts)) [
  | inl e ↦ inr (inl (i, too_much g st ts steps i r e))
  | inr e ↦ inl (steps, done g st ts steps i r e)
]
run g v st ts (suc n) (s ∷ ss) steps i r l = elim (next g ts s ss i) [
  | inl t ↦
      let f = falls_turned g v ts s ss i t.0 t.1 t.2 t.3 in
      run g v st ts n t.1 (steps ++ t.0 ∷ []) t.2 (turned g v st ts s ss steps i t.0 t.1 t.2 r t.3) (omega arith)
  | inr u ↦ on_stuck g v st ts s ss steps i r u
]

-- what ends with the end of the source is a script or has a hopeless terminal
pub an_answer : (ts front : List ℕ) → ts ≡ front ++ END ∷ [] → Stands grammar start ts ⊎ ((i : ℕ) × FirstHopeless grammar start ts i)
an_answer ts front e = elim (run table table_valid start ts (suc (left table ts start 0)) start [] 0 (begins ts) (omega arith)) [
  | inl s ↦ inl s
  | inr o ↦ elim o [
    | inl h ↦ inr h
    | inr u ↦ absurd (finished ts front e u)
  ]
]

-- The two lists of nodes behind the head of the chain.
use Rattle.std.proofs.Common.{◌≡◌, ◌<◌, ◌+◌, ◌-◌, ℕ, List, ◌++◌, drop, take, length, None, inl, inr, ap, sym, subst, ◌∙◌, arith}
use Rattle.std.proofs.lemmas.List.{drop_all, drop-drop, drop-take, length-drop, take_all, take-append-drop, take-take}
use Rattle.std.proofs.lemmas.Option.{slice_get_cases}
use Rattle.pyd_runs.specs.Laws.{RunLaw}
use Rattle.pyd_core.specs.declared.keeper.Core.{Core}
use Rattle.pyd_core.specs.Cores.{IsCore, state_of}
use Rattle.pyd_core.proofs.Lost.{is_sound}

-- the settled nodes and the head
pub past_and_head : {A : Type 0} (xs : List A) (k : ℕ)
    → take (k + 1) xs ≡ take k xs ++ take 1 (drop k xs)
past_and_head xs k = sym (
    ap (λ z. take k xs ++ z) (sym (drop-take k 1 xs))
    ∙ ap (λ z. z ++ drop k (take (k + 1) xs)) (sym (take-take k (k + 1) xs (omega arith)))
    ∙ take-append-drop k (take (k + 1) xs))

-- the chain behind its head
pub chain_but_head : {A : Type 0} (xs : List A) (k : ℕ) → drop (k + 1) xs ≡ drop 1 (drop k xs)
chain_but_head xs k = sym (drop-drop 1 k xs)

-- all from a place on
pub all_from : {A : Type 0} (xs : List A) (i : ℕ) → take (length xs - i) (drop i xs) ≡ drop i xs
all_from xs i =
    let left = length-drop i xs in
    take_all (length xs - i) (drop i xs) (omega (arith, left))

-- where the run goes on, the chain has a head
pub head_there : RunLaw → (c : Core) → IsCore c → (state_of c).graph.end ≡ None
    → c.line.settled < length c.line.nodes.items
head_there run c core goes_on =
    elim (slice_get_cases c.line.nodes.items c.line.settled).1 [
      | inl there ↦ there.1
      | inr past ↦ absurd ((is_sound run c core).graph.unfinished
          goes_on (core.tied.state.graph.chain
          ∙ drop_all c.line.settled c.line.nodes.items past.0))
    ]

-- what holds of two lists holds of others that are the same
pub of_same : {A : Type 0} (P : List A → List A → Type 0) (a b x y : List A) → a ≡ x → b ≡ y
    → P a b → P x y
of_same P a b x y first second holds =
    subst (λ l. P l y) first (subst (λ l. P a l) second holds)

-- Which machines of a core live.
use Rattle.std.proofs.Common.{◌++◌, map, take, take-suc, take_all, ◌≡◌, ◌<◌, ◌≤◌, ◌^◌, ℕ, zero, suc, List, [], ◌∷◌, Bool, true, false, not, Contains, length, get_or, slice_index_or, refl, ap, sym, subst, ◌∙◌, arith}
use Rattle.std.proofs.lemmas.List.{map-append}
use Rattle.pyd_board.specs.Placing as placing
use Rattle.pyd_board.proofs.Placing.{circle_all}
use Rattle.pyd_desk.proofs.Standing.{nodes_of}
use Rattle.pyd_runs.specs.Choices.{below}
use Rattle.pyd_runs.specs.Enabled.{Lives}
use Rattle.pyd_runs.specs.Laws.{RunLaw}
use Rattle.pyd_runs.specs.Records.{node_at}
use Rattle.pyd_core.specs.declared.keeper.Core.{Core}
use Rattle.pyd_core.specs.Cores.{IsCore, plan_of, state_of}
use Rattle.pyd_steps.specs.Machines.{alive_in, callee_at, callee_in}

-- a machine that lives has a place
lives_there : (xs : List Bool) (m : ℕ) → slice_index_or xs m false ≡ true
    → (m < length xs) × (not (get_or xs m true) ≡ false)
lives_there [] m is = absurd (cc (is))
lives_there (x ∷ xs) zero is = (omega arith, ap not is)
lives_there (x ∷ xs) (suc m) is =
    let rest = lives_there xs m is in
    let lt = rest.0 in
    (omega (arith, lt), rest.1)

-- and one that isn't lost lives
not_lost : (xs : List Bool) (m : ℕ) → m < length xs → not (get_or xs m true) ≡ false
    → slice_index_or xs m true ≡ true
not_lost [] m lt is = refl
not_lost (true ∷ xs) zero lt is = refl
not_lost (false ∷ xs) zero lt is = cc (is)
not_lost (x ∷ xs) (suc m) lt is = not_lost xs m (omega (arith, lt)) is

-- a test of each place gives the list
places_listed : (f : ℕ → Bool) (xs : List Bool)
    → ((m : ℕ) → m < length xs → f m ≡ get_or xs m true) → (n : ℕ) → n ≤ length xs
    → map f (below n) ≡ take n xs
places_listed f xs tells zero within = refl
places_listed f xs tells (suc n) within =
    map-append f (below n) (n ∷ [])
    ∙ ap (λ ys. ys ++ f n ∷ []) (places_listed f xs tells n (omega (arith, within)))
    ∙ ap (λ b. take n xs ++ b ∷ []) (tells n (omega (arith, within)))
    ∙ sym (take-suc xs n true (omega (arith, within)))

twice : (b : Bool) → not (not b) ≡ b
twice true = refl
twice false = refl

module _ (c : Core) (core : IsCore c) where
  -- they are those that live in the state
  pub those_alive : c.desk.alive.items ≡ alive_in (plan_of c) (state_of c)
  those_alive =
      let xs = c.desk.alive.items in
      sym (ap (λ n. map (λ m. not ((state_of c).lost m)) (below n)) (sym core.places.alive)
      ∙ places_listed (λ m. not ((state_of c).lost m)) xs
      (λ m lt. ap (λ lost. not (lost m)) core.tied.state.lost ∙ twice (get_or xs m true))
      (length xs) (omega arith)
      ∙ take_all (length xs) xs (omega arith))

  -- the routine that a node calls is that of the node of the line
  pub callee_there : (k : ℕ) → callee_at (node_at c.line.nodes.items k) ≡ callee_in (state_of c) k
  callee_there k =
      ap (λ ns. callee_at (node_at ns k))
      (sym (nodes_of c.line c.desk (state_of c).graph core.tied.state.graph))

  -- there are few machines
  pub few : length c.desk.alive.items ≤ 2 ^ 32
  few = let same = core.places.alive in let few = core.few.machines in omega (arith, same, few)

  -- so the circle has them all
  pub all_in_circle : placing.circle c.desk.alive.items ≡ c.desk.alive.items
  all_in_circle = circle_all c.desk.alive.items few

  -- one of them lives
  pub some_lives : RunLaw → Contains c.desk.alive.items true
  some_lives run =
      let sound = run (plan_of c) c.log.journal.items core.runnable core.legal in
      let m = sound.survivor.machine in
      let lt : m < length c.desk.alive.items
      = subst (λ n. m < n) (sym core.places.alive) sound.survivor.lives.is_machine in (
        m,
        lt,
        not_lost c.desk.alive.items m lt
            (sym (ap (λ lost. lost m) core.tied.state.lost) ∙ sound.survivor.lives.not_lost),
      )

  -- and one that lives does so in the state
  pub lives : (m : ℕ) → placing.lives c.desk.alive.items m ≡ true
      → Lives (plan_of c) (state_of c).lost m
  lives m is =
      let there = lives_there c.desk.alive.items m is in
      record {
        is_machine = subst (λ n. m < n) core.places.alive there.0;
        not_lost = ap (λ lost. lost m) core.tied.state.lost ∙ there.1;
      }

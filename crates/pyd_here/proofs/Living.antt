-- The least machine that lives.
use Rattle.std.proofs.Common.{◌≡◌, ℕ, List, [], ◌∷◌, Bool, true, false, cond, Contains, length, slice_index_or, refl, ap, sym, subst, ◌∙◌}
use Rattle.pyd_board.specs.Placing as placing
use Rattle.pyd_runs.specs.Enabled.{Lives}
use Rattle.pyd_runs.specs.Laws.{RunLaw}
use Rattle.pyd_core.specs.declared.keeper.Core.{Core}
use Rattle.pyd_core.specs.Cores.{IsCore, plan_of, state_of}
use Rattle.pyd_steps.proofs.Alive.{all_in_circle, lives, some_lives, those_alive}
use Rattle.pyd_here.specs.Asked.{least_of}

none_past : (alive : List Bool) → slice_index_or alive (length alive) false ≡ false
none_past [] = refl
none_past (b ∷ alive) = none_past alive

module _ (c : Core) (core : IsCore c) (alive : List Bool) (same : alive ≡ c.desk.alive.items)
    (machine : ℕ) where
  -- the answer behind the last machine counts as it
  pub least_by : machine ≡ placing.placed_on alive c.setup.machines
      → machine ≡ least_of (plan_of c) (state_of c)
  least_by is =
      let none : placing.lives alive c.setup.machines ≡ false
      = ap (λ n. placing.lives alive n) (sym core.places.alive ∙ ap length (sym same))
      ∙ none_past alive in
      is ∙ ap (λ b. cond b c.setup.machines (placing.least_live alive)) none
      ∙ ap placing.least_live (same ∙ those_alive c core)

  -- it lives
  pub lives_by : RunLaw → (Contains (placing.circle alive) true → placing.lives alive machine ≡ true)
      → Lives (plan_of c) (state_of c).lost machine
  lives_by run told =
      lives c core machine
      (subst (λ xs. placing.lives xs machine ≡ true) same
      (told (subst (λ xs. Contains (placing.circle xs) true) (sym same)
      (subst (λ xs. Contains xs true) (sym (all_in_circle c core)) (some_lives c core run)))))

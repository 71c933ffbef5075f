-- Each statement binds what its text binds alone, and is left early only by what stands in it.
use Rattle.std.proofs.Common.{◌≡◌, ℕ, List, [], ◌∷◌, ◌++◌, map, append_assoc, refl, sym, ap, subst, ◌∙◌, Option, Some, None, true}
use Rattle.std.specs.Prelude.{option_map}
use Rattle.pyd_value.specs.declared.value.Value.{Value}
use Rattle.pyd_value.specs.Truth.{is_true}
use Rattle.pyd_tree.specs.declared.statement.What.{What, out-What}
use Rattle.pyd_tree.specs.declared.statement.What.TheOpen.{What-F}
use Rattle.pyd_tree.specs.declared.statement.Arm.{Arm, out-Arm}
use Rattle.pyd_tree.specs.declared.statement.Block.{Block, out-Block}
use Rattle.pyd_tree.specs.declared.statement.Stmt.{Stmt}
use Rattle.pyd_names.specs.declared.binding.Binding.{Binding}
use Rattle.pyd_names.specs.Binding.{joined, or_empty, is_among, bound_in, what_binds, bindings, statement_bindings}
use Rattle.pyd_scope.specs.Jumps.{return_step, break_step, returns, breaks_in}
use Rattle.pyd_meaning.specs.Evaluation.{gives, step, ◌>>=◌}
use Rattle.pyd_meaning.specs.Names.{bind}
use Rattle.pyd_meaning.specs.Setting.{place_of, Setting}
use Rattle.pyd_meaning.specs.Expression.{meaning_of}
use Rattle.pyd_meaning.specs.Completion.{Break, Continue, Return, Action, left, normally, in_turn}
use Rattle.pyd_meaning.specs.Statement.{ArmAction, arms, arm_from, otherwise, action_of, arm_action, block_action}
use Rattle.pyd_meaning.proofs.Statements.{suite, arm}
use Rattle.pyd_translate.proofs.Induction.{Each, Maybe, InSuite, InSuites, by_suites}
use Rattle.pyd_translate.proofs.Gathered.{from_arm, from_block, gathered, statement_level, block_level, arm_level}
use Rattle.pyd_translate.proofs.Levels.{level_action, action_level}
use Rattle.pyd_translate.proofs.Yields.{Yields, yields-gives, yields-faults, yields-step, yields-then, yields-after}
use Rattle.pyd_translate.proofs.Slots.{IsWithin, within_bind}
use Rattle.pyd_translate.proofs.Stays.{each_front, each_back, some_front, some_back, BindsSlot, BindsSlots, IsStayed, Staying, stays_more, stays_normally, stays_left_by, stays_branch, stays_while, stays_for, within_assign}

-- what is gathered from the arms and the `else` of an `if`
abbrev pub from_choice : (A : Type 0) → (What-F (ℕ → List A) (List A) (List A) (List A) → ℕ → List A)
    → List Arm → Option Block → List A
from_choice A step arms last =
    joined (map (from_arm A step) arms) ++ or_empty (option_map (from_block A step) last)

-- it is that of the first arm, and then that of the others
pub choice_first : (A : Type 0) (step : What-F (ℕ → List A) (List A) (List A) (List A) → ℕ → List A)
    (a : Arm) (more : List Arm) (last : Option Block)
    → from_choice A step (a ∷ more) last
    ≡ from_block A step (out-Arm a).body ++ from_choice A step more last
choice_first A step a more last =
    append_assoc (from_arm A step a) (joined (map (from_arm A step) more)) (or_empty (option_map (from_block A step) last))
    ∙ ap (λ xs. xs ++ from_choice A step more last) (arm_level A step a)

-- the lines of `return`s in a suite, and those of its `break`s and `continue`s
abbrev pub suite_returns : Block → List ℕ
suite_returns = from_block ℕ return_step

abbrev pub suite_breaks : Block → List ℕ
suite_breaks = from_block ℕ break_step

module _ (slots : List (List ℕ)) where
  -- each of several binds slots alone where all do
  each_binds : (ss : List Stmt) → Each (BindsSlot slots) (joined (map statement_bindings ss))
      → Each (BindsSlots slots) ss
  each_binds [] b = tt
  each_binds (s ∷ ss) b = (
    each_front (BindsSlot slots) (statement_bindings s) (joined (map statement_bindings ss)) b,
    each_binds ss (each_back (BindsSlot slots) (statement_bindings s) (joined (map statement_bindings ss)) b),
  )

  -- each statement of a suite does
  pub suite_binds : (b : Block) → Each (BindsSlot slots) (bindings b)
      → Each (BindsSlots slots) (out-Block b).stmts
  suite_binds b p =
      each_binds (out-Block b).stmts
      (subst (Each (BindsSlot slots)) (block_level Binding what_binds b) p)

  -- targets that are bound in a line
  pub targets_bind : (names : List (List ℕ)) (line : ℕ) → Each (BindsSlot slots) (map (bound_in line) names)
      → Each (λ x. is_among slots x ≡ true) names
  targets_bind [] line b = tt
  targets_bind (x ∷ names) line b = (b.0, targets_bind names line b.1)

module _ (slots : List (List ℕ)) (setting : Setting) where
  -- a statement that binds slots alone stays so
  abbrev pub Stays : Stmt → Type 0
  Stays s = BindsSlots slots s → Staying slots (returns s) (breaks_in s) (action_of setting s)

  -- several in turn
  stays_in_turn : (ss : List Stmt) → Each Stays ss → Each (BindsSlots slots) ss
      → Staying slots (joined (map returns ss)) (joined (map breaks_in ss))
      (in_turn (map (action_of setting) ss))
  unfolding in_turn
  stays_in_turn [] p b names w = stays_normally slots [] [] names w
  stays_in_turn (s ∷ ss) p b names w =
      yields-then (action_of setting s names) _ (IsStayed slots (returns s) (breaks_in s))
      (IsStayed slots (joined (map returns (s ∷ ss))) (joined (map breaks_in (s ∷ ss))))
      (p.0 b.0 names w)
      (λ r q. stays_left_by slots (returns s) (breaks_in s) (joined (map returns ss))
      (joined (map breaks_in ss)) r.completion r.names (in_turn (map (action_of setting) ss)) q.0 q.1
      (stays_in_turn ss p.1 b.1))

  stays_suite_if : (b : Block) → InSuite Stays b → Each (BindsSlot slots) (bindings b)
      → Staying slots (suite_returns b) (suite_breaks b) (block_action setting b)
  stays_suite_if b p binds names w =
      subst (λ m. Yields m (IsStayed slots (suite_returns b) (suite_breaks b))) (sym (suite setting b names))
      (subst (λ rs. Yields (in_turn (map (action_of setting) (out-Block b).stmts) names) (IsStayed slots rs (suite_breaks b)))
      (sym (block_level ℕ return_step b))
      (subst (λ bs. Yields (in_turn (map (action_of setting) (out-Block b).stmts) names)
      (IsStayed slots (joined (map returns (out-Block b).stmts)) bs))
      (sym (block_level ℕ break_step b))
      (stays_in_turn (out-Block b).stmts p (suite_binds slots b binds) names w)))

  -- the `else` of an `if`
  stays_otherwise : (last : Option Block) → Maybe (InSuite Stays) last
      → Each (BindsSlot slots) (or_empty (option_map bindings last))
      → Staying slots (or_empty (option_map suite_returns last)) (or_empty (option_map suite_breaks last))
      (otherwise (option_map (block_action setting) last))
  stays_otherwise None p b = stays_normally slots [] []
  stays_otherwise (Some last) p b = stays_suite_if last p b

  -- an arm from the value of its test on
  stays_arm_from_if : (a : Arm) (more : List Arm) (last : Option Block) (following : Action) (v : Value)
      → InSuite Stays (out-Arm a).body
      → Each (BindsSlot slots) (from_choice Binding what_binds (a ∷ more) last)
      → Staying slots (from_choice ℕ return_step more last) (from_choice ℕ break_step more last) following
      → Staying slots (from_choice ℕ return_step (a ∷ more) last) (from_choice ℕ break_step (a ∷ more) last)
      (arm_from (block_action setting (out-Arm a).body) following v)
  stays_arm_from_if a more last following v p b s =
      subst (λ rs. Staying slots rs (from_choice ℕ break_step (a ∷ more) last) act) (sym (choice_first ℕ return_step a more last))
      (subst (λ bs. Staying slots (rs0 ++ rs1) bs act) (sym (choice_first ℕ break_step a more last))
      (stays_branch slots (rs0 ++ rs1) (bs0 ++ bs1) (is_true v) (block_action setting (out-Arm a).body) following
      (stays_more slots rs0 bs0 (rs0 ++ rs1) (bs0 ++ bs1) (block_action setting (out-Arm a).body) (some_front rs0 rs1) (some_front bs0 bs1)
      (stays_suite_if (out-Arm a).body p
      (each_front (BindsSlot slots) (bindings (out-Arm a).body) (from_choice Binding what_binds more last)
      (subst (Each (BindsSlot slots)) (choice_first Binding what_binds a more last) b))))
      (stays_more slots rs1 bs1 (rs0 ++ rs1) (bs0 ++ bs1) following (some_back rs0 rs1) (some_back bs0 bs1) s)))
    where
      act : Action
      act = arm_from (block_action setting (out-Arm a).body) following v

      rs0 : List ℕ
      rs0 = suite_returns (out-Arm a).body

      rs1 : List ℕ
      rs1 = from_choice ℕ return_step more last

      bs0 : List ℕ
      bs0 = suite_breaks (out-Arm a).body

      bs1 : List ℕ
      bs1 = from_choice ℕ break_step more last

  -- the arms of an `if`, and its `else`
  stays_arms_if : (choices : List Arm) (last : Option Block)
      → Each (λ a. InSuite Stays (out-Arm a).body) choices → Maybe (InSuite Stays) last
      → Each (BindsSlot slots) (from_choice Binding what_binds choices last)
      → Staying slots (from_choice ℕ return_step choices last) (from_choice ℕ break_step choices last)
      (arms (map (arm_action setting) choices) (otherwise (option_map (block_action setting) last)))
  unfolding arms
  stays_arms_if [] last p q b names w = stays_otherwise last q b names w
  stays_arms_if (a ∷ more) last p q b names w =
      let following = arms (map (arm_action setting) more) (otherwise (option_map (block_action setting) last)) in
      subst (λ (t : ArmAction). Yields (t.test names >>= (λ v. arm_from t.body following v names))
      (IsStayed slots (from_choice ℕ return_step (a ∷ more) last) (from_choice ℕ break_step (a ∷ more) last)))
      (sym (arm setting a))
      (yields-after _ _ (IsStayed slots (from_choice ℕ return_step (a ∷ more) last) (from_choice ℕ break_step (a ∷ more) last))
      (λ v. stays_arm_from_if a more last following v p.0 b
      (stays_arms_if more last p.1 q
      (each_back (BindsSlot slots) (bindings (out-Arm a).body) (from_choice Binding what_binds more last)
      (subst (Each (BindsSlot slots)) (choice_first Binding what_binds a more last) b))) names w))

  -- one level of a statement
  stays_level : (y : What-F What Arm Block Stmt) (line : ℕ) → InSuites Stays y
      → Each (BindsSlot slots) (what_binds (gathered Binding what_binds y) line)
      → Staying slots (return_step (gathered ℕ return_step y) line) (break_step (gathered ℕ break_step y) line)
      (level_action setting y (place_of line))
  stays_level (What-F.Expr e) line p b names w =
      yields-after _ _ (IsStayed slots [] []) (λ v. stays_normally slots [] [] names w)
  stays_level (What-F.Assign targets e) line p b names w =
      yields-after _ _ (IsStayed slots [] [])
      (λ v. yields-then _ _ (IsWithin slots) (IsStayed slots [] [])
      (within_assign slots targets v (place_of line) names (targets_bind slots targets.names line b) w)
      (λ bound q. stays_normally slots [] [] bound q))
  stays_level (What-F.Aug name op e) line p b names w =
      yields-after _ _ (IsStayed slots [] []) (λ u.
      yields-after _ _ (IsStayed slots [] []) (λ v.
      yields-after _ _ (IsStayed slots [] []) (λ c.
      stays_normally slots [] [] (bind names name c) (within_bind slots names name c b.0 w))))
  stays_level (What-F.If choices last) line p b names w =
      stays_arms_if choices last p.0 p.1 b names w
  stays_level (What-F.While test body) line p b names w =
      yields-after _ _ (IsStayed slots (suite_returns body) [])
      (λ v. stays_while slots (suite_returns body) (suite_breaks body) setting.limits.turns (place_of line)
      (meaning_of setting test) (block_action setting body) v (stays_suite_if body p b) names w)
  stays_level (What-F.For targets e body) line p b names w =
      yields-after _ _ (IsStayed slots (suite_returns body) [])
      (λ v. stays_for slots (suite_returns body) (suite_breaks body) setting.limits.turns (place_of line) targets
      (block_action setting body) _ v 0
      (targets_bind slots targets.names line (each_front (BindsSlot slots) (map (bound_in line) targets.names) (bindings body) b))
      (stays_suite_if body p (each_back (BindsSlot slots) (map (bound_in line) targets.names) (bindings body) b)) names w)
  stays_level (What-F.Return e) line p b names w =
      yields-after _ _ (IsStayed slots (line ∷ []) [])
      (λ v. yields-gives (left (Return v) names) (IsStayed slots (line ∷ []) []) (w, refl))
  stays_level What-F.Break line p b names w =
      yields-gives (left Break names) (IsStayed slots [] (line ∷ [])) (w, refl)
  stays_level What-F.Continue line p b names w =
      yields-gives (left Continue names) (IsStayed slots [] (line ∷ [])) (w, refl)
  stays_level What-F.Pass line p b names w = stays_normally slots [] [] names w
  stays_level (What-F.Assert test message) line p b names w =
      yields-after _ _ (IsStayed slots [] [])
      (λ v. stays_branch slots [] [] (is_true v) (λ now. gives (normally now)) _ (stays_normally slots [] [])
      (λ now n. yields-after _ _ (IsStayed slots [] []) (λ u. yields-faults _ (IsStayed slots [] []))) names w)

  -- each statement
  pub stays : (s : Stmt) → Stays s
  stays = by_suites Stays (λ s p b names w.
      subst (λ rs. Yields (action_of setting s names) (IsStayed slots rs (breaks_in s))) (sym (statement_level ℕ return_step s))
      (subst (λ bs. Yields (action_of setting s names) (IsStayed slots (return_step (gathered ℕ return_step (out-What s.what)) s.line) bs))
      (sym (statement_level ℕ break_step s))
      (subst (λ m. Yields m (IsStayed slots (return_step (gathered ℕ return_step (out-What s.what)) s.line)
      (break_step (gathered ℕ break_step (out-What s.what)) s.line))) (sym (action_level setting s names))
      (yields-step _ _ (stays_level (out-What s.what) s.line p
      (subst (Each (BindsSlot slots)) (statement_level Binding what_binds s) b) names w)))))

  each_stays : (ss : List Stmt) → Each Stays ss
  each_stays [] = tt
  each_stays (s ∷ ss) = (stays s, each_stays ss)

  -- statements in turn
  pub stays_all : (ss : List Stmt) → Each (BindsSlots slots) ss
      → Staying slots (joined (map returns ss)) (joined (map breaks_in ss))
      (in_turn (map (action_of setting) ss))
  stays_all ss b = stays_in_turn ss (each_stays ss) b

  -- a suite
  pub stays_suite : (b : Block) → Each (BindsSlot slots) (bindings b)
      → Staying slots (suite_returns b) (suite_breaks b) (block_action setting b)
  stays_suite b p = stays_suite_if b (each_stays (out-Block b).stmts) p

  suites_stay : (choices : List Arm) → Each (λ a. InSuite Stays (out-Arm a).body) choices
  suites_stay [] = tt
  suites_stay (a ∷ more) = (each_stays (out-Block (out-Arm a).body).stmts, suites_stay more)

  last_stays : (last : Option Block) → Maybe (InSuite Stays) last
  last_stays None = tt
  last_stays (Some b) = each_stays (out-Block b).stmts

  -- the arms of an `if`, and its `else`
  pub stays_arms : (choices : List Arm) (last : Option Block)
      → Each (BindsSlot slots) (from_choice Binding what_binds choices last)
      → Staying slots (from_choice ℕ return_step choices last) (from_choice ℕ break_step choices last)
      (arms (map (arm_action setting) choices) (otherwise (option_map (block_action setting) last)))
  stays_arms choices last b = stays_arms_if choices last (suites_stay choices) (last_stays last) b

  -- an arm of an `if` from the value of its test on
  pub stays_arm_from : (a : Arm) (more : List Arm) (last : Option Block) (v : Value)
      → Each (BindsSlot slots) (from_choice Binding what_binds (a ∷ more) last)
      → Staying slots (from_choice ℕ return_step (a ∷ more) last) (from_choice ℕ break_step (a ∷ more) last)
      (arm_from (block_action setting (out-Arm a).body)
      (arms (map (arm_action setting) more) (otherwise (option_map (block_action setting) last))) v)
  stays_arm_from a more last v b =
      stays_arm_from_if a more last _ v (each_stays (out-Block (out-Arm a).body).stmts) b
      (stays_arms more last
      (each_back (BindsSlot slots) (bindings (out-Arm a).body) (from_choice Binding what_binds more last)
      (subst (Each (BindsSlot slots)) (choice_first Binding what_binds a more last) b)))

-- What a rest does: it binds slots alone, and reads nothing that later nodes give.
use Rattle.std.proofs.Common.{◌≡◌, ℕ, ◌-◌, List, [], ◌∷◌, map, refl, subst, Option, Some, None}
use Rattle.pyd_value.specs.declared.value.Value.{Value}
use Rattle.pyd_value.specs.declared.value.Value.TheVariants as value
use Rattle.pyd_tree.specs.declared.statement.What.{What, out-What}
use Rattle.pyd_tree.specs.declared.statement.What.TheOpen.{What-F}
use Rattle.pyd_tree.specs.declared.statement.Arm.{Arm}
use Rattle.pyd_tree.specs.declared.statement.Block.{Block}
use Rattle.pyd_tree.specs.declared.statement.Stmt.{Stmt}
use Rattle.pyd_tree.specs.declared.file.File.{File}
use Rattle.pyd_names.specs.declared.binding.Binding.{Binding}
use Rattle.pyd_names.specs.Binding.{joined, bound_in, what_binds, bindings, locals}
use Rattle.pyd_scope.specs.Jumps.{returns, breaks_in}
use Rattle.pyd_scope.specs.Passages.{passage_at}
use Rattle.pyd_meaning.specs.declared.limits.Limits.{Limits}
use Rattle.pyd_meaning.specs.Evaluation.{Evaluation, gives, ◌>>=◌}
use Rattle.pyd_meaning.specs.Names.{Names}
use Rattle.pyd_meaning.specs.Setting.{place_of, Setting}
use Rattle.pyd_meaning.specs.Expression.{meaning_of}
use Rattle.pyd_meaning.specs.Completion.{Completion, Normal, Break, Continue, Return, Reached, Action, normally}
use Rattle.pyd_meaning.specs.Loops.{while_from, for_loop}
use Rattle.pyd_meaning.specs.Statement.{block_action, calls_range}
use Rattle.pyd_meaning.specs.Module.{setting_at}
use Rattle.pyd_ir.specs.declared.work.Frame.{Frame}
use Rattle.pyd_ir.specs.declared.work.Frame.TheVariants.{After, Again}
use Rattle.pyd_ir.specs.Arguments.{rest_arguments}
use Rattle.pyd_ir.specs.Inputs.{Given, value_of}
use Rattle.pyd_translate.specs.Compounds.{compound_of, first_compound, behind, compound_at, line_at}
use Rattle.pyd_translate.specs.Walk.{if_there, Finish, finish, again, again_at, behind_at, rested}
use Rattle.pyd_translate.specs.Matching.{AreBelow, IsKept}
use Rattle.pyd_translate.proofs.Induction.{Each}
use Rattle.pyd_translate.proofs.Keeping.{value-kept}
use Rattle.pyd_translate.proofs.Slots.{IsWithin}
use Rattle.pyd_translate.proofs.Gathered.{gathered, statement_level}
use Rattle.pyd_translate.proofs.Yields.{Yields, yields-gives, yields-faults, yields-then, yields-after}
use Rattle.pyd_translate.proofs.Stays.{each_front, each_back, BindsSlot, BindsSlots, Staying, stays_while, stays_for}
use Rattle.pyd_translate.proofs.Leaving.{suite_returns, suite_breaks, stays_all, stays_suite, targets_bind}
use Rattle.pyd_translate.proofs.Locals.{passage_binds}

-- an action binds slots alone
abbrev pub BindsWithin : List (List ℕ) → Action → Type 0
BindsWithin slots act =
    (names : Names) → IsWithin slots names → Yields (act names) (λ r. IsWithin slots r.names)

-- what stays so binds slots alone
pub stays_within : (slots : List (List ℕ)) (rs bs : List ℕ) (act : Action) → Staying slots rs bs act
    → BindsWithin slots act
stays_within slots rs bs act s names w r e = (s names w r e).0

binds_normally : (slots : List (List ℕ)) → BindsWithin slots (λ names. gives (normally names))
binds_normally slots names w = yields-gives (normally names) (λ r. IsWithin slots r.names) w

-- what follows the first of statements binds slots alone where all do
behind_binds : (slots : List (List ℕ)) (ss : List Stmt) → Each (BindsSlots slots) ss
    → Each (BindsSlots slots) (behind ss)
behind_binds slots [] b = tt
behind_binds slots (s ∷ ss) b = b.1

module _ (slots : List (List ℕ)) (setting : Setting) where
  for_there : (o : Option Value) (line : ℕ) (f : Value → Action)
      → ((v : Value) → BindsWithin slots (f v))
      → BindsWithin slots (λ names. if_there o line (λ v. f v names))
  for_there (Some v) line f s names w = s v names w
  for_there None line f s names w = yields-faults _ (λ r. IsWithin slots r.names)

  level_again : (y : What-F What Arm Block Stmt) (at : ℕ)
      → Each (BindsSlot slots) (what_binds (gathered Binding what_binds y) at)
      → (line turns : ℕ) (over : Option Value)
      → BindsWithin slots (again setting (compound_of y) line turns over)
  level_again (What-F.While test body) at b line turns over names w =
      yields-after (meaning_of setting test (place_of line) names) _ (λ r. IsWithin slots r.names)
      (λ v. stays_within slots (suite_returns body) []
      (while_from (setting.limits.turns - turns) (place_of line) (meaning_of setting test)
      (block_action setting body) v)
      (stays_while slots (suite_returns body) (suite_breaks body) (setting.limits.turns - turns) (place_of line)
      (meaning_of setting test) (block_action setting body) v (stays_suite slots setting body b)) names w)
  level_again (What-F.For targets e body) at b line turns over names w =
      for_there over line
      (λ v. for_loop setting.limits.turns (place_of line) targets (block_action setting body)
      (calls_range setting e) v turns)
      (λ v. stays_within slots (suite_returns body) []
      (for_loop setting.limits.turns (place_of line) targets (block_action setting body)
      (calls_range setting e) v turns)
      (stays_for slots (suite_returns body) (suite_breaks body) setting.limits.turns (place_of line) targets
      (block_action setting body) (calls_range setting e) v turns
      (targets_bind slots targets.names at
      (each_front (BindsSlot slots) (map (bound_in at) targets.names) (bindings body) b))
      (stays_suite slots setting body
      (each_back (BindsSlot slots) (map (bound_in at) targets.names) (bindings body) b)))) names w
  level_again (What-F.If arms last) at b line turns over names w = binds_normally slots names w
  level_again (What-F.Expr e) at b line turns over names w = binds_normally slots names w
  level_again (What-F.Assign targets e) at b line turns over names w = binds_normally slots names w
  level_again (What-F.Aug name op e) at b line turns over names w = binds_normally slots names w
  level_again (What-F.Return e) at b line turns over names w = binds_normally slots names w
  level_again What-F.Break at b line turns over names w = binds_normally slots names w
  level_again What-F.Continue at b line turns over names w = binds_normally slots names w
  level_again What-F.Pass at b line turns over names w = binds_normally slots names w
  level_again (What-F.Assert test message) at b line turns over names w = binds_normally slots names w

  -- a loop that is gone on with binds slots alone
  pub again_binds : (ss : List Stmt) → Each (BindsSlots slots) ss → (line turns : ℕ) (over : Option Value)
      → BindsWithin slots (again setting (first_compound ss) line turns over)
  again_binds [] b line turns over = binds_normally slots
  again_binds (s ∷ ss) b line turns over =
      level_again (out-What s.what) s.line
      (subst (Each (BindsSlot slots)) (statement_level Binding what_binds s) b.0) line turns over

module _ (file : File) (limits : Limits) (routine depth : ℕ) where
  -- the slots of the routine
  abbrev pub slots : List (List ℕ)
  slots = locals file routine

  -- the setting of the routine
  abbrev pub setting : Setting
  setting = setting_at file limits routine depth

  -- what a rest does
  abbrev pub resting : Given → List Frame → Completion → Names → Evaluation Finish
  resting = rested file limits routine depth

  -- a `return` drops a rest
  pub rested_return : (given : Given) (rest : List Frame) (v : Value) (names : Names)
      → resting given rest (Return v) names ≡ finish (Return v) names
  unfolding rested
  rested_return given [] v names = refl
  rested_return given (After k ∷ rest) v names = refl
  rested_return given (Again k turns over ∷ rest) v names = refl

  -- a rest does the same behind later nodes
  pub rested_kept : (ids : ℕ) (before after : Given) (rest : List Frame) (c : Completion) (names : Names)
      → AreBelow ids (rest_arguments rest) → IsKept ids before after
      → resting after rest c names ≡ resting before rest c names
  unfolding rested
  rested_kept ids before after [] Normal names b k = refl
  rested_kept ids before after [] Break names b k = refl
  rested_kept ids before after [] Continue names b k = refl
  rested_kept ids before after [] (Return v) names b k = refl
  rested_kept ids before after (After n ∷ rest) Normal names b k =
      λ i. behind_at file limits routine depth n names
      >>= (λ r. rested_kept ids before after rest r.completion r.names b k i)
  rested_kept ids before after (After n ∷ rest) Break names b k =
      rested_kept ids before after rest Break names b k
  rested_kept ids before after (After n ∷ rest) Continue names b k =
      rested_kept ids before after rest Continue names b k
  rested_kept ids before after (After n ∷ rest) (Return v) names b k = refl
  rested_kept ids before after (Again n turns over ∷ rest) Normal names b k =
      λ i. again setting (compound_at file routine n) (line_at file routine n) turns
      (value-kept ids before after over b.0 k i) names
      >>= (λ r. rested_kept ids before after rest r.completion r.names b.1 k i)
  rested_kept ids before after (Again n turns over ∷ rest) Break names b k =
      rested_kept ids before after rest Normal names b.1 k
  rested_kept ids before after (Again n turns over ∷ rest) Continue names b k =
      λ i. again setting (compound_at file routine n) (line_at file routine n) turns
      (value-kept ids before after over b.0 k i) names
      >>= (λ r. rested_kept ids before after rest r.completion r.names b.1 k i)
  rested_kept ids before after (Again n turns over ∷ rest) (Return v) names b k = refl

  -- the names with which a piece ends are those of slots
  abbrev pub EndsWithin : Finish → Type 0
  EndsWithin fin = IsWithin slots fin.names

  again_within : (given : Given) (rest : List Frame) (m : Evaluation Reached)
      → Yields m (λ r. IsWithin slots r.names)
      → ((c : Completion) (names : Names) → IsWithin slots names → Yields (resting given rest c names) EndsWithin)
      → Yields (m >>= (λ r. resting given rest r.completion r.names)) EndsWithin
  again_within given rest m y f =
      yields-then m (λ r. resting given rest r.completion r.names) (λ r. IsWithin slots r.names) EndsWithin y
      (λ r w. f r.completion r.names w)

  -- a rest binds slots alone
  pub rested_within : (given : Given) (rest : List Frame) (c : Completion) (names : Names)
      → IsWithin slots names → Yields (resting given rest c names) EndsWithin
  unfolding rested
  rested_within given [] Normal names w = yields-gives (record { names = names; value = value.None }) EndsWithin w
  rested_within given [] Break names w = yields-gives (record { names = names; value = value.None }) EndsWithin w
  rested_within given [] Continue names w = yields-gives (record { names = names; value = value.None }) EndsWithin w
  rested_within given [] (Return v) names w = yields-gives (record { names = names; value = v }) EndsWithin w
  rested_within given (After k ∷ rest) Normal names w =
      again_within given rest (behind_at file limits routine depth k names)
      (stays_within slots (joined (map returns (behind (passage_at file routine k).stmts)))
      (joined (map breaks_in (behind (passage_at file routine k).stmts))) (behind_at file limits routine depth k)
      (stays_all slots setting (behind (passage_at file routine k).stmts)
      (behind_binds slots (passage_at file routine k).stmts (passage_binds file routine k))) names w)
      (λ c n v. rested_within given rest c n v)
  rested_within given (After k ∷ rest) Break names w = rested_within given rest Break names w
  rested_within given (After k ∷ rest) Continue names w = rested_within given rest Continue names w
  rested_within given (After k ∷ rest) (Return v) names w =
      yields-gives (record { names = names; value = v }) EndsWithin w
  rested_within given (Again k turns over ∷ rest) Normal names w =
      again_within given rest (again_at file limits routine depth given k turns over names)
      (again_binds slots setting (passage_at file routine k).stmts (passage_binds file routine k)
      (line_at file routine k) turns (value_of given over) names w)
      (λ c n v. rested_within given rest c n v)
  rested_within given (Again k turns over ∷ rest) Break names w = rested_within given rest Normal names w
  rested_within given (Again k turns over ∷ rest) Continue names w =
      again_within given rest (again_at file limits routine depth given k turns over names)
      (again_binds slots setting (passage_at file routine k).stmts (passage_binds file routine k)
      (line_at file routine k) turns (value_of given over) names w)
      (λ c n v. rested_within given rest c n v)
  rested_within given (Again k turns over ∷ rest) (Return v) names w =
      yields-gives (record { names = names; value = v }) EndsWithin w

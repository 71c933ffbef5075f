-- The piece of a Cond takes its place: the arm whose test was true, or what follows it.
use Rattle.std.proofs.Common.{◌≡◌, ℕ, zero, suc, ◌+◌, ◌*◌, ◌≤◌, ◌<◌, List, [], ◌∷◌, drop, length, map, Bool, true, false, Option, Some, None, refl, sym, ap, subst, ◌∙◌, arith}
use Rattle.std.specs.Prelude.{option_map}
use Rattle.std.specs.List.{slice_get}
use Rattle.pyd_value.specs.declared.value.Value.{Value}
use Rattle.pyd_value.specs.Truth.{is_true}
use Rattle.pyd_tree.specs.declared.statement.Arm.{Arm, out-Arm}
use Rattle.pyd_tree.specs.declared.statement.Block.{Block}
use Rattle.pyd_tree.specs.declared.file.File.{File}
use Rattle.pyd_names.specs.Binding.{locals}
use Rattle.pyd_meaning.specs.declared.limits.Limits.{Limits}
use Rattle.pyd_meaning.specs.Evaluation.{Evaluation, gives, step, ◌>>=◌}
use Rattle.pyd_meaning.specs.Names.{Names}
use Rattle.pyd_meaning.specs.Setting.{Setting, place_of}
use Rattle.pyd_meaning.specs.Expression.{meaning_of, branch}
use Rattle.pyd_meaning.specs.Completion.{Action, Reached, normally}
use Rattle.pyd_meaning.specs.Statement.{ArmAction, arms, arm_from, otherwise, arm_action, block_action}
use Rattle.pyd_meaning.specs.Module.{setting_at}
use Rattle.pyd_meaning.proofs.Sequencing.{then-then, step-then}
use Rattle.pyd_meaning.proofs.Statements.{suite, arm as arm_level}
use Rattle.pyd_ir.specs.declared.arg.Arg.{Arg}
use Rattle.pyd_ir.specs.declared.work.Frame.{Frame}
use Rattle.pyd_ir.specs.declared.work.Work.TheVariants.{Cond}
use Rattle.pyd_ir.specs.Arguments.{rest_arguments}
use Rattle.pyd_ir.specs.Inputs.{Given}
use Rattle.pyd_scope.specs.Numbering.{Point}
use Rattle.pyd_scope.specs.Passages.{Passage, passage_at}
use Rattle.pyd_translate.specs.declared.at.Start.TheVariants as start
use Rattle.pyd_translate.specs.Compounds.{Compound, Choice, WhileLoop, ForLoop, Simple, compound_at}
use Rattle.pyd_translate.specs.Making.{node_of, emit, ◌>>>◌}
use Rattle.pyd_translate.specs.Starts.{suite_of_arm, suite_of_else, arm_suite, no_passage}
use Rattle.pyd_translate.specs.Statements.{context, header, then_done, ported}
use Rattle.pyd_translate.specs.Walk.{names_of, acts, arms_from, from_arm, then_rest, count_composite, ported_meaning, slot_values, if_there, work_ports, Finish}
use Rattle.pyd_translate.specs.Matching.{AreBelow, AreSlots, HasValue, IsFinish, IsReached, Matches}
use Rattle.pyd_translate.proofs.Sequencing.{matches-then_done, matches-step, matches-more}
use Rattle.pyd_translate.proofs.Keeping.{names-kept}
use Rattle.pyd_translate.proofs.Resting.{rested_kept}
use Rattle.pyd_translate.proofs.Composites.{matches-ported}
use Rattle.pyd_translate.proofs.Slots.{IsWithin}
use Rattle.pyd_refine.specs.Composites.{arms_of, arm_point, started, arm_tested, arm_refined}
use Rattle.pyd_refine.specs.Readiness.{Yields}
use Rattle.pyd_refine.proofs.Pieces.{matches-within}
use Rattle.pyd_refine.proofs.Starting.{acts-none, started-does}
use Rattle.pyd_refine.proofs.Translated.{arm-tests, tests-spare}

-- no item of this number, and so none from it on
drop-none : {A B : Type 0} (f : A → B) (xs : List A) (n : ℕ) → slice_get xs n ≡ None → drop n (map f xs) ≡ []
drop-none f [] zero e = refl
drop-none f [] (suc n) e = refl
drop-none f (x ∷ xs) zero e = absurd (cc e)
drop-none f (x ∷ xs) (suc n) e = drop-none f xs n e

-- the item of this number, and those behind it
drop-some : {A B : Type 0} (f : A → B) (xs : List A) (n : ℕ) (x : A) → slice_get xs n ≡ Some x
    → drop n (map f xs) ≡ f x ∷ drop (suc n) (map f xs)
drop-some f [] n x e = absurd (cc e)
drop-some {A = A} f (y ∷ xs) zero x e = ap (λ z. f z ∷ drop 0 (map f xs)) (ap (or_other y) e)
  where
    or_other : A → Option A → A
    or_other d (Some z) = z
    or_other d None = d
drop-some f (y ∷ xs) (suc n) x e = drop-some f xs n x e

-- an item's number is below their count
found-below : {A : Type 0} (xs : List A) (n : ℕ) (x : A) → slice_get xs n ≡ Some x → n < length xs
found-below [] n x e = absurd (cc e)
found-below (y ∷ xs) zero x e = omega arith
found-below (y ∷ xs) (suc n) x e = let p = found-below xs n x e in omega (arith, p)

-- no arm is left
arms-none : (other : Action) (names : Names) → arms [] other names ≡ other names
unfolding arms
arms-none other names = refl

-- the first of some arms
arms-first : (a : ArmAction) (more : List ArmAction) (other : Action) (names : Names)
    → arms (a ∷ more) other names ≡ (a.test names >>= (λ w. arm_from a.body (arms more other) w names))
unfolding arms
arms-first a more other names = refl

module _ (setting : Setting) where
  -- the suite of an arm
  arm-acts : (arms : List Arm) (last : Option Block) (arm : ℕ) (a : Arm) (p : Point) (names : Names)
      → slice_get arms arm ≡ Some a
      → acts setting (suite_of_arm (Choice arms last) arm p).stmts names ≡ (arm_action setting a).body names
  arm-acts arms last arm a p names e =
      ap (λ o. acts setting (arm_suite o (arm_point arms arm p)).stmts names) e
      ∙ sym (suite setting (out-Arm a).body names)
      ∙ ap (λ (x : ArmAction). x.body names) (sym (arm_level setting a))

  -- the suite of an `else`
  else-acts : (arms : List Arm) (last : Option Block) (p : Point) (names : Names)
      → ((n : Names) → acts setting [] n ≡ gives (normally n))
      → acts setting (suite_of_else (Choice arms last) p).stmts names
      ≡ otherwise (option_map (block_action setting) last) names
  else-acts arms None p names none = none names
  else-acts arms (Some b) p names none = sym (suite setting b names)

module _ (file : File) (limits : Limits) (routine depth k : ℕ) (choices : List Arm) (last : Option Block)
    (is : compound_at file routine k ≡ Choice choices last)
    (rest : List Frame) (ids : ℕ) (given : Given) (env : List Arg) (names : Names)
    (below : AreBelow ids (rest_arguments rest)) (slots : AreSlots (locals file routine) ids given env names) where
  -- where the statements stand
  abbrev setting : Setting
  setting = setting_at file limits routine depth

  -- what the rest does
  abbrev on : Reached → Evaluation Finish
  on = then_rest file limits routine depth given rest

  -- what the arms do, from the value of a test on
  abbrev from : ℕ → Value → Action
  from arm v = from_arm setting (Choice choices last) arm v

  -- what the else block does
  abbrev other : Action
  other = otherwise (option_map (block_action setting) last)

  -- where the `if` stands
  abbrev place : Point
  place = (passage_at file routine k).point

  -- the else block, and then the rest
  else-does : Matches file limits (2 * length rest) ids given
      (started file routine depth (start.Otherwise k) rest env ids)
      (otherwise (option_map (block_action setting) last) names >>= on) (IsFinish (locals file routine))
  else-does =
      subst (λ m. Matches file limits (2 * length rest) ids given
      (started file routine depth (start.Otherwise k) rest env ids) (m >>= on) (IsFinish (locals file routine)))
      (ap (λ c. acts setting (suite_of_else c place).stmts names) is
      ∙ else-acts setting choices last place names (acts-none file limits routine depth))
      (started-does file limits routine depth (start.Otherwise k) rest ids given env names below slots)

  -- an arm's suite, and then the rest
  suite-does : (arm : ℕ) (a : Arm) → slice_get choices arm ≡ Some a
      → Matches file limits (2 * length rest) ids given
      (started file routine depth (start.Arm k arm) rest env ids)
      ((arm_action setting a).body names >>= on) (IsFinish (locals file routine))
  suite-does arm a found =
      subst (λ m. Matches file limits (2 * length rest) ids given
      (started file routine depth (start.Arm k arm) rest env ids) (m >>= on) (IsFinish (locals file routine)))
      (ap (λ c. acts setting (suite_of_arm c arm place).stmts names) is
      ∙ arm-acts setting choices last arm a place names found)
      (started-does file limits routine depth (start.Arm k arm) rest ids given env names below slots)

  -- the next arm's Cond does what the arms from it on do
  cond-ports : (arm line next : ℕ) (mid : Given) (test : Arg) (w : Value)
      → IsReached ids given next HasValue mid test w
      → work_ports file limits (Cond test k arm rest env) (node_of (context routine depth line env) next (Cond test k arm rest env)) mid
      ≡ count_composite (length rest) (from arm w names >>= on
      >>= (λ fin. gives (slot_values (locals file routine) fin.names fin.value)))
  cond-ports arm line next mid test w reached =
      ap (λ o. if_there o line (λ v. ported_meaning file limits routine depth
      (from_arm setting (compound_at file routine k) arm v (names_of (locals file routine) env mid)) mid rest)) reached.related.0
      ∙ (λ i. count_composite (length rest)
      (from_arm setting (is i) arm w ((names-kept (locals file routine) ids given mid env reached.kept slots.all_given ∙ slots.bound) i)
      >>= (λ r. rested_kept file limits routine depth ids given mid rest r.completion r.names below reached.kept i)
      >>= (λ fin. gives (slot_values (locals file routine) fin.names fin.value))))

  -- the test of an arm, and then what the arms from it on do
  tested-is : (arm : ℕ) (c : Arm) (inner : Evaluation Value) → slice_get choices arm ≡ Some c
      → meaning_of setting (out-Arm c).test (place_of (out-Arm c).line) names ≡ step inner
      → step (inner >>= (λ w. from arm w names >>= on))
      ≡ (arms (drop arm (map (arm_action setting) choices)) other names >>= on)
  tested-is arm c inner found begins =
      let more = drop (suc arm) (map (arm_action setting) choices) in
      let first = arm_action setting c in
      sym (step-then inner (λ w. from arm w names >>= on))
      ∙ ap (λ e. e >>= (λ w. from arm w names >>= on)) (sym begins ∙ ap (λ (x : ArmAction). x.test names) (sym (arm_level setting c)))
      ∙ (λ i. first.test names >>= (λ w. arms_from setting (drop-some (arm_action setting) choices arm c found i) other w names >>= on))
      ∙ sym (then-then (first.test names) (λ w. arm_from first.body (arms more other) w names) on)
      ∙ ap (λ e. e >>= on) (sym (arms-first first more other names))
      ∙ ap (λ some_arms. arms some_arms other names >>= on) (sym (drop-some (arm_action setting) choices arm c found))

  -- the test of the next arm and its Cond, or the else block
  next-does : (arm : ℕ) (o : Option Arm) → slice_get choices arm ≡ o
      → ((w : Value) → Yields (from arm w names >>= on) (λ fin. IsWithin (locals file routine) fin.names))
      → Matches file limits (1 + 2 * length rest) ids given
      (arm_tested file routine depth k rest o arm (arm_point choices arm place) env ids)
      (arms (drop arm (map (arm_action setting) choices)) other names >>= on) (IsFinish (locals file routine))
  next-does arm None found within =
      subst (λ e. Matches file limits (1 + 2 * length rest) ids given
      (started file routine depth (start.Otherwise k) rest env ids) (e >>= on) (IsFinish (locals file routine)))
      (sym (arms-none other names) ∙ ap (λ some_arms. arms some_arms other names) (sym (drop-none (arm_action setting) choices arm found)))
      (matches-more file limits (2 * length rest) (1 + 2 * length rest) ids given (IsFinish (locals file routine)) _ _ (omega arith) else-does)
  next-does arm (Some c) found within =
      let at = context routine depth (out-Arm c).line env in
      let p = arm_point choices arm place in
      let s =
      tests-spare file limits routine depth (out-Arm c).line (out-Arm c).test p.expression ids given env names
      (arm-tests file routine k arm choices last c is found) slots in
      let piece = then_done env (header file (out-Arm c).test p at) (λ a. emit at (Cond a k arm rest env) >>> ported (locals file routine)) in
      let le : 2 + (2 + 2 * length rest) ≤ 4 + (1 + 2 * length rest) = omega arith in
      subst (λ e. Matches file limits (1 + 2 * length rest) ids given (piece ids) e (IsFinish (locals file routine)))
      (tested-is arm c s.inner found s.begins)
      (matches-step file limits (1 + 2 * length rest) ids given (IsFinish (locals file routine)) (piece ids) _
      (matches-more file limits (2 + (2 + 2 * length rest)) (4 + (1 + 2 * length rest)) ids given (IsFinish (locals file routine)) (piece ids) _ le
      (matches-then_done file limits 2 (2 + 2 * length rest) ids given HasValue (IsFinish (locals file routine)) env
      (header file (out-Arm c).test p at) (λ a. emit at (Cond a k arm rest env) >>> ported (locals file routine))
      s.inner (λ w. from arm w names >>= on) s.matches
      (λ next mid a w reached.
      matches-ported file limits (locals file routine) next mid at (Cond a k arm rest env) (length rest) (from arm w names >>= on)
      (cond-ports arm (out-Arm c).line next mid a w reached) (within w)))))

  -- the arms from one on, by the truth of its test
  pub arm-does : (left arm : ℕ) → length choices ≤ left + arm → (b : Bool) (v : Value) → is_true v ≡ b
      → (o : Option Arm) → slice_get choices arm ≡ o
      → Matches file limits (1 + 2 * length rest) ids given
      (arm_refined file routine depth k rest choices place arm o b env ids)
      (from arm v names >>= on) (IsFinish (locals file routine))
  arm-does left arm few b v true_is None found =
      subst (λ e. Matches file limits (1 + 2 * length rest) ids given
      (started file routine depth (start.Otherwise k) rest env ids) (e >>= on) (IsFinish (locals file routine)))
      (ap (λ some_arms. arms_from setting some_arms other v names) (sym (drop-none (arm_action setting) choices arm found)))
      (matches-more file limits (2 * length rest) (1 + 2 * length rest) ids given (IsFinish (locals file routine)) _ _ (omega arith) else-does)
  arm-does zero arm few b v true_is (Some a) found =
      absurd (let lt = found-below choices arm a found in omega (arith, few, lt))
  arm-does (suc left) arm few true v true_is (Some a) found =
      subst (λ e. Matches file limits (1 + 2 * length rest) ids given
      (started file routine depth (start.Arm k arm) rest env ids) (e >>= on) (IsFinish (locals file routine)))
      (ap (λ c. branch c (arm_action setting a).body (arms (drop (suc arm) (map (arm_action setting) choices)) other) names) (sym true_is)
      ∙ ap (λ some_arms. arms_from setting some_arms other v names) (sym (drop-some (arm_action setting) choices arm a found)))
      (matches-more file limits (2 * length rest) (1 + 2 * length rest) ids given (IsFinish (locals file routine)) _ _ (omega arith)
      (suite-does arm a found))
  arm-does (suc left) arm few false v true_is (Some a) found =
      let fewer : length choices ≤ left + suc arm = omega (arith, few) in
      subst (λ e. Matches file limits (1 + 2 * length rest) ids given
      (arm_tested file routine depth k rest (slice_get choices (suc arm)) (suc arm) (arm_point choices (suc arm) place) env ids)
      (e >>= on) (IsFinish (locals file routine)))
      (ap (λ c. branch c (arm_action setting a).body (arms (drop (suc arm) (map (arm_action setting) choices)) other) names) (sym true_is)
      ∙ ap (λ some_arms. arms_from setting some_arms other v names) (sym (drop-some (arm_action setting) choices arm a found)))
      (next-does (suc arm) (slice_get choices (suc arm)) refl (λ w.
      matches-within file limits (1 + 2 * length rest) ids given (locals file routine) _ _
      (arm-does left (suc arm) fewer (is_true w) w refl (slice_get choices (suc arm)) refl)))

-- what is no `if` has no `else`, and goes on with the rest
nothing-does : (file : File) (limits : Limits) (routine depth k : ℕ) (c : Compound)
    → compound_at file routine k ≡ c → suite_of_else c (passage_at file routine k).point ≡ no_passage
    → (rest : List Frame) (ids : ℕ) (given : Given) (env : List Arg) (names : Names)
    → AreBelow ids (rest_arguments rest) → AreSlots (locals file routine) ids given env names
    → Matches file limits (1 + 2 * length rest) ids given
    (started file routine depth (start.Otherwise k) rest env ids)
    (gives (normally names) >>= then_rest file limits routine depth given rest) (IsFinish (locals file routine))
nothing-does file limits routine depth k c is none rest ids given env names below slots =
    subst (λ e. Matches file limits (1 + 2 * length rest) ids given
    (started file routine depth (start.Otherwise k) rest env ids)
    (e >>= then_rest file limits routine depth given rest) (IsFinish (locals file routine)))
    (ap (λ d. acts (setting_at file limits routine depth) (suite_of_else d (passage_at file routine k).point).stmts names) is
    ∙ ap (λ (here : Passage). acts (setting_at file limits routine depth) here.stmts names) none
    ∙ acts-none file limits routine depth names)
    (matches-more file limits (2 * length rest) (1 + 2 * length rest) ids given (IsFinish (locals file routine)) _ _ (omega arith)
    (started-does file limits routine depth (start.Otherwise k) rest ids given env names below slots))

-- a Cond, whichever statement its number names
pub cond-takes : (file : File) (limits : Limits) (routine depth k arm : ℕ) (c : Compound)
    → compound_at file routine k ≡ c
    → (rest : List Frame) (ids : ℕ) (given : Given) (env : List Arg) (names : Names)
    → AreBelow ids (rest_arguments rest) → AreSlots (locals file routine) ids given env names
    → (v : Value)
    → Matches file limits (1 + 2 * length rest) ids given
    (arm_refined file routine depth k rest (arms_of c) (passage_at file routine k).point arm
    (slice_get (arms_of c) arm) (is_true v) env ids)
    (from_arm (setting_at file limits routine depth) c arm v names >>= then_rest file limits routine depth given rest)
    (IsFinish (locals file routine))
cond-takes file limits routine depth k arm (Choice choices last) is rest ids given env names below slots v =
    arm-does file limits routine depth k choices last is rest ids given env names below slots
    (length choices) arm (omega arith) (is_true v) v refl (slice_get choices arm) refl
cond-takes file limits routine depth k arm (WhileLoop test body) is rest ids given env names below slots v =
    nothing-does file limits routine depth k (WhileLoop test body) is refl rest ids given env names below slots
cond-takes file limits routine depth k arm (ForLoop targets e body) is rest ids given env names below slots v =
    nothing-does file limits routine depth k (ForLoop targets e body) is refl rest ids given env names below slots
cond-takes file limits routine depth k arm Simple is rest ids given env names below slots v =
    nothing-does file limits routine depth k Simple is refl rest ids given env names below slots

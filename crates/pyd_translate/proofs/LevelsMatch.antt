-- The nodes of each form of statement do what it means, and then what goes on behind it.
use Rattle.std.proofs.Common.{◌≡◌, ℕ, ◌+◌, ◌-◌, List, [], ◌∷◌, map, refl, sym, ap, subst, ◌∙◌, arith, false, ◌||◌, Option, Some, None}
use Rattle.std.specs.Prelude.{option_map}
use Rattle.pyd_value.specs.declared.value.Value.{Value, Bool as Truth}
use Rattle.pyd_value.specs.Truth.{is_true}
use Rattle.pyd_value.specs.declared.operator.BinOp.{BinOp}
use Rattle.pyd_tree.specs.declared.expression.Expr.{Expr}
use Rattle.pyd_tree.specs.declared.statement.What.{What, out-What}
use Rattle.pyd_tree.specs.declared.statement.What.TheOpen.{What-F}
use Rattle.pyd_tree.specs.declared.statement.Arm.{Arm, out-Arm}
use Rattle.pyd_tree.specs.declared.statement.Block.{Block}
use Rattle.pyd_tree.specs.declared.statement.Stmt.{Stmt}
use Rattle.pyd_tree.specs.declared.statement.Targets.{Targets}
use Rattle.pyd_names.specs.declared.binding.Binding.{Binding}
use Rattle.pyd_names.specs.Binding.{bound_in, what_binds, bindings}
use Rattle.pyd_names.specs.WellFormed.{some_are}
use Rattle.pyd_scope.specs.Jumps.{return_step, break_step}
use Rattle.pyd_scope.specs.Numbering.{expressions, arm_contents, arms_contents, maybe_expression, table, expression_table, past_expression}
use Rattle.pyd_scope.specs.Passages.{Passage}
use Rattle.pyd_ops.specs.Operators.{binary}
use Rattle.pyd_meaning.specs.Evaluation.{settled, gives, ◌>>=◌}
use Rattle.pyd_meaning.specs.Names.{Names, bind}
use Rattle.pyd_meaning.specs.Setting.{Place, place_of}
use Rattle.pyd_meaning.specs.Reference.{read}
use Rattle.pyd_meaning.specs.Expression.{meaning_of}
use Rattle.pyd_meaning.specs.Assignment.{assign}
use Rattle.pyd_meaning.specs.Completion.{normally}
use Rattle.pyd_meaning.specs.Loops.{while_from, for_loop}
use Rattle.pyd_meaning.specs.Statement.{ArmAction, arms, arm_from, otherwise, arm_action, block_action, calls_range, value_or_none}
use Rattle.pyd_meaning.proofs.Sequencing.{gives-then, then-then}
use Rattle.pyd_meaning.proofs.Statements.{arm}
use Rattle.pyd_ir.specs.declared.arg.Arg.TheVariants.{Known}
use Rattle.pyd_ir.specs.declared.work.Work.TheVariants.{Cond, While, For}
use Rattle.pyd_translate.specs.Making.{Context, ◌>>>◌}
use Rattle.pyd_translate.specs.Compounds.{compound_of, first_compound, compound_at, first_line, line_at}
use Rattle.pyd_translate.specs.Statements as exit
use Rattle.pyd_translate.specs.Statements.{may_leave, header, assigned, augmented, asserted, what_unfolds, if_unfolds}
use Rattle.pyd_translate.specs.Walk.{if_there, from_arm, from_turn, rested, ported_meaning}
use Rattle.pyd_translate.specs.Matching.{HasValue}
use Rattle.pyd_translate.specs.Laws.{Stands}
use Rattle.pyd_translate.proofs.Induction.{Each, Maybe}
use Rattle.pyd_translate.proofs.Standing.{stands_first, stands_second}
use Rattle.pyd_translate.proofs.Contents.{maybe_block, what_inner, arm_out, block_contents}
use Rattle.pyd_translate.proofs.Placing.{first_statement_at}
use Rattle.pyd_translate.proofs.Sequencing.{matches-then}
use Rattle.pyd_translate.proofs.Slots.{IsWithin, slots_within}
use Rattle.pyd_translate.proofs.Gathered.{gathered, statement_level}
use Rattle.pyd_translate.proofs.Levels.{level_action}
use Rattle.pyd_translate.proofs.Stays.{each_front, each_back, BindsSlot, stays_while, stays_for}
use Rattle.pyd_translate.proofs.Leaving.{from_choice, suite_returns, suite_breaks, targets_bind, stays_arms, stays_arm_from, stays_suite}
use Rattle.pyd_translate.proofs.Locals.{placed_binds, passage_found}
use Rattle.pyd_translate.proofs.Framing.{Statement, slots_in, setting_in, in_its, Begun, DoesSo, matches-with_rest}
use Rattle.pyd_translate.proofs.Assigning.{SlotsAre}
use Rattle.pyd_translate.proofs.Scopes.{Scope, State, behind}
use Rattle.pyd_translate.proofs.BindingsMatch.{header-does, assigned-does, augmented_meaning, augmented-does, asserted_meaning, asserted-does}
use Rattle.pyd_translate.proofs.StatementsMatch.{asserted_normally, passes, leaving, Begins, returns-so, evaluates-so, binds-so, headed-so}

module _ (w : Statement) where
  -- its first level
  abbrev level : What-F What Arm Block Stmt
  level = out-What w.head.what

  -- the expressions by their numbers
  abbrev all : List Expr
  all = expression_table w.file w.routine

  -- a level binds slots alone
  abbrev Binds : What-F What Arm Block Stmt → Type 0
  Binds y = Each (BindsSlot (slots_in w)) (what_binds (gathered Binding what_binds y) w.head.line)

  -- the expressions of a level stand where the statement begins
  abbrev Stood : What-F What Arm Block Stmt → Type 0
  Stood y = Stands all w.place.expression (what_inner y).expressions

  -- nothing in a level leaves
  abbrev Stops : What-F What Arm Block Stmt → Type 0
  Stops y =
      may_leave w.head ≡ false
      → (some_are (return_step (gathered ℕ return_step y) w.head.line)
      || some_are (break_step (gathered ℕ break_step y) w.head.line)) ≡ false

  -- its line is found by its number
  line_is : line_at w.file w.routine w.place.statement ≡ w.head.line
  line_is =
      ap (λ (here : Passage). first_line here.stmts)
      (passage_found w.file w.routine w.head w.more w.place w.placed)

  -- what is known of the statement by its level
  record IsLevel (y : What-F What Arm Block Stmt) : Type 0 where
    found : compound_at w.file w.routine w.place.statement ≡ compound_of y
    binds : Binds y
    stands : Stood y
    free : Stops y

  is_level : IsLevel level
  is_level = record {
    found = ap (λ (here : Passage). first_compound here.stmts)
        (passage_found w.file w.routine w.head w.more w.place w.placed);
    binds = subst (Each (BindsSlot (slots_in w))) (statement_level Binding what_binds w.head)
        (placed_binds w.file w.routine (w.head ∷ w.more) w.place w.placed).0;
    stands = (first_statement_at (table w.file w.routine) all w.head w.more w.place
        (w.placed.statements, w.placed.expressions)).1;
    free = λ e. (λ i. some_are (sym (statement_level ℕ return_step w.head) i)
        || some_are (sym (statement_level ℕ break_step w.head) i)) ∙ e;
  }

  module _ (here : Begun w) where
    -- where the nodes are made
    abbrev at : Context
    at = in_its w w.head.line here.env

    -- the place of the statement
    abbrev place : Place
    place = place_of w.head.line

    -- the names are bound in slots alone
    within : IsWithin (slots_in w) here.names
    within = slots_within (slots_in w) here.ids here.given here.env here.names here.are

    -- what stands where the nodes begin
    abbrev scope : Scope
    scope =
        record { file = w.file; limits = w.limits; routine = w.routine; depth = w.depth; line = w.head.line }

    abbrev state : State scope
    state = record { ids = here.ids; given = here.given; env = here.env; names = here.names; are = here.are }

    -- the nodes of a level do what it means, and then what goes on
    abbrev LevelDoes : What-F What Arm Block Stmt → Type 0
    LevelDoes y =
        DoesSo w here (what_unfolds w.file y (may_leave w.head) w.place at w.sequel)
        (level_action (setting_in w) y place here.names)

    -- an assignment
    assigns : (targets : Targets) (e : Expr) → IsLevel (What-F.Assign targets e)
        → LevelDoes (What-F.Assign targets e)
    assigns targets e is =
        let meant = meaning_of (setting_in w) e place here.names in
        subst (DoesSo w here (what_unfolds w.file (What-F.Assign targets e) (may_leave w.head) w.place at w.sequel))
        (then-then meant (λ v. assign targets v place here.names) (λ bound. gives (normally bound)))
        (binds-so w here (0 + 1) (header w.file e w.place at >>> assigned w.file targets at)
        (meant >>= (λ v. assign targets v place here.names)) (omega arith)
        (assigned-does scope state targets e w.place
        (targets_bind (slots_in w) targets.names w.head.line is.binds) is.stands))

    -- what is handed on as names behind an augmented assignment
    augmented_normally : (name : List ℕ) (op : BinOp) (e : Expr)
        → augmented_meaning scope name op e here.names >>= (λ bound. gives (normally bound))
        ≡ level_action (setting_in w) (What-F.Aug name op e) place here.names
    augmented_normally name op e =
        let reads = read (setting_in w) name place here.names in
        let meant = meaning_of (setting_in w) e place here.names in
        let on = λ (bound : Names). gives (normally bound) in
        let named = λ (c : Value). gives (bind here.names name c) in
        then-then reads _ on
        ∙ (λ i. reads >>= (λ a. (then-then meant (λ b. settled (binary op a b w.head.line) >>= named) on
        ∙ (λ j. meant >>= (λ b. (then-then (settled (binary op a b w.head.line)) named on
        ∙ (λ k. settled (binary op a b w.head.line) >>= (λ c. gives-then (bind here.names name c) on k))) j))) i))

    -- an augmented assignment
    augments : (name : List ℕ) (op : BinOp) (e : Expr) → IsLevel (What-F.Aug name op e)
        → LevelDoes (What-F.Aug name op e)
    augments name op e is =
        subst (DoesSo w here (what_unfolds w.file (What-F.Aug name op e) (may_leave w.head) w.place at w.sequel))
        (augmented_normally name op e)
        (binds-so w here (1 + (0 + (1 + 0))) (augmented w.file name op e w.place at)
        (augmented_meaning scope name op e here.names) (omega arith)
        (augmented-does scope state name op e w.place is.binds.0 is.stands))

    -- the message of an assert stands behind its test
    message_stands : (test : Expr) (message : Option Expr)
        → Stands all (past_expression test w.place).expression (maybe_expression message).expressions
        → Maybe (λ e. Stands all (past_expression test w.place).expression (expressions e)) message
    message_stands test None stands = tt
    message_stands test (Some e) stands = stands

    -- an assert
    asserts : (test : Expr) (message : Option Expr) → IsLevel (What-F.Assert test message)
        → LevelDoes (What-F.Assert test message)
    asserts test message is =
        let meant = meaning_of (setting_in w) test place here.names in
        let so = λ (v : Value). asserted_meaning scope message v here.names in
        subst (DoesSo w here (what_unfolds w.file (What-F.Assert test message) (may_leave w.head) w.place at w.sequel))
        (then-then meant so (λ bound. gives (normally bound))
        ∙ (λ i. meant >>= (λ v. asserted_normally (is_true v) (value_or_none (setting_in w) message place) place here.names i)))
        (binds-so w here (0 + (2 + (1 + 0)))
        (header w.file test w.place at >>> asserted w.file message (past_expression test w.place).expression at)
        (meant >>= so) (omega arith)
        (matches-then w.file w.limits 0 (2 + (1 + 0)) here.ids here.given HasValue (SlotsAre (slots_in w))
        (header w.file test w.place at) (asserted w.file message (past_expression test w.place).expression at) meant so
        (header-does scope state test w.place
        (stands_first all w.place.expression (expressions test) (maybe_expression message).expressions is.stands))
        (λ next mid a v reached.
        asserted-does scope (behind scope state HasValue next mid a v reached) message
        (past_expression test w.place).expression a v reached.related
        (message_stands test message
        (stands_second all w.place.expression (expressions test) (maybe_expression message).expressions is.stands)))))

    -- an `if` that has no arm is its `else`
    no_arm : (last : Option Block) → IsLevel (What-F.If [] last) → LevelDoes (What-F.If [] last)
    unfolding arms
    no_arm last is =
        matches-with_rest w here (λ frames. Cond (Known (Truth false)) w.place.statement 0 frames here.env) w.head.line
        (level_action (setting_in w) (What-F.If [] last) place here.names)
        (from_choice ℕ return_step [] last) (from_choice ℕ break_step [] last)
        (λ frames i. ported_meaning w.file w.limits w.routine w.depth
        (from_arm (setting_in w) (is.found i) 0 (Truth false) (here.are.bound i)) here.given frames)
        (stays_arms (slots_in w) (setting_in w) [] last is.binds here.names within)
        (may_leave w.head) is.free

    -- an `if` begins with the test of its first arm
    first_arm : (a : Arm) (more : List Arm) (last : Option Block) → IsLevel (What-F.If (a ∷ more) last)
        → LevelDoes (What-F.If (a ∷ more) last)
    unfolding arms
    first_arm a more last is =
        let set = setting_in w in
        let following = arms (map (arm_action set) more) (otherwise (option_map (block_action set) last)) in
        subst (λ (t : ArmAction). DoesSo w here (if_unfolds w.file (a ∷ more) (may_leave w.head) w.place at w.sequel)
        (t.test here.names >>= (λ v. arm_from t.body following v here.names))) (sym (arm set a))
        (headed-so w here (out-Arm a).test (out-Arm a).line
        (λ t frames. Cond t w.place.statement 0 frames here.env)
        (λ v. arm_from (block_action set (out-Arm a).body) following v here.names)
        (from_choice ℕ return_step (a ∷ more) last) (from_choice ℕ break_step (a ∷ more) last)
        (may_leave w.head) is.free
        (stands_first all w.place.expression (expressions (out-Arm a).test) (block_contents (out-Arm a).body).expressions
        (subst (λ c. Stands all w.place.expression c.expressions) (arm_out a)
        (stands_first all w.place.expression (arm_contents a).expressions (arms_contents more).expressions
        (stands_first all w.place.expression (arms_contents (a ∷ more)).expressions (maybe_block last).expressions is.stands))))
        (λ next mid t v there has frames.
        (λ i. if_there (has.0 i) (out-Arm a).line (λ u. ported_meaning w.file w.limits w.routine w.depth
        (from_arm set (is.found i) 0 u (there.bound i)) mid frames))
        ∙ ap (λ (x : ArmAction). ported_meaning w.file w.limits w.routine w.depth
        (arm_from x.body following v here.names) mid frames) (arm set a))
        (λ v. stays_arm_from (slots_in w) set a more last v is.binds here.names within))

    -- an `if`
    chooses : (choices : List Arm) (last : Option Block) → IsLevel (What-F.If choices last)
        → LevelDoes (What-F.If choices last)
    chooses [] last is = no_arm last is
    chooses (a ∷ more) last is = first_arm a more last is

    -- all turns of a loop are left at its start
    all_turns : w.limits.turns - 0 ≡ w.limits.turns
    all_turns = omega arith

    -- a `while`
    repeats : (test : Expr) (body : Block) → IsLevel (What-F.While test body) → LevelDoes (What-F.While test body)
    repeats test body is =
        let set = setting_in w in
        headed-so w here test w.head.line (λ t frames. While t w.place.statement 0 frames here.env)
        (λ v. while_from w.limits.turns place (meaning_of set test) (block_action set body) v here.names)
        (suite_returns body) [] (may_leave w.head) is.free
        (stands_first all w.place.expression (expressions test) (block_contents body).expressions is.stands)
        (λ next mid t v there has frames.
        (λ i. if_there (has.0 i) w.head.line (λ u. ported_meaning w.file w.limits w.routine w.depth
        (from_turn set (is.found i) (line_is i) 0 u (there.bound i)) mid frames))
        ∙ ap (λ n. ported_meaning w.file w.limits w.routine w.depth
        (while_from n place (meaning_of set test) (block_action set body) v here.names) mid frames) all_turns)
        (λ v. stays_while (slots_in w) (suite_returns body) (suite_breaks body) w.limits.turns place
        (meaning_of set test) (block_action set body) v (stays_suite (slots_in w) set body is.binds) here.names within)

    -- a `for`
    iterates : (targets : Targets) (e : Expr) (body : Block) → IsLevel (What-F.For targets e body)
        → LevelDoes (What-F.For targets e body)
    iterates targets e body is =
        let set = setting_in w in
        let bound = map (bound_in w.head.line) targets.names in
        headed-so w here e w.head.line (λ over frames. For over w.place.statement 0 frames here.env)
        (λ v. for_loop w.limits.turns place targets (block_action set body) (calls_range set e) v 0 here.names)
        (suite_returns body) [] (may_leave w.head) is.free
        (stands_first all w.place.expression (expressions e) (block_contents body).expressions is.stands)
        (λ next mid t v there has frames.
        (λ i. if_there (has.0 i) w.head.line (λ u. ported_meaning w.file w.limits w.routine w.depth
        (from_turn set (is.found i) (line_is i) 0 u (there.bound i)) mid frames)))
        (λ v. stays_for (slots_in w) (suite_returns body) (suite_breaks body) w.limits.turns place targets
        (block_action set body) (calls_range set e) v 0
        (targets_bind (slots_in w) targets.names w.head.line
        (each_front (BindsSlot (slots_in w)) bound (bindings body) is.binds))
        (stays_suite (slots_in w) set body (each_back (BindsSlot (slots_in w)) bound (bindings body) is.binds))
        here.names within)

    -- the value of a `return` stands where it begins
    value_stands : (e : Option Expr) → Stood (What-F.Return e) → Maybe (Begins w here) e
    value_stands None stands = tt
    value_stands (Some e) stands = stands

    -- each form of statement
    by_level : (y : What-F What Arm Block Stmt) → IsLevel y → LevelDoes y
    unfolding rested
    by_level (What-F.Expr e) is = evaluates-so w here e w.head.line is.stands
    by_level (What-F.Assign targets e) is = assigns targets e is
    by_level (What-F.Aug name op e) is = augments name op e is
    by_level (What-F.If choices last) is = chooses choices last is
    by_level (What-F.While test body) is = repeats test body is
    by_level (What-F.For targets e body) is = iterates targets e body is
    by_level (What-F.Return e) is = returns-so w here e w.head.line (value_stands e is.stands)
    by_level What-F.Break is = leaving w here exit.Break refl
    by_level What-F.Continue is = leaving w here exit.Continue refl
    by_level What-F.Pass is = passes w here
    by_level (What-F.Assert test message) is = asserts test message is

    -- the nodes of the statement do what its level means, and then what goes on behind it
    pub level-does : LevelDoes level
    level-does = by_level level is_level

-- What refining takes from translation: tests stand at their numbers and spare steps, and targets are slots and are bound.
use Rattle.std.proofs.Common.{◌≡◌, ℕ, zero, suc, ◌+◌, List, [], ◌∷◌, ◌++◌, length, map, take, Option, Some, None, ap, subst, arith, true}
use Rattle.std.specs.List.{slice_get}
use Rattle.std.proofs.lemmas.List.{length-append}
use Rattle.pyd_tree.specs.declared.expression.Expr.{Expr}
use Rattle.pyd_tree.specs.declared.statement.What.{What, out-What}
use Rattle.pyd_tree.specs.declared.statement.What.TheOpen.{What-F}
use Rattle.pyd_tree.specs.declared.statement.Arm.{Arm, out-Arm}
use Rattle.pyd_tree.specs.declared.statement.Block.{Block}
use Rattle.pyd_tree.specs.declared.statement.Stmt.{Stmt}
use Rattle.pyd_tree.specs.declared.statement.Targets.{Targets}
use Rattle.pyd_tree.specs.declared.file.File.{File}
use Rattle.pyd_names.specs.declared.binding.Binding.{Binding}
use Rattle.pyd_names.specs.Binding.{bound_in, what_binds, bindings, locals, is_among}
use Rattle.pyd_value.specs.declared.value.Value.{Value}
use Rattle.pyd_meaning.specs.declared.limits.Limits.{Limits}
use Rattle.pyd_meaning.specs.Names.{Names}
use Rattle.pyd_meaning.specs.Setting.{place_of}
use Rattle.pyd_meaning.specs.Expression.{meaning_of}
use Rattle.pyd_meaning.specs.Assignment.{assign}
use Rattle.pyd_meaning.specs.Module.{setting_at}
use Rattle.pyd_ir.specs.declared.arg.Arg.{Arg}
use Rattle.pyd_ir.specs.Inputs.{Given}
use Rattle.pyd_translate.specs.Expressions.{expression_unfolds}
use Rattle.pyd_translate.specs.Statements.{context, bind_targets}
use Rattle.pyd_translate.specs.Matching.{AreSlots, HasValue, Matches}
use Rattle.pyd_translate.proofs.Sequencing.{Spares}
use Rattle.pyd_scope.specs.Numbering.{Entry, expressions, table, expression_table, Point, past, inside, arm_contents, arms_contents, contents}
use Rattle.pyd_scope.specs.Passages.{passage_at}
use Rattle.pyd_translate.specs.Compounds.{Compound, Choice, WhileLoop, ForLoop, Simple, compound_of, first_compound, compound_at}
use Rattle.pyd_translate.specs.Laws.{Stands}
use Rattle.pyd_translate.proofs.Standing.{stands_first}
use Rattle.pyd_translate.proofs.Induction.{Each}
use Rattle.pyd_translate.proofs.Contents.{what_inner, block_contents, maybe_block, arm_out}
use Rattle.pyd_translate.proofs.Placing.{StandsAt, sized_arm, first_at, second_at, first_statement_at}
use Rattle.pyd_translate.proofs.Lookup.{number_placed}
use Rattle.pyd_translate.proofs.Gathered.{gathered, statement_level}
use Rattle.pyd_translate.proofs.Stays.{each_front, BindsSlot, BindsSlots}
use Rattle.pyd_translate.proofs.Leaving.{targets_bind}
use Rattle.pyd_translate.proofs.Locals.{passage_binds}
use Rattle.pyd_translate.proofs.Assigning.{binds}
use Rattle.pyd_translate.proofs.ExpressionsMatch.{expression-does}
use Rattle.pyd_refine.specs.Composites.{arm_point}

-- each of some names is a slot
abbrev pub AreListed : List (List ℕ) → List (List ℕ) → Type 0
AreListed slots names = Each (λ name. is_among slots name ≡ true) names

-- the targets of a loop, and others of what is none
abbrev targets_or : Targets → Compound → Targets
targets_or to (ForLoop targets e body) = targets
targets_or to (WhileLoop test body) = to
targets_or to (Choice arms otherwise) = to
targets_or to Simple = to

-- the targets of a loop whose statement binds slots alone
level-targets : (slots : List (List ℕ)) (y : What-F What Arm Block Stmt) (line : ℕ) (targets : Targets) (e : Expr) (body : Block)
    → compound_of y ≡ ForLoop targets e body → Each (BindsSlot slots) (what_binds (gathered Binding what_binds y) line)
    → AreListed slots targets.names
level-targets slots (What-F.For to over b) line targets e body is p =
    subst (λ (x : Targets). AreListed slots x.names) (ap (targets_or to) is)
    (targets_bind slots to.names line (each_front (BindsSlot slots) (map (bound_in line) to.names) (bindings b) p))
level-targets slots (What-F.While test b) line targets e body is p = absurd (cc is)
level-targets slots (What-F.If arms last) line targets e body is p = absurd (cc is)
level-targets slots (What-F.Expr x) line targets e body is p = absurd (cc is)
level-targets slots (What-F.Assign to x) line targets e body is p = absurd (cc is)
level-targets slots (What-F.Aug name op x) line targets e body is p = absurd (cc is)
level-targets slots (What-F.Return x) line targets e body is p = absurd (cc is)
level-targets slots What-F.Break line targets e body is p = absurd (cc is)
level-targets slots What-F.Continue line targets e body is p = absurd (cc is)
level-targets slots What-F.Pass line targets e body is p = absurd (cc is)
level-targets slots (What-F.Assert test message) line targets e body is p = absurd (cc is)

-- the first of statements that bind slots alone
first-targets : (slots : List (List ℕ)) (ss : List Stmt) (targets : Targets) (e : Expr) (body : Block)
    → first_compound ss ≡ ForLoop targets e body → Each (BindsSlots slots) ss → AreListed slots targets.names
first-targets slots [] targets e body is p = absurd (cc is)
first-targets slots (s ∷ ss) targets e body is p =
    level-targets slots (out-What s.what) s.line targets e body is
    (subst (Each (BindsSlot slots)) (statement_level Binding what_binds s) p.0)

-- the targets of a loop are slots of its routine
pub loop-targets : (file : File) (routine k : ℕ) (targets : Targets) (e : Expr) (body : Block)
    → compound_at file routine k ≡ ForLoop targets e body → AreListed (locals file routine) targets.names
loop-targets file routine k targets e body is =
    first-targets (locals file routine) (passage_at file routine k).stmts targets e body is (passage_binds file routine k)

-- the arms of an `if`, and others of what is none
abbrev arms-or : List Arm → Compound → List Arm
arms-or others (Choice arms otherwise) = arms
arms-or others (WhileLoop test body) = others
arms-or others (ForLoop targets e body) = others
arms-or others Simple = others

module _ (entries : List Entry) (all : List Expr) where
  -- the test of each of some arms
  test-at : (arms : List Arm) (arm : ℕ) (a : Arm) (p : Point) → StandsAt entries all (arms_contents arms) p
      → slice_get arms arm ≡ Some a
      → Stands all (past (arms_contents (take arm arms)) p).expression (expressions (out-Arm a).test)
  test-at [] arm a p st e = absurd (cc e)
  test-at (b ∷ arms) zero a p st e =
      let number : p.expression ≡ p.expression + 0 = omega arith in
      subst (λ n. Stands all n (expressions (out-Arm a).test)) number
      (subst (λ (x : Arm). Stands all p.expression (expressions (out-Arm x).test)) (same b a e)
      (stands_first all p.expression (expressions (out-Arm b).test) (block_contents (out-Arm b).body).expressions
      (subst (λ c. StandsAt entries all c p) (arm_out b)
      (first_at entries all (arm_contents b) (arms_contents arms) p st)).1))
    where
      arm-or : Arm → Option Arm → Arm
      arm-or d (Some x) = x
      arm-or d None = d

      same : (b a : Arm) → ◌≡◌ {A = Option Arm} (Some b) (Some a) → b ≡ a
      same b a e = ap (arm-or b) e
  test-at (b ∷ arms) (suc arm) a p st e =
      let before = (arms_contents (take arm arms)).expressions in
      let both : length ((arm_contents b).expressions ++ before) ≡ length (arm_contents b).expressions + length before =
      length-append (arm_contents b).expressions before in
      let number : p.expression + length (arm_contents b).expressions + length before
      ≡ p.expression + length ((arm_contents b).expressions ++ before) = omega (arith, both) in
      subst (λ n. Stands all n (expressions (out-Arm a).test)) number
      (test-at arms arm a (past (arm_contents b) p)
      (second_at entries all (arm_contents b) (arms_contents arms) p (sized_arm b) st) e)

  -- the test of an arm of a statement
  level-test : (y : What-F What Arm Block Stmt) (arms : List Arm) (last : Option Block) (arm : ℕ) (a : Arm) (p : Point)
      → compound_of y ≡ Choice arms last → StandsAt entries all (what_inner y) (inside p) → slice_get arms arm ≡ Some a
      → Stands all (arm_point arms arm p).expression (expressions (out-Arm a).test)
  level-test (What-F.If choices otherwise) arms last arm a p is st e =
      test-at arms arm a (inside p)
      (subst (λ some_arms. StandsAt entries all (arms_contents some_arms) (inside p)) (ap (arms-or choices) is)
      (first_at entries all (arms_contents choices) (maybe_block otherwise) (inside p) st)) e
  level-test (What-F.While test body) arms last arm a p is st e = absurd (cc is)
  level-test (What-F.For targets x body) arms last arm a p is st e = absurd (cc is)
  level-test (What-F.Expr x) arms last arm a p is st e = absurd (cc is)
  level-test (What-F.Assign targets x) arms last arm a p is st e = absurd (cc is)
  level-test (What-F.Aug name op x) arms last arm a p is st e = absurd (cc is)
  level-test (What-F.Return x) arms last arm a p is st e = absurd (cc is)
  level-test What-F.Break arms last arm a p is st e = absurd (cc is)
  level-test What-F.Continue arms last arm a p is st e = absurd (cc is)
  level-test What-F.Pass arms last arm a p is st e = absurd (cc is)
  level-test (What-F.Assert test message) arms last arm a p is st e = absurd (cc is)

  -- the test of an arm of the first of statements
  first-test : (ss : List Stmt) (arms : List Arm) (last : Option Block) (arm : ℕ) (a : Arm) (p : Point)
      → first_compound ss ≡ Choice arms last → StandsAt entries all (contents ss) p → slice_get arms arm ≡ Some a
      → Stands all (arm_point arms arm p).expression (expressions (out-Arm a).test)
  first-test [] arms last arm a p is st e = absurd (cc is)
  first-test (s ∷ ss) arms last arm a p is st e =
      level-test (out-What s.what) arms last arm a p is (first_statement_at entries all s ss p st) e

-- the test of an arm stands at its number
pub arm-tests : (file : File) (routine k arm : ℕ) (arms : List Arm) (last : Option Block) (a : Arm)
    → compound_at file routine k ≡ Choice arms last → slice_get arms arm ≡ Some a
    → Stands (expression_table file routine)
    (arm_point arms arm (passage_at file routine k).point).expression (expressions (out-Arm a).test)
arm-tests file routine k arm arms last a is e =
    let placed = number_placed file routine k in
    first-test (table file routine) (expression_table file routine) (passage_at file routine k).stmts arms last arm a
    (passage_at file routine k).point is (placed.statements, placed.expressions) e

-- targets that are slots are bound as an assignment binds them, with one node at most
pub targets-bound : (file : File) (limits : Limits) (routine depth line : ℕ) (targets : Targets) (a : Arg) (v : Value)
    (ids : ℕ) (given : Given) (env : List Arg) (names : Names)
    → AreListed (locals file routine) targets.names
    → HasValue ids given a v
    → AreSlots (locals file routine) ids given env names
    → Matches file limits 1 ids given
    (bind_targets (locals file routine) targets.tuple targets.names (context routine depth line env) a ids)
    (assign targets v (place_of line) names) (AreSlots (locals file routine))
targets-bound file limits routine depth line targets a v ids given env names listed has are =
    binds file limits (locals file routine) ids given routine depth line env names are a v has
    targets.tuple targets.names listed

-- an expression that stands at its number leaves two steps over
pub tests-spare : (file : File) (limits : Limits) (routine depth line : ℕ) (e : Expr) (k ids : ℕ)
    (given : Given) (env : List Arg) (names : Names)
    → Stands (expression_table file routine) k (expressions e)
    → AreSlots (locals file routine) ids given env names
    → Spares file limits ids given (expression_unfolds file e k (context routine depth line env) ids)
    (meaning_of (setting_at file limits routine depth) e (place_of line) names) HasValue
tests-spare file limits routine depth line e k ids given env names stands are =
    expression-does (record { file = file; limits = limits; routine = routine; depth = depth; line = line }) e k
    (record { ids = ids; given = given; env = env; names = names; are = are }) stands

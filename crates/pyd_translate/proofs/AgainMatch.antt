-- The nodes of a loop that is gone on with do what it means, and then the rest.
use Rattle.std.proofs.Common.{◌≡◌, ℕ, ◌+◌, ◌-◌, ◌*◌, List, [], ◌∷◌, length, refl, sym, ap, subst, ◌∙◌, arith, Option, Some, None}
use Rattle.pyd_value.specs.declared.value.Value.{Value}
use Rattle.pyd_value.specs.declared.value.Value.TheVariants as value
use Rattle.pyd_value.specs.declared.fault.Fault.{Fault}
use Rattle.pyd_value.specs.declared.fault.Fault.TheVariants.{Raised}
use Rattle.pyd_value.specs.declared.fault.Kind.TheVariants.{NameError}
use Rattle.pyd_tree.specs.declared.expression.Expr.{Expr}
use Rattle.pyd_tree.specs.declared.statement.What.{What, out-What}
use Rattle.pyd_tree.specs.declared.statement.What.TheOpen.{What-F}
use Rattle.pyd_tree.specs.declared.statement.Arm.{Arm}
use Rattle.pyd_tree.specs.declared.statement.Block.{Block}
use Rattle.pyd_tree.specs.declared.statement.Stmt.{Stmt}
use Rattle.pyd_tree.specs.declared.statement.Targets.{Targets}
use Rattle.pyd_tree.specs.declared.file.File.{File}
use Rattle.pyd_names.specs.declared.binding.Binding.{Binding}
use Rattle.pyd_names.specs.Binding.{what_binds, bindings}
use Rattle.pyd_scope.specs.Numbering.{Point, expressions, table, expression_table}
use Rattle.pyd_scope.specs.Passages.{Passage}
use Rattle.pyd_meaning.specs.declared.limits.Limits.{Limits}
use Rattle.pyd_meaning.specs.Evaluation.{Evaluation, settled, gives, faults, ◌>>=◌}
use Rattle.pyd_meaning.specs.Names.{Names}
use Rattle.pyd_meaning.specs.Setting.{place_of, Setting}
use Rattle.pyd_meaning.specs.Expression.{meaning_of}
use Rattle.pyd_meaning.specs.Completion.{Reached, normally}
use Rattle.pyd_meaning.specs.Loops.{while_from, for_loop}
use Rattle.pyd_meaning.specs.Statement.{block_action, calls_range}
use Rattle.pyd_meaning.proofs.Sequencing.{gives-then, faults-then, then-then}
use Rattle.pyd_ir.specs.declared.arg.Arg.{Arg}
use Rattle.pyd_ir.specs.declared.work.Frame.{Frame}
use Rattle.pyd_ir.specs.declared.work.Work.TheVariants.{While, For}
use Rattle.pyd_ir.specs.Arguments.{rest_arguments}
use Rattle.pyd_ir.specs.Inputs.{Given, value_of}
use Rattle.pyd_ir.specs.Ports.{Ports}
use Rattle.pyd_translate.specs.Making.{Making, Context, node_of, emit, ◌>>>◌}
use Rattle.pyd_translate.specs.Compounds.{compound_of, first_compound, first_line, compound_at, line_at}
use Rattle.pyd_translate.specs.Expressions.{expression_unfolds}
use Rattle.pyd_translate.specs.Statements as exit
use Rattle.pyd_translate.specs.Statements.{Done, Exit, Onward, then_done, context}
use Rattle.pyd_translate.specs.Rests as rests
use Rattle.pyd_translate.specs.Rests.{rest_unfolds}
use Rattle.pyd_translate.specs.Walk.{if_there, again, from_turn, slot_names, Finish, then_rest, ported_meaning, work_ports}
use Rattle.pyd_translate.specs.Matching.{AreBelow, HasValue, AreSlots, IsFinish, Matches}
use Rattle.pyd_translate.specs.Laws.{Stands, IsPlaced}
use Rattle.pyd_translate.proofs.ExpressionsMatch.{expressions_match}
use Rattle.pyd_translate.proofs.Induction.{Each}
use Rattle.pyd_translate.proofs.Standing.{stands_first}
use Rattle.pyd_translate.proofs.Contents.{what_inner, block_contents}
use Rattle.pyd_translate.proofs.Placing.{first_statement_at}
use Rattle.pyd_translate.proofs.Sequencing.{matches-then, matches-then_done, matches-more}
use Rattle.pyd_translate.proofs.Emitting.{Puts, IsEmitted, matches-emit}
use Rattle.pyd_translate.proofs.Keeping.{slots-kept}
use Rattle.pyd_translate.proofs.Slots.{slots_within}
use Rattle.pyd_translate.proofs.Gathered.{gathered, statement_level}
use Rattle.pyd_translate.proofs.Yields.{Yields, yields-faults, yields-then}
use Rattle.pyd_translate.proofs.Stays.{BindsSlot, IsStayed, stays_while}
use Rattle.pyd_translate.proofs.Leaving.{suite_returns, suite_breaks, stays_suite}
use Rattle.pyd_translate.proofs.Locals.{placed_binds, passage_found}
use Rattle.pyd_translate.proofs.Composites.{finish_ports, matches-ported}
use Rattle.pyd_translate.proofs.Resting.{slots, setting, resting, EndsWithin, again_binds, rested_kept, rested_within}
use Rattle.pyd_translate.proofs.Framing.{completion_of, Goes}
use Rattle.pyd_translate.proofs.Assigning.{matches-yields}

-- a fault puts nothing at ports
puts-faults : {B : Type 0} (f : Fault) (ports : B → Ports) → Puts 0 (faults f) (faults f) ports
unfolding settled
puts-faults f ports = record { lines = refl; result = refl; steps = omega arith }

module _ (file : File) (limits : Limits) (routine depth : ℕ) where
  -- the names of the slots
  abbrev names_here : List (List ℕ)
  names_here = slots file limits routine depth

  -- the setting
  abbrev set : Setting
  set = setting file limits routine depth

  -- a rest by the exit at which what stands before it is left
  abbrev pub rest_from : List Frame → Exit → Given → Names → Evaluation Finish
  rest_from rest x given names = resting file limits routine depth given rest (completion_of x) names

  module _ (s : Stmt) (ss : List Stmt) (p : Point) (rest : List Frame) (turns : ℕ) (over : Arg)
      (placed : IsPlaced file routine (record { stmts = s ∷ ss; point = p }))
      (ids : ℕ) (given : Given) (env : List Arg) (names : Names)
      (below : AreBelow ids (rest_arguments rest)) (are : AreSlots names_here ids given env names) where
    -- where the nodes are made
    abbrev at : Context
    at = context routine depth s.line env

    -- the statement is found by its number
    compound_is : compound_at file routine p.statement ≡ compound_of (out-What s.what)
    compound_is = ap (λ (here : Passage). first_compound here.stmts) (passage_found file routine s ss p placed)

    -- and so is its line
    line_is : line_at file routine p.statement ≡ s.line
    line_is = ap (λ (here : Passage). first_line here.stmts) (passage_found file routine s ss p placed)

    -- a loop gone on with binds slots alone
    turns_within : (o : Option Value) (next : ℕ) (mid : Given)
        → Yields (again set (compound_of (out-What s.what)) s.line turns o names
        >>= then_rest file limits routine depth mid rest) (EndsWithin file limits routine depth)
    turns_within o next mid =
        yields-then (again set (compound_of (out-What s.what)) s.line turns o names) (then_rest file limits routine depth mid rest)
        (λ r. EndsWithin file limits routine depth (record { names = r.names; value = value.None })) (EndsWithin file limits routine depth)
        (again_binds names_here set (s ∷ ss) (placed_binds file routine (s ∷ ss) p placed) s.line turns o names
        (slots_within names_here ids given env names are))
        (λ r w. rested_within file limits routine depth mid rest r.completion r.names w)

    -- nodes do what the loop means, and then the rest
    abbrev GoesOn : Making Done → Evaluation Reached → Type 0
    GoesOn u x =
        Matches file limits (2 + 2 * length rest) ids given (u ids)
        (x >>= then_rest file limits routine depth given rest) (IsFinish names_here)

    -- the iterable of a `for` is there or not
    iterates : (targets : Targets) (e : Expr) (body : Block) (o : Option Value) → value_of given over ≡ o
        → out-What s.what ≡ What-F.For targets e body
        → GoesOn (emit at (For over p.statement turns rest env) >>> exit.ported names_here)
        (again set (compound_of (What-F.For targets e body)) s.line turns o names)
    iterates targets e body (Some v) has is =
        matches-ported file limits names_here ids given at (For over p.statement turns rest env) (length rest)
        (for_loop limits.turns (place_of s.line) targets (block_action set body) (calls_range set e) v turns names
        >>= then_rest file limits routine depth given rest)
        (λ i. if_there (has i) s.line (λ u. ported_meaning file limits routine depth
        (from_turn set ((compound_is ∙ ap compound_of is) i) (line_is i) turns u (are.bound i)) given rest))
        (subst (λ y. Yields (again set (compound_of y) s.line turns (Some v) names
        >>= then_rest file limits routine depth given rest) (EndsWithin file limits routine depth)) is
        (turns_within (Some v) ids given))
    iterates targets e body None has is =
        let work = For over p.statement turns rest env in
        let fault = Raised NameError s.line in
        let opened : work_ports file limits work (node_of at ids work) given ≡ faults fault =
        λ i. if_there (has i) s.line (λ u. ported_meaning file limits routine depth
        (from_turn set (compound_at file routine p.statement)
        (line_at file routine p.statement) turns u (slot_names file limits routine depth env given)) given rest) in
        subst (λ m. Matches file limits (2 + 2 * length rest) ids given ((emit at work >>> exit.ported names_here) ids) m (IsFinish names_here))
        (faults-then fault (λ fin. gives fin) ∙ sym (faults-then fault (then_rest file limits routine depth given rest)))
        (matches-more file limits (0 + 0) (2 + 2 * length rest) ids given (IsFinish names_here) _ _ (omega arith)
        (matches-then file limits 0 0 ids given
        (λ next g id fin. IsEmitted ids given (finish_ports names_here) next g id fin × ⊥) (IsFinish names_here)
        (emit at work) (exit.ported names_here) (faults fault) (λ fin. gives fin)
        (matches-yields file limits 0 ids given (IsEmitted ids given (finish_ports names_here)) (λ fin. ⊥) (emit at work ids) (faults fault)
        (yields-faults fault (λ fin. ⊥))
        (matches-emit file limits 0 ids given at work (finish_ports names_here) (faults fault)
        (subst (λ w. Puts 0 w (faults fault) (finish_ports names_here)) (sym opened) (puts-faults fault (finish_ports names_here)))))
        (λ next mid id fin reached. absurd reached.related.1)))

    -- the test of a `while`, and then its turns
    repeats : (test : Expr) (body : Block) → out-What s.what ≡ What-F.While test body
        → GoesOn (then_done env (expression_unfolds file test p.expression at)
        (λ t. emit at (While t p.statement turns rest env) >>> exit.ported names_here))
        (again set (compound_of (What-F.While test body)) s.line turns (value_of given over) names)
    repeats test body is =
        let x = λ (v : Value). while_from (limits.turns - turns) (place_of s.line) (meaning_of set test) (block_action set body) v names in
        let f = λ (t : Arg). emit at (While t p.statement turns rest env) >>> exit.ported names_here in
        let binds : Each (BindsSlot names_here) (bindings body) =
        subst (λ y. Each (BindsSlot names_here) (what_binds (gathered Binding what_binds y) s.line)) is
        (subst (Each (BindsSlot names_here)) (statement_level Binding what_binds s) (placed_binds file routine (s ∷ ss) p placed).0) in
        matches-more file limits (0 + (2 + 2 * length rest)) (2 + 2 * length rest) ids given (IsFinish names_here) _ _ (omega arith)
        (subst (λ m. Matches file limits (0 + (2 + 2 * length rest)) ids given
        (then_done env (expression_unfolds file test p.expression at) f ids) m (IsFinish names_here))
        (sym (then-then (meaning_of set test (place_of s.line) names) x (then_rest file limits routine depth given rest)))
        (matches-then_done file limits 0 (2 + 2 * length rest) ids given HasValue (IsFinish names_here) env
        (expression_unfolds file test p.expression at) f (meaning_of set test (place_of s.line) names)
        (λ v. x v >>= then_rest file limits routine depth given rest)
        (expressions_match file limits routine depth s.line test p.expression ids given env names
        (stands_first (expression_table file routine) p.expression (expressions test) (block_contents body).expressions
        (subst (λ y. Stands (expression_table file routine) p.expression (what_inner y).expressions) is
        (first_statement_at (table file routine) (expression_table file routine) s ss p (placed.statements, placed.expressions)).1)) are)
        (λ next mid t v reached.
        let there = slots-kept names_here ids next given mid env names reached.grown reached.kept are in
        subst (λ m. Matches file limits (2 + 2 * length rest) next mid (f t next) m (IsFinish names_here))
        (λ i. x v >>= (λ r. rested_kept file limits routine depth ids given mid rest r.completion r.names below reached.kept i))
        (matches-ported file limits names_here next mid at (While t p.statement turns rest env) (length rest)
        (x v >>= then_rest file limits routine depth mid rest)
        (λ i. if_there (reached.related.0 i) s.line (λ u. ported_meaning file limits routine depth
        (from_turn set ((compound_is ∙ ap compound_of is) i) (line_is i) turns u (there.bound i)) mid rest))
        (yields-then (x v) (then_rest file limits routine depth mid rest) (IsStayed names_here (suite_returns body) [])
        (EndsWithin file limits routine depth)
        (stays_while names_here (suite_returns body) (suite_breaks body) (limits.turns - turns) (place_of s.line)
        (meaning_of set test) (block_action set body) v (stays_suite names_here set body binds) names
        (slots_within names_here ids given env names are))
        (λ r q. rested_within file limits routine depth mid rest r.completion r.names q.0))))))

    -- what is no loop goes on with the rest
    over_so : (next : Onward) → Goes file limits routine depth rest next (rest_from rest exit.Normal)
        → GoesOn (next env) (gives (normally names))
    over_so next goes =
        subst (λ m. Matches file limits (2 + 2 * length rest) ids given (next env ids) m (IsFinish names_here))
        (sym (gives-then (normally names) (then_rest file limits routine depth given rest)))
        (matches-more file limits (2 * length rest) (2 + 2 * length rest) ids given (IsFinish names_here) _ _ (omega arith)
        (goes ids given env names below are))

    -- each form of statement, as a loop that is gone on with
    again_level : (next : Onward) → Goes file limits routine depth rest next (rest_from rest exit.Normal)
        → (y : What-F What Arm Block Stmt) → out-What s.what ≡ y
        → GoesOn (rests.again file routine depth (compound_of y) p turns over rest at next)
        (again set (compound_of y) s.line turns (value_of given over) names)
    again_level next goes (What-F.While test body) is = repeats test body is
    again_level next goes (What-F.For targets e body) is = iterates targets e body (value_of given over) refl is
    again_level next goes (What-F.If arms last) is = over_so next goes
    again_level next goes (What-F.Expr e) is = over_so next goes
    again_level next goes (What-F.Assign targets e) is = over_so next goes
    again_level next goes (What-F.Aug name op e) is = over_so next goes
    again_level next goes (What-F.Return e) is = over_so next goes
    again_level next goes What-F.Break is = over_so next goes
    again_level next goes What-F.Continue is = over_so next goes
    again_level next goes What-F.Pass is = over_so next goes
    again_level next goes (What-F.Assert test message) is = over_so next goes

  -- the first statement of a passage, as a loop that is gone on with
  pub again-does : (ss : List Stmt) (p : Point) (rest : List Frame) (turns : ℕ) (over : Arg)
      → IsPlaced file routine (record { stmts = ss; point = p })
      → (next : Onward) → Goes file limits routine depth rest next (rest_from rest exit.Normal)
      → (ids : ℕ) (given : Given) (env : List Arg) (names : Names)
      → AreBelow ids (rest_arguments rest) → AreSlots names_here ids given env names
      → Matches file limits (2 + 2 * length rest) ids given
      (rests.again_first file routine depth (record { stmts = ss; point = p }) turns over rest next env ids)
      (again set (first_compound ss) (first_line ss) turns (value_of given over) names
      >>= then_rest file limits routine depth given rest) (IsFinish names_here)
  again-does [] p rest turns over placed next goes ids given env names below are =
      subst (λ m. Matches file limits (2 + 2 * length rest) ids given (next env ids) m (IsFinish names_here))
      (sym (gives-then (normally names) (then_rest file limits routine depth given rest)))
      (matches-more file limits (2 * length rest) (2 + 2 * length rest) ids given (IsFinish names_here) _ _ (omega arith)
      (goes ids given env names below are))
  again-does (s ∷ ss) p rest turns over placed next goes ids given env names below are =
      again_level s ss p rest turns over placed ids given env names below are next goes (out-What s.what) refl

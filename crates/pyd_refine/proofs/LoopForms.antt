-- A loop that is refined, by the parts that code has.
use Rattle.std.proofs.Common.{◌≡◌, ℕ, suc, ◌-◌, ◌<◌, ◌≤◌, List, Bool, true, false, refl, sym, ap, subst, ◌∙◌, Option, Some, None, arith}
use Rattle.std.specs.List.{slice_get}
use Rattle.std.specs.Prelude.{Result, IfOk}
use Rattle.pyd_value.specs.declared.memory.NoMemory.{NoMemory}
use Rattle.pyd_value.specs.declared.value.Value.{Value}
use Rattle.pyd_value.specs.declared.value.Value.TheVariants as value
use Rattle.pyd_value.specs.declared.fault.Fault.TheVariants.{Limit}
use Rattle.pyd_value.specs.declared.fault.Limit.TheVariants.{Turn}
use Rattle.pyd_value.specs.declared.fault.Kind.TheVariants.{TypeError}
use Rattle.pyd_value.specs.Truth.{is_true}
use Rattle.pyd_tree.specs.declared.expression.Expr.{Expr}
use Rattle.pyd_tree.specs.declared.statement.Arm.{Arm}
use Rattle.pyd_tree.specs.declared.statement.Block.{Block}
use Rattle.pyd_tree.specs.declared.statement.Stmt.{Stmt}
use Rattle.pyd_tree.specs.declared.statement.Targets.{Targets}
use Rattle.pyd_tree.specs.declared.statement.What.TheVariants as what
use Rattle.pyd_meaning.specs.Loops.{Items}
use Rattle.pyd_ir.specs.declared.arg.Arg.{Arg}
use Rattle.pyd_ir.specs.declared.arg.Arg.TheVariants.{Known, Unbound}
use Rattle.pyd_scope.specs.Passages.{passage_at}
use Rattle.pyd_translate.specs.declared.at.Start.TheVariants as start
use Rattle.pyd_translate.specs.declared.draft.Draft.{Draft}
use Rattle.pyd_translate.specs.declared.setting.Setting.{Setting}
use Rattle.pyd_translate.specs.declared.setting.Passage.{Passage}
use Rattle.pyd_translate.specs.Compounds.{Compound, first_compound, first_line}
use Rattle.pyd_translate.specs.Flows.{file_in, context_in, slots_in, passage_of, Binds}
use Rattle.pyd_translate.specs.Making.{Making, stop, stop_by}
use Rattle.pyd_translate.specs.Drafts.{Makes}
use Rattle.pyd_translate.specs.Statements.{Done, done, bind_targets}
use Rattle.pyd_refine.specs.declared.turn.Round.{Round}
use Rattle.pyd_refine.specs.Composites.{loop_refined, turn_refined, item_turn, items_refined}
use Rattle.pyd_refine.specs.Drafts.{Ends, left_of, started_in, loop_in, statement_in, while_in, for_in, item_in, turn_in}
use Rattle.pyd_refine.specs.Found.{at_turn}
use Rattle.pyd_refine.proofs.Ended.{header_left, header_ends}
use Rattle.pyd_refine.proofs.StatementKinds.{first_is, first_none, if_is, while_is, for_is, IsSimple, simple_is}

module _ (at : Setting) (r : Round) (a : Arg) (v : Value) (env : List Arg) where
  -- a loop by its compound and its line
  abbrev by_parts : Compound → ℕ → Making Done
  by_parts c line =
      loop_refined (file_in at) r.limits at.routine at.depth r.stmt r.rest.now c line r.turns a v env

  -- the statement that has the loop's number
  pub loop_stmt : (here : Passage) (s : Stmt) → passage_of here ≡ passage_at (file_in at) at.routine r.stmt
      → Some s ≡ slice_get here.stmts 0 → statement_in at r s a v env ≡ loop_in at r a v env
  loop_stmt here s read is =
      let f = first_is here.stmts s is in
      (λ i. by_parts (sym f.0 i) (sym f.1 i))
      ∙ (λ i. by_parts (first_compound (read i).stmts) (first_line (read i).stmts))

  -- a number that no statement has
  pub loop_none : (here : Passage) → passage_of here ≡ passage_at (file_in at) at.routine r.stmt
      → None ≡ slice_get here.stmts 0 → started_in at start.Rest r.rest.now env ≡ loop_in at r a v env
  loop_none here read is =
      (λ i. by_parts (sym (first_none here.stmts is) i) (first_line here.stmts))
      ∙ (λ i. by_parts (first_compound (read i).stmts) (first_line (read i).stmts))

  module _ (s : Stmt) where
    -- a `while`
    pub while_so : (test : Expr) (body : Block) (t : Bool) → s.what ≡ what.While test body → t ≡ is_true v
        → while_in at r s.line t env ≡ statement_in at r s a v env
    while_so test body t is same =
        ap (λ b. while_in at r s.line b env) same
        ∙ sym (ap (λ c. by_parts c s.line) (while_is s.what test body is))

    -- a `for`
    pub for_so : (targets : Targets) (e : Expr) (body : Block) → s.what ≡ what.For targets e body
        → for_in at r s.line targets e a v env ≡ statement_in at r s a v env
    for_so targets e body is = sym (ap (λ c. by_parts c s.line) (for_is s.what targets e body is))

    -- what is no loop is over
    pub if_over : (arms : List Arm) (last : Option Block) → s.what ≡ what.If arms last
        → started_in at start.Rest r.rest.now env ≡ statement_in at r s a v env
    if_over arms last is = sym (ap (λ c. by_parts c s.line) (if_is s.what arms last is))

    pub simple_over : IsSimple s.what → started_in at start.Rest r.rest.now env ≡ statement_in at r s a v env
    simple_over is = sym (ap (λ c. by_parts c s.line) (simple_is s.what is))

-- nothing is left at the limit
none_left : (limit made : ℕ) → limit ≤ made → limit - made ≡ 0
none_left limit made le = omega (arith, le)

-- one is left below it
some_left : (limit made : ℕ) → made < limit → limit - made ≡ suc (limit - suc made)
some_left limit made lt = omega (arith, lt)

module _ (at : Setting) (r : Round) (line : ℕ) (env : List Arg) where
  -- a turn with so many left
  abbrev turns_so : ℕ → Arg → Making Done
  turns_so left a =
      turn_refined (file_in at) at.routine at.depth r.stmt r.rest.now left line r.turns a env

  -- a `while` whose test was false
  pub while_over : (t : Bool) → t ≡ false → started_in at start.Rest r.rest.now env ≡ while_in at r line t env
  while_over t is = ap (λ b. while_in at r line b env) (sym is)

  -- one that has made all its turns
  pub while_limit : (t : Bool) → t ≡ true → r.limits.turns ≤ r.turns
      → stop (context_in at line env) (Limit Turn line) ≡ while_in at r line t env
  while_limit t is le =
      ap (λ n. turns_so n (Known value.None)) (sym (none_left r.limits.turns r.turns le))
      ∙ ap (λ b. while_in at r line b env) (sym is)

  -- one that makes a turn
  pub while_turn : (t : Bool) (over : Arg) → t ≡ true → r.turns < r.limits.turns → over ≡ Known value.None
      → turn_in at r over env ≡ while_in at r line t env
  while_turn t over is lt same =
      ap (λ x. turn_in at r x env) same
      ∙ ap (λ n. turns_so n (Known value.None)) (sym (some_left r.limits.turns r.turns lt))
      ∙ ap (λ b. while_in at r line b env) (sym is)

  module _ (targets : Targets) (a : Arg) where
    -- a `for` by its items
    abbrev over_items : Option Items → Making Done
    over_items o =
        items_refined (file_in at) at.routine at.depth r.stmt r.rest.now (left_of r) targets o line
        r.turns a env

    -- an item was found
    pub for_item : (o : Option Items) (item : Value) → Some (Some item) ≡ at_turn r.turns o
        → item_in at r line targets item a env ≡ over_items o
    for_item None item is = absurd (cc is)
    for_item (Some items) item is =
        let there : Some item ≡ items r.turns = cc is in
        ap (λ x. items_refined (file_in at) at.routine at.depth r.stmt r.rest.now (left_of r) targets (Some (λ t. x)) line r.turns a env) there

    -- none is left
    pub for_end : (o : Option Items) → Some None ≡ at_turn r.turns o
        → started_in at start.Rest r.rest.now env ≡ over_items o
    for_end None is = absurd (cc is)
    for_end (Some items) is =
        let none : None ≡ items r.turns = cc is in
        ap (λ x. items_refined (file_in at) at.routine at.depth r.stmt r.rest.now (left_of r) targets (Some (λ t. x)) line r.turns a env) none

    -- there are no items
    pub for_nothing : (o : Option Items) → None ≡ at_turn r.turns o
        → stop_by (context_in at line env) TypeError ≡ over_items o
    for_nothing None is = refl
    for_nothing (Some items) is = absurd (cc is)

    -- a turn with an item, with so many left
    abbrev with_left : ℕ → Value → Making Done
    with_left left item =
        item_turn (file_in at) at.routine at.depth r.stmt r.rest.now left targets item line r.turns a env

    -- at the limit the targets aren't bound
    pub item_limit : (item : Value) → r.limits.turns ≤ r.turns
        → stop (context_in at line env) (Limit Turn line) ≡ item_in at r line targets item a env
    item_limit item le = ap (λ n. with_left n item) (sym (none_left r.limits.turns r.turns le))

    -- below it they are
    abbrev bound_to : Value → Making (List Arg)
    bound_to item =
        bind_targets (slots_in at) targets.tuple targets.names (context_in at line env) (Known item)

    pub item_goes : (res : Result Arg NoMemory) (before mid after : Draft) (item : Value) (goes : Bool)
        (mine slots : List Arg) → r.turns < r.limits.turns → goes ≡ true
        → Binds before (bound_to item) mid goes env mine
        → IfOk res (λ u. Makes mid (turn_in at r a mine) after (Some (done slots u)))
        → IfOk res (λ u. Ends before (item_in at r line targets item a env) env after slots u)
    item_goes res before mid after item true mine slots lt is b h =
        subst (λ n. IfOk res (λ u. Ends before (with_left n item) env after slots u))
        (sym (some_left r.limits.turns r.turns lt))
        (header_ends res before mid after env slots (bound_to item)
        (turn_refined (file_in at) at.routine at.depth r.stmt r.rest.now (suc (r.limits.turns - suc r.turns)) line r.turns a)
        mine b.made h)
    item_goes res before mid after item false mine slots lt is b h = absurd (cc is)

    pub item_stops : (before after : Draft) (item : Value) (goes : Bool) (mine : List Arg)
        → r.turns < r.limits.turns → goes ≡ false → Binds before (bound_to item) after goes env mine
        → Ends before (item_in at r line targets item a env) env after mine Unbound
    item_stops before after item false mine lt is b =
        subst (λ (xs : List Arg). Ends before (item_in at r line targets item a env) env after xs Unbound) (sym (b.same refl))
        (subst (λ n. Ends before (with_left n item) env after env Unbound)
        (sym (some_left r.limits.turns r.turns lt))
        (header_left before after env (bound_to item)
        (turn_refined (file_in at) at.routine at.depth r.stmt r.rest.now (suc (r.limits.turns - suc r.turns)) line r.turns a)
        b.made))
    item_stops before after item true mine lt is b = absurd (cc is)

-- What the nodes of a list do, in order. A composite is a meaning and no refinement.
use Rattle.std.specs.Prelude.{ℕ, zero, suc, ◌+◌, ◌-◌, ◌*◌, List, [], ◌∷◌, length, map, drop, nat_eq, if◌then◌else◌, Option, Some, None, option_map}
use Rattle.std.specs.List.{slice_get}
use Rattle.pyd_value.specs.declared.value.Value.{Value}
use Rattle.pyd_value.specs.declared.fault.Kind.TheVariants.{NameError}
use Rattle.pyd_value.specs.Truth.{is_true}
use Rattle.pyd_tree.specs.declared.expression.Expr.{Expr, out-Expr}
use Rattle.pyd_tree.specs.declared.expression.Expr.TheOpen.{Expr-F}
use Rattle.pyd_tree.specs.declared.expression.Suffix.{Suffix}
use Rattle.pyd_tree.specs.declared.statement.Stmt.{Stmt}
use Rattle.pyd_tree.specs.declared.file.File.{File}
use Rattle.pyd_names.specs.Binding.{locals}
use Rattle.pyd_meaning.specs.declared.limits.Limits.{Limits}
use Rattle.pyd_meaning.specs.Evaluation.{Evaluation, gives, ◌>>=◌}
use Rattle.pyd_meaning.specs.Names.{Names}
use Rattle.pyd_meaning.specs.Setting.{place_of, Setting, raises, value_or}
use Rattle.pyd_meaning.specs.Expression.{Meaning, meaning_of, branch, conjunction, disjunction, compared}
use Rattle.pyd_meaning.specs.Completion.{Completion, Normal, Break, Continue, Return, Reached, Action, normally, in_turn, value_after}
use Rattle.pyd_meaning.specs.Loops.{while_from, while_loop, for_loop}
use Rattle.pyd_meaning.specs.Statement.{ArmAction, arm_from, arms, otherwise, action_of, arm_action, block_action, calls_range}
use Rattle.pyd_meaning.specs.Module.{setting_at}
use Rattle.pyd_ir.specs.declared.arg.Arg.{Arg}
use Rattle.pyd_ir.specs.declared.node.Node.{Node}
use Rattle.pyd_ir.specs.declared.work.Side.{Side}
use Rattle.pyd_ir.specs.declared.work.Side.TheVariants as side
use Rattle.pyd_ir.specs.declared.work.Frame.{Frame}
use Rattle.pyd_ir.specs.declared.work.Frame.TheVariants.{After, Again}
use Rattle.pyd_ir.specs.declared.work.Work.{Work}
use Rattle.pyd_ir.specs.declared.work.Work.TheVariants.{Op, Read, Call, Stop, Print, Run, Cond, While, For, Pick, Enter}
use Rattle.pyd_ir.specs.Inputs.{Given, value_of, values_of, leaf_meaning}
use Rattle.pyd_ir.specs.Ports.{Ports, only_port, ports_of}
use Rattle.pyd_scope.specs.Numbering.{expression_table}
use Rattle.pyd_scope.specs.Passages.{passage_at}
use Rattle.pyd_translate.specs.Compounds.{Compound, Choice, WhileLoop, ForLoop, Simple, passage_behind, compound_at, line_at}
use Rattle.pyd_translate.specs.Slots.{arg_of}

-- the names that slots have, by what the nodes before gave
abbrev pub names_of : List (List ℕ) → List Arg → Given → Names
names_of slots env given name = value_of given (arg_of slots env name)

-- a node's ports are given from now on
abbrev pub give : ℕ → Ports → Given → Given
give id ports given = λ node. if nat_eq node id then ports else given node

-- the ports of a composite with slots: one for each slot, and then the value's
abbrev pub slot_values : List (List ℕ) → Names → Value → Ports
slot_values [] names v port = only_port v port
slot_values (slot ∷ slots) names v zero = names slot
slot_values (slot ∷ slots) names v (suc port) = slot_values slots names v port

-- goes on with what arguments have; one that is unbound raises NameError in the line, as a name does
abbrev pub if_there : {A B : Type 0} → Option A → ℕ → (A → Evaluation B) → Evaluation B
if_there (Some a) line next = next a
if_there None line next = raises NameError (place_of line)

-- a leaf counts as one step of a walk
abbrev pub count_leaf : {A : Type 0} → Evaluation A → Evaluation A
count_leaf e = record { lines = e.lines; result = e.result; steps = 1 }

-- a composite counts as 2 steps of a walk, 2 for each frame of its rest, and 4 for each step of its meaning: no fewer than the piece that takes its place, and one more
abbrev pub count_composite : {A : Type 0} → ℕ → Evaluation A → Evaluation A
count_composite frames e = record {
  lines = e.lines;
  result = e.result;
  steps = 2 + (2 * frames + 4 * e.steps);
}

-- how a piece of statements ends: the names, and the value that was returned
pub record Finish : Type 0 where
  pub names : Names
  pub value : Value

-- ends with these names, and the value that statements left so give
abbrev pub finish : Completion → Names → Evaluation Finish
finish completion names = gives (record { names = names; value = value_after completion })

module _ (setting : Setting) where
  -- statements in turn
  abbrev pub acts : List Stmt → Action
  acts ss = in_turn (map (action_of setting) ss)

  -- the arms from the first here on, whose test has this value, and then the suite of `else`
  abbrev pub arms_from : List ArmAction → Action → Value → Action
  arms_from [] last v names = last names
  arms_from (a ∷ more) last v names = arm_from a.body (arms more last) v names

  -- an `if` from an arm on, whose test has this value; what is no `if` does nothing
  abbrev pub from_arm : Compound → ℕ → Value → Action
  from_arm (Choice choices last) arm v names =
      arms_from (drop arm (map (arm_action setting) choices))
      (otherwise (option_map (block_action setting) last)) v names
  from_arm (WhileLoop test body) arm v names = gives (normally names)
  from_arm (ForLoop targets e body) arm v names = gives (normally names)
  from_arm Simple arm v names = gives (normally names)

  -- a loop after so many turns, from the value of its test or of its iterable on; what is no loop does nothing
  abbrev pub from_turn : Compound → ℕ → ℕ → Value → Action
  from_turn (WhileLoop test body) line turns v names =
      while_from (setting.limits.turns - turns) (place_of line) (meaning_of setting test)
      (block_action setting body) v names
  from_turn (ForLoop targets e body) line turns v names =
      for_loop setting.limits.turns (place_of line) targets (block_action setting body)
      (calls_range setting e) v turns names
  from_turn (Choice choices last) line turns v names = gives (normally names)
  from_turn Simple line turns v names = gives (normally names)

  -- a loop that is gone on with: the test of a `while` is evaluated, and the iterable of a `for` is there
  abbrev pub again : Compound → ℕ → ℕ → Option Value → Action
  again (WhileLoop test body) line turns over names =
      while_loop (setting.limits.turns - turns) (place_of line) (meaning_of setting test)
      (block_action setting body) names
  again (ForLoop targets e body) line turns over names =
      if_there over line (λ v. for_loop setting.limits.turns (place_of line) targets
      (block_action setting body) (calls_range setting e) v turns names)
  again (Choice choices last) line turns over names = gives (normally names)
  again Simple line turns over names = gives (normally names)

  -- what is left of an `and` or `or` from a member on, or of a comparison from a link on, by its first level
  abbrev pub left_of : Expr-F Expr Suffix → ℕ → Option Value → Meaning
  left_of (Expr-F.And es) m left at names =
      conjunction (drop m (map (meaning_of setting) es)) at names
  left_of (Expr-F.Or es) m left at names =
      disjunction (drop m (map (meaning_of setting) es)) at names
  left_of (Expr-F.Compare first links) m left at names =
      if_there left at.line
      (λ a. compared a (drop m (map (λ l. (l.0, meaning_of setting l.1)) links)) at names)
  left_of (Expr-F.Lit v) m left at names = raises NameError at
  left_of (Expr-F.Name name) m left at names = raises NameError at
  left_of (Expr-F.Tuple es) m left at names = raises NameError at
  left_of (Expr-F.Unary op e) m left at names = raises NameError at
  left_of (Expr-F.Chain first links) m left at names = raises NameError at
  left_of (Expr-F.Power base exponent) m left at names = raises NameError at
  left_of (Expr-F.If test first second) m left at names = raises NameError at
  left_of (Expr-F.Call name args) m left at names = raises NameError at
  left_of (Expr-F.Suffixed base suffixes) m left at names = raises NameError at

  -- an expression that a number may name
  abbrev pub numbered_meaning : Option Expr → Meaning
  numbered_meaning (Some e) at names = meaning_of setting e at names
  numbered_meaning None at names = raises NameError at

  -- what is left of an expression that a number may name
  abbrev pub numbered_left : Option Expr → ℕ → Option Value → Meaning
  numbered_left (Some e) m left at names = left_of (out-Expr e) m left at names
  numbered_left None m left at names = raises NameError at

module _ (file : File) (limits : Limits) where
  module _ (routine depth : ℕ) where
    -- what the routine's names and calls are at the depth
    abbrev pub here : Setting
    here = setting_at file limits routine depth

    -- loop k after so many turns over what was given
    abbrev pub again_at : Given → ℕ → ℕ → Arg → Action
    again_at given k turns over =
        again here (compound_at file routine k) (line_at file routine k) turns (value_of given over)

    -- what follows statement k in its block
    abbrev pub behind_at : ℕ → Action
    behind_at k = acts here (passage_behind (passage_at file routine k)).stmts

    -- goes on with a rest by the way in which the statements before it were left: `continue` drops what stands before the nearest loop, `break` that loop too, `return` all
    unfoldable pub rested : Given → List Frame → Completion → Names → Evaluation Finish
    rested given [] Normal names = finish Normal names
    rested given [] Break names = finish Break names
    rested given [] Continue names = finish Continue names
    rested given [] (Return v) names = finish (Return v) names
    rested given (After k ∷ rest) Normal names =
        behind_at k names >>= (λ r. rested given rest r.completion r.names)
    rested given (After k ∷ rest) Break names = rested given rest Break names
    rested given (After k ∷ rest) Continue names = rested given rest Continue names
    rested given (After k ∷ rest) (Return v) names = finish (Return v) names
    rested given (Again k turns over ∷ rest) Normal names =
        again_at given k turns over names >>= (λ r. rested given rest r.completion r.names)
    rested given (Again k turns over ∷ rest) Break names = rested given rest Normal names
    rested given (Again k turns over ∷ rest) Continue names =
        again_at given k turns over names >>= (λ r. rested given rest r.completion r.names)
    rested given (Again k turns over ∷ rest) (Return v) names = finish (Return v) names

    -- goes on with a rest from what statements reached
    abbrev pub then_rest : Given → List Frame → Reached → Evaluation Finish
    then_rest given rest r = rested given rest r.completion r.names

    -- a side of a choice
    abbrev pub side_meaning : Given → Side → Meaning
    side_meaning given (side.Arg a) at names = value_or (value_of given a) NameError at
    side_meaning given (side.Expr k) at names =
        numbered_meaning here (slice_get (expression_table file routine) k) at names
    side_meaning given (side.Tail k m left) at names =
        numbered_left here (slice_get (expression_table file routine) k) m (value_of given left)
        at names

    -- the names in the slots of a composite of the routine
    abbrev pub slot_names : List Arg → Given → Names
    slot_names env given = names_of (locals file routine) env given

    -- a statement that was gone on with, and then the rest: what stands at the ports
    abbrev pub ported_meaning : Evaluation Reached → Given → List Frame → Evaluation Ports
    ported_meaning e given rest =
        count_composite (length rest) (e >>= then_rest given rest
        >>= (λ fin. gives (slot_values (locals file routine) fin.names fin.value)))

  -- what a leaf does, and what then stands at its ports
  abbrev pub leaf_ports : Node → Given → Evaluation Ports
  leaf_ports node given =
      count_leaf (if_there (leaf_meaning file limits given node) node.line (λ e. e))
      >>= (λ v. gives (ports_of node.work v))

  -- what a node of this work does, and what then stands at its ports
  abbrev pub work_ports : Work → Node → Given → Evaluation Ports
  work_ports (Op op args) node given = leaf_ports node given
  work_ports (Read arg kind) node given = leaf_ports node given
  work_ports (Call func args) node given = leaf_ports node given
  work_ports (Stop fault) node given = leaf_ports node given
  work_ports (Print args) node given = leaf_ports node given
  work_ports (Run func args) node given = leaf_ports node given
  work_ports (Cond test k arm rest env) node given =
      if_there (value_of given test) node.line (λ v. ported_meaning node.routine node.depth
      (from_arm (here node.routine node.depth) (compound_at file node.routine k) arm v
      (slot_names node.routine node.depth env given)) given rest)
  work_ports (While test k turns rest env) node given =
      if_there (value_of given test) node.line (λ v. ported_meaning node.routine node.depth
      (from_turn (here node.routine node.depth) (compound_at file node.routine k)
      (line_at file node.routine k) turns v
      (slot_names node.routine node.depth env given)) given rest)
  work_ports (For over k turns rest env) node given =
      if_there (value_of given over) node.line (λ v. ported_meaning node.routine node.depth
      (from_turn (here node.routine node.depth) (compound_at file node.routine k)
      (line_at file node.routine k) turns v
      (slot_names node.routine node.depth env given)) given rest)
  work_ports (Pick test first second env) node given =
      if_there (value_of given test) node.line (λ v.
      count_composite 0 (branch (is_true v)
      (side_meaning node.routine node.depth given first (place_of node.line))
      (side_meaning node.routine node.depth given second (place_of node.line))
      (slot_names node.routine node.depth env given) >>= (λ u. gives (only_port u))))
  work_ports (Enter func args) node given =
      if_there (values_of given args) node.line (λ vs.
      count_composite 0 ((here node.routine node.depth).calls func vs node.line
      >>= (λ u. gives (only_port u))))

  -- nodes in order, each by what those before it gave
  unfoldable pub walk : List Node → Given → Evaluation Given
  walk [] given = gives given
  walk (n ∷ ns) given = work_ports n.work n given >>= (λ ports. walk ns (give n.id ports given))

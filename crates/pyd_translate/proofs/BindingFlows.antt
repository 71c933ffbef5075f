-- What assignments and an `assert` make, by what their parts made.
use Rattle.std.proofs.Common.{◌≡◌, ℕ, List, [], ◌∷◌, refl, sym, ap, ◌∙◌, true, false, Option, Some, None, Ok, Err}
use Rattle.std.specs.Prelude.{Bool, Result, IfOk}
use Rattle.pyd_value.specs.declared.memory.NoMemory.{NoMemory}
use Rattle.pyd_value.specs.declared.value.Value.TheVariants as value
use Rattle.pyd_value.specs.declared.operator.BinOp.{BinOp}
use Rattle.pyd_tree.specs.declared.expression.Expr.{Expr}
use Rattle.pyd_scope.specs.Numbering.{past_expression}
use Rattle.pyd_ir.specs.declared.node.Node.{Node}
use Rattle.pyd_ir.specs.declared.arg.Arg.{Arg}
use Rattle.pyd_ir.specs.declared.arg.Arg.TheVariants.{Known}
use Rattle.pyd_ir.specs.declared.code.OpCode.TheVariants as code
use Rattle.pyd_ir.specs.declared.work.Side.TheVariants as side
use Rattle.pyd_translate.specs.declared.context.Context.{Context as CodeContext}
use Rattle.pyd_translate.specs.declared.draft.Draft.{Draft}
use Rattle.pyd_translate.specs.declared.setting.Point.{Point}
use Rattle.pyd_translate.specs.declared.spot.Spot.{Spot}
use Rattle.pyd_translate.specs.Making.{Making, Context, pure, ◌>>>◌}
use Rattle.pyd_translate.specs.Slots.{set_slot}
use Rattle.pyd_translate.specs.Expressions.{name_operand, operator, choose, expression_unfolds}
use Rattle.pyd_translate.specs.Statements.{message_unfolds}
use Rattle.pyd_translate.specs.Drafts.{onto, Makes, context_of, file_of, operation}
use Rattle.pyd_translate.specs.Flows.{Binds, Passes, file_in, point_of, context_at, slots_at, header_at, operation_at, augmented_at, second_at, message_at, raised_at}
use Rattle.pyd_translate.proofs.Arms.{made_so, made_then}
use Rattle.pyd_translate.proofs.Onto.{onto_pure, onto_then, onto_none, making_assoc, pure_then}

-- a Stop leaves the slots as they were
pub binds_stopped : (before after : Draft) (u : Making (List Arg)) (env : List Arg)
    → Makes before u after None → Binds before u after false env env
binds_stopped before after u env e = record { made = e; same = λ q. refl }

-- what is bound to what came
pub binds_then : (r : Result Bool NoMemory) (before mid after : Draft) (u : Making Arg)
    (f : Arg → Making (List Arg)) (a : Arg) (old new : List Arg)
    → Makes before u mid (Some a)
    → IfOk r (λ goes. Binds mid (f a) after goes old new)
    → IfOk r (λ goes. Binds before (u >>> f) after goes old new)
binds_then (Ok goes) before mid after u f a old new e b = record {
  made = onto_then before.nodes mid.nodes u f before.next mid.next a e ∙ b.made;
  same = b.same;
}
binds_then (Err x) before mid after u f a old new e b = tt

module _ (at : Spot) (x : CodeContext) (name : List ℕ) (op : BinOp) (e : Expr) (env : List Arg)
    (before mid : List Node) (ids next : ℕ) where
  -- a name, the right side, and the operator between them
  pub operation_made : (r : Result (Option Arg) NoMemory) (a : Arg) (nodes : List Node) (last : ℕ)
      → context_of x ≡ context_at at env → file_of x ≡ file_in at.setting
      → onto before (name_operand (file_of x) name (context_of x) ids) ≡ (mid, Some a, next)
      → IfOk r (λ got. onto mid (operation x op a e at.point.expression next) ≡ (nodes, got, last))
      → IfOk r (λ got. onto before (operation_at at name op e env ids) ≡ (nodes, got, last))
  operation_made r a nodes last here file came made =
      made_then r before nodes ids last mid (name_operand (file_in at.setting) name (context_at at env))
      (λ b. header_at at e env >>> (λ c. operator (code.Binary op) (b ∷ c ∷ []) (context_at at env))) next a
      ((λ i. onto before (name_operand (sym file i) name (sym here i) ids)) ∙ came)
      (made_so r mid nodes next last (operation x op a e at.point.expression)
      (header_at at e env >>> (λ c. operator (code.Binary op) (a ∷ c ∷ []) (context_at at env)))
      (λ i. expression_unfolds (file i) e at.point.expression (here i)
      >>> (λ c. operator (code.Binary op) (a ∷ c ∷ []) (here i))) made)

  -- a Stop at the name
  pub operation_stopped : context_of x ≡ context_at at env → file_of x ≡ file_in at.setting
      → onto before (name_operand (file_of x) name (context_of x) ids) ≡ (mid, None, next)
      → onto before (operation_at at name op e env ids) ≡ (mid, None, next)
  operation_stopped here file came =
      onto_none before mid (name_operand (file_in at.setting) name (context_at at env))
      (λ b. header_at at e env >>> (λ c. operator (code.Binary op) (b ∷ c ∷ []) (context_at at env))) ids next
      ((λ i. onto before (name_operand (sym file i) name (sym here i) ids)) ∙ came)

-- the right side of an augmented assignment, and then the slot
augmented_so : (at : Spot) (name : List ℕ) (op : BinOp) (e : Expr) (env : List Arg)
    → (operation_at at name op e env >>> (λ c. pure (set_slot (slots_at at) env name c)))
    ≡ augmented_at at name op e env
augmented_so at name op e env =
    making_assoc (name_operand (file_in at.setting) name (context_at at env))
    (λ a. header_at at e env >>> (λ b. operator (code.Binary op) (a ∷ b ∷ []) (context_at at env)))
    (λ c. pure (set_slot (slots_at at) env name c))
    ∙ (λ i. name_operand (file_in at.setting) name (context_at at env)
    >>> (λ a. making_assoc (header_at at e env)
    (λ b. operator (code.Binary op) (a ∷ b ∷ []) (context_at at env))
    (λ c. pure (set_slot (slots_at at) env name c)) i))

module _ (at : Spot) (name : List ℕ) (op : BinOp) (e : Expr) (before after : Draft) (env : List Arg) where
  -- an augmented assignment
  pub augmented_binds : (new : List Arg) (v : Arg)
      → Makes before (operation_at at name op e env) after (Some v)
      → new ≡ set_slot (slots_at at) env name v
      → Binds before (augmented_at at name op e env) after true env new
  augmented_binds new v made slot = record {
    made =
        ap (λ (w : Making (List Arg)). onto before.nodes (w before.next)) (sym (augmented_so at name op e env))
        ∙ onto_then before.nodes after.nodes (operation_at at name op e env)
        (λ c. pure (set_slot (slots_at at) env name c)) before.next after.next v made
        ∙ onto_pure after.nodes (set_slot (slots_at at) env name v) after.next
        ∙ (λ i. (after.nodes, Some (sym slot i), after.next));
    same = λ q. absurd (cc q);
  }

  -- one that a Stop ends
  pub augmented_stopped : Makes before (operation_at at name op e env) after None
      → Makes before (augmented_at at name op e env) after None
  augmented_stopped made =
      ap (λ (w : Making (List Arg)). onto before.nodes (w before.next)) (sym (augmented_so at name op e env))
      ∙ onto_none before.nodes after.nodes (operation_at at name op e env)
      (λ c. pure (set_slot (slots_at at) env name c)) before.next after.next made

-- an `assert` whose test came
pub asserted_binds : (before mid after : Draft) (u : Making Arg) (f : Arg → Making (List Arg)) (a : Arg)
    (env : List Arg)
    → Makes before u mid (Some a) → Makes mid (f a) after (Some env)
    → Binds before (u >>> f) after true env env
asserted_binds before mid after u f a env e made = record {
  made = onto_then before.nodes mid.nodes u f before.next mid.next a e ∙ made;
  same = λ q. refl;
}

module _ (at : Spot) (test : Expr) (message : Option Expr) (tested : Arg) (env : List Arg) (before after : Draft) where
  -- the message, and then the test once more
  pub raised_made : (mid : Draft) (args : List Arg) (v : Arg)
      → Passes before (message_at at test message tested env) mid
      → args ≡ tested ∷ []
      → Makes mid (operator code.Assert args (context_at at env)) after (Some v)
      → Makes before (raised_at at test message tested env) after (Some env)
  raised_made mid args v passes is made =
      passes (operator code.Assert (tested ∷ []) (context_at at env) >>> (λ x. pure env))
      ∙ ap (λ xs. onto mid.nodes ((operator code.Assert xs (context_at at env) >>> (λ x. pure env)) mid.next)) (sym is)
      ∙ onto_then mid.nodes after.nodes (operator code.Assert args (context_at at env)) (λ x. pure env)
      mid.next after.next v made
      ∙ onto_pure after.nodes env after.next

  -- a message is chosen where the test is false
  pub message_passes : (e : Expr) (copy v : Arg) (behind : Point) (x : Context)
      → message ≡ Some e → copy ≡ tested → x ≡ context_at at env
      → point_of behind ≡ past_expression test (point_of at.point)
      → Makes before (choose x copy (side.Arg (Known value.None)) (side.Expr behind.expression)) after (Some v)
      → Passes before (message_at at test message tested env) after
  message_passes e copy v behind x is same here place made =
      λ next.
      ap (λ (o : Option Expr). onto before.nodes ((message_unfolds (file_in at.setting) o (second_at at test)
      (context_at at env) tested >>> (λ a. next)) before.next)) is
      ∙ (λ i. onto before.nodes ((choose (sym here i) (sym same i) (side.Arg (Known value.None))
      (side.Expr (sym place i).expression) >>> (λ a. next)) before.next))
      ∙ onto_then before.nodes after.nodes
      (choose x copy (side.Arg (Known value.None)) (side.Expr behind.expression))
      (λ a. next) before.next after.next v made

-- no message makes no node
pub no_message : (at : Spot) (test : Expr) (message : Option Expr) (tested : Arg) (env : List Arg) (before : Draft)
    → message ≡ None → Passes before (message_at at test message tested env) before
no_message at test message tested env before is =
    λ next.
    ap (λ (o : Option Expr). onto before.nodes ((message_unfolds (file_in at.setting) o (second_at at test)
    (context_at at env) tested >>> (λ a. next)) before.next)) is
    ∙ ap (λ (w : Making (List Arg)). onto before.nodes (w before.next)) (pure_then tested (λ a. next))

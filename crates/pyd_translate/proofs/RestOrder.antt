-- The nodes of statements, of what goes on behind them, and of sides name only what they may, and are numbered in order.
use Rattle.std.proofs.Common.{◌≡◌, ◌≤◌, ◌<◌, ℕ, suc, nat_lt, true, List, [], ◌∷◌, Option, Some, None, refl, arith}
use Rattle.std.proofs.lemmas.Bool.Decides.{nat_tests}
use Rattle.pyd_value.specs.declared.value.Value.TheVariants as value
use Rattle.pyd_tree.specs.declared.statement.What.{out-What}
use Rattle.pyd_tree.specs.declared.statement.Stmt.{Stmt}
use Rattle.pyd_tree.specs.declared.file.File.{File}
use Rattle.pyd_names.specs.Binding.{locals}
use Rattle.pyd_ir.specs.declared.arg.Arg.{Arg}
use Rattle.pyd_ir.specs.declared.arg.Arg.TheVariants.{Known, From, Slot, Unbound}
use Rattle.pyd_ir.specs.declared.node.Node.{Node}
use Rattle.pyd_ir.specs.declared.work.Frame.{Frame}
use Rattle.pyd_ir.specs.declared.work.Frame.TheVariants.{After, Again}
use Rattle.pyd_ir.specs.declared.work.Work.TheVariants.{While, For}
use Rattle.pyd_ir.specs.Arguments.{arguments, rest_arguments, side_arguments}
use Rattle.pyd_translate.specs.Making.{Context, emit, ◌>>>◌}
use Rattle.pyd_scope.specs.Numbering.{Point, past_statement}
use Rattle.pyd_scope.specs.Passages.{Passage, passage_at}
use Rattle.pyd_translate.specs.Compounds.{Compound, Choice, WhileLoop, ForLoop, Simple, first_compound, first_line, passage_behind}
use Rattle.pyd_translate.specs.Expressions.{expression_unfolds}
use Rattle.pyd_translate.specs.Sides.{side_unfolds}
use Rattle.pyd_translate.specs.Statements.{Done, Exit, Normal, Break, Continue, Onward, ported, may_leave, context, stmts_unfold}
use Rattle.pyd_translate.specs.Rests.{again, again_first, rest_unfolds, block_unfolds}
use Rattle.pyd_translate.specs.Matching.{IsBelow, AreBelow, AreNumbered}
use Rattle.pyd_translate.specs.Naming.{Numbers, Naming, AreNamed}
use Rattle.pyd_translate.specs.SlotPorts.{IsPortOf, ArePortsOf}
use Rattle.pyd_translate.specs.Laws.{IsDoneBelow, IsValueBelow, BlockOrder, SideOrder}
use Rattle.pyd_translate.proofs.Ordering.{IsIn, AreIn, in_up, are_in_up, are_below_both, AreMarked, any_marked, IfThere, InOrder, Orders, IsLowDone, done_orders}
use Rattle.pyd_translate.proofs.UnfoldedOrder.{expression_orders, side_orders}
use Rattle.pyd_translate.proofs.StatementOrder.{GoesOn, finished_orders, ported_orders, what_order}

module _ (naming : Naming) where
  module _ (file : File) (routine depth : ℕ) where
    -- statements, and then what goes on by the way in which they are left
    statements_order : (ss : List Stmt) (p : Point) (rest : List Frame) (leave : Exit → Onward)
        (least : ℕ) → AreIn naming least (rest_arguments rest)
        → ((exit : Exit) → GoesOn naming least (leave exit))
        → GoesOn naming least (stmts_unfold file routine depth ss p rest leave)
    unfolding stmts_unfold
    statements_order [] p rest leave least below goes n env le low = goes Normal n env le low
    statements_order (s ∷ ss) p rest leave least below goes n env le low =
        what_order naming file (out-What s.what) (may_leave s) p (context routine depth s.line env)
        (record {
          rest = rest;
          leave = leave;
          next = stmts_unfold file routine depth ss (past_statement s p) rest leave;
        }) least n
        (record {
          rest = below;
          leave = goes;
          next = statements_order ss (past_statement s p) rest leave least below goes;
        }) le low

    -- a loop that is gone on with
    again_order : (c : Compound) (p : Point) (turns : ℕ) (over : Arg) (rest : List Frame)
        (at : Context) (next : Onward) (least n : ℕ)
        → IsIn naming least over → AreIn naming least (rest_arguments rest) → GoesOn naming least next
        → least ≤ n → AreIn naming n at.env
        → Orders naming (IsLowDone naming) n (again file routine depth c p turns over rest at next)
    again_order (WhileLoop test body) p turns over rest at next least n is below goes le env =
        done_orders naming (IsIn naming) n at.env (expression_unfolds file test p.expression at)
        (λ t. emit at (While t p.statement turns rest at.env) >>> ported (locals file routine)) env
        (expression_orders naming file test p.expression at n env)
        (λ t end more r. ported_orders naming (locals file routine) at
        (While t p.statement turns rest at.env) end (
          r,
          are_below_both naming end (rest_arguments rest) at.env
              (are_in_up naming least end (rest_arguments rest) (omega arith) below)
              (are_in_up naming n end at.env more env),
        ) refl)
    again_order (ForLoop targets e body) p turns over rest at next least n is below goes le env =
        ported_orders naming (locals file routine) at (For over p.statement turns rest at.env) n (
          in_up naming least n over le is,
          are_below_both naming n (rest_arguments rest) at.env
              (are_in_up naming least n (rest_arguments rest) le below) env,
        ) refl
    again_order (Choice arms otherwise) p turns over rest at next least n is below goes le env =
        goes n at.env le env
    again_order Simple p turns over rest at next least n is below goes le env = goes n at.env le env

    -- the first statement of a passage, as a loop that is gone on with
    again_first_order : (here : Passage) (turns : ℕ) (over : Arg) (rest : List Frame) (next : Onward)
        (least : ℕ) → IsIn naming least over → AreIn naming least (rest_arguments rest)
        → GoesOn naming least next
        → GoesOn naming least (again_first file routine depth here turns over rest next)
    again_first_order here turns over rest next least is below goes n env le low =
        again_order (first_compound here.stmts) here.point turns over rest
        (context routine depth (first_line here.stmts) env) next least n is below goes le low

    -- a rest, by the way in which the block before it was left
    rest_order : (rest : List Frame) (least : ℕ) → AreIn naming least (rest_arguments rest)
        → (exit : Exit) → GoesOn naming least (rest_unfolds file routine depth rest exit)
    unfolding rest_unfolds
    rest_order [] least below Normal n env le low = finished_orders naming n env (Known value.None) low tt
    rest_order [] least below Break n env le low = finished_orders naming n env (Known value.None) low tt
    rest_order [] least below Continue n env le low =
        finished_orders naming n env (Known value.None) low tt
    rest_order (After k ∷ rest) least below Normal n env le low =
        statements_order (passage_behind (passage_at file routine k)).stmts
        (passage_behind (passage_at file routine k)).point rest
        (rest_unfolds file routine depth rest) least below (rest_order rest least below) n env le low
    rest_order (After k ∷ rest) least below Break n env le low =
        rest_order rest least below Break n env le low
    rest_order (After k ∷ rest) least below Continue n env le low =
        rest_order rest least below Continue n env le low
    rest_order (Again k turns over ∷ rest) least below Normal n env le low =
        again_first_order (passage_at file routine k) turns over rest
        (rest_unfolds file routine depth rest Normal) least below.0 below.1
        (rest_order rest least below.1 Normal) n env le low
    rest_order (Again k turns over ∷ rest) least below Break n env le low =
        rest_order rest least below.1 Normal n env le low
    rest_order (Again k turns over ∷ rest) least below Continue n env le low =
        again_first_order (passage_at file routine k) turns over rest
        (rest_unfolds file routine depth rest Normal) least below.0 below.1
        (rest_order rest least below.1 Normal) n env le low

    -- the nodes of statements and of what goes on behind them name only what they may
    pub block_names : (here : Passage) (rest : List Frame) (ids : ℕ) (env : List Arg)
        → naming.base ≤ ids → AreIn naming ids (rest_arguments rest) → AreIn naming ids env
        → AreMarked naming (block_unfolds file routine depth here rest env ids).nodes
        → InOrder naming (IsLowDone naming) ids (block_unfolds file routine depth here rest env ids)
    block_names here rest ids env from below low marks =
        statements_order here.stmts here.point rest (rest_unfolds file routine depth rest) ids below
        (rest_order rest ids below) ids env (omega arith) low ids from (omega arith) marks

-- a number below another, by test
pub is_less : (k n : ℕ) → k < n → nat_lt k n ≡ true
is_less k n lt = grind (arith, nat_tests)

-- the other way round
pub less_is : (k n : ℕ) → nat_lt k n ≡ true → k < n
less_is k n e = grind (arith, nat_tests)

-- the nodes before each, and the slot ports of these
abbrev pub before_with : Numbers → Naming
before_with slots = record {
  base = 0;
  may = λ n k. nat_lt k n;
  slots = slots;
  up = λ m n k le p. is_less k n (let lt = less_is k m p in omega (arith, lt, le));
  made = λ n k from lt. is_less k n lt;
}

-- the nodes before each, and the slot ports of any
abbrev pub before_each : Naming
before_each = before_with (λ k. true)

module _ (slots : Numbers) where
  -- an argument that names no node from a number on names one before it
  is_before : (n : ℕ) (a : Arg) → IsBelow n a → IsPortOf slots a → IsIn (before_with slots) n a
  is_before n (Known v) b p = tt
  is_before n (From r) b p = is_less r.node n b
  is_before n (Slot r) b p = (is_less r.node n b, p)
  is_before n Unbound b p = tt

  -- the same of several
  pub are_with : (n : ℕ) (args : List Arg) → AreBelow n args → ArePortsOf slots args
      → AreIn (before_with slots) n args
  are_with n [] b p = tt
  are_with n (a ∷ args) b p = (is_before n a b.0 p.0, are_with n args b.1 p.1)

-- a slot port is one of any node
any_port : (a : Arg) → IsPortOf (λ k. true) a
any_port (Known v) = tt
any_port (From r) = tt
any_port (Slot r) = refl
any_port Unbound = tt

-- so are all
pub any_ports : (args : List Arg) → ArePortsOf (λ k. true) args
any_ports [] = tt
any_ports (a ∷ args) = (any_port a, any_ports args)

-- arguments that name no node from a number on name those before it
pub are_before : (n : ℕ) (args : List Arg) → AreBelow n args → AreIn before_each n args
are_before n args b = are_with (λ k. true) n args b (any_ports args)

-- the other way round
is_below : (n : ℕ) (a : Arg) → IsIn before_each n a → IsBelow n a
is_below n (Known v) b = tt
is_below n (From r) b = less_is r.node n b
is_below n (Slot r) b = less_is r.node n b.0
is_below n Unbound b = tt

-- the same of several
are_below : (n : ℕ) (args : List Arg) → AreIn before_each n args → AreBelow n args
are_below n [] b = tt
are_below n (a ∷ args) b = (is_below n a b.0, are_below n args b.1)

-- nodes that name nodes before them are numbered in order
pub named_numbered : (ids : ℕ) (ns : List Node) → AreNamed before_each ids ns → AreNumbered ids ns
named_numbered ids [] p = tt
named_numbered ids (n ∷ ns) p = (p.0, are_below ids (arguments n.work) p.1, named_numbered (suc ids) ns p.2)

-- what came of statements names only nodes before the next number
low_done : (next : ℕ) (got : Option Done) → IfThere before_each (IsLowDone before_each) next got → IsDoneBelow next got
low_done next None low = tt
low_done next (Some d) low = (are_below next d.env low.0, is_below next d.value low.1)

-- what came of a value does
low_value : (next : ℕ) (got : Option Arg) → IfThere before_each (IsIn before_each) next got → IsValueBelow next got
low_value next None low = tt
low_value next (Some a) low = is_below next a low

-- the nodes of statements and of what goes on behind them are in order
pub block_order : BlockOrder
block_order file routine depth here rest ids env below low =
    let order =
    block_names before_each file routine depth here rest ids env (omega arith)
    (are_before ids (rest_arguments rest) below) (are_before ids env low)
    (any_marked before_each (λ k. refl) (block_unfolds file routine depth here rest env ids).nodes) in
    record {
      nodes = named_numbered ids (block_unfolds file routine depth here rest env ids).nodes order.nodes;
      next = order.next;
      got = low_done (block_unfolds file routine depth here rest env ids).next
          (block_unfolds file routine depth here rest env ids).got order.got;
    }

-- the nodes of a side are in order
pub side_order : SideOrder
side_order file routine depth line s ids env below low =
    let at = context routine depth line env in
    let order =
    side_orders before_each file s at ids (are_before ids env low) (are_before ids (side_arguments s) below)
    ids (omega arith) (omega arith) (any_marked before_each (λ k. refl) (side_unfolds file s at ids).nodes) in
    record {
      nodes = named_numbered ids (side_unfolds file s at ids).nodes order.nodes;
      next = order.next;
      got = low_value (side_unfolds file s at ids).next (side_unfolds file s at ids).got order.got;
    }

-- A name has one node at most, and a call one or two beside those of its arguments.
use Rattle.std.proofs.Common.{ℕ, ◌+◌, List, length, nat_eq, Option, Some, None, arith}
use Rattle.pyd_value.specs.declared.fault.Fault.TheVariants.{Raised}
use Rattle.pyd_value.specs.declared.fault.Kind.TheVariants.{NameError, TypeError}
use Rattle.pyd_tree.specs.declared.file.File.{File}
use Rattle.pyd_tree.specs.declared.file.Func.{Func}
use Rattle.pyd_names.specs.Binding.{function, locals}
use Rattle.pyd_names.specs.Resolution.{Resolution}
use Rattle.pyd_names.specs.Resolution as resolution
use Rattle.pyd_meaning.specs.Setting.{unbound_local}
use Rattle.pyd_ir.specs.declared.arg.Arg.{Arg}
use Rattle.pyd_ir.specs.declared.arg.Arg.TheVariants.{Known, From, Slot, Unbound}
use Rattle.pyd_ir.specs.declared.code.OpCode.{OpCode}
use Rattle.pyd_ir.specs.declared.work.Side.{Side}
use Rattle.pyd_ir.specs.declared.work.Work.TheVariants.{Op, Pick, Read}
use Rattle.pyd_translate.specs.Making.{Making, Context, stop_by, emit_value, ◌>>>◌}
use Rattle.pyd_translate.specs.Slots.{arg_of, operand, operand_as}
use Rattle.pyd_translate.specs.Expressions.{operator, choose, builtin_work, function_work, function_call, value_call, resolution_at, name_operand, call_as}
use Rattle.pyd_translate.proofs.FewNodes.{Few, then_few, pure_few, value_few, stop_few, if_few}

-- an operator's node
pub operator_few : (op : OpCode) (args : List Arg) (at : Context) → Few 1 0 (operator op args at)
operator_few op args at = value_few at (Op op args)

-- a choice's node
pub choose_few : (at : Context) (test : Arg) (first second : Side)
    → Few 1 0 (choose at test first second)
choose_few at test first second = value_few at (Pick test first second at.env)

-- a call of a function
function_few : (f : Option Func) (k : ℕ) (at : Context) (args : List Arg)
    → Few 1 0 (function_call f k at args)
function_few None k at args = stop_few Arg at (Raised NameError at.line)
function_few (Some f) k at args =
    if_few 1 0 (nat_eq (length args) (length f.params)) (emit_value at (function_work f k args))
    (stop_by at TypeError) (value_few at (function_work f k args))
    (stop_few Arg at (Raised TypeError at.line))

-- a local as an operand
operand_few : (at : Context) (a : Arg) → Few 1 0 (operand at a)
operand_few at (Known v) = pure_few 1 0 (Known v) (omega arith)
operand_few at (From r) = pure_few 1 0 (From r) (omega arith)
operand_few at (Slot r) = value_few at (Read (Slot r) (unbound_local at.routine))
operand_few at Unbound = stop_few Arg at (Raised (unbound_local at.routine) at.line)

-- a name of each kind as an operand
operand_as_few : (r : Resolution) (at : Context) (a : Arg) → Few 1 0 (operand_as r at a)
operand_as_few resolution.Local at a = operand_few at a
operand_as_few (resolution.Constant v) at a = pure_few 1 0 (Known v) (omega arith)
operand_as_few (resolution.Function k) at a = stop_few Arg at (Raised NameError at.line)
operand_as_few (resolution.Builtin b) at a = stop_few Arg at (Raised NameError at.line)
operand_as_few resolution.Imported at a = stop_few Arg at (Raised NameError at.line)
operand_as_few resolution.Variable at a = stop_few Arg at (Raised NameError at.line)
operand_as_few resolution.Unbound at a = stop_few Arg at (Raised NameError at.line)

-- a call of a value, whose callee has a node at most
value_call_few : (at : Context) (callee : Making Arg) (args : Making (List Arg)) (n : ℕ)
    → Few 1 0 callee → Few n 0 args → Few (2 + n) 0 (value_call at callee args)
value_call_few at callee args n p q =
    then_few 1 0 (n + 1) 0 (2 + n) 0 callee (λ v. args >>> (λ vs. stop_by at TypeError)) p
    (λ v. then_few n 0 1 0 (n + 1) 0 args (λ vs. stop_by at TypeError) q
    (λ vs. stop_few Arg at (Raised TypeError at.line)) (omega arith) (omega arith))
    (omega arith) (omega arith)

module _ (file : File) where
  -- a name
  pub name_few : (name : List ℕ) (at : Context) → Few 1 0 (name_operand file name at)
  name_few name at =
      operand_as_few (resolution_at file at name) at (arg_of (locals file at.routine) at.env name)

  -- a call of a name of each kind, whose callee has a node at most
  pub call_few : (r : Resolution) (at : Context) (callee : Making Arg) (args : Making (List Arg))
      (n : ℕ) → Few 1 0 callee → Few n 0 args → Few (2 + n) 0 (call_as file r at callee args)
  call_few resolution.Local at callee args n p q = value_call_few at callee args n p q
  call_few (resolution.Constant v) at callee args n p q = value_call_few at callee args n p q
  call_few (resolution.Function k) at callee args n p q =
      then_few n 0 1 0 (2 + n) 0 args (function_call (function file k) k at) q
      (λ vs. function_few (function file k) k at vs) (omega arith) (omega arith)
  call_few (resolution.Builtin b) at callee args n p q =
      then_few n 0 1 0 (2 + n) 0 args (λ vs. emit_value at (builtin_work b vs)) q
      (λ vs. value_few at (builtin_work b vs)) (omega arith) (omega arith)
  call_few resolution.Imported at callee args n p q = value_call_few at callee args n p q
  call_few resolution.Variable at callee args n p q = value_call_few at callee args n p q
  call_few resolution.Unbound at callee args n p q = value_call_few at callee args n p q

-- What the small script's nodes are, and what they do.
use Rattle.std.proofs.Common.{◌≡◌, pos, [], ◌∷◌, Some, refl, ap, sym, ◌∙◌}
use Rattle.std.specs.Prelude.{Ok, codes}
use Rattle.std.specs.Fmt.{digits}
use Rattle.pyd_value.specs.declared.value.Value.{Int}
use Rattle.pyd_value.specs.declared.value.Value.TheVariants as value
use Rattle.pyd_value.specs.declared.operator.Builtin.TheVariants as named
use Rattle.pyd_value.specs.declared.operator.BinOp.TheVariants.{Add}
use Rattle.pyd_tree.specs.declared.file.File.{File}
use Rattle.pyd_tree.specs.declared.expression.Expr.{Expr}
use Rattle.pyd_tree.specs.declared.expression.Expr.TheVariants as expression
use Rattle.pyd_tree.specs.declared.statement.What.{out-What}
use Rattle.pyd_tree.specs.declared.statement.What.TheOpen.{What-F}
use Rattle.pyd_tree.specs.declared.statement.What.TheViews.{out-roll-What}
use Rattle.pyd_tree.specs.declared.statement.What.TheVariants as what
use Rattle.pyd_names.specs.Binding.{module_variables}
use Rattle.pyd_names.specs.Resolution.{resolved}
use Rattle.pyd_names.specs.Resolution as resolution
use Rattle.pyd_meaning.specs.Evaluation.{settled, prints}
use Rattle.pyd_meaning.specs.Calls.{builtin_called}
use Rattle.pyd_meaning.specs.Rows.{IsScript, statement}
use Rattle.pyd_meaning.proofs.Rules.{lines, values}
use Rattle.pyd_scope.specs.Numbering.{start}
use Rattle.pyd_ir.specs.declared.code.OpCode.TheVariants.{Binary}
use Rattle.pyd_ir.specs.declared.arg.Arg.{Arg}
use Rattle.pyd_ir.specs.declared.arg.Arg.TheVariants.{Known, From}
use Rattle.pyd_ir.specs.declared.work.Work.TheVariants.{Op, Print}
use Rattle.pyd_ir.specs.Operation.{operation}
use Rattle.pyd_translate.specs.Making.{Piece, Context, node_of, port, pure, emit, ◌>>>◌}
use Rattle.pyd_translate.specs.Expressions.{each, chained, unfolded}
use Rattle.pyd_translate.specs.Slots.{unbound_slots}
use Rattle.pyd_translate.specs.Statements.{Normal, done, context, may_leave, or_stopped, then_done, what_unfolds, stmts_unfold}
use Rattle.pyd_translate.specs.Rests.{rest_unfolds}
use Rattle.pyd_translate.proofs.Constructs.{literal, chain, call}
use Rattle.pyd_runs.specs.Rows.{sum, small, known, first_sum, second_sum, small_print}

-- the value of a sum
pub three : operation (Binary Add) (Int (pos 1) ∷ Int (pos 2) ∷ []) 1 ≡ Ok (Int (pos 3))
three = simp (values) refl

pub seven : operation (Binary Add) (Int (pos 3) ∷ Int (pos 4) ∷ []) 1 ≡ Ok (Int (pos 7))
seven = simp (values) refl

-- what the print does
pub printed : builtin_called named.Print (Int (pos 3) ∷ Int (pos 7) ∷ []) 1
    ≡ record { lines = codes "3 7" ∷ []; result = Ok value.None; steps = 0 }
unfolding settled prints digits
printed = simp (lines, values) refl

-- an expression that is a statement
statement_is : (e : Expr) → out-What (what.Expr e) ≡ What-F.Expr e
statement_is e = ap out-What (sym (what.rolls-Expr e)) ∙ out-roll-What _

-- the call that the statement is
abbrev pub small_call : Expr
small_call = expression.Call (codes "print") (sum 1 2 ∷ sum 3 4 ∷ [])

-- its nodes, by what the name stands for
call_nodes : (file : File) (at : Context) → at.line ≡ 1 → at.depth ≡ 0 → at.routine ≡ 0
    → resolved file 0 (codes "print") ≡ resolution.Builtin named.Print
    → (unfolded file small_call).build 0 at 0
    ≡ record {
      nodes = node_of at 0 (Op (Binary Add) (known 1 ∷ known 2 ∷ []))
          ∷ node_of at 1 (Op (Binary Add) (known 3 ∷ known 4 ∷ []))
          ∷ node_of at 2 (Print (From (port 0 0) ∷ From (port 1 0) ∷ [])) ∷ [];
      got = Some (From (port 2 0));
      next = 3;
    }
unfolding ◌>>>◌ pure emit each chained
call_nodes file at line depth routine print =
    simp (call, chain, literal, routine, print) refl

-- its piece
pub small_piece : (file : File) → IsScript file small
    → stmts_unfold file 0 0 small.statements start [] (rest_unfolds file 0 0 [])
    (unbound_slots (module_variables file)) 0
    ≡ record {
      nodes = first_sum ∷ second_sum ∷ small_print ∷ [];
      got = Some (done (unbound_slots (module_variables file)) (Known value.None));
      next = 3;
    }
unfolding pure then_done stmts_unfold rest_unfolds
small_piece file is =
    let env = unbound_slots (module_variables file) in
    let at = context 0 0 1 env in
    ap (λ w. what_unfolds file w (may_leave (statement 1 (what.Expr small_call))) start at
    (record {
      rest = [];
      leave = rest_unfolds file 0 0 [];
      next = rest_unfolds file 0 0 [] Normal;
    }) 0) (statement_is small_call)
    ∙ ap (λ (u : Piece Arg).
    or_stopped env u.nodes u.got u.next (λ a. rest_unfolds file 0 0 [] Normal env))
    (call_nodes file at refl refl refl (is.names_are 0 (codes "print")))

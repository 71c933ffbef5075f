use Rattle.std.proofs.Common.{sym, ◌∙◌, refl, arith}
use Rattle.pyd_names.specs.Binding.{is_among}
use Rattle.pyd_eval.specs.Frames.{slot_names}
use Rattle.pyd_eval.proofs.Scripts.{bound-in-one, statement-left, statement-ends, statement-faults, statements-over}
use Rattle.pyd_eval.proofs.script.exec_all.Goals as goal

pub exec_stmt-requires : goal.exec_stmt-requires
exec_stmt-requires c = record {
  enough = omega (arith, c.requires.enough, c.loop-stmt.auto.slots);
  named = bound-in-one (is_among (slot_names c.args.on.now)) c.args.stmts.now _ c.stmt-item.result c.loop-stmt-test.true c.stmt-item.is c.requires.named;
}

pub returns-in-Ok-Break : goal.returns-in-Ok-Break
returns-in-Ok-Break c =
    sym c.loop-stmt.invariant ∙ statement-ends _ c.args.stmts.now _ c.stmt-item.result c.loop-stmt-test.true c.stmt-item.is _ _ _ _ _ (λ next. refl)
    (rw (c.in-Ok-Break.is, c.in-Ok-Break.field-0-is) at c.in_ok-exec_stmt.ensures)

pub returns-in-Ok-Continue : goal.returns-in-Ok-Continue
returns-in-Ok-Continue c =
    sym c.loop-stmt.invariant ∙ statement-ends _ c.args.stmts.now _ c.stmt-item.result c.loop-stmt-test.true c.stmt-item.is _ _ _ _ _ (λ next. refl)
    (rw (c.in-Ok-Continue.is, c.in-Ok-Continue.field-0-is) at c.in_ok-exec_stmt.ensures)

pub returns-in-Ok-Return : goal.returns-in-Ok-Return
returns-in-Ok-Return c =
    sym c.loop-stmt.invariant ∙ statement-ends _ c.args.stmts.now _ c.stmt-item.result c.loop-stmt-test.true c.stmt-item.is _ _ _ _ _ (λ next. refl)
    (rw (c.in-Ok-Return.is, c.in-Ok-Return.field-0-is) at c.in_ok-exec_stmt.ensures)

pub returns-in-Err : goal.returns-in-Err
returns-in-Err c =
    sym c.loop-stmt.invariant ∙ statement-faults _ c.args.stmts.now _ c.stmt-item.result c.loop-stmt-test.true c.stmt-item.is _ _ _ _
    (rw c.in-Err.is at c.in_ok-exec_stmt.ensures)

pub loop-stmt-preserved : goal.loop-stmt-preserved
loop-stmt-preserved c =
    sym (statement-left _ c.args.stmts.now _ c.stmt-item.result c.loop-stmt-test.true c.stmt-item.is _ _ _ _ _
    (rw (c.in-Ok-Normal.is, c.in-Ok-Normal.field-0-is) at c.in_ok-exec_stmt.ensures)) ∙ c.loop-stmt.invariant

pub returns : goal.returns
returns c = sym c.loop-stmt.invariant ∙ statements-over _ c.args.stmts.now _ _ _ c.loop-stmt-test.false

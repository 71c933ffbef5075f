use Rattle.std.proofs.Common.{◌≡◌, map, drop}
use Rattle.std.specs.Borrow.{Bor}
use Rattle.pyd_tree.specs.declared.statement.Stmt.{Stmt}
use Rattle.pyd_meaning.specs.Completion.{in_turn}
use Rattle.pyd_meaning.specs.Outcome.{outcome}
use Rattle.pyd_meaning.specs.Statement.{action_of}
use Rattle.pyd_eval.specs.Frames.{names_of, setting}
use Rattle.pyd_eval.proofs.script.exec_all.Given as goal

abbrev pub invariant-loop-stmt : goal.invariant-loop-stmt
invariant-loop-stmt l =
    outcome l.out (in_turn (map (action_of (setting l.on)) (map (λ (s : Bor Stmt). s.now) (drop l.stmt-index l.stmts))) (names_of l.on l.slots))
    ≡ outcome l.initial.out (in_turn (map (action_of (setting l.on)) (map (λ (s : Bor Stmt). s.now) l.stmts)) (names_of l.on l.initial.slots))

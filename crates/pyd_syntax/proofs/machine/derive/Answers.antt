use Rattle.std.proofs.Common.{arith}
use Rattle.std.proofs.lemmas.List.{nil_from_length}
use Rattle.pyd_syntax.specs.Terminals.{terminals}
use Rattle.pyd_syntax.proofs.Ahead.{within, beyond}
use Rattle.pyd_syntax.proofs.Loop.{on_start, on_turn, on_less, on_stuck, on_done, on_much}
use Rattle.pyd_syntax.proofs.machine.derive.Goals as goal

pub loop-symbol-init : goal.loop-symbol-init
loop-symbol-init c = on_start (terminals c.args.tokens.now) _ _ _ c.new-stack.ensures.items c.in-Ok.ensures.items c.new-steps.ensures.items

pub loop-symbol-preserved : goal.loop-symbol-preserved
loop-symbol-preserved c =
    on_turn (terminals c.args.tokens.now) _ _ c.turn.new.stack.items c.in-Some.symbol _ c.turn.new.steps.items c.loop-symbol.at _ _
    c.in-Some.ensures.items c.loop-symbol.invariant c.in-Ok-Some.ensures c.in-Ok-Some.field-0-is

pub loop-symbol-smaller : goal.loop-symbol-smaller
loop-symbol-smaller c =
    on_less (terminals c.args.tokens.now) _ _ c.turn.new.stack.items c.in-Some.symbol c.loop-symbol.steps.items c.turn.new.steps.items c.loop-symbol.at _ _
    c.in-Some.ensures.items c.in-Ok-Some.ensures c.in-Ok-Some.field-0-is

pub returns-in-Ok-None : goal.returns-in-Ok-None
returns-in-Ok-None c =
    let stopped = on_stuck (terminals c.args.tokens.now) _ _ c.turn.new.stack.items c.in-Some.symbol _ c.turn.new.steps.items c.loop-symbol.at _ c.stop_at.result
    c.in-Some.ensures.items c.loop-symbol.invariant c.in-Ok-None.ensures c.in-Ok-None.field-0-is c.stop_at.ensures in
    record { ok = tt; none = stopped.none; hopeless = stopped.hopeless; unfinished = stopped.unfinished; ended = stopped.ended }

pub returns-then-at-tokens : goal.returns-then-at-tokens
returns-then-at-tokens c =
    let stopped = on_much (terminals c.args.tokens.now) c.loop-symbol.stack.items _ c.loop-symbol.at (nil_from_length _ (grind (arith, c.in_default.ensures.variant)))
    c.loop-symbol.invariant (within c.args.tokens.now c.loop-symbol.at c.if-at-tokens.true) in
    record { ok = tt; none = stopped.none; hopeless = stopped.hopeless; unfinished = tt; ended = tt }

pub returns-clause-ok : goal.returns-clause-ok
returns-clause-ok c =
    on_done (terminals c.args.tokens.now) c.loop-symbol.stack.items _ c.loop-symbol.at (nil_from_length _ (grind (arith, c.in_default.ensures.variant)))
    c.loop-symbol.invariant (beyond c.args.tokens.now c.loop-symbol.at c.if-at-tokens.false)

use Rattle.pyd_eval.proofs.Scripts.{full-slots, call-ran}
use Rattle.pyd_eval.proofs.script.run_call.Goals as goal

pub call_function-requires : goal.call_function-requires
call_function-requires c = full-slots c.in_ok-taken.taken.items c.args.args.now c.in_ok-taken.ensures

pub returns : goal.returns
returns c =
    call-ran c.args.program.now.file c.args.limits c.args.depth c.args.func c.args.args.now _ _ _ _
    c.requires.function c.requires.depth c.in_ok-taken.ensures c.new-lines.ensures c.in_ok-got.ensures c.outcome_of-outcome.ensures

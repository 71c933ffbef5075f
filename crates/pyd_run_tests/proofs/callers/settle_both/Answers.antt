use Rattle.pyd_run_tests.proofs.callers.settle_both.Goals as goal

pub returns : goal.returns
returns c = c.extensions_by_one_seat_are_one.ensures c.args.by _ _ _ c.in_ok-append.ensures.extends c.in_ok-append-2.ensures.extends

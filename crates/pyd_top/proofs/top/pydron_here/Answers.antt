use Rattle.pyd_top.proofs.Promises.{promises}
use Rattle.pyd_top.proofs.top.pydron_here.Goals as goal

pub returns-clause-run : goal.returns-clause-run
returns-clause-run g c =
    let made = c.conclude-conclusion.ensures in
    record {
      input = made.concludes.0;
      conclusion = c.conclude-conclusion.result;
      given = made.concludes.1;
      concludes = made.concludes.2;
      reports = c.end_with.ensures.reports;
      counts = (made.source_count, made.out_count, c.end_with.ensures.count);
    }

pub returns-clause-promises : goal.returns-clause-promises
returns-clause-promises g c = promises c.one_work.ensures _ _ _ _ _ (returns-clause-run g c)

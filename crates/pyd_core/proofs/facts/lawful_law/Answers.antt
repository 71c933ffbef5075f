use Rattle.pyd_core.proofs.Lawfulness.{lawful}
use Rattle.pyd_core.proofs.facts.lawful_law.Goals as goal

pub returns : goal.returns
returns c =
    lawful (record {
      bar = c.bar_law.ensures;
      desk = c.desk_law.ensures;
      journal = c.journal_law.ensures;
      left = c.left_law.ensures;
      run = c.run_law.ensures;
      step = c.step_law.ensures;
      ticket = c.ticket_law.ensures;
    })

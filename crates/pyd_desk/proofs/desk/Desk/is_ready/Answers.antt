use Rattle.std.proofs.Common.{◌≡◌, ◌∙◌, ◌&&◌, ◌||◌, true, ap, sym}
use Rattle.pyd_ir.specs.Arguments.{is_pure}
use Rattle.pyd_ir.specs.Inputs.{has_inputs}
use Rattle.pyd_desk.specs.Reading.{given_of}
use Rattle.pyd_desk.specs.Works.{has_job}
use Rattle.pyd_desk.proofs.Ported.{task_there}
use Rattle.pyd_desk.proofs.desk.Desk.is_ready.Goals as goal

pub returns-then-has_job : goal.returns-then-has_job
returns-then-has_job c =
    let given = given_of c.args.self.now in
    let w = c.args.node.now.work in
    let there : has_job w ≡ true = sym c.has_job.ensures ∙ c.if-has_job.true in
    c.may_be_done.ensures
    ∙ sym (ap (λ b. b && (has_inputs given w && (is_pure w || c.args.is_head))) there)
    ∙ sym (task_there given w c.args.is_head)

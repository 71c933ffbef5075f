use Rattle.std.proofs.Common.{◌≡◌, ◌&&◌, ◌||◌, cond, None, is_some, ap, sym, subst, ◌∙◌}
use Rattle.std.specs.Option.{option_copied}
use Rattle.pyd_ir.specs.Arguments.{is_pure}
use Rattle.pyd_ir.specs.Inputs.{has_inputs, task_of}
use Rattle.pyd_runs.specs.Records.{job_by, job_with, task_by}
use Rattle.pyd_desk.specs.Reading.{given_of}
use Rattle.pyd_core.proofs.Openings.{mapped_there}
use Rattle.pyd_core.proofs.wanting.is_ready.Goals as goal

pub returns-in-Some : goal.returns-in-Some
returns-in-Some c =
    let given = given_of c.args.desk.now in
    let n = c.in-Some.node.now in
    subst (λ o. c.is_ready.result ≡ is_some (job_by c.args.chain.now given 0 (option_copied o)))
    (sym c.in-Some.is)
    (c.is_ready.ensures
    ∙ ap (λ h. is_some (cond (has_inputs given n.work && (is_pure n.work || h))
    (task_of given n.work) None)) c.heads.ensures
    ∙ sym (mapped_there (job_with n 0) (task_by c.args.chain.now given n)))

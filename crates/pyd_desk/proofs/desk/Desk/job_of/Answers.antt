use Rattle.std.proofs.Common.{IfOk, ◌≡◌, ◌&&◌, ◌||◌, cond, None, option_map, sym, subst}
use Rattle.std.specs.Option.{option_copied}
use Rattle.pyd_ir.specs.Arguments.{is_pure}
use Rattle.pyd_ir.specs.Inputs.{has_inputs, task_of}
use Rattle.pyd_runs.specs.Records.{job_by, job_with}
use Rattle.pyd_desk.specs.Reading.{given_of}
use Rattle.pyd_desk.proofs.desk.Desk.job_of.Goals as goal

pub returns-in-Some : goal.returns-in-Some
returns-in-Some c =
    let given = given_of c.args.self.now in
    let n = c.in-Some.node.now in
    subst (λ o. IfOk c.job.result (λ job. job ≡ job_by c.args.chain.now given c.args.attempt (option_copied o)))
    (sym c.in-Some.is)
    (subst (λ b. IfOk c.job.result (λ job. job ≡ option_map (job_with n c.args.attempt)
    (cond (has_inputs given n.work && (is_pure n.work || b)) (task_of given n.work) None)))
    c.heads.ensures c.job.ensures)

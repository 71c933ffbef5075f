use Rattle.std.proofs.Common.{IfOk, ◌≡◌, ◌∙◌, ap, sym, subst}
use Rattle.std.specs.Option.{option_copied}
use Rattle.pyd_runs.specs.Records.{job_by, node_at}
use Rattle.pyd_desk.specs.Lines.{chain_of}
use Rattle.pyd_desk.specs.Reading.{given_of}
use Rattle.pyd_desk.proofs.Standing.{ready_is}
use Rattle.pyd_desk.proofs.desk.Desk.ready.Goals as goal

pub returns : goal.returns
returns c g is =
    let d = c.args.self.now in
    let line = c.args.line.now in
    subst (λ x. IfOk c.job_of.result (λ job. job ≡ x))
    (ap (λ xs. job_by xs (given_of d) c.args.attempt (option_copied c.find.result)) c.chain.ensures
    ∙ ap (job_by (chain_of line) (given_of d) c.args.attempt)
    (c.find.ensures ∙ ap (λ xs. node_at xs c.args.number) c.deref.ensures.value)
    ∙ sym (ready_is line d g c.args.number c.args.attempt is))
    c.job_of.ensures

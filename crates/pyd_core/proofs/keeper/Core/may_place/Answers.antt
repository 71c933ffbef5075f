use Rattle.std.proofs.Common.{is_some, ap, ◌∙◌}
use Rattle.std.specs.Option.{option_copied}
use Rattle.pyd_runs.specs.Records.{job_by, node_at}
use Rattle.pyd_desk.specs.Lines.{chain_of}
use Rattle.pyd_desk.specs.Reading.{given_of}
use Rattle.pyd_core.proofs.Openings.{wanted_place}
use Rattle.pyd_core.proofs.keeper.Core.may_place.Goals as goal

pub returns : goal.returns
returns c =
    let d = c.args.self.now.desk in
    let line = c.args.self.now.line in
    c.is_ready.ensures
    ∙ ap (λ chain. is_some (job_by chain (given_of d) 0 (option_copied c.find.result)))
    c.chain.ensures
    ∙ ap (λ n. is_some (job_by (chain_of line) (given_of d) 0 n))
    (c.find.ensures ∙ ap (λ nodes. node_at nodes c.args.node) c.as_slice.ensures.value)
    ∙ wanted_place c.run_law.ensures c.args.self.now c.requires.core c.args.node c.requires.wanted

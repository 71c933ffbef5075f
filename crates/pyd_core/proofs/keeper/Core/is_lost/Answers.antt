use Rattle.std.proofs.Common.{ap, sym, ◌∙◌}
use Rattle.pyd_desk.specs.Desks.{is_lost}
use Rattle.pyd_core.proofs.keeper.Core.is_lost.Goals as goal

pub returns : goal.returns
returns c =
    c.is_lost.ensures ∙ ap (λ xs. is_lost xs c.args.machine) c.as_slice.ensures.value
    ∙ sym (ap (λ f. f c.args.machine) c.requires.tied.state.lost)

use Rattle.std.proofs.Common.{◌↔◌, sym, subst}
use Rattle.std.specs.Option.{option_copied}
use Rattle.std.proofs.lemmas.Result.{IfOk-weaker}
use Rattle.pyd_effect.specs.Waiting.{HasToWait, WaitsFor}
use Rattle.pyd_effect.proofs.Waits.{prints_wait}
use Rattle.pyd_effect.proofs.settling.settle_head.Goals as goal

pub returns-in-Print-clause-waits : goal.returns-in-Print-clause-waits
returns-in-Print-clause-waits c =
    IfOk-weaker c.print.result _ _
    (λ s is.
    subst (λ w. WaitsFor c.args.node.now.id s ↔ HasToWait w c.args.inputs.now (option_copied c.args.own))
    (sym c.in-Print.is) (prints_wait c.args.node.now.id c.args.inputs.now _ s is))
    c.print.ensures

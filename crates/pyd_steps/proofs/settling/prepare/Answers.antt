use Rattle.std.proofs.Common.{MatchOption, ap, subst, ◌∙◌}
use Rattle.pyd_meaning.specs.Module.{bytes_of}
use Rattle.pyd_core.specs.Cores.{plan_of, state_of}
use Rattle.pyd_core.specs.Settling.{IsSettling, NoneSettles}
use Rattle.pyd_steps.proofs.HeadLines.{lines_are}
use Rattle.pyd_steps.proofs.settling.prepare.Goals as goal

pub returns-in-Ok : goal.returns-in-Ok
returns-in-Ok c =
    let d = c.args.core.now in
    let is : IsSettling (plan_of d) (state_of d) c.in-Some.settling
    = subst (λ o. MatchOption o (NoneSettles (state_of d))
    (IsSettling (plan_of d) (state_of d))) c.in-Some.is c.in_ok-settling.ensures in
    record {
      settles = is;
      bytes = c.in-Ok.ensures ∙ ap bytes_of c.as_slice.ensures;
      lines = lines_are (plan_of d) (state_of d) c.in-Some.settling is;
    }

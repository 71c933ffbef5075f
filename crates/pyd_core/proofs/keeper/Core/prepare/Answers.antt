use Rattle.std.proofs.Common.{MatchOption, sym, subst}
use Rattle.std.proofs.lemmas.Result.{IfOk-weaker}
use Rattle.pyd_core.specs.Cores.{plan_of, state_of}
use Rattle.pyd_core.specs.Settling.{IsSettling, NoneSettles}
use Rattle.pyd_core.proofs.Prepared.{goes_on_there, settles}
use Rattle.pyd_core.proofs.keeper.Core.prepare.Goals as goal

pub head-requires : goal.head-requires
head-requires c =
    let d = c.args.self.now in
    let core = c.requires.core in
    goes_on_there (plan_of d) (state_of d) d.line d.desk
    (c.run_law.ensures (plan_of d) d.log.journal.items core.runnable core.legal)
    c.requires.goes_on core.tied.state

pub returns : goal.returns
returns c =
    let d = c.args.self.now in
    let core = c.requires.core in
    IfOk-weaker c.prepare_head.result _ _
    (λ found is. subst (λ x. MatchOption x (NoneSettles (state_of d))
    (IsSettling (plan_of d) (state_of d))) (sym is)
    (settles c.head_law.ensures (plan_of d) (state_of d) d.line d.desk c.head.result.now (record {
      sound = c.run_law.ensures (plan_of d) d.log.journal.items core.runnable core.legal;
      goes_on = c.requires.goes_on;
      state = core.tied.state;
      chain = c.head.ensures;
    })))
    c.prepare_head.ensures

use Rattle.std.proofs.Common.{◌≡◌, ◌≤◌, ◌^◌, Contains, length, true, ap, sym, subst, ◌∙◌}
use Rattle.pyd_board.specs.Placing as placing
use Rattle.pyd_runs.specs.Records.{node_at}
use Rattle.pyd_steps.specs.Machines.{callee_at}
use Rattle.pyd_steps.proofs.Alive.{callee_there, few, lives, some_lives, those_alive}
use Rattle.pyd_steps.proofs.Asking.{chooses}
use Rattle.pyd_steps.proofs.placers.choose.Goals as goal

pub chosen-requires : goal.chosen-requires
chosen-requires g c =
    let core = c.args.core.now in
    record {
      some = subst (λ xs. Contains xs true) (sym c.as_slice-2.ensures.value)
          (some_lives core c.requires.core c.run_law.ensures);
      few = subst (λ xs. length xs ≤ 2 ^ 32) (sym c.as_slice-2.ensures.value)
          (few core c.requires.core);
    }

pub returns : goal.returns
returns g c = record {
  lives = lives c.args.core.now c.requires.core c.chosen.result
      (subst (λ xs. placing.lives xs c.chosen.result ≡ true) c.as_slice-2.ensures.value
      c.chosen.ensures.lives);
  asks = chooses _ _ c.as_slice-2.result.now c.args.node c.callee-func.result c.chosen.result _ _
      (c.as_slice-2.ensures.value ∙ those_alive c.args.core.now c.requires.core)
      (c.callee-func.ensures ∙ ap callee_at c.find.ensures
      ∙ ap (λ ns. callee_at (node_at ns c.args.node)) c.as_slice.ensures.value
      ∙ callee_there c.args.core.now c.requires.core c.args.node)
      c.chosen.ensures.asks;
}

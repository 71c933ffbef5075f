use Rattle.std.proofs.Common.{◌≡◌, ◌<◌, true, arith, subst}
use Rattle.std.proofs.lemmas.List.Elements.{All-weaker}
use Rattle.pyd_board.specs.declared.event.Event.{Event}
use Rattle.pyd_boards.specs.Calls.{IsWithin, is_loss, number_of}
use Rattle.pyd_cluster.specs.declared.known.Known.{Known}
use Rattle.pyd_cluster.proofs.Goings.{told}
use Rattle.pyd_cluster.proofs.Within.{few_losses}
use Rattle.pyd_cluster.specs.Keeping.{faults_of}
use Rattle.pyd_cluster.proofs.keeper.Keeper.events.Goals as goal

pub returns-clause-within : goal.returns-clause-within
returns-clause-within g c =
    let i = c.self.inside in
    let core = c.self.invariant.0 in
    let few = few_losses c.loss_law.ensures _ i.core.log.journal.items core.runnable core.legal in
    let within : IsWithin (told i.core (faults_of i.fault) i.halt) = record {
      events = (let least = i.core.log.few in
          let all = i.core.log.journal.ok in
          let len = all.0 in
          let cap = all.1 in
          omega (arith, least, len, cap));
      losses = (let count = few.count in
          let spared = core.runnable.some_spared in
          let most = core.few.machines in
          omega (arith, count, spared, most));
      machines = All-weaker
          (λ (e : Event). is_loss e.act ≡ true → number_of e.act < i.core.setup.machines)
          (λ (e : Event). is_loss e.act ≡ true → number_of e.act < 16)
          (λ e low is. (let below = low is in
          let most = core.few.machines in
          omega (arith, below, most))) i.core.log.journal.items few.machines;
      different = few.different;
    } in
    subst (λ (k : Known). IsWithin k.history) c.self.view_is within

-- What always holds of a cluster holds before any event but the losses that are due.
use Rattle.std.proofs.Common.{◌≡◌, [], ◌++◌, append-nil, false, None, refl, ap, sym, subst, ◌∙◌}
use Rattle.std.specs.List.{All}
use Rattle.pyd_runs.specs.Effects.{first_state}
use Rattle.pyd_runs.specs.Facts.{IsDeskAct}
use Rattle.pyd_core.specs.declared.keeper.Core.{Core}
use Rattle.pyd_core.specs.Cores.{IsCore, plan_of, state_of}
use Rattle.pyd_core.specs.Losing.{losses_by}
use Rattle.pyd_core.specs.Steps.{ComesBy}
use Rattle.pyd_runs.specs.Replay.{after, replay}
use Rattle.pyd_meaning.specs.Module.{bytes_of}
use Rattle.pyd_steps.specs.declared.told.Told.{Told}
use Rattle.pyd_steps.specs.Sinks.{Puts}
use Rattle.pyd_cluster.specs.Keeping.{IsKept, known_by}
use Rattle.pyd_cluster.proofs.Alike.{alike_after}
use Rattle.pyd_cluster.proofs.Goings.{all_losses}
use Rattle.pyd_cluster.proofs.Puttings.{bytes_none, puts_none}

-- the core and its sink, of which the same is told as before
pub first_kept : (c : Core) (sink : Told) → IsCore c
    → c.log.journal.items ≡ losses_by 0 (first_state (plan_of c))
    → IsCore c × IsKept false (known_by c false None sink sink)
first_kept c sink core begins =
    let first = first_state (plan_of c) in
    let acts : All (λ e. IsDeskAct e.act) c.log.journal.items
    = subst (All (λ e. IsDeskAct e.act)) (sym begins)
    (all_losses (λ e. IsDeskAct e.act) 0 (λ n machine. tt) first) in
    let out : (state_of c).graph.out ≡ []
    = (alike_after (plan_of c) first c.log.journal.items acts).out in (
      core,
      record {
        runnable = core.runnable;
        legal = core.legal;
        begun = record { more = []; begins = begins ∙ sym (append-nil (losses_by 0 first)) };
        faults = refl;
        opening = refl;
        sink = record {
          puts = subst (λ bytes. Puts sink bytes sink) (sym (ap bytes_of out ∙ bytes_none))
              (puts_none sink);
          not_halted_by_it = λ is. cc (is);
        };
        goes_on = λ is. absurd (cc (is));
      },
    )

-- behind no event those losses alone come
pub first_come : (c d : Core) → c.log.journal.items ≡ [] → ComesBy c d (losses_by 0 (state_of c))
    → d.log.journal.items ≡ losses_by 0 (first_state (plan_of c))
unfolding after
first_come c d none come =
    come.journal ∙ ap (λ js. js ++ losses_by 0 (replay (plan_of c) js)) none

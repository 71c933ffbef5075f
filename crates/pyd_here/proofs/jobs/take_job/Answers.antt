use Rattle.std.proofs.Common.{◌≡◌, ◌∷◌, ◌++◌, suc, add-one, take, drop, Some, ap, sym, subst, ◌∙◌}
use Rattle.std.specs.List.{slice_get}
use Rattle.pyd_ir.specs.declared.job.Job.{Job}
use Rattle.pyd_here.specs.Jobs.{IsOf}
use Rattle.pyd_here.proofs.Cut.{cut_at, read_at}
use Rattle.pyd_here.proofs.jobs.take_job.Goals as goal

pub returns : goal.returns
returns c =
    let jobs = c.args.jobs.now.items in
    let at = c.place_of-place.result in
    let found = c.place_of-place.ensures in
    let there : slice_get jobs at ≡ Some found.job
    = subst (λ js. slice_get js at ≡ Some found.job) c.as_slice.ensures.value found.there in
    let same : c.remove.result ≡ found.job
    = c.remove.ensures.value ∙ read_at jobs at found.job c.remove.result there in
    record {
      before = take at jobs;
      behind = drop (suc at) jobs;
      was = cut_at jobs at found.job there
          ∙ ap (λ (j : Job). take at jobs ++ j ∷ drop (suc at) jobs) (sym same);
      left = c.remove.ensures.by_index.2
          ∙ ap (λ n. take at jobs ++ drop n jobs) (add-one at);
      is_of = subst (IsOf c.args.node c.args.attempt) (sym same) found.is_of;
    }

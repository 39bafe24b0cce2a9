use Rattle.std.proofs.Common.{sym, ◌∙◌}
use Rattle.std.specs.List.{AllZip}
use Rattle.uses.specs.Workers.{IsWorkOf}
use Rattle.uses.proofs.WorkerLemmas.{both_ok, zip_at}
use Rattle.uses.proofs.workers.run.Goals as goal

pub returns : goal.returns
returns g c = both_ok _ _ (λ works. AllZip (IsWorkOf c.args.set.now) c.args.jobs.items works.items) c.map_vec.result c.map_vec.ensures.len c.map_vec.ensures.each
    (λ works long each. zip_at (IsWorkOf c.args.set.now) c.args.jobs.items works.items (sym works.ok.0 ∙ long ∙ c.args.jobs.ok.0)
    (λ k job work below. let gives = (each k work below).1 in rw (gives.job_is job) gives.call.met))

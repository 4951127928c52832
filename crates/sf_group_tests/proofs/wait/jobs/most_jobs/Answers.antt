use Rattle.std.proofs.Common.{◌≡◌, ◌++◌, ◌∷◌, [], List, All, arith, rules, subst, sym}
use Rattle.std.proofs.lemmas.List.Elements.{All-push}
use Rattle.sf_wait.specs.Jobs.{JobValue}
use Rattle.sf_group_tests.proofs.wait.jobs.most_jobs.Goals as goal

pub loop-index-preserved : goal.loop-index-preserved
loop-index-preserved g c = record {
  list = search rules;
  jobs = subst (λ (xs : List (JobValue _ _)). All (λ (j : JobValue _ _). j.flight.group ≡ c.args.group.now) xs) (sym c.push_reserved.ensures.items)
      (All-push (λ (j : JobValue _ _). j.flight.group ≡ c.args.group.now) c.loop-index.jobs.items c.next_job.result c.loop-index.invariant.jobs (search rules));
  count = search rules;
  room = search rules;
}

-- what does a job that was started
use Rattle.std.specs.Prelude.{◌≡◌}
use Rattle.sf_group_rows.specs.Fitting.{FitOf}
use Rattle.sf_wait.specs.declared.workers.Hand.{Hand}
use Rattle.sf_wait.specs.declared.workers.Hand.TheVariants.{Works, Stays}
use Rattle.sf_wait.specs.Jobs.{JobValue}
use Rattle.sf_wait.specs.Served.{HasServed}

module _ {V W : Type 0} where
  -- the worker keeps the promise to do this job, or the job has ended so
  abbrev pub HasHand : FitOf V → (W → V → Type 0) → JobValue V W → Hand V W → Type 0
  HasHand fits answers j (Works h) = h.promise.0.value ≡ j
  HasHand fits answers j (Stays e) = HasServed fits answers j e.0

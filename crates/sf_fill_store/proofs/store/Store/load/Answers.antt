use Rattle.std.proofs.Common.{refl}
use Rattle.sf_fill_store.proofs.store.Store.load.Goals as goal

pub returns-in-Ok-clause-source : goal.returns-in-Ok-clause-source
returns-in-Ok-clause-source g c = record {
  outcome = c.run-loaded.result;
  after = c.run-loaded.new.self;
  asked = rw (← c.call-call.ensures) c.run-loaded.ensures.gives;
  value = rw (← c.call-call.ensures, c.in-Ok.is) c.of_run.ensures;
  counts = refl;
  drawn = rw c.in-Ok.is c.cache_for-keep.ensures.draws;
}

pub returns-in-Ok-clause-into : goal.returns-in-Ok-clause-into
returns-in-Ok-clause-into g c = record {
  outcome = c.run-loaded.result;
  after = c.run-loaded.new.self;
  asked = rw (← c.call-call.ensures) c.run-loaded.ensures.gives;
  goes = rw c.in-Ok.is c.cache_for-keep.ensures.goes;
}

pub returns-in-Err-clause-source : goal.returns-in-Err-clause-source
returns-in-Err-clause-source g c = record {
  outcome = c.run-loaded.result;
  after = c.run-loaded.new.self;
  asked = rw (← c.call-call.ensures) c.run-loaded.ensures.gives;
  value = rw (← c.call-call.ensures, c.in-Err.is) c.of_run-in-Err.ensures;
  counts = refl;
  drawn = rw c.in-Err.is refl;
}

pub returns-in-Err-clause-into : goal.returns-in-Err-clause-into
returns-in-Err-clause-into g c = record {
  outcome = c.run-loaded.result;
  after = c.run-loaded.new.self;
  asked = rw (← c.call-call.ensures) c.run-loaded.ensures.gives;
  goes = rw c.in-Err.is (refl, refl);
}

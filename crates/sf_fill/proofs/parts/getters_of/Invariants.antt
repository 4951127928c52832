use Rattle.std.specs.Prelude.{◌≡◌, ◌+◌, ◌≤◌, ◌++◌, vec_len, vec_capacity, reverse, All}
use Rattle.sf_fill_keys.specs.Spaces.{AreDesksOf}
use Rattle.sf_fill_counters.specs.Ledgers.{nothing_counted}
use Rattle.sf_fill_store.specs.Logs.{empty_log}
use Rattle.sf_fill.specs.Made.{AreOfGroup, new_getters}
use Rattle.sf_fill.proofs.parts.getters_of.Given as goal

abbrev pub invariant-deal : goal.invariant-deal
invariant-deal g l = record {
  callers : (vec_len l.callers ≡ vec_len l.desks) × AreOfGroup g.N.Naming.group l.callers.items;
  desks : AreDesksOf g.N.Naming.space l.desks.items;
  loaders : vec_len l.loaders ≡ vec_len l.desks;
  logs : (vec_len l.logs ≡ vec_len l.desks) × All (λ log. log ≡ empty_log l.fn.sizes.log) l.logs.items;
  room : vec_len l.getters + vec_len l.desks ≤ vec_capacity l.getters;
  count : vec_len l.getters + vec_len l.desks ≡ g.N.Naming.getters;
  parts : (l.all.parts ≡ vec_len l.desks) × (l.all.counted ≡ nothing_counted);
  made : new_getters l.fn.sizes.log l.desks.items l.callers.items l.loaders.items ++ reverse l.getters.items ≡ new_getters l.fn.sizes.log l.initial.desks.items l.initial.callers.items l.initial.loaders.items;
}

abbrev pub decreases-deal : goal.decreases-deal
decreases-deal g l = vec_len l.desks

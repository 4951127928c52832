use Rattle.std.specs.Prelude.{◌≡◌, ◌+◌, ◌≤◌, All, vec_len, vec_capacity}
use Rattle.sf_bench.proofs.keys.doers.Given as goal

abbrev pub invariant-hand : goal.invariant-hand
invariant-hand l = record {
  own : All (λ c. c.group ≡ l.group) l.callers.items;
  room : vec_len l.workers + vec_len l.callers ≤ vec_capacity l.workers;
}

abbrev pub decreases-hand : goal.decreases-hand
decreases-hand l = vec_len l.callers

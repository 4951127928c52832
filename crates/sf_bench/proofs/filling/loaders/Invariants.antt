use Rattle.std.specs.Prelude.{◌≡◌, ◌≤◌, vec_len, vec_capacity}
use Rattle.sf_bench.proofs.filling.loaders.Given as goal

abbrev pub invariant-loop-getter : goal.invariant-loop-getter
invariant-loop-getter l = (vec_len l.sets ≡ l.getter) × (l.getters ≤ vec_capacity l.sets)

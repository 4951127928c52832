use Rattle.std.proofs.Common.{◌≡◌, ◌≤◌, ◌+◌, ℕ}
use Rattle.sf_steps_laws.specs.World.{count}
use Rattle.sf_steps.specs.Running.{world_of}
use Rattle.sf_steps.proofs.world.World.joiners_from.Given as goal

abbrev pub invariant-loop-seen : goal.invariant-loop-seen
invariant-loop-seen g l = record {
  left : ℕ;
  parts : l.seen + left ≡ l.self.callers;
  number : l.joiners + count l.next left (world_of l.self).nexts ≡ count l.fn.top l.self.callers (world_of l.self).nexts;
  few : l.joiners ≤ l.seen;
}

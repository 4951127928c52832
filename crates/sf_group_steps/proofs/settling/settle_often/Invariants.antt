use Rattle.std.proofs.Common.{◌≡◌}
use Rattle.sf_group_steps.specs.Settles.{Fails}
use Rattle.sf_group_steps.proofs.settling.settle_often.Given as goal

abbrev pub invariant-loop-failed : goal.invariant-loop-failed
invariant-loop-failed g l = (l.seat.table_id ≡ l.initial.seat.table_id) × (l.seat.me.1 ≡ l.initial.seat.me.1) × Fails l.actor.sizes l.actor.number l.actor.place l.generation l.failed l.own l.value l.initial.seat.me.0 l.seat.me.0

use Rattle.std.proofs.Common.{◌≡◌, []}
use Rattle.sf_steps_laws.specs.declared.operation.SettleStep.TheVariants as settle
use Rattle.sf_steps_laws.specs.declared.operation.Stage.TheVariants.{Settling}
use Rattle.sf_group_steps.specs.Stands.{Goes}
use Rattle.sf_group_steps.proofs.counting.count_joiners.Given as goal

abbrev pub invariant-loop-joiners : goal.invariant-loop-joiners
invariant-loop-joiners g l = record {
  own : l.seat.table_id ≡ l.initial.seat.table_id;
  cells : l.seat.me.1 ≡ l.initial.seat.me.1;
  goes : Goes l.actor.sizes l.actor.number l.initial.seat.me.0 l.seat.me.0 (Settling l.actor.place l.generation l.own l.value (settle.Count l.joiners l.member l.top)) [] 0;
}

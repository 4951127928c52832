use Rattle.std.proofs.Common.{◌≡◌, []}
use Rattle.sf_steps_laws.specs.Turns.{at_members}
use Rattle.sf_steps_laws.specs.Events.{handed}
use Rattle.sf_group_steps.specs.Settles.{call_of}
use Rattle.sf_group_steps.specs.Stands.{Goes}
use Rattle.sf_group_steps.specs.Delivers.{Remains}
use Rattle.sf_group_steps.proofs.hands.hand_members.Given as goal

abbrev pub invariant-loop-served : goal.invariant-loop-served
invariant-loop-served g l = record {
  own : l.seat.table_id ≡ l.initial.seat.table_id;
  none : l.seat.me.1 ≡ [];
  value : l.value ≡ l.initial.value;
  goes : Goes l.actor.sizes l.actor.number l.initial.seat.me.0 l.seat.me.0 (at_members l.actor.place l.delivery.generation l.delivery.own l.initial.value l.delivery.joiners l.top) (handed l.actor.number (call_of l.actor.number l.delivery.generation) l.delivery.own l.top) 0;
  left : Remains l.actor l.delivery l.seat.me.0 l.top l.served;
}

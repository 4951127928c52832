use Rattle.std.proofs.Common.{◌≡◌}
use Rattle.sf_group_steps.specs.Attempts.{Trying}
use Rattle.sf_group_steps.specs.Exchanges.{HasExchanged}
use Rattle.sf_group_steps.proofs.asking.ask_often.Given as goal

abbrev pub invariant-loop-failed : goal.invariant-loop-failed
invariant-loop-failed g l = (l.seat.table_id ≡ l.initial.seat.table_id) × (l.seat.me.1 ≡ l.initial.seat.me.1) × Trying l.actor.sizes l.actor.number l.actor.place l.tries l.failed l.initial.seat.me.0 l.seat.me.0 × HasExchanged l.actor.sizes l.actor.number l.failed l.initial.seat.me.0 l.seat.me.0

use Rattle.std.proofs.Common.{◌≡◌}
use Rattle.sf_group_chans.specs.Attempts.{Trying}
use Rattle.sf_group_chans.specs.Exchanges.{HaveExchanged}
use Rattle.sf_group_chans.proofs.asking.ask_both.Given as goal

abbrev pub invariant-loop-failed : goal.invariant-loop-failed
invariant-loop-failed g l = (l.seat.table_id ≡ l.initial.seat.table_id) × (l.seat.me.1 ≡ l.initial.seat.me.1) × Trying l.askers l.tries l.failed l.initial.seat.me.0 l.seat.me.0 × HaveExchanged l.askers l.failed l.initial.seat.me.0 l.seat.me.0

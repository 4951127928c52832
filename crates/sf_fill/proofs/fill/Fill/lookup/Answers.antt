use Rattle.std.proofs.Common.{rules, Some, ap}
use Rattle.sf_fill_counters.specs.Ledgers.{Tally}
use Rattle.sf_fill_values.proofs.Looks.{looked_again, looked_on, looked_twice}
use Rattle.sf_fill.proofs.fill.Fill.lookup.Goals as goal

pub returns-in-None-clause-none : goal.returns-in-None-clause-none
returns-in-None-clause-none g c = (
  looked_again c.args.caller.now c.look.new.caller c.look_in_caches.new.caller (search rules) (looked_twice c.look.new.caller c.look_in_caches.new.caller (search rules)),
  ap (λ (t : Tally). t.counted) (c.look_in_caches.ensures.none (search rules)),
)

pub returns-in-Some-look_in_caches-clause-found : goal.returns-in-Some-look_in_caches-clause-found
returns-in-Some-look_in_caches-clause-found g c = looked_on _ c.args.caller.now c.look.new.caller c.look_in_caches.new.caller _ (Some c.in-Some-look_in_caches.found) (search rules) (search rules)

use Rattle.std.proofs.Common.{◌≡◌, ℕ}
use Rattle.sf_fill_keys.specs.Spots.{spot_place}
use Rattle.sf_fill_store.specs.Found.{HasMissed}
use Rattle.sf_fill_store.specs.Logs.{HasLogged}
use Rattle.sf_fill_store.proofs.store.Store.ask.Given as goal

-- each asking so far met another key's call
abbrev pub invariant-loop : goal.invariant-loop
invariant-loop g l =
    (goal.iterator-loop g).can_next l.iterator'
    × (goal.iterator-loop g).is_finite l.iterator'
    × (l.asking.group ≡ g.N.Naming.group)
    × (l.loaders ≡ l.initial.loaders)
    × (l.spot ≡ l.fn.spot)
    × ((n : ℕ) × HasMissed g.N.Naming.space l.key (spot_place l.fn.spot) n l.fn.caller l.asking)
    × (l.asking.number ≡ l.fn.caller.number)
    × HasLogged l.fn.caller.number l.fn.caller.seen l.asking.seen l.initial.log l.log
    × (l.tallies ≡ l.initial.tallies)

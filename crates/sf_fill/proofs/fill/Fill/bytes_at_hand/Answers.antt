use Rattle.std.proofs.Common.{rules, inr}
use Rattle.sf_fill_keys.specs.Spots.{spot_at}
use Rattle.sf_fill.proofs.Bytes.{brings_bytes}
use Rattle.sf_fill.proofs.Lookups.{hit_absent, hit_present}
use Rattle.sf_fill.proofs.fill.Fill.bytes_at_hand.Goals as goal

pub returns-in_default-find-clause-absent : goal.returns-in_default-find-clause-absent
returns-in_default-find-clause-absent g c =
    inr (hit_absent g.N.Naming.space c.args.key.now _ _ _ _ _ _ c.seat.view_is c.find.new.desk (search rules) 0 c.in-Free.caller c.in-Free.caller (search rules) _ (search rules) (search rules))

pub returns-in_default-found-clause-absent : goal.returns-in_default-found-clause-absent
returns-in_default-found-clause-absent g c =
    inr (hit_absent g.N.Naming.space c.args.key.now _ _ _ _ _ _ c.seat.view_is c.find.new.desk (search rules) c.number-place.result c.in-Free.caller c.lookup-found.new.caller (search rules) c.lookup-found.new.tallies.counted (search rules) (search rules))

pub returns-clause-bytes : goal.returns-clause-bytes
returns-clause-bytes g c =
    brings_bytes _ _ c.in-Some.hit g.N.Naming.space _ _ _ _ (search rules) (search rules)
    (λ answer shown. hit_present g.N.Naming.space c.args.key.now _ _ _ _ _ _ c.seat.view_is c.find.new.desk (search rules) c.number-place.result c.in-Free.caller c.lookup-found.new.caller (search rules)
    c.lookup-found.new.tallies.counted (spot_at c.args.key.now c.in-Ok.at) (search rules) (search rules) (search rules) c.in-Some.hit answer (search rules) shown)
    c.bytes.ensures.shown

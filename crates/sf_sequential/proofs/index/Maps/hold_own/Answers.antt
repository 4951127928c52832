use Rattle.sf_sequential.specs.NotedMaps.{noted_in}
use Rattle.sf_sequential.proofs.Noting.{held_noted, none_noted}
use Rattle.sf_sequential.proofs.index.Maps.hold_own.Goals as goal

pub returns-in_ok-hold-in-Some : goal.returns-in_ok-hold-in-Some
returns-in_ok-hold-in-Some g c = rw c.in-Some.is (held_noted (noted_in g.K.Ord.cmp c.args.self.now) (noted_in g.K.Ord.cmp c.hold.new.self) c.args.call c.in-Some.member c.in_ok-hold-in-Some.ensures)

pub returns-in-None : goal.returns-in-None
returns-in-None g c = rw c.in-None.is (none_noted (noted_in g.K.Ord.cmp c.args.self.now) c.args.call)

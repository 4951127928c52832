use Rattle.std.specs.Prelude.{◌≡◌, true}
use Rattle.sf_fill_store.specs.declared.standing.Standing.TheVariants.{Free}
use Rattle.sf_fill.specs.Fresh.{handed_by}
use Rattle.sf_fill_store.specs.Standings.{number_of, seen_of}
use Rattle.sf_fill_store.specs.Logs.{HasLogged}
use Rattle.sf_fill.specs.Purges.{HasForgottenFirst}
use Rattle.sf_fill.proofs.fill.Fill.forget_each.Given as goal

abbrev pub invariant-loop-index : goal.invariant-loop-index
invariant-loop-index g l = record {
  group : l.caller.group ≡ g.N.Naming.group;
  first : HasForgottenFirst l.index (handed_by l.fn.seat.standing true) l.fn.seat.standing (Free l.caller);
  logged : HasLogged (number_of l.fn.seat.standing) (seen_of l.fn.seat.standing) l.caller.seen l.fn.seat.log l.log;
}

use Rattle.std.proofs.Common.{arith, rules, ◌∙◌, Ok, refl, alloc_error}
use Rattle.std.specs.declared.alloc.AllocError.{AllocError}
use Rattle.sf_fill_store.specs.Standings.{number_of, seen_of}
use Rattle.sf_fill_store.specs.declared.standing.Standing.TheVariants.{Free}
use Rattle.sf_fill_store.proofs.Logging.{logs_these}
use Rattle.sf_fill.proofs.LogSteps.{logs_forget}
use Rattle.sf_fill_store.proofs.LogSteps.{logs_on}
use Rattle.sf_fill.proofs.Purges.{forgets_first, forgets_none, forgotten_on, purge_from, purge_logged}
use Rattle.sf_fill.proofs.Seats.{free_if_none, some_owed}
use Rattle.sf_fill.proofs.fill.Fill.forget_each.Goals as goal

pub loop-index-preserved : goal.loop-index-preserved
loop-index-preserved g c =
    let on = forgotten_on _ _ _ _ _ _ _ _ c.loop-index.invariant.group c.loop-index.invariant.first (omega (arith, c.number.ensures.same, c.from_index-place.ensures)) c.forget_named-forgot.ensures in
    let first = c.loop-index.invariant.first in
    let old = c.args.seat.now in
    let named = logs_forget c.loop-index.caller c.forget_named-forgot.new.caller _ _ _ c.forget_named-forgot.result c.loop-index.log c.add_forgot.new.self c.add_forgot.ensures c.forget_named-forgot.ensures (search rules) (search rules) in
    record {
      group = on.0;
      first = on.1;
      logged = logs_on (number_of old.standing) c.loop-index.caller.number (seen_of old.standing) c.loop-index.caller.seen c.forget_named-forgot.new.caller.seen old.log c.loop-index.log c.add_forgot.new.self first.adds.number c.loop-index.invariant.logged named;
    }

pub take_free-caller-requires : goal.take_free-caller-requires
take_free-caller-requires g c = free_if_none _ _ _ _ _ c.seat.view_is c.seat.invariant.1 (search rules)

pub loop-index-init : goal.loop-index-init
loop-index-init g c = record {
  group = rw c.take_free-caller.ensures.taken at c.seat.invariant.2;
  first = purge_from _ _ _ _ _ _ c.seat.view_is c.take_free-caller.result c.take_free-caller.ensures.taken c.settle_up-delivered.ensures.settled;
  logged = purge_logged _ _ _ _ _ _ c.seat.view_is c.take_free-caller.result c.take_free-caller.ensures.taken c.settle_up-delivered.ensures.settled c.settle_up-delivered.ensures.logged;
}

pub returns-then-owes : goal.returns-then-owes
returns-then-owes g c =
    forgets_none {E = AllocError} g.N.Naming.group.sizes.places c.args.seat.now c.settle_up-delivered.new.self alloc_error c.settle_up-delivered.ensures.settled c.settle_up-delivered.ensures.logged (some_owed _ _ _ _ _ c.seat.view_is (search rules))

pub returns : goal.returns
returns g c =
    forgets_first {E = AllocError} g.N.Naming.group.sizes.places _ _ _ _ _ _ _ _ c.settle_up-delivered.ensures.settled c.seat.view_is c.loop-index.index c.loop-index.caller tt (Free c.loop-index.caller, Ok tt) (search rules) c.loop-index.invariant.first
    (logs_these _ _ _ _ _ _ c.loop-index.invariant.logged c.loop-index.invariant.first.adds.grows.own) refl

pub invariant_of-seat : goal.invariant_of-seat
invariant_of-seat g c = (c.seat.invariant.0, tt, c.loop-index.invariant.group)

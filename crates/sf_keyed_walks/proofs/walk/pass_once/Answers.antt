use Rattle.std.proofs.Common.{ℕ, ◌≢◌, ◌%◌, ◌<◌, ◌^◌, ◌∙◌, ap, subst, sym}
use Rattle.sf_keyed_words.specs.Rule.{number, slot_of}
use Rattle.sf_keyed_walks.specs.Walk.{HasJoined}
use Rattle.sf_keyed_walks.specs.declared.walk.Passed.{Passed}
use Rattle.sf_keyed_walks.specs.declared.walk.Passed.TheVariants.{Joined, Gone, Busy, Crowded}
use Rattle.sf_keyed_walks.proofs.Origins.{joined_from, none_sealed}
use Rattle.sf_keyed_walks.proofs.walk.pass_once.Goals as goal

pub join_found-requires-clause-met : goal.join_found-requires-clause-met
join_found-requires-clause-met c = c.walk_slot.ensures.met c.in-Met.call c.in-Met.state c.in-Met.is

abbrev call_in : Passed → ℕ
call_in (Joined call) = call
call_in Gone = 0
call_in Busy = 0
call_in Crowded = 0

pub returns-in-Joined-clause-joined : goal.returns-in-Joined-clause-joined
returns-in-Joined-clause-joined c call is =
    subst (λ n. HasJoined c.args.seat.now.me.0 c.join_found.new.seat.me.0 n (number c.args.name)) (ap call_in is)
    (joined_from c.args.seat.now.me.0 c.walk_slot.new.seat.me.0 c.join_found.new.seat.me.0 c.in-Joined.joined (number c.args.name) c.walk_slot.ensures.stays (c.join_found.ensures.joined c.in-Joined.joined c.in-Joined.is))

pub returns-in-Joined-clause-cell : goal.returns-in-Joined-clause-cell
returns-in-Joined-clause-cell c call is =
    subst (λ n. (n ≢ 0) × (n < 2 ^ 61) × (n % 1048576 < c.args.sizes.cells)) (ap call_in is) (c.join_found.ensures.cell c.in-Joined.joined c.in-Joined.is)

pub seal_walk-requires-clause-through : goal.seal_walk-requires-clause-through
seal_walk-requires-clause-through c = c.walk_slot.ensures.through c.in-Through.found c.in-Through.on c.in-Through.is

pub returns-then-seal_walk-clause-gone : goal.returns-then-seal_walk-clause-gone
returns-then-seal_walk-clause-gone c is =
    let v = c.args.seat.now.me.0 in
    let through = c.walk_slot.ensures.through c.in-Through.found c.in-Through.on c.in-Through.is in
    none_sealed v c.walk_slot.new.seat.me.0 c.seal_walk.new.seat.me.0 c.slot_of-slot.result (number c.args.name) c.walk_slot.ensures.stays (c.seal_walk.ensures.sealed c.if-seal_walk.true)
    (ap (λ z. slot_of z (number c.args.name)) c.requires.sizes ∙ sym c.slot_of-slot.ensures.is) through.unmet

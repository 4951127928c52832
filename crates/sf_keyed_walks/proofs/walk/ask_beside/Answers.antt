use Rattle.std.proofs.Common.{◌≡◌, Bool, true, false, not, refl}
use Rattle.std.proofs.lemmas.Bool.{true≢false}
use Rattle.sf_keyed_words.specs.Rule.{number}
use Rattle.sf_keyed_walks.proofs.Origins.{joined_from}
use Rattle.sf_keyed_walks.proofs.walk.ask_beside.Goals as goal

pub join_found-requires-clause-met : goal.join_found-requires-clause-met
join_found-requires-clause-met c = c.walk_slot.ensures.met c.in-Met.call c.in-Met.state c.in-Met.is

pub lead_after-requires-clause-through : goal.lead_after-requires-clause-through
lead_after-requires-clause-through c = c.walk_slot.ensures.through c.in-Through.found c.in-Through.on c.in-Through.is

pub returns-in-Met-clause-joined : goal.returns-in-Met-clause-joined
returns-in-Met-clause-joined c call is =
    joined_from c.args.seat.now.me.0 c.walk_slot.new.seat.me.0 c.join_found.new.seat.me.0 call (number c.args.name) c.walk_slot.ensures.stays (c.join_found.ensures.joined call is)

is_true : (b : Bool) → not b ≡ false → b ≡ true
is_true true isnt = refl
is_true false isnt = absurd (true≢false isnt)

pub returns-else-on-clause-full : goal.returns-else-on-clause-full
returns-else-on-clause-full c is = (c.walk_slot.ensures.through c.in-Through.found c.in-Through.on c.in-Through.is).opened (is_true c.in-Through.on.aside c.if-not-on.false) c.if-on.false

use Rattle.std.proofs.Common.{◌≡◌, ◌⊎◌, ◌<◌, length, subst}
use Rattle.sf_keyed_words.specs.Rule.{number}
use Rattle.sf_keyed.specs.declared.group.Refusal.TheVariants.{NoCell}
use Rattle.sf_keyed_chain.specs.Went.{HasReplied}
use Rattle.sf_keyed_chain.proofs.Sights.{all_on}
use Rattle.sf_c_calls.specs.Rows.{HasSearched, HasSpare}
use Rattle.sf_c_calls.proofs.Found.{false_is, fewer, refused_on, refused_then, true_is}
use Rattle.sf_c_calls.proofs.session.ask.Goals as goal

pub returns-then-not-makes_room-clause-found : goal.returns-then-not-makes_room-clause-found
returns-then-not-makes_room-clause-found c =
    let refused = subst (HasReplied c.args.chain.now (number c.args.name) c.args.tries c.loop-flight.me c.ask.new.me) c.in-Refused.is c.ask.ensures.replied in
    refused_then (number c.args.name) c.args.tries c.loop-flight.cell c.in-Refused.why c.args.me.now c.loop-flight.me c.ask.new.me c.makes_room.new.me c.loop-flight.invariant.1 refused c.makes_room.ensures.on
    (false_is c.makes_room.result (c.in-Refused.why ≡ NoCell → HasSearched 64 c.loop-flight.cell c.ask.new.me c.makes_room.new.me) c.if-not-makes_room.true c.makes_room.ensures.none)

pub loop-flight-preserved : goal.loop-flight-preserved
loop-flight-preserved c =
    let refused = subst (HasReplied c.args.chain.now (number c.args.name) c.args.tries c.loop-flight.me c.ask.new.me) c.in-Refused.is c.ask.ensures.replied in (
      c.makes_room.ensures.of,
      all_on c.args.me.now c.loop-flight.me c.makes_room.new.me c.loop-flight.invariant.1
          (all_on c.loop-flight.me c.ask.new.me c.makes_room.new.me (refused_on (number c.args.name) c.args.tries c.in-Refused.why refused.0 c.loop-flight.me c.ask.new.me refused.1) c.makes_room.ensures.on),
      c.makes_room.ensures.fits,
    )

pub loop-flight-smaller : goal.loop-flight-smaller
loop-flight-smaller c =
    let refused = subst (HasReplied c.args.chain.now (number c.args.name) c.args.tries c.loop-flight.me c.ask.new.me) c.in-Refused.is c.ask.ensures.replied in
    fewer c.args.chain.now (number c.args.name) c.args.tries c.in-Refused.why refused.0 c.loop-flight.me c.ask.new.me c.makes_room.new.me refused.1 c.makes_room.ensures.on c.makes_room.ensures.of
    (true_is c.makes_room.result (((c.in-Refused.why ≡ NoCell) × HasSpare c.makes_room.new.me) ⊎ (length c.ask.new.me < length c.makes_room.new.me)) c.if-not-makes_room.false c.makes_room.ensures.more)

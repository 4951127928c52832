use Rattle.sf_steps_laws.specs.declared.operation.Stage.TheVariants.{Leading}
use Rattle.sf_group.proofs.LedCalls.{after_caller}
use Rattle.sf_group.proofs.tokens.flight.Flight.of.Goals as goal

pub of-requires-2 : goal.of-requires-2
of-requires-2 g c =
    let s = c.args.seated in
    after_caller s.seat.table_id s.number c.args.place c.args.call c.args.own c.args.after s.seat.me.0 (Leading c.args.place c.args.call.generation c.args.own) c.requires.sits c.requires.after

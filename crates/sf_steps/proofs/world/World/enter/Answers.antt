use Rattle.std.proofs.Common.{ℕ, ◌∙◌, ap, rules}
use Rattle.sf_steps_laws.specs.declared.operation.Stage.{Stage}
use Rattle.sf_steps.specs.Running.{world_of}
use Rattle.sf_steps.proofs.Worlds.{enter_done}
use Rattle.sf_steps.proofs.world.World.enter.Goals as goal

pub asks_on-requires-clause-asks : goal.asks_on-requires-clause-asks
asks_on-requires-clause-asks g c =
    (c.requires.asks.0, ap (λ (row : ℕ → Stage g.row.V.Denot). row c.args.caller) c.exchange_call-done.ensures.stages ∙ c.requires.asks.1)

pub take_ticket-requires-clause-asks : goal.take_ticket-requires-clause-asks
take_ticket-requires-clause-asks g c =
    (c.requires.asks.0, ap (λ (row : ℕ → Stage g.row.V.Denot). row c.args.caller) c.exchange_call-done.ensures.stages ∙ c.requires.asks.1)

pub returns-clause-world : goal.returns-clause-world
returns-clause-world g c =
    enter_done (world_of c.args.self.now) (world_of c.exchange_call-done.new.self) (world_of c.take_ticket.new.self) c.args.caller c.args.place c.joiner-by.result c.args.second c.args.call c.args.seen c.exchange_call-done.result c.exchange_call-done.ensures.is_seen c.if-not-done.false c.exchange_call-done.ensures.world c.joiner-by.ensures.who c.take_ticket.ensures.world

-- Named, so that a wrong body is refused at once: a search that has no answer tries more.
pub returns-clause-act : goal.returns-clause-act
returns-clause-act g c = search rules

pub returns-clause-events : goal.returns-clause-events
returns-clause-events g c = search rules

use Rattle.std.proofs.Common.{◌≡◌, ℕ, [], ◌∷◌, ◌∙◌, rules, ap}
use Rattle.std.specs.Prelude.{cond}
use Rattle.sf_history.specs.declared.call.CallId.{CallId}
use Rattle.sf_history.specs.declared.event.Event.TheVariants.{Lead}
use Rattle.sf_words.specs.declared.key_word.KeyState.{KeyState}
use Rattle.sf_steps_laws.specs.declared.operation.Stage.{Stage}
use Rattle.sf_steps_laws.specs.World.{with_key, key_of}
use Rattle.sf_steps.specs.Running.{world_of}
use Rattle.sf_steps.proofs.Worlds.{lead_done, lead_adds}
use Rattle.sf_steps.proofs.world.World.lead.Goals as goal

pub asks_on-requires-clause-asks : goal.asks_on-requires-clause-asks
asks_on-requires-clause-asks g c =
    (c.requires.asks.0, ap (λ (row : ℕ → Stage g.row.V.Denot). row c.args.caller) c.exchange_key-done.ensures.stages ∙ c.requires.asks.1)

pub take_lead-own-requires-clause-asks : goal.take_lead-own-requires-clause-asks
take_lead-own-requires-clause-asks g c =
    (c.requires.asks.0, ap (λ (row : ℕ → Stage g.row.V.Denot). row c.args.caller) c.exchange_key-done.ensures.stages ∙ c.requires.asks.1)

pub returns-clause-world : goal.returns-clause-world
returns-clause-world g c =
    lead_done (world_of c.args.self.now) (world_of c.exchange_key-done.new.self) (world_of c.take_lead-own.new.self) c.args.caller c.args.place c.args.second c.args.seen c.exchange_key-done.result c.exchange_key-done.ensures.is_seen c.if-not-done.false
    (c.exchange_key-done.ensures.world ∙ (ap (λ (v : KeyState). cond c.exchange_key-done.result (with_key (world_of c.args.self.now) c.args.place v) (world_of c.args.self.now)) c.named.ensures ∙ ap (λ (d : CallId). cond c.exchange_key-done.result (with_key (world_of c.args.self.now) c.args.place (key_of d)) (world_of c.args.self.now)) c.next_call-call.ensures))
    c.take_lead-own.ensures.world

pub returns-clause-events : goal.returns-clause-events
returns-clause-events g c =
    lead_adds (world_of c.args.self.now) (world_of c.exchange_key-done.new.self) c.one_event-events.result.items c.args.caller c.args.place c.args.second c.args.seen c.named.result c.next_call-call.result c.take_lead-own.result c.exchange_key-done.result c.exchange_key-done.ensures.is_seen c.if-not-done.false c.exchange_key-done.ensures.world c.next_call-call.ensures c.take_lead-own.ensures.own (told c)
  where
    told : (c : goal.After-one_event-events g) → c.one_event-events.result.items ≡ Lead c.args.caller c.args.place c.next_call-call.result c.take_lead-own.result ∷ []
    told c = search rules

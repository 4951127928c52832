use Rattle.std.proofs.Common.{ℕ, ◌∙◌, ap, rules}
use Rattle.std.specs.Prelude.{cond}
use Rattle.sf_steps_laws.specs.declared.operation.Stage.{Stage}
use Rattle.sf_words.specs.declared.key_word.KeyState.{KeyState}
use Rattle.sf_steps_laws.specs.declared.operation.SettleStep.TheVariants as settle
use Rattle.sf_steps_laws.specs.World.{with_key, same_key}
use Rattle.sf_steps.specs.Running.{world_of}
use Rattle.sf_steps.proofs.Worlds.{clear_done}
use Rattle.sf_steps.proofs.world.World.clear_own.Goals as goal

pub goes_to_count-requires-clause-settles : goal.goes_to_count-requires-clause-settles
goes_to_count-requires-clause-settles g c =
    (c.requires.settles.0, settle.Clear c.args.top, ap (λ (row : ℕ → Stage g.row.V.Denot). row c.args.led.call.caller) c.exchange_key-done.ensures.stages ∙ c.requires.settles.1)

pub returns-clause-world : goal.returns-clause-world
returns-clause-world g c =
    clear_done (world_of c.args.self.now) (world_of c.exchange_key-done.new.self) (world_of c.goes_to_count.new.self) c.args.led.call.caller c.args.led.place c.args.led.call.generation c.args.led.own c.requires.settles.0 c.args.top c.exchange_key-done.result c.requires.settles.1
    (c.exchange_key-done.ensures.is_seen ∙ ap (λ (v : KeyState). same_key ((world_of c.args.self.now).keys c.args.led.place) v) c.named.ensures)
    (c.exchange_key-done.ensures.world ∙ ap (λ (v : KeyState). cond c.exchange_key-done.result (with_key (world_of c.args.self.now) c.args.led.place v) (world_of c.args.self.now)) c.named-2.ensures)
    c.goes_to_count.ensures.world

-- Named, so that a wrong body is refused at once: a search that has no answer tries more.
pub returns-clause-act : goal.returns-clause-act
returns-clause-act g c = search rules

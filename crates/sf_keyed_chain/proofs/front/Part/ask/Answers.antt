use Rattle.std.proofs.Common.{rules, ◌≡◌, subst}
use Rattle.std.specs.Prelude.{IsSomeAnd}
use Rattle.sf_keyed_words.specs.Rule.{number}
use Rattle.sf_keyed_chain.specs.Chains.{Sight, IsLater}
use Rattle.sf_keyed_chain.proofs.Later.{on_asked, part_kept}
use Rattle.sf_keyed_chain.proofs.front.Part.ask.Goals as goal

pub invariant_of-self : goal.invariant_of-self
invariant_of-self c =
    let p = c.self.inside in
    let of : IsSomeAnd c.get_as.new.note.known (λ l. (l.group ≡ p.front.group) × (l.ages.table ≡ p.known.of)) = search rules in
    part_kept c.get_as.new.note.known p.front c.ask_at.new.me p.known c.draw-age.new.known p.swept p.done
    (on_asked p.front c.ask_at.new.me (number c.args.name) c.args.tries c.ask_at.result c.ask_at.ensures) c.draw-age.ensures.on of c.self.invariant.1 c.self.invariant.2

pub returns-clause-later : goal.returns-clause-later
returns-clause-later c =
    let p = c.self.inside in
    subst (λ (s : Sight). IsLater s (record { cell = c.get_as.new.note.cell; front = c.ask_at.new.me; known = c.draw-age.new.known; swept = p.swept; done = p.done })) c.self.view_is
    (record { cell = c.get_as.ensures.cell; on = on_asked p.front c.ask_at.new.me (number c.args.name) c.args.tries c.ask_at.result c.ask_at.ensures; ages = c.draw-age.ensures.on })

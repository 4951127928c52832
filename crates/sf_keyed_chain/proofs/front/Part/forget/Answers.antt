use Rattle.std.proofs.Common.{rules, ◌≡◌, subst}
use Rattle.std.specs.Prelude.{IsSomeAnd}
use Rattle.sf_keyed_words.specs.Rule.{number}
use Rattle.sf_keyed_chain.specs.Chains.{IsLater, Sight}
use Rattle.sf_keyed_chain.proofs.Later.{knows_same, on_forgotten, part_kept}
use Rattle.sf_keyed_chain.proofs.front.Part.forget.Goals as goal

pub invariant_of-self : goal.invariant_of-self
invariant_of-self c =
    let p = c.self.inside in
    let of : IsSomeAnd c.get_as.new.note.known (λ l. (l.group ≡ p.front.group) × (l.ages.table ≡ p.known.of)) = search rules in
    part_kept c.get_as.new.note.known p.front c.forget_at-forgotten.new.me p.known c.end.new.known p.swept p.done
    (on_forgotten p.front c.forget_at-forgotten.new.me (number c.args.name) c.args.tries c.forget_at-forgotten.result c.forget_at-forgotten.ensures) c.end.ensures.on of c.self.invariant.1 c.self.invariant.2

pub invariant_of-self-else-ne : goal.invariant_of-self-else-ne
invariant_of-self-else-ne c =
    let p = c.self.inside in
    let of : IsSomeAnd c.get_as.new.note.known (λ l. (l.group ≡ p.front.group) × (l.ages.table ≡ p.known.of)) = search rules in
    part_kept c.get_as.new.note.known p.front c.forget_at-forgotten.new.me p.known p.known p.swept p.done
    (on_forgotten p.front c.forget_at-forgotten.new.me (number c.args.name) c.args.tries c.forget_at-forgotten.result c.forget_at-forgotten.ensures) (knows_same p.known) of c.self.invariant.1 c.self.invariant.2

pub returns-then-ne-clause-later : goal.returns-then-ne-clause-later
returns-then-ne-clause-later c =
    let p = c.self.inside in
    subst (λ (s : Sight). IsLater s (record { cell = c.get_as.new.note.cell; front = c.forget_at-forgotten.new.me; known = c.end.new.known; swept = p.swept; done = p.done })) c.self.view_is
    (record { cell = c.get_as.ensures.cell; on = on_forgotten p.front c.forget_at-forgotten.new.me (number c.args.name) c.args.tries c.forget_at-forgotten.result c.forget_at-forgotten.ensures; ages = c.end.ensures.on })

pub returns-else-ne-clause-later : goal.returns-else-ne-clause-later
returns-else-ne-clause-later c =
    let p = c.self.inside in
    subst (λ (s : Sight). IsLater s (record { cell = c.get_as.new.note.cell; front = c.forget_at-forgotten.new.me; known = p.known; swept = p.swept; done = p.done })) c.self.view_is
    (record { cell = c.get_as.ensures.cell; on = on_forgotten p.front c.forget_at-forgotten.new.me (number c.args.name) c.args.tries c.forget_at-forgotten.result c.forget_at-forgotten.ensures; ages = knows_same p.known })

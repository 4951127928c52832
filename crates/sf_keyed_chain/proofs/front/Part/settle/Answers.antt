use Rattle.std.proofs.Common.{rules, ◌≡◌, ◌∙◌, ap, subst}
use Rattle.std.specs.Prelude.{IsSomeAnd}
use Rattle.sf_keyed_chain.specs.Chains.{Sight, IsLater}
use Rattle.sf_keyed_chain.proofs.Later.{knows_same, later_at, on_settled, part_kept}
use Rattle.sf_keyed_chain.proofs.front.Part.settle.Goals as goal

pub invariant_of-self : goal.invariant_of-self
invariant_of-self c =
    let p = c.self.inside in
    let of : IsSomeAnd c.get_as.new.note.known (λ l. (l.group ≡ p.front.group) × (l.ages.table ≡ p.known.of)) = search rules in
    part_kept c.get_as.new.note.known p.front c.settle.new.me p.known p.known p.swept p.done
    (on_settled p.front c.settle.new.me c.args.flight c.args.value c.settle.result c.settle.ensures) (knows_same p.known) of c.self.invariant.1 c.self.invariant.2

pub returns-clause-later : goal.returns-clause-later
returns-clause-later c =
    let p = c.self.inside in
    subst (λ (s : Sight). IsLater s (record { cell = c.get_as.new.note.cell; front = c.settle.new.me; known = p.known; swept = p.swept; done = p.done })) c.self.view_is
    (later_at p.note.cell c.get_as.new.note.cell p.swept p.done p.known p.front c.settle.new.me (c.get_as.ensures.cell ∙ ap (λ n. n.cell) c.compare.ensures.0) (on_settled p.front c.settle.new.me c.args.flight c.args.value c.settle.result c.settle.ensures))

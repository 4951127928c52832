use Rattle.std.proofs.Common.{rules, ◌≡◌, sym, subst}
use Rattle.std.specs.Prelude.{IsSomeAnd}
use Rattle.sf_keyed_ages.specs.Stamps.{KnowsOn}
use Rattle.sf_keyed_chain.specs.Chains.{GoesOn}
use Rattle.sf_keyed_chain.proofs.Later.{knows_same, on_same, part_kept}
use Rattle.sf_keyed_chain.proofs.front.Part.tell.Goals as goal

pub invariant_of-self : goal.invariant_of-self
invariant_of-self c =
    let p = c.self.inside in
    let of : IsSomeAnd c.again.new.self.known (λ l. (l.group ≡ p.front.group) × (l.ages.table ≡ p.known.of)) = search rules in
    part_kept c.again.new.self.known p.front c.tell.new.me p.known c.tell-in-Some.new.known p.swept p.done
    (subst (GoesOn p.front) (sym c.tell.ensures.same) (on_same p.front)) (subst (KnowsOn p.known) (sym c.tell-in-Some.ensures.0) (knows_same p.known)) of c.self.invariant.1 c.self.invariant.2

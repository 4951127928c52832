use Rattle.std.proofs.Common.{◌≡◌, All, refl, sym, ap, subst, rules}
use Rattle.std.proofs.lemmas.List.Elements.{All-push}
use Rattle.sf_fill_open.proofs.Handing.{handed_on}
use Rattle.sf_fill_open.proofs.team.hand_out.Goals as goal

pub hand-preserved : goal.hand-preserved
hand-preserved g c = record {
  all = search rules;
  room = search rules;
  list = search rules;
  handed = handed_on (λ j. (j.index, j.getter)) c.hand.jobs.items c.push_reserved.new.self.items c.hand.getters.items c.pop.new.self.items _ _ c.in-Some.getter c.in-Some.ensures.items c.push_reserved.ensures.items (ap (λ n. (n, c.in-Some.getter)) (search rules)) c.hand.invariant.handed;
  team = subst (All (λ j. j.team.now ≡ c.args.team.now)) (sym c.push_reserved.ensures.items) (All-push (λ j. j.team.now ≡ c.args.team.now) c.hand.jobs.items _ c.hand.invariant.team refl);
}

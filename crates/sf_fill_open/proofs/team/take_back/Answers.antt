use Rattle.std.proofs.Common.{rules}
use Rattle.sf_fill_open.proofs.Handing.{taken_one}
use Rattle.sf_fill_open.proofs.team.take_back.Goals as goal

pub back-preserved : goal.back-preserved
back-preserved g c = record {
  all = search rules;
  same = search rules;
  getter_room = search rules;
  part_room = search rules;
  getters = taken_one (λ e. e.getter) c.back.ended.items c.pop.new.self.items c.in-Some.end c.back.getters.items c.push_reserved.new.self.items _ _ c.in-Some.ensures.items c.into_parts-getter.ensures.0
      c.push_reserved.ensures.items c.back.invariant.getters;
  parts = taken_one (λ e. e.part) c.back.ended.items c.pop.new.self.items c.in-Some.end c.back.parts.items c.push_reserved-in-Some.new.self.items _ _ c.in-Some.ensures.items c.into_parts-getter.ensures.1
      c.push_reserved-in-Some.ensures.items c.back.invariant.parts;
}

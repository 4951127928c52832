use Rattle.std.specs.Prelude.{◌≡◌, ◌+◌, ◌≤◌, ◌++◌, map, reverse, vec_len, vec_capacity}
use Rattle.sf_fill_open.proofs.team.take_back.Given as goal

abbrev pub invariant-back : goal.invariant-back
invariant-back g l = record {
  all : vec_len l.getters + vec_len l.ended ≡ vec_len l.fn.ended;
  same : vec_len l.parts + vec_len l.ended ≡ vec_len l.fn.ended;
  getter_room : vec_len l.fn.ended ≤ vec_capacity l.getters;
  part_room : vec_len l.fn.ended ≤ vec_capacity l.parts;
  getters : l.getters.items ++ reverse (map (λ end. end.getter) l.ended.items) ≡ reverse (map (λ end. end.getter) l.fn.ended.items);
  parts : l.parts.items ++ reverse (map (λ end. end.part) l.ended.items) ≡ reverse (map (λ end. end.part) l.fn.ended.items);
}

abbrev pub decreases-back : goal.decreases-back
decreases-back g l = vec_len l.ended

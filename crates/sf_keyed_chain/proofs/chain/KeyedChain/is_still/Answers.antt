use Rattle.std.proofs.Common.{rules, ◌<◌, ◌≤◌, ◌⊎◌, length, set}
use Rattle.sf_keyed_ages.specs.Stamps.{IsNotStill, IsStill}
use Rattle.sf_keyed_chain.specs.Went.{IsCurrent, IsNotCurrent}
use Rattle.sf_keyed_chain.proofs.Sights.{all_both, heard_in}
use Rattle.sf_keyed_chain.proofs.Ends.{current_in, on_false, on_true, over_in}
use Rattle.sf_keyed_chain.proofs.chain.KeyedChain.is_still.Goals as goal

pub returns-clause-heard : goal.returns-clause-heard
returns-clause-heard c =
    let items = c.me.inside.parts.items in
    let within : c.args.stamp.table < length c.reach.new.me = search rules in
    all_both c.args.me.now c.reach.new.me (set items c.args.stamp.table c.is_still.new.self) c.reach.ensures.heard
    (heard_in c.args.stamp.table c.reach.new.me items c.index_mut.result.now c.is_still.new.self c.me.view_is within c.index_mut.ensures.value c.is_still.ensures.heard)

pub returns-clause-still : goal.returns-clause-still
returns-clause-still c =
    let t = c.is_still.new.self in
    let items = c.me.inside.parts.items in
    let within : c.args.stamp.table < length c.reach.new.me = search rules in
    on_true c.is_still.result (IsStill t.known c.args.stamp.slot c.args.stamp.age) (IsCurrent c.args.stamp (set items c.args.stamp.table t))
    (λ still. current_in c.args.stamp c.reach.new.me items c.index_mut.result.now t c.me.view_is within still) c.is_still.ensures.still

pub returns-clause-over : goal.returns-clause-over
returns-clause-over c =
    let t = c.is_still.new.self in
    let items = c.me.inside.parts.items in
    let within : c.args.stamp.table < length c.reach.new.me = search rules in
    on_false c.is_still.result ((t.front.group.sizes.tops ≤ c.args.stamp.slot) ⊎ IsNotStill t.known c.args.stamp.slot c.args.stamp.age) (IsNotCurrent c.args.stamp (set items c.args.stamp.table t))
    (λ other. over_in c.args.stamp c.reach.new.me items c.index_mut.result.now t c.me.view_is within other) c.is_still.ensures.over

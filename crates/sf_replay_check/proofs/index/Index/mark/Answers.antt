use Rattle.std.proofs.Common.{rules, sym, subst, Some}
use Rattle.std.specs.BTreeMap.{UpdatesBy}
use Rattle.sf_replay_check.specs.Index.{marked}
use Rattle.sf_replay_check.specs.IndexMaps.{compare_name}
use Rattle.sf_replay_check.specs.declared.row.Row.{Row}
use Rattle.sf_replay_check.proofs.Maps.{compare_pairs, name_marked}
use Rattle.sf_replay_check.proofs.index.Index.mark.Goals as goal

pub returns-in-Some-clause-row : goal.returns-in-Some-clause-row
returns-in-Some-clause-row g c =
    let before = c.args.self.now.rows in
    let after = c.get_mut.follows.lender c.marked.result in
    let written = (c.get_mut.follows.holds c.marked.result).3 (search rules) in
    name_marked before after c.args.call (marked c.args.mark) c.in-Some.row.now
    (subst (λ (r : Row). UpdatesBy compare_pairs (compare_name c.args.call) before after (Some r)) c.marked.ensures written)
    (sym c.in-Some.ensures.value)

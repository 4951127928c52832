use Rattle.std.proofs.Common.{rules, ◌≡◌, ◌<◌, ◌≤◌, length}
use Rattle.sf_keyed.specs.Calls.{IsLooked}
use Rattle.sf_keyed_chain.proofs.Later.{on_looked}
use Rattle.sf_keyed_chain.proofs.Sights.{far_by, near_by}
use Rattle.sf_keyed_chain.proofs.chain.KeyedChain.look_at.Goals as goal

pub returns-then-table-len-clause-looked : goal.returns-then-table-len-clause-looked
returns-then-table-len-clause-looked c =
    let within : c.args.table < length c.reach.new.me = search rules in
    near_by (λ b a. IsLooked b a c.args.ticket c.look.result.0) c.args.table c.args.ticket.group c.args.me.now c.reach.new.me c.me.inside.parts.items c.index_mut.result.now c.look.new.self c.reach.ensures.heard c.me.view_is within c.index_mut.ensures.value c.look.ensures.group c.look.ensures.later c.look.ensures.looked

pub returns-clause-looked : goal.returns-clause-looked
returns-clause-looked c =
    let beyond : length c.reach.new.me ≤ c.args.table = search rules in
    let same : c.enter.result.group ≡ c.args.ticket.group = search rules in
    far_by (λ b a. IsLooked b a c.args.ticket c.look-2.result.0) c.args.table c.args.ticket.group c.args.me.now c.reach.new.me c.enter.result c.look-2.new.me c.reach.ensures.heard beyond same (on_looked c.enter.result c.look-2.new.me c.args.ticket c.look-2.result.0 c.look-2.ensures.looked) c.look-2.ensures.looked

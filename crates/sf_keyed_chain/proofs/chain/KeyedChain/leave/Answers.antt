use Rattle.std.proofs.Common.{rules, ◌≡◌, ◌<◌, ◌≤◌, length, set, subst}
use Rattle.sf_keyed.specs.Calls.{IsLeft}
use Rattle.sf_keyed_chain.specs.Chains.{CalledBy, TokenState}
use Rattle.sf_keyed_chain.proofs.Later.{on_left}
use Rattle.sf_keyed_chain.proofs.Sights.{far_by, near_by}
use Rattle.sf_keyed_chain.proofs.chain.KeyedChain.leave.Goals as goal

pub returns-then-table-len-clause-left : goal.returns-then-table-len-clause-left
returns-then-table-len-clause-left c =
    let within : c.ticket.inside.table < length c.reach.new.me = search rules in
    subst (λ (t : TokenState). CalledBy (λ b a. IsLeft b a t.call c.leave.result) t.table t.call.group c.args.me.now (set c.me.inside.parts.items c.ticket.inside.table c.leave.new.self)) c.ticket.view_is
    (near_by (λ b a. IsLeft b a c.ticket.inside.ticket c.leave.result) c.ticket.inside.table c.ticket.inside.ticket.group c.args.me.now c.reach.new.me c.me.inside.parts.items c.index_mut.result.now c.leave.new.self c.reach.ensures.heard c.me.view_is within c.index_mut.ensures.value c.leave.ensures.group c.leave.ensures.later c.leave.ensures.left)

pub returns-clause-left : goal.returns-clause-left
returns-clause-left c =
    let beyond : length c.reach.new.me ≤ c.ticket.inside.table = search rules in
    let same : c.enter.result.group ≡ c.ticket.inside.ticket.group = search rules in
    subst (λ (t : TokenState). CalledBy (λ b a. IsLeft b a t.call c.leave-2.result) t.table t.call.group c.args.me.now c.reach.new.me) c.ticket.view_is
    (far_by (λ b a. IsLeft b a c.ticket.inside.ticket c.leave-2.result) c.ticket.inside.table c.ticket.inside.ticket.group c.args.me.now c.reach.new.me c.enter.result c.leave-2.new.me c.reach.ensures.heard beyond same (on_left c.enter.result c.leave-2.new.me c.ticket.inside.ticket c.leave-2.result c.leave-2.ensures) c.leave-2.ensures)

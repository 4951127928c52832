-- one line more
use Rattle.std.proofs.Common.{rules, ◌<◌, length}
use Rattle.sf_model.proofs.ReadLines.{read_turn, bad_turn}
use Rattle.sf_model.proofs.grammar.commands.Goals as goal

pub returns-in-None-clause-refused : goal.returns-in-None-clause-refused
returns-in-None-clause-refused c =
    let within : c.loop-i.i < length c.as_slice-line-items.result.now = search rules in
    bad_turn (λ x. x.now) c.as_slice-line-items.result.now _ c.loop-i.i _ c.loop-i.commands.items _ c.in_ok-command.ensures c.in-None.is (search rules) within c.loop-i.invariant

pub loop-i-preserved : goal.loop-i-preserved
loop-i-preserved c =
    let within : c.loop-i.i < length c.as_slice-line-items.result.now = search rules in
    rw c.in_ok-push-in-Some.ensures.items
    (read_turn (λ x. x.now) c.as_slice-line-items.result.now c.loop-i.i _ c.loop-i.commands.items c.in-Some.command _ c.in_ok-command.ensures c.in-Some.is within c.loop-i.invariant)

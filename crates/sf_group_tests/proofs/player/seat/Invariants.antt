use Rattle.std.proofs.Common.{◌≡◌}
use Rattle.std.specs.List.{All}
use Rattle.sf_group.specs.Tokens.{CallerValue}
use Rattle.sf_group_tests.proofs.player.seat.Given as goal

abbrev pub invariant-loop : goal.invariant-loop
invariant-loop g l = All (λ (c : CallerValue _). c.group ≡ l.group) l.list.items × (l.player.group.now ≡ l.group)

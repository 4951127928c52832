use Rattle.sf_steps_laws.proofs.LeftAlone.{others_are_left, own_turns_decide}
use Rattle.sf_steps_laws.proofs.Named.{spared_are_left}
use Rattle.sf_steps_laws.proofs.laws.others_are_left.Goals as goal

pub returns-clause-by_a_turn : goal.returns-clause-by_a_turn
returns-clause-by_a_turn g c z s t is b free = others_are_left z s t is b free

pub returns-clause-by_turns : goal.returns-clause-by_turns
returns-clause-by_turns g c z s ts is b others = own_turns_decide z s ts is b others

pub returns-clause-spared : goal.returns-clause-spared
returns-clause-spared g c z s ts is b free first = spared_are_left z s ts is b free first

use Rattle.std.proofs.Common.{rules, ◌%◌, ◌<◌, ◌∙◌, subst}
use Rattle.sf_keyed_words.specs.declared.rule.KeyedSizes.{KeyedSizes}
use Rattle.sf_keyed_words.specs.Rule.{number}
use Rattle.sf_keyed_walks.specs.Walk.{Stays}
use Rattle.sf_keyed_walks.proofs.Origins.{joined_from}
use Rattle.sf_keyed_walks.proofs.walk.ask_once.Goals as goal
use Rattle.sf_keyed_walks.proofs.walk.ask_once.Goals.{in-Closed+else-found-eq0, in-Other}

pub returns-in-Named-clause-joined : goal.returns-in-Named-clause-joined
returns-in-Named-clause-joined c call is =
    let stays : Stays c.args.seat.now.me.0 c.examine.new.seat.me.0 = search rules in
    joined_from c.args.seat.now.me.0 c.examine.new.seat.me.0 c.join_found.new.seat.me.0 call (number c.args.name) stays (c.join_found.ensures.joined call is)

pub returns-in-Joined-clause-joined : goal.returns-in-Joined-clause-joined
returns-in-Joined-clause-joined c call is =
    let stays : Stays c.args.seat.now.me.0 c.examine.new.seat.me.0 = elim c.match-examine.branch [
      | in-Closed+else-found-eq0 w ↦ search rules
      | in-Other w ↦ search rules
    ] in
    joined_from c.args.seat.now.me.0 c.examine.new.seat.me.0 c.ask_beside.new.seat.me.0 call (number c.args.name) stays (c.ask_beside.ensures.joined call (c.in-Joined.is ∙ is))

pub returns-in-Joined-clause-cell : goal.returns-in-Joined-clause-cell
returns-in-Joined-clause-cell c call is =
    let cell = c.ask_beside.ensures.cell call (c.in-Joined.is ∙ is) in (cell.0, cell.1, subst (λ (z : KeyedSizes). call % 1048576 < z.cells) c.copied.ensures cell.2)

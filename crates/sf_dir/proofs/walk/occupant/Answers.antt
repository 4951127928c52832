use Rattle.sf_dir.proofs.Walking.{reached_more, resolves_from}
use Rattle.sf_dir.proofs.walk.occupant.Goals as goal

pub claim-requires-clause-reached : goal.claim-requires-clause-reached
claim-requires-clause-reached c = reached_more c.args.words.now.key c.args.seat.now.me.0 c.look-found.new.seat.me.0 c.args.place c.args.key.now c.look-found.ensures.looked.grows c.requires.reached

pub returns-clause-won : goal.returns-clause-won
returns-clause-won c e = resolves_from c.args.seat.now.me.0 c.look-found.new.seat.me.0 c.claim.new.seat.me.0 c.args.place c.args.key.now c.look-found.ensures.looked.grows (c.claim.ensures.won e)

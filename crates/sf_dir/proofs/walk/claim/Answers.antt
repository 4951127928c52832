use Rattle.std.proofs.Common.{[], sym, ◌∙◌, subst}
use Rattle.sf_dir.proofs.Walking.{grows_again, may_publish, has_won, holds_some, the_spare}
use Rattle.sf_dir.specs.Walk.{HoldsSpare}
use Rattle.sf_dir.proofs.Keys.{bytes_small}
use Rattle.sf_dir.proofs.walk.claim.Goals as goal

pub publish-found-requires-clause-may : goal.publish-found-requires-clause-may
publish-found-requires-clause-may c =
    (c.args.key.now, may_publish c.args.words.now.key c.args.seat.now.me.0 c.write_key.new.seat.me.0 c.args.place c.spare_of-row.result c.args.key.now c.requires.reached (grows_again _ _ _ [] [] c.spare_of-row.ensures.grows c.write_key.ensures.grows) c.write_key.ensures.written c.requires.key (bytes_small c.args.key.now c.type_inv.key))

pub returns-then-found-eq-EMPTY-clause-won : goal.returns-then-found-eq-EMPTY-clause-won
returns-then-found-eq-EMPTY-clause-won c e =
    has_won c.args.words.now.key c.args.seat.now.me.0 c.write_key.new.seat.me.0 _ c.args.place c.spare_of-row.result c.args.key.now (grows_again _ _ _ [] [] c.spare_of-row.ensures.grows c.write_key.ensures.grows) c.write_key.ensures.written c.requires.key (bytes_small c.args.key.now c.type_inv.key) (c.publish-found.ensures.tried.won c.if-found-eq-EMPTY.true).1

pub returns-else-found-eq-EMPTY-clause-spare : goal.returns-else-found-eq-EMPTY-clause-spare
returns-else-found-eq-EMPTY-clause-spare c =
    let written = c.write_key.ensures.written in
    let kept = c.publish-found.ensures.tried.lost c.if-found-eq-EMPTY.false in
    let row = the_spare c.args.words.now.key c.spare_of-row.new.seat.me.0 c.spare_of-row.result (subst (HoldsSpare c.args.words.now.key c.spare_of-row.new.seat.me.0) c.spare_of-row.ensures.spare.1 c.spare_of-row.ensures.spare.0) in
    subst (HoldsSpare c.args.words.now.key c.publish-found.new.seat.me.0) (sym c.spare_of-row.ensures.spare.1) (holds_some c.args.words.now.key c.publish-found.new.seat.me.0 written.spare c.spare_of-row.result (kept.1 ∙ written.has) written.row_is row.3)

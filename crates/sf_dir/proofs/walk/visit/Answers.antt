use Rattle.std.proofs.Common.{Bool, true, false}
use Rattle.std.specs.Bool.{OnTrue, OnFalse}
use Rattle.sf_dir.proofs.Walking.{found_within, found_key, found_other}
use Rattle.sf_dir.proofs.walk.visit.Goals as goal

pub has_key-requires-clause-row : goal.has_key-requires-clause-row
has_key-requires-clause-row c =
    let lost = c.occupant-found.ensures.lost c.if-found-eq-EMPTY.false in
    found_within c.args.words.now.key c.args.seat.now.me.0 c.occupant-found.new.seat.me.0 c.args.place c.occupant-found.result c.requires.own.1 lost.0 c.if-found-eq-EMPTY.false lost.1

on_true : (b : Bool) {A B : Type 0} → (A → B) → OnTrue b A → OnTrue b B
on_true true f a = f a
on_true false f a = a

on_false : (b : Bool) {A B : Type 0} → (A → B) → OnFalse b A → OnFalse b B
on_false true f a = a
on_false false f a = f a

pub returns-clause-yes : goal.returns-clause-yes
returns-clause-yes c =
    let lost = c.occupant-found.ensures.lost c.if-found-eq-EMPTY.false in
    on_true c.has_key.result (found_key c.args.seat.now.me.0 c.occupant-found.new.seat.me.0 c.has_key.new.seat.me.0 c.args.place c.occupant-found.result c.args.key.now c.if-found-eq-EMPTY.false lost.0 lost.1 c.has_key.ensures.grows.0) c.has_key.ensures.yes

pub returns-clause-no : goal.returns-clause-no
returns-clause-no c =
    let lost = c.occupant-found.ensures.lost c.if-found-eq-EMPTY.false in
    on_false c.has_key.result (found_other c.args.seat.now.me.0 c.occupant-found.new.seat.me.0 c.has_key.new.seat.me.0 c.args.place c.occupant-found.result c.args.key.now c.if-found-eq-EMPTY.false lost.0 lost.1 c.has_key.ensures.grows.0) c.has_key.ensures.no

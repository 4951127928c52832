use Rattle.std.proofs.Common.{rules, ap, ◌≡◌, ◌∙◌}
use Rattle.sf_fill_keys.specs.Spots.{place_at, spot_at}
use Rattle.sf_fill_counters.specs.Ledgers.{Tally}
use Rattle.sf_fill.specs.GetterValue.{GetterValue, with_loaders}
use Rattle.sf_fill.proofs.Lookups.{hit_asked, hit_present, place_spot}
use Rattle.sf_fill.proofs.Once.{owing_getter, present_logged, present_once, refused_getter}
use Rattle.sf_fill.proofs.Seats.{none_owed, some_owed}
use Rattle.sf_fill.proofs.fill.Fill.get_once.Goals as goal

pub returns-then-owes-clause-got : goal.returns-then-owes-clause-got
returns-then-owes-clause-got g c =
    owing_getter _ _ _ _ _ _ _ _ _ _ (ap (λ (s : GetterValue (Unit {0})). with_loaders s c.args.loaders.now) c.seat.view_is) c.count.new.tallies.counted (ap (λ (t : Tally). t.counted) c.count.ensures) (some_owed _ _ _ _ _ c.seat.view_is (search rules))

pub returns-in-Err-clause-got : goal.returns-in-Err-clause-got
returns-in-Err-clause-got g c =
    refused_getter _ _ _ _ _ _ _ _ _ _ (ap (λ (s : GetterValue (Unit {0})). with_loaders s c.args.loaders.now) c.seat.view_is) c.find.new.desk c.count-in-Err.new.tallies.counted c.in-Err.refusal c.of_key.result
    (ap (λ (t : Tally). t.counted) c.count-in-Err.ensures) (none_owed _ _ _ _ _ c.seat.view_is (search rules)) (search rules) (search rules) c.of_key.ensures

pub returns-in-Some-clause-got : goal.returns-in-Some-clause-got
returns-in-Some-clause-got g c =
    present_once _ _ _ _ _ _ _
    (hit_present g.N.Naming.space _ _ _ _ _ _ _ (ap (λ (s : GetterValue (Unit {0})). with_loaders s c.args.loaders.now) c.seat.view_is) c.find.new.desk (search rules) c.number-place.result c.in-Free.caller c.lookup.new.caller (search rules)
    c.lookup.new.tallies.counted (spot_at c.args.key.now c.in-Ok.at) (search rules) (search rules) (search rules) c.in-Some.hit c.view.result (search rules) c.view.ensures.shown)

pub returns-in-Some-clause-logged : goal.returns-in-Some-clause-logged
returns-in-Some-clause-logged g c =
    present_logged g.N.Naming.space c.args.key.now _ _ c.view.result
    (hit_present g.N.Naming.space _ _ _ _ _ _ _ c.seat.view_is c.find.new.desk (search rules) c.number-place.result c.in-Free.caller c.lookup.new.caller (search rules)
    c.lookup.new.tallies.counted (spot_at c.args.key.now c.in-Ok.at) (search rules) (search rules) (search rules) c.in-Some.hit c.view.result (search rules) c.view.ensures.shown)

pub returns-clause-got : goal.returns-clause-got
returns-clause-got g c =
    let at : c.number-place.result ≡ place_at c.in-Ok.at = search rules in
    hit_asked g.N.Naming.space _ _ _ _ _ _ _ (ap (λ (s : GetterValue (Unit {0})). with_loaders s c.args.loaders.now) c.seat.view_is) c.find.new.desk (search rules) c.number-place.result c.in-Free.caller c.lookup.new.caller (search rules)
    c.lookup.new.tallies.counted _ _ (spot_at c.args.key.now c.in-Ok.at) (search rules) (at ∙ place_spot c.args.key.now c.in-Ok.at) (search rules) (search rules) _ c.ask.result c.ask.ensures.asked

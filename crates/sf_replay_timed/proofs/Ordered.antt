-- events that are sorted with their times
use Rattle.std.proofs.Common.{◌≡◌, List, [], ◌∷◌, map, zip, Option, refl, ap}
use Rattle.sf_history.specs.declared.event.Event.{Event}
use Rattle.sf_replay.specs.declared.record.Interval.{Interval}
use Rattle.sf_replay_timed.specs.declared.ordering.Ranked.{Ranked}

module _ {K V : Type 0} where
  abbrev pub pair : Ranked K V → Event K V × Option Interval
  pair r = (r.event, r.time)

  pub pairs : (rs : List (Ranked K V)) → map pair rs ≡ zip (map (λ (r : Ranked K V). r.event) rs) (map (λ (r : Ranked K V). r.time) rs)
  pairs [] = refl
  pairs (r ∷ rs) = ap (λ l. pair r ∷ l) (pairs rs)

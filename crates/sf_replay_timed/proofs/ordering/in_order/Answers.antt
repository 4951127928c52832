use Rattle.std.proofs.Common.{◌≡◌, ◌∙◌, List, Option, IsPermutation, length, map, zip, sym, subst}
use Rattle.std.proofs.lemmas.List.{length-map}
use Rattle.std.proofs.lemmas.List.Sorted.{IsPermutation-map}
use Rattle.sf_history.specs.declared.event.Event.{Event}
use Rattle.sf_replay.specs.declared.record.Interval.{Interval}
use Rattle.sf_replay_timed.proofs.Ordered.{pair, pairs}
use Rattle.sf_replay_timed.proofs.ordering.in_order.Goals as goal

pub returns : goal.returns
returns g c =
    let ranked = c.in_ok-ranked.ranked.items in
    let sorted = c.sort_by_key.new.self.items in
    let moved : IsPermutation (map pair ranked) (map pair sorted) = IsPermutation-map pair ranked sorted c.sort_by_key.ensures.permutation in
    let first : map pair ranked ≡ zip c.args.history c.args.times.now = pairs ranked ∙ (λ i. zip ((c.in_ok-ranked.ensures.events ∙ c.into_vec-events.ensures) i) (c.in_ok-ranked.ensures.times i)) in
    let last : map pair sorted ≡ zip c.from_vec.result c.in_ok-events.times.items = pairs sorted ∙ (λ i. zip (sym (c.from_vec.ensures ∙ c.in_ok-events.ensures.events) i) (sym c.in_ok-events.ensures.times i)) in
    record {
      once = subst (λ (es : List (Event g.row.K.Denot g.row.V.Denot × Option Interval)). IsPermutation es (zip c.from_vec.result c.in_ok-events.times.items)) first
          (subst (λ (es : List (Event g.row.K.Denot g.row.V.Denot × Option Interval)). IsPermutation (map pair ranked) es) last moved);
      even = (λ i. length ((c.from_vec.ensures ∙ c.in_ok-events.ensures.events) i))
          ∙ (length-map sorted (λ r. r.event) ∙ (sym (length-map sorted (λ r. r.time)) ∙ (λ i. length (sym c.in_ok-events.ensures.times i))));
    }

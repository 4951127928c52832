use Rattle.std.proofs.Common.{rules, ◌≡◌, ◌∙◌, List, Option, IsPermutation, map, zip, sym, subst}
use Rattle.std.proofs.lemmas.List.Sorted.{IsPermutation-map, answers_always}
use Rattle.std.specs.Cmp.Lexicographic.{slice_cmp}
use Rattle.std.specs.Ordering.{nat_cmp}
use Rattle.std.specs.Prelude.{IsSortedByKey}
use Rattle.sf_replay.specs.declared.merging_times.Timed.{Timed}
use Rattle.sf_replay.specs.declared.record.Interval.{Interval}
use Rattle.sf_replay.specs.Record.{TextEvent}
use Rattle.sf_replay.specs.Merged.{standing_cmp, standing_of}
use Rattle.sf_replay.proofs.MergedTimes.{pair, pairs, merged_sorted}
use Rattle.sf_replay.proofs.StandingOrder.{sorted_by_fields}
use Rattle.sf_replay.proofs.merging_times.merge_recording.Goals as goal

pub returns-clause-once : goal.returns-clause-once
returns-clause-once c =
    let timed = c.in_ok-timed.timed.items in
    let sorted = c.sort_by_key.new.self.items in
    let moved : IsPermutation (map pair timed) (map pair sorted) = IsPermutation-map pair timed sorted c.sort_by_key.ensures.permutation in
    let first : map pair timed ≡ zip c.args.recording.history c.args.recording.times.items = pairs timed
    ∙ (λ i. zip ((c.in_ok-timed.ensures.events ∙ c.into_vec-events.ensures) i) ((c.in_ok-timed.ensures.times ∙ c.as_slice-3.ensures.value) i)) in
    let last : map pair sorted ≡ zip c.from_vec.result c.in_ok-events.times.items = pairs sorted ∙ (λ i. zip (sym (c.from_vec.ensures ∙ c.in_ok-events.ensures.events) i) (sym c.in_ok-events.ensures.times i)) in
    subst (λ (es : List (TextEvent × Option Interval)). IsPermutation es (zip c.from_vec.result c.in_ok-events.times.items)) first
    (subst (λ (es : List (TextEvent × Option Interval)). IsPermutation (map pair timed) es) last moved)

pub returns-clause-sorted : goal.returns-clause-sorted
returns-clause-sorted c =
    let es = c.into_vec-events.result.items in
    let cmp = slice_cmp nat_cmp in
    let standings = c.in_ok-standings.standings.items in
    let timed = c.in_ok-timed.timed.items in
    let sorted = c.sort_by_key.new.self.items in
    let last : map (λ (t : Timed). t.event) sorted ≡ c.from_vec.result = sym (c.from_vec.ensures ∙ c.in_ok-events.ensures.events) in
    let are = subst (λ (xs : List TextEvent). standings ≡ map (standing_of cmp xs) xs) c.as_slice.ensures.value c.in_ok-standings.ensures in
    let up : IsSortedByKey (λ (t : Timed). t.standing) standing_cmp sorted =
    sorted_by_fields (λ t. t.standing) sorted (c.in_ok-sort_by_key.ensures.sorted (λ t. t.standing) (answers_always _ _ _ (λ t a r t' called. search rules))) in
    let merged = merged_sorted (standing_of cmp es) standing_cmp es standings timed sorted are (c.in_ok-timed.ensures.standings ∙ c.as_slice-2.ensures.value) c.in_ok-timed.ensures.events c.sort_by_key.ensures.permutation up in
    subst (λ (all : List TextEvent). IsSortedByKey (standing_of cmp all) standing_cmp c.from_vec.result) c.into_vec-events.ensures
    (subst (λ (xs : List TextEvent). IsSortedByKey (standing_of cmp es) standing_cmp xs) last merged)

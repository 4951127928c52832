use Rattle.std.proofs.Common.{rules, ◌≡◌, ◌∙◌, List, IsPermutation, map, sym, subst}
use Rattle.std.proofs.lemmas.List.Sorted.{IsPermutation-map, answers_always}
use Rattle.std.specs.Prelude.{IsSortedByKey}
use Rattle.sf_history.specs.declared.event.Event.{Event}
use Rattle.sf_replay.specs.declared.merging.Placed.{Placed}
use Rattle.sf_replay.specs.Merged.{events_of_logs, standing_cmp, standing_of}
use Rattle.sf_replay.proofs.MergedOrder.{merged_sorted}
use Rattle.sf_replay.proofs.StandingOrder.{sorted_by_fields}
use Rattle.sf_replay.proofs.merging.merge.Goals as goal

pub returns-clause-once : goal.returns-clause-once
returns-clause-once g c =
    let f = λ (p : Placed g.row.K.Denot g.row.V.Denot). p.event in
    let placed = c.in_ok-placed.placed.items in
    let sorted = c.sort_by_key.new.self.items in
    let moved : IsPermutation (map f placed) (map f sorted) = IsPermutation-map f placed sorted c.sort_by_key.ensures.permutation in
    let first : map f placed ≡ events_of_logs c.args.logs.items = c.in_ok-placed.ensures.events ∙ c.in_ok-events.ensures in
    let last : map f sorted ≡ c.from_vec.result = sym c.in_ok-without_standings.ensures ∙ sym c.from_vec.ensures in
    subst (λ (es : List (Event g.row.K.Denot g.row.V.Denot)). IsPermutation es c.from_vec.result) first
    (subst (λ (es : List (Event g.row.K.Denot g.row.V.Denot)). IsPermutation (map f placed) es) last moved)

pub returns-clause-sorted : goal.returns-clause-sorted
returns-clause-sorted g c =
    let f = λ (p : Placed g.row.K.Denot g.row.V.Denot). p.event in
    let es = c.in_ok-events.events.items in
    let standings = c.in_ok-standings.standings.items in
    let placed = c.in_ok-placed.placed.items in
    let sorted = c.sort_by_key.new.self.items in
    let last : map f sorted ≡ c.from_vec.result = sym c.in_ok-without_standings.ensures ∙ sym c.from_vec.ensures in
    let are = subst (λ (xs : List (Event g.row.K.Denot g.row.V.Denot)). standings ≡ map (standing_of g.K.Ord.cmp xs) xs) c.as_slice.ensures.value c.in_ok-standings.ensures in
    let up : IsSortedByKey (λ (p : Placed g.row.K.Denot g.row.V.Denot). p.standing) standing_cmp sorted =
    sorted_by_fields (λ p. p.standing) sorted (c.in_ok-sort_by_key.ensures.sorted (λ p. p.standing) (answers_always _ _ _ (λ t a r t' called. search rules))) in
    let merged = merged_sorted (standing_of g.K.Ord.cmp es) standing_cmp es standings placed sorted are (c.in_ok-placed.ensures.standings ∙ c.as_slice-2.ensures.value) c.in_ok-placed.ensures.events c.sort_by_key.ensures.permutation up in
    subst (λ (all : List (Event g.row.K.Denot g.row.V.Denot)). IsSortedByKey (standing_of g.K.Ord.cmp all) standing_cmp c.from_vec.result) c.in_ok-events.ensures
    (subst (λ (xs : List (Event g.row.K.Denot g.row.V.Denot)). IsSortedByKey (standing_of g.K.Ord.cmp es) standing_cmp xs) last merged)

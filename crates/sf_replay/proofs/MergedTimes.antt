-- events that are sorted with their times
use Rattle.std.proofs.Common.{◌≡◌, ◌∙◌, ℕ, ◌+◌, ◌<◌, List, [], ◌∷◌, length, get_or, map, zip, Option, None, All, refl, sym, ap, arith}
use Rattle.std.proofs.lemmas.List.{get_or-map, length-map}
use Rattle.std.proofs.lemmas.List.Sorted.{All-permutation}
use Rattle.std.specs.Prelude.{IsPermutation, IsSortedByKey}
use Rattle.std.specs.Ordering.{is_lt}
use Rattle.std.specs.declared.cmp.Ordering.{Ordering}
use Rattle.sf_replay.specs.declared.merging.Standing.{Standing}
use Rattle.sf_replay.specs.declared.merging_times.Timed.{Timed}
use Rattle.sf_replay.specs.declared.record.Interval.{Interval}
use Rattle.sf_replay.specs.Record.{TextEvent}

abbrev pub pair : Timed → TextEvent × Option Interval
pair t = (t.event, t.time)

pub pairs : (ts : List Timed) → map pair ts ≡ zip (map (λ (t : Timed). t.event) ts) (map (λ (t : Timed). t.time) ts)
pairs [] = refl
pairs (t ∷ ts) = ap (λ l. pair t ∷ l) (pairs ts)

timed_all : (f : TextEvent → Standing) (ts : List Timed) → map (λ (t : Timed). t.standing) ts ≡ map f (map (λ (t : Timed). t.event) ts) → All (λ (t : Timed). t.standing ≡ f t.event) ts
timed_all f ts same k d within =
    sym (get_or-map (λ (t : Timed). t.standing) ts k d d.standing within) ∙ ap (λ l. get_or l k d.standing) same
    ∙ get_or-map f (map (λ (t : Timed). t.event) ts) k d.event d.standing (omega (arith, length-map ts (λ (t : Timed). t.event))) ∙ ap f (get_or-map (λ (t : Timed). t.event) ts k d d.event within)

sorted_events : (f : TextEvent → Standing) (cmp : Standing → Standing → Ordering) (ts : List Timed) → All (λ (t : Timed). t.standing ≡ f t.event) ts
    → IsSortedByKey (λ (t : Timed). t.standing) cmp ts → IsSortedByKey f cmp (map (λ (t : Timed). t.event) ts)
sorted_events f cmp ts all up k d low high =
    let some : Timed = record { standing = f d; event = d; time = None } in
    let within : k + 1 < length ts = omega (arith, length-map ts (λ (t : Timed). t.event)) in
    let at : (j : ℕ) → j < length ts → f (get_or (map (λ (t : Timed). t.event) ts) j d) ≡ (get_or ts j some).standing
    = λ j small. ap f (get_or-map (λ (t : Timed). t.event) ts j some d small) ∙ sym (all j some small) in
    (λ i. is_lt (cmp (at (k + 1) within i) (at k (omega arith) i))) ∙ up k some low within

pub merged_sorted : (f : TextEvent → Standing) (cmp : Standing → Standing → Ordering) (es : List TextEvent) (standings : List Standing) (timed sorted : List Timed)
    → standings ≡ map f es → map (λ (t : Timed). t.standing) timed ≡ standings → map (λ (t : Timed). t.event) timed ≡ es → IsPermutation timed sorted
    → IsSortedByKey (λ (t : Timed). t.standing) cmp sorted → IsSortedByKey f cmp (map (λ (t : Timed). t.event) sorted)
merged_sorted f cmp es standings timed sorted are stand hold moved up =
    sorted_events f cmp sorted (All-permutation (λ (t : Timed). t.standing ≡ f t.event) timed sorted moved (timed_all f timed (stand ∙ are ∙ ap (map f) (sym hold)))) up

-- how the weight of a cache's entries changes, by which it is kept
use Rattle.std.proofs.Common.{◌≡◌, ℕ, zero, suc, ◌+◌, ◌-◌, ◌<◌, ◌≤◌, nat_eq, ◌||◌, Bool, true, false, cond, List, [], ◌∷◌, ◌++◌, length, take, slice_get, Option, Some, None, refl, sym, ap, ◌∙◌, subst, arith, length-append}
use Rattle.std.specs.List.{IsDistinct, AllByRecursion, list_any}
use Rattle.std.specs.Option.{option_map_or}
use Rattle.std.specs.Map.{keys_of, lookup, lookup_entry, remove_entry}
use Rattle.std.proofs.lemmas.Bool.Decides.{nat_tests}
use Rattle.std.proofs.lemmas.Map.Keys.{IsDistinct-cons}
use Rattle.std.proofs.lemmas.Map.Entries.{length-keys_of}
use Rattle.std.proofs.lemmas.Map.Steps.{length-le_from_distinct_below}
use Rattle.lru.specs.LruCache.{LruCache, last_entry, put_entries}
use Rattle.lru.proofs.Pairs.{cut_end, last_of_push}
use Rattle.sf_fill_caches.specs.declared.shelf.CacheEntry.{CacheEntry}
use Rattle.sf_fill_caches.specs.Weights.{kept_weight, weight_of, but_last, FitsIn}

module _ {T : Type 0} where
  pub weight_of-append : (xs ys : List (ℕ × CacheEntry T)) → weight_of (xs ++ ys) ≡ weight_of xs + weight_of ys
  weight_of-append [] ys = omega arith
  weight_of-append (e ∷ xs) ys = omega (arith, weight_of-append xs ys)

  pub FitsIn-append : (n : ℕ) (xs ys : List (ℕ × CacheEntry T)) → FitsIn n (xs ++ ys) → FitsIn n xs × FitsIn n ys
  FitsIn-append n [] ys f = (tt, f)
  FitsIn-append n (e ∷ xs) ys f = let on = FitsIn-append n xs ys f.2 in ((f.0, f.1, on.0), on.1)

  -- ---- an entry is taken out

  pub removes_found : (test : ℕ → Bool) (es : List (ℕ × CacheEntry T)) (k : CacheEntry T) → lookup test es ≡ Some k → weight_of (remove_entry test es) + kept_weight k ≡ weight_of es
  removes_found test [] k h = cc
  removes_found test (e ∷ es) k h = (elim (test e.0) as (λ b. cond b (Some e.1) (lookup test es) ≡ Some k → weight_of (cond b es (e ∷ remove_entry test es)) + kept_weight k ≡ kept_weight e.1 + weight_of es) [
    | true ↦ λ t. let same : e.1 ≡ k = cc in omega (arith, ap kept_weight same)
    | false ↦ λ t. omega (arith, removes_found test es k t)
  ]) h

  pub removes_none : (test : ℕ → Bool) (es : List (ℕ × CacheEntry T)) → lookup test es ≡ None → remove_entry test es ≡ es
  removes_none test [] h = refl
  removes_none test (e ∷ es) h = (elim (test e.0) as (λ b. cond b (Some e.1) (lookup test es) ≡ None → cond b es (e ∷ remove_entry test es) ≡ e ∷ es) [
    | true ↦ λ t. cc
    | false ↦ λ t. ap (λ l. e ∷ l) (removes_none test es t)
  ]) h

  pub FitsIn-remove : (n : ℕ) (test : ℕ → Bool) (es : List (ℕ × CacheEntry T)) → FitsIn n es → FitsIn n (remove_entry test es)
  FitsIn-remove n test [] f = f
  FitsIn-remove n test (e ∷ es) f = elim (test e.0) as (λ b. FitsIn n (cond b es (e ∷ remove_entry test es))) [
    | true ↦ f.2
    | false ↦ (f.0, f.1, FitsIn-remove n test es f.2)
  ]

  -- ---- the last entry is dropped

  pub drops_last : (es : List (ℕ × CacheEntry T)) (e : ℕ × CacheEntry T) → last_entry es ≡ Some e → weight_of (but_last es) + kept_weight e.1 ≡ weight_of es
  drops_last [] e h = cc
  drops_last (x ∷ es) e h =
      let cut = cut_end (x ∷ es) (omega arith) in
      let last = last_of_push cut.0 cut.1 in
      let is : last_entry (cut.0 ++ cut.1 ∷ []) ≡ Some e = subst (λ l. last_entry l ≡ Some e) cut.2 h in
      let same : cut.1 ≡ e = cc in
      let goal : weight_of (but_last (cut.0 ++ cut.1 ∷ [])) + kept_weight e.1 ≡ weight_of (cut.0 ++ cut.1 ∷ []) =
      rw last.1 (omega (arith, weight_of-append cut.0 (cut.1 ∷ []), ap (λ (y : ℕ × CacheEntry T). kept_weight y.1) same)) in
      subst (λ l. weight_of (but_last l) + kept_weight e.1 ≡ weight_of l) (sym cut.2) goal

  pub drops_none : (es : List (ℕ × CacheEntry T)) → last_entry es ≡ None → es ≡ []
  drops_none [] h = refl
  drops_none (x ∷ es) h =
      let cut = cut_end (x ∷ es) (omega arith) in
      let last = last_of_push cut.0 cut.1 in
      let is : last_entry (cut.0 ++ cut.1 ∷ []) ≡ None = subst (λ l. last_entry l ≡ None) cut.2 h in
      cc

  pub FitsIn-take : (n k : ℕ) (es : List (ℕ × CacheEntry T)) → FitsIn n es → FitsIn n (take k es)
  FitsIn-take n k [] f = elim k as (λ j. FitsIn n (take j [])) [ zero ↦ tt | suc j ↦ tt ]
  FitsIn-take n k (e ∷ es) f = elim k as (λ j. FitsIn n (take j (e ∷ es))) [ zero ↦ tt | suc j ↦ (f.0, f.1, FitsIn-take n j es f.2) ]

  -- ---- an entry is put in

  pub open_found : (test : ℕ → Bool) (es : List (ℕ × CacheEntry T)) (e : ℕ × CacheEntry T) → lookup_entry test es ≡ Some e → (test e.0 ≡ true) × (lookup test es ≡ Some e.1)
  open_found test [] e h = cc
  open_found test (x ∷ es) e h = (elim (test x.0) as (λ b. test x.0 ≡ b → cond b (Some x) (lookup_entry test es) ≡ Some e → (test e.0 ≡ true) × (cond b (Some x.1) (lookup test es) ≡ Some e.1)) [
    | true ↦ λ t s. let same : x ≡ e = cc in (subst (λ (y : ℕ × CacheEntry T). test y.0 ≡ true) same t, ap (λ (y : ℕ × CacheEntry T). Some y.1) same)
    | false ↦ λ t s. open_found test es e s
  ]) refl h

  open_none : (test : ℕ → Bool) (es : List (ℕ × CacheEntry T)) → lookup_entry test es ≡ None → lookup test es ≡ None
  open_none test [] h = refl
  open_none test (x ∷ es) h = (elim (test x.0) as (λ b. cond b (Some x) (lookup_entry test es) ≡ None → cond b (Some x.1) (lookup test es) ≡ None) [
    | true ↦ λ s. cc
    | false ↦ λ s. open_none test es s
  ]) h

  apart_from_zero : (n : ℕ) (es : List (ℕ × CacheEntry T)) → FitsIn n es → AllByRecursion (λ y. nat_eq 0 y ≡ false) (keys_of es)
  apart_from_zero n [] f = tt
  apart_from_zero n (e ∷ es) f = let low = f.0 in (grind (arith, nat_tests), apart_from_zero n es f.2)

  apart_from_absent : (place : ℕ) (es : List (ℕ × CacheEntry T)) → lookup (nat_eq place) es ≡ None → AllByRecursion (λ y. nat_eq place y ≡ false) (keys_of es)
  apart_from_absent place [] h = tt
  apart_from_absent place (e ∷ es) h = (elim (nat_eq place e.0) as (λ b. nat_eq place e.0 ≡ b → cond b (Some e.1) (lookup (nat_eq place) es) ≡ None → (nat_eq place e.0 ≡ false) × AllByRecursion (λ y. nat_eq place y ≡ false) (keys_of es)) [
    | true ↦ λ t s. cc
    | false ↦ λ t s. (t, apart_from_absent place es s)
  ]) refl h

  member_below : (n q : ℕ) (es : List (ℕ × CacheEntry T)) → FitsIn n es → list_any (nat_eq q) (keys_of es) ≡ true → q < n + 1
  member_below n q [] f h = cc
  member_below n q (e ∷ es) f h = (elim (nat_eq q e.0) as (λ b. nat_eq q e.0 ≡ b → (b || list_any (nat_eq q) (keys_of es)) ≡ true → q < n + 1) [
    | true ↦ λ t s. let same : q ≡ e.0 = grind (arith, nat_tests) in let low = f.1 in omega arith
    | false ↦ λ t s. member_below n q es f.2 s
  ]) refl h

  -- an entry's place, as one of an entry that is not there yet, with 0 before it: n + 1 numbers below n + 1 at most
  length_below : (n place : ℕ) (es : List (ℕ × CacheEntry T)) → 1 ≤ place → place ≤ n → FitsIn n es → IsDistinct nat_eq (keys_of es) → lookup (nat_eq place) es ≡ None → suc (length es) ≤ n
  length_below n place es low high fits distinct absent =
      let head : AllByRecursion (λ y. nat_eq 0 y ≡ false) (place ∷ keys_of es) = (grind (arith, nat_tests), apart_from_zero n es fits) in
      let all : IsDistinct nat_eq (0 ∷ place ∷ keys_of es) = IsDistinct-cons nat_eq 0 (place ∷ keys_of es) head (IsDistinct-cons nat_eq place (keys_of es) (apart_from_absent place es absent) distinct) in
      let long = length-le_from_distinct_below (0 ∷ place ∷ keys_of es) (n + 1) all (λ q h. below q h) in
      omega (arith, long, length-keys_of es)
    where
      below : (q : ℕ) → list_any (nat_eq q) (0 ∷ place ∷ keys_of es) ≡ true → q < n + 1
      below q h = (elim (nat_eq q 0) as (λ b. nat_eq q 0 ≡ b → (b || (nat_eq q place || list_any (nat_eq q) (keys_of es))) ≡ true → q < n + 1) [
        | true ↦ λ t s. let same : q ≡ 0 = grind (arith, nat_tests) in omega arith
        | false ↦ λ t s. (elim (nat_eq q place) as (λ b. nat_eq q place ≡ b → (b || list_any (nat_eq q) (keys_of es)) ≡ true → q < n + 1) [
          | true ↦ λ u v. let same : q ≡ place = grind (arith, nat_tests) in omega arith
          | false ↦ λ u v. member_below n q es fits v
        ]) refl s
      ]) refl h

  -- the entry is in front, and the one that was there is gone: the capacity drops none
  pub puts_front : (c : LruCache ℕ (CacheEntry T)) (place : ℕ) (kept : CacheEntry T) → 1 ≤ place → place ≤ c.cap → FitsIn c.cap c.entries → IsDistinct nat_eq (keys_of c.entries)
      → put_entries nat_eq c place kept ≡ (place, kept) ∷ remove_entry (nat_eq place) c.entries
  puts_front c place kept low high fits distinct = (elim (lookup_entry (nat_eq place) c.entries) as (λ o. lookup_entry (nat_eq place) c.entries ≡ o
      → option_map_or (λ (e : ℕ × CacheEntry T). (e.0, kept) ∷ remove_entry (nat_eq place) c.entries) o ((place, kept) ∷ take (c.cap - 1) c.entries) ≡ (place, kept) ∷ remove_entry (nat_eq place) c.entries) [
        | None ↦ λ h.
            let absent = open_none (nat_eq place) c.entries h in
            let long = length_below c.cap place c.entries low high fits distinct absent in
            ap (λ l. (place, kept) ∷ l) (take_all (c.cap - 1) c.entries (omega arith) ∙ sym (removes_none (nat_eq place) c.entries absent))
        | Some e ↦ λ h.
            let t = (open_found (nat_eq place) c.entries e h).0 in
            let same : e.0 ≡ place = grind (arith, nat_tests) in
            ap (λ k. (k, kept) ∷ remove_entry (nat_eq place) c.entries) same
      ]) refl
    where
      take_all : (k : ℕ) (es : List (ℕ × CacheEntry T)) → length es ≤ k → take k es ≡ es
      take_all k [] h = elim k as (λ j. take {A = ℕ × CacheEntry T} j [] ≡ []) [ zero ↦ refl | suc j ↦ refl ]
      take_all zero (e ∷ es) h = absurd (omega arith)
      take_all (suc k) (e ∷ es) h = ap (λ l. e ∷ l) (take_all k es (omega arith))

-- the order of a merged history: places of keys, keys of calls, and events sorted with their standings
use Rattle.std.proofs.Common.{rules, ◌≡◌, ℕ, zero, suc, ◌+◌, ◌<◌, ◌≤◌, Bool, true, false, cond, List, [], ◌∷◌, ◌++◌, length, get_or, map, Option, Some, None, Bor, refl, sym, ◌∙◌, ap, arith, option_map, IsPermutation}
use Rattle.std.proofs.lemmas.Bool.{cond-true, cond-false}
use Rattle.std.proofs.lemmas.List.{get_or-map, length-map}
use Rattle.std.proofs.lemmas.List.Recursion.{is_count_by}
use Rattle.std.proofs.lemmas.List.Sorted.{All-permutation, searchable_from_sorted, sum_by-IsPermutation}
use Rattle.std.specs.Prelude.{count_by, is_some, IsSortedByKey}
use Rattle.std.specs.Option.{option_copied, option_or}
use Rattle.std.specs.BTreeMap.{BTreeMap, get_by, UpdatesBy}
use Rattle.std.specs.Cmp.{IsTotalOrder}
use Rattle.std.specs.List.{All, AllWithin, filter_map}
use Rattle.std.specs.List.Sorted.{IsPartitionPoint, IsPartitionedBy}
use Rattle.std.specs.Ordering.{is_lt, ordering_index}
use Rattle.std.specs.declared.cmp.Ordering.{Ordering}
use Rattle.std.specs.declared.cmp.Ordering.TheVariants.{Less, Equal, Greater}
use Rattle.sf_history.specs.declared.call.CallId.{CallId}
use Rattle.sf_history.specs.declared.event.Event.{Event}
use Rattle.sf_history.specs.declared.event.Event.TheVariants.{Lead, Enter, Forget, ForgetCall, Settle, Handed}
use Rattle.sf_history.specs.declared.event.Hit.{Hit}
use Rattle.sf_history.specs.declared.event.Hit.TheVariants.{Missed}
use Rattle.sf_history.specs.Calls.{same_call}
use Rattle.sf_history.proofs.LegalHistories.{same_call_is}
use Rattle.sf_replay.specs.Entered.{compare_call}
use Rattle.sf_replay.specs.Merged.{idle_standing, led_key, key_of_call, own_key, place_among, standing_by, standing_of}
use Rattle.sf_replay.specs.declared.merging.Placed.{Placed}
use Rattle.sf_replay.specs.declared.merging.Standing.{Standing}
use Rattle.sf_replay.proofs.Counts.{call_test, compare_pairs}

-- ---- places of keys

-- how many pass, by recursion
count : {X : Type 0} → (X → Bool) → List X → ℕ
count p [] = 0
count p (x ∷ xs) = cond (p x) (1 + count p xs) (count p xs)

counted : {X : Type 0} (p : X → Bool) (xs : List X) → count p xs ≡ count_by p xs
unfolding count
counted p xs = is_count_by (count p) p refl (λ x xs. refl) xs

-- those that pass stand before those that do not
count_point : {X : Type 0} (p : X → Bool) (xs : List X) (i : ℕ) → i ≤ length xs → AllWithin (λ y. p y ≡ true) xs 0 i → AllWithin (λ y. p y ≡ false) xs i (length xs) → count p xs ≡ i
unfolding count
count_point p [] i within pass fail = omega arith
count_point p (x ∷ xs) zero within pass fail =
    cond-false (p x) _ _ (fail 0 x (omega arith) (omega arith)) ∙ count_point p xs 0 (omega arith) (λ k d low high. absurd (omega arith)) (λ k d low high. fail (suc k) d (omega arith) (omega arith))
count_point p (x ∷ xs) (suc i) within pass fail =
    cond-true (p x) _ _ (pass 0 x (omega arith) (omega arith))
    ∙ ap (λ n. 1 + n) (count_point p xs i (omega arith) (λ k d low high. pass (suc k) d (omega arith) (omega arith)) (λ k d low high. fail (suc k) d (omega arith) (omega arith)))
    ∙ omega arith

count-map : {X Y : Type 0} (p : Y → Bool) (f : X → Y) (xs : List X) → count p (map f xs) ≡ count (λ x. p (f x)) xs
unfolding count
count-map p f [] = refl
count-map p f (x ∷ xs) = ap (λ n. cond (p (f x)) (1 + n) n) (count-map p f xs)

-- a key's place is the point that parts the keys in order
pub place_is : {K : Type 0} (R : K → K → Ordering) (keys : List (Bor K)) (k : K) (i : ℕ) → i ≤ length keys
    → IsPartitionPoint (λ (b : Bor K). is_lt (R b.now k) ≡ true) (λ (b : Bor K). is_lt (R b.now k) ≡ false) keys i → i ≡ place_among R (map (λ (b : Bor K). b.now) keys) k
place_is R keys k i within point =
    sym (sym (counted (λ other. is_lt (R other k)) _) ∙ count-map (λ other. is_lt (R other k)) (λ b. b.now) keys ∙ count_point (λ b. is_lt (R b.now k)) keys i within point.0 point.1)

below_index : (o : Ordering) → is_lt o ≡ true → ordering_index o ≡ 0
below_index Less is = refl
below_index Equal is = absurd (search rules)
below_index Greater is = absurd (search rules)

index_below : (o : Ordering) → ordering_index o ≡ 0 → is_lt o ≡ true
index_below Less is = refl
index_below Equal is = absurd (omega arith)
index_below Greater is = absurd (omega arith)

pub keys_parted : {K : Type 0} (R : K → K → Ordering) → IsTotalOrder R → (keys : List (Bor K)) (k : K) → IsSortedByKey (λ (b : Bor K). b.now) R keys → IsPartitionedBy (λ (b : Bor K). is_lt (R b.now k)) keys
keys_parted R total keys k up i j d within last below =
    let rising = searchable_from_sorted total (λ b. b.now) keys k up in
    let upper = below_index _ below in
    index_below _ (omega (arith, rising i j d within last, upper))

-- ---- the keys of calls

option_or-assoc : {A : Type 0} (a b c : Option A) → option_or a (option_or b c) ≡ option_or (option_or a b) c
option_or-assoc None b c = refl
option_or-assoc (Some x) b c = refl

option_or-none : {A : Type 0} (a : Option A) → option_or a None ≡ a
option_or-none None = refl
option_or-none (Some x) = refl

none_mapped : {A B : Type 0} (f : A → B) (o : Option A) → is_some (option_map f o) ≡ false → o ≡ None
none_mapped f None is = refl
none_mapped f (Some x) is = absurd (search rules)

some_first : {A B : Type 0} (f : A → B) (o other : Option A) → is_some (option_map f o) ≡ true → o ≡ option_or o other
some_first f None other is = absurd (search rules)
some_first f (Some x) other is = refl

-- a copy of what is lent is there where that is
pub copied_is_some : {A : Type 0} (o : Option (Bor A)) → is_some (option_copied o) ≡ is_some o
copied_is_some None = refl
copied_is_some (Some x) = refl

module _ {K V : Type 0} where
  key_of_call-push : (es : List (Event K V)) (e : Event K V) (c : CallId) → key_of_call (es ++ e ∷ []) c ≡ option_or (key_of_call es c) (led_key c e)
  key_of_call-push [] e c = option_or-none (led_key c e)
  key_of_call-push (x ∷ es) e c = ap (option_or (led_key c x)) (key_of_call-push es e c) ∙ option_or-assoc (led_key c x) (key_of_call es c) (led_key c e)

  -- an event that leads no call says no key
  pub key_kept : (es : List (Event K V)) (e : Event K V) (c : CallId) → led_key c e ≡ None → key_of_call es c ≡ key_of_call (es ++ e ∷ []) c
  key_kept es e c none = sym (key_of_call-push es e c ∙ ap (option_or (key_of_call es c)) none ∙ option_or-none (key_of_call es c))

  -- a first lead of a call is noted with its key's place
  pub led_new : (place : K → ℕ) (m n : BTreeMap (ℕ × ℕ) ℕ) (es : List (Event K V)) (by : ℕ) (key : K) (call : CallId) (own : Option CallId) (noted : ℕ)
      → ((c : CallId) → get_by (compare_call c) m ≡ option_map place (key_of_call es c)) → is_some (get_by (compare_call call) m) ≡ false → noted ≡ place key
      → UpdatesBy compare_pairs (compare_call call) m n (Some noted)
      → (c : CallId) → get_by (compare_call c) n ≡ option_map place (key_of_call (es ++ Lead by key call own ∷ []) c)
  led_new place m n es by key call own noted before none is h c =
      by_test (same_call call c) refl (h.0 (c.caller, c.generation) ∙ (λ i. cond (call_test call c i) (Some (is i)) (get_by (compare_call c) m)))
    where
      by_test : (b : Bool) → same_call call c ≡ b → get_by (compare_call c) n ≡ cond b (Some (place key)) (get_by (compare_call c) m)
          → get_by (compare_call c) n ≡ option_map place (key_of_call (es ++ Lead by key call own ∷ []) c)
      by_test true same at =
          let nothing = none_mapped place (key_of_call es c) (ap is_some (sym (before c) ∙ ap (λ (z : CallId). get_by (compare_call z) m) (sym (same_call_is call c same))) ∙ none) in
          at ∙ sym (ap (option_map place) (key_of_call-push es (Lead by key call own) c ∙ ap (λ o. option_or o (cond (same_call call c) (Some key) None)) nothing ∙ cond-true (same_call call c) (Some key) None same))
      by_test false other at = at ∙ before c ∙ ap (option_map place) (key_kept es (Lead by key call own) c (cond-false (same_call call c) (Some key) None other))

  -- a later lead of a call changes nothing
  pub led_again : (place : K → ℕ) (m : BTreeMap (ℕ × ℕ) ℕ) (es : List (Event K V)) (by : ℕ) (key : K) (call : CallId) (own : Option CallId)
      → ((c : CallId) → get_by (compare_call c) m ≡ option_map place (key_of_call es c)) → is_some (get_by (compare_call call) m) ≡ true
      → (c : CallId) → get_by (compare_call c) m ≡ option_map place (key_of_call (es ++ Lead by key call own ∷ []) c)
  led_again place m es by key call own before some c = before c ∙ ap (option_map place) (by_test (same_call call c) refl)
    where
      by_test : (b : Bool) → same_call call c ≡ b → key_of_call es c ≡ key_of_call (es ++ Lead by key call own ∷ []) c
      by_test true same =
          some_first place (key_of_call es c) (led_key {K = K} {V = V} c (Lead by key call own)) (ap is_some (sym (before c) ∙ ap (λ (z : CallId). get_by (compare_call z) m) (sym (same_call_is call c same))) ∙ some) ∙ sym (key_of_call-push es (Lead by key call own) c)
      by_test false other = key_kept es (Lead by key call own) c (cond-false (same_call call c) (Some key) None other)

  leads_none : (e : Event K V) (c : CallId) → ((by : ℕ) (key : K) (call : CallId) (own : Option CallId) → e ≡ Lead by key call own → ⊥) → led_key c e ≡ None
  leads_none (Lead by key call own) c not = absurd (not by key call own refl)
  leads_none (Enter by key call member) c not = refl
  leads_none (Forget by key closed) c not = refl
  leads_none (ForgetCall by key call hit) c not = refl
  leads_none (Settle by call result joiners) c not = refl
  leads_none (Handed by call) c not = refl

  -- any other event changes nothing
  pub led_not : (place : K → ℕ) (m : BTreeMap (ℕ × ℕ) ℕ) (es : List (Event K V)) (e : Event K V) → ((by : ℕ) (key : K) (call : CallId) (own : Option CallId) → e ≡ Lead by key call own → ⊥)
      → ((c : CallId) → get_by (compare_call c) m ≡ option_map place (key_of_call es c)) → (c : CallId) → get_by (compare_call c) m ≡ option_map place (key_of_call (es ++ e ∷ []) c)
  led_not place m es e not before c = before c ∙ ap (option_map place) (key_kept es e c (leads_none e c not))

  -- ---- where events stand

  pub idle_is : (place : K → ℕ) (calls : CallId → Option ℕ) (e : Event K V) (by : ℕ) (key : K) (closed : Option CallId) (s : Standing)
      → e ≡ Forget by key closed → closed ≡ None → s ≡ idle_standing false (place key) by → s ≡ standing_by place calls e
  idle_is place calls e by key closed s is none stands = stands ∙ ap (λ (o : Option CallId). standing_by {K = K} {V = V} place calls (Forget by key o)) (sym none) ∙ ap (standing_by place calls) (sym is)

  pub missed_is : (place : K → ℕ) (calls : CallId → Option ℕ) (e : Event K V) (by : ℕ) (key : K) (call : CallId) (hit : Hit) (s : Standing)
      → e ≡ ForgetCall by key call hit → hit ≡ Missed → s ≡ idle_standing false (place key) by → s ≡ standing_by place calls e
  missed_is place calls e by key call hit s is missed stands = stands ∙ ap (λ (h : Hit). standing_by {K = K} {V = V} place calls (ForgetCall by key call h)) (sym missed) ∙ ap (standing_by place calls) (sym is)

  -- keys in another order have the same places
  pub standing_found : (cmp : K → K → Ordering) (es : List (Event K V)) (keys : List K) (calls : CallId → Option ℕ) → IsPermutation (filter_map own_key es) keys
      → ((c : CallId) → calls c ≡ option_map (place_among cmp keys) (key_of_call es c)) → (e : Event K V) → standing_by (place_among cmp keys) calls e ≡ standing_of cmp es e
  standing_found cmp es keys calls moved are e =
      let same : (k : K) → place_among cmp keys k ≡ place_among cmp (filter_map own_key es) k = λ k. sum_by-IsPermutation (λ other. cond (is_lt (cmp other k)) 1 0) (filter_map own_key es) keys moved in
      let held : (c : CallId) → calls c ≡ option_map (place_among cmp (filter_map own_key es)) (key_of_call es c) = λ c. are c ∙ (λ i. option_map (λ k. same k i) (key_of_call es c)) in
      λ i. standing_by (λ k. same k i) (λ c. held c i) e

  -- ---- events sorted with their standings

  placed_all : (f : Event K V → Standing) (ps : List (Placed K V)) → map (λ (p : Placed K V). p.standing) ps ≡ map f (map (λ (p : Placed K V). p.event) ps) → All (λ (p : Placed K V). p.standing ≡ f p.event) ps
  placed_all f ps same k d within =
      sym (get_or-map (λ (p : Placed K V). p.standing) ps k d d.standing within) ∙ ap (λ l. get_or l k d.standing) same
      ∙ get_or-map f (map (λ (p : Placed K V). p.event) ps) k d.event d.standing (omega (arith, length-map ps (λ (p : Placed K V). p.event))) ∙ ap f (get_or-map (λ (p : Placed K V). p.event) ps k d d.event within)

  sorted_events : (f : Event K V → Standing) (cmp : Standing → Standing → Ordering) (ps : List (Placed K V)) → All (λ (p : Placed K V). p.standing ≡ f p.event) ps
      → IsSortedByKey (λ (p : Placed K V). p.standing) cmp ps → IsSortedByKey f cmp (map (λ (p : Placed K V). p.event) ps)
  sorted_events f cmp ps all up k d low high =
      let some : Placed K V = record { standing = f d; event = d } in
      let within : k + 1 < length ps = omega (arith, length-map ps (λ (p : Placed K V). p.event)) in
      let at : (j : ℕ) → j < length ps → f (get_or (map (λ (p : Placed K V). p.event) ps) j d) ≡ (get_or ps j some).standing
      = λ j small. ap f (get_or-map (λ (p : Placed K V). p.event) ps j some d small) ∙ sym (all j some small) in
      (λ i. is_lt (cmp (at (k + 1) within i) (at k (omega arith) i))) ∙ up k some low within

  pub merged_sorted : (f : Event K V → Standing) (cmp : Standing → Standing → Ordering) (es : List (Event K V)) (standings : List Standing) (placed sorted : List (Placed K V))
      → standings ≡ map f es → map (λ (p : Placed K V). p.standing) placed ≡ standings → map (λ (p : Placed K V). p.event) placed ≡ es → IsPermutation placed sorted
      → IsSortedByKey (λ (p : Placed K V). p.standing) cmp sorted → IsSortedByKey f cmp (map (λ (p : Placed K V). p.event) sorted)
  merged_sorted f cmp es standings placed sorted are stand hold moved up =
      sorted_events f cmp sorted (All-permutation (λ (p : Placed K V). p.standing ≡ f p.event) placed sorted moved (placed_all f placed (stand ∙ are ∙ ap (map f) (sym hold)))) up

-- counts of entries after a write, and what a line says by them
use Rattle.std.proofs.Common.{rules, ◌≡◌, ℕ, ◌+◌, ◌==◌, Bool, true, false, cond, List, inl, inr, Option, Some, None, refl, sym, ◌∙◌, ap, arith, codes, option_and_then}
use Rattle.std.proofs.lemmas.Bool.{cases_Bool, cond-false, eqb-true}
use Rattle.std.specs.Cmp.{both_tied}
use Rattle.std.specs.Ordering.{nat_cmp, ordering_then, is_eq}
use Rattle.std.specs.BTreeMap.{BTreeMap, get_by, UpdatesBy}
use Rattle.std.specs.declared.cmp.Ordering.{Ordering}
use Rattle.serde_json.specs.Data.{Data}
use Rattle.serde_json.specs.Find.{as_bool, as_str}
use Rattle.sf_history.specs.declared.call.CallId.{CallId}
use Rattle.sf_history.specs.Calls.{same_call}
use Rattle.sf_history.proofs.LegalHistories.{same_call_is}
use Rattle.sf_replay.specs.declared.record.Interval.{Interval}
use Rattle.sf_replay.specs.Entered.{compare_call, count_or_none}
use Rattle.sf_replay.specs.Record.{field, has_names, caller_in, call_in, count_in, result_in, count_of_mark, joiners_in, settle_from, settle_in, event_of_kind, names_of_time, time_in, timed_event_in, event_in}

nat_ties : (a b : ℕ) → (a == b) ≡ is_eq (nat_cmp a b)
nat_ties a b = search rules

-- a call compares as equal exactly to itself
pub call_test : (id c : CallId) → is_eq (compare_call id (c.caller, c.generation)) ≡ same_call id c
call_test id c = sym (both_tied (id.caller == c.caller) (id.generation == c.generation) _ _ (nat_ties id.caller c.caller) (nat_ties id.generation c.generation))

abbrev pub compare_pairs : ℕ × ℕ → ℕ × ℕ → Ordering
compare_pairs x y = ordering_then (nat_cmp x.0 y.0) (nat_cmp x.1 y.1)

-- one call has one more, and each other call as many as it had
pub counted_more : (m n : BTreeMap (ℕ × ℕ) ℕ) (id : CallId) (count : ℕ) → count ≡ count_or_none (get_by (compare_call id) m) → UpdatesBy compare_pairs (compare_call id) m n (Some (count + 1))
    → (c : CallId) → count_or_none (get_by (compare_call c) n) ≡ count_or_none (get_by (compare_call c) m) + cond (same_call id c) 1 0
counted_more m n id count is h c = by_test (same_call id c) refl (h.0 (c.caller, c.generation) ∙ ap (λ b. cond b (Some (count + 1)) (get_by (compare_call c) m)) (call_test id c))
  where
    by_test : (b : Bool) → same_call id c ≡ b → get_by (compare_call c) n ≡ cond b (Some (count + 1)) (get_by (compare_call c) m)
        → count_or_none (get_by (compare_call c) n) ≡ count_or_none (get_by (compare_call c) m) + cond b 1 0
    by_test true same at = ap count_or_none at ∙ ap (λ k. k + 1) (is ∙ ap (λ (z : CallId). count_or_none (get_by (compare_call z) m)) (same_call_is id c same))
    by_test false other at = ap count_or_none at ∙ omega arith

module _ (format : ℕ) (f g : CallId → ℕ) (same : format ≡ 1 → (c : CallId) → f c ≡ g c) where
  -- the first format alone asks how many entered
  joiners_same : (d : Data) (c : CallId) → joiners_in format (f c) d ≡ joiners_in format (g c) d
  joiners_same d c =
      elim (cases_Bool (format == 1)) [
        | inl is ↦ ap (λ n. joiners_in format n d) (same (eqb-true format 1 is) c)
        | inr isnt ↦ number (f c) isnt ∙ sym (number (g c) isnt)
      ]
    where
      number : (n : ℕ) → (format == 1) ≡ false → joiners_in format n d ≡ field (codes "joiners") count_in d
      number n isnt = cond-false (format == 1) (option_and_then (count_of_mark n) (field (codes "shared") as_bool d)) (field (codes "joiners") count_in d) isnt

  settle_same : (more : ℕ) (d : Data) → settle_in more format f d ≡ settle_in more format g d
  unfolding settle_in
  settle_same more d =
      λ i. cond (has_names (5 + more) d) (settle_from (field (codes "by") caller_in d) (field (codes "c") call_in d) (result_in d) (λ call. joiners_same d call i)) None

  kind_same : (more : ℕ) (kind : List ℕ) (d : Data) → event_of_kind more format f kind d ≡ event_of_kind more format g kind d
  unfolding event_of_kind
  kind_same more kind d = rw (settle_same more d) refl

  timed_same : (d : Data) (time : Option Interval) → timed_event_in format f d time ≡ timed_event_in format g d time
  unfolding timed_event_in
  timed_same d time = λ i. option_and_then (λ kind. kind_same (names_of_time time) kind d i) (field (codes "e") as_str d)

  -- so counts that are right where they are asked for read the same event
  pub event_same : (d : Data) → event_in format f d ≡ event_in format g d
  unfolding event_in
  event_same d = λ i. option_and_then (λ time. timed_same d time i) (time_in format d)

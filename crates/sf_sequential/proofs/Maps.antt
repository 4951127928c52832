-- an index's maps after a write
use Rattle.std.proofs.Common.{rules, ◌≡◌, ℕ, ◌==◌, Bool, true, false, cond, Option, Some, refl, sym, ◌∙◌, ap, Bor, if◌then◌else◌}
use Rattle.std.specs.Cmp.{both_tied}
use Rattle.std.specs.Ordering.{nat_cmp, ordering_then, is_eq}
use Rattle.std.specs.BTreeMap.{BTreeMap, get_by, UpdatesBy}
use Rattle.std.specs.declared.cmp.Ordering.{Ordering}
use Rattle.sf_history.specs.declared.call.CallId.{CallId}
use Rattle.sf_history.specs.Calls.{same_call}
use Rattle.sf_sequential.specs.declared.rows.CallRow.{CallRow}
use Rattle.sf_sequential.specs.Noted.{call_row}
use Rattle.sf_sequential.specs.NotedMaps.{compare_name}

nat_ties : (a b : ℕ) → (a == b) ≡ is_eq (nat_cmp a b)
nat_ties a b = search rules

-- a name compares as equal exactly to itself
name_test : (id c : CallId) → is_eq (compare_name id (c.caller, c.generation)) ≡ same_call id c
name_test id c = sym (both_tied (id.caller == c.caller) (id.generation == c.generation) _ _ (nat_ties id.caller c.caller) (nat_ties id.generation c.generation))

abbrev pub compare_pairs : ℕ × ℕ → ℕ × ℕ → Ordering
compare_pairs x y = ordering_then (nat_cmp x.0 y.0) (nat_cmp x.1 y.1)

-- one call has another row, and each other call the row that it had
pub call_updated : (m n : BTreeMap (ℕ × ℕ) CallRow) (id : CallId) (row : CallRow) → UpdatesBy compare_pairs (compare_name id) m n (Some row)
    → (c : CallId) → call_row (get_by (compare_name c) n) ≡ (if same_call id c then row else call_row (get_by (compare_name c) m))
call_updated m n id row h c = ap call_row (h.0 (c.caller, c.generation) ∙ ap (λ b. cond b (Some row) (get_by (compare_name c) m)) (name_test id c)) ∙ by (same_call id c)
  where
    by : (b : Bool) → call_row (cond b (Some row) (get_by (compare_name c) m)) ≡ cond b row (call_row (get_by (compare_name c) m))
    by true = refl
    by false = refl

module _ {K : Type 0} (cmp : K → K → Ordering) (eq : K → K → Bool) (ties : (x y : K) → eq x y ≡ is_eq (cmp x y)) where
  -- one key has another current call, and each other key the one that it had
  pub key_updated : (m n : BTreeMap (Bor K) CallId) (key : K) (w : Option CallId) → UpdatesBy (λ x y. cmp x.now y.now) (λ other. cmp key other.now) m n w
      → (k : K) → get_by (λ other. cmp k other.now) n ≡ (if eq key k then w else get_by (λ other. cmp k other.now) m)
  key_updated m n key w h k =
      h.0 (record { ref_ptr = (0, 0); now = k }) ∙ ap (λ b. cond b w (get_by (λ other. cmp k other.now) m)) (sym (ties key k))

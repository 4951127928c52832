-- a look moves an entry, and a writer through it changes its item alone: neither changes what is weighed
use Rattle.std.proofs.Common.{◌≡◌, ℕ, ◌+◌, ◌≤◌, nat_eq, Bool, true, false, cond, List, [], ◌∷◌, Option, Some, None, refl, sym, ap, ◌∙◌, subst, arith}
use Rattle.std.specs.Option.{option_map_or}
use Rattle.std.specs.Map.{lookup, lookup_entry, remove_entry, set_value}
use Rattle.lru.specs.LruCache.{promoted}
use Rattle.sf_fill_caches.specs.declared.shelf.CacheEntry.{CacheEntry}
use Rattle.sf_fill_caches.specs.Weights.{kept_weight, weight_of, FitsIn}
use Rattle.sf_fill_caches.specs.declared.caches.Which.{Which}
use Rattle.sf_fill_caches.specs.declared.caches.Which.TheVariants.{Main, Hot}
use Rattle.sf_fill_caches.specs.Looks.{set_item, looked}
use Rattle.sf_fill_caches.specs.Trimming.{CachesValue, in_one, removed}
use Rattle.sf_fill_caches.proofs.Weighing.{removes_found, open_found, FitsIn-remove}

module _ {T : Type 0} where
  pub weight_of-set_item : (place : ℕ) (w : T) (es : List (ℕ × CacheEntry T)) → weight_of (set_item place w es) ≡ weight_of es
  weight_of-set_item place w [] = refl
  weight_of-set_item place w (e ∷ es) = elim (nat_eq place e.0) as (λ b. weight_of (cond b ((e.0, record e.1 { item = w }) ∷ es) (e ∷ set_item place w es)) ≡ kept_weight e.1 + weight_of es) [
    | true ↦ refl
    | false ↦ ap (λ n. kept_weight e.1 + n) (weight_of-set_item place w es)
  ]

  pub FitsIn-set_item : (n place : ℕ) (w : T) (es : List (ℕ × CacheEntry T)) → FitsIn n es → FitsIn n (set_item place w es)
  FitsIn-set_item n place w [] f = f
  FitsIn-set_item n place w (e ∷ es) f = elim (nat_eq place e.0) as (λ b. FitsIn n (cond b ((e.0, record e.1 { item = w }) ∷ es) (e ∷ set_item place w es))) [
    | true ↦ f
    | false ↦ (f.0, f.1, FitsIn-set_item n place w es f.2)
  ]

  fits_found : (n : ℕ) (test : ℕ → Bool) (es : List (ℕ × CacheEntry T)) (e : ℕ × CacheEntry T) → lookup_entry test es ≡ Some e → FitsIn n es → (1 ≤ e.0) × (e.0 ≤ n)
  fits_found n test [] e h f = cc
  fits_found n test (x ∷ es) e h f = (elim (test x.0) as (λ b. cond b (Some x) (lookup_entry test es) ≡ Some e → (1 ≤ e.0) × (e.0 ≤ n)) [
    | true ↦ λ s. let same : x ≡ e = cc in subst (λ (y : ℕ × CacheEntry T). (1 ≤ y.0) × (y.0 ≤ n)) same (f.0, f.1)
    | false ↦ λ s. fits_found n test es e s f.2
  ]) h

  pub weight_of-promoted : (test : ℕ → Bool) (es : List (ℕ × CacheEntry T)) → weight_of (promoted test es) ≡ weight_of es
  weight_of-promoted test es = (elim (lookup_entry test es) as (λ o. lookup_entry test es ≡ o → weight_of (option_map_or (λ (e : ℕ × CacheEntry T). e ∷ remove_entry test es) o es) ≡ weight_of es) [
    | None ↦ λ h. refl
    | Some e ↦ λ h. omega (arith, removes_found test es e.1 (open_found test es e h).1)
  ]) refl

  pub FitsIn-promoted : (n : ℕ) (test : ℕ → Bool) (es : List (ℕ × CacheEntry T)) → FitsIn n es → FitsIn n (promoted test es)
  FitsIn-promoted n test es f = (elim (lookup_entry test es) as (λ o. lookup_entry test es ≡ o → FitsIn n (option_map_or (λ (e : ℕ × CacheEntry T). e ∷ remove_entry test es) o es)) [
    | None ↦ λ h. f
    | Some e ↦ λ h. let on = fits_found n test es e h f in (on.0, on.1, FitsIn-remove n test es f)
  ]) refl

  pub weight_of-looked : (place : ℕ) (w : T) (es : List (ℕ × CacheEntry T)) → weight_of (looked place w es) ≡ weight_of es
  weight_of-looked place w es = weight_of-set_item place w (promoted (nat_eq place) es) ∙ weight_of-promoted (nat_eq place) es

  pub FitsIn-looked : (n place : ℕ) (w : T) (es : List (ℕ × CacheEntry T)) → FitsIn n es → FitsIn n (looked place w es)
  FitsIn-looked n place w es f = FitsIn-set_item n place w (promoted (nat_eq place) es) (FitsIn-promoted n (nat_eq place) es f)

  found_promoted : (test : ℕ → Bool) (es : List (ℕ × CacheEntry T)) (k : CacheEntry T) → lookup test es ≡ Some k → lookup test (promoted test es) ≡ Some k
  found_promoted test es k h = (elim (lookup_entry test es) as (λ o. lookup_entry test es ≡ o → lookup test (option_map_or (λ (e : ℕ × CacheEntry T). e ∷ remove_entry test es) o es) ≡ Some k) [
    | None ↦ λ s. h
    | Some e ↦ λ s. let on = open_found test es e s in let t = on.0 in rw t (sym on.1 ∙ h)
  ]) refl

  writes_item : (place : ℕ) (es : List (ℕ × CacheEntry T)) (k : CacheEntry T) (w : T) → lookup (nat_eq place) es ≡ Some k → set_value (nat_eq place) es (record k { item = w }) ≡ set_item place w es
  writes_item place [] k w h = refl
  writes_item place (e ∷ es) k w h = (elim (nat_eq place e.0) as (λ b. cond b (Some e.1) (lookup (nat_eq place) es) ≡ Some k → cond b ((e.0, record k { item = w }) ∷ es) (e ∷ set_value (nat_eq place) es (record k { item = w })) ≡ cond b ((e.0, record e.1 { item = w }) ∷ es) (e ∷ set_item place w es)) [
    | true ↦ λ s. let same : k ≡ e.1 = cc in ap (λ (y : CacheEntry T). (e.0, record y { item = w }) ∷ es) same
    | false ↦ λ s. ap (λ l. e ∷ l) (writes_item place es k w s)
  ]) h

  -- what the map writes back is what the look says
  pub looks_at : (place : ℕ) (es : List (ℕ × CacheEntry T)) (k : CacheEntry T) (w : T) → lookup (nat_eq place) es ≡ Some k → set_value (nat_eq place) (promoted (nat_eq place) es) (record k { item = w }) ≡ looked place w es
  looks_at place es k w h = writes_item place (promoted (nat_eq place) es) k w (found_promoted (nat_eq place) es k h)

  set_then_removed : (place : ℕ) (w : T) (es : List (ℕ × CacheEntry T)) → remove_entry (nat_eq place) (set_item place w es) ≡ remove_entry (nat_eq place) es
  set_then_removed place w [] = refl
  set_then_removed place w (e ∷ es) = (elim (nat_eq place e.0) as (λ b. nat_eq place e.0 ≡ b → remove_entry (nat_eq place) (cond b ((e.0, record e.1 { item = w }) ∷ es) (e ∷ set_item place w es)) ≡ cond b es (e ∷ remove_entry (nat_eq place) es)) [
    | true ↦ λ t. rw t refl
    | false ↦ λ t. rw t (ap (λ l. e ∷ l) (set_then_removed place w es))
  ]) refl

  promoted_then_removed : (test : ℕ → Bool) (es : List (ℕ × CacheEntry T)) → remove_entry test (promoted test es) ≡ remove_entry test es
  promoted_then_removed test es = (elim (lookup_entry test es) as (λ o. lookup_entry test es ≡ o → remove_entry test (option_map_or (λ (e : ℕ × CacheEntry T). e ∷ remove_entry test es) o es) ≡ remove_entry test es) [
    | None ↦ λ h. refl
    | Some e ↦ λ h. let t = (open_found test es e h).0 in rw t refl
  ]) refl

  -- an entry that was looked at leaves as if it had not been
  pub looked_then_removed : (place : ℕ) (which : Which) (w : T) (old : CachesValue T) → removed which place (in_one (looked place w) which old) ≡ removed which place old
  looked_then_removed place Main w old = ap (λ (es : List (ℕ × CacheEntry T)). let c : CachesValue T = record old { main = es } in c) (set_then_removed place w (promoted (nat_eq place) old.main) ∙ promoted_then_removed (nat_eq place) old.main)
  looked_then_removed place Hot w old = ap (λ (es : List (ℕ × CacheEntry T)). let c : CachesValue T = record old { hot = es } in c) (set_then_removed place w (promoted (nat_eq place) old.hot) ∙ promoted_then_removed (nat_eq place) old.hot)

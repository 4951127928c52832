-- Entries of a list, as names, and what one more of them changes.
use Rattle.std.proofs.Common.{◌≡◌, ◌≢◌, ℕ, zero, suc, ◌<◌, inl, inr, Bool, true, false, cond, ◌||◌, eqb, eq-eqb, ne_eqb, List, [], ◌∷◌, ◌++◌, map, length, get_or, refl, sym, ap, ◌∙◌, subst, append_assoc, arith}
use mathlib.Core.Logic.{dite}
use native.Mathlib.Decide.{ℕ_discrete}
use Rattle.std.specs.List.{Contains, AllPairs}
use Rattle.std.proofs.lemmas.List.{map-append, length-map}
use Rattle.std.proofs.Math.ListN.{get_or-map}
use Rattle.std.proofs.lemmas.List.Elements.{Contains-append_left, filter-append}
use Rattle.std.proofs.lemmas.List.Folds.{list_any-append}
use Rattle.sf_dir.specs.declared.rule.Entry.{Entry}
use Rattle.sf_dir.specs.Names.{Name, names_by}
use Rattle.sf_dir.specs.Rule.{name_of, names_of, own_names, IsNamed, is_named, AllHeard}
use Rattle.sf_lists.proofs.Ends.{sides}

pub Contains-map : {A B : Type 0} (f : A → B) (xs : List A) (x : A) → Contains xs x → Contains (map f xs) (f x)
Contains-map f xs x h = (h.0, subst (λ n. h.0 < n) (sym (length-map xs f)) h.1, get_or-map f xs h.0 x ∙ ap f h.2)

-- what stands in a mapped list is the image of what stands in the list
pub Contains-unmap : {A B : Type 0} (f : A → B) (xs : List A) (y : B) → Contains (map f xs) y → (x : A) × Contains xs x × (f x ≡ y)
Contains-unmap f xs y h = at f xs h.0 y h.1 h.2
  where
    at : {A B : Type 0} (f : A → B) (xs : List A) (k : ℕ) (y : B) → k < length (map f xs) → get_or (map f xs) k y ≡ y → (z : A) × Contains xs z × (f z ≡ y)
    at f [] k y lt e = absurd (omega arith)
    at f (x ∷ xs) zero y lt e = (x, (0, omega arith, refl), e)
    at f (x ∷ xs) (suc k) y lt e = let r = at f xs k y (omega arith) e in let lt' = r.1.1 in (r.0, (suc (r.1.0), omega arith, r.1.2), r.2)

-- two names of a list at one place are one
pub pairs_one : {A B : Type 0} (f : A → B) (xs : List A) (x y : A) → AllPairs (λ a b. f a ≢ f b) xs → Contains xs x → Contains xs y → f x ≡ f y → x ≡ y
pairs_one {A} {B} f xs x y apart hx hy e = dite (ℕ_discrete hx.0 hy.0)
    (λ same. sym hx.2 ∙ (at_one xs hx.0 hy.0 x y same hx.1 ∙ hy.2))
    (λ d. absurd (elim (sides hx.0 hy.0 d) [
      | inl lt ↦ apart hx.0 hy.0 x lt hy.1 (ap f (hx.2) ∙ (e ∙ ap f (sym (other xs hy.0 x y hy.1 hy.2))))
      | inr lt ↦ apart hy.0 hx.0 y lt hx.1 (ap f (hy.2) ∙ (sym e ∙ ap f (sym (other xs hx.0 y x hx.1 hx.2))))
    ]))
  where
    other : (xs : List A) (k : ℕ) (d v : A) → k < length xs → get_or xs k v ≡ v → get_or xs k d ≡ v
    other [] k d v lt e = absurd (omega arith)
    other (z ∷ zs) zero d v lt e = e
    other (z ∷ zs) (suc k) d v lt e = other zs k d v (omega arith) e

    at_one : (xs : List A) (i j : ℕ) (x y : A) → i ≡ j → i < length xs → get_or xs i x ≡ get_or xs j y
    at_one [] i j x y e lt = absurd (omega arith)
    at_one (z ∷ zs) zero zero x y e lt = refl
    at_one (z ∷ zs) zero (suc j) x y e lt = absurd (omega arith)
    at_one (z ∷ zs) (suc i) zero x y e lt = absurd (omega arith)
    at_one (z ∷ zs) (suc i) (suc j) x y e lt = at_one zs i j x y (omega arith) (omega arith)

pub names_append : (xs ys : List Entry) → names_of (xs ++ ys) ≡ names_of xs ++ names_of ys
names_append xs ys = map-append name_of xs ys

pub own_append : (d : ℕ) (xs ys : List Entry) → own_names d (xs ++ ys) ≡ own_names d xs ++ own_names d ys
own_append d xs ys = ap (names_by d) (names_append xs ys) ∙ filter-append (λ (n : Name). eqb n.by d) (names_of xs) (names_of ys)

pub own_one : (d : ℕ) (e : Entry) → e.by ≡ d → own_names d (e ∷ []) ≡ name_of e ∷ []
own_one d e is = ap (λ b. cond b (name_of e ∷ []) []) (eq-eqb e.by d is)

pub own_other : (d : ℕ) (e : Entry) → e.by ≢ d → own_names d (e ∷ []) ≡ []
own_other d e is = ap (λ b. cond b (name_of e ∷ []) []) (ne_eqb e.by d is)

pub named_longer : (xs ys : List Entry) (p : ℕ) → IsNamed xs p → IsNamed (xs ++ ys) p
named_longer xs ys p n = (n.0, Contains-append_left xs ys n.0 n.1, n.2)

pub is_named_none : (h : List Entry) (p : ℕ) → ¬ (IsNamed h p) → is_named h p ≡ false
is_named_none [] p none = refl
is_named_none (e ∷ h) p none = dite (ℕ_discrete e.place p)
    (λ is. absurd (none (e, (0, omega arith, refl), is)))
    (λ d. ap (λ b. b || is_named h p) (ne_eqb e.place p d) ∙ is_named_none h p (λ n. none (later n)))
  where
    later : IsNamed h p → IsNamed (e ∷ h) p
    later n = let lt = n.1.1 in (n.0, (suc (n.1.0), omega arith, n.1.2), n.2)

or_true : (b : Bool) → (b || true) ≡ true
or_true true = refl
or_true false = refl

or_false : (b : Bool) → (b || false) ≡ b
or_false true = refl
or_false false = refl

pub is_named_here : (h : List Entry) (e : Entry) (p : ℕ) → e.place ≡ p → is_named (h ++ e ∷ []) p ≡ true
is_named_here h e p is = list_any-append (λ (x : Entry). eqb x.place p) h (e ∷ []) ∙ (ap (λ b. is_named h p || (b || false)) (eq-eqb e.place p is) ∙ or_true (is_named h p))

pub is_named_else : (h : List Entry) (e : Entry) (p : ℕ) → e.place ≢ p → is_named (h ++ e ∷ []) p ≡ is_named h p
is_named_else h e p is = list_any-append (λ (x : Entry). eqb x.place p) h (e ∷ []) ∙ (ap (λ b. is_named h p || (b || false)) (ne_eqb e.place p is) ∙ or_false (is_named h p))

-- prefixes
pub heard_longer : (h more : List Entry) (ts : List (List Entry)) → AllHeard h ts → AllHeard (h ++ more) ts
heard_longer h more [] a = tt
heard_longer h more (t ∷ ts) a = ((a.0.0 ++ more, ap (λ z. z ++ more) a.0.1 ∙ append_assoc t a.0.0 more), heard_longer h more ts a.1)

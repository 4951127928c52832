-- facts on lists that grow at their end
use Rattle.std.proofs.Common.{◌≡◌, Bool, true, false, ◌||◌, List, [], ◌∷◌, ◌++◌, ◌⊎◌, inl, inr, refl, sym, ◌∙◌, ap, subst, append_assoc}
use Rattle.std.proofs.Math.Bool.{or-false}
use Rattle.std.proofs.lemmas.List.{append-nil}
use Rattle.std.proofs.lemmas.List.Folds.{list_any-append}
use Rattle.std.proofs.lemmas.Bool.{or_cases, or_parts, or_from, or_left, or_right}
use Rattle.std.specs.List.{list_any}

-- where one more element is split off, it is the last one or an earlier one
pub push_split : {X : Type 0} (h p q : List X) (x y : X) → h ++ x ∷ [] ≡ p ++ y ∷ q → ((p ≡ h) × (y ≡ x)) ⊎ ((r : List X) × (h ≡ p ++ y ∷ r))
push_split [] [] q x y e = inl (refl, cc)
push_split [] (a ∷ []) q x y e = cc
push_split [] (a ∷ b ∷ p) q x y e = cc
push_split (a ∷ h) [] q x y e = let heads : a ≡ y = cc in inr (h, ap (λ z. z ∷ h) heads)
push_split (a ∷ h) (b ∷ p) q x y e =
    let heads : a ≡ b = cc in
    let tails : h ++ x ∷ [] ≡ p ++ y ∷ q = cc in
    elim (push_split h p q x y tails) [
      | inl w ↦ inl (ap (λ z. b ∷ z) w.0 ∙ ap (λ z. z ∷ h) (sym heads), w.1)
      | inr w ↦ inr (w.0, ap (λ z. z ∷ h) heads ∙ ap (λ z. b ∷ z) w.1)
    ]

-- an induction from the empty list on, and from each list to one with one more at its end
pub by_push : {X : Type 0} (P : List X → Type 0) → P [] → ((h : List X) (x : X) → P h → P (h ++ x ∷ [])) → (h : List X) → P h
by_push {X} P none more h = from P none more [] h none
  where
    from : (P : List X → Type 0) → P [] → ((h : List X) (x : X) → P h → P (h ++ x ∷ [])) → (a h : List X) → P a → P (a ++ h)
    from P none more a [] pa = subst P (sym (append-nil a)) pa
    from P none more a (x ∷ h) pa = subst P (append_assoc a (x ∷ []) h) (from P none more (a ++ x ∷ []) h (more a x pa))

-- a test of some element, with one more element
pub list_any_push : {X : Type 0} (p : X → Bool) (h : List X) (x : X) → list_any p (h ++ x ∷ []) ≡ (list_any p h || p x)
list_any_push p h x = list_any-append p h (x ∷ []) ∙ ap (λ b. list_any p h || b) (or-false (p x))

pub list_any_push_cases : {X : Type 0} (p : X → Bool) (h : List X) (x : X) → list_any p (h ++ x ∷ []) ≡ true → (list_any p h ≡ true) ⊎ (p x ≡ true)
list_any_push_cases p h x is = or_cases _ _ (sym (list_any_push p h x) ∙ is)

pub list_any_push_parts : {X : Type 0} (p : X → Bool) (h : List X) (x : X) → list_any p (h ++ x ∷ []) ≡ false → (list_any p h ≡ false) × (p x ≡ false)
list_any_push_parts p h x is = or_parts _ _ (sym (list_any_push p h x) ∙ is)

pub list_any_push_none : {X : Type 0} (p : X → Bool) (h : List X) (x : X) → list_any p h ≡ false → p x ≡ false → list_any p (h ++ x ∷ []) ≡ false
list_any_push_none p h x before last = list_any_push p h x ∙ or_from _ _ before last

pub list_any_push_kept : {X : Type 0} (p : X → Bool) (h : List X) (x : X) → list_any p h ≡ true → list_any p (h ++ x ∷ []) ≡ true
list_any_push_kept p h x is = list_any_push p h x ∙ or_left _ _ is

pub list_any_push_last : {X : Type 0} (p : X → Bool) (h : List X) (x : X) → p x ≡ true → list_any p (h ++ x ∷ []) ≡ true
list_any_push_last p h x is = list_any_push p h x ∙ or_right _ _ is

-- who joined a call, and that different callers are few
use Rattle.std.proofs.Common.{◌≡◌, ◌≢◌, ℕ, ◌+◌, ◌<◌, ◌≤◌, Bool, true, false, ◌||◌, List, [], ◌∷◌, ◌++◌, length, map, inl, inr, refl, sym, ◌∙◌, ap, arith}
use Rattle.std.proofs.lemmas.List.{length-map}
use Rattle.std.proofs.lemmas.List.Sums.{sum_by_push}
use Rattle.std.proofs.lemmas.Bool.{eqb-true, ne_eqb, or_cases}
use Rattle.std.proofs.lemmas.Map.Steps.{length-le_from_distinct_below}
use Rattle.std.proofs.Math.Dec.{eqb}
use Rattle.std.specs.Prelude.{cond, fold}
use Rattle.std.specs.List.{list_any, IsDistinct, AllByRecursion}
use Rattle.sf_history.specs.declared.call.CallId.{CallId}
use Rattle.sf_history.specs.declared.event.Event.{Event}
use Rattle.sf_history.specs.declared.event.Event.TheVariants.{Lead, Enter, Forget, ForgetCall, Settle, Handed}
use Rattle.sf_history.specs.Calls.{same_call}
use Rattle.sf_history.specs.History.{enters, joined}
use Rattle.sf_lists.proofs.Lists.{by_push}
use Rattle.sf_history.proofs.LegalHistories.{fold_push}

-- the predicate holds of each call of the list
abbrev pub Each : (CallId → Type 0) → List CallId → Type 0
Each P [] = Unit {0}
Each P (m ∷ l) = P m × Each P l

pub each_map : (P Q : CallId → Type 0) → ((m : CallId) → P m → Q m) → (l : List CallId) → Each P l → Each Q l
each_map P Q f [] is = tt
each_map P Q f (m ∷ l) is = (f m is.0, each_map P Q f l is.1)

pub each_both : (P Q R : CallId → Type 0) → ((m : CallId) → P m → Q m → R m) → (l : List CallId) → Each P l → Each Q l → Each R l
each_both P Q R f [] p q = tt
each_both P Q R f (m ∷ l) p q = (f m p.0 q.0, each_both P Q R f l p.1 q.1)

-- a call of another caller
abbrev pub IsApart : CallId → CallId → Type 0
IsApart m n = n.caller ≢ m.caller

-- the calls are of different callers
abbrev pub Apart : List CallId → Type 0
Apart [] = Unit {0}
Apart (m ∷ l) = Each (IsApart m) l × Apart l

-- who are the callers of these calls
abbrev callers_of : List CallId → List ℕ
callers_of l = map (λ (m : CallId). m.caller) l

apart_callers : (m : CallId) (l : List CallId) → Each (IsApart m) l → AllByRecursion (λ n. eqb m.caller n ≡ false) (callers_of l)
apart_callers m [] far = tt
apart_callers m (n ∷ l) far = (ne_eqb m.caller n.caller (λ e. far.0 (sym e)), apart_callers m l far.1)

distinct_callers : (l : List CallId) → Apart l → IsDistinct eqb (callers_of l)
unfolding IsDistinct
distinct_callers [] apart = tt
distinct_callers (m ∷ l) apart = (apart_callers m l apart.0, distinct_callers l apart.1)

-- a member of a call that a leads among n callers
abbrev pub IsOther : ℕ → ℕ → CallId → Type 0
IsOther a n m = (m.caller ≢ a) × (1 ≤ m.caller) × (m.caller ≤ n)

no_zero : (a n : ℕ) (l : List CallId) → Each (IsOther a n) l → AllByRecursion (λ q. eqb 0 q ≡ false) (callers_of l)
no_zero a n [] others = tt
no_zero a n (m ∷ l) others = (ne_eqb 0 m.caller (λ (e : 0 ≡ m.caller). let low : 1 ≤ m.caller = others.0.1 in absurd (omega (arith, e))), no_zero a n l others.1)

no_leader : (a n : ℕ) (l : List CallId) → Each (IsOther a n) l → AllByRecursion (λ q. eqb a q ≡ false) (callers_of l)
no_leader a n [] others = tt
no_leader a n (m ∷ l) others = (ne_eqb a m.caller (λ (e : a ≡ m.caller). others.0.0 (sym e)), no_leader a n l others.1)

distinct_line : (a n : ℕ) (l : List CallId) → 1 ≤ a → Each (IsOther a n) l → Apart l → IsDistinct eqb (0 ∷ a ∷ callers_of l)
unfolding IsDistinct
distinct_line a n l low others apart = ((ne_eqb 0 a (λ (e : 0 ≡ a). absurd (omega (arith, e))), no_zero a n l others), (no_leader a n l others, distinct_callers l apart))

below_callers : (a n : ℕ) (l : List CallId) → Each (IsOther a n) l → (q : ℕ) → list_any (eqb q) (callers_of l) ≡ true → q < n + 1
below_callers a n [] others q is = cc
below_callers a n (m ∷ l) others q is = elim (or_cases (eqb q m.caller) (list_any (eqb q) (callers_of l)) is) [
  | inl here ↦ let same : q ≡ m.caller = eqb-true q m.caller here in let high : m.caller ≤ n = others.0.2 in omega arith
  | inr later ↦ below_callers a n l others.1 q later
]

-- a leader and its members are different callers, so there are not more of them than callers
pub few : (a n : ℕ) (l : List CallId) → 1 ≤ a → a ≤ n → Each (IsOther a n) l → Apart l → length l + 1 ≤ n
few a n l low high others apart =
    let most : length (0 ∷ a ∷ callers_of l) ≤ n + 1 = length-le_from_distinct_below (0 ∷ a ∷ callers_of l) (n + 1) (distinct_line a n l low others apart) below in
    let same : length (callers_of l) ≡ length l = length-map l (λ (m : CallId). m.caller) in
    omega arith
  where
    below : (q : ℕ) → list_any (eqb q) (0 ∷ a ∷ callers_of l) ≡ true → q < n + 1
    below q is = elim (or_cases (eqb q 0) (eqb q a || list_any (eqb q) (callers_of l)) is) [
      | inl zero ↦ let same : q ≡ 0 = eqb-true q 0 zero in omega arith
      | inr more ↦ elim (or_cases (eqb q a) (list_any (eqb q) (callers_of l)) more) [
        | inl leader ↦ let same : q ≡ a = eqb-true q a leader in omega arith
        | inr later ↦ below_callers a n l others q later
      ]
    ]

-- one more member
more_members : (l : List CallId) (m : CallId) (b : Bool) → length l + cond {A = ℕ} b 1 0 ≡ length (cond b (m ∷ l) l)
more_members l m true = omega arith
more_members l m false = omega arith

module _ {K V : Type 0} where
  -- what an event leaves of the members of a call
  abbrev pub joins : CallId → List CallId → Event K V → List CallId
  joins c found (Lead by key call own) = found
  joins c found (Enter by key call member) = cond (same_call call c) (member ∷ found) found
  joins c found (Forget by key closed) = found
  joins c found (ForgetCall by key call hit) = found
  joins c found (Settle by call result joiners) = found
  joins c found (Handed by call) = found

  -- who joined the call, the newest first
  abbrev pub members : List (Event K V) → CallId → List CallId
  members h c = fold (joins c) [] h

  pub members_push : (h : List (Event K V)) (e : Event K V) (c : CallId) → members (h ++ e ∷ []) c ≡ joins c (members h c) e
  members_push h e c = fold_push (joins c) [] h e

  -- an event that is no Enter on the call leaves its members
  pub members_kept : (h : List (Event K V)) (e : Event K V) (c : CallId) → enters c e ≡ false → members (h ++ e ∷ []) c ≡ members h c
  members_kept h e c none = members_push h e c ∙ at e none
    where
      at : (e : Event K V) → enters c e ≡ false → joins c (members h c) e ≡ members h c
      at (Lead by key call own) none = refl
      at (Enter by key call member) none = ap (λ (b : Bool). cond b (member ∷ members h c) (members h c)) none
      at (Forget by key closed) none = refl
      at (ForgetCall by key call hit) none = refl
      at (Settle by call result joiners) none = refl
      at (Handed by call) none = refl

  -- one more event
  pub joined_push : (h : List (Event K V)) (e : Event K V) (c : CallId) → joined (h ++ e ∷ []) c ≡ joined h c + cond {A = ℕ} (enters c e) 1 0
  joined_push h e c = sum_by_push (λ (x : Event K V). cond {A = ℕ} (enters c x) 1 0) h e

  -- an event that is no Enter on the call leaves its number of joiners
  pub joined_kept : (h : List (Event K V)) (e : Event K V) (c : CallId) → enters c e ≡ false → joined (h ++ e ∷ []) c ≡ joined h c
  joined_kept h e c none =
      let push = joined_push h e c in
      let zero_more : cond {A = ℕ} (enters c e) 1 0 ≡ 0 = ap (λ (b : Bool). cond {A = ℕ} b 1 0) none in
      omega arith

  -- as many joined a call as it has members
  pub joined_members : (h : List (Event K V)) (c : CallId) → joined h c ≡ length (members h c)
  joined_members h c = by_push (λ (h : List (Event K V)). joined h c ≡ length (members h c)) refl step h
    where
      at : (h : List (Event K V)) (e : Event K V) → length (members h c) + cond {A = ℕ} (enters c e) 1 0 ≡ length (joins c (members h c) e)
      at h (Lead by key call own) = omega arith
      at h (Enter by key call member) = more_members (members h c) member (same_call call c)
      at h (Forget by key closed) = omega arith
      at h (ForgetCall by key call hit) = omega arith
      at h (Settle by call result joiners) = omega arith
      at h (Handed by call) = omega arith

      step : (h : List (Event K V)) (e : Event K V) → joined h c ≡ length (members h c) → joined (h ++ e ∷ []) c ≡ length (members (h ++ e ∷ []) c)
      step h e is =
          joined_push h e c ∙ (ap (λ (n : ℕ). n + cond {A = ℕ} (enters c e) 1 0) is ∙ (at h e ∙ ap (λ (l : List CallId). length l) (sym (members_push h e c))))

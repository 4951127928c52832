-- moments of a legal history: a call's Lead stands once in it, and a call is current when it has been led or entered
use Rattle.std.proofs.Common.{◌≡◌, ℕ, nat_eq, ◌==◌, Bool, cond, eq-eqb, true, false, ◌&&◌, List, [], ◌∷◌, ◌++◌, ◌⊎◌, inl, inr, Option, Some, None, refl, sym, ap, ◌∙◌, append_assoc}
use Rattle.std.proofs.lemmas.Cmp.{nat_eq_equiv}
use Rattle.std.proofs.lemmas.Bool.{or_left, or_right, or_from, eqb-true}
use Rattle.std.proofs.lemmas.List.{append_cancel_left}
use Rattle.std.proofs.lemmas.List.Elements.{filter-append}
use Rattle.std.proofs.lemmas.List.Folds.{list_any-append}
use Rattle.std.specs.List.{list_any}
use Rattle.sf_history.specs.declared.call.CallId.{CallId}
use Rattle.sf_history.specs.declared.event.Event.{Event}
use Rattle.sf_history.specs.declared.event.Event.TheVariants.{Lead, Enter, Forget, ForgetCall, Settle, Handed}
use Rattle.sf_history.specs.declared.event.Hit.{Hit}
use Rattle.sf_history.specs.Calls.{same_call}
use Rattle.sf_history.specs.History.{names, holds_call, has_ended, maker, own_events, keeps_current, current_call}
use Rattle.sf_history.proofs.Currents.{open_is_current}
use Rattle.sf_history.specs.Legal.{IsLegal}
use Rattle.sf_history.proofs.LegalHistories.{same_call_self, fold_push}
use Rattle.sf_lists.proofs.Lists.{by_push}
use Rattle.sf_group_rows.specs.Seen.{StartsWith, Stands}
use Rattle.sf_group_rows.specs.Unforgotten.{forgets, IsUnforgotten}

-- one list split at two elements: at the same place, or at one earlier
two_splits : {X : Type 0} (p q r s : List X) (x y : X) → p ++ x ∷ q ≡ r ++ y ∷ s
    → ((p ≡ r) × (x ≡ y) × (q ≡ s)) ⊎ (((t : List X) × (r ≡ p ++ x ∷ t) × (q ≡ t ++ y ∷ s)) ⊎ ((t : List X) × (p ≡ r ++ y ∷ t) × (s ≡ t ++ x ∷ q)))
two_splits [] q [] s x y e = let heads : x ≡ y = cc in let tails : q ≡ s = cc in inl (refl, heads, tails)
two_splits [] q (b ∷ r) s x y e = let heads : x ≡ b = cc in let tails : q ≡ r ++ y ∷ s = cc in inr (inl (r, ap (λ z. z ∷ r) (sym heads), tails))
two_splits (a ∷ p) q [] s x y e = let heads : a ≡ y = cc in let tails : p ++ x ∷ q ≡ s = cc in inr (inr (p, ap (λ z. z ∷ p) heads, sym tails))
two_splits (a ∷ p) q (b ∷ r) s x y e =
    let heads : a ≡ b = cc in
    let tails : p ++ x ∷ q ≡ r ++ y ∷ s = cc in
    elim (two_splits p q r s x y tails) [
      | inl w ↦ inl (ap (λ z. z ∷ p) heads ∙ ap (λ z. b ∷ z) w.0, w.1, w.2)
      | inr (inl w) ↦ inr (inl (w.0, ap (λ z. z ∷ r) (sym heads) ∙ ap (λ z. a ∷ z) w.1, w.2))
      | inr (inr w) ↦ inr (inr (w.0, ap (λ z. z ∷ p) heads ∙ ap (λ z. b ∷ z) w.1, w.2))
    ]

module _ {V : Type 0} where
  -- a call that was led before is not new
  led_again : (h p t q : List (Event ℕ V)) (by key one other : ℕ) (c : CallId) (own second : Option CallId) → IsLegal nat_eq h → h ≡ (p ++ Lead by key c own ∷ t) ++ Lead one other c second ∷ q → ⊥
  led_again h p t q by key one other c own second legal is =
      let new : list_any (names c) (p ++ Lead by key c own ∷ t) ≡ false = (legal (p ++ Lead by key c own ∷ t) q (Lead one other c second) is).1 in
      let named : list_any (names c) (p ++ Lead by key c own ∷ t) ≡ true =
      list_any-append (names c) p (Lead by key c own ∷ t) ∙ or_right (list_any (names c) p) _ (or_left _ _ (or_left (same_call c c) (holds_call own c) (same_call_self c))) in
      let clash : true ≡ false = sym named ∙ new in
      cc

  -- the Lead of a call stands once in a legal history
  pub led_once : (h p q r s : List (Event ℕ V)) (by key one other : ℕ) (c : CallId) (own second : Option CallId) → IsLegal nat_eq h
      → h ≡ p ++ Lead by key c own ∷ q → h ≡ r ++ Lead one other c second ∷ s → (p ≡ r) × (◌≡◌ {A = Event ℕ V} (Lead by key c own) (Lead one other c second)) × (q ≡ s)
  led_once h p q r s by key one other c own second legal first then =
      elim (two_splits p q r s (Lead by key c own) (Lead one other c second) (sym first ∙ then)) [
        | inl w ↦ w
        | inr (inl w) ↦ absurd (led_again h p w.0 s by key one other c own second legal (then ∙ ap (λ l. l ++ Lead one other c second ∷ s) w.1))
        | inr (inr w) ↦ absurd (led_again h r w.0 q one other by key c second own legal (first ∙ ap (λ l. l ++ Lead by key c own ∷ q) w.1))
      ]

  -- what was unforgotten still is after events that are no Forget of the place
  pub unforgotten_after : (k : ℕ) (c : CallId) (h more : List (Event ℕ V)) → IsUnforgotten k c h → list_any (forgets k) more ≡ false → IsUnforgotten k c (h ++ more)
  unforgotten_after k c h more u none = record {
    before = u.before;
    by = u.by;
    own = u.own;
    after = u.after ++ more;
    led = ap (λ l. l ++ more) u.led ∙ append_assoc u.before (Lead u.by k c u.own ∷ u.after) more;
    since = list_any-append (forgets k) u.after more ∙ or_from _ _ u.since none;
  }

  -- the current call is unforgotten
  pub current_unforgotten : (h : List (Event ℕ V)) (k : ℕ) (c : CallId) → current_call nat_eq h k ≡ Some c → IsUnforgotten k c h
  current_unforgotten h k c = by_push (λ (h : List (Event ℕ V)). current_call nat_eq h k ≡ Some c → IsUnforgotten k c h) (λ is. cc) step h
    where
      at_lead : (h : List (Event ℕ V)) (by key : ℕ) (call : CallId) (own : Option CallId) → (current_call nat_eq h k ≡ Some c → IsUnforgotten k c h)
          → (b : Bool) → nat_eq key k ≡ b → cond b (Some call) (current_call nat_eq h k) ≡ Some c → IsUnforgotten k c (h ++ Lead by key call own ∷ [])
      at_lead h by key call own before true on is =
          let calls : call ≡ c = cc in
          let keys : key ≡ k = eqb-true _ _ on in
          record {
            before = h;
            by = by;
            own = own;
            after = [];
            led = ap (λ z. h ++ Lead by key z own ∷ []) calls ∙ ap (λ z. h ++ Lead by z c own ∷ []) keys;
            since = refl;
          }
      at_lead h by key call own before false on is = unforgotten_after k c h (Lead by key call own ∷ []) (before is) refl

      at_forget : (h : List (Event ℕ V)) (by key : ℕ) (closed : Option CallId) → (current_call nat_eq h k ≡ Some c → IsUnforgotten k c h)
          → (b : Bool) → nat_eq key k ≡ b → cond b None (current_call nat_eq h k) ≡ Some c → IsUnforgotten k c (h ++ Forget by key closed ∷ [])
      at_forget h by key closed before true on is = cc
      at_forget h by key closed before false on is = unforgotten_after k c h (Forget by key closed ∷ []) (before is) (or_from _ _ on refl)

      at_hit : (h : List (Event ℕ V)) (by key : ℕ) (call : CallId) (hit : Hit) → (current_call nat_eq h k ≡ Some c → IsUnforgotten k c h)
          → (b : Bool) → nat_eq key k && has_ended hit ≡ b → cond b None (current_call nat_eq h k) ≡ Some c → IsUnforgotten k c (h ++ ForgetCall by key call hit ∷ [])
      at_hit h by key call hit before true on is = cc
      at_hit h by key call hit before false on is = unforgotten_after k c h (ForgetCall by key call hit ∷ []) (before is) (or_from _ _ on refl)

      step : (h : List (Event ℕ V)) (e : Event ℕ V) → (current_call nat_eq h k ≡ Some c → IsUnforgotten k c h) → current_call nat_eq (h ++ e ∷ []) k ≡ Some c → IsUnforgotten k c (h ++ e ∷ [])
      step h (Lead by key call own) before is = at_lead h by key call own before (nat_eq key k) refl (sym (fold_push (keeps_current nat_eq k) None h _) ∙ is)
      step h (Enter by key call member) before is = unforgotten_after k c h _ (before (sym (fold_push (keeps_current nat_eq k) None h _) ∙ is)) refl
      step h (Forget by key closed) before is = at_forget h by key closed before (nat_eq key k) refl (sym (fold_push (keeps_current nat_eq k) None h _) ∙ is)
      step h (ForgetCall by key call hit) before is = at_hit h by key call hit before (nat_eq key k && has_ended hit) refl (sym (fold_push (keeps_current nat_eq k) None h _) ∙ is)
      step h (Settle by call result joiners) before is = unforgotten_after k c h _ (before (sym (fold_push (keeps_current nat_eq k) None h _) ∙ is)) refl
      step h (Handed by call) before is = unforgotten_after k c h _ (before (sym (fold_push (keeps_current nat_eq k) None h _) ∙ is)) refl

  -- what a legal history begins with is legal
  pub legal_before : (h p : List (Event ℕ V)) → IsLegal nat_eq h → StartsWith h p → IsLegal nat_eq p
  legal_before h p legal begins q r e is = legal q (r ++ begins.0) e (begins.1 ∙ (ap (λ l. l ++ begins.0) is ∙ append_assoc q (e ∷ r) begins.0))

  -- a caller's first own event in a list stands in it
  own_split : (a : ℕ) (h : List (Event ℕ V)) (e : Event ℕ V) (more : List (Event ℕ V)) → own_events a h ≡ e ∷ more → (before : List (Event ℕ V)) × (after : List (Event ℕ V)) × (h ≡ before ++ e ∷ after)
  own_split a [] e more is = cc
  own_split a (x ∷ h) e more is = at (own_split a h e more) (maker x == a) is
    where
      at : (own_events a h ≡ e ∷ more → (before : List (Event ℕ V)) × (after : List (Event ℕ V)) × (h ≡ before ++ e ∷ after)) → (b : Bool) → cond b (x ∷ own_events a h) (own_events a h) ≡ e ∷ more → (before : List (Event ℕ V)) × (after : List (Event ℕ V)) × (x ∷ h ≡ before ++ e ∷ after)
      at on true is = let heads : x ≡ e = cc in ([], h, ap (λ z. z ∷ h) heads)
      at on false is = let found = on is in (x ∷ found.0, found.1, ap (λ z. x ∷ z) found.2)

  -- the first event that a caller added stands after all that it had seen
  pub first_added : (a : ℕ) (old new : List (Event ℕ V)) (e : Event ℕ V) (more : List (Event ℕ V)) → StartsWith new old → own_events a new ≡ own_events a old ++ e ∷ more
      → (between : List (Event ℕ V)) × StartsWith new ((old ++ between) ++ e ∷ [])
  first_added a old new e more begins own =
      let parts : own_events a old ++ own_events a begins.0 ≡ own_events a old ++ e ∷ more = sym (filter-append (λ x. maker x == a) old begins.0) ∙ (ap (own_events a) (sym begins.1) ∙ own) in
      let rest = own_split a begins.0 e more (append_cancel_left (own_events a old) (own_events a begins.0) (e ∷ more) parts) in
      (rest.0, (rest.1, begins.1 ∙ (ap (λ l. old ++ l) rest.2 ∙ (sym (append_assoc old rest.0 (e ∷ rest.1)) ∙ sym (append_assoc (old ++ rest.0) (e ∷ []) rest.1)))))

  -- a call is current when it has been led, and when it has been entered
  pub led_current : (h : List (Event ℕ V)) (by k : ℕ) (c : CallId) (own : Option CallId) → current_call nat_eq (h ++ Lead by k c own ∷ []) k ≡ Some c
  led_current h by k c own = fold_push (keeps_current nat_eq k) None h (Lead by k c own) ∙ ap (λ (b : Bool). cond b (Some c) (current_call nat_eq h k)) (eq-eqb k k refl)

  pub entered_current : (h before : List (Event ℕ V)) (by k : ℕ) (c m : CallId) → IsLegal nat_eq h → StartsWith h (before ++ Enter by k c m ∷ []) → current_call nat_eq (before ++ Enter by k c m ∷ []) k ≡ Some c
  entered_current h before by k c m legal within =
      let is : h ≡ before ++ Enter by k c m ∷ within.0 = within.1 ∙ append_assoc before (Enter by k c m ∷ []) within.0 in
      fold_push (keeps_current nat_eq k) None before (Enter by k c m)
      ∙ open_is_current nat_eq nat_eq_equiv before k c (legal_before h before legal (Enter by k c m ∷ within.0, is)) (legal before within.0 (Enter by k c m) is).2

  -- what stands in a list stands in each that begins with it
  pub stands_more : (e : Event ℕ V) (p h : List (Event ℕ V)) → StartsWith h p → Stands e p → Stands e h
  stands_more e p h w s = (s.0, s.1 ++ w.0, w.1 ∙ (ap (λ l. l ++ w.0) s.2 ∙ append_assoc s.0 (e ∷ s.1) w.0))

  -- what stands in a history goes on to stand
  pub stands_longer : (e : Event ℕ V) (h more : List (Event ℕ V)) → Stands e h → Stands e (h ++ more)
  stands_longer e h more is = (is.0, is.1 ++ more, ap (λ q. q ++ more) is.2 ∙ append_assoc is.0 (e ∷ is.1) more)

  -- an event that a caller made stands in the history
  pub stands_own : (a : ℕ) (h p q : List (Event ℕ V)) (e : Event ℕ V) → own_events a h ≡ p ++ e ∷ q → Stands e h
  stands_own a [] [] q e is = cc
  stands_own a [] (d ∷ p) q e is = cc
  stands_own a (d ∷ h) p q e is = at (maker d == a) p is (stands_own a h p q e) (λ r. stands_own a h r q e)
    where
      at : (b : Bool) (p : List (Event ℕ V)) → cond b (d ∷ own_events a h) (own_events a h) ≡ p ++ e ∷ q → (own_events a h ≡ p ++ e ∷ q → Stands e h) → ((r : List (Event ℕ V)) → own_events a h ≡ r ++ e ∷ q → Stands e h) → Stands e (d ∷ h)
      at true [] is same later = ([], h, let head : d ≡ e = cc in ap (λ (y : Event ℕ V). y ∷ h) head)
      at true (y ∷ r) is same later = let rest = later r (let tail : own_events a h ≡ r ++ e ∷ q = cc in tail) in (d ∷ rest.0, rest.1, ap (λ (ys : List (Event ℕ V)). d ∷ ys) rest.2)
      at false p is same later = let rest = same is in (d ∷ rest.0, rest.1, ap (λ (ys : List (Event ℕ V)). d ∷ ys) rest.2)

-- what stays true of a history when an event that may follow is added
use Rattle.std.proofs.Common.{◌≡◌, ◌≢◌, ℕ, Bool, true, false, ◌==◌, ◌&&◌, List, [], ◌∷◌, ◌++◌, inl, inr, Option, Some, None, refl, sym, ◌∙◌, subst}
use Rattle.std.proofs.lemmas.Bool.{and_parts, and_from, or_left, true≢false}
use Rattle.std.proofs.lemmas.Cmp.{nat_eq_equiv}
use Rattle.std.specs.Prelude.{nat_eq, cond}
use Rattle.std.specs.List.{list_any}
use Rattle.sf_history.specs.declared.call.CallId.{CallId}
use Rattle.sf_history.specs.declared.event.Event.{Event}
use Rattle.sf_history.specs.declared.event.Event.TheVariants.{Lead, Enter, Forget, ForgetCall, Settle, Handed}
use Rattle.sf_history.specs.Calls.{same_call}
use Rattle.sf_history.specs.History.{has_closed, has_ended, holds_call, names, opens, open_call, keeps_current, current_call}
use Rattle.sf_history.specs.Legal.{MayFollow, IsLegal}
use Rattle.sf_lists.proofs.Lists.{by_push, list_any_push_cases, list_any_push_kept, list_any_push_last}
use Rattle.sf_history.proofs.LegalHistories.{same_call_self, fold_push}
use Rattle.sf_history.proofs.Currents.{open_is_current, current_past_push, current_past_longer}
use Rattle.sf_steps_laws.specs.Schedules.{leads_on, was_led_on}

module _ {V : Type 0} where
  -- the call is open
  abbrev pub opened : List (Event ℕ V) → ℕ → Option CallId
  opened h k = open_call nat_eq h k

  -- the call is current
  abbrev pub now : List (Event ℕ V) → ℕ → Option CallId
  now h k = current_call nat_eq h k

  pub opened_push : (h : List (Event ℕ V)) (e : Event ℕ V) (k : ℕ) → opened (h ++ e ∷ []) k ≡ opens nat_eq k (opened h k) e
  opened_push h e k = fold_push (opens nat_eq k) None h e

  pub now_push : (h : List (Event ℕ V)) (e : Event ℕ V) (k : ℕ) → now (h ++ e ∷ []) k ≡ keeps_current nat_eq k (now h k) e
  now_push h e k = fold_push (keeps_current nat_eq k) None h e

  -- a call that was led on a place was named
  pub led_on_named : (h : List (Event ℕ V)) (k : ℕ) (c : CallId) → was_led_on h k c ≡ true → list_any (names c) h ≡ true
  led_on_named h k c = by_push (λ (h : List (Event ℕ V)). was_led_on h k c ≡ true → list_any (names c) h ≡ true) (λ is. cc) step h
    where
      last : (h : List (Event ℕ V)) (e : Event ℕ V) → leads_on k c e ≡ true → list_any (names c) (h ++ e ∷ []) ≡ true
      last h (Lead by key call own) is = list_any_push_last (names c) h (Lead by key call own) (or_left (same_call call c) (holds_call own c) (and_parts (key == k) (same_call call c) is).1)
      last h (Enter by key call member) is = cc
      last h (Forget by key closed) is = cc
      last h (ForgetCall by key call hit) is = cc
      last h (Settle by call result joiners) is = cc
      last h (Handed by call) is = cc

      step : (h : List (Event ℕ V)) (e : Event ℕ V) → (was_led_on h k c ≡ true → list_any (names c) h ≡ true) → was_led_on (h ++ e ∷ []) k c ≡ true → list_any (names c) (h ++ e ∷ []) ≡ true
      step h e before is =
          elim (list_any_push_cases (leads_on k c) h e is) [
            | inl was ↦ list_any_push_kept (names c) h e (before was)
            | inr last_is ↦ last h e last_is
          ]

  -- an open call is current
  pub opened_now : (h : List (Event ℕ V)) (k : ℕ) (c : CallId) → IsLegal nat_eq h → opened h k ≡ Some c → now h k ≡ Some c
  opened_now h k c legal is = open_is_current nat_eq nat_eq_equiv h k c legal is

  -- a current call was led on the place
  pub now_led : (h : List (Event ℕ V)) (k : ℕ) (c : CallId) → now h k ≡ Some c → was_led_on h k c ≡ true
  now_led h k c = by_push (λ (h : List (Event ℕ V)). now h k ≡ Some c → was_led_on h k c ≡ true) (λ is. cc) step h
    where
      at_lead : (h : List (Event ℕ V)) (by key : ℕ) (call : CallId) (own : Option CallId) → (now h k ≡ Some c → was_led_on h k c ≡ true) → (b : Bool) → (key == k) ≡ b
          → cond b (Some call) (now h k) ≡ Some c → was_led_on (h ++ Lead by key call own ∷ []) k c ≡ true
      at_lead h by key call own before true is found =
          let calls : call ≡ c = cc in
          list_any_push_last (leads_on k c) h _ (and_from _ _ is (subst (λ (z : CallId). same_call z c ≡ true) (sym calls) (same_call_self c)))
      at_lead h by key call own before false is found = list_any_push_kept (leads_on k c) h _ (before found)

      at_forget : (h : List (Event ℕ V)) (e : Event ℕ V) → (now h k ≡ Some c → was_led_on h k c ≡ true) → (b : Bool) → cond b None (now h k) ≡ Some c → was_led_on (h ++ e ∷ []) k c ≡ true
      at_forget h e before true found = cc
      at_forget h e before false found = list_any_push_kept (leads_on k c) h e (before found)

      step : (h : List (Event ℕ V)) (e : Event ℕ V) → (now h k ≡ Some c → was_led_on h k c ≡ true) → now (h ++ e ∷ []) k ≡ Some c → was_led_on (h ++ e ∷ []) k c ≡ true
      step h (Lead by key call own) before is = at_lead h by key call own before (key == k) refl (sym (now_push h _ k) ∙ is)
      step h (Enter by key call member) before is = list_any_push_kept (leads_on k c) h _ (before (sym (now_push h _ k) ∙ is))
      step h (Forget by key closed) before is = at_forget h _ before (nat_eq key k) (sym (now_push h _ k) ∙ is)
      step h (ForgetCall by key call hit) before is = at_forget h _ before (nat_eq key k && has_ended hit) (sym (now_push h _ k) ∙ is)
      step h (Settle by call result joiners) before is = list_any_push_kept (leads_on k c) h _ (before (sym (now_push h _ k) ∙ is))
      step h (Handed by call) before is = list_any_push_kept (leads_on k c) h _ (before (sym (now_push h _ k) ∙ is))

  -- a call that was led and is not open will not be open again, nor one that is not current be current
  pub closed_push : (h : List (Event ℕ V)) (e : Event ℕ V) (k : ℕ) (c : CallId) → MayFollow nat_eq h e → was_led_on h k c ≡ true → opened h k ≢ Some c → opened (h ++ e ∷ []) k ≢ Some c
  closed_push h e k c follows led isnt is = at e follows (sym (opened_push h e k) ∙ is)
    where
      at_lead : (call : CallId) → list_any (names call) h ≡ false → (b : Bool) → cond b (Some call) (opened h k) ≡ Some c → ⊥
      at_lead call new true found =
          let calls : call ≡ c = cc in
          let named : list_any (names c) h ≡ true = led_on_named h k c led in
          let none : list_any (names c) h ≡ false = subst (λ (z : CallId). list_any (names z) h ≡ false) calls new in
          true≢false (sym named ∙ none)
      at_lead call new false found = isnt found

      at_none : (b : Bool) → cond b None (opened h k) ≡ Some c → ⊥
      at_none true found = cc
      at_none false found = isnt found

      at : (e : Event ℕ V) → MayFollow nat_eq h e → opens nat_eq k (opened h k) e ≡ Some c → ⊥
      at (Lead by key call own) follows found = at_lead call follows.1 (nat_eq key k) found
      at (Enter by key call member) follows found = isnt found
      at (Forget by key closed) follows found = at_none (nat_eq key k) found
      at (ForgetCall by key call hit) follows found = at_none (nat_eq key k && has_closed hit) found
      at (Settle by call result joiners) follows found = at_none (holds_call (opened h k) call) found
      at (Handed by call) follows found = isnt found

  pub past_push : (h : List (Event ℕ V)) (e : Event ℕ V) (k : ℕ) (c : CallId) → MayFollow nat_eq h e → list_any (names c) h ≡ true → now h k ≢ Some c → now (h ++ e ∷ []) k ≢ Some c
  past_push h e k c follows named isnt = current_past_push nat_eq h e k c follows named isnt

  -- a named call that is not current will not be current again
  pub past_longer : (k : ℕ) (c : CallId) (es h : List (Event ℕ V)) → IsLegal nat_eq (h ++ es) → list_any (names c) h ≡ true → now h k ≢ Some c → now (h ++ es) k ≢ Some c
  past_longer k c es h legal named isnt = current_past_longer nat_eq h es k c legal named isnt

-- what a walk for the open or the current call finds is the call of the last Lead that nothing ended
use Rattle.std.proofs.Common.{◌≡◌, ℕ, Bool, true, false, ◌&&◌, cond, List, [], ◌∷◌, ◌++◌, ◌⊎◌, inl, inr, Option, None, Some, refl, sym, ◌∙◌, ap, subst, append_assoc}
use Rattle.std.proofs.lemmas.Bool.{cond-true, cond-false, or_parts}
use Rattle.std.proofs.lemmas.List.Sums.{fold-append}
use Rattle.std.specs.Prelude.{fold}
use Rattle.std.specs.List.{list_any}
use Rattle.sf_history.specs.declared.call.CallId.{CallId}
use Rattle.sf_history.specs.declared.event.Event.{Event}
use Rattle.sf_history.specs.declared.event.Event.TheVariants.{Lead, Enter, Forget, ForgetCall, Settle, Handed}
use Rattle.sf_history.specs.Calls.{same_call}
use Rattle.sf_history.specs.History.{has_closed, has_ended, holds_call, opens, keeps_current}
use Rattle.sf_history.specs.LastLead.{ends_open, ends_current, IsLastLead, OpenCallIsLastLead, CurrentCallIsLastLead}
use Rattle.sf_lists.proofs.Lists.{by_push, list_any_push_none}
use Rattle.sf_history.proofs.LegalHistories.{other_call, fold_push}

-- an event that may end the call
at_end : (c : CallId) (found : Option CallId) (b : Bool) → cond b None found ≡ Some c → (found ≡ Some c) × (b ≡ false)
at_end c found true is = cc
at_end c found false is = (is, refl)

-- a Settle, as the walk for the open call meets it
at_settle : (c : CallId) (found : Option CallId) (call : CallId) → cond (holds_call found call) None found ≡ Some c → (found ≡ Some c) × (same_call call c ≡ false)
at_settle c found call is =
    let left = at_end c found (holds_call found call) is in
    let other : same_call c call ≡ false = subst (λ (o : Option CallId). holds_call o call ≡ false) left.0 left.1 in
    (left.0, other_call c call other)

module _ {K V : Type 0} (eq : K → K → Bool) (k : K) (c : CallId) where
  -- the event is a Lead of the call on the key
  record LeadsIt (e : Event K V) : Type 0 where
    by : ℕ
    key : K
    own : Option CallId
    is : e ≡ Lead by key c own
    on : eq key k ≡ true

  module _ (walk : Option CallId → Event K V → Option CallId) (ends : Event K V → Bool)
      (keeps : (e : Event K V) → ends e ≡ false → walk (Some c) e ≡ Some c)
      (finds : (found : Option CallId) (e : Event K V) → walk found e ≡ Some c → LeadsIt e ⊎ ((found ≡ Some c) × (ends e ≡ false)))
      (takes : (found : Option CallId) (by : ℕ) (key : K) (own : Option CallId) → eq key k ≡ true → walk found (Lead by key c own) ≡ Some c) where
    -- what ends nothing leaves the call
    lasts_on : (after : List (Event K V)) → list_any ends after ≡ false → fold walk (Some c) after ≡ Some c
    lasts_on [] none = refl
    lasts_on (e ∷ after) none = let parts = or_parts (ends e) (list_any ends after) none in ap (λ o. fold walk o after) (keeps e parts.0) ∙ lasts_on after parts.1

    found_last : (h : List (Event K V)) → IsLastLead eq ends h k c → fold walk None h ≡ Some c
    found_last h last =
        ap (fold walk None) last.stands ∙ fold-append walk None last.before (Lead last.by last.key c last.own ∷ last.after)
        ∙ ap (λ o. fold walk o last.after) (takes (fold walk None last.before) last.by last.key last.own last.on) ∙ lasts_on last.after last.lasts

    -- one more event that ends nothing
    later : (h : List (Event K V)) (e : Event K V) → IsLastLead eq ends h k c → ends e ≡ false → IsLastLead eq ends (h ++ e ∷ []) k c
    later h e last none = record {
      before = last.before;
      after = last.after ++ e ∷ [];
      by = last.by;
      key = last.key;
      own = last.own;
      stands = ap (λ z. z ++ e ∷ []) last.stands ∙ append_assoc last.before (Lead last.by last.key c last.own ∷ last.after) (e ∷ []);
      on = last.on;
      lasts = list_any_push_none ends last.after e last.lasts none;
    }

    -- the Lead is the last event
    now : (h : List (Event K V)) (e : Event K V) → LeadsIt e → IsLastLead eq ends (h ++ e ∷ []) k c
    now h e leads = record {
      before = h;
      after = [];
      by = leads.by;
      key = leads.key;
      own = leads.own;
      stands = ap (λ z. h ++ z ∷ []) leads.is;
      on = leads.on;
      lasts = refl;
    }

    last_found : (h : List (Event K V)) → fold walk None h ≡ Some c → IsLastLead eq ends h k c
    last_found = by_push (λ (h : List (Event K V)). fold walk None h ≡ Some c → IsLastLead eq ends h k c) (λ is. cc) step
      where
        step : (h : List (Event K V)) (e : Event K V) → (fold walk None h ≡ Some c → IsLastLead eq ends h k c) → fold walk None (h ++ e ∷ []) ≡ Some c → IsLastLead eq ends (h ++ e ∷ []) k c
        step h e before is =
            elim (finds (fold walk None h) e (sym (fold_push walk None h e) ∙ is)) [
              | inl leads ↦ now h e leads
              | inr kept ↦ later h e (before kept.0) kept.1
            ]

  -- a Lead, as a walk meets it
  at_lead : (found : Option CallId) (by : ℕ) (key : K) (call : CallId) (own : Option CallId) (b : Bool) → eq key k ≡ b → cond b (Some call) found ≡ Some c
      → LeadsIt (Lead by key call own) ⊎ ((found ≡ Some c) × (eq key k ≡ false))
  at_lead found by key call own true on is =
      let calls : call ≡ c = cc in
      inl (record { by = by; key = key; own = own; is = ap (λ z. Lead by key z own) calls; on = on })
  at_lead found by key call own false on is = inr (is, on)

  open_keeps : (e : Event K V) → ends_open eq k c e ≡ false → opens eq k (Some c) e ≡ Some c
  open_keeps (Lead by key call own) none = cond-false _ _ _ none
  open_keeps (Enter by key call member) none = refl
  open_keeps (Forget by key closed) none = cond-false _ _ _ none
  open_keeps (ForgetCall by key call hit) none = cond-false _ _ _ none
  open_keeps (Settle by call result joiners) none = cond-false _ _ _ (other_call call c none)
  open_keeps (Handed by call) none = refl

  open_finds : (found : Option CallId) (e : Event K V) → opens eq k found e ≡ Some c → LeadsIt e ⊎ ((found ≡ Some c) × (ends_open eq k c e ≡ false))
  open_finds found (Lead by key call own) is = at_lead found by key call own (eq key k) refl is
  open_finds found (Enter by key call member) is = inr (is, refl)
  open_finds found (Forget by key closed) is = inr (at_end c found (eq key k) is)
  open_finds found (ForgetCall by key call hit) is = inr (at_end c found (eq key k && has_closed hit) is)
  open_finds found (Settle by call result joiners) is = inr (at_settle c found call is)
  open_finds found (Handed by call) is = inr (is, refl)

  current_keeps : (e : Event K V) → ends_current eq k c e ≡ false → keeps_current eq k (Some c) e ≡ Some c
  current_keeps (Lead by key call own) none = cond-false _ _ _ none
  current_keeps (Enter by key call member) none = refl
  current_keeps (Forget by key closed) none = cond-false _ _ _ none
  current_keeps (ForgetCall by key call hit) none = cond-false _ _ _ none
  current_keeps (Settle by call result joiners) none = refl
  current_keeps (Handed by call) none = refl

  current_finds : (found : Option CallId) (e : Event K V) → keeps_current eq k found e ≡ Some c → LeadsIt e ⊎ ((found ≡ Some c) × (ends_current eq k c e ≡ false))
  current_finds found (Lead by key call own) is = at_lead found by key call own (eq key k) refl is
  current_finds found (Enter by key call member) is = inr (is, refl)
  current_finds found (Forget by key closed) is = inr (at_end c found (eq key k) is)
  current_finds found (ForgetCall by key call hit) is = inr (at_end c found (eq key k && has_ended hit) is)
  current_finds found (Settle by call result joiners) is = inr (is, refl)
  current_finds found (Handed by call) is = inr (is, refl)

pub open_is_last : (K V : Type 0) (eq : K → K → Bool) → OpenCallIsLastLead K V eq
open_is_last K V eq h k c =
    let takes = λ (found : Option CallId) (by : ℕ) (key : K) (own : Option CallId) (on : eq key k ≡ true). cond-true _ _ _ on in
    (last_found eq k c (opens eq k) (ends_open eq k c) (open_keeps eq k c) (open_finds eq k c) takes h, found_last eq k c (opens eq k) (ends_open eq k c) (open_keeps eq k c) (open_finds eq k c) takes h)

pub current_is_last : (K V : Type 0) (eq : K → K → Bool) → CurrentCallIsLastLead K V eq
current_is_last K V eq h k c =
    let takes = λ (found : Option CallId) (by : ℕ) (key : K) (own : Option CallId) (on : eq key k ≡ true). cond-true _ _ _ on in
    (last_found eq k c (keeps_current eq k) (ends_current eq k c) (current_keeps eq k c) (current_finds eq k c) takes h, found_last eq k c (keeps_current eq k) (ends_current eq k c) (current_keeps eq k c) (current_finds eq k c) takes h)

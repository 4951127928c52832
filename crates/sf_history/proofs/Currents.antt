-- current calls of legal histories: an open call is current, and one that is current no more is never current again
use Rattle.std.proofs.Common.{◌≡◌, ◌≢◌, ℕ, Bool, true, false, cond, ◌&&◌, List, [], ◌∷◌, ◌++◌, Option, Some, None, refl, sym, ◌∙◌, subst, ap, append_assoc}
use Rattle.std.proofs.lemmas.Bool.{true≢false}
use Rattle.std.proofs.lemmas.List.{append-nil}
use Rattle.std.specs.Cmp.{IsEquivalence}
use Rattle.std.specs.Prelude.{fold}
use Rattle.std.specs.List.{list_any}
use Rattle.sf_history.specs.declared.call.CallId.{CallId}
use Rattle.sf_history.specs.declared.event.Event.{Event}
use Rattle.sf_history.specs.declared.event.Event.TheVariants.{Lead, Enter, Forget, ForgetCall, Settle, Handed}
use Rattle.sf_history.specs.declared.event.Hit.{Hit}
use Rattle.sf_history.specs.declared.event.Hit.TheVariants.{Closed, Cleared, Missed}
use Rattle.sf_history.specs.History.{has_closed, has_ended, holds_call, names, opens, open_call, keeps_current, current_call, leads_last, last_led}
use Rattle.sf_history.specs.Legal.{IsHit, MayFollow, IsLegal}
use Rattle.sf_history.specs.LastLead.{PastCallsStayPast, CurrentCallIsLastLed, ForgottenCallsArePast, OpenCallIsCurrent}
use Rattle.sf_lists.proofs.Lists.{by_push, list_any_push_kept}
use Rattle.sf_history.proofs.LegalHistories.{fold_push, legal_front, legal_last}

-- equal keys are equal to the same keys
alike : {K : Type 0} (eq : K → K → Bool) → IsEquivalence eq → (key k : K) → eq key k ≡ true → (x : K) → eq x key ≡ eq x k
alike eq equal key k same x = equal.symm x key ∙ (equal.congr key k x same ∙ equal.symm k x)

module _ {K V : Type 0} (eq : K → K → Bool) where
  -- what is open, and what is current, is so of each key that is equal
  module _ (equal : IsEquivalence eq) (key k : K) (same : eq key k ≡ true) where
    opens_alike : (found : Option CallId) (e : Event K V) → opens eq key found e ≡ opens eq k found e
    opens_alike found (Lead by x call own) = ap (λ b. cond b (Some call) found) (alike eq equal key k same x)
    opens_alike found (Enter by x call member) = refl
    opens_alike found (Forget by x closed) = ap (λ b. cond b None found) (alike eq equal key k same x)
    opens_alike found (ForgetCall by x call hit) = ap (λ b. cond (b && has_closed hit) None found) (alike eq equal key k same x)
    opens_alike found (Settle by call result joiners) = refl
    opens_alike found (Handed by call) = refl

    keeps_alike : (found : Option CallId) (e : Event K V) → keeps_current eq key found e ≡ keeps_current eq k found e
    keeps_alike found (Lead by x call own) = ap (λ b. cond b (Some call) found) (alike eq equal key k same x)
    keeps_alike found (Enter by x call member) = refl
    keeps_alike found (Forget by x closed) = ap (λ b. cond b None found) (alike eq equal key k same x)
    keeps_alike found (ForgetCall by x call hit) = ap (λ b. cond (b && has_ended hit) None found) (alike eq equal key k same x)
    keeps_alike found (Settle by call result joiners) = refl
    keeps_alike found (Handed by call) = refl

    open_from : (h : List (Event K V)) (found : Option CallId) → fold (opens eq key) found h ≡ fold (opens eq k) found h
    open_from [] found = refl
    open_from (e ∷ h) found = ap (λ o. fold (opens eq key) o h) (opens_alike found e) ∙ open_from h (opens eq k found e)

    current_from : (h : List (Event K V)) (found : Option CallId) → fold (keeps_current eq key) found h ≡ fold (keeps_current eq k) found h
    current_from [] found = refl
    current_from (e ∷ h) found = ap (λ o. fold (keeps_current eq key) o h) (keeps_alike found e) ∙ current_from h (keeps_current eq k found e)

    -- so what a Forget of one call finds is so of each
    pub hit_alike : (h : List (Event K V)) (c : CallId) (hit : Hit) → IsHit (open_call eq h key) (current_call eq h key) c hit → IsHit (open_call eq h k) (current_call eq h k) c hit
    hit_alike h c hit is = subst (λ (o : Option CallId). IsHit (open_call eq h k) o c hit) (current_from h None) (subst (λ (o : Option CallId). IsHit o (current_call eq h key) c hit) (open_from h None) is)

  -- an open call of a legal history is current
  pub open_is_current : IsEquivalence eq → (h : List (Event K V)) (k : K) (c : CallId) → IsLegal eq h → open_call eq h k ≡ Some c → current_call eq h k ≡ Some c
  open_is_current equal h k c = by_push (λ (h : List (Event K V)). IsLegal eq h → open_call eq h k ≡ Some c → current_call eq h k ≡ Some c) (λ legal is. cc) step h
    where
      at_key : (found was v : Option CallId) (b : Bool) → (found ≡ Some c → was ≡ Some c) → cond b v found ≡ Some c → cond b v was ≡ Some c
      at_key found was v true before is = is
      at_key found was v false before is = before is

      at_settle : (found was : Option CallId) (b : Bool) → (found ≡ Some c → was ≡ Some c) → cond b None found ≡ Some c → was ≡ Some c
      at_settle found was true before is = cc
      at_settle found was false before is = before is

      -- a call that is current and not open is not the open one
      at_cleared : (found was : Option CallId) (call : CallId) (b : Bool) → was ≡ Some call → found ≢ Some call → (found ≡ Some c → was ≡ Some c) → found ≡ Some c → cond b None was ≡ Some c
      at_cleared found was call b current isnt before is = let same : Some call ≡ Some c = sym current ∙ before is in absurd (isnt (is ∙ sym same))

      at_hit : (found was : Option CallId) (call : CallId) (hit : Hit) (b : Bool) → IsHit found was call hit → (found ≡ Some c → was ≡ Some c) → cond (b && has_closed hit) None found ≡ Some c → cond (b && has_ended hit) None was ≡ Some c
      at_hit found was call Closed true follows before is = cc
      at_hit found was call Closed false follows before is = before is
      at_hit found was call Cleared true follows before is = at_cleared found was call true follows.0 follows.1 before is
      at_hit found was call Cleared false follows before is = before is
      at_hit found was call Missed true follows before is = before is
      at_hit found was call Missed false follows before is = before is

      at_forget : (h : List (Event K V)) (key : K) (call : CallId) (hit : Hit) (b : Bool) → eq key k ≡ b → IsHit (open_call eq h key) (current_call eq h key) call hit → (open_call eq h k ≡ Some c → current_call eq h k ≡ Some c)
          → cond (b && has_closed hit) None (open_call eq h k) ≡ Some c → cond (b && has_ended hit) None (current_call eq h k) ≡ Some c
      at_forget h key call hit true same follows before is =
          at_hit (open_call eq h k) (current_call eq h k) call hit true (hit_alike equal key k same h call hit follows) before is
      at_forget h key call hit false same follows before is = before is

      at : (h : List (Event K V)) (e : Event K V) → MayFollow eq h e → (open_call eq h k ≡ Some c → current_call eq h k ≡ Some c) → opens eq k (open_call eq h k) e ≡ Some c → keeps_current eq k (current_call eq h k) e ≡ Some c
      at h (Lead by key call own) follows before is = at_key (open_call eq h k) (current_call eq h k) (Some call) (eq key k) before is
      at h (Enter by key call member) follows before is = before is
      at h (Forget by key closed) follows before is = at_key (open_call eq h k) (current_call eq h k) None (eq key k) before is
      at h (ForgetCall by key call hit) follows before is = at_forget h key call hit (eq key k) refl follows before is
      at h (Settle by call result joiners) follows before is = at_settle (open_call eq h k) (current_call eq h k) (holds_call (open_call eq h k) call) before is
      at h (Handed by call) follows before is = before is

      step : (h : List (Event K V)) (e : Event K V) → (IsLegal eq h → open_call eq h k ≡ Some c → current_call eq h k ≡ Some c) → IsLegal eq (h ++ e ∷ []) → open_call eq (h ++ e ∷ []) k ≡ Some c → current_call eq (h ++ e ∷ []) k ≡ Some c
      step h e before legal is = fold_push (keeps_current eq k) None h e ∙ at h e (legal_last eq h e legal) (before (legal_front eq h e legal)) (sym (fold_push (opens eq k) None h e) ∙ is)

  -- a named call that is not current is not current after one more event
  pub current_past_push : (h : List (Event K V)) (e : Event K V) (k : K) (c : CallId) → MayFollow eq h e → list_any (names c) h ≡ true → current_call eq h k ≢ Some c → current_call eq (h ++ e ∷ []) k ≢ Some c
  current_past_push h e k c follows named isnt is = at e follows (sym (fold_push (keeps_current eq k) None h e) ∙ is)
    where
      at_lead : (call : CallId) → list_any (names call) h ≡ false → (b : Bool) → cond b (Some call) (current_call eq h k) ≡ Some c → ⊥
      at_lead call new true found =
          let calls : call ≡ c = cc in
          let none : list_any (names c) h ≡ false = subst (λ (z : CallId). list_any (names z) h ≡ false) calls new in
          true≢false (sym named ∙ none)
      at_lead call new false found = isnt found

      at_none : (b : Bool) → cond b None (current_call eq h k) ≡ Some c → ⊥
      at_none true found = cc
      at_none false found = isnt found

      at : (e : Event K V) → MayFollow eq h e → keeps_current eq k (current_call eq h k) e ≡ Some c → ⊥
      at (Lead by key call own) follows found = at_lead call follows.1 (eq key k) found
      at (Enter by key call member) follows found = isnt found
      at (Forget by key closed) follows found = at_none (eq key k) found
      at (ForgetCall by key call hit) follows found = at_none (eq key k && has_ended hit) found
      at (Settle by call result joiners) follows found = isnt found
      at (Handed by call) follows found = isnt found

  -- so it is never current again
  pub current_past_longer : (h es : List (Event K V)) (k : K) (c : CallId) → IsLegal eq (h ++ es) → list_any (names c) h ≡ true → current_call eq h k ≢ Some c → current_call eq (h ++ es) k ≢ Some c
  current_past_longer h [] k c legal named isnt = subst (λ (q : List (Event K V)). current_call eq q k ≢ Some c) (sym (append-nil h)) isnt
  current_past_longer h (e ∷ es) k c legal named isnt =
      subst (λ (q : List (Event K V)). current_call eq q k ≢ Some c) (append_assoc h (e ∷ []) es)
      (current_past_longer (h ++ e ∷ []) es k c (subst (λ (q : List (Event K V)). IsLegal eq q) (sym (append_assoc h (e ∷ []) es)) legal) (list_any_push_kept (names c) h e named)
      (current_past_push h e k c (legal h es e refl) named isnt))

  -- what is current was led last
  pub current_is_last_led : (h : List (Event K V)) (k : K) (c : CallId) → current_call eq h k ≡ Some c → last_led eq h k ≡ Some c
  current_is_last_led h k c = by_push (λ (h : List (Event K V)). current_call eq h k ≡ Some c → last_led eq h k ≡ Some c) (λ is. cc) step h
    where
      at_lead : (found led : Option CallId) (call : CallId) (b : Bool) → (found ≡ Some c → led ≡ Some c) → cond b (Some call) found ≡ Some c → cond b (Some call) led ≡ Some c
      at_lead found led call true before is = is
      at_lead found led call false before is = before is

      at_end : (found led : Option CallId) (b : Bool) → (found ≡ Some c → led ≡ Some c) → cond b None found ≡ Some c → led ≡ Some c
      at_end found led true before is = cc
      at_end found led false before is = before is

      at : (found led : Option CallId) (e : Event K V) → (found ≡ Some c → led ≡ Some c) → keeps_current eq k found e ≡ Some c → leads_last eq k led e ≡ Some c
      at found led (Lead by key call own) before is = at_lead found led call (eq key k) before is
      at found led (Enter by key call member) before is = before is
      at found led (Forget by key closed) before is = at_end found led (eq key k) before is
      at found led (ForgetCall by key call hit) before is = at_end found led (eq key k && has_ended hit) before is
      at found led (Settle by call result joiners) before is = before is
      at found led (Handed by call) before is = before is

      step : (h : List (Event K V)) (e : Event K V) → (current_call eq h k ≡ Some c → last_led eq h k ≡ Some c) → current_call eq (h ++ e ∷ []) k ≡ Some c → last_led eq (h ++ e ∷ []) k ≡ Some c
      step h e before is = fold_push (leads_last eq k) None h e ∙ at (current_call eq h k) (last_led eq h k) e before (sym (fold_push (keeps_current eq k) None h e) ∙ is)

  -- a call that was forgotten is not current then: it was found not current, or is ended
  pub forgotten_is_past : (h : List (Event K V)) (by : ℕ) (k : K) (c : CallId) (hit : Hit) → IsLegal eq (h ++ ForgetCall by k c hit ∷ []) → eq k k ≡ true → current_call eq (h ++ ForgetCall by k c hit ∷ []) k ≢ Some c
  forgotten_is_past h by k c hit legal self is = at hit (legal_last eq h (ForgetCall by k c hit) legal) (eq k k) self (sym (fold_push (keeps_current eq k) None h (ForgetCall by k c hit)) ∙ is)
    where
      at : (hit : Hit) → IsHit (open_call eq h k) (current_call eq h k) c hit → (b : Bool) → b ≡ true → cond (b && has_ended hit) None (current_call eq h k) ≡ Some c → ⊥
      at Closed follows true same found = cc
      at Closed follows false same found = cc
      at Cleared follows true same found = cc
      at Cleared follows false same found = cc
      at Missed follows true same found = follows found
      at Missed follows false same found = cc

pub past_calls_stay_past : (K V : Type 0) (eq : K → K → Bool) → PastCallsStayPast K V eq
past_calls_stay_past K V eq h es k c legal named isnt = current_past_longer eq h es k c legal named isnt

pub current_call_is_last_led : (K V : Type 0) (eq : K → K → Bool) → CurrentCallIsLastLed K V eq
current_call_is_last_led K V eq h k c is = current_is_last_led eq h k c is

pub forgotten_calls_are_past : (K V : Type 0) (eq : K → K → Bool) → IsEquivalence eq → ForgottenCallsArePast K V eq
forgotten_calls_are_past K V eq equal h by k c hit legal is = forgotten_is_past eq h by k c hit legal (equal.refl k) is

pub open_call_is_current : (K V : Type 0) (eq : K → K → Bool) → IsEquivalence eq → OpenCallIsCurrent K V eq
open_call_is_current K V eq equal h k c legal is = open_is_current eq equal h k c legal is

-- a key's open call, from its current one
use Rattle.std.proofs.Common.{◌≡◌, ℕ, Bool, true, false, ◌||◌, ◌&&◌, cond, List, [], ◌∷◌, ◌++◌, inl, inr, Option, Some, None, refl, sym, ◌∙◌, ap, subst}
use Rattle.std.proofs.Math.Bool.{or-false}
use Rattle.std.proofs.lemmas.Bool.{cases_Bool}
use Rattle.std.specs.List.{list_any}
use Rattle.std.specs.Cmp.{IsEquivalence}
use Rattle.sf_history.specs.declared.call.CallId.{CallId}
use Rattle.sf_history.specs.declared.event.Event.{Event}
use Rattle.sf_history.specs.declared.event.Event.TheVariants.{Lead, Enter, Forget, ForgetCall, Settle, Handed}
use Rattle.sf_history.specs.declared.event.Hit.{Hit}
use Rattle.sf_history.specs.declared.event.Hit.TheVariants.{Closed, Cleared, Missed}
use Rattle.sf_history.specs.Calls.{same_call}
use Rattle.sf_history.specs.History.{has_closed, has_ended, holds_call, names, settles, is_settled, opens, open_call, keeps_current, current_call}
use Rattle.sf_history.specs.Legal.{IsHit, IsLegal}
use Rattle.sf_history.proofs.Currents.{open_is_current, hit_alike}
use Rattle.sf_history.proofs.LegalHistories.{same_call_is, legal_front, legal_last, fold_push, settled_named, same_call_self, other_call}
use Rattle.sf_lists.proofs.Lists.{by_push, list_any_push}
use Rattle.sf_sequential.specs.Noted.{without}

module _ {K V : Type 0} (eq : K → K → Bool) where
  -- a key's open call is its current one, unless that is settled
  pub open_by_current : IsEquivalence eq → (k : K) (h : List (Event K V)) → IsLegal eq h → open_call eq h k ≡ without (is_settled h) (current_call eq h k)
  open_by_current equal k = by_push (λ (h : List (Event K V)). IsLegal eq h → open_call eq h k ≡ without (is_settled h) (current_call eq h k)) (λ legal. refl) step
    where
      -- a call that is settled by nothing more stays as it was
      kept : (h : List (Event K V)) (e : Event K V) (found : Option CallId) → ((c : CallId) → settles c e ≡ false) → without (is_settled h) found ≡ without (is_settled (h ++ e ∷ [])) found
      kept h e None unsettles = refl
      kept h e (Some c) unsettles = ap (λ b. cond b None (Some c)) (sym (list_any_push (settles c) h e ∙ ap (λ z. is_settled h c || z) (unsettles c) ∙ or-false (is_settled h c)))

      led : (h : List (Event K V)) (e : Event K V) (call : CallId) (b : Bool) → is_settled (h ++ e ∷ []) call ≡ false → open_call eq h k ≡ without (is_settled (h ++ e ∷ [])) (current_call eq h k)
          → cond b (Some call) (open_call eq h k) ≡ without (is_settled (h ++ e ∷ [])) (cond b (Some call) (current_call eq h k))
      led h e call true new before = ap (λ z. cond z None (Some call)) (sym new)
      led h e call false new before = before

      gone : (h : List (Event K V)) (e : Event K V) (b : Bool) → open_call eq h k ≡ without (is_settled (h ++ e ∷ [])) (current_call eq h k)
          → cond b None (open_call eq h k) ≡ without (is_settled (h ++ e ∷ [])) (cond b None (current_call eq h k))
      gone h e true before = refl
      gone h e false before = before

      -- a Forget of one call leaves both, or ends both: a call that is cleared is not open, so nothing is
      forgot : (h : List (Event K V)) (e : Event K V) (call : CallId) (hit : Hit) (b : Bool) → (b ≡ true → IsHit (open_call eq h k) (current_call eq h k) call hit) → IsLegal eq h
          → open_call eq h k ≡ without (is_settled (h ++ e ∷ [])) (current_call eq h k)
          → cond (b && has_closed hit) None (open_call eq h k) ≡ without (is_settled (h ++ e ∷ [])) (cond (b && has_ended hit) None (current_call eq h k))
      forgot h e call Closed true found legal before = refl
      forgot h e call Closed false found legal before = before
      forgot h e call Cleared true found legal before = none_open (open_call eq h k) refl
        where
          none_open : (o : Option CallId) → open_call eq h k ≡ o → open_call eq h k ≡ None
          none_open None is = is
          none_open (Some c) is =
              let hit_is = found refl in
              let both : Some c ≡ Some call = sym (open_is_current eq equal h k c legal is) ∙ hit_is.0 in
              absurd (hit_is.1 (is ∙ both))
      forgot h e call Cleared false found legal before = before
      forgot h e call Missed true found legal before = before
      forgot h e call Missed false found legal before = before

      -- what a Settle leaves of a call that was open, or of one that was settled already
      by_settle : (c call : CallId) (s t : Bool) → t ≡ same_call call c → holds_call (cond s None (Some c)) call ≡ holds_call (cond s None (Some c)) call
          → cond (holds_call (cond s None (Some c)) call) None (cond s None (Some c)) ≡ cond (s || t) None (Some c)
      by_settle c call true t is self = refl
      by_settle c call false t is self = ap (λ b. cond b None (Some c)) (same_either c call ∙ sym is)
        where
          same_either : (c d : CallId) → same_call c d ≡ same_call d c
          same_either c d =
              elim (cases_Bool (same_call c d)) [
                | inl is ↦ is ∙ sym (subst (λ (z : CallId). same_call d z ≡ true) (sym (same_call_is c d is)) (same_call_self d))
                | inr isnt ↦ isnt ∙ sym (other_call c d isnt)
              ]

      settled : (h : List (Event K V)) (by : ℕ) (call : CallId) (result : V) (joiners : ℕ) (found : Option CallId)
          → cond (holds_call (without (is_settled h) found) call) None (without (is_settled h) found) ≡ without (is_settled (h ++ Settle by call result joiners ∷ [])) found
      settled h by call result joiners None = refl
      settled h by call result joiners (Some c) =
          by_settle c call (is_settled h c) (same_call call c) refl refl ∙ ap (λ b. cond b None (Some c)) (sym (list_any_push (settles c) h (Settle by call result joiners)))

      new_unsettled : (h : List (Event K V)) (e : Event K V) (call : CallId) → IsLegal eq h → list_any (names call) h ≡ false → settles call e ≡ false → is_settled (h ++ e ∷ []) call ≡ false
      new_unsettled h e call legal new unsettles =
          list_any_push (settles call) h e ∙ ap (λ z. is_settled h call || z) unsettles ∙ or-false (is_settled h call) ∙ before
        where
          before : is_settled h call ≡ false
          before =
              elim (cases_Bool (is_settled h call)) [
                | inl is ↦ let named = settled_named eq h call legal is in cc
                | inr isnt ↦ isnt
              ]

      step : (h : List (Event K V)) (e : Event K V) → (IsLegal eq h → open_call eq h k ≡ without (is_settled h) (current_call eq h k)) → IsLegal eq (h ++ e ∷ [])
          → open_call eq (h ++ e ∷ []) k ≡ without (is_settled (h ++ e ∷ [])) (current_call eq (h ++ e ∷ []) k)
      step h (Lead by key call own) before legal =
          let e = Lead by key call own in
          let front = legal_front eq h e legal in
          fold_push (opens eq k) None h e
          ∙ led h e call (eq key k) (new_unsettled h e call front (legal_last eq h e legal).1 refl) (before front ∙ kept h e (current_call eq h k) (λ c. refl))
          ∙ ap (without (is_settled (h ++ e ∷ []))) (sym (fold_push (keeps_current eq k) None h e))
      step h (Enter by key call member) before legal =
          let e = Enter by key call member in
          fold_push (opens eq k) None h e ∙ before (legal_front eq h e legal) ∙ kept h e (current_call eq h k) (λ c. refl)
          ∙ ap (without (is_settled (h ++ e ∷ []))) (sym (fold_push (keeps_current eq k) None h e))
      step h (Forget by key closed) before legal =
          let e = Forget by key closed in
          fold_push (opens eq k) None h e
          ∙ gone h e (eq key k) (before (legal_front eq h e legal) ∙ kept h e (current_call eq h k) (λ c. refl))
          ∙ ap (without (is_settled (h ++ e ∷ []))) (sym (fold_push (keeps_current eq k) None h e))
      step h (ForgetCall by key call hit) before legal =
          let e = ForgetCall by key call hit in
          let front = legal_front eq h e legal in
          fold_push (opens eq k) None h e
          ∙ forgot h e call hit (eq key k) (λ same. hit_alike eq equal key k same h call hit (legal_last eq h e legal)) front (before front ∙ kept h e (current_call eq h k) (λ c. refl))
          ∙ ap (without (is_settled (h ++ e ∷ []))) (sym (fold_push (keeps_current eq k) None h e))
      step h (Settle by call result joiners) before legal =
          let e = Settle by call result joiners in
          fold_push (opens eq k) None h e
          ∙ ap (λ found. cond (holds_call found call) None found) (before (legal_front eq h e legal))
          ∙ settled h by call result joiners (current_call eq h k)
          ∙ ap (without (is_settled (h ++ e ∷ []))) (sym (fold_push (keeps_current eq k) None h e))
      step h (Handed by call) before legal =
          let e = Handed by call in
          fold_push (opens eq k) None h e ∙ before (legal_front eq h e legal) ∙ kept h e (current_call eq h k) (λ c. refl)
          ∙ ap (without (is_settled (h ++ e ∷ []))) (sym (fold_push (keeps_current eq k) None h e))

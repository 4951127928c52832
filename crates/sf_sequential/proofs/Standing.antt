-- the call that a caller leads, and its last ticket, in legal histories
use Rattle.std.proofs.Common.{◌≡◌, ℕ, Bool, true, false, ◌==◌, List, [], ◌∷◌, ◌++◌, ◌⊎◌, Option, Some, None, inl, inr, refl, sym, ◌∙◌, subst}
use Rattle.std.proofs.lemmas.Bool.{and_from, eqb-true, false_from_ne_true}
use Rattle.std.specs.Prelude.{cond}
use Rattle.std.specs.List.{list_any}
use Rattle.sf_history.specs.declared.call.CallId.{CallId}
use Rattle.sf_history.specs.declared.event.Event.{Event}
use Rattle.sf_history.specs.declared.event.Event.TheVariants.{Lead, Enter, Forget, ForgetCall, Settle, Handed}
use Rattle.sf_history.specs.Calls.{same_call}
use Rattle.sf_history.specs.History.{holds_call, names, leads, was_led, settles, is_settled}
use Rattle.sf_history.specs.Legal.{MayFollow, IsLegal}
use Rattle.sf_history.proofs.LegalHistories.{same_call_self, other_call, legal_front, legal_last, fold_push, settled_named}
use Rattle.sf_sequential.specs.declared.ticket.Ticket.{Ticket}
use Rattle.sf_sequential.specs.State.{led_call, leaves_led, last_ticket, leaves_ticket, gives, own_ticket}
use Rattle.sf_lists.proofs.Lists.{by_push, list_any_push_none, list_any_push_kept, list_any_push_last}

module _ {K V : Type 0} where
  -- a caller's led call was led by it
  pub led_was_led : (h : List (Event K V)) (a : ℕ) (c : CallId) → led_call h a ≡ Some c → was_led h a c ≡ true
  led_was_led h a c = by_push (λ (h : List (Event K V)). led_call h a ≡ Some c → was_led h a c ≡ true) (λ is. cc) step h
    where
      at_lead : (h : List (Event K V)) (by : ℕ) (key : K) (call : CallId) (own : Option CallId) → (led_call h a ≡ Some c → was_led h a c ≡ true) → (b : Bool) → (by == a) ≡ b
          → cond b (Some call) (led_call h a) ≡ Some c → was_led (h ++ Lead by key call own ∷ []) a c ≡ true
      at_lead h by key call own before true is found =
          let calls : call ≡ c = cc in
          list_any_push_last (leads a c) h _ (and_from _ _ is (subst (λ (z : CallId). same_call z c ≡ true) (sym calls) (same_call_self c)))
      at_lead h by key call own before false is found = list_any_push_kept (leads a c) h _ (before found)

      at_settle : (h : List (Event K V)) (by : ℕ) (call : CallId) (result : V) (joiners : ℕ) → (led_call h a ≡ Some c → was_led h a c ≡ true) → (b : Bool)
          → cond b None (led_call h a) ≡ Some c → was_led (h ++ Settle by call result joiners ∷ []) a c ≡ true
      at_settle h by call result joiners before true found = cc
      at_settle h by call result joiners before false found = list_any_push_kept (leads a c) h _ (before found)

      step : (h : List (Event K V)) (e : Event K V) → (led_call h a ≡ Some c → was_led h a c ≡ true) → led_call (h ++ e ∷ []) a ≡ Some c → was_led (h ++ e ∷ []) a c ≡ true
      step h (Lead by key call own) before is = at_lead h by key call own before (by == a) refl (sym (fold_push (leaves_led a) None h _) ∙ is)
      step h (Enter by key call member) before is = list_any_push_kept (leads a c) h _ (before (sym (fold_push (leaves_led a) None h _) ∙ is))
      step h (Forget by key closed) before is = list_any_push_kept (leads a c) h _ (before (sym (fold_push (leaves_led a) None h _) ∙ is))
      step h (ForgetCall by key call hit) before is = list_any_push_kept (leads a c) h _ (before (sym (fold_push (leaves_led a) None h _) ∙ is))
      step h (Settle by call result joiners) before is =
          at_settle h by call result joiners before (holds_call (led_call h a) call) (sym (fold_push (leaves_led a) None h _) ∙ is)
      step h (Handed by call) before is = list_any_push_kept (leads a c) h _ (before (sym (fold_push (leaves_led a) None h _) ∙ is))

  -- the call that a caller leads is not settled
  pub led_unsettled : (eq : K → K → Bool) (h : List (Event K V)) (a : ℕ) (c : CallId) → IsLegal eq h → led_call h a ≡ Some c → is_settled h c ≡ false
  led_unsettled eq h a c = by_push (λ (h : List (Event K V)). IsLegal eq h → led_call h a ≡ Some c → is_settled h c ≡ false) (λ legal is. refl) step h
    where
      at_lead : (h : List (Event K V)) (by : ℕ) (key : K) (call : CallId) (own : Option CallId) → IsLegal eq h → MayFollow eq h (Lead by key call own) → (led_call h a ≡ Some c → is_settled h c ≡ false)
          → (b : Bool) → cond b (Some call) (led_call h a) ≡ Some c → is_settled h c ≡ false
      at_lead h by key call own legal follows before true found =
          let calls : call ≡ c = cc in
          let new : list_any (names c) h ≡ false = subst (λ (z : CallId). list_any (names z) h ≡ false) calls follows.1 in
          false_from_ne_true _ (λ settled. let named = settled_named eq h c legal settled in cc)
      at_lead h by key call own legal follows before false found = before found

      at_settle : (h : List (Event K V)) (call : CallId) → (led_call h a ≡ Some c → is_settled h c ≡ false) → (b : Bool) → holds_call (led_call h a) call ≡ b
          → cond b None (led_call h a) ≡ Some c → (is_settled h c ≡ false) × (same_call call c ≡ false)
      at_settle h call before true is found = cc
      at_settle h call before false is found =
          let held : holds_call (Some c) call ≡ false = subst (λ (o : Option CallId). holds_call o call ≡ false) found is in
          (before found, other_call c call held)

      step : (h : List (Event K V)) (e : Event K V) → (IsLegal eq h → led_call h a ≡ Some c → is_settled h c ≡ false) → IsLegal eq (h ++ e ∷ []) → led_call (h ++ e ∷ []) a ≡ Some c → is_settled (h ++ e ∷ []) c ≡ false
      step h (Lead by key call own) before legal is =
          let front = legal_front eq h _ legal in
          list_any_push_none (settles c) h _ (at_lead h by key call own front (legal_last eq h _ legal) (before front) (by == a) (sym (fold_push (leaves_led a) None h _) ∙ is)) refl
      step h (Enter by key call member) before legal is = list_any_push_none (settles c) h _ (before (legal_front eq h _ legal) (sym (fold_push (leaves_led a) None h _) ∙ is)) refl
      step h (Forget by key closed) before legal is = list_any_push_none (settles c) h _ (before (legal_front eq h _ legal) (sym (fold_push (leaves_led a) None h _) ∙ is)) refl
      step h (ForgetCall by key call hit) before legal is = list_any_push_none (settles c) h _ (before (legal_front eq h _ legal) (sym (fold_push (leaves_led a) None h _) ∙ is)) refl
      step h (Settle by call result joiners) before legal is =
          let open_parts = at_settle h call (before (legal_front eq h _ legal)) (holds_call (led_call h a) call) refl (sym (fold_push (leaves_led a) None h _) ∙ is) in
          list_any_push_none (settles c) h _ open_parts.0 open_parts.1
      step h (Handed by call) before legal is = list_any_push_none (settles c) h _ (before (legal_front eq h _ legal) (sym (fold_push (leaves_led a) None h _) ∙ is)) refl

  -- a caller's last ticket was given to it
  pub last_given : (h : List (Event K V)) (a : ℕ) (t : Ticket) → last_ticket h a ≡ Some t → (t.member.caller ≡ a) × (list_any (gives t) h ≡ true)
  last_given h a t = by_push (λ (h : List (Event K V)). last_ticket h a ≡ Some t → (t.member.caller ≡ a) × (list_any (gives t) h ≡ true)) (λ is. cc) step h
    where
      later : (h : List (Event K V)) (e : Event K V) → (t.member.caller ≡ a) × (list_any (gives t) h ≡ true) → (t.member.caller ≡ a) × (list_any (gives t) (h ++ e ∷ []) ≡ true)
      later h e is = (is.0, list_any_push_kept (gives t) h e is.1)

      given : (h : List (Event K V)) (call member : CallId) (b : Bool) → (member.caller == a) ≡ b → cond b (Some (record { call = call; member = member })) (last_ticket h a) ≡ Some t
          → ((last_ticket h a ≡ Some t) ⊎ ((t.member.caller ≡ a) × (same_call call t.call ≡ true) × (same_call member t.member ≡ true)))
      given h call member true is found =
          let made : Ticket = record { call = call; member = member } in
          let same : made ≡ t = cc in
          let tickets : Ticket → Type 0 = λ z. (z.member.caller ≡ a) × (same_call call z.call ≡ true) × (same_call member z.member ≡ true) in
          inr (subst tickets same (eqb-true _ _ is, same_call_self call, same_call_self member))
      given h call member false is found = inl found

      at_own : (h : List (Event K V)) (by : ℕ) (key : K) (call : CallId) (own : Option CallId) → (last_ticket h a ≡ Some t → (t.member.caller ≡ a) × (list_any (gives t) h ≡ true)) → own_ticket a call own (last_ticket h a) ≡ Some t
          → (t.member.caller ≡ a) × (list_any (gives t) (h ++ Lead by key call own ∷ []) ≡ true)
      at_own h by key call None before found = later h _ (before found)
      at_own h by key call (Some m) before found =
          elim (given h call m (m.caller == a) refl found) [
            | inl is ↦ later h _ (before is)
            | inr is ↦ (is.0, list_any_push_last (gives t) h _ (and_from _ _ is.1 is.2))
          ]

      step : (h : List (Event K V)) (e : Event K V) → (last_ticket h a ≡ Some t → (t.member.caller ≡ a) × (list_any (gives t) h ≡ true)) → last_ticket (h ++ e ∷ []) a ≡ Some t
          → (t.member.caller ≡ a) × (list_any (gives t) (h ++ e ∷ []) ≡ true)
      step h (Lead by key call own) before is = at_own h by key call own before (sym (fold_push (leaves_ticket a) None h _) ∙ is)
      step h (Enter by key call member) before is =
          elim (given h call member (member.caller == a) refl (sym (fold_push (leaves_ticket a) None h _) ∙ is)) [
            | inl was ↦ later h _ (before was)
            | inr now ↦ (now.0, list_any_push_last (gives t) h _ (and_from _ _ now.1 now.2))
          ]
      step h (Forget by key closed) before is = later h _ (before (sym (fold_push (leaves_ticket a) None h _) ∙ is))
      step h (ForgetCall by key call hit) before is = later h _ (before (sym (fold_push (leaves_ticket a) None h _) ∙ is))
      step h (Settle by call result joiners) before is = later h _ (before (sym (fold_push (leaves_ticket a) None h _) ∙ is))
      step h (Handed by call) before is = later h _ (before (sym (fold_push (leaves_ticket a) None h _) ∙ is))

-- calls that are the same, and what legal histories have at their ends
use Rattle.std.proofs.Common.{◌≡◌, ℕ, ◌+◌, Bool, true, false, ◌==◌, ◌&&◌, List, [], ◌∷◌, ◌++◌, Option, Some, None, inl, inr, refl, sym, ◌∙◌, ap, subst, append_assoc, arith, eq-eqb}
use Rattle.std.proofs.lemmas.Bool.{and_parts, and_from, or_left, eqb-true, cases_Bool, false_from_ne_true}
use Rattle.std.proofs.lemmas.List.Sums.{sum_by_push, fold-append}
use Rattle.std.specs.Prelude.{fold, cond}
use Rattle.std.specs.List.{list_any}
use Rattle.sf_history.specs.declared.call.CallId.{CallId}
use Rattle.sf_history.specs.declared.event.Event.{Event}
use Rattle.sf_history.specs.declared.event.Event.TheVariants.{Lead, Enter, Forget, ForgetCall, Settle, Handed}
use Rattle.sf_history.specs.Calls.{same_call}
use Rattle.sf_history.specs.History.{has_closed, holds_call, names, leads, was_led, settles, is_settled, hands, is_handed, opens, open_call, uses, next_generation}
use Rattle.sf_history.specs.Legal.{MayFollow, IsLegal}
use Rattle.sf_lists.proofs.Lists.{push_split, by_push, list_any_push_cases, list_any_push_none, list_any_push_kept, list_any_push_last}

-- the same call is the same value
pub same_call_is : (c d : CallId) → same_call c d ≡ true → c ≡ d
same_call_is c d is =
    let tests = and_parts _ _ is in
    let callers : c.caller ≡ d.caller = eqb-true _ _ tests.0 in
    let generations : c.generation ≡ d.generation = eqb-true _ _ tests.1 in
    let first : ℕ → CallId = λ n. record { caller = n; generation = c.generation } in
    let second : ℕ → CallId = λ n. record { caller = d.caller; generation = n } in
    ap first callers ∙ ap second generations

pub same_call_self : (c : CallId) → same_call c c ≡ true
same_call_self c = and_from _ _ (eq-eqb c.caller c.caller refl) (eq-eqb c.generation c.generation refl)

-- two calls are not the same, either way round
pub other_call : (c d : CallId) → same_call c d ≡ false → same_call d c ≡ false
other_call c d isnt =
    elim (cases_Bool (same_call d c)) [
      | inl is ↦
          let same : d ≡ c = same_call_is d c is in
          let self : same_call c d ≡ true = subst (λ (z : CallId). same_call c z ≡ true) (sym same) (same_call_self c) in
          cc
      | inr isnt ↦ isnt
    ]

module _ {K V : Type 0} where
  -- the events before the last are legal, and the last may follow them
  pub legal_front : (eq : K → K → Bool) (h : List (Event K V)) (e : Event K V) → IsLegal eq (h ++ e ∷ []) → IsLegal eq h
  legal_front eq h e legal p q x is = legal p (q ++ e ∷ []) x (ap (λ z. z ++ e ∷ []) is ∙ append_assoc p (x ∷ q) (e ∷ []))

  pub legal_last : (eq : K → K → Bool) (h : List (Event K V)) (e : Event K V) → IsLegal eq (h ++ e ∷ []) → MayFollow eq h e
  legal_last eq h e legal = legal h [] e refl

  -- a legal history goes on legally by an event that may follow
  pub legal_push : (eq : K → K → Bool) (h : List (Event K V)) (e : Event K V) → IsLegal eq h → MayFollow eq h e → IsLegal eq (h ++ e ∷ [])
  legal_push eq h e legal follows p q x is =
      elim (push_split h p q e x is) [
        | inl w ↦ subst (λ (z : Event K V). MayFollow eq p z) (sym w.1) (subst (λ (z : List (Event K V)). MayFollow eq z e) (sym w.0) follows)
        | inr w ↦ legal p w.0 x w.1
      ]

  -- the empty history is legal
  pub legal_nil : (eq : K → K → Bool) → IsLegal {V = V} eq []
  legal_nil eq [] q x is = cc
  legal_nil eq (a ∷ p) q x is = cc

  -- a fold with one more event
  pub fold_push : {B : Type 0} (f : B → Event K V → B) (b : B) (h : List (Event K V)) (e : Event K V) → fold f b (h ++ e ∷ []) ≡ f (fold f b h) e
  fold_push f b h e = fold-append f b h (e ∷ [])

  pub next_push : (first : ℕ) (h : List (Event K V)) (e : Event K V) (a : ℕ) → next_generation first (h ++ e ∷ []) a ≡ next_generation first h a + uses a e
  next_push first h e a = ap (λ n. first + n) (sum_by_push (uses a) h e) ∙ omega arith

  -- an open call was named
  pub open_named : (eq : K → K → Bool) (h : List (Event K V)) (k : K) (c : CallId) → open_call eq h k ≡ Some c → list_any (names c) h ≡ true
  open_named eq h k c = by_push (λ (h : List (Event K V)). open_call eq h k ≡ Some c → list_any (names c) h ≡ true) (λ is. cc) step h
    where
      at_lead : (h : List (Event K V)) (by : ℕ) (key : K) (call : CallId) (own : Option CallId) → (open_call eq h k ≡ Some c → list_any (names c) h ≡ true) → (b : Bool)
          → cond b (Some call) (open_call eq h k) ≡ Some c → list_any (names c) (h ++ Lead by key call own ∷ []) ≡ true
      at_lead h by key call own before true found =
          let calls : call ≡ c = cc in
          list_any_push_last (names c) h _ (or_left _ _ (subst (λ (z : CallId). same_call z c ≡ true) (sym calls) (same_call_self c)))
      at_lead h by key call own before false found = list_any_push_kept (names c) h _ (before found)

      at_end : (h : List (Event K V)) (e : Event K V) → (open_call eq h k ≡ Some c → list_any (names c) h ≡ true) → (b : Bool)
          → cond b None (open_call eq h k) ≡ Some c → list_any (names c) (h ++ e ∷ []) ≡ true
      at_end h e before true found = cc
      at_end h e before false found = list_any_push_kept (names c) h e (before found)

      step : (h : List (Event K V)) (e : Event K V) → (open_call eq h k ≡ Some c → list_any (names c) h ≡ true) → open_call eq (h ++ e ∷ []) k ≡ Some c → list_any (names c) (h ++ e ∷ []) ≡ true
      step h (Lead by key call own) before is = at_lead h by key call own before (eq key k) (sym (fold_push (opens eq k) None h _) ∙ is)
      step h (Enter by key call member) before is = list_any_push_kept (names c) h _ (before (sym (fold_push (opens eq k) None h _) ∙ is))
      step h (Forget by key closed) before is = at_end h _ before (eq key k) (sym (fold_push (opens eq k) None h _) ∙ is)
      step h (ForgetCall by key call hit) before is = at_end h _ before (eq key k && has_closed hit) (sym (fold_push (opens eq k) None h _) ∙ is)
      step h (Settle by call result joiners) before is = at_end h _ before (holds_call (open_call eq h k) call) (sym (fold_push (opens eq k) None h _) ∙ is)
      step h (Handed by call) before is = list_any_push_kept (names c) h _ (before (sym (fold_push (opens eq k) None h _) ∙ is))

  -- a call that was led was named
  pub led_named : (h : List (Event K V)) (a : ℕ) (c : CallId) → was_led h a c ≡ true → list_any (names c) h ≡ true
  led_named h a c = by_push (λ (h : List (Event K V)). was_led h a c ≡ true → list_any (names c) h ≡ true) (λ is. cc) step h
    where
      last : (h : List (Event K V)) (e : Event K V) → leads a c e ≡ true → list_any (names c) (h ++ e ∷ []) ≡ true
      last h (Lead by key call own) is = list_any_push_last (names c) h (Lead by key call own) (or_left (same_call call c) (holds_call own c) (and_parts (by == a) (same_call call c) is).1)
      last h (Enter by key call member) is = cc
      last h (Forget by key closed) is = cc
      last h (ForgetCall by key call hit) is = cc
      last h (Settle by call result joiners) is = cc
      last h (Handed by call) is = cc

      step : (h : List (Event K V)) (e : Event K V) → (was_led h a c ≡ true → list_any (names c) h ≡ true) → was_led (h ++ e ∷ []) a c ≡ true → list_any (names c) (h ++ e ∷ []) ≡ true
      step h e before is =
          elim (list_any_push_cases (leads a c) h e is) [
            | inl was ↦ list_any_push_kept (names c) h e (before was)
            | inr now ↦ last h e now
          ]

  -- a call that is settled was named
  pub settled_named : (eq : K → K → Bool) (h : List (Event K V)) (c : CallId) → IsLegal eq h → is_settled h c ≡ true → list_any (names c) h ≡ true
  settled_named eq h c = by_push (λ (h : List (Event K V)). IsLegal eq h → is_settled h c ≡ true → list_any (names c) h ≡ true) (λ legal is. cc) step h
    where
      last : (h : List (Event K V)) (e : Event K V) → MayFollow eq h e → settles c e ≡ true → list_any (names c) h ≡ true
      last h (Lead by key call own) follows is = cc
      last h (Enter by key call member) follows is = cc
      last h (Forget by key closed) follows is = cc
      last h (ForgetCall by key call hit) follows is = cc
      last h (Settle by call result joiners) follows is =
          subst (λ (z : CallId). list_any (names z) h ≡ true) (same_call_is call c is) (led_named h by call follows.0)
      last h (Handed by call) follows is = cc

      step : (h : List (Event K V)) (e : Event K V) → (IsLegal eq h → is_settled h c ≡ true → list_any (names c) h ≡ true) → IsLegal eq (h ++ e ∷ []) → is_settled (h ++ e ∷ []) c ≡ true
          → list_any (names c) (h ++ e ∷ []) ≡ true
      step h e before legal is =
          elim (list_any_push_cases (settles c) h e is) [
            | inl was ↦ list_any_push_kept (names c) h e (before (legal_front eq h e legal) was)
            | inr now ↦ list_any_push_kept (names c) h e (last h e (legal_last eq h e legal) now)
          ]

  -- a call whose letters are handed out is settled
  pub handed_settled : (eq : K → K → Bool) (h : List (Event K V)) (c : CallId) → IsLegal eq h → is_handed h c ≡ true → is_settled h c ≡ true
  handed_settled eq h c = by_push (λ (h : List (Event K V)). IsLegal eq h → is_handed h c ≡ true → is_settled h c ≡ true) (λ legal is. cc) step h
    where
      last : (h : List (Event K V)) (e : Event K V) → MayFollow eq h e → hands c e ≡ true → is_settled h c ≡ true
      last h (Lead by key call own) follows is = cc
      last h (Enter by key call member) follows is = cc
      last h (Forget by key closed) follows is = cc
      last h (ForgetCall by key call hit) follows is = cc
      last h (Settle by call result joiners) follows is = cc
      last h (Handed by call) follows is = subst (λ (z : CallId). is_settled h z ≡ true) (same_call_is call c is) follows.1

      step : (h : List (Event K V)) (e : Event K V) → (IsLegal eq h → is_handed h c ≡ true → is_settled h c ≡ true) → IsLegal eq (h ++ e ∷ []) → is_handed (h ++ e ∷ []) c ≡ true → is_settled (h ++ e ∷ []) c ≡ true
      step h e before legal is =
          elim (list_any_push_cases (hands c) h e is) [
            | inl was ↦ list_any_push_kept (settles c) h e (before (legal_front eq h e legal) was)
            | inr now ↦ list_any_push_kept (settles c) h e (last h e (legal_last eq h e legal) now)
          ]

  -- an open call is not settled
  pub open_unsettled : (eq : K → K → Bool) (h : List (Event K V)) (k : K) (c : CallId) → IsLegal eq h → open_call eq h k ≡ Some c → is_settled h c ≡ false
  open_unsettled eq h k c = by_push (λ (h : List (Event K V)). IsLegal eq h → open_call eq h k ≡ Some c → is_settled h c ≡ false) (λ legal is. refl) step h
    where
      at_lead : (h : List (Event K V)) (call : CallId) → IsLegal eq h → list_any (names call) h ≡ false → (open_call eq h k ≡ Some c → is_settled h c ≡ false) → (b : Bool) → cond b (Some call) (open_call eq h k) ≡ Some c → is_settled h c ≡ false
      at_lead h call legal new before true found =
          let calls : call ≡ c = cc in
          let none : list_any (names c) h ≡ false = subst (λ (z : CallId). list_any (names z) h ≡ false) calls new in
          false_from_ne_true _ (λ settled. let named = settled_named eq h c legal settled in cc)
      at_lead h call legal new before false found = before found

      at_forget : (h : List (Event K V)) → (open_call eq h k ≡ Some c → is_settled h c ≡ false) → (b : Bool) → cond b None (open_call eq h k) ≡ Some c → is_settled h c ≡ false
      at_forget h before true found = cc
      at_forget h before false found = before found

      at_settle : (h : List (Event K V)) (call : CallId) → (open_call eq h k ≡ Some c → is_settled h c ≡ false) → (b : Bool) → holds_call (open_call eq h k) call ≡ b → cond b None (open_call eq h k) ≡ Some c
          → (is_settled h c ≡ false) × (same_call call c ≡ false)
      at_settle h call before true is found = cc
      at_settle h call before false is found =
          let held : holds_call (Some c) call ≡ false = subst (λ (o : Option CallId). holds_call o call ≡ false) found is in
          (before found, other_call c call held)

      at : (h : List (Event K V)) (e : Event K V) → IsLegal eq h → MayFollow eq h e → (open_call eq h k ≡ Some c → is_settled h c ≡ false) → opens eq k (open_call eq h k) e ≡ Some c → (is_settled h c ≡ false) × (settles c e ≡ false)
      at h (Lead by key call own) legal follows before found = (at_lead h call legal follows.1 before (eq key k) found, refl)
      at h (Enter by key call member) legal follows before found = (before found, refl)
      at h (Forget by key closed) legal follows before found = (at_forget h before (eq key k) found, refl)
      at h (ForgetCall by key call hit) legal follows before found = (at_forget h before (eq key k && has_closed hit) found, refl)
      at h (Settle by call result joiners) legal follows before found = at_settle h call before (holds_call (open_call eq h k) call) refl found
      at h (Handed by call) legal follows before found = (before found, refl)

      step : (h : List (Event K V)) (e : Event K V) → (IsLegal eq h → open_call eq h k ≡ Some c → is_settled h c ≡ false) → IsLegal eq (h ++ e ∷ []) → open_call eq (h ++ e ∷ []) k ≡ Some c → is_settled (h ++ e ∷ []) c ≡ false
      step h e before legal is =
          let front = legal_front eq h e legal in
          let both = at h e front (legal_last eq h e legal) (before front) (sym (fold_push (opens eq k) None h e) ∙ is) in
          list_any_push_none (settles c) h e both.0 both.1

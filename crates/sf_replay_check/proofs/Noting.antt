-- what an index knows of a legal history is what the history says
use Rattle.std.proofs.Common.{◌≡◌, ℕ, ◌+◌, ◌<◌, ◌≤◌, ◌==◌, Bool, true, false, ◌||◌, ◌&&◌, cond, List, [], ◌∷◌, ◌++◌, inl, inr, length, take, get_or, Option, Some, None, refl, sym, ◌∙◌, ap, subst, arith}
use Rattle.std.proofs.Math.Bool.{or-false}
use Rattle.std.proofs.lemmas.Bool.{cases_Bool}
use Rattle.std.proofs.lemmas.List.{take_more}
use Rattle.std.proofs.lemmas.List.Sums.{count_by-le-length}
use Rattle.sf_history.specs.declared.call.CallId.{CallId}
use Rattle.sf_history.specs.declared.event.Event.{Event}
use Rattle.sf_history.specs.declared.event.Event.TheVariants.{Lead, Enter, Forget, ForgetCall, Settle, Handed}
use Rattle.sf_history.specs.declared.event.Hit.{Hit}
use Rattle.sf_history.specs.declared.event.Hit.TheVariants.{Closed, Cleared, Missed}
use Rattle.std.specs.Cmp.{IsEquivalence}
use Rattle.sf_history.proofs.Currents.{open_is_current, hit_alike}
use Rattle.sf_history.specs.Calls.{same_call}
use Rattle.sf_history.specs.History.{has_closed, has_ended, holds_call, leads, was_led, enters, settles, is_settled, opens, open_call, keeps_current, current_call}
use Rattle.sf_history.specs.Legal.{IsHit, MayFollow, IsLegal}
use Rattle.sf_history.proofs.LegalHistories.{same_call_is, legal_front, legal_last, legal_push, legal_nil, fold_push, settled_named, same_call_self, other_call}
use Rattle.sf_lists.proofs.Lists.{by_push, list_any_push}
use Rattle.sf_replay_check.specs.Checker.{known_by, cause_of, first_cause, is_named, begins, has_begun}
use Rattle.sf_sequential.specs.Noted.{without}
use Rattle.sf_sequential.proofs.OpenByCurrent.{open_by_current}
use Rattle.sf_replay_check.specs.Index.{Noted, known_of, row_after, row_of, was_begun, joiners_in, was_settled}
use Rattle.sf_replay_check.proofs.Causes.{may_follow}
use Rattle.sf_replay_check.proofs.Rows.{Tells, tells}

module _ {K V : Type 0} (eq : K → K → Bool) where
  -- only a call's own caller led it
  led_by_own : (a : ℕ) (c : CallId) (h : List (Event K V)) → IsLegal eq h → was_led h a c ≡ ((c.caller == a) && has_begun h c)
  led_by_own a c = by_push (λ (h : List (Event K V)). IsLegal eq h → was_led h a c ≡ ((c.caller == a) && has_begun h c)) (λ legal. none (c.caller == a)) step
    where
      none : (t : Bool) → false ≡ (t && false)
      none true = refl
      none false = refl

      by_cases : (t b w x y : Bool) → w ≡ (t && b) → y ≡ (t && x) → (w || y) ≡ (t && (b || x))
      by_cases true b w x y before now = ap (λ z. z || y) before ∙ ap (λ z. b || z) now
      by_cases false b w x y before now = ap (λ z. z || y) before ∙ now

      last : (h : List (Event K V)) (e : Event K V) → MayFollow eq h e → leads a c e ≡ ((c.caller == a) && begins c e)
      last h (Lead by key call own) follows =
          elim (cases_Bool (same_call call c)) [
            | inl is ↦
                let callers : by ≡ c.caller = follows.0 ∙ ap (λ (z : CallId). z.caller) (same_call_is call c is) in
                ap (λ n. (n == a) && same_call call c) callers
            | inr isnt ↦ ap (λ z. (by == a) && z) isnt ∙ sym (none (by == a)) ∙ none (c.caller == a) ∙ ap (λ z. (c.caller == a) && z) (sym isnt)
          ]
      last h (Enter by key call member) follows = none (c.caller == a)
      last h (Forget by key closed) follows = none (c.caller == a)
      last h (ForgetCall by key call hit) follows = none (c.caller == a)
      last h (Settle by call result joiners) follows = none (c.caller == a)
      last h (Handed by call) follows = none (c.caller == a)

      step : (h : List (Event K V)) (e : Event K V) → (IsLegal eq h → was_led h a c ≡ ((c.caller == a) && has_begun h c)) → IsLegal eq (h ++ e ∷ []) → was_led (h ++ e ∷ []) a c ≡ ((c.caller == a) && has_begun (h ++ e ∷ []) c)
      step h e before legal =
          list_any_push (leads a c) h e
          ∙ by_cases (c.caller == a) (has_begun h c) (was_led h a c) (begins c e) (leads a c e) (before (legal_front eq h e legal)) (last h e (legal_last eq h e legal))
          ∙ ap (λ z. (c.caller == a) && z) (sym (list_any_push (begins c) h e))

  -- what an index has noted is what a legal history leaves at each name and each key
  pub record Notes (h : List (Event K V)) (n : Noted K) : Type 0 where
    pub legal : IsLegal eq h
    pub rows : (c : CallId) → n.row c ≡ row_of h c
    pub currents : (k : K) → n.current k ≡ current_call eq h k

  same_known : IsEquivalence eq → (h : List (Event K V)) (n : Noted K) → Notes h n → known_of n ≡ known_by eq h
  same_known equal h n notes =
      let said : (c : CallId) → Tells eq c h (n.row c) = λ c. subst (Tells eq c h) (sym (notes.rows c)) (tells eq c h notes.legal) in
      let led : (a : ℕ) (c : CallId) → ((c.caller == a) && was_begun (n.row c)) ≡ was_led h a c =
      λ a c. ap (λ z. (c.caller == a) && z) (said c).begins ∙ sym (led_by_own a c h notes.legal) in
      let open_is : (k : K) → without (λ c. was_settled (n.row c)) (n.current k) ≡ open_call eq h k =
      λ k. (λ i. without (λ c. (said c).settles i) (notes.currents k i)) ∙ sym (open_by_current eq equal k h notes.legal) in
      λ i. record {
        named = λ c. (said c).names i;
        begun = λ c. (said c).begins i;
        led = λ a c. led a c i;
        settled = λ c. (said c).settles i;
        joined = λ c. (said c).joins i;
        handed = λ c. (said c).hands i;
        unsettled = λ k. open_is k i;
        current = λ k. notes.currents k i;
      }

  -- no call of a legal history was joined more often than there are events
  pub joiners_few : (h : List (Event K V)) (n : Noted K) → Notes h n → (c : CallId) → joiners_in (n.row c) ≤ length h
  joiners_few h n notes c = omega (arith, ap joiners_in (notes.rows c) ∙ (tells eq c h notes.legal).joins, count_by-le-length (enters c) h)

  -- so it finds the same cause
  pub same_cause : IsEquivalence eq → (h : List (Event K V)) (n : Noted K) (e : Event K V) → Notes h n → cause_of (known_of n) e ≡ first_cause eq h e
  same_cause equal h n e notes = ap (λ p. cause_of p e) (same_known equal h n notes)

  pub nothing_noted : (n : Noted K) → ((c : CallId) → n.row c ≡ None) → ((k : K) → n.current k ≡ None) → Notes [] n
  nothing_noted n rows currents = record { legal = legal_nil eq; rows = rows; currents = currents }

  -- and it goes on by an event that may follow
  pub noted_more : IsEquivalence eq → (h : List (Event K V)) (i : ℕ) (e : Event K V) (n m : Noted K) → i < length h → e ≡ get_or h i e → Notes (take i h) n → None ≡ cause_of (known_of n) e
      → ((c : CallId) → m.row c ≡ row_after c (n.row c) e) → ((k : K) → m.current k ≡ keeps_current eq k (n.current k) e) → Notes (take (i + 1) h) m
  noted_more equal h i e n m within is notes none rows currents =
      let front = take i h in
      let more : front ++ e ∷ [] ≡ take (i + 1) h = ap (λ (z : Event K V). front ++ z ∷ []) is ∙ sym (take_more h i e within) in
      subst (λ z. Notes z m) more
      (record {
        legal = legal_push eq front e notes.legal (may_follow eq front e (sym (none ∙ same_cause equal front n e notes)));
        rows = λ c. rows c ∙ ap (λ z. row_after c z e) (notes.rows c) ∙ sym (fold_push (row_after c) None front e);
        currents = λ k. currents k ∙ ap (λ z. keeps_current eq k z e) (notes.currents k) ∙ sym (fold_push (keeps_current eq k) None front e);
      })

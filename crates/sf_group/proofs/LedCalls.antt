-- the call of a letter was led on its place
use Rattle.std.proofs.Common.{◌≡◌, ℕ, ◌≤◌, Bool, true, false, ◌&&◌, List, [], ◌∷◌, ◌++◌, inl, inr, Option, Some, None, refl, sym, ◌∙◌, ap, subst, cond}
use Rattle.std.specs.Prelude.{nat_eq, IfSome}
use Rattle.std.specs.List.{list_any}
use Rattle.std.proofs.lemmas.List.Folds.{list_any-append}
use Rattle.std.proofs.lemmas.Bool.{or_left, or_right}
use Rattle.sf_lists.proofs.Lists.{by_push}
use Rattle.atomic_table.specs.Seated.{TableId}
use Rattle.sf_history.specs.declared.call.CallId.{CallId}
use Rattle.sf_history.specs.declared.event.Event.{Event}
use Rattle.sf_history.specs.declared.event.Event.TheVariants.{Lead, Enter, Forget, ForgetCall, Settle, Handed}
use Rattle.sf_history.specs.Calls.{same_call}
use Rattle.sf_history.specs.History.{last_led, leads_last}
use Rattle.sf_history.proofs.LegalHistories.{same_call_self, fold_push}
use Rattle.sf_history.proofs.Currents.{current_is_last_led}
use Rattle.sf_steps_laws.specs.declared.operation.Stage.{Stage}
use Rattle.sf_steps_laws.specs.declared.operation.Stage.TheVariants as stage
use Rattle.sf_steps_laws.specs.Turns.{at_members}
use Rattle.sf_steps_laws.specs.Schedules.{leads_on, was_led_on}
use Rattle.sf_steps_laws.proofs.Sound.{Good, call_of}
use Rattle.sf_steps_laws.proofs.RightAnswers.{always}
use Rattle.sf_group_rows.specs.declared.sizes.Sizes.{Sizes}
use Rattle.sf_group_rows.specs.Afters.{FollowsCall}
use Rattle.sf_group_steps.specs.declared.view.View.{View}
use Rattle.sf_group_steps.specs.View.{setting_of, sizes_of, world_of, history_of}
use Rattle.sf_group_steps.specs.Stands.{Sits, Goes}
use Rattle.sf_group_steps.specs.Delivers.{IsOwed}
use Rattle.sf_group_steps.proofs.QuestionSteps.{led_longer, led_known}
use Rattle.sf_group.specs.Known.{IsPlaceIn, flight_of}
use Rattle.sf_group.proofs.Finishes.{call_is}
use Rattle.sf_group.proofs.Rows.{sizes_are, added}

module _ {V : Type 0} where
  -- what the stage of a caller promises, by what its seat knows
  good_stage : (z : Sizes) (a : ℕ) (v : View V) (p : Stage V) → Sits z a v p → Good (history_of z v.known.turns) (world_of z v.known.turns) a p
  good_stage z a v p sits = subst (λ (q : Stage V). Good (history_of z v.known.turns) (world_of z v.known.turns) a q) sits.stage ((always (setting_of z) v.known.turns sits.schedule).callers a).good

  pub leading_led : (z : Sizes) (a k : ℕ) (c : CallId) (own : Option CallId) (v : View V) → c.caller ≡ a → Sits z a v (stage.Leading k c.generation own) → was_led_on (history_of z v.known.turns) k c ≡ true
  leading_led z a k c own v is sits = subst (λ (d : CallId). was_led_on (history_of z v.known.turns) k d ≡ true) (call_is c a is) (good_stage z a v (stage.Leading k c.generation own) sits).led

  pub holding_led : (z : Sizes) (a k g : ℕ) (c : CallId) (v : View V) → Sits z a v (stage.Holding k g c) → was_led_on (history_of z v.known.turns) k c ≡ true
  holding_led z a k g c v sits = (good_stage z a v (stage.Holding k g c) sits).0

  pub owing_led : (z : Sizes) (a k : ℕ) (c : CallId) (own : Option CallId) (x : V) (joiners : ℕ) (top : Option ℕ) (v : View V) → c.caller ≡ a → IsOwed top own → Sits z a v (at_members k c.generation own x joiners top) → was_led_on (history_of z v.known.turns) k c ≡ true
  owing_led z a k c own x joiners top v is owed sits = subst (λ (d : CallId). was_led_on (history_of z v.known.turns) k d ≡ true) (call_is c a is) (at top own owed (good_stage z a v (at_members k c.generation own x joiners top) sits))
    where
      at : (top : Option ℕ) (own : Option CallId) → IsOwed top own → Good (history_of z v.known.turns) (world_of z v.known.turns) a (at_members k c.generation own x joiners top) → was_led_on (history_of z v.known.turns) k (call_of a c.generation) ≡ true
      at (Some m) own owed good = good.1.led
      at None (Some m) owed good = good.0.led
      at None None (inl some_top) good = cc
      at None None (inr some_own) good = cc

  -- and so it was by what the seat knows since
  pub led_later : (t : TableId) (a n k : ℕ) (c : CallId) (v w : View V) (p : Stage V) (es : List (Event ℕ V)) → was_led_on (history_of (sizes_of v) v.known.turns) k c ≡ true → Goes (sizes_of v) a v w p es n → was_led_on (history_of (sizes_of w) w.known.turns) k c ≡ true
  led_later t a n k c v w p es led goes =
      let begins = (added t a n v w p es goes).grows.begins in
      subst (λ (h : List (Event ℕ V)). was_led_on h k c ≡ true) (sym begins.1) (led_longer (history_of (sizes_of v) v.known.turns) begins.0 k c led)

  pub placed_later : (a n k : ℕ) (v w : View V) (p : Stage V) (es : List (Event ℕ V)) → IsPlaceIn (sizes_of v) k → Goes (sizes_of v) a v w p es n → IsPlaceIn (sizes_of w) k
  placed_later a n k v w p es placed goes = subst (λ (z : Sizes). IsPlaceIn z k) (sym (sizes_are (sizes_of v) a w p goes.sits)) placed

  -- a call that was led last on the place was led there
  led_last : (h : List (Event ℕ V)) (k : ℕ) (c : CallId) → last_led nat_eq h k ≡ Some c → was_led_on h k c ≡ true
  led_last h k c = by_push (λ (h : List (Event ℕ V)). last_led nat_eq h k ≡ Some c → was_led_on h k c ≡ true) (λ is. cc) step h
    where
      more : (h : List (Event ℕ V)) (e : Event ℕ V) → was_led_on h k c ≡ true → was_led_on (h ++ e ∷ []) k c ≡ true
      more h e led = led_longer h (e ∷ []) k c led

      at_lead : (h : List (Event ℕ V)) (by at : ℕ) (d : CallId) (own : Option CallId) → (last_led nat_eq h k ≡ Some c → was_led_on h k c ≡ true)
          → (b : Bool) → nat_eq at k ≡ b → cond b (Some d) (last_led nat_eq h k) ≡ Some c → was_led_on (h ++ Lead by at d own ∷ []) k c ≡ true
      at_lead h by at d own before true on is =
          let same : d ≡ c = cc in
          list_any-append (leads_on k c) h (Lead by at d own ∷ [])
          ∙ or_right (list_any (leads_on k c) h) _ (or_left _ _ (ap (λ (b : Bool). b && same_call d c) on ∙ (ap (λ (x : CallId). same_call x c) same ∙ same_call_self c)))
      at_lead h by at d own before false on is = more h (Lead by at d own) (before is)

      step : (h : List (Event ℕ V)) (e : Event ℕ V) → (last_led nat_eq h k ≡ Some c → was_led_on h k c ≡ true) → last_led nat_eq (h ++ e ∷ []) k ≡ Some c → was_led_on (h ++ e ∷ []) k c ≡ true
      step h (Lead by at d own) before is = at_lead h by at d own before (nat_eq at k) refl (sym (fold_push (leads_last nat_eq k) None h _) ∙ is)
      step h (Enter by at d member) before is = more h _ (before (sym (fold_push (leads_last nat_eq k) None h _) ∙ is))
      step h (Forget by at closed) before is = more h _ (before (sym (fold_push (leads_last nat_eq k) None h _) ∙ is))
      step h (ForgetCall by at d hit) before is = more h _ (before (sym (fold_push (leads_last nat_eq k) None h _) ∙ is))
      step h (Settle by d result joiners) before is = more h _ (before (sym (fold_push (leads_last nat_eq k) None h _) ∙ is))
      step h (Handed by d) before is = more h _ (before (sym (fold_push (leads_last nat_eq k) None h _) ∙ is))

  -- the call that a flight's call follows is a caller's, whose number is from 1
  pub after_caller : (t : TableId) (a k : ℕ) (c : CallId) (own o : Option CallId) (v : View V) (p : Stage V) → Sits (sizes_of v) a v p → FollowsCall (flight_of t v a k c own) o → IfSome o (λ d. 1 ≤ d.caller)
  after_caller t a k c own None v p sits follows = tt
  after_caller t a k c own (Some d) v p sits follows =
      let last : last_led nat_eq follows.before k ≡ Some d = current_is_last_led nat_eq follows.before k d follows.current in
      let lead : Event ℕ V = Lead a k c own in
      let led : was_led_on ((follows.before ++ lead ∷ []) ++ follows.led.0) k d ≡ true = led_longer (follows.before ++ lead ∷ []) follows.led.0 k d (led_longer follows.before (lead ∷ []) k d (led_last follows.before k d last)) in
      (led_known (sizes_of v) k d v.known.turns sits.schedule (subst (λ (h : List (Event ℕ V)). was_led_on h k d ≡ true) (sym follows.led.1) led)).0

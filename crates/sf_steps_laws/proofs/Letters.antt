-- letters hold the answers of their calls, and cells are emptied by their owners alone
use Rattle.std.proofs.Common.{◌≡◌, ℕ, Bool, true, false, ◌&&◌, List, [], ◌∷◌, ◌++◌, ◌⊎◌, inl, inr, Option, Some, None, refl, sym, ◌∙◌, ap, subst, append_assoc}
use Rattle.std.proofs.lemmas.List.{append-nil}
use Rattle.std.proofs.lemmas.Bool.{true≢false, false_from_ne_true}
use Rattle.std.specs.Prelude.{nat_eq, cond, option_map}
use Rattle.std.specs.List.{list_any}
use Rattle.sf_history.specs.declared.call.CallId.{CallId}
use Rattle.sf_history.specs.declared.event.Event.{Event}
use Rattle.sf_history.specs.declared.event.Event.TheVariants.{Lead, Enter, Forget, ForgetCall, Settle, Handed}
use Rattle.sf_history.specs.Calls.{same_call}
use Rattle.sf_history.specs.History.{has_closed, names, opens, enters, joined, settles, is_settled, answer_of}
use Rattle.sf_history.specs.Legal.{MayFollow, IsLegal}
use Rattle.sf_lists.proofs.Lists.{by_push, list_any_push_none}
use Rattle.sf_history.proofs.LegalHistories.{same_call_is, other_call, legal_front, legal_last, settled_named}
use Rattle.sf_words.specs.declared.call_word.CallState.TheVariants as word
use Rattle.sf_steps_laws.specs.declared.letter.Letter.{Letter}
use Rattle.sf_steps_laws.specs.declared.operation.Stage.{Stage}
use Rattle.sf_steps_laws.specs.declared.operation.Stage.TheVariants.{Free, Leading, Holding, Polling, Seconding, Asking, Settling, Forgetting, Naming, Questioning}
use Rattle.sf_steps_laws.specs.declared.operation.SettleStep.{SettleStep}
use Rattle.sf_steps_laws.specs.declared.operation.SettleStep.TheVariants as settle
use Rattle.sf_steps_laws.specs.declared.turn.Turn.TheVariants as turn
use Rattle.sf_steps_laws.specs.World.{World, first_world}
use Rattle.sf_steps_laws.specs.Events.{adds, events_of, world_after}
use Rattle.sf_steps_laws.specs.Delivered.{delivers, IsRightDeliver}
use Rattle.sf_steps_laws.specs.Laws.{LettersAreAnswers}
use Rattle.sf_steps_laws.proofs.Histories.{opened, opened_push}
use Rattle.sf_steps_laws.proofs.Growing.{Answered, answered_push}
use Rattle.sf_history.proofs.Members.{Each}
use Rattle.sf_steps_laws.proofs.Members.{line, line_head}
use Rattle.sf_steps_laws.proofs.Compared.{left_open}
use Rattle.sf_steps_laws.proofs.DeliverSteps.{same_ticket, ticket_good}
use Rattle.sf_steps_laws.proofs.Sound.{call_of, ticket, Waits, IsTicket, GoodSettle, Good, Sound}
use Rattle.sf_steps_laws.proofs.RightAnswers.{adds_append, schedule_parts, always, schedules_are_legal}

-- what an option holds
pub same_pair : {A : Type 0} (x y : A) → Some x ≡ Some y → x ≡ y
same_pair x y is = cc

module _ {V : Type 0} where
  -- an open call is not settled
  open_unsettled : (h : List (Event ℕ V)) (k : ℕ) (c : CallId) → IsLegal nat_eq h → opened h k ≡ Some c → is_settled h c ≡ false
  open_unsettled h k c = by_push (λ (h : List (Event ℕ V)). IsLegal nat_eq h → opened h k ≡ Some c → is_settled h c ≡ false) (λ legal is. refl) step h
    where
      at_lead : (h : List (Event ℕ V)) (call : CallId) → IsLegal nat_eq h → list_any (names call) h ≡ false → (opened h k ≡ Some c → is_settled h c ≡ false) → (b : Bool) → cond b (Some call) (opened h k) ≡ Some c → is_settled h c ≡ false
      at_lead h call legal new before true found =
          let calls : call ≡ c = cc in
          let none : list_any (names c) h ≡ false = subst (λ (z : CallId). list_any (names z) h ≡ false) calls new in
          false_from_ne_true _ (λ settled. true≢false (sym (settled_named nat_eq h c legal settled) ∙ none))
      at_lead h call legal new before false found = before found

      at_end : (h : List (Event ℕ V)) → (opened h k ≡ Some c → is_settled h c ≡ false) → (b : Bool) → cond b None (opened h k) ≡ Some c → is_settled h c ≡ false
      at_end h before true found = cc
      at_end h before false found = before found

      at : (h : List (Event ℕ V)) (e : Event ℕ V) → IsLegal nat_eq h → MayFollow nat_eq h e → (opened h k ≡ Some c → is_settled h c ≡ false) → opens nat_eq k (opened h k) e ≡ Some c → (is_settled h c ≡ false) × (settles c e ≡ false)
      at h (Lead by key call own) legal follows before found = (at_lead h call legal follows.1 before (nat_eq key k) found, refl)
      at h (Enter by key call member) legal follows before found = (before found, refl)
      at h (Forget by key closed) legal follows before found = (at_end h before (nat_eq key k) found, refl)
      at h (ForgetCall by key call hit) legal follows before found = (at_end h before (nat_eq key k && has_closed hit) found, refl)
      at h (Settle by call result joiners) legal follows before found = let was = left_open (opened h k) call c found in (before was.0, other_call c call was.1)
      at h (Handed by call) legal follows before found = (before found, refl)

      step : (h : List (Event ℕ V)) (e : Event ℕ V) → (IsLegal nat_eq h → opened h k ≡ Some c → is_settled h c ≡ false) → IsLegal nat_eq (h ++ e ∷ []) → opened (h ++ e ∷ []) k ≡ Some c → is_settled (h ++ e ∷ []) c ≡ false
      step h e before legal is =
          let front = legal_front nat_eq h e legal in
          let both = at h e front (legal_last nat_eq h e legal) (before front) (sym (opened_push h e k) ∙ is) in
          list_any_push_none (settles c) h e both.0 both.1

  legal_prefix : (h es : List (Event ℕ V)) → IsLegal nat_eq (h ++ es) → IsLegal nat_eq h
  legal_prefix h es legal p q x is = legal p (q ++ es) x (ap (λ (z : List (Event ℕ V)). z ++ es) is ∙ append_assoc p (x ∷ q) es)

  -- no Enter on a settled call may follow
  unentered : (h : List (Event ℕ V)) (e : Event ℕ V) (c : CallId) → IsLegal nat_eq h → MayFollow nat_eq h e → is_settled h c ≡ true → enters c e ≡ false
  unentered h (Lead by key call own) c legal follows settled = refl
  unentered h (Enter by key call member) c legal follows settled = false_from_ne_true (same_call call c) (λ same.
      let is_open : opened h key ≡ Some c = follows.2 ∙ ap (λ (z : CallId). Some z) (same_call_is call c same) in
      true≢false (sym settled ∙ open_unsettled h key c legal is_open))
  unentered h (Forget by key closed) c legal follows settled = refl
  unentered h (ForgetCall by key call hit) c legal follows settled = refl
  unentered h (Settle by call result joiners) c legal follows settled = refl
  unentered h (Handed by call) c legal follows settled = refl

  -- an answer stays
  pub answered_longer : (c : CallId) (v : V) (joiners : ℕ) (es h : List (Event ℕ V)) → IsLegal nat_eq (h ++ es) → Answered h c v joiners → Answered (h ++ es) c v joiners
  answered_longer c v joiners [] h legal is = subst (λ (q : List (Event ℕ V)). Answered q c v joiners) (sym (append-nil h)) is
  answered_longer c v joiners (e ∷ es) h legal is =
      subst (λ (q : List (Event ℕ V)). Answered q c v joiners) (append_assoc h (e ∷ []) es)
      (answered_longer c v joiners es (h ++ e ∷ []) (subst (λ (q : List (Event ℕ V)). IsLegal nat_eq q) (sym (append_assoc h (e ∷ []) es)) legal)
      (answered_push h e c v joiners (unentered h e c (legal_prefix h (e ∷ es) legal) (legal h es e refl) is.0) is))

  pub answer_is : (h : List (Event ℕ V)) (c : CallId) (v : V) (joiners : ℕ) → Answered h c v joiners → answer_of h c ≡ Some (v, joiners)
  answer_is h c v joiners is = ap (option_map (λ (x : V). (x, joined h c))) is.1 ∙ ap (λ (n : ℕ). Some (v, n)) is.2

  pub ticket_is : (p : Stage V) (k g : ℕ) (c : CallId) → ticket p ≡ Some (k, g, c) → (p ≡ Holding k g c) ⊎ (p ≡ Polling k g c)
  ticket_is Free k g c is = cc
  ticket_is (Leading i n own) k g c is = cc
  ticket_is (Holding i n d) k g c is = inl (ap (λ (y : ℕ × ℕ × CallId). Holding y.0 y.1 y.2) (same_ticket (i, n, d) (k, g, c) is))
  ticket_is (Polling i n d) k g c is = inr (ap (λ (y : ℕ × ℕ × CallId). Polling y.0 y.1 y.2) (same_ticket (i, n, d) (k, g, c) is))
  ticket_is (Seconding first) k g c is = cc
  ticket_is (Asking i s step) k g c is = cc
  ticket_is (Settling i n own v step) k g c is = cc
  ticket_is (Forgetting i target step) k g c is = cc
  ticket_is (Naming i) k g c is = cc
  ticket_is (Questioning i d step) k g c is = cc

  -- a letter is delivered to one who waits, and holds the answer
  abbrev pub IsRight : List (Event ℕ V) → World V → CallId × Letter V → Type 0
  IsRight h w x = IsRightDeliver h w x.0 x.1 × Answered h x.1.call x.1.value x.1.joiners

  waiting_right : (first : ℕ) (h : List (Event ℕ V)) (w : World V) (k : ℕ) (c m : CallId) (v : V) (joiners : ℕ) → Sound first h w → Waits w k c m → Answered h c v joiners → IsRight h w (m, record { place = k; call = c; value = v; joiners = joiners })
  waiting_right first h w k c m v joiners sound waits answered =
      let held = (ticket_good h w m.caller (w.stages m.caller) k m.generation c waits.0 (sound.callers m.caller).good).0 in
      let listed : IsTicket h k m.generation c (word.Listed m.generation) (w.cells m.caller) = subst (λ u. IsTicket h k m.generation c u (w.cells m.caller)) waits.1 held.1 in
      (record { ticket = ticket_is (w.stages m.caller) k m.generation c waits.0; waits = waits.1; answered = answer_is h c v joiners answered; empty = listed.1 }, answered)

  settle_right : (first : ℕ) (h : List (Event ℕ V)) (w : World V) (a k g : ℕ) (own : Option CallId) (v : V) (step : SettleStep) (x : CallId × Letter V) → w.stages a ≡ Settling k g own v step → Sound first h w → delivers a (Settling k g own v step) ≡ Some x → IsRight h w x
  settle_right first h w a k g own v settle.Peek x at sound is = cc
  settle_right first h w a k g own v (settle.Close seen) x at sound is = cc
  settle_right first h w a k g own v (settle.Clear top) x at sound is = cc
  settle_right first h w a k g own v (settle.Count n m top) x at sound is = cc
  settle_right first h w a k g own v (settle.Follow joiners m) x at sound is = cc
  settle_right first h w a k g own v (settle.PeekMember joiners m next) x at sound is = cc
  settle_right first h w a k g own v (settle.Deliver joiners m next) x at sound is =
      let good : GoodSettle h w a k g own v (settle.Deliver joiners m next) = subst (λ (q : Stage V). Good h w a q) at (sound.callers a).good in
      subst (IsRight h w) (same_pair (m, record { place = k; call = call_of a g; value = v; joiners = joiners }) x is)
      (waiting_right first h w k (call_of a g) m v joiners sound (line_head (Waits w k (call_of a g)) own m good.0 good.1.waits) good.1.answered)
  settle_right first h w a k g own v (settle.PeekOwn joiners) x at sound is = cc
  settle_right first h w a k g own v (settle.DeliverOwn joiners m) x at sound is =
      let good : GoodSettle h w a k g own v (settle.DeliverOwn joiners m) = subst (λ (q : Stage V). Good h w a q) at (sound.callers a).good in
      let waits : Each (Waits w k (call_of a g)) (m ∷ []) = subst (λ (o : Option CallId). Each (Waits w k (call_of a g)) (line o [])) good.2 good.0.waits in
      subst (IsRight h w) (same_pair (m, record { place = k; call = call_of a g; value = v; joiners = joiners }) x is)
      (waiting_right first h w k (call_of a g) m v joiners sound waits.0 good.0.answered)

  pub deliver_right : (first : ℕ) (h : List (Event ℕ V)) (w : World V) (a : ℕ) (p : Stage V) (x : CallId × Letter V) → w.stages a ≡ p → Sound first h w → delivers a p ≡ Some x → IsRight h w x
  deliver_right first h w a Free x at sound is = cc
  deliver_right first h w a (Leading k g own) x at sound is = cc
  deliver_right first h w a (Holding k g c) x at sound is = cc
  deliver_right first h w a (Polling k g c) x at sound is = cc
  deliver_right first h w a (Seconding one) x at sound is = cc
  deliver_right first h w a (Asking k s step) x at sound is = cc
  deliver_right first h w a (Settling k g own v step) x at sound is = settle_right first h w a k g own v step x at sound is
  deliver_right first h w a (Forgetting k target step) x at sound is = cc
  deliver_right first h w a (Naming k) x at sound is = cc
  deliver_right first h w a (Questioning k c step) x at sound is = cc

  pub letters_are_answers : LettersAreAnswers V
  letters_are_answers z p rest a m l is said =
      let w : World V = world_after z.callers z.first p in
      let h : List (Event ℕ V) = events_of z.callers z.first p in
      let more : List (Event ℕ V) = adds w (turn.Step a ∷ rest) in
      let parts = schedule_parts z p (turn.Step a ∷ rest) [] (first_world z.callers z.first) is in
      let right = deliver_right z.first h w a (w.stages a) (m, l) refl (always z p parts.0) said in
      let whole : events_of z.callers z.first (p ++ turn.Step a ∷ rest) ≡ h ++ more = adds_append (first_world z.callers z.first) p (turn.Step a ∷ rest) in
      let legal : IsLegal nat_eq (h ++ more) = subst (λ (q : List (Event ℕ V)). IsLegal nat_eq q) whole (schedules_are_legal z (p ++ turn.Step a ∷ rest) is) in
      (right.0, ap (λ (q : List (Event ℕ V)). answer_of q l.call) whole ∙ answer_is (h ++ more) l.call l.value l.joiners (answered_longer l.call l.value l.joiners more h legal right.1))

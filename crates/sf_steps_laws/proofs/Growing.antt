-- what the events that a caller's turn adds leave true of the history
use Rattle.std.proofs.Common.{◌≡◌, ◌≢◌, ℕ, Bool, true, false, ◌==◌, ◌||◌, ◌&&◌, List, [], ◌∷◌, ◌++◌, inl, inr, Option, Some, None, refl, sym, ◌∙◌, ap, subst}
use Rattle.std.proofs.Math.Bool.{and-false}
use Rattle.std.proofs.lemmas.Bool.{true≢false, false_from_ne_true}
use Rattle.std.proofs.lemmas.List.Folds.{find-append}
use Rattle.std.specs.Prelude.{nat_eq, cond, find, option_and_then}
use Rattle.std.specs.Option.{option_or}
use Rattle.std.specs.List.{list_any}
use Rattle.sf_history.specs.declared.call.CallId.{CallId}
use Rattle.sf_history.specs.declared.event.Event.{Event}
use Rattle.sf_history.specs.declared.event.Event.TheVariants.{Lead, Enter, Forget, ForgetCall, Settle, Handed}
use Rattle.sf_history.specs.Calls.{same_call}
use Rattle.sf_history.specs.History.{has_closed, has_ended, holds_call, opens, keeps_current, enters, joined, leads, was_led, settles, is_settled, hands, is_handed, result_in, result_of}
use Rattle.sf_history.specs.Legal.{MayFollow}
use Rattle.sf_lists.proofs.Lists.{list_any_push_cases, list_any_push_kept, list_any_push_none}
use Rattle.sf_history.proofs.LegalHistories.{same_call_is, same_call_self}
use Rattle.sf_history.proofs.Members.{joined_kept}
use Rattle.sf_steps_laws.specs.Schedules.{leads_on, was_led_on}
use Rattle.sf_steps_laws.proofs.Histories.{opened, now, opened_push, now_push, led_on_named, closed_push, past_push}

-- calls of different callers
pub apart_call : (c d : CallId) → d.caller ≢ c.caller → same_call d c ≡ false
apart_call c d other = false_from_ne_true (same_call d c) (λ is. other (ap (λ (z : CallId). z.caller) (same_call_is d c is)))

-- what a Lead, or an end of the key's call, leaves
at_lead : (a : ℕ) (call c : CallId) (found : Option CallId) → call.caller ≡ a → c.caller ≢ a → (b : Bool) → cond b (Some call) found ≡ Some c → found ≡ Some c
at_lead a call c found is other true same = let calls : call ≡ c = cc in absurd (other (sym (ap (λ (z : CallId). z.caller) calls) ∙ is))
at_lead a call c found is other false same = same

at_end : (c : CallId) (found : Option CallId) (b : Bool) → cond b None found ≡ Some c → found ≡ Some c
at_end c found true same = cc
at_end c found false same = same

module _ {V : Type 0} where
  -- the call is settled with this value, and so many joined it
  abbrev pub Answered : List (Event ℕ V) → CallId → V → ℕ → Type 0
  Answered h c v joiners = (is_settled h c ≡ true) × (result_of h c ≡ Some v) × (joined h c ≡ joiners)

  -- what events of a turn of the caller a leave true
  pub record Grows (a : ℕ) (h h' : List (Event ℕ V)) : Type 0 where
    pub led : (k : ℕ) (c : CallId) → was_led_on h k c ≡ true → was_led_on h' k c ≡ true
    pub mine : (b : ℕ) (c : CallId) → was_led h b c ≡ true → was_led h' b c ≡ true
    pub closed : (k : ℕ) (c : CallId) → was_led_on h k c ≡ true → opened h k ≢ Some c → opened h' k ≢ Some c
    pub past : (k : ℕ) (c : CallId) → was_led_on h k c ≡ true → now h k ≢ Some c → now h' k ≢ Some c
    pub answered : (c : CallId) (v : V) (joiners : ℕ) → Answered h c v joiners → Answered h' c v joiners
    pub not_settled : (c : CallId) → c.caller ≢ a → is_settled h c ≡ false → is_settled h' c ≡ false
    pub not_handed : (c : CallId) → c.caller ≢ a → is_handed h c ≡ false → is_handed h' c ≡ false
    pub led_before : (k : ℕ) (c : CallId) → c.caller ≢ a → was_led_on h' k c ≡ true → was_led_on h k c ≡ true
    pub now_before : (k : ℕ) (c : CallId) → c.caller ≢ a → now h' k ≡ Some c → now h k ≡ Some c
    pub opened_before : (k : ℕ) (c : CallId) → c.caller ≢ a → opened h' k ≡ Some c → opened h k ≡ Some c

  pub grows_none : (a : ℕ) (h : List (Event ℕ V)) → Grows a h h
  grows_none a h = record {
    led = λ k c is. is;
    mine = λ b c is. is;
    closed = λ k c led is. is;
    past = λ k c led is. is;
    answered = λ c v joiners is. is;
    not_settled = λ c other is. is;
    not_handed = λ c other is. is;
    led_before = λ k c other is. is;
    now_before = λ k c other is. is;
    opened_before = λ k c other is. is;
  }

  pub grows_twice : (a : ℕ) (h i j : List (Event ℕ V)) → Grows a h i → Grows a i j → Grows a h j
  grows_twice a h i j x y = record {
    led = λ k c is. y.led k c (x.led k c is);
    mine = λ b c is. y.mine b c (x.mine b c is);
    closed = λ k c led is. y.closed k c (x.led k c led) (x.closed k c led is);
    past = λ k c led is. y.past k c (x.led k c led) (x.past k c led is);
    answered = λ c v joiners is. y.answered c v joiners (x.answered c v joiners is);
    not_settled = λ c other is. y.not_settled c other (x.not_settled c other is);
    not_handed = λ c other is. y.not_handed c other (x.not_handed c other is);
    led_before = λ k c other is. x.led_before k c other (y.led_before k c other is);
    now_before = λ k c other is. x.now_before k c other (y.now_before k c other is);
    opened_before = λ k c other is. x.opened_before k c other (y.opened_before k c other is);
  }

  -- an event of a turn of the caller: it leads, settles and hands out its own calls alone, and an Enter is on a call that is not settled
  abbrev pub IsOf : ℕ → List (Event ℕ V) → Event ℕ V → Type 0
  IsOf a h (Lead by key call own) = call.caller ≡ a
  IsOf a h (Enter by key call member) = is_settled h call ≡ false
  IsOf a h (Forget by key closed) = Unit {0}
  IsOf a h (ForgetCall by key call hit) = Unit {0}
  IsOf a h (Settle by call result joiners) = call.caller ≡ a
  IsOf a h (Handed by call) = call.caller ≡ a

  pub result_kept : (h : List (Event ℕ V)) (e : Event ℕ V) (c : CallId) (v : V) → result_of h c ≡ Some v → result_of (h ++ e ∷ []) c ≡ Some v
  result_kept h e c v is = ap (option_and_then result_in) (find-append (settles c) h (e ∷ [])) ∙ at (find (settles c) h) (find (settles c) (e ∷ [])) is
    where
      at : (o p : Option (Event ℕ V)) → option_and_then result_in o ≡ Some v → option_and_then result_in (option_or o p) ≡ Some v
      at None p is = cc
      at (Some x) p is = is

  find_step : (test some : Bool) (e : Event ℕ V) (found : Option (Event ℕ V)) → (some ≡ false → found ≡ None) → (test || some) ≡ false → cond test (Some e) found ≡ None
  find_step true some e found rest is = absurd (true≢false is)
  find_step false some e found rest is = rest is

  -- no event settles the call
  find_none : (h : List (Event ℕ V)) (c : CallId) → is_settled h c ≡ false → find (settles c) h ≡ None
  find_none [] c is = refl
  find_none (e ∷ h) c is = find_step (settles c e) (list_any (settles c) h) e (find (settles c) h) (find_none h c) is

  -- the Settle of a call gives its result
  pub result_settled : (h : List (Event ℕ V)) (a : ℕ) (c : CallId) (v : V) (joiners : ℕ) → is_settled h c ≡ false → result_of (h ++ Settle a c v joiners ∷ []) c ≡ Some v
  result_settled h a c v joiners isnt =
      ap (option_and_then result_in) (find-append (settles c) h (Settle a c v joiners ∷ []) ∙ (ap (λ (o : Option (Event ℕ V)). option_or o (find (settles c) (Settle a c v joiners ∷ []))) (find_none h c isnt)
      ∙ ap (λ (t : Bool). cond t (Some (Settle a c v joiners)) None) (same_call_self c)))

  enters_open : (a : ℕ) (h : List (Event ℕ V)) (e : Event ℕ V) (c : CallId) → IsOf a h e → is_settled h c ≡ true → enters c e ≡ false
  enters_open a h (Lead by key call own) c is settled = refl
  enters_open a h (Enter by key call member) c is settled =
      false_from_ne_true (same_call call c) (λ same. true≢false (sym settled ∙ subst (λ (z : CallId). is_settled h z ≡ false) (same_call_is call c same) is))
  enters_open a h (Forget by key closed) c is settled = refl
  enters_open a h (ForgetCall by key call hit) c is settled = refl
  enters_open a h (Settle by call result joiners) c is settled = refl
  enters_open a h (Handed by call) c is settled = refl

  -- an event that is no Enter on a settled call leaves its answer
  pub answered_push : (h : List (Event ℕ V)) (e : Event ℕ V) (c : CallId) (v : V) (joiners : ℕ) → enters c e ≡ false → Answered h c v joiners → Answered (h ++ e ∷ []) c v joiners
  answered_push h e c v joiners none was = (
    list_any_push_kept (settles c) h e was.0,
    result_kept h e c v was.1,
    joined_kept h e c none ∙ was.2,
  )

  settles_own : (a : ℕ) (h : List (Event ℕ V)) (e : Event ℕ V) (c : CallId) → IsOf a h e → c.caller ≢ a → settles c e ≡ false
  settles_own a h (Lead by key call own) c is other = refl
  settles_own a h (Enter by key call member) c is other = refl
  settles_own a h (Forget by key closed) c is other = refl
  settles_own a h (ForgetCall by key call hit) c is other = refl
  settles_own a h (Settle by call result joiners) c is other = apart_call c call (λ (e : call.caller ≡ c.caller). other (sym e ∙ is))
  settles_own a h (Handed by call) c is other = refl

  hands_own : (a : ℕ) (h : List (Event ℕ V)) (e : Event ℕ V) (c : CallId) → IsOf a h e → c.caller ≢ a → hands c e ≡ false
  hands_own a h (Lead by key call own) c is other = refl
  hands_own a h (Enter by key call member) c is other = refl
  hands_own a h (Forget by key closed) c is other = refl
  hands_own a h (ForgetCall by key call hit) c is other = refl
  hands_own a h (Settle by call result joiners) c is other = refl
  hands_own a h (Handed by call) c is other = apart_call c call (λ (e : call.caller ≡ c.caller). other (sym e ∙ is))

  leads_own : (a : ℕ) (h : List (Event ℕ V)) (e : Event ℕ V) (k : ℕ) (c : CallId) → IsOf a h e → c.caller ≢ a → leads_on k c e ≡ false
  leads_own a h (Lead by key call own) k c is other = ap (λ (b : Bool). (key == k) && b) (apart_call c call (λ (e : call.caller ≡ c.caller). other (sym e ∙ is))) ∙ and-false (key == k)
  leads_own a h (Enter by key call member) k c is other = refl
  leads_own a h (Forget by key closed) k c is other = refl
  leads_own a h (ForgetCall by key call hit) k c is other = refl
  leads_own a h (Settle by call result joiners) k c is other = refl
  leads_own a h (Handed by call) k c is other = refl

  now_own : (a : ℕ) (h : List (Event ℕ V)) (e : Event ℕ V) (k : ℕ) (c : CallId) (found : Option CallId) → IsOf a h e → c.caller ≢ a → keeps_current nat_eq k found e ≡ Some c → found ≡ Some c
  now_own a h (Lead by key call own) k c found is other same = at_lead a call c found is other (nat_eq key k) same
  now_own a h (Enter by key call member) k c found is other same = same
  now_own a h (Forget by key closed) k c found is other same = at_end c found (nat_eq key k) same
  now_own a h (ForgetCall by key call hit) k c found is other same = at_end c found (nat_eq key k && has_ended hit) same
  now_own a h (Settle by call result joiners) k c found is other same = same
  now_own a h (Handed by call) k c found is other same = same

  opened_own : (a : ℕ) (h : List (Event ℕ V)) (e : Event ℕ V) (k : ℕ) (c : CallId) (found : Option CallId) → IsOf a h e → c.caller ≢ a → opens nat_eq k found e ≡ Some c → found ≡ Some c
  opened_own a h (Lead by key call own) k c found is other same = at_lead a call c found is other (nat_eq key k) same
  opened_own a h (Enter by key call member) k c found is other same = same
  opened_own a h (Forget by key closed) k c found is other same = at_end c found (nat_eq key k) same
  opened_own a h (ForgetCall by key call hit) k c found is other same = at_end c found (nat_eq key k && has_closed hit) same
  opened_own a h (Settle by call result joiners) k c found is other same = at_end c found (holds_call found call) same
  opened_own a h (Handed by call) k c found is other same = same

  pub grows_push : (a : ℕ) (h : List (Event ℕ V)) (e : Event ℕ V) → MayFollow nat_eq h e → IsOf a h e → Grows a h (h ++ e ∷ [])
  grows_push a h e follows is = record {
    led = λ k c was. list_any_push_kept (leads_on k c) h e was;
    mine = λ b c was. list_any_push_kept (leads b c) h e was;
    closed = λ k c led isnt. closed_push h e k c follows led isnt;
    past = λ k c led isnt. past_push h e k c follows (led_on_named h k c led) isnt;
    answered = λ c v joiners was. answered_push h e c v joiners (enters_open a h e c is was.0) was;
    not_settled = λ c other isnt. list_any_push_none (settles c) h e isnt (settles_own a h e c is other);
    not_handed = λ c other isnt. list_any_push_none (hands c) h e isnt (hands_own a h e c is other);
    led_before = λ k c other was. elim (list_any_push_cases (leads_on k c) h e was) [
      | inl before ↦ before
      | inr last ↦ absurd (true≢false (sym last ∙ leads_own a h e k c is other))
    ];
    now_before = λ k c other was. now_own a h e k c (now h k) is other (sym (now_push h e k) ∙ was);
    opened_before = λ k c other was. opened_own a h e k c (opened h k) is other (sym (opened_push h e k) ∙ was);
  }

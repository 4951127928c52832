-- an event has a cause exactly where it may not follow the events before it
use Rattle.std.proofs.Common.{◌≡◌, ◌≢◌, ℕ, ◌==◌, Bool, true, false, not, List, [], ◌∷◌, inl, inr, Option, Some, None, refl, sym, ap, subst, is_some, IfSome}
use Rattle.std.proofs.lemmas.Bool.{or_parts, or_from, or_left, or_right, or_cases, and_parts, and_from, eqb-true, eq-eqb, cases_Bool}
use Rattle.sf_history.specs.declared.call.CallId.{CallId}
use Rattle.sf_history.specs.declared.event.Event.{Event}
use Rattle.sf_history.specs.declared.event.Event.TheVariants.{Lead, Enter, Forget, ForgetCall, Settle, Handed}
use Rattle.sf_history.specs.declared.event.Hit.{Hit}
use Rattle.sf_history.specs.declared.event.Hit.TheVariants.{Closed, Cleared, Missed}
use Rattle.sf_history.specs.Calls.{same_call}
use Rattle.sf_history.specs.History.{holds_call, leads, open_call, current_call, joined, was_led, is_settled, is_handed, IsNew}
use Rattle.sf_history.specs.Legal.{MayFollow, IsHit}
use Rattle.sf_history.proofs.LegalHistories.{same_call_is, same_call_self}
use Rattle.sf_replay_check.specs.declared.cause.Cause.{Cause}
use Rattle.sf_replay_check.specs.Checker.{cause_if, hit_fits, same_option, own_is, is_named, begins, has_begun, first_cause, NoCauseMayFollow}

-- there is no cause exactly where the test fails and what comes next has none
none_if : (b : Bool) (cause : Cause) (next : Option Cause) → cause_if b cause next ≡ None → (b ≡ false) × (next ≡ None)
none_if true cause next is = cc
none_if false cause next is = (refl, is)

if_none : (b : Bool) (cause : Cause) (next : Option Cause) → b ≡ false → next ≡ None → cause_if b cause next ≡ None
if_none true cause next test rest = cc
if_none false cause next test rest = rest

not_false : (b : Bool) → not b ≡ false → b ≡ true
not_false true is = refl
not_false false is = cc

not_true : (b : Bool) → b ≡ true → not b ≡ false
not_true true is = refl
not_true false is = cc

-- the tests say what they are to say
holds_is : (o : Option CallId) (c : CallId) → holds_call o c ≡ true → o ≡ Some c
holds_is None c is = cc
holds_is (Some d) c is = ap Some (same_call_is d c is)

is_holds : (o : Option CallId) (c : CallId) → o ≡ Some c → holds_call o c ≡ true
is_holds o c is = subst (λ z. holds_call z c ≡ true) (sym is) (same_call_self c)

absent : (o : Option CallId) → is_some o ≡ false → o ≡ None
absent None is = refl
absent (Some c) is = cc

absent_is : (o : Option CallId) → o ≡ None → is_some o ≡ false
absent_is None is = refl
absent_is (Some c) is = cc

same_option_is : (o p : Option CallId) → same_option o p ≡ true → o ≡ p
same_option_is None None is = refl
same_option_is None (Some c) is = cc
same_option_is (Some c) p is = sym (holds_is p c is)

is_same_option : (o p : Option CallId) → o ≡ p → same_option o p ≡ true
is_same_option None None is = refl
is_same_option None (Some c) is = cc
is_same_option (Some c) p is = is_holds p c (sym is)

holds_not : (o : Option CallId) (c : CallId) → holds_call o c ≡ false → o ≢ Some c
holds_not o c isnt is = let held = is_holds o c is in cc

not_holds : (o : Option CallId) (c : CallId) → o ≢ Some c → holds_call o c ≡ false
not_holds o c isnt =
    elim (cases_Bool (holds_call o c)) [
      | inl is ↦ absurd (isnt (holds_is o c is))
      | inr none ↦ none
    ]

not_is : (b : Bool) → not b ≡ true → b ≡ false
not_is true is = cc
not_is false is = refl

is_not : (b : Bool) → b ≡ false → not b ≡ true
is_not true is = cc
is_not false is = refl

fits_hit : (hit : Hit) (o n : Option CallId) (c : CallId) → hit_fits hit o n c ≡ true → IsHit o n c hit
fits_hit Closed o n c is = holds_is o c is
fits_hit Cleared o n c is = let both = and_parts (holds_call n c) (not (holds_call o c)) is in (holds_is n c both.0, holds_not o c (not_is _ both.1))
fits_hit Missed o n c is = holds_not n c (not_is _ is)

hit_fits_is : (hit : Hit) (o n : Option CallId) (c : CallId) → IsHit o n c hit → hit_fits hit o n c ≡ true
hit_fits_is Closed o n c is = is_holds o c is
hit_fits_is Cleared o n c is = and_from _ _ (is_holds n c is.0) (is_not _ (not_holds o c is.1))
hit_fits_is Missed o n c is = is_not _ (not_holds n c is)

other_than : (m c : CallId) → same_call m c ≡ false → m ≢ c
other_than m c isnt = λ is. let same = subst (λ (z : CallId). same_call m z ≡ true) is (same_call_self m) in cc

differs : (m c : CallId) → m ≢ c → same_call m c ≡ false
differs m c other =
    elim (cases_Bool (same_call m c)) [
      | inl is ↦ absurd (other (same_call_is m c is))
      | inr isnt ↦ isnt
    ]

module _ {K V : Type 0} where
  own_new : (p : List (Event K V)) (call : CallId) (own : Option CallId) → own_is (is_named p) call own ≡ false → IfSome own (λ m. IsNew p m × (m ≢ call))
  own_new p call None is = tt
  own_new p call (Some m) is = let tests = or_parts (is_named p m) (same_call m call) is in (tests.0, other_than m call tests.1)

  new_own : (p : List (Event K V)) (call : CallId) (own : Option CallId) → IfSome own (λ m. IsNew p m × (m ≢ call)) → own_is (is_named p) call own ≡ false
  new_own p call None is = refl
  new_own p call (Some m) is = or_from (is_named p m) (same_call m call) is.0 (differs m call is.1)

  -- a call that was led by a caller was led
  led_begins : (a : ℕ) (c : CallId) (e : Event K V) → leads a c e ≡ true → begins c e ≡ true
  led_begins a c (Lead by key call own) is = (and_parts (by == a) (same_call call c) is).1
  led_begins a c (Enter by key call member) is = cc
  led_begins a c (Forget by key closed) is = cc
  led_begins a c (ForgetCall by key call hit) is = cc
  led_begins a c (Settle by call result joiners) is = cc
  led_begins a c (Handed by call) is = cc

  led_has_begun : (p : List (Event K V)) (a : ℕ) (c : CallId) → was_led p a c ≡ true → has_begun p c ≡ true
  led_has_begun [] a c is = cc
  led_has_begun (e ∷ p) a c is =
      elim (or_cases (leads a c e) (was_led p a c) is) [
        | inl now ↦ or_left (begins c e) (has_begun p c) (led_begins a c e now)
        | inr later ↦ or_right (begins c e) (has_begun p c) (led_has_begun p a c later)
      ]

  pub may_follow : (eq : K → K → Bool) (p : List (Event K V)) (e : Event K V) → first_cause eq p e ≡ None → MayFollow eq p e
  may_follow eq p (Lead by key call own) is =
      let one = none_if (not (by == call.caller)) _ _ is in
      let two = none_if (is_named p call) _ _ one.1 in
      let three = none_if (own_is (is_named p) call own) _ _ two.1 in
      let four = none_if (is_some (open_call eq p key)) _ _ three.1 in
      (eqb-true _ _ (not_false _ one.0), two.0, own_new p call own three.0, absent _ four.0)
  may_follow eq p (Enter by key call member) is =
      let one = none_if (not (by == member.caller)) _ _ is in
      let two = none_if (is_named p member) _ _ one.1 in
      let three = none_if (not (holds_call (open_call eq p key) call)) _ _ two.1 in
      (eqb-true _ _ (not_false _ one.0), two.0, holds_is _ _ (not_false _ three.0))
  may_follow eq p (Forget by key closed) is =
      let one = none_if (not (same_option closed (open_call eq p key))) _ _ is in
      same_option_is _ _ (not_false _ one.0)
  may_follow eq p (ForgetCall by key call hit) is =
      let one = none_if (not (hit_fits hit (open_call eq p key) (current_call eq p key) call)) _ _ is in
      fits_hit hit (open_call eq p key) (current_call eq p key) call (not_false _ one.0)
  may_follow eq p (Settle by call result joiners) is =
      let one = none_if (not (has_begun p call)) _ _ is in
      let two = none_if (not (was_led p by call)) _ _ one.1 in
      let three = none_if (is_settled p call) _ _ two.1 in
      let four = none_if (not (joiners == joined p call)) _ _ three.1 in
      (not_false _ two.0, three.0, eqb-true _ _ (not_false _ four.0))
  may_follow eq p (Handed by call) is =
      let one = none_if (not (has_begun p call)) _ _ is in
      let two = none_if (not (was_led p by call)) _ _ one.1 in
      let three = none_if (not (is_settled p call)) _ _ two.1 in
      let four = none_if (is_handed p call) _ _ three.1 in
      (not_false _ two.0, not_false _ three.0, four.0)

  pub no_cause : (eq : K → K → Bool) (p : List (Event K V)) (e : Event K V) → MayFollow eq p e → first_cause eq p e ≡ None
  no_cause eq p (Lead by key call own) is =
      if_none (not (by == call.caller)) _ _ (not_true _ (eq-eqb by call.caller is.0))
      (if_none (is_named p call) _ _ is.1
      (if_none (own_is (is_named p) call own) _ _ (new_own p call own is.2)
      (if_none (is_some (open_call eq p key)) _ _ (absent_is _ is.3) refl)))
  no_cause eq p (Enter by key call member) is =
      if_none (not (by == member.caller)) _ _ (not_true _ (eq-eqb by member.caller is.0))
      (if_none (is_named p member) _ _ is.1
      (if_none (not (holds_call (open_call eq p key) call)) _ _ (not_true _ (is_holds _ _ is.2)) refl))
  no_cause eq p (Forget by key closed) is =
      if_none (not (same_option closed (open_call eq p key))) _ _ (not_true _ (is_same_option _ _ is)) refl
  no_cause eq p (ForgetCall by key call hit) is =
      if_none (not (hit_fits hit (open_call eq p key) (current_call eq p key) call)) _ _ (not_true _ (hit_fits_is hit (open_call eq p key) (current_call eq p key) call is)) refl
  no_cause eq p (Settle by call result joiners) is =
      if_none (not (has_begun p call)) _ _ (not_true _ (led_has_begun p by call is.0))
      (if_none (not (was_led p by call)) _ _ (not_true _ is.0)
      (if_none (is_settled p call) _ _ is.1
      (if_none (not (joiners == joined p call)) _ _ (not_true _ (eq-eqb _ _ is.2)) refl)))
  no_cause eq p (Handed by call) is =
      if_none (not (has_begun p call)) _ _ (not_true _ (led_has_begun p by call is.0))
      (if_none (not (was_led p by call)) _ _ (not_true _ is.0)
      (if_none (not (is_settled p call)) _ _ (not_true _ is.1)
      (if_none (is_handed p call) _ _ is.2 refl)))

-- for any keys and values
pub no_cause_may_follow : (K V : Type 0) (eq : K → K → Bool) → NoCauseMayFollow K V eq
no_cause_may_follow K V eq p e = (may_follow eq p e, no_cause eq p e)

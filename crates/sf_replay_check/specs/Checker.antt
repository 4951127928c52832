-- what the checker answers: the least event that may not follow the events before it, and its first cause
use Rattle.std.specs.Prelude.{◌≡◌, ◌↔◌, ℕ, ◌+◌, ◌==◌, Bool, false, ◌||◌, ◌&&◌, not, List, ◌∷◌, ◌++◌, length, if◌then◌else◌, Option, Some, None, is_some, codes, decimal}
use Rattle.std.specs.List.{list_any}
use Rattle.sf_history.specs.declared.call.CallId.{CallId}
use Rattle.sf_history.specs.declared.event.Event.{Event}
use Rattle.sf_history.specs.declared.event.Event.TheVariants.{Lead, Enter, Forget, ForgetCall, Settle, Handed}
use Rattle.sf_history.specs.declared.event.Hit.{Hit}
use Rattle.sf_history.specs.declared.event.Hit.TheVariants.{Closed, Cleared, Missed}
use Rattle.sf_history.specs.Calls.{same_call}
use Rattle.sf_history.specs.History.{holds_call, names, open_call, current_call, joined, was_led, is_settled, is_handed}
use Rattle.sf_history.specs.Legal.{MayFollow, IsLegal}
use Rattle.sf_replay_check.specs.declared.cause.Cause.{Cause}
use Rattle.sf_replay_check.specs.declared.cause.Cause.TheVariants.{LedByAnotherCaller, CallIsNotNew, OwnChannelIsNotNew, KeyHasAnOpenCall, EnteredByAnotherCaller, MemberIsNotNew, CallIsNotTheOpenOne}
use Rattle.sf_replay_check.specs.declared.cause.Cause.TheVariants.{ForgetNamesAnotherCall, HitIsWrong, CallWasNotLed, SettledByACallerThatDidNotLead, CallIsSettledAlready, NumberOfJoinersIsWrong}
use Rattle.sf_replay_check.specs.declared.cause.Cause.TheVariants.{HandedByACallerThatDidNotLead, CallIsNotSettled, CallIsHandedAlready}
use Rattle.sf_replay_check.specs.declared.checking.Verdict.{Verdict}
use Rattle.sf_replay_check.specs.declared.checking.Verdict.TheVariants.{Legal, Illegal}

abbrev pub cause_text : Cause → List ℕ
cause_text LedByAnotherCaller = codes "led by another caller"
cause_text CallIsNotNew = codes "call is not new"
cause_text OwnChannelIsNotNew = codes "own channel is not new"
cause_text KeyHasAnOpenCall = codes "key has an open call"
cause_text EnteredByAnotherCaller = codes "entered by another caller"
cause_text MemberIsNotNew = codes "member is not new"
cause_text CallIsNotTheOpenOne = codes "call is not the open one"
cause_text ForgetNamesAnotherCall = codes "forget names another call"
cause_text HitIsWrong = codes "hit is wrong"
cause_text CallWasNotLed = codes "call was not led"
cause_text SettledByACallerThatDidNotLead = codes "settled by a caller that did not lead"
cause_text CallIsSettledAlready = codes "call is settled already"
cause_text NumberOfJoinersIsWrong = codes "number of joiners is wrong"
cause_text HandedByACallerThatDidNotLead = codes "handed by a caller that did not lead"
cause_text CallIsNotSettled = codes "call is not settled"
cause_text CallIsHandedAlready = codes "call is handed already"

abbrev pub verdict_text : Verdict → List ℕ
verdict_text Legal = codes "legal"
verdict_text (Illegal index cause) = codes "event " ++ (decimal index ++ (codes ": " ++ cause_text cause))

-- this cause where the test holds, and else what comes next
abbrev pub cause_if : Bool → Cause → Option Cause → Option Cause
cause_if test cause next = if test then Some cause else next

-- both absent, or the same call
abbrev pub same_option : Option CallId → Option CallId → Bool
same_option None d = not (is_some d)
same_option (Some c) d = holds_call d c

-- the own channel is the call, or this test holds of it; one that is absent is none
abbrev pub own_is : (CallId → Bool) → CallId → Option CallId → Bool
own_is test call None = false
own_is test call (Some m) = test m || same_call m call

-- a Forget of one call found this, of the key's open call and of its current one
abbrev pub hit_fits : Hit → Option CallId → Option CallId → CallId → Bool
hit_fits Closed opened current c = holds_call opened c
hit_fits Cleared opened current c = holds_call current c && not (holds_call opened c)
hit_fits Missed opened current c = not (holds_call current c)

-- what a checker has to know of the events before one
pub record Known (K : Type 0) : Type 0 where
  -- some Lead or Enter names it
  pub named : CallId → Bool
  -- anyone led it
  pub begun : CallId → Bool
  -- the caller led it
  pub led : ℕ → CallId → Bool
  pub settled : CallId → Bool
  -- how many joined it
  pub joined : CallId → ℕ
  pub handed : CallId → Bool
  -- the key's open call
  pub unsettled : K → Option CallId
  -- the key's current call
  pub current : K → Option CallId

module _ {K : Type 0} where
  -- the causes of each kind of event, in the order in which they are looked at
  abbrev pub lead_cause : Known K → ℕ → K → CallId → Option CallId → Option Cause
  lead_cause p by key call own =
      cause_if (not (by == call.caller)) LedByAnotherCaller
      (cause_if (p.named call) CallIsNotNew
      (cause_if (own_is p.named call own) OwnChannelIsNotNew
      (cause_if (is_some (p.unsettled key)) KeyHasAnOpenCall None)))

  abbrev pub enter_cause : Known K → ℕ → K → CallId → CallId → Option Cause
  enter_cause p by key call member =
      cause_if (not (by == member.caller)) EnteredByAnotherCaller
      (cause_if (p.named member) MemberIsNotNew
      (cause_if (not (holds_call (p.unsettled key) call)) CallIsNotTheOpenOne None))

  abbrev pub forget_cause : Known K → K → Option CallId → Option Cause
  forget_cause p key closed = cause_if (not (same_option closed (p.unsettled key))) ForgetNamesAnotherCall None

  abbrev pub forget_call_cause : Known K → K → CallId → Hit → Option Cause
  forget_call_cause p key call hit = cause_if (not (hit_fits hit (p.unsettled key) (p.current key) call)) HitIsWrong None

  abbrev pub settle_cause : Known K → ℕ → CallId → ℕ → Option Cause
  settle_cause p by call joiners =
      cause_if (not (p.begun call)) CallWasNotLed
      (cause_if (not (p.led by call)) SettledByACallerThatDidNotLead
      (cause_if (p.settled call) CallIsSettledAlready
      (cause_if (not (joiners == p.joined call)) NumberOfJoinersIsWrong None)))

  abbrev pub handed_cause : Known K → ℕ → CallId → Option Cause
  handed_cause p by call =
      cause_if (not (p.begun call)) CallWasNotLed
      (cause_if (not (p.led by call)) HandedByACallerThatDidNotLead
      (cause_if (not (p.settled call)) CallIsNotSettled
      (cause_if (p.handed call) CallIsHandedAlready None)))

module _ {K V : Type 0} where
  -- some Lead or Enter names it
  abbrev pub is_named : List (Event K V) → CallId → Bool
  is_named h c = list_any (names c) h

  -- the event is a Lead of the call, by anyone
  abbrev pub begins : CallId → Event K V → Bool
  begins c (Lead by key call own) = same_call call c
  begins c (Enter by key call member) = false
  begins c (Forget by key closed) = false
  begins c (ForgetCall by key call hit) = false
  begins c (Settle by call result joiners) = false
  begins c (Handed by call) = false

  abbrev pub has_begun : List (Event K V) → CallId → Bool
  has_begun h c = list_any (begins c) h

  -- what the events before one say
  abbrev pub known_by : (K → K → Bool) → List (Event K V) → Known K
  known_by eq p =
      record {
        named = is_named p;
        begun = has_begun p;
        led = was_led p;
        settled = is_settled p;
        joined = joined p;
        handed = is_handed p;
        unsettled = open_call eq p;
        current = current_call eq p;
      }

  -- the first cause for which the event may not follow events of which this is known, if there is one
  abbrev pub cause_of : Known K → Event K V → Option Cause
  cause_of p (Lead by key call own) = lead_cause p by key call own
  cause_of p (Enter by key call member) = enter_cause p by key call member
  cause_of p (Forget by key closed) = forget_cause p key closed
  cause_of p (ForgetCall by key call hit) = forget_call_cause p key call hit
  cause_of p (Settle by call result joiners) = settle_cause p by call joiners
  cause_of p (Handed by call) = handed_cause p by call

  -- the first cause for which the event may not follow these events, if there is one
  abbrev pub first_cause : (K → K → Bool) → List (Event K V) → Event K V → Option Cause
  first_cause eq p e = cause_of (known_by eq p) e

  -- the events before the index (from 1) are legal, the event there may not follow them, and this is its first cause
  pub record IsFirstFault (eq : K → K → Bool) (h : List (Event K V)) (index : ℕ) (cause : Cause) : Type 0 where
    pub before : List (Event K V)
    pub event : Event K V
    pub after : List (Event K V)
    pub stands : h ≡ before ++ event ∷ after
    pub counted : index ≡ length before + 1
    pub legal : IsLegal eq before
    pub found : first_cause eq before event ≡ Some cause

  -- the verdict on a history: legal where it is, and else its first fault
  abbrev pub IsVerdictOf : (K → K → Bool) → List (Event K V) → Verdict → Type 0
  IsVerdictOf eq h Legal = IsLegal eq h
  IsVerdictOf eq h (Illegal index cause) = IsFirstFault eq h index cause

-- an event may follow exactly where it has no cause
abbrev pub NoCauseMayFollow : (K V : Type 0) → (K → K → Bool) → Type 0
NoCauseMayFollow K V eq = (p : List (Event K V)) (e : Event K V) → (first_cause eq p e ≡ None) ↔ MayFollow eq p e

-- a history has one verdict
abbrev pub HasOneVerdict : (K V : Type 0) → (K → K → Bool) → Type 0
HasOneVerdict K V eq = (h : List (Event K V)) (v w : Verdict) → IsVerdictOf eq h v → IsVerdictOf eq h w → v ≡ w

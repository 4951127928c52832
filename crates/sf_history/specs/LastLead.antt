-- open and current calls, said without a walk: a Lead on the key stands, and nothing after it ends its call
use Rattle.std.specs.Prelude.{◌≡◌, ◌≢◌, ◌↔◌, ℕ, Bool, true, false, ◌&&◌, List, [], ◌∷◌, ◌++◌, Option, Some}
use Rattle.std.specs.List.{list_any}
use Rattle.sf_history.specs.declared.call.CallId.{CallId}
use Rattle.sf_history.specs.declared.event.Event.{Event}
use Rattle.sf_history.specs.declared.event.Hit.{Hit}
use Rattle.sf_history.specs.declared.event.Event.TheVariants.{Lead, Enter, Forget, ForgetCall, Settle, Handed}
use Rattle.sf_history.specs.Calls.{same_call}
use Rattle.sf_history.specs.History.{has_closed, has_ended, names, open_call, current_call, last_led}
use Rattle.sf_history.specs.Legal.{IsLegal}

module _ {K V : Type 0} where
  -- the event ends the key's current call: a Lead on the key, a Forget of it, or a ForgetCall of it that closed or cleared
  abbrev pub ends_current : (K → K → Bool) → K → CallId → Event K V → Bool
  ends_current eq k c (Lead by key call own) = eq key k
  ends_current eq k c (Enter by key call member) = false
  ends_current eq k c (Forget by key closed) = eq key k
  ends_current eq k c (ForgetCall by key call hit) = eq key k && has_ended hit
  ends_current eq k c (Settle by call result joiners) = false
  ends_current eq k c (Handed by call) = false

  -- the event ends the key's open call: a Lead on the key, a Forget of it, a ForgetCall of it that closed, or a Settle of the call
  abbrev pub ends_open : (K → K → Bool) → K → CallId → Event K V → Bool
  ends_open eq k c (Lead by key call own) = eq key k
  ends_open eq k c (Enter by key call member) = false
  ends_open eq k c (Forget by key closed) = eq key k
  ends_open eq k c (ForgetCall by key call hit) = eq key k && has_closed hit
  ends_open eq k c (Settle by call result joiners) = same_call call c
  ends_open eq k c (Handed by call) = false

  -- a Lead of the call on the key stands in the history, and no event after it ends the call
  pub record IsLastLead (eq : K → K → Bool) (ends : Event K V → Bool) (h : List (Event K V)) (k : K) (c : CallId) : Type 0 where
    pub before : List (Event K V)
    pub after : List (Event K V)
    pub by : ℕ
    pub key : K
    pub own : Option CallId
    pub stands : h ≡ before ++ Lead by key c own ∷ after
    pub on : eq key k ≡ true
    pub lasts : list_any ends after ≡ false

-- the open call is that of the last Lead on the key, with no Forget of the key, no ForgetCall of it that closed, and no Settle of the call after it
abbrev pub OpenCallIsLastLead : (K V : Type 0) → (K → K → Bool) → Type 0
OpenCallIsLastLead K V eq = (h : List (Event K V)) (k : K) (c : CallId) → (open_call eq h k ≡ Some c) ↔ IsLastLead eq (ends_open eq k c) h k c

-- a call that a legal history names, and that is not the key's current one, is not current after any longer legal history
abbrev pub PastCallsStayPast : (K V : Type 0) → (K → K → Bool) → Type 0
PastCallsStayPast K V eq = (h es : List (Event K V)) (k : K) (c : CallId) → IsLegal eq (h ++ es) → list_any (names c) h ≡ true → current_call eq h k ≢ Some c → current_call eq (h ++ es) k ≢ Some c

-- the open call of a legal history is its key's current one; of other lists that need not be so
abbrev pub OpenCallIsCurrent : (K V : Type 0) → (K → K → Bool) → Type 0
OpenCallIsCurrent K V eq = (h : List (Event K V)) (k : K) (c : CallId) → IsLegal eq h → open_call eq h k ≡ Some c → current_call eq h k ≡ Some c

-- a current call is the one that was led last
abbrev pub CurrentCallIsLastLed : (K V : Type 0) → (K → K → Bool) → Type 0
CurrentCallIsLastLed K V eq = (h : List (Event K V)) (k : K) (c : CallId) → current_call eq h k ≡ Some c → last_led eq h k ≡ Some c

-- whatever a Forget of one call finds, the call is not its key's current one then
abbrev pub ForgottenCallsArePast : (K V : Type 0) → (K → K → Bool) → Type 0
ForgottenCallsArePast K V eq = (h : List (Event K V)) (by : ℕ) (k : K) (c : CallId) (hit : Hit) → IsLegal eq (h ++ ForgetCall by k c hit ∷ []) → current_call eq (h ++ ForgetCall by k c hit ∷ []) k ≢ Some c

-- the current call is that of the last Lead on the key, with no Forget of the key and no ForgetCall of it that closed or cleared after it
abbrev pub CurrentCallIsLastLead : (K V : Type 0) → (K → K → Bool) → Type 0
CurrentCallIsLastLead K V eq = (h : List (Event K V)) (k : K) (c : CallId) → (current_call eq h k ≡ Some c) ↔ IsLastLead eq (ends_current eq k c) h k c

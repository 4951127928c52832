-- legal histories
use Rattle.std.specs.Prelude.{◌≡◌, ◌≢◌, Bool, true, false, List, ◌∷◌, ◌++◌, Option, Some, None, IfSome}
use Rattle.sf_history.specs.declared.call.CallId.{CallId}
use Rattle.sf_history.specs.declared.event.Event.{Event}
use Rattle.sf_history.specs.declared.event.Event.TheVariants.{Lead, Enter, Forget, ForgetCall, Settle, Handed}
use Rattle.sf_history.specs.declared.event.Hit.{Hit}
use Rattle.sf_history.specs.declared.event.Hit.TheVariants.{Closed, Cleared, Missed}
use Rattle.sf_history.specs.History.{IsNew, open_call, current_call, joined, was_led, is_settled, is_handed}

-- what a Forget of one call finds, of the key's open call and of its current one
abbrev pub IsHit : Option CallId → Option CallId → CallId → Hit → Type 0
IsHit opened current c Closed = opened ≡ Some c
IsHit opened current c Cleared = (current ≡ Some c) × (opened ≢ Some c)
IsHit opened current c Missed = current ≢ Some c

module _ {K V : Type 0} where
  -- event that may follow: what each kind asks of the events before it
  abbrev pub MayFollow : (K → K → Bool) → List (Event K V) → Event K V → Type 0
  MayFollow eq p (Lead by key call own) = (by ≡ call.caller) × IsNew p call × IfSome own (λ m. IsNew p m × (m ≢ call)) × (open_call eq p key ≡ None)
  MayFollow eq p (Enter by key call member) = (by ≡ member.caller) × IsNew p member × (open_call eq p key ≡ Some call)
  MayFollow eq p (Forget by key closed) = closed ≡ open_call eq p key
  MayFollow eq p (ForgetCall by key call hit) = IsHit (open_call eq p key) (current_call eq p key) call hit
  MayFollow eq p (Settle by call result joiners) = (was_led p by call ≡ true) × (is_settled p call ≡ false) × (joiners ≡ joined p call)
  MayFollow eq p (Handed by call) = (was_led p by call ≡ true) × (is_settled p call ≡ true) × (is_handed p call ≡ false)

  -- legal history: each event may follow the events before it
  abbrev pub IsLegal : (K → K → Bool) → List (Event K V) → Type 0
  IsLegal eq h = (p q : List (Event K V)) (e : Event K V) → h ≡ p ++ e ∷ q → MayFollow eq p e

-- how a Forget ends, of a key or of one call, and how the question which call a key names
use Rattle.std.specs.Prelude.{◌≡◌, ℕ, nat_eq, List, [], ◌∷◌, Option, Some, None}
use Rattle.sf_history.specs.declared.call.CallId.{CallId}
use Rattle.sf_history.specs.declared.event.Forgotten.{Forgotten}
use Rattle.sf_history.specs.declared.event.Forgotten.TheVariants.{Closed, Idle}
use Rattle.sf_history.specs.declared.event.Event.{Event}
use Rattle.sf_history.specs.declared.event.Event.TheVariants as event
use Rattle.sf_history.specs.declared.event.Hit.{Hit}
use Rattle.sf_history.specs.History.{current_call, last_led}
use Rattle.sf_group_rows.specs.Tokens.{CallerValue}
use Rattle.sf_group_rows.specs.Same.{HasNothing}
use Rattle.sf_group_rows.specs.Seen.{Adds}

module _ {V : Type 0} where
  -- the caller made a Forget of the place, which closed this call, or none
  pub record HasForgot (c : CallerValue V) (k : ℕ) (closed : Option CallId) (d : CallerValue V) : Type 0 where
    pub group : d.group ≡ c.group
    pub number : d.number ≡ c.number
    pub adds : Adds c.group c.number c.seen d.seen (event.Forget c.number k closed ∷ []) 0

  abbrev pub HasForgotten : CallerValue V → ℕ → CallerValue V → Forgotten → Type 0
  HasForgotten c k d (Closed x) = HasForgot c k (Some x) d
  HasForgotten c k d Idle = HasForgot c k None d

  -- the caller made a Forget of this call of the place, which found that
  pub record HasForgotCall (c : CallerValue V) (k : ℕ) (x : CallId) (hit : Hit) (d : CallerValue V) : Type 0 where
    pub group : d.group ≡ c.group
    pub number : d.number ≡ c.number
    pub adds : Adds c.group c.number c.seen d.seen (event.ForgetCall c.number k x hit ∷ []) 0

  -- a call that the place names was led last on it; where it names none, none is current
  abbrev pub IsNamedBy : List (Event ℕ V) → ℕ → Option CallId → Type 0
  IsNamedBy h k None = current_call nat_eq h k ≡ None
  IsNamedBy h k (Some x) = last_led nat_eq h k ≡ Some x

  -- the caller made nothing, and the answer is right by what it has seen at the end
  pub record HasNamed (c : CallerValue V) (k : ℕ) (found : Option CallId) (d : CallerValue V) : Type 0 where
    pub nothing : HasNothing c d
    pub right : IsNamedBy d.seen k found

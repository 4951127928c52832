-- what a Forget of the call that a place names comes to, and what it adds
use Rattle.std.specs.Prelude.{ℕ, List, [], ◌∷◌, Some, None}
use Rattle.sf_history.specs.declared.call.CallId.{CallId}
use Rattle.sf_history.specs.declared.event.Event.{Event}
use Rattle.sf_history.specs.declared.event.Event.TheVariants.{ForgetCall}
use Rattle.sf_history.specs.declared.event.Hit.{Hit}
use Rattle.sf_history.specs.declared.event.Hit.TheVariants as hit
use Rattle.sf_group_rows.specs.Tokens.{CallerValue}
use Rattle.sf_group_rows.specs.Forgets.{HasForgotCall, HasNamed}
use Rattle.sf_fill_values.specs.FillValue.{Filled}
use Rattle.sf_fill_store.specs.declared.forget.Forgot.{Forgot}
use Rattle.sf_fill_store.specs.declared.forget.Forgot.TheVariants as forgot

-- what a Forget of this call came to
abbrev pub forgot_of : CallId → Hit → Forgot
forgot_of c hit.Closed = forgot.Closed c
forgot_of c hit.Cleared = forgot.Cleared c
forgot_of c hit.Missed = forgot.Missed c

-- the caller found that the place names this call, and then made a Forget of that one
abbrev pub HasForgotNamed : CallerValue Filled → ℕ → CallId → Hit → CallerValue Filled → Type 0
HasForgotNamed c k x h d = (m : CallerValue Filled) × HasNamed c k (Some x) m × HasForgotCall m k x h d

-- the call that the place names is forgotten, and no other; where it names none, nothing is
abbrev pub ForgetsNamed : CallerValue Filled → ℕ → Forgot → CallerValue Filled → Type 0
ForgetsNamed c k (forgot.Closed x) d = HasForgotNamed c k x hit.Closed d
ForgetsNamed c k (forgot.Cleared x) d = HasForgotNamed c k x hit.Cleared d
ForgetsNamed c k (forgot.Missed x) d = HasForgotNamed c k x hit.Missed d
ForgetsNamed c k forgot.Idle d = HasNamed c k None d

-- what a reload adds that came to this: a Forget of the call that it names; where it names none, nothing
abbrev pub forgot_by : ℕ → ℕ → Forgot → List (Event ℕ Filled)
forgot_by by k (forgot.Closed c) = ForgetCall by k c hit.Closed ∷ []
forgot_by by k (forgot.Cleared c) = ForgetCall by k c hit.Cleared ∷ []
forgot_by by k (forgot.Missed c) = ForgetCall by k c hit.Missed ∷ []
forgot_by by k forgot.Idle = []

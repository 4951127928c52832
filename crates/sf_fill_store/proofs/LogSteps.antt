-- what each step of an asking logs is what it added
use Rattle.std.proofs.Common.{◌≡◌, ℕ, List, [], ◌∷◌, None, ap, ◌∙◌, subst}
use Rattle.sf_history.specs.declared.call.CallId.{CallId}
use Rattle.sf_history.specs.declared.event.Event.{Event}
use Rattle.sf_history.specs.declared.event.Event.TheVariants as event
use Rattle.sf_group_rows.specs.Tokens.{CallerValue, FlightValue, TicketValue, LetterValue}
use Rattle.sf_group_rows.specs.Same.{call_of}
use Rattle.sf_group_rows.specs.Begins.{HasLed, HasJoined}
use Rattle.sf_group_rows.specs.Finishes.{IsReady}
use Rattle.sf_fill_values.specs.FillValue.{Filled, FitsFill}
use Rattle.sf_fill_values.specs.Settled.{HasOnlyLooked}
use Rattle.sf_fill_values.proofs.Looks.{still_looked}
use Rattle.sf_fill_store.specs.Logs.{LogValue, HasLogged, logged_one}
use Rattle.sf_fill_store.proofs.Logging.{logs_again, logs_added, logs_still}

abbrev Seen : Type 0
Seen = List (Event ℕ Filled)

-- a caller that only looked
pub logs_looked : (c d : CallerValue Filled) (log : LogValue) → HasOnlyLooked c d → HasLogged c.number c.seen d.seen log log
logs_looked c d log looked = logs_still c.number c.seen d.seen log (still_looked c d looked).grows.own

-- two steps of the same number
pub logs_on : (a b : ℕ) (p q r : Seen) (log then after : LogValue) → b ≡ a → HasLogged a p q log then → HasLogged b q r then after → HasLogged a p r log after
logs_on a b p q r log then after number before on = logs_again a p q r log then after before (subst (λ (i : ℕ). HasLogged i q r then after) number on)

-- a Lead
pub logs_lead : (c : CallerValue Filled) (k by place : ℕ) (call : CallId) (f : FlightValue Filled) (log after : LogValue)
    → after ≡ logged_one log (event.Lead by place call None) → HasLed c k f → by ≡ call.caller → call ≡ f.call → place ≡ k → HasLogged c.number c.seen f.seen log after
logs_lead c k by place call f log after is led mine of at =
    logs_added c.number c.seen f.seen (event.Lead c.number k (call_of c) None ∷ []) log after led.adds.grows.own
    (is ∙ (ap (λ (i : ℕ). logged_one log (event.Lead i place call None)) mine
    ∙ (ap (λ (i : CallId). logged_one log (event.Lead i.caller place i None)) (of ∙ led.call) ∙ ap (λ (p : ℕ). logged_one log (event.Lead c.number p (call_of c) None)) at)))

-- an Enter, and the wait for the call's letter
pub logs_join : (c d : CallerValue Filled) (k by place : ℕ) (call member : CallId) (t : TicketValue Filled) (l : LetterValue Filled) (log after : LogValue)
    → after ≡ logged_one log (event.Enter by place call member) → HasJoined c k t → IsReady FitsFill t d l → by ≡ member.caller → member ≡ t.member → call ≡ t.call → place ≡ k
    → HasLogged c.number c.seen d.seen log after
logs_join c d k by place call member t l log after is joined ready mine own of at =
    let enter : after ≡ logged_one log (event.Enter c.number k t.call (call_of c)) =
    is ∙ (ap (λ (i : ℕ). logged_one log (event.Enter i place call member)) mine
    ∙ (ap (λ (i : CallId). logged_one log (event.Enter i.caller place call i)) (own ∙ joined.member)
    ∙ (ap (λ (i : CallId). logged_one log (event.Enter c.number place i (call_of c))) of ∙ ap (λ (p : ℕ). logged_one log (event.Enter c.number p t.call (call_of c))) at))) in
    logs_on c.number t.number c.seen t.seen d.seen log after after joined.number
    (logs_added c.number c.seen t.seen (event.Enter c.number k t.call (call_of c) ∷ []) log after joined.adds.grows.own enter)
    (logs_still t.number t.seen d.seen after ready.adds.grows.own)

use Rattle.std.proofs.Common.{◌≡◌, ◌∷◌, [], sym, ap, ◌∙◌}
use Rattle.sf_history.specs.declared.call.CallId.{CallId}
use Rattle.sf_history.specs.declared.event.Event.TheVariants as event
use Rattle.sf_group_rows.specs.declared.outcomes.Finished.{Finished}
use Rattle.sf_group_rows.specs.declared.outcomes.Finished.TheVariants.{Done, Held}
use Rattle.sf_group_rows.specs.Tokens.{CallerValue, FlightValue, LetterValue, SettledValue}
use Rattle.sf_group_rows.specs.Same.{IsSameFlight}
use Rattle.sf_fill_counters.specs.declared.totals.GetCounts.{GetCounts}
use Rattle.sf_fill_values.specs.FillValue.{Filled}
use Rattle.sf_fill_store.specs.Found.{HasSettled, Led}
use Rattle.sf_fill_store.specs.Replies.{reply_of}
use Rattle.sf_fill_store.specs.Standings.{seen_of}
use Rattle.sf_fill_store.specs.Logs.{LogValue, HasLogged, finish_events, logged_by}
use Rattle.sf_fill_store.proofs.Logging.{logs_added, logs_still}
use Rattle.sf_fill_store.proofs.LogSteps.{logs_on}
use Rattle.sf_fill_store.proofs.store.Store.lead.Goals as goal

-- a flight that learnt something, and how it settled
logs_run : (f h : FlightValue Filled) (v : Filled) (call : CallId) (n : GetCounts) (finished : Finished (CallerValue Filled) (LetterValue Filled) (SettledValue Filled)) (log after : LogValue)
    → IsSameFlight f h → HasSettled h v finished → f.call.caller ≡ f.number → call ≡ f.call → after ≡ logged_by log (finish_events call finished) → HasLogged f.number f.seen (seen_of (reply_of (Led finished n)).0) log after
logs_run f h v call n (Done c m) log after same (d, l, done, nothing, lent) own of is =
    let by : call.caller ≡ h.number = ap (λ (i : CallId). i.caller) of ∙ (own ∙ sym same.number) in
    let at : call ≡ h.call = of ∙ sym same.call in
    let logged : after ≡ logged_by log (event.Settle h.number h.call v l.joiners ∷ event.Handed h.number h.call ∷ []) = rw (← by, ← at, ← lent.count) is in
    logs_on f.number h.number f.seen h.seen c.seen log log after same.number (logs_still f.number f.seen h.seen log same.adds.grows.own)
    (logs_on h.number d.number h.seen d.seen c.seen log after after done.number (logs_added h.number h.seen d.seen _ log after done.adds.grows.own logged) (logs_still d.number d.seen c.seen after nothing.adds.grows.own))
logs_run f h v call n (Held s) log after same held own of is =
    let by : call.caller ≡ h.number = ap (λ (i : CallId). i.caller) of ∙ (own ∙ sym same.number) in
    let at : call ≡ h.call = of ∙ sym same.call in
    let logged : after ≡ logged_by log (event.Settle h.number h.call v s.joiners ∷ []) = rw (← by, ← at) is in
    logs_on f.number h.number f.seen h.seen s.seen log log after same.number (logs_still f.number f.seen h.seen log same.adds.grows.own) (logs_added h.number h.seen s.seen _ log after held.adds.grows.own logged)

pub returns-clause-logged : goal.returns-clause-logged
returns-clause-logged g c = logs_run _ _ _ _ _ _ _ _ c.source-value.ensures.learnt c.settle-finished.ensures.settled c.requires.own c.call-call.ensures c.add_finished.ensures

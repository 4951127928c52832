-- the events of steps, by one step more
use Rattle.std.proofs.Common.{◌≡◌, List, [], ◌∷◌, ◌++◌, refl, ap}
use Rattle.std.specs.List.{flat_map}
use Rattle.sf_history.specs.declared.event.Event.{Event}
use Rattle.sf_steps.specs.declared.trace.Step.{Step}
use Rattle.sf_steps_text.specs.Played.{events_in}
use Rattle.sf_steps_text.specs.TraceText.{Outcome}

pub flat_events : (steps : List (Step Outcome)) → flat_map (λ s. s.events.items) steps ≡ events_in steps
flat_events [] = refl
flat_events (s ∷ ss) = ap (λ (es : List (Event _ Outcome)). s.events.items ++ es) (flat_events ss)

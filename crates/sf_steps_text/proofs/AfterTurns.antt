-- what a player has played, turn by turn
use Rattle.std.proofs.Common.{◌≡◌, ℕ, List, [], ◌∷◌, ◌++◌, map, refl, sym, ◌∙◌, ap, subst}
use Rattle.std.specs.List.{list_any}
use Rattle.sf_history.specs.declared.call.CallId.{CallId}
use Rattle.sf_steps_text.specs.declared.player.Player.{Player}
use Rattle.sf_steps_laws.specs.declared.turn.Turn.{Turn}
use Rattle.sf_steps_laws.specs.World.{World, first_world}
use Rattle.sf_steps_laws.specs.Turns.{turned}
use Rattle.sf_steps_laws.specs.Events.{step_events, answer_at, adds, events_of}
use Rattle.sf_history.specs.declared.event.Event.{Event}
use Rattle.sf_history.specs.Legal.{IsLegal}
use Rattle.std.specs.Prelude.{nat_eq}
use Rattle.sf_steps_laws.specs.declared.turn.Turn.TheVariants as turn
use Rattle.sf_steps_laws.proofs.RightAnswers.{schedules_are_legal}
use Rattle.sf_steps.specs.Acts.{act_at, stepper}
use Rattle.sf_steps.specs.declared.trace.Step.{Step}
use Rattle.sf_steps.specs.Running.{world_of, setting_of}
use Rattle.sf_steps_laws.specs.Schedules.{Setting, was_led_on, IsTurn, IsSchedule}
use Rattle.sf_steps_text.specs.Played.{ShownStep, shown, shown_step, turn_steps, steps_of, text_setting, events_in}
use Rattle.sf_steps_text.specs.PlayerState.{IsAfter}
use Rattle.sf_steps_text.specs.TraceText.{Outcome}
use Rattle.sf_steps_text.proofs.Playing.{IsAt, played_on, refused_at, steps_led, shown_led, shown_push}

at_of : (p : Player) (ts : List (Turn Outcome)) → IsAfter p ts → IsAt text_setting (world_of p.world) (map shown p.steps.items) ts
at_of p ts is = record { allowed = is.allowed; world = is.world; steps = is.steps }

turn_at : (p : Player) (ts : List (Turn Outcome)) (t : Turn Outcome) → IsAfter p ts → IsTurn (setting_of p.world) (events_of 64 1 ts) (world_of p.world) t → IsTurn text_setting (events_of 64 1 ts) (world_of p.world) t
turn_at p ts t is allowed = subst (λ (z : Setting). IsTurn z (events_of 64 1 ts) (world_of p.world) t) is.setting allowed

pub refuse : (p : Player) (ts : List (Turn Outcome)) (t : Turn Outcome) → IsAfter p ts → (IsTurn (setting_of p.world) (events_of 64 1 ts) (world_of p.world) t → ⊥) → IsSchedule text_setting (ts ++ t ∷ []) → ⊥
refuse p ts t is isnt = refused_at text_setting (world_of p.world) (map shown p.steps.items) ts t (at_of p ts is)
    (λ allowed. isnt (subst (λ (z : Setting). IsTurn z (events_of 64 1 ts) (world_of p.world) t) (sym is.setting) allowed))

pub go_on : (p q : Player) (ts : List (Turn Outcome)) (t : Turn Outcome) → IsAfter p ts → IsTurn (setting_of p.world) (events_of 64 1 ts) (world_of p.world) t
    → world_of q.world ≡ turned (world_of p.world) t → setting_of q.world ≡ setting_of p.world → map shown q.steps.items ≡ map shown p.steps.items ++ turn_steps (world_of p.world) t → IsAfter q (ts ++ t ∷ [])
go_on p q ts t is allowed made same showed =
    let longer = played_on text_setting (world_of p.world) (world_of q.world) (map shown p.steps.items) (map shown q.steps.items) ts t (at_of p ts is) (turn_at p ts t is allowed) made showed in
    record { allowed = longer.allowed; world = longer.world; setting = same ∙ is.setting; steps = longer.steps }

pub led_after : (p : Player) (ts : List (Turn Outcome)) (k : ℕ) (c : CallId) → IsAfter p ts → list_any (λ s. was_led_on s.events.items k c) p.steps.items ≡ was_led_on (events_of 64 1 ts) k c
led_after p ts k c is = shown_led p.steps.items k c ∙ (ap (λ (ss : List (ShownStep Outcome)). list_any (λ s. was_led_on s.events k c) ss) is.steps ∙ steps_led (first_world 64 1) ts k c)

pub same_setting : (callers callers' places places' : ℕ) → callers' ≡ callers → places' ≡ places → ◌≡◌ {A = Setting} (record { callers = callers'; places = places'; first = 1 }) (record { callers = callers; places = places; first = 1 })
same_setting callers callers' places places' c p = ap (λ (n : ℕ). record { callers = n; places = places'; first = 1 }) c ∙ ap (λ (n : ℕ). record { callers = callers; places = n; first = 1 }) p

pub same_shown : (s : Step Outcome) (w : World Outcome) (a : ℕ) → s.caller ≡ stepper a (w.stages a) → s.act ≡ act_at w a (w.stages a) → s.events.items ≡ step_events w a (w.stages a) → s.answer ≡ answer_at w (w.stages a) → shown s ≡ shown_step w a
same_shown s w a caller act events answer = λ i. record { caller = caller i; act = act i; events = events i; answer = answer i }

pub shows_push : (xs ys : List (Step Outcome)) (s : Step Outcome) (t : ShownStep Outcome) → ys ≡ xs ++ s ∷ [] → shown s ≡ t → map shown ys ≡ map shown xs ++ t ∷ []
shows_push xs ys s t is same = ap (λ (zs : List (Step Outcome)). map shown zs) is ∙ (shown_push xs s ∙ ap (λ (x : ShownStep Outcome). map shown xs ++ x ∷ []) same)

-- the events in a trace are those of its schedule
shown_events : List (ShownStep Outcome) → List (Event ℕ Outcome)
shown_events [] = []
shown_events (s ∷ ss) = s.events ++ shown_events ss

events_shown : (steps : List (Step Outcome)) → events_in steps ≡ shown_events (map shown steps)
unfolding shown_events
events_shown [] = refl
events_shown (s ∷ ss) = ap (λ (es : List (Event ℕ Outcome)). s.events.items ++ es) (events_shown ss)

shown_events_of : (w : World Outcome) (ts : List (Turn Outcome)) → shown_events (steps_of w ts) ≡ adds w ts
unfolding shown_events
shown_events_of w [] = refl
shown_events_of w (turn.Start a o ∷ ts) = shown_events_of (turned w (turn.Start a o)) ts
shown_events_of w (turn.Step a ∷ ts) = ap (λ (es : List (Event ℕ Outcome)). step_events w a (w.stages a) ++ es) (shown_events_of (turned w (turn.Step a)) ts)
shown_events_of w (turn.Leave a ∷ ts) = shown_events_of (turned w (turn.Leave a)) ts

pub trace_legal : (p : Player) (ts : List (Turn Outcome)) → IsAfter p ts → IsLegal nat_eq (events_in p.steps.items)
trace_legal p ts is =
    subst (λ (es : List (Event ℕ Outcome)). IsLegal nat_eq es) (sym (events_shown p.steps.items ∙ (ap shown_events is.steps ∙ shown_events_of (first_world 64 1) ts)))
    (schedules_are_legal text_setting ts is.allowed)

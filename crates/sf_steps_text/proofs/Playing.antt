-- playing a schedule turn by turn
use Rattle.std.proofs.Common.{◌≡◌, ℕ, ◌+◌, ◌-◌, ◌<◌, arith, replicate, Bool, true, false, ◌||◌, List, [], ◌∷◌, ◌++◌, map, refl, sym, ◌∙◌, ap, subst, append_assoc}
use Rattle.std.proofs.lemmas.List.{append-nil, replicate_more, replicate-append-replicate}
use Rattle.std.proofs.lemmas.Grind.{flat_map-append}
use Rattle.std.proofs.lemmas.List.Folds.{list_any-append}
use Rattle.std.specs.List.{list_any, flat_map}
use Rattle.sf_text.specs.Words.{words}
use Rattle.sf_history.specs.declared.call.CallId.{CallId}
use Rattle.sf_history.specs.declared.event.Event.{Event}
use Rattle.sf_steps.specs.declared.trace.Step.{Step}
use Rattle.sf_steps_laws.specs.declared.turn.Turn.{Turn}
use Rattle.sf_steps_laws.specs.declared.turn.Turn.TheVariants as turn
use Rattle.sf_steps_laws.specs.World.{World, first_world}
use Rattle.sf_steps_laws.specs.Turns.{turned, run}
use Rattle.sf_steps_laws.specs.Events.{step_events, turn_events, adds, events_of, world_after}
use Rattle.sf_steps_laws.specs.Schedules.{Setting, leads_on, was_led_on, IsTurn, IsScheduleFrom, IsSchedule}
use Rattle.sf_steps_text.specs.Played.{ShownStep, shown, turn_steps, steps_of, text_setting, AreSpelled, IsScheduleText}
use Rattle.sf_steps_text.specs.TraceText.{Outcome}
use Rattle.sf_steps_text.specs.declared.schedule_line.ScheduleLine.{ScheduleLine}
use Rattle.sf_steps_text.specs.ScheduleText.{Spells, turns_of}
use Rattle.sf_steps_laws.proofs.RightAnswers.{run_append, schedule_parts}

module _ {V : Type 0} where
  schedule_join : (z : Setting) (p q : List (Turn V)) (h : List (Event ℕ V)) (w : World V) → IsScheduleFrom z h w p → IsScheduleFrom z (h ++ adds w p) (run w p) q → IsScheduleFrom z h w (p ++ q)
  schedule_join z [] q h w is more = subst (λ (es : List (Event ℕ V)). IsScheduleFrom z es w q) (append-nil h) more
  schedule_join z (t ∷ p) q h w is more =
      (is.0, schedule_join z p q (h ++ turn_events w t) (turned w t) is.1 (subst (λ (es : List (Event ℕ V)). IsScheduleFrom z es (run (turned w t) p) q) (sym (append_assoc h (turn_events w t) (adds (turned w t) p))) more))

  pub steps_append : (w : World V) (p q : List (Turn V)) → steps_of w (p ++ q) ≡ steps_of w p ++ steps_of (run w p) q
  steps_append w [] q = refl
  steps_append w (t ∷ p) q = ap (λ (ss : List (ShownStep V)). turn_steps w t ++ ss) (steps_append (turned w t) p q) ∙ sym (append_assoc (turn_steps w t) (steps_of (turned w t) p) (steps_of (run (turned w t) p) q))

  -- a turn that is allowed after a schedule makes it a longer one
  pub schedule_push : (z : Setting) (ts : List (Turn V)) (t : Turn V) → IsSchedule z ts → IsTurn z (events_of z.callers z.first ts) (world_after z.callers z.first ts) t → IsSchedule z (ts ++ t ∷ [])
  schedule_push z ts t is allowed = schedule_join z ts (t ∷ []) [] (first_world z.callers z.first) is (allowed, tt)

  pub schedule_last : (z : Setting) (ts : List (Turn V)) (t : Turn V) → IsSchedule z (ts ++ t ∷ []) → IsTurn z (events_of z.callers z.first ts) (world_after z.callers z.first ts) t
  schedule_last z ts t is = (schedule_parts z ts (t ∷ []) [] (first_world z.callers z.first) is).1.0

  pub schedule_front : (z : Setting) (ts us : List (Turn V)) → IsSchedule z (ts ++ us) → IsSchedule z ts
  schedule_front z ts us is = (schedule_parts z ts us [] (first_world z.callers z.first) is).0

  -- what is known after a schedule, in a world that is the one after it
  pub record IsAt (z : Setting) (w : World V) (shows : List (ShownStep V)) (ts : List (Turn V)) : Type 0 where
    pub allowed : IsSchedule z ts
    pub world : w ≡ world_after z.callers z.first ts
    pub steps : shows ≡ steps_of (first_world z.callers z.first) ts

  pub played_on : (z : Setting) (w w' : World V) (steps steps' : List (ShownStep V)) (ts : List (Turn V)) (t : Turn V) → IsAt z w steps ts → IsTurn z (events_of z.callers z.first ts) w t
      → w' ≡ turned w t → steps' ≡ steps ++ turn_steps w t → IsAt z w' steps' (ts ++ t ∷ [])
  played_on z w w' steps steps' ts t is allowed made showed = record {
    allowed = schedule_push z ts t is.allowed (subst (λ (u : World V). IsTurn z (events_of z.callers z.first ts) u t) is.world allowed);
    world = made ∙ (ap (λ (u : World V). turned u t) is.world ∙ sym (run_append (first_world z.callers z.first) ts (t ∷ [])));
    steps = showed ∙ (ap (λ (u : World V). steps ++ turn_steps u t) is.world ∙ (ap (λ (ss : List (ShownStep V)). ss ++ turn_steps (world_after z.callers z.first ts) t) is.steps
        ∙ (ap (λ (ss : List (ShownStep V)). steps_of (first_world z.callers z.first) ts ++ ss) (sym (append-nil (turn_steps (world_after z.callers z.first ts) t))) ∙ sym (steps_append (first_world z.callers z.first) ts (t ∷ [])))));
  }

  pub refused_at : (z : Setting) (w : World V) (steps : List (ShownStep V)) (ts : List (Turn V)) (t : Turn V) → IsAt z w steps ts → (IsTurn z (events_of z.callers z.first ts) w t → ⊥) → IsSchedule z (ts ++ t ∷ []) → ⊥
  refused_at z w steps ts t is isnt longer = isnt (subst (λ (u : World V). IsTurn z (events_of z.callers z.first ts) u t) (sym is.world) (schedule_last z ts t longer))

  -- a call was led exactly where a step shows it
  step_led : (w : World V) (t : Turn V) (k : ℕ) (c : CallId) → list_any (λ (s : ShownStep V). was_led_on s.events k c) (turn_steps w t) ≡ was_led_on (turn_events w t) k c
  step_led w (turn.Start a o) k c = refl
  step_led w (turn.Step a) k c = or_false (was_led_on (step_events w a (w.stages a)) k c)
    where
      or_false : (b : Bool) → (b || false) ≡ b
      or_false true = refl
      or_false false = refl
  step_led w (turn.Leave a) k c = refl

  pub steps_led : (w : World V) (ts : List (Turn V)) (k : ℕ) (c : CallId) → list_any (λ (s : ShownStep V). was_led_on s.events k c) (steps_of w ts) ≡ was_led_on (adds w ts) k c
  steps_led w [] k c = refl
  steps_led w (t ∷ ts) k c =
      list_any-append (λ (s : ShownStep V). was_led_on s.events k c) (turn_steps w t) (steps_of (turned w t) ts)
      ∙ (ap (λ (b : Bool). b || list_any (λ (s : ShownStep V). was_led_on s.events k c) (steps_of (turned w t) ts)) (step_led w t k c)
      ∙ (ap (λ (b : Bool). was_led_on (turn_events w t) k c || b) (steps_led (turned w t) ts k c)
      ∙ sym (list_any-append (leads_on k c) (turn_events w t) (adds (turned w t) ts))))

  pub shown_led : (steps : List (Step V)) (k : ℕ) (c : CallId) → list_any (λ (s : Step V). was_led_on s.events.items k c) steps ≡ list_any (λ (s : ShownStep V). was_led_on s.events k c) (map shown steps)
  shown_led [] k c = refl
  shown_led (s ∷ ss) k c = ap (λ (b : Bool). was_led_on s.events.items k c || b) (shown_led ss k c)

  pub shown_push : (steps : List (Step V)) (s : Step V) → map shown (steps ++ s ∷ []) ≡ map shown steps ++ shown s ∷ []
  shown_push [] s = refl
  shown_push (x ∷ xs) s = ap (λ (ys : List (ShownStep V)). shown x ∷ ys) (shown_push xs s)

  -- so many steps are no schedule, where one step after fewer of them is none
  pub too_many : (z : Setting) (ts : List (Turn V)) (n i : ℕ) (t : Turn V) → i < n → (IsSchedule z ((ts ++ replicate i t) ++ t ∷ []) → ⊥) → IsSchedule z (ts ++ replicate n t) → ⊥
  too_many z ts n i t below isnt longer =
      let rest : (i + 1) + (n - (i + 1)) ≡ n = omega arith in
      let parts : replicate n t ≡ (replicate i t ++ t ∷ []) ++ replicate (n - (i + 1)) t =
      sym (ap (λ (xs : List (Turn V)). xs ++ replicate (n - (i + 1)) t) (replicate_more i t) ∙ (replicate-append-replicate (i + 1) (n - (i + 1)) t ∙ ap (λ (m : ℕ). replicate m t) rest)) in
      let whole : ts ++ replicate n t ≡ ((ts ++ replicate i t) ++ t ∷ []) ++ replicate (n - (i + 1)) t =
      ap (λ (xs : List (Turn V)). ts ++ xs) parts ∙ (sym (append_assoc ts (replicate i t ++ t ∷ []) (replicate (n - (i + 1)) t))
      ∙ ap (λ (xs : List (Turn V)). xs ++ replicate (n - (i + 1)) t) (sym (append_assoc ts (replicate i t) (t ∷ [])))) in
      isnt (schedule_front z ((ts ++ replicate i t) ++ t ∷ []) (replicate (n - (i + 1)) t) (subst (λ (xs : List (Turn V)). IsSchedule z xs) whole longer))

-- one more line of a schedule
spelled_push : (ls : List (List ℕ)) (ss : List ScheduleLine) (l : List ℕ) (s : ScheduleLine) → AreSpelled ls ss → Spells (words l) s → AreSpelled (ls ++ l ∷ []) (ss ++ s ∷ [])
spelled_push [] [] l s are one = (one, tt)
spelled_push [] (s₁ ∷ ss) l s are one = absurd are
spelled_push (l₁ ∷ ls) [] l s are one = absurd are
spelled_push (l₁ ∷ ls) (s₁ ∷ ss) l s are one = (are.0, spelled_push ls ss l s are.1 one)

pub text_push : (ls : List (List ℕ)) (l : List ℕ) (s : ScheduleLine) (ts : List (Turn Outcome)) → IsScheduleText ls ts → Spells (words l) s → IsSchedule text_setting (ts ++ turns_of s) → IsScheduleText (ls ++ l ∷ []) (ts ++ turns_of s)
text_push ls l s ts text one allowed = record {
  said = text.said ++ s ∷ [];
  spelled = spelled_push ls text.said l s text.spelled one;
  turns = ap (λ (xs : List (Turn Outcome)). xs ++ turns_of s) text.turns ∙ (ap (λ (xs : List (Turn Outcome)). flat_map turns_of text.said ++ xs) (sym (append-nil (turns_of s))) ∙ sym (flat_map-append turns_of text.said (s ∷ [])));
  allowed = allowed;
}

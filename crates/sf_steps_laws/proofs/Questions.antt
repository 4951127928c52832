-- a look's own peek, and what is right at either
use Rattle.std.proofs.Common.{◌≡◌, ◌≢◌, ℕ, true, false, List, [], ◌∷◌, ◌++◌, ◌⊎◌, inl, inr, Option, Some, None, sym, ◌∙◌, ap, subst}
use Rattle.std.proofs.lemmas.Bool.{cases_Bool, true≢false}
use Rattle.std.specs.Prelude.{nat_eq}
use Rattle.std.specs.List.{list_any}
use Rattle.sf_history.specs.declared.call.CallId.{CallId}
use Rattle.sf_history.specs.declared.event.Event.{Event}
use Rattle.sf_history.specs.History.{holds_call, names}
use Rattle.sf_history.specs.Legal.{IsLegal}
use Rattle.sf_history.proofs.LegalHistories.{same_call_is, same_call_self}
use Rattle.sf_steps_laws.specs.declared.operation.Stage.{Stage}
use Rattle.sf_steps_laws.specs.declared.operation.Stage.TheVariants.{Free, Questioning}
use Rattle.sf_steps_laws.specs.declared.operation.CurrentStep.TheVariants as current
use Rattle.sf_steps_laws.specs.declared.turn.Turn.{Turn}
use Rattle.sf_steps_laws.specs.declared.turn.Turn.TheVariants as turn
use Rattle.sf_steps_laws.specs.World.{World, first_world}
use Rattle.sf_steps_laws.specs.Turns.{turned, run}
use Rattle.sf_steps_laws.specs.Events.{adds, events_of, world_after, current_answer}
use Rattle.sf_steps_laws.specs.Laws.{is_current_after}
use Rattle.sf_steps_laws.specs.Questions.{IsLooking, LooksHaveOwnPeeks, YesAtThePeekNoAtTheLook}
use Rattle.sf_steps_laws.proofs.Histories.{now, led_on_named, past_longer}
use Rattle.sf_steps_laws.proofs.Sound.{Good, Sound}
use Rattle.sf_steps_laws.proofs.RightAnswers.{adds_append, schedule_parts, always, schedules_are_legal, looks_are_right}
use Rattle.sf_steps_laws.proofs.Peeks.{turn_look}

holds_some : (o : Option CallId) (c : CallId) → holds_call o c ≡ true → o ≡ Some c
holds_some None c is = cc
holds_some (Some d) c is = ap (λ (x : CallId). Some x) (same_call_is d c is)

pub not_holding : (o : Option CallId) (c : CallId) → holds_call o c ≡ false → o ≢ Some c
not_holding o c isnt is = true≢false (sym (ap (λ (x : Option CallId). holds_call x c) is ∙ same_call_self c) ∙ isnt)

pub holds_no : (o : Option CallId) (c : CallId) → o ≢ Some c → holds_call o c ≡ false
holds_no o c isnt = elim (cases_Bool (holds_call o c)) [
  | inl is ↦ absurd (isnt (holds_some o c is))
  | inr no_such ↦ no_such
]

module _ {V : Type 0} where
  -- the turns from a world on came to the question's own peek, and it has stayed at its look since
  abbrev HasOwnPeek : World V → List (Turn V) → ℕ → ℕ → CallId → Type 0
  HasOwnPeek w ts a k c = (p rest : List (Turn V)) × (ts ≡ p ++ turn.Step a ∷ rest) × ((run w p).stages a ≡ Questioning k c current.Peek) × IsLooking (run w (p ++ turn.Step a ∷ [])) rest a k c

  looks_now : (ts : List (Turn V)) (w : World V) (a k : ℕ) (c : CallId) → IsLooking w ts a k c → w.stages a ≡ Questioning k c current.Look
  looks_now [] w a k c is = is
  looks_now (t ∷ ts) w a k c is = is.0

  own_look : (ts : List (Turn V)) (w : World V) (a k : ℕ) (c : CallId) → (run w ts).stages a ≡ Questioning k c current.Look → IsLooking w ts a k c ⊎ HasOwnPeek w ts a k c
  own_look [] w a k c is = inl is
  own_look (t ∷ ts) w a k c is =
      elim (own_look ts (turned w t) a k c is) [
        | inl after ↦ first_turn after
        | inr later ↦ inr (t ∷ later.0, later.1, ap (λ (xs : List (Turn V)). t ∷ xs) later.2, later.3, later.4)
      ]
    where
      first_turn : IsLooking (turned w t) ts a k c → IsLooking w (t ∷ ts) a k c ⊎ HasOwnPeek w (t ∷ ts) a k c
      first_turn after =
          elim (turn_look w t a k c (looks_now ts (turned w t) a k c after)) [
            | inl was ↦ inl (was, after)
            | inr made ↦ inr ([], ts, ap (λ (x : Turn V). x ∷ ts) made.0, made.1, subst (λ (x : Turn V). IsLooking (turned w x) ts a k c) made.0 after)
          ]

  pub looks_have_own_peeks : LooksHaveOwnPeeks V
  looks_have_own_peeks z s is a k c looks =
      elim (own_look s (first_world z.callers z.first) a k c looks) [
        | inl from ↦ let clash : Free ≡ Questioning k c current.Look = looks_now s (first_world z.callers z.first) a k c from in cc
        | inr has ↦ has
      ]

  pub yes_at_the_peek_no_at_the_look : YesAtThePeekNoAtTheLook V
  yes_at_the_peek_no_at_the_look z p rest a k c is at looks = (yes, unlike)
    where
      s : List (Turn V)
      s = p ++ turn.Step a ∷ rest

      h : List (Event ℕ V)
      h = events_of z.callers z.first p

      more : List (Event ℕ V)
      more = adds (world_after z.callers z.first p) (turn.Step a ∷ rest)

      whole : events_of z.callers z.first s ≡ h ++ more
      whole = adds_append (first_world z.callers z.first) p (turn.Step a ∷ rest)

      sound : Sound z.first h (world_after z.callers z.first p)
      sound = always z p (schedule_parts z p (turn.Step a ∷ rest) [] (first_world z.callers z.first) is).0

      named : list_any (names c) h ≡ true
      named = led_on_named h k c (subst (λ (q : Stage V). Good h (world_after z.callers z.first p) a q) at (sound.callers a).good)

      -- what is not current at the peek is not current at the look
      stays : is_current_after z.callers z.first p k c ≡ false → is_current_after z.callers z.first s k c ≡ false
      stays isnt = holds_no (now (events_of z.callers z.first s) k) c (subst (λ (q : List (Event ℕ V)). now q k ≢ Some c) (sym whole)
          (past_longer k c more h (subst (λ (q : List (Event ℕ V)). IsLegal nat_eq q) whole (schedules_are_legal z s is)) named (not_holding (now h k) c isnt)))

      yes : current_answer (world_after z.callers z.first s) k c current.Look ≡ Some true → is_current_after z.callers z.first p k c ≡ true
      yes said = elim (looks_are_right z p rest a k c true is at looks said) [
        | inl then ↦ sym then
        | inr later ↦ elim (cases_Bool (is_current_after z.callers z.first p k c)) [
          | inl was ↦ was
          | inr wasnt ↦ absurd (true≢false (later ∙ stays wasnt))
        ]
      ]

      unlike : current_answer (world_after z.callers z.first s) k c current.Look ≡ Some false → is_current_after z.callers z.first s k c ≡ false
      unlike said = elim (looks_are_right z p rest a k c false is at looks said) [
        | inl then ↦ stays (sym then)
        | inr later ↦ sym later
      ]

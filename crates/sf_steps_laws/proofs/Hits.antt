-- what forgets of one call find, and that a call that is current no more stays so
use Rattle.std.proofs.Common.{◌≡◌, ℕ, List, [], ◌∷◌, ◌++◌, ◌∙◌, ap, subst}
use Rattle.std.proofs.lemmas.List.{append-nil}
use Rattle.std.specs.Prelude.{nat_eq}
use Rattle.sf_history.specs.declared.event.Event.{Event}
use Rattle.sf_history.specs.declared.event.Event.TheVariants.{ForgetCall}
use Rattle.sf_history.specs.History.{holds_call}
use Rattle.sf_history.specs.Legal.{IsLegal}
use Rattle.sf_steps_laws.specs.World.{World, first_world}
use Rattle.sf_steps_laws.specs.Events.{turn_events, adds, events_of, world_after}
use Rattle.sf_steps_laws.specs.Naming.{HitsAreRight, PastStaysPast}
use Rattle.sf_steps_laws.proofs.Histories.{now, led_on_named, past_longer}
use Rattle.sf_steps_laws.proofs.RightAnswers.{adds_append, schedules_are_legal}
use Rattle.sf_steps_laws.proofs.Questions.{not_holding, holds_no}

module _ {V : Type 0} where
  pub hits_are_right : HitsAreRight V
  hits_are_right z s t is a k c hit adds_it =
      let h : List (Event ℕ V) = events_of z.callers z.first s in
      let w : World V = world_after z.callers z.first s in
      let whole : events_of z.callers z.first (s ++ t ∷ []) ≡ h ++ ForgetCall a k c hit ∷ [] = adds_append (first_world z.callers z.first) s (t ∷ []) ∙ ap (λ (es : List (Event ℕ V)). h ++ es) (append-nil (turn_events w t) ∙ adds_it) in
      schedules_are_legal z (s ++ t ∷ []) is h [] (ForgetCall a k c hit) whole

  pub past_stays_past : PastStaysPast V
  past_stays_past z s ts is k c led isnt =
      let h : List (Event ℕ V) = events_of z.callers z.first s in
      let more : List (Event ℕ V) = adds (world_after z.callers z.first s) ts in
      let whole : events_of z.callers z.first (s ++ ts) ≡ h ++ more = adds_append (first_world z.callers z.first) s ts in
      let legal : IsLegal nat_eq (h ++ more) = subst (λ (q : List (Event ℕ V)). IsLegal nat_eq q) whole (schedules_are_legal z (s ++ ts) is) in
      ap (λ (q : List (Event ℕ V)). holds_call (now q k) c) whole ∙ holds_no (now (h ++ more) k) c (past_longer k c more h legal (led_on_named h k c led) (not_holding (now h k) c isnt))

-- who holds a ticket waits, or has its letter
use Rattle.std.proofs.Common.{◌≡◌, ℕ, false, List, ◌⊎◌, inl, inr, Some, refl, ◌∙◌, ap, subst}
use Rattle.sf_history.specs.declared.call.CallId.{CallId}
use Rattle.sf_history.specs.declared.event.Event.{Event}
use Rattle.sf_history.specs.History.{is_handed}
use Rattle.sf_words.specs.declared.call_word.CallState.{CallState}
use Rattle.sf_words.specs.declared.call_word.CallState.TheVariants as word
use Rattle.sf_steps_laws.specs.declared.operation.Stage.{Stage}
use Rattle.sf_steps_laws.specs.declared.operation.Stage.TheVariants.{Holding, Polling}
use Rattle.sf_steps_laws.specs.World.{World}
use Rattle.sf_steps_laws.specs.Events.{events_of, world_after}
use Rattle.sf_steps_laws.specs.Delivered.{IsServed}
use Rattle.sf_steps_laws.specs.Laws.{TicketsAreServed}
use Rattle.sf_steps_laws.proofs.Sound.{call_of, ticket, Waits, IsTicket, Holds, Good}
use Rattle.sf_steps_laws.proofs.RightAnswers.{always}
use Rattle.sf_steps_laws.proofs.Letters.{answer_is}
use Rattle.sf_steps_laws.proofs.Awaited.{awaited_unhanded}

module _ {V : Type 0} where
  served : (h : List (Event ℕ V)) (w : World V) (a k g : ℕ) (c : CallId) → (Waits w k c (call_of a g) → is_handed h c ≡ false) → ticket (w.stages a) ≡ Some (k, g, c) → (u : CallState) → w.calls a ≡ u → IsTicket h k g c u (w.cells a) → IsServed h w a k g c
  served h w a k g c unhanded holds word.Free is at = absurd at
  served h w a k g c unhanded holds (word.Open s) is at = absurd at
  served h w a k g c unhanded holds (word.Forgot s) is at = absurd at
  served h w a k g c unhanded holds (word.Done s) is at = absurd at
  served h w a k g c unhanded holds (word.Listed i) is at =
      let listed : w.calls a ≡ word.Listed g = is ∙ ap (λ (n : ℕ). word.Listed n) at.0 in
      inl (listed, at.1, unhanded (holds, listed))
  served h w a k g c unhanded holds (word.Full i) is at = inr (at.1.0, at.1.1, is ∙ ap (λ (n : ℕ). word.Full n) at.0, at.1.2, answer_is h c at.1.0 at.1.1 at.1.3)

  pub tickets_are_served : TicketsAreServed V
  tickets_are_served z s is a k g c held = served h w a k g c (awaited_unhanded z s is k c (call_of a g)) (at held) (w.calls a) refl (holds held).1
    where
      h : List (Event ℕ V)
      h = events_of z.callers z.first s

      w : World V
      w = world_after z.callers z.first s

      at : (w.stages a ≡ Holding k g c) ⊎ (w.stages a ≡ Polling k g c) → ticket (w.stages a) ≡ Some (k, g, c)
      at (inl stage) = ap ticket stage
      at (inr stage) = ap ticket stage

      holds : (w.stages a ≡ Holding k g c) ⊎ (w.stages a ≡ Polling k g c) → Holds h w a k g c
      holds (inl stage) = subst (λ (p : Stage V). Good h w a p) stage ((always z s is).callers a).good
      holds (inr stage) = subst (λ (p : Stage V). Good h w a p) stage ((always z s is).callers a).good

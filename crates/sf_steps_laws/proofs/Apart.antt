-- two callers that deliver at once deliver into different cells
use Rattle.std.proofs.Common.{◌≡◌, ℕ, List, ◌⊎◌, inl, inr, Some, refl, sym, ◌∙◌, ap, subst}
use Rattle.sf_history.specs.declared.call.CallId.{CallId}
use Rattle.sf_history.specs.declared.event.Event.{Event}
use Rattle.sf_steps_laws.specs.declared.letter.Letter.{Letter}
use Rattle.sf_steps_laws.specs.declared.operation.Stage.{Stage}
use Rattle.sf_steps_laws.specs.declared.operation.Stage.TheVariants.{Free, Leading, Holding, Polling, Seconding, Asking, Settling, Forgetting, Naming, Questioning}
use Rattle.sf_steps_laws.specs.declared.operation.SettleStep.{SettleStep}
use Rattle.sf_steps_laws.specs.declared.operation.SettleStep.TheVariants as settle
use Rattle.sf_steps_laws.specs.World.{World}
use Rattle.sf_steps_laws.specs.Events.{events_of, world_after}
use Rattle.sf_steps_laws.specs.Delivered.{settle_delivers, delivers}
use Rattle.sf_steps_laws.specs.Waiting.{DeliversAreApart}
use Rattle.sf_steps_laws.proofs.Letters.{same_pair, deliver_right}
use Rattle.sf_steps_laws.proofs.RightAnswers.{always}
use Rattle.sf_steps_laws.proofs.Sound.{call_of}

module _ {V : Type 0} where
  -- a letter is of a call of the caller that delivers it
  settle_of : (k : ℕ) (c : CallId) (v : V) (step : SettleStep) (x : CallId × Letter V) → settle_delivers k c v step ≡ Some x → x.1.call ≡ c
  settle_of k c v settle.Peek x is = cc
  settle_of k c v (settle.Close seen) x is = cc
  settle_of k c v (settle.Clear top) x is = cc
  settle_of k c v (settle.Count n m top) x is = cc
  settle_of k c v (settle.Follow joiners m) x is = cc
  settle_of k c v (settle.PeekMember joiners m next) x is = cc
  settle_of k c v (settle.Deliver joiners m next) x is = ap (λ (y : CallId × Letter V). y.1.call) (sym (same_pair (m, record { place = k; call = c; value = v; joiners = joiners }) x is))
  settle_of k c v (settle.PeekOwn joiners) x is = cc
  settle_of k c v (settle.DeliverOwn joiners m) x is = ap (λ (y : CallId × Letter V). y.1.call) (sym (same_pair (m, record { place = k; call = c; value = v; joiners = joiners }) x is))

  pub letter_of : (a : ℕ) (p : Stage V) (x : CallId × Letter V) → delivers a p ≡ Some x → x.1.call.caller ≡ a
  letter_of a Free x is = cc
  letter_of a (Leading k g own) x is = cc
  letter_of a (Holding k g c) x is = cc
  letter_of a (Polling k g c) x is = cc
  letter_of a (Seconding one) x is = cc
  letter_of a (Asking k s step) x is = cc
  letter_of a (Settling k g own v step) x is = ap (λ (c : CallId). c.caller) (settle_of k (call_of a g) v step x is)
  letter_of a (Forgetting k target step) x is = cc
  letter_of a (Naming k) x is = cc
  letter_of a (Questioning k c step) x is = cc

  pub ticket_call : (p : Stage V) (k g : ℕ) (c : CallId) (i j : ℕ) (d : CallId) → (p ≡ Holding k g c) ⊎ (p ≡ Polling k g c) → (p ≡ Holding i j d) ⊎ (p ≡ Polling i j d) → c ≡ d
  ticket_call p k g c i j d (inl one) (inl other) = let same : Holding k g c ≡ Holding i j d = sym one ∙ other in cc
  ticket_call p k g c i j d (inl one) (inr other) = let same : Holding k g c ≡ Polling i j d = sym one ∙ other in cc
  ticket_call p k g c i j d (inr one) (inl other) = let same : Polling k g c ≡ Holding i j d = sym one ∙ other in cc
  ticket_call p k g c i j d (inr one) (inr other) = let same : Polling k g c ≡ Polling i j d = sym one ∙ other in cc

  pub delivers_are_apart : DeliversAreApart V
  delivers_are_apart z s is a b m n l k first second same =
      let w : World V = world_after z.callers z.first s in
      let h : List (Event ℕ V) = events_of z.callers z.first s in
      let one = (deliver_right z.first h w a (w.stages a) (m, l) refl (always z s is) first).0 in
      let other = (deliver_right z.first h w b (w.stages b) (n, k) refl (always z s is) second).0 in
      let calls : l.call ≡ k.call = ticket_call (w.stages m.caller) l.place m.generation l.call k.place n.generation k.call one.ticket
      (subst (λ (x : ℕ). (w.stages x ≡ Holding k.place n.generation k.call) ⊎ (w.stages x ≡ Polling k.place n.generation k.call)) (sym same) other.ticket) in
      sym (letter_of a (w.stages a) (m, l) first) ∙ (ap (λ (c : CallId). c.caller) calls ∙ letter_of b (w.stages b) (n, k) second)

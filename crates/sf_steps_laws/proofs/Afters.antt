-- what an asking that is to lead knows of the call that was current before its own
use Rattle.std.proofs.Common.{◌≡◌, ℕ, Bool, true, false, List, inl, inr, subst}
use Rattle.sf_history.specs.declared.event.Event.{Event}
use Rattle.sf_words.specs.declared.key_word.KeyState.{KeyState}
use Rattle.sf_words.specs.declared.key_word.KeyState.TheVariants.{Never, Names}
use Rattle.sf_steps_laws.specs.declared.operation.Stage.{Stage}
use Rattle.sf_steps_laws.specs.declared.operation.Stage.TheVariants.{Asking}
use Rattle.sf_steps_laws.specs.declared.operation.AskStep.TheVariants as ask
use Rattle.sf_steps_laws.specs.World.{World}
use Rattle.sf_steps_laws.specs.Events.{events_of, world_after}
use Rattle.sf_steps_laws.specs.Afters.{after_of, LeadsKnowCurrent}
use Rattle.sf_steps_laws.proofs.Histories.{now}
use Rattle.sf_steps_laws.proofs.Compared.{same_key_is}
use Rattle.sf_steps_laws.proofs.Sound.{FlagAt, GoodFlag, GoodKey}
use Rattle.sf_steps_laws.proofs.RightAnswers.{always_fair}

module _ {V : Type 0} where
  known : (h : List (Event ℕ V)) (w : World V) (k : ℕ) (seen : KeyState) (f : Bool) → GoodKey h w k seen → FlagAt h w k seen f → now h k ≡ after_of seen f
  known h w k Never f good flag = good
  known h w k (Names b g true) f good flag = good
  known h w k (Names b g false) true good flag = elim good.1 [
    | inl is ↦ absurd (flag is)
    | inr debt ↦ debt.0
  ]
  known h w k (Names b g false) false good flag = elim good.1 [
    | inl is ↦ is
    | inr debt ↦ absurd (flag debt.1)
  ]

  pub leads_know_current : LeadsKnowCurrent V
  leads_know_current z s is a k x seen f at same =
      let h : List (Event ℕ V) = events_of z.callers z.first s in
      let w : World V = world_after z.callers z.first s in
      let key : w.keys k ≡ seen = same_key_is (w.keys k) seen same in
      let fair = always_fair z s is in
      let flag : GoodFlag h w (Asking k x (ask.Lead seen f)) = subst (λ (q : Stage V). GoodFlag h w q) at (fair.flags a) in
      known h w k seen f (subst (λ (v : KeyState). GoodKey h w k v) key (fair.sound.keys k)) flag

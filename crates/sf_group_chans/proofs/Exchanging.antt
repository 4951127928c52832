-- counting the exchanges of two askers
use Rattle.std.proofs.Common.{◌≡◌, ◌≢◌, ℕ, Bool, true, false, ◌==◌, ne_eqb, [], ◌∷◌, inl, inr, Some, refl, sym, ◌∙◌, ap, subst, arith}
use Rattle.std.specs.Prelude.{cond, if◌then◌else◌}
use Rattle.sf_steps_laws.specs.declared.operation.Op.TheVariants as op
use Rattle.sf_steps_laws.specs.declared.operation.Stage.{Stage}
use Rattle.sf_steps_laws.specs.declared.operation.Stage.TheVariants as stage
use Rattle.sf_steps_laws.specs.declared.operation.AskStep.{AskStep}
use Rattle.sf_steps_laws.specs.declared.operation.AskStep.TheVariants as ask
use Rattle.sf_steps_laws.specs.declared.turn.Turn.{Turn}
use Rattle.sf_steps_laws.specs.declared.turn.Turn.TheVariants as turn
use Rattle.sf_steps_laws.specs.World.{World}
use Rattle.sf_steps_laws.specs.Turns.{turned}
use Rattle.sf_lists.specs.Functions.{put}
use Rattle.sf_lists.proofs.Functions.{put_here}
use Rattle.sf_group_steps.specs.declared.view.View.{View}
use Rattle.sf_group_steps.specs.View.{world_of}
use Rattle.sf_group_steps.specs.Plays.{Made}
use Rattle.sf_group_steps.specs.Stands.{stage_in}
use Rattle.sf_group_steps.specs.Exchanges.{exchanges_at, exchanges_by, exchanges}
use Rattle.sf_group_steps.proofs.LookSteps.{asking_alone, free_alone}
use Rattle.sf_group_steps.proofs.LeadSteps.{lead_turns}
use Rattle.sf_group_steps.proofs.Exchanging.{exchanged_by, step_exchanges, last_exchanges}
use Rattle.sf_group_chans.specs.declared.askers.Askers.{Askers}
use Rattle.sf_group_chans.specs.Both.{AreAskers, AskAt, MayLook, look_turns}
use Rattle.sf_group_chans.specs.Exchanges.{HaveExchanged}
use Rattle.sf_group_chans.proofs.Alone.{has_first, has_second, stand}
use Rattle.sf_group_chans.proofs.LookSteps.{free_serves, second_serves, turns_are, chan_world, chan_begun}

module _ {V : Type 0} where
  -- a step of one caller is no exchange of another
  others_step : (a b : ℕ) (w : World V) → b ≢ a → exchanges_by b w (turn.Step a) ≡ 0
  others_step a b w apart = ap (λ q. cond {A = ℕ} q (exchanges_at (w.stages b)) 0) (ne_eqb a b (λ e. apart (sym e)))

  others_last : (a b old n : ℕ) (last : Bool) (w : World V) → b ≢ a → exchanges b w (lead_turns old a last n) ≡ 0
  others_last a b old n last w apart = by (n == old) last
    where
      by : (c d : Bool) → exchanges b w (if c then turn.Step a ∷ [] else (if d then turn.Step a ∷ turn.Leave a ∷ [] else turn.Step a ∷ [])) ≡ 0
      by true d = let one = others_step a b w apart in omega (arith, one)
      by false true = let one = others_step a b w apart in omega (arith, one)
      by false false = let one = others_step a b w apart in omega (arith, one)

  -- one step of the first in its asking
  pub exchanged_once : (c : Askers) (n : ℕ) (v w : View V) (step : AskStep) → AskAt c v step → Made c.sizes v w (turn.Step c.number ∷ []) → exchanges_at {V = V} (stage.Asking c.place (Some c.second) step) ≡ n → HaveExchanged c n v w
  exchanged_once c n v w step asks m is =
      let p : Stage V = stage.Asking c.place (Some c.second) step in
      let at = stand c v p (stage.Seconding c.number) m.before asks.sit (asking_alone c.place (Some c.second) step) (second_serves c.number) m.comes in
      let one = step_exchanges c.number (world_of c.sizes m.before) p [] at.first in
      let other = others_step c.number c.second (world_of c.sizes m.before) asks.apart in (
        exchanged_by c.sizes c.number n v w (turn.Step c.number ∷ []) (has_first c v p (stage.Seconding c.number) asks.sit) m (omega (arith, one, is)),
        exchanged_by c.sizes c.second 0 v w (turn.Step c.number ∷ []) (has_second c v p (stage.Seconding c.number) asks.sit) m (omega (arith, other)),
      )

  pub exchanged_last : (c : Askers) (old n : ℕ) (last : Bool) (v w : View V) (step : AskStep) → AskAt c v step → Made c.sizes v w (lead_turns old c.number last n) → exchanges_at {V = V} (stage.Asking c.place (Some c.second) step) ≡ 1 → HaveExchanged c 1 v w
  exchanged_last c old n last v w step asks m is =
      let p : Stage V = stage.Asking c.place (Some c.second) step in
      let at = stand c v p (stage.Seconding c.number) m.before asks.sit (asking_alone c.place (Some c.second) step) (second_serves c.number) m.comes in (
        exchanged_by c.sizes c.number 1 v w (lead_turns old c.number last n) (has_first c v p (stage.Seconding c.number) asks.sit) m (last_exchanges c.number old n last (world_of c.sizes m.before) p at.first is),
        exchanged_by c.sizes c.second 0 v w (lead_turns old c.number last n) (has_second c v p (stage.Seconding c.number) asks.sit) m (others_last c.number c.second old n last (world_of c.sizes m.before) asks.apart),
      )

  -- a look starts the asking, or goes on with it
  pub exchanged_look : (c : Askers) (v w : View V) → AreAskers c → MayLook c v → Made c.sizes v w (look_turns (stage_in v c.number) c) → HaveExchanged c 0 v w
  exchanged_look c v w are (inl free) m = (
    exchanged_by c.sizes c.number 0 v w (look_turns (stage_in v c.number) c) (has_first c v stage.Free stage.Free free.sit) m (ap (λ ts. exchanges c.number (world_of c.sizes m.before) ts) same ∙ first),
    exchanged_by c.sizes c.second 0 v w (look_turns (stage_in v c.number) c) (has_second c v stage.Free stage.Free free.sit) m (ap (λ ts. exchanges c.second (world_of c.sizes m.before) ts) same ∙ second),
  )
    where
      start : Turn V
      start = turn.Start c.number (op.Chan c.second c.place)

      w₀ : World V
      w₀ = world_of c.sizes m.before

      same : look_turns (stage_in v c.number) c ≡ start ∷ turn.Step c.number ∷ []
      same = turns_are c v stage.Free stage.Free free.sit

      there : turned w₀ start ≡ chan_world w₀ c
      there = (chan_begun c v m.before are free (stand c v stage.Free stage.Free m.before free.sit free_alone (free_serves c.number) m.comes)).world

      first : exchanges c.number w₀ (start ∷ turn.Step c.number ∷ []) ≡ 0
      first =
          let one = step_exchanges c.number (turned w₀ start) ((turned w₀ start).stages c.number) [] refl in
          let none = ap (λ (u : World V). exchanges_at (u.stages c.number)) there ∙ ap (λ (q : Stage V). exchanges_at q) (put_here (put w₀.stages c.second (stage.Seconding c.number)) c.number (stage.Asking c.place (Some c.second) (ask.Look false))) in
          omega (arith, one, none)

      second : exchanges c.second w₀ (start ∷ turn.Step c.number ∷ []) ≡ 0
      second = let one = others_step c.number c.second (turned w₀ start) free.apart in omega (arith, one)
  exchanged_look c v w are (inr again) m =
      exchanged_once c 0 v w (ask.Look true) again (subst (λ ts. Made c.sizes v w ts) (turns_are c v (stage.Asking c.place (Some c.second) (ask.Look true)) (stage.Seconding c.number) again.sit) m) refl

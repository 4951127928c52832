-- counting the exchanges of a caller
use Rattle.std.proofs.Common.{◌≡◌, ◌≢◌, ℕ, ◌+◌, ◌≤◌, Bool, true, false, ◌==◌, eq-eqb, ne_eqb, List, [], ◌∷◌, ◌++◌, inl, inr, Option, None, Some, refl, ◌∙◌, ap, subst, arith}
use Rattle.std.specs.Prelude.{cond, if◌then◌else◌}
use Rattle.std.proofs.lemmas.Bool.{cond-true}
use Rattle.sf_history.specs.declared.call.CallId.{CallId}
use Rattle.sf_steps_laws.specs.declared.operation.Op.TheVariants as op
use Rattle.sf_steps_laws.specs.declared.operation.Stage.{Stage}
use Rattle.sf_steps_laws.specs.declared.operation.Stage.TheVariants as stage
use Rattle.sf_steps_laws.specs.declared.operation.AskStep.TheVariants as ask
use Rattle.sf_steps_laws.specs.declared.operation.ForgetStep.TheVariants as forget
use Rattle.sf_steps_laws.specs.declared.turn.Turn.{Turn}
use Rattle.sf_steps_laws.specs.declared.turn.Turn.TheVariants as turn
use Rattle.sf_steps_laws.specs.World.{World, first_world, with_stage, is_spent}
use Rattle.sf_steps_laws.specs.Turns.{turned, started, run}
use Rattle.sf_steps_laws.specs.Named.{Names, Spares}
use Rattle.sf_lists.proofs.Functions.{put_here}
use Rattle.sf_steps_laws.proofs.Named.{IsAlone}
use Rattle.sf_group_rows.specs.declared.sizes.Sizes.{Sizes}
use Rattle.sf_group_steps.specs.declared.view.View.{View}
use Rattle.sf_group_steps.specs.View.{Has, world_of}
use Rattle.sf_group_steps.specs.declared.asking.AskAttempt.{AskAttempt}
use Rattle.sf_group_steps.specs.declared.asking.AskAttempt.TheVariants.{Led, Joined, Lost}
use Rattle.sf_group_steps.specs.declared.forgetting.ForgetAttempt.{ForgetAttempt}
use Rattle.sf_group_steps.specs.declared.forgetting.ForgetAttempt.TheVariants as forgot
use Rattle.sf_group_steps.specs.Plays.{Made}
use Rattle.sf_group_steps.specs.Stands.{stage_in, Sits, MayLook, look_turns}
use Rattle.sf_group_steps.specs.Forgets.{forget_op, forget_turns, MayForget}
use Rattle.sf_group_steps.specs.Exchanges.{exchanges_at, exchanges_by, exchanges, exchanges_of, HasExchanged, HasTriedSo, HasForgotBy, HasForgotSo, TriesAtMost, TriesJust}
use Rattle.sf_group_steps.proofs.Ways.{stands, sits_has}
use Rattle.sf_group_steps.proofs.LookSteps.{asking_alone, free_alone, stage_is}
use Rattle.sf_group_steps.proofs.LeadSteps.{lead_turns}
use Rattle.sf_group_steps.proofs.ForgetLooks.{forgetting_alone}

module _ {V : Type 0} where
  pub exchanges_append : (a : ℕ) (w : World V) (ts us : List (Turn V)) → exchanges a w (ts ++ us) ≡ exchanges a w ts + exchanges a (run w ts) us
  exchanges_append a w [] us = omega arith
  exchanges_append a w (t ∷ ts) us = let more = exchanges_append a (turned w t) ts us in omega (arith, more)

  -- turns that do not name the caller are no exchange of it
  pub exchanges_spared : (a : ℕ) (w : World V) (ts : List (Turn V)) → Spares ts a → exchanges a w ts ≡ 0
  exchanges_spared a w [] spares = refl
  exchanges_spared a w (t ∷ ts) spares = let one = none t (spares.0) in let more = exchanges_spared a (turned w t) ts (spares.1) in omega (arith, one, more)
    where
      none : (t : Turn V) → (Names t a → ⊥) → exchanges_by a w t ≡ 0
      none (turn.Start b o) apart = refl
      none (turn.Step b) apart = ap (λ q. cond {A = ℕ} q (exchanges_at (w.stages a)) 0) (ne_eqb b a apart)
      none (turn.Leave b) apart = refl

  -- a seat that made these turns knows as many more exchanges of a caller that it stands for
  pub exchanged_by : (z : Sizes) (a n : ℕ) (v w : View V) (ts : List (Turn V)) → Has v.known.callers a → (m : Made z v w ts) → exchanges a (world_of z m.before) ts ≡ n → HasExchanged z a n v w
  exchanged_by z a n v w ts has m count =
      let first = first_world z.callers z.first in
      let between : List (Turn V) = m.comes.later.between in
      let whole : exchanges_of z a w.known.turns ≡ exchanges_of z a (m.before ++ ts) = ap (λ (y : View V). exchanges_of z a y.known.turns) m.view in
      let parts = exchanges_append a first m.before ts in
      let front : exchanges_of z a m.before ≡ exchanges_of z a (v.known.turns ++ between) = ap (λ l. exchanges_of z a l) m.comes.later.turns in
      let old = exchanges_append a first v.known.turns between in
      let none = exchanges_spared a (run first v.known.turns) between (m.comes.later.others a has) in
      omega (arith, whole, parts, front, old, none, count)

  pub step_exchanges : (a : ℕ) (w : World V) (p : Stage V) (ts : List (Turn V)) → w.stages a ≡ p → exchanges_by a w (turn.Step a) ≡ exchanges_at p
  step_exchanges a w p ts at = cond-true _ _ _ (eq-eqb a a refl) ∙ ap (λ (q : Stage V). exchanges_at q) at

  -- one step from this stage
  pub exchanged_once : (z : Sizes) (a n : ℕ) (v w : View V) (p : Stage V) → Sits z a v p → IsAlone p → Made z v w (turn.Step a ∷ []) → exchanges_at p ≡ n → HasExchanged z a n v w
  exchanged_once z a n v w p sits alone m is =
      let one = step_exchanges a (world_of z m.before) p [] (stands z a v p m.before sits alone m.comes) in
      exchanged_by z a n v w (turn.Step a ∷ []) (sits_has z a v p sits) m (omega (arith, one, is))

  -- an exchange, which may be followed by the drop
  pub last_exchanges : (a old n : ℕ) (last : Bool) (w : World V) (p : Stage V) → w.stages a ≡ p → exchanges_at p ≡ 1 → exchanges a w (lead_turns old a last n) ≡ 1
  last_exchanges a old n last w p at is = by (n == old) last
    where
      one : exchanges_by a w (turn.Step a) ≡ 1
      one = step_exchanges a w p [] at ∙ is

      by : (b c : Bool) → exchanges a w (if b then turn.Step a ∷ [] else (if c then turn.Step a ∷ turn.Leave a ∷ [] else turn.Step a ∷ [])) ≡ 1
      by true c = let o = one in omega (arith, o)
      by false true = let o = one in omega (arith, o)
      by false false = let o = one in omega (arith, o)

  pub exchanged_last : (z : Sizes) (a old n : ℕ) (last : Bool) (v w : View V) (p : Stage V) → Sits z a v p → IsAlone p → Made z v w (lead_turns old a last n) → exchanges_at p ≡ 1 → HasExchanged z a 1 v w
  exchanged_last z a old n last v w p sits alone m is =
      exchanged_by z a 1 v w (lead_turns old a last n) (sits_has z a v p sits) m (last_exchanges a old n last (world_of z m.before) p (stands z a v p m.before sits alone m.comes) is)

  -- a look starts an asking, or goes on with one
  pub exchanged_look : (z : Sizes) (a k : ℕ) (v w : View V) → MayLook z a k v → Made z v w (look_turns (stage_in v a) a k) → HasExchanged z a 0 v w
  exchanged_look z a k v w (inl free) m = exchanged_by z a 0 v w (look_turns (stage_in v a) a k) (sits_has z a v stage.Free free.0) m
      (ap (λ q. exchanges a (world_of z m.before) (look_turns q a k)) (stage_is z a v stage.Free free.0) ∙ from (world_of z m.before) (stands z a v stage.Free m.before free.0 free_alone m.comes))
    where
      begun : (w : World V) (b : Bool) → w.stages a ≡ stage.Free → exchanges_at ((cond b w (with_stage w a (stage.Asking k None (ask.Look false)))).stages a) ≡ 0
      begun w true at = ap (λ (q : Stage V). exchanges_at q) at
      begun w false at = ap (λ (q : Stage V). exchanges_at q) (put_here w.stages a (stage.Asking k None (ask.Look false)))

      from : (w : World V) → w.stages a ≡ stage.Free → exchanges a w (turn.Start a (op.Ask k) ∷ turn.Step a ∷ []) ≡ 0
      from w at =
          let there : (turned w (turn.Start a (op.Ask k))) ≡ cond (is_spent w a) w (with_stage w a (stage.Asking k None (ask.Look false))) = ap (λ q. started w a (op.Ask k) q) at in
          let one = step_exchanges a (turned w (turn.Start a (op.Ask k))) ((turned w (turn.Start a (op.Ask k))).stages a) [] refl in
          let none = ap (λ (u : World V). exchanges_at (u.stages a)) there ∙ begun w (is_spent w a) at in
          omega (arith, one, none)
  exchanged_look z a k v w (inr again) m =
      let p : Stage V = stage.Asking k None (ask.Look true) in
      exchanged_once z a 0 v w p again (asking_alone k None (ask.Look true)) (subst (λ q. Made z v w (look_turns q a k)) (stage_is z a v p again) m) refl

  -- the same of a Forget
  pub exchanged_forget_look : (z : Sizes) (a k : ℕ) (target : Option CallId) (v w : View V) → MayForget z a k target v → Made z v w (forget_turns (stage_in v a) a k target) → HasExchanged z a 0 v w
  exchanged_forget_look z a k target v w (inl free) m = exchanged_by z a 0 v w (forget_turns (stage_in v a) a k target) (sits_has z a v stage.Free free) m
      (ap (λ q. exchanges a (world_of z m.before) (forget_turns q a k target)) (stage_is z a v stage.Free free) ∙ from (world_of z m.before) target (stands z a v stage.Free m.before free free_alone m.comes))
    where
      begun : (w : World V) (o : Option CallId) → w.stages a ≡ stage.Free → turned w (turn.Start a (forget_op k o)) ≡ with_stage w a (stage.Forgetting k o (forget.Look false))
      begun w None at = ap (λ q. started w a (op.Forget k) q) at
      begun w (Some c) at = ap (λ q. started w a (op.ForgetCall k c) q) at

      from : (w : World V) (o : Option CallId) → w.stages a ≡ stage.Free → exchanges a w (turn.Start a (forget_op k o) ∷ turn.Step a ∷ []) ≡ 0
      from w o at =
          let one = step_exchanges a (turned w (turn.Start a (forget_op k o))) ((turned w (turn.Start a (forget_op k o))).stages a) [] refl in
          let none = ap (λ (u : World V). exchanges_at (u.stages a)) (begun w o at) ∙ ap (λ (q : Stage V). exchanges_at q) (put_here w.stages a (stage.Forgetting k o (forget.Look false))) in
          omega (arith, one, none)
  exchanged_forget_look z a k target v w (inr again) m =
      let p : Stage V = stage.Forgetting k target (forget.Look true) in
      exchanged_once z a 0 v w p again (forgetting_alone k target (forget.Look true)) (subst (λ q. Made z v w (forget_turns q a k target)) (stage_is z a v p again) m) refl

  -- the try that ends a loop, after so many that failed
  pub tried_so : (z : Sizes) (a tries failed : ℕ) (v w x : View V) (r : AskAttempt) → r ≢ Lost → failed + 1 ≤ tries → HasExchanged z a failed v w → HasExchanged z a 1 w x → HasTriedSo z a tries v x r
  tried_so z a tries failed v w x (Led after) some few old one = omega (arith, few, old, one)
  tried_so z a tries failed v w x (Joined c) some few old one = omega (arith, few, old, one)
  tried_so z a tries failed v w x Lost some few old one = absurd (some refl)

  pub forgot_so : (z : Sizes) (a tries failed : ℕ) (v w x : View V) (r : ForgetAttempt) → r ≢ forgot.Lost → failed + 1 ≤ tries → HasExchanged z a failed v w → HasForgotBy z a w x r → HasForgotSo z a tries v x r
  forgot_so z a tries failed v w x (forgot.Closed c) some few old one = omega (arith, few, old, one)
  forgot_so z a tries failed v w x (forgot.Cleared c) some few old one = omega (arith, few, old, one)
  forgot_so z a tries failed v w x forgot.Missed some few old one = omega (arith, few, old, one)
  forgot_so z a tries failed v w x forgot.Lost some few old one = absurd (some refl)

  -- from two counts to one of what the caller knows more
  pub tries_at_most : (z : Sizes) (a n : ℕ) (old new more : List (Turn V)) → new ≡ old ++ more → exchanges_of z a new ≤ exchanges_of z a old + n → TriesAtMost z a n old new
  tries_at_most z a n old new more knows few =
      let parts = exchanges_append a (first_world z.callers z.first) old more in
      let whole : exchanges_of z a new ≡ exchanges_of z a (old ++ more) = ap (λ l. exchanges_of z a l) knows in
      (more, knows, omega (arith, parts, whole, few))

  pub tries_just : (z : Sizes) (a n : ℕ) (old new more : List (Turn V)) → new ≡ old ++ more → exchanges_of z a new ≡ exchanges_of z a old + n → TriesJust z a n old new
  tries_just z a n old new more knows all =
      let parts = exchanges_append a (first_world z.callers z.first) old more in
      let whole : exchanges_of z a new ≡ exchanges_of z a (old ++ more) = ap (λ l. exchanges_of z a l) knows in
      (more, knows, omega (arith, parts, whole, all))

-- the kinds of step of a settle up to its clear, and that its closes fail seldom
use Rattle.std.proofs.Common.{◌≡◌, ℕ, ◌+◌, ◌≤◌, Bool, true, false, ◌==◌, ◌&&◌, not, eqb, eq-eqb, List, [], ◌∷◌, ◌++◌, inl, Option, refl, sym, ◌∙◌, ap, subst, arith}
use Rattle.std.specs.Prelude.{cond, if◌then◌else◌}
use Rattle.std.proofs.lemmas.Bool.{cond-true}
use prog.Atomic.{either}
use Rattle.sf_history.specs.declared.call.CallId.{CallId}
use Rattle.sf_words.specs.declared.call_word.LeaderState.{LeaderState}
use Rattle.sf_words.specs.declared.call_word.CallState.TheVariants as word
use Rattle.sf_words.specs.CallWord.{call_code}
use Rattle.sf_steps_laws.specs.declared.operation.Stage.{Stage}
use Rattle.sf_steps_laws.specs.declared.operation.Stage.TheVariants as stage
use Rattle.sf_steps_laws.specs.declared.operation.SettleStep.TheVariants as settle
use Rattle.sf_steps_laws.specs.declared.turn.Turn.{Turn}
use Rattle.sf_steps_laws.specs.declared.turn.Turn.TheVariants as turn
use Rattle.sf_steps_laws.specs.World.{World, first_world, is_open_with, count}
use Rattle.sf_steps_laws.specs.Turns.{after_close, turned, run}
use Rattle.sf_steps_laws.specs.Events.{settled, close_events}
use Rattle.sf_steps_laws.specs.Closes.{fails_at, fails, failed_closes}
use Rattle.sf_steps_laws.specs.Schedules.{IsCaller, IsSchedule}
use Rattle.sf_steps_laws.proofs.Sound.{call_of}
use Rattle.sf_steps_laws.proofs.Closes.{closes_fail_seldom}
use Rattle.sf_group_rows.specs.declared.sizes.Sizes.{Sizes}
use Rattle.sf_group_steps.specs.declared.view.View.{View}
use Rattle.sf_group_steps.specs.Words.{call, code_at, IsCallFor, Writes}
use Rattle.sf_group_steps.specs.View.{setting_of, world_of, history_of}
use Rattle.sf_group_steps.specs.Plays.{Moves}
use Rattle.sf_group_steps.specs.Stands.{Sits}
use Rattle.sf_steps_laws.proofs.Named.{IsAlone}
use Rattle.sf_group_steps.proofs.Ways.{Ran, step_ran, writes_none, writes_call, Does, moves_by}
use Rattle.sf_group_steps.proofs.EnterSteps.{call_test}

module _ {V : Type 0} where
  -- failed closes, counted in parts
  pub closes_append : (a g : ℕ) (w : World V) (ts us : List (Turn V)) → failed_closes w a g (ts ++ us) ≡ failed_closes w a g ts + failed_closes (run w ts) a g us
  closes_append a g w [] us = omega arith
  closes_append a g w (t ∷ ts) us = let more = closes_append a g (turned w t) ts us in omega (arith, more)

  pub close_counts : (w : World V) (a k g : ℕ) (own : Option CallId) (v : V) (seen : LeaderState) → w.stages a ≡ stage.Settling k g own v (settle.Close seen) → is_open_with seen (w.calls a) ≡ false → failed_closes w a g (turn.Step a ∷ []) ≡ 1
  close_counts w a k g own v seen at lost =
      let mine : fails w a g (turn.Step a) ≡ fails_at g (w.calls a) (w.stages a) = cond-true _ _ _ (eq-eqb a a refl) in
      let there : fails_at g (w.calls a) (w.stages a) ≡ (if (g == g) && not (is_open_with seen (w.calls a)) then 1 else 0) = ap (fails_at g (w.calls a)) at in
      let one : ◌≡◌ {A = ℕ} (if (g == g) && not (is_open_with seen (w.calls a)) then 1 else 0) 1 = ap (λ b. cond {A = ℕ} (b && not (is_open_with seen (w.calls a))) 1 0) (eq-eqb g g refl) ∙ ap (λ b. cond {A = ℕ} (not b) 1 0) lost in
      let whole = mine ∙ (there ∙ one) in omega (arith, whole)

  -- beyond what a leader knew, its closes cannot have failed more often than there are callers
  pub closes_end : (z : Sizes) (a g n : ℕ) (v w : View V) (p : Stage V) (more : List (Turn V)) → Sits z a w p → w.known.turns ≡ v.known.turns ++ more → n ≤ failed_closes (world_of z v.known.turns) a g more → n ≤ z.callers
  closes_end z a g n v w p more sits knows counted =
      let whole : IsSchedule (setting_of z) (v.known.turns ++ more) = subst (λ s. IsSchedule (setting_of z) s) knows sits.schedule in
      let most = closes_fail_seldom (setting_of z) (v.known.turns ++ more) a g whole in
      let parts = closes_append a g (first_world z.callers z.first) v.known.turns more in
      omega (arith, counted, most, parts)

  -- the close: exchange the own call word that was seen, which was open
  pub close_alone : (k g : ℕ) (own : Option CallId) (x : V) (seen : LeaderState) → IsAlone {V = V} (stage.Settling k g own x (settle.Close seen))
  close_alone k g own x seen c is = cc

  pub close_ran : (z : Sizes) (a k g : ℕ) (own : Option CallId) (x : V) (seen : LeaderState) (s : List (Turn V)) → IsCaller (setting_of z) a → (world_of z s).stages a ≡ stage.Settling k g own x (settle.Close seen) → (b : Bool) → is_open_with seen ((world_of z s).calls a) ≡ b
      → Ran (setting_of z) (history_of z s) (world_of z s) (turn.Step a ∷ []) (after_close (world_of z s) a k g own x seen b) (close_events (world_of z s) a (call_of a g) own x seen b)
  close_ran z a k g own x seen s caller at b is = subst (λ t. Ran (setting_of z) (history_of z s) (world_of z s) (turn.Step a ∷ []) (after_close (world_of z s) a k g own x seen t) (close_events (world_of z s) a (call_of a g) own x seen t)) is
      (step_ran (setting_of z) (history_of z s) (world_of z s) a (stage.Settling k g own x (settle.Close seen)) caller tt at)

  pub close_move : (z : Sizes) (a k g old new : ℕ) (own : Option CallId) (x : V) (seen : LeaderState) (v : View V) → Sits z a v (stage.Settling k g own x (settle.Close seen)) → IsCallFor z.callers (word.Open seen) → old ≡ call_code (word.Open seen) → new ≡ call_code (word.Done seen)
      → Moves z v (call a) (λ n. either (n == old) new n) (λ _. turn.Step a ∷ [])
  close_move z a k g old new own x seen v sits lawful old_code new_code = moves_by z a v p (call a) (λ n. either (n == old) new n) (λ _. turn.Step a ∷ []) sits (close_alone k g own x seen)
      (λ s comes at used n found.
      let w : World V = world_of z s in
      let test : (n == old) ≡ is_open_with seen (w.calls a) = ap (λ m. eqb m old) found ∙ (ap (eqb (call_code (w.calls a))) old_code ∙ call_test (w.calls a) seen (comes.lawful.calls a).0 lawful.0) in
      (((λ b e. inl e), tt), does s n found at (is_open_with seen (w.calls a)) refl test))
    where
      p : Stage V
      p = stage.Settling k g own x (settle.Close seen)

      does : (s : List (Turn V)) (n : ℕ) → n ≡ code_at (world_of z s) (call a) → (world_of z s).stages a ≡ p → (b : Bool) → is_open_with seen ((world_of z s).calls a) ≡ b → (n == old) ≡ b → Does z s (call a) (either (n == old) new n) (turn.Step a ∷ [])
      does s n found at true is test = subst (λ t. Does z s (call a) (either t new n) (turn.Step a ∷ [])) (sym test)
          (let w : World V = world_of z s in
          record {
            world = after_close w a k g own x seen true;
            events = settled a (call_of a g) own x (count seen.top w.callers w.nexts) seen.top;
            ran = close_ran z a k g own x seen s sits.caller at true is;
            writes = subst (λ m. Writes z.callers w (after_close w a k g own x seen true) (call a) m) (sym new_code) (writes_call z.callers w (after_close w a k g own x seen true) a (word.Done seen) lawful refl refl refl);
            cells = refl;
          })
      does s n found at false is test = subst (λ t. Does z s (call a) (either t new n) (turn.Step a ∷ [])) (sym test)
          (record { world = after_close (world_of z s) a k g own x seen false; events = []; ran = close_ran z a k g own x seen s sits.caller at false is; writes = writes_none z.callers (world_of z s) (after_close (world_of z s) a k g own x seen false) (call a) n found refl refl refl; cells = refl })

-- the kind close of a Forget
use Rattle.std.proofs.Common.{◌≡◌, ◌≢◌, ℕ, ◌+◌, Bool, true, false, ◌==◌, eqb, eq-eqb, ne_eqb, List, [], ◌∷◌, ◌++◌, inl, Option, Some, None, refl, sym, ◌∙◌, ap, subst, arith}
use Rattle.std.specs.Prelude.{if◌then◌else◌}
use prog.Atomic.{either}
use Rattle.std.proofs.lemmas.Bool.{cond-true}
use Rattle.sf_history.specs.declared.call.CallId.{CallId}
use Rattle.sf_history.specs.History.{own_events}
use Rattle.sf_words.specs.declared.call_word.LeaderState.{LeaderState}
use Rattle.sf_words.specs.declared.call_word.CallState.TheVariants as word
use Rattle.sf_words.specs.CallWord.{IsCallState, call_code}
use Rattle.sf_steps_laws.specs.declared.operation.Stage.{Stage}
use Rattle.sf_steps_laws.specs.declared.operation.Stage.TheVariants as stage
use Rattle.sf_steps_laws.specs.declared.operation.ForgetStep.TheVariants as forget
use Rattle.sf_steps_laws.specs.declared.turn.Turn.{Turn}
use Rattle.sf_steps_laws.specs.declared.turn.Turn.TheVariants as turn
use Rattle.sf_steps_laws.specs.World.{World, first_world, with_stage, is_open_with}
use Rattle.sf_lists.specs.Functions.{put}
use Rattle.sf_steps_laws.specs.Turns.{forgot, turned, run}
use Rattle.sf_steps_laws.specs.Events.{closes, forget_one}
use Rattle.sf_steps_laws.specs.Schedules.{IsCaller, IsSchedule}
use Rattle.sf_lists.proofs.Functions.{put_here}
use Rattle.sf_steps_laws.proofs.RightAnswers.{run_append}
use Rattle.sf_group_rows.specs.declared.sizes.Sizes.{Sizes}
use Rattle.sf_group_steps.specs.declared.view.View.{View}
use Rattle.sf_group_steps.specs.Words.{Word, call, HasWord, code_at, IsCallFor, Writes}
use Rattle.sf_group_steps.specs.View.{Has, setting_of, AreBy, world_of, history_of}
use Rattle.sf_group_steps.specs.Plays.{Moves, view_after, Made, Found}
use Rattle.sf_group_steps.specs.Stands.{Sits, Goes}
use Rattle.sf_group_steps.specs.Changes.{tries_in, tried, Loses}
use Rattle.sf_group_steps.specs.Forgets.{lost_forget}
use Rattle.sf_group_steps.proofs.Ways.{Ran, ran_then, step_ran, leave_ran, writes_none, writes_call, stands, Does, moves_by, goes_by}
use Rattle.sf_group_steps.proofs.Changing.{changes_append, changed_once, tried_right}
use Rattle.sf_group_steps.proofs.LookSteps.{lost_by}
use Rattle.sf_group_steps.proofs.LeadSteps.{lead_turns}
use Rattle.sf_group_steps.proofs.EnterSteps.{call_test}
use Rattle.sf_group_steps.proofs.ForgetLooks.{forgetting_alone}

module _ {V : Type 0} where
  -- the exchanges of a forget, of which the last is followed by the drop
  abbrev pub failed_world : World V → ℕ → ℕ → Option CallId → Bool → World V
  failed_world w a k target false = with_stage w a (stage.Forgetting k target (forget.Look true))
  failed_world w a k target true = with_stage (with_stage w a (stage.Forgetting k target (forget.Look true))) a stage.Free

  pub failed_at : (w : World V) (a k : ℕ) (target : Option CallId) (last : Bool) → (failed_world w a k target last).stages a ≡ lost_forget k target last
  failed_at w a k target true = put_here (put w.stages a (stage.Forgetting k target (forget.Look true))) a stage.Free
  failed_at w a k target false = put_here w.stages a (stage.Forgetting k target (forget.Look true))

  pub failed_used : (w : World V) (a k : ℕ) (target : Option CallId) (last : Bool) → (failed_world w a k target last).generations a ≡ w.generations a + 0
  failed_used w a k target true = omega arith
  failed_used w a k target false = omega arith

  pub failed_writes : (n : ℕ) (w : World V) (a k : ℕ) (target : Option CallId) (m : ℕ) (y : Word) (last : Bool) → m ≡ code_at w y → Writes n w (failed_world w a k target last) y m
  failed_writes n w a k target m y true found = writes_none n w (failed_world w a k target true) y m found refl refl refl
  failed_writes n w a k target m y false found = writes_none n w (failed_world w a k target false) y m found refl refl refl

  pub failed_cells : (w : World V) (a k : ℕ) (target : Option CallId) (last : Bool) → (failed_world w a k target last).cells ≡ w.cells
  failed_cells w a k target true = refl
  failed_cells w a k target false = refl

  -- a failed exchange, from the step that leads back to the look
  pub failed_ran : (z : Sizes) (a k : ℕ) (target : Option CallId) (s : List (Turn V)) → IsCaller (setting_of z) a → Ran (setting_of z) (history_of z s) (world_of z s) (turn.Step a ∷ []) (failed_world (world_of z s) a k target false) [] → (last : Bool)
      → Ran (setting_of z) (history_of z s) (world_of z s) (if last then turn.Step a ∷ turn.Leave a ∷ [] else turn.Step a ∷ []) (failed_world (world_of z s) a k target last) []
  failed_ran z a k target s caller ran false = ran
  failed_ran z a k target s caller ran true =
      let w : World V = world_of z s in
      let u : World V = failed_world w a k target false in
      ran_then (setting_of z) (history_of z s) w u (failed_world w a k target true) (turn.Step a ∷ []) (turn.Leave a ∷ []) [] [] ran
      (leave_ran (setting_of z) (history_of z s ++ []) u a (stage.Forgetting k target (forget.Look true)) caller tt (put_here w.stages a (stage.Forgetting k target (forget.Look true))))

  own_closes : (a k : ℕ) (target : Option CallId) (c : CallId) → own_events {V = V} a (closes a k target c ∷ []) ≡ closes a k target c ∷ []
  own_closes a k None c = cond-true _ _ _ (eq-eqb a a refl)
  own_closes a k (Some d) c = cond-true _ _ _ (eq-eqb a a refl)

  -- the close of another's call
  close_ran : (z : Sizes) (a k : ℕ) (target : Option CallId) (c : CallId) (seen : LeaderState) (s : List (Turn V)) → IsCaller (setting_of z) a → (world_of z s).stages a ≡ stage.Forgetting k target (forget.Close c seen) → (b : Bool) → is_open_with seen ((world_of z s).calls c.caller) ≡ b
      → Ran (setting_of z) (history_of z s) (world_of z s) (turn.Step a ∷ []) (forgot (world_of z s) a k target c seen b) (forget_one (closes a k target c) b)
  close_ran z a k target c seen s caller at b is = subst (λ t. Ran (setting_of z) (history_of z s) (world_of z s) (turn.Step a ∷ []) (forgot (world_of z s) a k target c seen t) (forget_one (closes a k target c) t)) is
      (step_ran (setting_of z) (history_of z s) (world_of z s) a (stage.Forgetting k target (forget.Close c seen)) caller tt at)

  pub forget_close_move : (z : Sizes) (a k old new : ℕ) (target : Option CallId) (c : CallId) (seen : LeaderState) (last : Bool) (v : View V) → Sits z a v (stage.Forgetting k target (forget.Close c seen)) → IsCallFor z.callers (word.Open seen) → old ≡ call_code (word.Open seen) → new ≡ call_code (word.Forgot seen)
      → Moves z v (call c.caller) (λ n. either (n == old) new n) (lead_turns old a last)
  forget_close_move z a k old new target c seen last v sits lawful old_code new_code = moves_by z a v p (call c.caller) (λ n. either (n == old) new n) (lead_turns old a last) sits (forgetting_alone k target (forget.Close c seen))
      (λ s comes at used n found.
      let w : World V = world_of z s in
      let test : (n == old) ≡ is_open_with seen (w.calls c.caller) = ap (λ m. eqb m old) found ∙ (ap (eqb (call_code (w.calls c.caller))) old_code ∙ call_test (w.calls c.caller) seen (comes.lawful.calls c.caller).0 lawful.0) in
      does s n found at (is_open_with seen (w.calls c.caller)) refl test)
    where
      p : Stage V
      p = stage.Forgetting k target (forget.Close c seen)

      does : (s : List (Turn V)) (n : ℕ) → n ≡ code_at (world_of z s) (call c.caller) → (world_of z s).stages a ≡ p → (b : Bool) → is_open_with seen ((world_of z s).calls c.caller) ≡ b → (n == old) ≡ b
          → AreBy {V = V} (a ∷ []) (lead_turns old a last n) × Does z s (call c.caller) (either (n == old) new n) (lead_turns old a last n)
      does s n found at true is test = subst (λ t. AreBy {V = V} (a ∷ []) (if t then turn.Step a ∷ [] else (if last then turn.Step a ∷ turn.Leave a ∷ [] else turn.Step a ∷ [])) × Does z s (call c.caller) (either t new n) (if t then turn.Step a ∷ [] else (if last then turn.Step a ∷ turn.Leave a ∷ [] else turn.Step a ∷ []))) (sym test)
          (let w : World V = world_of z s in (
            ((λ b e. inl e), tt),
            record {
              world = forgot w a k target c seen true;
              events = closes a k target c ∷ [];
              ran = close_ran z a k target c seen s sits.caller at true is;
              writes = subst (λ m. Writes z.callers w (forgot w a k target c seen true) (call c.caller) m) (sym new_code) (writes_call z.callers w (forgot w a k target c seen true) c.caller (word.Forgot seen) lawful refl refl refl);
              cells = refl;
            },
          ))
      does s n found at false is test = subst (λ t. AreBy {V = V} (a ∷ []) (if t then turn.Step a ∷ [] else (if last then turn.Step a ∷ turn.Leave a ∷ [] else turn.Step a ∷ [])) × Does z s (call c.caller) (either t new n) (if t then turn.Step a ∷ [] else (if last then turn.Step a ∷ turn.Leave a ∷ [] else turn.Step a ∷ []))) (sym test)
          (lost_by V a last, record { world = failed_world (world_of z s) a k target last; events = []; ran = failed_ran z a k target s sits.caller (close_ran z a k target c seen s sits.caller at false is) last; writes = failed_writes z.callers (world_of z s) a k target n (call c.caller) last found; cells = failed_cells (world_of z s) a k target last })

  pub forget_close_won : (z : Sizes) (a k n old : ℕ) (target : Option CallId) (c : CallId) (seen : LeaderState) (last : Bool) (v w : View V) → Sits z a v (stage.Forgetting k target (forget.Close c seen)) → IsCallState (word.Open seen) → old ≡ call_code (word.Open seen) → Found (call c.caller) (lead_turns old a last) z v n w → n ≡ old
      → Goes z a v w (stage.Forgetting k target (forget.LastClear c)) (closes a k target c ∷ []) 0
  forget_close_won z a k n old target c seen last v w sits lawful old_code found won =
      let p : Stage V = stage.Forgetting k target (forget.Close c seen) in
      let m = found.0 in
      let turns_is : lead_turns old a last n ≡ turn.Step a ∷ [] = ap (λ t. if t then turn.Step a ∷ [] else (if last then turn.Step a ∷ turn.Leave a ∷ [] else turn.Step a ∷ [])) (eq-eqb n old won) in
      let o : Made z v w (turn.Step a ∷ []) = record { before = m.before; comes = m.comes; whole = subst (λ q. IsSchedule (setting_of z) (m.before ++ q)) turns_is m.whole; view = m.view ∙ ap (λ q. view_after v (m.before ++ q)) turns_is } in
      let w₀ : World V = world_of z m.before in
      let same : is_open_with seen (w₀.calls c.caller) ≡ true = sym (call_test (w₀.calls c.caller) seen (m.comes.lawful.calls c.caller).0 lawful) ∙ eq-eqb (call_code (w₀.calls c.caller)) (call_code (word.Open seen)) (sym found.1 ∙ (won ∙ old_code)) in
      let alone = forgetting_alone k target (forget.Close c seen) in
      goes_by z a v w p (stage.Forgetting k target (forget.LastClear c)) (turn.Step a ∷ []) (forgot w₀ a k target c seen true) (closes a k target c ∷ []) (closes a k target c ∷ []) 0 sits alone o (close_ran z a k target c seen m.before sits.caller (stands z a v p m.before sits alone m.comes) true same)
      (put_here w₀.stages a (stage.Forgetting k target (forget.LastClear c))) (own_closes a k target c) (omega arith)

  tries_close : (last : Bool) (w : World V) (a k : ℕ) (target : Option CallId) (c : CallId) (seen : LeaderState) → w.stages a ≡ stage.Forgetting k target (forget.Close c seen) → HasWord (tried a w (if last then turn.Step a ∷ turn.Leave a ∷ [] else turn.Step a ∷ [])) (call c.caller)
  tries_close true w a k target c seen at = subst (λ xs. HasWord (xs ++ tried a (turned w (turn.Step a)) (turn.Leave a ∷ [])) (call c.caller)) (sym (cond-true _ _ _ (eq-eqb a a refl) ∙ ap (λ (q : Stage V). tries_in q) at)) (inl refl)
  tries_close false w a k target c seen at = subst (λ xs. HasWord (xs ++ tried a (turned w (turn.Step a)) []) (call c.caller)) (sym (cond-true _ _ _ (eq-eqb a a refl) ∙ ap (λ (q : Stage V). tries_in q) at)) (inl refl)

  pub forget_close_lost : (z : Sizes) (a k n old : ℕ) (target : Option CallId) (c : CallId) (seen : LeaderState) (last : Bool) (v w : View V) → Sits z a v (stage.Forgetting k target (forget.Close c seen)) → IsCallState (word.Open seen) → old ≡ call_code (word.Open seen) → Found (call c.caller) (lead_turns old a last) z v n w → n ≢ old
      → Loses z a (call c.caller) (call_code (word.Open seen)) v w (lost_forget k target last)
  forget_close_lost z a k n old target c seen last v w sits lawful old_code found lost =
      let p : Stage V = stage.Forgetting k target (forget.Close c seen) in
      let m = found.0 in
      let us : List (Turn V) = if last then turn.Step a ∷ turn.Leave a ∷ [] else turn.Step a ∷ [] in
      let turns_is : lead_turns old a last n ≡ us = ap (λ t. if t then turn.Step a ∷ [] else us) (ne_eqb n old lost) in
      let o : Made z v w us = record { before = m.before; comes = m.comes; whole = subst (λ q. IsSchedule (setting_of z) (m.before ++ q)) turns_is m.whole; view = m.view ∙ ap (λ q. view_after v (m.before ++ q)) turns_is } in
      let w₀ : World V = world_of z m.before in
      let differs : is_open_with seen (w₀.calls c.caller) ≡ false = sym (call_test (w₀.calls c.caller) seen (m.comes.lawful.calls c.caller).0 lawful) ∙ ne_eqb (call_code (w₀.calls c.caller)) (call_code (word.Open seen)) (λ e. lost (found.1 ∙ (e ∙ sym old_code))) in
      let alone = forgetting_alone k target (forget.Close c seen) in
      let at = stands z a v p m.before sits alone m.comes in
      let ran = failed_ran z a k target m.before sits.caller (close_ran z a k target c seen m.before sits.caller at false differs) last in
      let between : List (Turn V) = m.comes.later.between in
      let before_is : world_of z m.before ≡ run (world_of z v.known.turns) between = ap (world_of z) m.comes.later.turns ∙ run_append (first_world z.callers z.first) v.known.turns between in
      let spared = m.comes.later.others a (subst (λ q. Has q a) (sym sits.callers) (inl refl)) in
      record {
        goes = goes_by z a v w p (lost_forget k target last) us (failed_world w₀ a k target last) [] [] 0 sits alone o ran (failed_at w₀ a k target last) refl (failed_used w₀ a k target last);
        changed = λ xs has was.
            let one = changed_once a xs (call c.caller) between (world_of z v.known.turns) spared has (λ e. lost (found.1 ∙ (ap (λ (y : World V). code_at y (call c.caller)) before_is ∙ (e ∙ (was ∙ sym old_code))))) in
            let whole = changes_append a xs (world_of z v.known.turns) between us in
            omega (arith, one, whole);
        tries = tried_right a (world_of z v.known.turns) between us (call c.caller) (tries_close last (run (world_of z v.known.turns) between) a k target c seen (ap (λ (y : World V). y.stages a) (sym before_is) ∙ at));
      }

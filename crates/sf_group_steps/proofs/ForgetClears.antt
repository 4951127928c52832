-- the kinds of clear of a Forget
use Rattle.std.proofs.Common.{◌≡◌, ◌≢◌, ℕ, Bool, true, false, ◌==◌, eqb, eq-eqb, ne_eqb, List, [], ◌∷◌, ◌++◌, inl, Option, Some, None, refl, sym, ◌∙◌, ap, subst, arith}
use Rattle.std.specs.Prelude.{if◌then◌else◌}
use prog.Atomic.{either}
use Rattle.std.proofs.lemmas.Bool.{cond-true}
use Rattle.sf_history.specs.declared.call.CallId.{CallId}
use Rattle.sf_history.specs.History.{own_events}
use Rattle.sf_words.specs.KeyWord.{IsKeyState, key_code}
use Rattle.sf_steps_laws.specs.declared.operation.Stage.{Stage}
use Rattle.sf_steps_laws.specs.declared.operation.Stage.TheVariants as stage
use Rattle.sf_steps_laws.specs.declared.operation.ForgetStep.TheVariants as forget
use Rattle.sf_steps_laws.specs.declared.turn.Turn.{Turn}
use Rattle.sf_steps_laws.specs.declared.turn.Turn.TheVariants as turn
use Rattle.sf_steps_laws.specs.World.{World, first_world, with_stage, key_of, cleared_key_of, same_key}
use Rattle.sf_steps_laws.specs.Turns.{cleared, forget_cleared, run}
use Rattle.sf_steps_laws.specs.Events.{clears, forget_one}
use Rattle.sf_steps_laws.specs.Schedules.{IsCaller, IsSchedule}
use Rattle.sf_lists.proofs.Functions.{put_here}
use Rattle.sf_steps_laws.proofs.RightAnswers.{run_append}
use Rattle.sf_group_rows.specs.declared.sizes.Sizes.{Sizes}
use Rattle.sf_group_steps.specs.declared.view.View.{View}
use Rattle.sf_group_steps.specs.Words.{key, code_at, IsKeyFor, Writes}
use Rattle.sf_group_steps.specs.View.{Has, setting_of, AreBy, world_of, history_of}
use Rattle.sf_group_steps.specs.Plays.{Moves, view_after, Made, Found}
use Rattle.sf_group_steps.specs.Stands.{Sits, Goes}
use Rattle.sf_group_steps.specs.Changes.{Loses}
use Rattle.sf_group_steps.specs.Forgets.{lost_forget}
use Rattle.sf_group_steps.proofs.Ways.{Ran, step_ran, writes_none, writes_key, stands, Does, moves_by, goes_by}
use Rattle.sf_group_steps.proofs.Changing.{changes_append, changed_once}
use Rattle.sf_group_steps.proofs.LookSteps.{key_test, lost_by}
use Rattle.sf_group_steps.proofs.LeadSteps.{lead_turns}
use Rattle.sf_group_steps.proofs.ForgetLooks.{forgetting_alone}
use Rattle.sf_group_steps.proofs.ForgetSteps.{failed_world, failed_cells, failed_at, failed_used, failed_writes, failed_ran}

module _ {V : Type 0} where
  own_clears : (a k : ℕ) (target : Option CallId) (c : CallId) → own_events {V = V} a (clears a k target c ∷ []) ≡ clears a k target c ∷ []
  own_clears a k None c = cond-true _ _ _ (eq-eqb a a refl)
  own_clears a k (Some d) c = cond-true _ _ _ (eq-eqb a a refl)

  -- the first clear
  clear_ran : (z : Sizes) (a k : ℕ) (target : Option CallId) (c : CallId) (s : List (Turn V)) → IsCaller (setting_of z) a → (world_of z s).stages a ≡ stage.Forgetting k target (forget.FirstClear c) → (b : Bool) → same_key ((world_of z s).keys k) (key_of c) ≡ b
      → Ran (setting_of z) (history_of z s) (world_of z s) (turn.Step a ∷ []) (forget_cleared (world_of z s) a k target c b) (forget_one (clears a k target c) b)
  clear_ran z a k target c s caller at b is = subst (λ t. Ran (setting_of z) (history_of z s) (world_of z s) (turn.Step a ∷ []) (forget_cleared (world_of z s) a k target c t) (forget_one (clears a k target c) t)) is
      (step_ran (setting_of z) (history_of z s) (world_of z s) a (stage.Forgetting k target (forget.FirstClear c)) caller tt at)

  pub first_clear_move : (z : Sizes) (a k old new : ℕ) (target : Option CallId) (c : CallId) (last : Bool) (v : View V) → Sits z a v (stage.Forgetting k target (forget.FirstClear c)) → IsKeyFor z.callers (key_of c) → old ≡ key_code (key_of c) → new ≡ key_code (cleared_key_of c)
      → Moves z v (key k) (λ n. either (n == old) new n) (lead_turns old a last)
  first_clear_move z a k old new target c last v sits lawful old_code new_code = moves_by z a v p (key k) (λ n. either (n == old) new n) (lead_turns old a last) sits (forgetting_alone k target (forget.FirstClear c))
      (λ s comes at used n found.
      let w : World V = world_of z s in
      let test : (n == old) ≡ same_key (w.keys k) (key_of c) = ap (λ m. eqb m old) found ∙ (ap (eqb (key_code (w.keys k))) old_code ∙ key_test (w.keys k) (key_of c) (comes.lawful.keys k).0 lawful.0) in
      does s n found at (same_key (w.keys k) (key_of c)) refl test)
    where
      p : Stage V
      p = stage.Forgetting k target (forget.FirstClear c)

      does : (s : List (Turn V)) (n : ℕ) → n ≡ code_at (world_of z s) (key k) → (world_of z s).stages a ≡ p → (b : Bool) → same_key ((world_of z s).keys k) (key_of c) ≡ b → (n == old) ≡ b
          → AreBy {V = V} (a ∷ []) (lead_turns old a last n) × Does z s (key k) (either (n == old) new n) (lead_turns old a last n)
      does s n found at true is test = subst (λ t. AreBy {V = V} (a ∷ []) (if t then turn.Step a ∷ [] else (if last then turn.Step a ∷ turn.Leave a ∷ [] else turn.Step a ∷ [])) × Does z s (key k) (either t new n) (if t then turn.Step a ∷ [] else (if last then turn.Step a ∷ turn.Leave a ∷ [] else turn.Step a ∷ []))) (sym test)
          (let w : World V = world_of z s in (
            ((λ b e. inl e), tt),
            record {
              world = forget_cleared w a k target c true;
              events = clears a k target c ∷ [];
              ran = clear_ran z a k target c s sits.caller at true is;
              writes = subst (λ m. Writes z.callers w (forget_cleared w a k target c true) (key k) m) (sym new_code) (writes_key z.callers w (forget_cleared w a k target c true) k (cleared_key_of c) lawful refl refl refl);
              cells = refl;
            },
          ))
      does s n found at false is test = subst (λ t. AreBy {V = V} (a ∷ []) (if t then turn.Step a ∷ [] else (if last then turn.Step a ∷ turn.Leave a ∷ [] else turn.Step a ∷ [])) × Does z s (key k) (either t new n) (if t then turn.Step a ∷ [] else (if last then turn.Step a ∷ turn.Leave a ∷ [] else turn.Step a ∷ []))) (sym test)
          (lost_by V a last, record { world = failed_world (world_of z s) a k target last; events = []; ran = failed_ran z a k target s sits.caller (clear_ran z a k target c s sits.caller at false is) last; writes = failed_writes z.callers (world_of z s) a k target n (key k) last found; cells = failed_cells (world_of z s) a k target last })

  pub first_clear_won : (z : Sizes) (a k n old : ℕ) (target : Option CallId) (c : CallId) (last : Bool) (v w : View V) → Sits z a v (stage.Forgetting k target (forget.FirstClear c)) → IsKeyState (key_of c) → old ≡ key_code (key_of c) → Found (key k) (lead_turns old a last) z v n w → n ≡ old
      → Goes z a v w stage.Free (clears a k target c ∷ []) 0
  first_clear_won z a k n old target c last v w sits lawful old_code found won =
      let p : Stage V = stage.Forgetting k target (forget.FirstClear c) in
      let m = found.0 in
      let turns_is : lead_turns old a last n ≡ turn.Step a ∷ [] = ap (λ t. if t then turn.Step a ∷ [] else (if last then turn.Step a ∷ turn.Leave a ∷ [] else turn.Step a ∷ [])) (eq-eqb n old won) in
      let o : Made z v w (turn.Step a ∷ []) = record { before = m.before; comes = m.comes; whole = subst (λ q. IsSchedule (setting_of z) (m.before ++ q)) turns_is m.whole; view = m.view ∙ ap (λ q. view_after v (m.before ++ q)) turns_is } in
      let w₀ : World V = world_of z m.before in
      let same : same_key (w₀.keys k) (key_of c) ≡ true = sym (key_test (w₀.keys k) (key_of c) (m.comes.lawful.keys k).0 lawful) ∙ eq-eqb (key_code (w₀.keys k)) (key_code (key_of c)) (sym found.1 ∙ (won ∙ old_code)) in
      let alone = forgetting_alone k target (forget.FirstClear c) in
      goes_by z a v w p stage.Free (turn.Step a ∷ []) (forget_cleared w₀ a k target c true) (clears a k target c ∷ []) (clears a k target c ∷ []) 0 sits alone o (clear_ran z a k target c m.before sits.caller (stands z a v p m.before sits alone m.comes) true same)
      (put_here w₀.stages a stage.Free) (own_clears a k target c) (omega arith)

  pub first_clear_lost : (z : Sizes) (a k n old : ℕ) (target : Option CallId) (c : CallId) (last : Bool) (v w : View V) → Sits z a v (stage.Forgetting k target (forget.FirstClear c)) → IsKeyState (key_of c) → old ≡ key_code (key_of c) → Found (key k) (lead_turns old a last) z v n w → n ≢ old
      → Loses z a (key k) (key_code (key_of c)) v w (lost_forget k target last)
  first_clear_lost z a k n old target c last v w sits lawful old_code found lost =
      let p : Stage V = stage.Forgetting k target (forget.FirstClear c) in
      let m = found.0 in
      let us : List (Turn V) = if last then turn.Step a ∷ turn.Leave a ∷ [] else turn.Step a ∷ [] in
      let turns_is : lead_turns old a last n ≡ us = ap (λ t. if t then turn.Step a ∷ [] else us) (ne_eqb n old lost) in
      let o : Made z v w us = record { before = m.before; comes = m.comes; whole = subst (λ q. IsSchedule (setting_of z) (m.before ++ q)) turns_is m.whole; view = m.view ∙ ap (λ q. view_after v (m.before ++ q)) turns_is } in
      let w₀ : World V = world_of z m.before in
      let differs : same_key (w₀.keys k) (key_of c) ≡ false = sym (key_test (w₀.keys k) (key_of c) (m.comes.lawful.keys k).0 lawful) ∙ ne_eqb (key_code (w₀.keys k)) (key_code (key_of c)) (λ e. lost (found.1 ∙ (e ∙ sym old_code))) in
      let alone = forgetting_alone k target (forget.FirstClear c) in
      let ran = failed_ran z a k target m.before sits.caller (clear_ran z a k target c m.before sits.caller (stands z a v p m.before sits alone m.comes) false differs) last in
      let between : List (Turn V) = m.comes.later.between in
      let before_is : world_of z m.before ≡ run (world_of z v.known.turns) between = ap (world_of z) m.comes.later.turns ∙ run_append (first_world z.callers z.first) v.known.turns between in
      let spared = m.comes.later.others a (subst (λ q. Has q a) (sym sits.callers) (inl refl)) in
      record {
        goes = goes_by z a v w p (lost_forget k target last) us (failed_world w₀ a k target last) [] [] 0 sits alone o ran (failed_at w₀ a k target last) refl (failed_used w₀ a k target last);
        changed = λ xs has was.
            let one = changed_once a xs (key k) between (world_of z v.known.turns) spared has (λ e. lost (found.1 ∙ (ap (λ (y : World V). code_at y (key k)) before_is ∙ (e ∙ (was ∙ sym old_code))))) in
            let whole = changes_append a xs (world_of z v.known.turns) between us in
            omega (arith, one, whole);
        tries = tt;
      }

  -- the last clear, which ends the forget whether it wins or not
  last_ran : (z : Sizes) (a k : ℕ) (target : Option CallId) (c : CallId) (s : List (Turn V)) → IsCaller (setting_of z) a → (world_of z s).stages a ≡ stage.Forgetting k target (forget.LastClear c) → (b : Bool) → same_key ((world_of z s).keys k) (key_of c) ≡ b
      → Ran (setting_of z) (history_of z s) (world_of z s) (turn.Step a ∷ []) (with_stage (cleared (world_of z s) k c b) a stage.Free) []
  last_ran z a k target c s caller at b is = subst (λ t. Ran (setting_of z) (history_of z s) (world_of z s) (turn.Step a ∷ []) (with_stage (cleared (world_of z s) k c t) a stage.Free) []) is
      (step_ran (setting_of z) (history_of z s) (world_of z s) a (stage.Forgetting k target (forget.LastClear c)) caller tt at)

  pub last_clear_move : (z : Sizes) (a k old new : ℕ) (target : Option CallId) (c : CallId) (v : View V) → Sits z a v (stage.Forgetting k target (forget.LastClear c)) → IsKeyFor z.callers (key_of c) → old ≡ key_code (key_of c) → new ≡ key_code (cleared_key_of c)
      → Moves z v (key k) (λ n. either (n == old) new n) (λ _. turn.Step a ∷ [])
  last_clear_move z a k old new target c v sits lawful old_code new_code = moves_by z a v p (key k) (λ n. either (n == old) new n) (λ _. turn.Step a ∷ []) sits (forgetting_alone k target (forget.LastClear c))
      (λ s comes at used n found.
      let w : World V = world_of z s in
      let test : (n == old) ≡ same_key (w.keys k) (key_of c) = ap (λ m. eqb m old) found ∙ (ap (eqb (key_code (w.keys k))) old_code ∙ key_test (w.keys k) (key_of c) (comes.lawful.keys k).0 lawful.0) in
      (((λ b e. inl e), tt), does s n found at (same_key (w.keys k) (key_of c)) refl test))
    where
      p : Stage V
      p = stage.Forgetting k target (forget.LastClear c)

      does : (s : List (Turn V)) (n : ℕ) → n ≡ code_at (world_of z s) (key k) → (world_of z s).stages a ≡ p → (b : Bool) → same_key ((world_of z s).keys k) (key_of c) ≡ b → (n == old) ≡ b → Does z s (key k) (either (n == old) new n) (turn.Step a ∷ [])
      does s n found at true is test = subst (λ t. Does z s (key k) (either t new n) (turn.Step a ∷ [])) (sym test)
          (let w : World V = world_of z s in
          let u : World V = with_stage (cleared w k c true) a stage.Free in
          record { world = u; events = []; ran = last_ran z a k target c s sits.caller at true is; writes = subst (λ m. Writes z.callers w u (key k) m) (sym new_code) (writes_key z.callers w u k (cleared_key_of c) lawful refl refl refl); cells = refl })
      does s n found at false is test = subst (λ t. Does z s (key k) (either t new n) (turn.Step a ∷ [])) (sym test)
          (let w : World V = world_of z s in
          let u : World V = with_stage (cleared w k c false) a stage.Free in
          record { world = u; events = []; ran = last_ran z a k target c s sits.caller at false is; writes = writes_none z.callers w u (key k) n found refl refl refl; cells = refl })

  pub last_clear_told : (z : Sizes) (a k n : ℕ) (target : Option CallId) (c : CallId) (v w : View V) → Sits z a v (stage.Forgetting k target (forget.LastClear c)) → Found (key k) (λ _. turn.Step a ∷ []) z v n w → Goes z a v w stage.Free [] 0
  last_clear_told z a k n target c v w sits found = at (same_key (w₀.keys k) (key_of c)) refl
    where
      w₀ : World V
      w₀ = world_of z found.0.before

      p : Stage V
      p = stage.Forgetting k target (forget.LastClear c)

      at : (b : Bool) → same_key (w₀.keys k) (key_of c) ≡ b → Goes z a v w stage.Free [] 0
      at true is = goes_by z a v w p stage.Free (turn.Step a ∷ []) (with_stage (cleared w₀ k c true) a stage.Free) [] [] 0 sits (forgetting_alone k target (forget.LastClear c)) found.0
          (last_ran z a k target c found.0.before sits.caller (stands z a v p found.0.before sits (forgetting_alone k target (forget.LastClear c)) found.0.comes) true is) (put_here w₀.stages a stage.Free) refl (omega arith)
      at false is = goes_by z a v w p stage.Free (turn.Step a ∷ []) (with_stage (cleared w₀ k c false) a stage.Free) [] [] 0 sits (forgetting_alone k target (forget.LastClear c)) found.0
          (last_ran z a k target c found.0.before sits.caller (stands z a v p found.0.before sits (forgetting_alone k target (forget.LastClear c)) found.0.comes) false is) (put_here w₀.stages a stage.Free) refl (omega arith)

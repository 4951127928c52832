-- the kinds of step of an asking that joins: what each may do, and what its caller then knows
use Rattle.std.proofs.Common.{◌≡◌, ◌≢◌, ℕ, ◌+◌, Bool, true, false, ◌==◌, eqb, eq-eqb, ne_eqb, List, [], ◌∷◌, ◌++◌, inl, Option, Some, None, refl, sym, ◌∙◌, ap, subst, arith}
use Rattle.std.specs.Prelude.{if◌then◌else◌}
use mathlib.Core.Logic.{dite}
use native.Mathlib.Decide.{ℕ_discrete}
use prog.Atomic.{either}
use Rattle.std.proofs.lemmas.Bool.{cond-true}
use Rattle.sf_history.specs.declared.call.CallId.{CallId}
use Rattle.sf_history.specs.declared.event.Event.{Event}
use Rattle.sf_history.specs.declared.event.Event.TheVariants.{Enter}
use Rattle.sf_words.specs.declared.call_word.LeaderState.{LeaderState}
use Rattle.sf_words.specs.declared.call_word.CallState.{CallState}
use Rattle.sf_words.specs.declared.call_word.CallState.TheVariants as word
use Rattle.sf_words.specs.CallWord.{IsCallState, call_code}
use Rattle.sf_words.specs.NextWord.{next_code}
use Rattle.sf_words.proofs.CallCodes.{call_code_one}
use Rattle.sf_steps_laws.specs.declared.operation.Stage.{Stage}
use Rattle.sf_steps_laws.specs.declared.operation.Stage.TheVariants as stage
use Rattle.sf_steps_laws.specs.declared.operation.AskStep.TheVariants as ask
use Rattle.sf_steps_laws.specs.declared.turn.Turn.{Turn}
use Rattle.sf_steps_laws.specs.declared.turn.Turn.TheVariants as turn
use Rattle.sf_steps_laws.specs.World.{World, first_world, with_stage, is_open_with, open_in, next_id}
use Rattle.sf_lists.specs.Functions.{put}
use Rattle.sf_steps_laws.specs.Askings.{with_top, after_enter, entered, ask_stepped}
use Rattle.sf_steps_laws.specs.Turns.{turned, run}
use Rattle.sf_steps_laws.specs.Events.{enter_events}
use Rattle.sf_steps_laws.specs.Schedules.{IsCaller, IsSchedule}
use Rattle.sf_lists.proofs.Functions.{put_here}
use Rattle.sf_steps_laws.proofs.Compared.{open_with_is, open_in_is}
use Rattle.sf_steps_laws.proofs.OwnLeads.{open_self}
use Rattle.sf_steps_laws.proofs.Sound.{unsettled, Good, Sound, live_open}
use Rattle.sf_steps_laws.proofs.RightAnswers.{run_append, always}
use Rattle.sf_group_rows.specs.declared.sizes.Sizes.{Sizes}
use Rattle.sf_group_steps.specs.declared.view.View.{View}
use Rattle.sf_group_steps.specs.Words.{call, next, HasWord, code_at, IsCallFor, IsNextFor, Writes}
use Rattle.sf_group_steps.specs.View.{Has, setting_of, AreBy, world_of, history_of}
use Rattle.sf_group_steps.specs.Plays.{Moves, view_after, Made, Found}
use Rattle.sf_history.specs.History.{own_events}
use Rattle.sf_group_steps.specs.Stands.{Sits, next_in, Goes}
use Rattle.sf_group_steps.specs.Changes.{tries_in, tried, Stays, Loses}
use Rattle.sf_group_steps.specs.Attempts.{lost_stage}
use Rattle.sf_group_steps.proofs.Ways.{Ran, ran_then, step_ran, leave_ran, writes_none, writes_call, writes_next, stands, uses, Does, moves_by, goes_by}
use Rattle.sf_group_steps.proofs.Changing.{changes_append, changed_once, tried_right}
use Rattle.sf_group_steps.proofs.LookSteps.{asking_alone, stays_by, alike_call, alike_next, lost_by}
use Rattle.sf_group_steps.proofs.LeadSteps.{lead_turns, lost_world, lost_cells, lost_at, lost_used}

pub call_test : (x : CallState) (seen : LeaderState) → IsCallState x → IsCallState (word.Open seen) → eqb (call_code x) (call_code (word.Open seen)) ≡ is_open_with seen x
call_test x seen p q = dite (ℕ_discrete (call_code x) (call_code (word.Open seen)))
    (λ e. eq-eqb (call_code x) (call_code (word.Open seen)) e ∙ sym (subst (λ (s : CallState). is_open_with seen s ≡ true) (sym (call_code_one x (word.Open seen) p q e)) (open_self seen)))
    (λ n. ne_eqb (call_code x) (call_code (word.Open seen)) n ∙ sym (differ (is_open_with seen x) refl n))
  where
    differ : (b : Bool) → is_open_with seen x ≡ b → call_code x ≢ call_code (word.Open seen) → is_open_with seen x ≡ false
    differ true is n = absurd (n (ap call_code (open_with_is seen x is)))
    differ false is n = is

module _ {V : Type 0} where
  -- a call word that a peek finds open is not the caller's own
  pub opened_other : (z : Sizes) (a k : ℕ) (c : CallId) (v w : View V) (x : CallState) (seen : LeaderState) → Sits z a v (stage.Asking k None (ask.Peek c)) → (m : Made z v w (turn.Step a ∷ [])) → x ≡ (world_of z m.before).calls c.caller
      → open_in c.generation x ≡ Some seen → c.caller ≢ a
  opened_other z a k c v w x seen sits m is opened same =
      let p : Stage V = stage.Asking k None (ask.Peek c) in
      let s : List (Turn V) = m.before in
      let w₀ : World V = world_of z s in
      let h : List (Event ℕ V) = history_of z s in
      let at = stands z a v p s sits (asking_alone k None (ask.Peek c)) m.comes in
      let sound : Sound z.first h w₀ = always (setting_of z) s m.comes.schedule in
      let good : Good h w₀ a p = subst (λ (q : Stage V). Good h w₀ a q) at (sound.callers a).good in
      let parts = open_in_is c.generation x seen opened in
      let open_word : w₀.calls c.caller ≡ word.Open seen = sym is ∙ parts.0 in
      let held = sound.held k c (live_open z.first h w₀ k c seen sound good.1 open_word parts.1) in
      let clash : ◌≡◌ {A = Option (ℕ × ℕ)} None (Some (k, c.generation)) = sym (ap unsettled at) ∙ (ap (λ i. unsettled (w₀.stages i)) (sym same) ∙ held.stage) in
      cc

  -- make the own word ready to join
  pub ready_join_move : (z : Sizes) (a k g new : ℕ) (c : CallId) (seen : LeaderState) (v : View V) → Sits z a v (stage.Asking k None (ask.ReadyJoin c seen)) → next_in z v a ≡ g → IsCallFor z.callers (word.Listed g) → new ≡ call_code (word.Listed g)
      → Moves z v (call a) (λ _. new) (λ _. turn.Step a ∷ [])
  ready_join_move z a k g new c seen v sits given lawful code = moves_by z a v (stage.Asking k None (ask.ReadyJoin c seen)) (call a) (λ _. new) (λ _. turn.Step a ∷ []) sits (asking_alone k None (ask.ReadyJoin c seen))
      (λ s comes at used n found.
      let w : World V = world_of z s in
      let u : World V = ask_stepped w a k None (ask.ReadyJoin c seen) in
      let same : word.Listed g ≡ word.Listed (w.generations a) = ap (λ i. word.Listed i) (sym given ∙ sym used) in (
        ((λ b e. inl e), tt),
        record {
          world = u;
          events = [];
          ran = step_ran (setting_of z) (history_of z s) w a (stage.Asking k None (ask.ReadyJoin c seen)) sits.caller tt at;
          writes = subst (λ m. Writes z.callers w u (call a) m) (sym (code ∙ ap call_code same)) (writes_call z.callers w u a (word.Listed (w.generations a)) (subst (IsCallFor z.callers) same lawful) refl refl refl);
          cells = refl;
        },
      ))

  pub ready_join_told : (z : Sizes) (a k : ℕ) (c : CallId) (seen : LeaderState) (v w : View V) → Sits z a v (stage.Asking k None (ask.ReadyJoin c seen)) → Made z v w (turn.Step a ∷ []) → Stays z a v w (stage.Asking k None (ask.Link c seen))
  ready_join_told z a k c seen v w sits m =
      let p : Stage V = stage.Asking k None (ask.ReadyJoin c seen) in
      let w₀ : World V = world_of z m.before in
      let u : World V = ask_stepped w₀ a k None (ask.ReadyJoin c seen) in
      let alone = asking_alone k None (ask.ReadyJoin c seen) in
      stays_by z a v w p (stage.Asking k None (ask.Link c seen)) (turn.Step a ∷ []) u sits alone m (step_ran (setting_of z) (history_of z m.before) w₀ a p sits.caller tt (stands z a v p m.before sits alone m.comes))
      (put_here w₀.stages a (stage.Asking k None (ask.Link c seen))) refl (alike_call w₀ u a (word.Listed (w₀.generations a)) refl refl refl)

  -- point the own next word to the top that the peek found
  pub link_move : (z : Sizes) (a k new : ℕ) (c : CallId) (seen : LeaderState) (v : View V) → Sits z a v (stage.Asking k None (ask.Link c seen)) → IsNextFor z.callers seen.top → new ≡ next_code seen.top → Moves z v (next a) (λ _. new) (λ _. turn.Step a ∷ [])
  link_move z a k new c seen v sits lawful code = moves_by z a v (stage.Asking k None (ask.Link c seen)) (next a) (λ _. new) (λ _. turn.Step a ∷ []) sits (asking_alone k None (ask.Link c seen))
      (λ s comes at used n found.
      let w : World V = world_of z s in
      let u : World V = ask_stepped w a k None (ask.Link c seen) in (
        ((λ b e. inl e), tt),
        record {
          world = u;
          events = [];
          ran = step_ran (setting_of z) (history_of z s) w a (stage.Asking k None (ask.Link c seen)) sits.caller tt at;
          writes = subst (λ m. Writes z.callers w u (next a) m) (sym code) (writes_next z.callers w u a seen.top lawful refl refl refl);
          cells = refl;
        },
      ))

  pub link_told : (z : Sizes) (a k : ℕ) (c : CallId) (seen : LeaderState) (v w : View V) → Sits z a v (stage.Asking k None (ask.Link c seen)) → Made z v w (turn.Step a ∷ []) → Stays z a v w (stage.Asking k None (ask.Enter c seen))
  link_told z a k c seen v w sits m =
      let p : Stage V = stage.Asking k None (ask.Link c seen) in
      let w₀ : World V = world_of z m.before in
      let u : World V = ask_stepped w₀ a k None (ask.Link c seen) in
      let alone = asking_alone k None (ask.Link c seen) in
      stays_by z a v w p (stage.Asking k None (ask.Enter c seen)) (turn.Step a ∷ []) u sits alone m (step_ran (setting_of z) (history_of z m.before) w₀ a p sits.caller tt (stands z a v p m.before sits alone m.comes))
      (put_here w₀.stages a (stage.Asking k None (ask.Enter c seen))) refl (alike_next w₀ u a seen.top refl refl refl)

  tries_first : (w : World V) (a k : ℕ) (c : CallId) (seen : LeaderState) (ts : List (Turn V)) → w.stages a ≡ stage.Asking k None (ask.Enter c seen) → HasWord (tried a w (turn.Step a ∷ ts)) (call c.caller)
  tries_first w a k c seen ts at = subst (λ xs. HasWord (xs ++ tried a (turned w (turn.Step a)) ts) (call c.caller))
      (sym (cond-true _ _ _ (eq-eqb a a refl) ∙ ap (λ (q : Stage V). tries_in q) at)) (inl refl)

  -- exchange the leader's call word that was seen
  enter_ran : (z : Sizes) (a k : ℕ) (c : CallId) (seen : LeaderState) (s : List (Turn V)) → IsCaller (setting_of z) a → (world_of z s).stages a ≡ stage.Asking k None (ask.Enter c seen) → (b : Bool) → is_open_with seen ((world_of z s).calls c.caller) ≡ b
      → Ran (setting_of z) (history_of z s) (world_of z s) (turn.Step a ∷ []) (after_enter (world_of z s) a k None c seen b) (enter_events (world_of z s) k c a b)
  enter_ran z a k c seen s caller at b is = subst (λ t. Ran (setting_of z) (history_of z s) (world_of z s) (turn.Step a ∷ []) (after_enter (world_of z s) a k None c seen t) (enter_events (world_of z s) k c a t)) is
      (step_ran (setting_of z) (history_of z s) (world_of z s) a (stage.Asking k None (ask.Enter c seen)) caller tt at)

  lost_enter_ran : (z : Sizes) (a k : ℕ) (c : CallId) (seen : LeaderState) (s : List (Turn V)) → IsCaller (setting_of z) a → (world_of z s).stages a ≡ stage.Asking k None (ask.Enter c seen) → is_open_with seen ((world_of z s).calls c.caller) ≡ false → (last : Bool)
      → Ran (setting_of z) (history_of z s) (world_of z s) (if last then turn.Step a ∷ turn.Leave a ∷ [] else turn.Step a ∷ []) (lost_world (world_of z s) a k last) []
  lost_enter_ran z a k c seen s caller at is false = enter_ran z a k c seen s caller at false is
  lost_enter_ran z a k c seen s caller at is true =
      let w : World V = world_of z s in
      let u : World V = with_stage w a (stage.Asking k None (ask.Look true)) in
      ran_then (setting_of z) (history_of z s) w u (lost_world w a k true) (turn.Step a ∷ []) (turn.Leave a ∷ []) [] [] (enter_ran z a k c seen s caller at false is)
      (leave_ran (setting_of z) (history_of z s ++ []) u a (stage.Asking k None (ask.Look true)) caller tt (put_here w.stages a (stage.Asking k None (ask.Look true))))

  lost_call_writes : (n : ℕ) (w : World V) (a k l m : ℕ) (last : Bool) → m ≡ code_at w (call l) → Writes n w (lost_world w a k last) (call l) m
  lost_call_writes n w a k l m true found = writes_none n w (lost_world w a k true) (call l) m found refl refl refl
  lost_call_writes n w a k l m false found = writes_none n w (lost_world w a k false) (call l) m found refl refl refl

  pub enter_move : (z : Sizes) (a k old new : ℕ) (c : CallId) (seen : LeaderState) (last : Bool) (v : View V) → Sits z a v (stage.Asking k None (ask.Enter c seen)) → IsCallState (word.Open seen) → IsCallFor z.callers (word.Open (with_top seen a)) → old ≡ call_code (word.Open seen) → new ≡ call_code (word.Open (with_top seen a))
      → Moves z v (call c.caller) (λ n. either (n == old) new n) (lead_turns old a last)
  enter_move z a k old new c seen last v sits seen_lawful lawful old_code new_code = moves_by z a v p (call c.caller) (λ n. either (n == old) new n) (lead_turns old a last) sits (asking_alone k None (ask.Enter c seen))
      (λ s comes at used n found.
      let w : World V = world_of z s in
      let test : (n == old) ≡ is_open_with seen (w.calls c.caller) = ap (λ m. eqb m old) found ∙ (ap (eqb (call_code (w.calls c.caller))) old_code ∙ call_test (w.calls c.caller) seen (comes.lawful.calls c.caller).0 seen_lawful) in
      does s n found at (is_open_with seen (w.calls c.caller)) refl test)
    where
      p : Stage V
      p = stage.Asking k None (ask.Enter c seen)

      does : (s : List (Turn V)) (n : ℕ) → n ≡ code_at (world_of z s) (call c.caller) → (world_of z s).stages a ≡ p → (b : Bool) → is_open_with seen ((world_of z s).calls c.caller) ≡ b → (n == old) ≡ b
          → AreBy {V = V} (a ∷ []) (lead_turns old a last n) × Does z s (call c.caller) (either (n == old) new n) (lead_turns old a last n)
      does s n found at true is test = subst (λ t. AreBy {V = V} (a ∷ []) (if t then turn.Step a ∷ [] else (if last then turn.Step a ∷ turn.Leave a ∷ [] else turn.Step a ∷ [])) × Does z s (call c.caller) (either t new n) (if t then turn.Step a ∷ [] else (if last then turn.Step a ∷ turn.Leave a ∷ [] else turn.Step a ∷ []))) (sym test)
          (let w : World V = world_of z s in (
            ((λ b e. inl e), tt),
            record {
              world = entered w a k c seen a;
              events = Enter a k c (next_id w a) ∷ [];
              ran = enter_ran z a k c seen s sits.caller at true is;
              writes = subst (λ m. Writes z.callers w (entered w a k c seen a) (call c.caller) m) (sym new_code) (writes_call z.callers w (entered w a k c seen a) c.caller (word.Open (with_top seen a)) lawful refl refl refl);
              cells = refl;
            },
          ))
      does s n found at false is test = subst (λ t. AreBy {V = V} (a ∷ []) (if t then turn.Step a ∷ [] else (if last then turn.Step a ∷ turn.Leave a ∷ [] else turn.Step a ∷ [])) × Does z s (call c.caller) (either t new n) (if t then turn.Step a ∷ [] else (if last then turn.Step a ∷ turn.Leave a ∷ [] else turn.Step a ∷ []))) (sym test)
          (lost_by V a last, record { world = lost_world (world_of z s) a k last; events = []; ran = lost_enter_ran z a k c seen s sits.caller at is last; writes = lost_call_writes z.callers (world_of z s) a k c.caller n last found; cells = lost_cells (world_of z s) a k last })

  pub enter_won : (z : Sizes) (a k g n old : ℕ) (c : CallId) (seen : LeaderState) (last : Bool) (v w : View V) → Sits z a v (stage.Asking k None (ask.Enter c seen)) → next_in z v a ≡ g → IsCallState (word.Open seen) → old ≡ call_code (word.Open seen) → Found (call c.caller) (lead_turns old a last) z v n w → n ≡ old
      → Goes z a v w (stage.Holding k g c) (Enter a k c (record { caller = a; generation = g }) ∷ []) 1
  enter_won z a k g n old c seen last v w sits given seen_lawful old_code found won =
      let p : Stage V = stage.Asking k None (ask.Enter c seen) in
      let m = found.0 in
      let turns_is : lead_turns old a last n ≡ turn.Step a ∷ [] = ap (λ t. if t then turn.Step a ∷ [] else (if last then turn.Step a ∷ turn.Leave a ∷ [] else turn.Step a ∷ [])) (eq-eqb n old won) in
      let o : Made z v w (turn.Step a ∷ []) = record { before = m.before; comes = m.comes; whole = subst (λ q. IsSchedule (setting_of z) (m.before ++ q)) turns_is m.whole; view = m.view ∙ ap (λ q. view_after v (m.before ++ q)) turns_is } in
      let w₀ : World V = world_of z m.before in
      let same : is_open_with seen (w₀.calls c.caller) ≡ true = sym (call_test (w₀.calls c.caller) seen (m.comes.lawful.calls c.caller).0 seen_lawful) ∙ eq-eqb (call_code (w₀.calls c.caller)) (call_code (word.Open seen)) (sym found.1 ∙ (won ∙ old_code)) in
      let alone = asking_alone k None (ask.Enter c seen) in
      let used : w₀.generations a ≡ g = uses z a v p m.before sits alone m.comes ∙ given in
      let ran = enter_ran z a k c seen m.before sits.caller (stands z a v p m.before sits alone m.comes) true same in
      let own : own_events {V = V} a (Enter a k c (next_id w₀ a) ∷ []) ≡ Enter a k c (record { caller = a; generation = g }) ∷ [] =
      cond-true _ _ _ (eq-eqb a a refl) ∙ ap (λ i. Enter a k c (record { caller = a; generation = i }) ∷ []) used in
      goes_by z a v w p (stage.Holding k g c) (turn.Step a ∷ []) (entered w₀ a k c seen a) (Enter a k c (next_id w₀ a) ∷ []) (Enter a k c (record { caller = a; generation = g }) ∷ []) 1 sits alone o ran
      (put_here (put w₀.stages a stage.Free) a (stage.Holding k (w₀.generations a) c) ∙ ap (λ i. stage.Holding k i c) used) own (put_here w₀.generations a (w₀.generations a + 1))

  -- the exchange tries the call's word
  tries_enter : (last : Bool) (w : World V) (a k : ℕ) (c : CallId) (seen : LeaderState) → w.stages a ≡ stage.Asking k None (ask.Enter c seen) → HasWord (tried a w (if last then turn.Step a ∷ turn.Leave a ∷ [] else turn.Step a ∷ [])) (call c.caller)
  tries_enter true w a k c seen at = tries_first w a k c seen (turn.Leave a ∷ []) at
  tries_enter false w a k c seen at = tries_first w a k c seen [] at

  pub enter_lost : (z : Sizes) (a k n old : ℕ) (c : CallId) (seen : LeaderState) (last : Bool) (v w : View V) → Sits z a v (stage.Asking k None (ask.Enter c seen)) → IsCallState (word.Open seen) → old ≡ call_code (word.Open seen) → Found (call c.caller) (lead_turns old a last) z v n w → n ≢ old
      → Loses z a (call c.caller) (call_code (word.Open seen)) v w (lost_stage k last)
  enter_lost z a k n old c seen last v w sits seen_lawful old_code found lost =
      let p : Stage V = stage.Asking k None (ask.Enter c seen) in
      let m = found.0 in
      let us : List (Turn V) = if last then turn.Step a ∷ turn.Leave a ∷ [] else turn.Step a ∷ [] in
      let turns_is : lead_turns old a last n ≡ us = ap (λ t. if t then turn.Step a ∷ [] else us) (ne_eqb n old lost) in
      let o : Made z v w us = record { before = m.before; comes = m.comes; whole = subst (λ q. IsSchedule (setting_of z) (m.before ++ q)) turns_is m.whole; view = m.view ∙ ap (λ q. view_after v (m.before ++ q)) turns_is } in
      let w₀ : World V = world_of z m.before in
      let differs : is_open_with seen (w₀.calls c.caller) ≡ false = sym (call_test (w₀.calls c.caller) seen (m.comes.lawful.calls c.caller).0 seen_lawful) ∙ ne_eqb (call_code (w₀.calls c.caller)) (call_code (word.Open seen)) (λ e. lost (found.1 ∙ (e ∙ sym old_code))) in
      let alone = asking_alone k None (ask.Enter c seen) in
      let ran = lost_enter_ran z a k c seen m.before sits.caller (stands z a v p m.before sits alone m.comes) differs last in
      let between : List (Turn V) = m.comes.later.between in
      let before_is : world_of z m.before ≡ run (world_of z v.known.turns) between = ap (world_of z) m.comes.later.turns ∙ run_append (first_world z.callers z.first) v.known.turns between in
      let spared = m.comes.later.others a (subst (λ q. Has q a) (sym sits.callers) (inl refl)) in
      record {
        goes = goes_by z a v w p (lost_stage k last) us (lost_world w₀ a k last) [] [] 0 sits alone o ran (lost_at w₀ a k last) refl (lost_used w₀ a k last);
        changed = λ xs has was.
            let one = changed_once a xs (call c.caller) between (world_of z v.known.turns) spared has (λ e. lost (found.1 ∙ (ap (λ (y : World V). code_at y (call c.caller)) before_is ∙ (e ∙ (was ∙ sym old_code))))) in
            let whole = changes_append a xs (world_of z v.known.turns) between us in
            omega (arith, one, whole);
        tries = tried_right a (world_of z v.known.turns) between us (call c.caller)
            (tries_enter last (run (world_of z v.known.turns) between) a k c seen (ap (λ (y : World V). y.stages a) (sym before_is) ∙ stands z a v p m.before sits alone m.comes));
      }

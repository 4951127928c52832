-- the kinds of step of an asking whose second joins
use Rattle.std.proofs.Common.{◌≡◌, ◌≢◌, ℕ, ◌+◌, Bool, true, false, ◌==◌, eqb, eq-eqb, ne_eqb, List, [], ◌∷◌, ◌++◌, inl, Some, refl, sym, ◌∙◌, ap, subst, arith}
use prog.Atomic.{either}
use Rattle.std.proofs.lemmas.Bool.{cond-true, cond-false}
use Rattle.sf_history.specs.declared.call.CallId.{CallId}
use Rattle.sf_history.specs.declared.event.Event.{Event}
use Rattle.sf_history.specs.declared.event.Event.TheVariants.{Enter}
use Rattle.sf_history.specs.History.{own_events}
use Rattle.sf_words.specs.declared.call_word.LeaderState.{LeaderState}
use Rattle.sf_words.specs.declared.call_word.CallState.TheVariants as word
use Rattle.sf_words.specs.CallWord.{IsCallState, call_code}
use Rattle.sf_words.specs.NextWord.{next_code}
use Rattle.sf_steps_laws.specs.declared.operation.Stage.{Stage}
use Rattle.sf_steps_laws.specs.declared.operation.Stage.TheVariants as stage
use Rattle.sf_steps_laws.specs.declared.operation.AskStep.TheVariants as ask
use Rattle.sf_steps_laws.specs.declared.turn.Turn.{Turn}
use Rattle.sf_steps_laws.specs.declared.turn.Turn.TheVariants as turn
use Rattle.sf_steps_laws.specs.World.{World, is_open_with, next_id}
use Rattle.sf_lists.specs.Functions.{put}
use Rattle.sf_steps_laws.specs.Askings.{with_top, after_enter, entered, ask_stepped}
use Rattle.sf_steps_laws.specs.Turns.{turned, run}
use Rattle.sf_steps_laws.specs.Events.{enter_events}
use Rattle.sf_steps_laws.specs.Schedules.{IsSchedule}
use Rattle.sf_lists.proofs.Functions.{put_here, put_else}
use Rattle.sf_group_steps.specs.declared.view.View.{View}
use Rattle.sf_group_steps.specs.Words.{call, next, HasWord, code_at, IsCallFor, IsNextFor, Writes}
use Rattle.sf_group_steps.specs.View.{setting_of, AreBy, world_of, history_of}
use Rattle.sf_group_steps.specs.Plays.{Moves, view_after, Made, Found}
use Rattle.sf_group_steps.specs.Changes.{tries_in, tried}
use Rattle.sf_group_steps.proofs.Ways.{Ran, writes_call, writes_next, Does}
use Rattle.sf_group_steps.proofs.Changing.{tried_right}
use Rattle.sf_group_steps.proofs.LookSteps.{asking_alone, alike_call, alike_next}
use Rattle.sf_group_steps.proofs.LeadSteps.{lead_turns}
use Rattle.sf_group_steps.proofs.EnterSteps.{call_test}
use Rattle.sf_group_chans.specs.declared.askers.Askers.{Askers}
use Rattle.sf_group_chans.specs.Both.{member_of, AskAt, lost_first, lost_second}
use Rattle.sf_group_chans.specs.Changes.{StayBoth, LoseBoth}
use Rattle.sf_group_chans.specs.Attempts.{HasJoined}
use Rattle.sf_group_chans.proofs.Alone.{Stand}
use Rattle.sf_group_chans.proofs.Going.{moves_both, Ends, go_both, before_is}
use Rattle.sf_group_chans.proofs.LookSteps.{by_first, second_serves}
use Rattle.sf_group_chans.proofs.PeekSteps.{stepped_ran, standing, step_move, stay_step}
use Rattle.sf_group_chans.proofs.LeadSteps.{lost_by, lost_turns, lost_world, lost_ran, lost_writes, lost_cells, chosen, lose}

module _ {V : Type 0} where
  -- make the second's word ready to join
  pub ready_join_move : (c : Askers) (new : ℕ) (d : CallId) (seen : LeaderState) (v : View V) → AskAt c v (ask.ReadyJoin d seen) → IsCallFor c.sizes.callers (word.Listed c.second_generation) → new ≡ call_code (word.Listed c.second_generation)
      → Moves c.sizes v (call c.second) (λ _. new) (λ _. turn.Step c.number ∷ [])
  ready_join_move c new d seen v asks lawful code = step_move c v (ask.ReadyJoin d seen) (call c.second) (λ _. new) asks
      (λ s at n found.
      let w : World V = world_of c.sizes s in
      let u : World V = ask_stepped w c.number c.place (Some c.second) (ask.ReadyJoin d seen) in
      let same : word.Listed c.second_generation ≡ word.Listed (w.generations c.second) = ap (λ i. word.Listed i) (sym (at.second_next ∙ asks.second_next)) in
      record {
        world = u;
        events = [];
        ran = stepped_ran c v (ask.ReadyJoin d seen) s asks at;
        writes = subst (λ m. Writes c.sizes.callers w u (call c.second) m) (sym (code ∙ ap call_code same)) (writes_call c.sizes.callers w u c.second (word.Listed (w.generations c.second)) (subst (IsCallFor c.sizes.callers) same lawful) refl refl refl);
        cells = refl;
      })

  pub ready_join_told : (c : Askers) (d : CallId) (seen : LeaderState) (v w : View V) → c.second ≢ c.number → AskAt c v (ask.ReadyJoin d seen) → Made c.sizes v w (turn.Step c.number ∷ [])
      → StayBoth c v w (stage.Asking c.place (Some c.second) (ask.Link d seen)) (stage.Seconding c.number)
  ready_join_told c d seen v w apart asks m =
      let w₀ : World V = world_of c.sizes m.before in
      let u : World V = ask_stepped w₀ c.number c.place (Some c.second) (ask.ReadyJoin d seen) in
      stay_step c v w (ask.ReadyJoin d seen) (ask.Link d seen) apart asks m refl refl refl (λ y first second. alike_call w₀ u c.second (word.Listed (w₀.generations c.second)) refl refl refl y second)

  -- point the second's next word to the top that the peek found
  pub link_move : (c : Askers) (new : ℕ) (d : CallId) (seen : LeaderState) (v : View V) → AskAt c v (ask.Link d seen) → IsNextFor c.sizes.callers seen.top → new ≡ next_code seen.top
      → Moves c.sizes v (next c.second) (λ _. new) (λ _. turn.Step c.number ∷ [])
  link_move c new d seen v asks lawful code = step_move c v (ask.Link d seen) (next c.second) (λ _. new) asks
      (λ s at n found.
      let w : World V = world_of c.sizes s in
      let u : World V = ask_stepped w c.number c.place (Some c.second) (ask.Link d seen) in
      record {
        world = u;
        events = [];
        ran = stepped_ran c v (ask.Link d seen) s asks at;
        writes = subst (λ m. Writes c.sizes.callers w u (next c.second) m) (sym code) (writes_next c.sizes.callers w u c.second seen.top lawful refl refl refl);
        cells = refl;
      })

  pub link_told : (c : Askers) (d : CallId) (seen : LeaderState) (v w : View V) → c.second ≢ c.number → AskAt c v (ask.Link d seen) → Made c.sizes v w (turn.Step c.number ∷ [])
      → StayBoth c v w (stage.Asking c.place (Some c.second) (ask.Enter d seen)) (stage.Seconding c.number)
  link_told c d seen v w apart asks m =
      let w₀ : World V = world_of c.sizes m.before in
      let u : World V = ask_stepped w₀ c.number c.place (Some c.second) (ask.Link d seen) in
      stay_step c v w (ask.Link d seen) (ask.Enter d seen) apart asks m refl refl refl (λ y first second. alike_next w₀ u c.second seen.top refl refl refl y second)

  -- the exchange tries the call's word
  tries_first : (w : World V) (c : Askers) (d : CallId) (seen : LeaderState) (ts : List (Turn V)) → w.stages c.number ≡ stage.Asking c.place (Some c.second) (ask.Enter d seen) → HasWord (tried c.number w (turn.Step c.number ∷ ts)) (call d.caller)
  tries_first w c d seen ts at = subst (λ xs. HasWord (xs ++ tried c.number (turned w (turn.Step c.number)) ts) (call d.caller))
      (sym (cond-true _ _ _ (eq-eqb c.number c.number refl) ∙ ap (λ (q : Stage V). tries_in q) at)) (inl refl)

  tries_enter : (last : Bool) (w : World V) (c : Askers) (d : CallId) (seen : LeaderState) → w.stages c.number ≡ stage.Asking c.place (Some c.second) (ask.Enter d seen) → HasWord (tried c.number w (lost_turns c.number last)) (call d.caller)
  tries_enter true w c d seen at = tries_first w c d seen (turn.Leave c.number ∷ []) at
  tries_enter false w c d seen at = tries_first w c d seen [] at

  -- exchange the leader's call word that was seen
  enter_ran : (c : Askers) (v : View V) (d : CallId) (seen : LeaderState) (s : List (Turn V)) → AskAt c v (ask.Enter d seen) → Stand c v (stage.Asking c.place (Some c.second) (ask.Enter d seen)) (stage.Seconding c.number) s → (b : Bool) → is_open_with seen ((world_of c.sizes s).calls d.caller) ≡ b
      → Ran (setting_of c.sizes) (history_of c.sizes s) (world_of c.sizes s) (turn.Step c.number ∷ []) (after_enter (world_of c.sizes s) c.number c.place (Some c.second) d seen b) (enter_events (world_of c.sizes s) c.place d c.second b)
  enter_ran c v d seen s asks at b is = subst (λ t. Ran (setting_of c.sizes) (history_of c.sizes s) (world_of c.sizes s) (turn.Step c.number ∷ []) (after_enter (world_of c.sizes s) c.number c.place (Some c.second) d seen t) (enter_events (world_of c.sizes s) c.place d c.second t)) is
      (stepped_ran c v (ask.Enter d seen) s asks at)

  pub enter_move : (c : Askers) (old new : ℕ) (d : CallId) (seen : LeaderState) (last : Bool) (v : View V) → AskAt c v (ask.Enter d seen) → IsCallState (word.Open seen) → IsCallFor c.sizes.callers (word.Open (with_top seen c.second)) → old ≡ call_code (word.Open seen) → new ≡ call_code (word.Open (with_top seen c.second))
      → Moves c.sizes v (call d.caller) (λ n. either (n == old) new n) (lead_turns old c.number last)
  enter_move c old new d seen last v asks seen_lawful lawful old_code new_code = moves_both c v p (stage.Seconding c.number) (call d.caller) (λ n. either (n == old) new n) (lead_turns old c.number last) asks.sit (asking_alone c.place (Some c.second) (ask.Enter d seen)) (second_serves c.number)
      (λ s comes at n found.
      let w : World V = world_of c.sizes s in
      let test : (n == old) ≡ is_open_with seen (w.calls d.caller) = ap (λ m. eqb m old) found ∙ (ap (eqb (call_code (w.calls d.caller))) old_code ∙ call_test (w.calls d.caller) seen (comes.lawful.calls d.caller).0 seen_lawful) in
      does s n found at (is_open_with seen (w.calls d.caller)) refl test)
    where
      p : Stage V
      p = stage.Asking c.place (Some c.second) (ask.Enter d seen)

      does : (s : List (Turn V)) (n : ℕ) → n ≡ code_at (world_of c.sizes s) (call d.caller) → Stand c v p (stage.Seconding c.number) s → (b : Bool) → is_open_with seen ((world_of c.sizes s).calls d.caller) ≡ b → (n == old) ≡ b
          → AreBy {V = V} (c.number ∷ c.second ∷ []) (lead_turns old c.number last n) × Does c.sizes s (call d.caller) (either (n == old) new n) (lead_turns old c.number last n)
      does s n found at true is test = subst (λ t. AreBy {V = V} (c.number ∷ c.second ∷ []) (chosen c.number last t) × Does c.sizes s (call d.caller) (either t new n) (chosen c.number last t)) (sym test)
          (let w : World V = world_of c.sizes s in (
            by_first V c.number c.second,
            record {
              world = entered w c.number c.place d seen c.second;
              events = Enter c.second c.place d (next_id w c.second) ∷ [];
              ran = enter_ran c v d seen s asks at true is;
              writes = subst (λ m. Writes c.sizes.callers w (entered w c.number c.place d seen c.second) (call d.caller) m) (sym new_code) (writes_call c.sizes.callers w (entered w c.number c.place d seen c.second) d.caller (word.Open (with_top seen c.second)) lawful refl refl refl);
              cells = refl;
            },
          ))
      does s n found at false is test = subst (λ t. AreBy {V = V} (c.number ∷ c.second ∷ []) (chosen c.number last t) × Does c.sizes s (call d.caller) (either t new n) (chosen c.number last t)) (sym test)
          (lost_by V c.number c.second last, record { world = lost_world c (world_of c.sizes s) last; events = []; ran = lost_ran c v (ask.Enter d seen) s last asks (enter_ran c v d seen s asks at false is); writes = lost_writes c.sizes.callers c (world_of c.sizes s) (call d.caller) n last found; cells = lost_cells c (world_of c.sizes s) last })

  entered_ends : (c : Askers) (w : World V) (d : CallId) (seen : LeaderState) → c.second ≢ c.number → w.generations c.second ≡ c.second_generation
      → Ends c w (entered w c.number c.place d seen c.second) stage.Free (stage.Holding c.place c.second_generation d) 0 1
  entered_ends c w d seen apart second_given =
      let held : Stage V = stage.Holding c.place (w.generations c.second) d in
      let free : ℕ → Stage V = put w.stages c.number stage.Free in
      let kept : put w.generations c.second (w.generations c.second + 1) c.number ≡ w.generations c.number = put_else w.generations c.second (w.generations c.second + 1) c.number (λ e. apart (sym e)) in record {
        first = put_else free c.second held c.number (λ e. apart (sym e)) ∙ put_here w.stages c.number stage.Free;
        second = put_here free c.second held ∙ ap (λ i. stage.Holding c.place i d) second_given;
        used = omega (arith, kept);
        second_used = put_here w.generations c.second (w.generations c.second + 1);
      }

  pub enter_won : (c : Askers) (n old : ℕ) (d : CallId) (seen : LeaderState) (last : Bool) (v w : View V) → c.second ≢ c.number → AskAt c v (ask.Enter d seen) → IsCallState (word.Open seen) → old ≡ call_code (word.Open seen) → Found (call d.caller) (lead_turns old c.number last) c.sizes v n w → n ≡ old → HasJoined c d v w
  enter_won c n old d seen last v w apart asks seen_lawful old_code found won =
      let p : Stage V = stage.Asking c.place (Some c.second) (ask.Enter d seen) in
      let m = found.0 in
      let turns_is : lead_turns old c.number last n ≡ turn.Step c.number ∷ [] = ap (λ t. chosen c.number last t) (eq-eqb n old won) in
      let o : Made c.sizes v w (turn.Step c.number ∷ []) = record { before = m.before; comes = m.comes; whole = subst (λ q. IsSchedule (setting_of c.sizes) (m.before ++ q)) turns_is m.whole; view = m.view ∙ ap (λ q. view_after v (m.before ++ q)) turns_is } in
      let w₀ : World V = world_of c.sizes m.before in
      let same : is_open_with seen (w₀.calls d.caller) ≡ true = sym (call_test (w₀.calls d.caller) seen (m.comes.lawful.calls d.caller).0 seen_lawful) ∙ eq-eqb (call_code (w₀.calls d.caller)) (call_code (word.Open seen)) (sym found.1 ∙ (won ∙ old_code)) in
      let at = standing c v w (ask.Enter d seen) (turn.Step c.number ∷ []) asks o in
      let second_given : w₀.generations c.second ≡ c.second_generation = at.second_next ∙ asks.second_next in
      let es : List (Event ℕ V) = Enter c.second c.place d (next_id w₀ c.second) ∷ [] in
      let own : own_events {V = V} c.number es ≡ [] = cond-false _ _ _ (ne_eqb c.second c.number apart) in
      let second_own : own_events {V = V} c.second es ≡ Enter c.second c.place d (member_of c) ∷ [] = cond-true _ _ _ (eq-eqb c.second c.second refl) ∙ ap (λ i. Enter c.second c.place d (record { caller = c.second; generation = i }) ∷ []) second_given in
      go_both c v w p (stage.Seconding c.number) stage.Free (stage.Holding c.place c.second_generation d) (turn.Step c.number ∷ []) (entered w₀ c.number c.place d seen c.second) es [] (Enter c.second c.place d (member_of c) ∷ []) 0 1
      asks.sit (asking_alone c.place (Some c.second) (ask.Enter d seen)) (second_serves c.number) o (enter_ran c v d seen m.before asks at true same) own second_own (entered_ends c w₀ d seen apart second_given)

  pub enter_lost : (c : Askers) (n old : ℕ) (d : CallId) (seen : LeaderState) (last : Bool) (v w : View V) → c.second ≢ c.number → AskAt c v (ask.Enter d seen) → IsCallState (word.Open seen) → old ≡ call_code (word.Open seen) → Found (call d.caller) (lead_turns old c.number last) c.sizes v n w → n ≢ old
      → LoseBoth c (call d.caller) (call_code (word.Open seen)) v w (lost_first c last) (lost_second c last)
  enter_lost c n old d seen last v w apart asks seen_lawful old_code found lost =
      let m = found.0 in
      let w₀ : World V = world_of c.sizes m.before in
      let differs : is_open_with seen (w₀.calls d.caller) ≡ false = sym (call_test (w₀.calls d.caller) seen (m.comes.lawful.calls d.caller).0 seen_lawful) ∙ ne_eqb (call_code (w₀.calls d.caller)) (call_code (word.Open seen)) (λ e. lost (found.1 ∙ (e ∙ sym old_code))) in
      let at = standing c v w (ask.Enter d seen) (lead_turns old c.number last n) asks m in
      subst (λ i. LoseBoth c (call d.caller) i v w (lost_first c last) (lost_second c last)) old_code
      (lose c (call d.caller) n old (ask.Enter d seen) last v w apart asks found lost (enter_ran c v d seen m.before asks at false differs)
      (tries_enter last (run (world_of c.sizes v.known.turns) m.comes.later.between) c d seen (ap (λ (y : World V). y.stages c.number) (sym (before_is c.sizes v w (lead_turns old c.number last n) m)) ∙ at.first))
      (λ ts us is. tried_right c.number (world_of c.sizes v.known.turns) ts us (call d.caller) is))

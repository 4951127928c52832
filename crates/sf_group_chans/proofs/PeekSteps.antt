-- the kinds peek and ready of an asking with a second
use Rattle.std.proofs.Common.{◌≡◌, ◌≢◌, ℕ, Bool, true, List, [], ◌∷◌, Option, Some, None, refl, sym, ◌∙◌, ap, subst}
use Rattle.sf_history.specs.declared.call.CallId.{CallId}
use Rattle.sf_history.specs.declared.event.Event.{Event}
use Rattle.sf_words.specs.declared.key_word.KeyState.{KeyState}
use Rattle.sf_words.specs.declared.call_word.LeaderState.{LeaderState}
use Rattle.sf_words.specs.declared.call_word.CallState.{CallState}
use Rattle.sf_words.specs.declared.call_word.CallState.TheVariants as word
use Rattle.sf_words.specs.CallWord.{call_code}
use Rattle.sf_steps_laws.specs.declared.operation.Stage.{Stage}
use Rattle.sf_steps_laws.specs.declared.operation.Stage.TheVariants as stage
use Rattle.sf_steps_laws.specs.declared.operation.AskStep.{AskStep}
use Rattle.sf_steps_laws.specs.declared.operation.AskStep.TheVariants as ask
use Rattle.sf_steps_laws.specs.declared.turn.Turn.{Turn}
use Rattle.sf_steps_laws.specs.declared.turn.Turn.TheVariants as turn
use Rattle.sf_steps_laws.specs.World.{World, first_world, open_in, is_forgot_in}
use Rattle.sf_lists.specs.Functions.{put}
use Rattle.sf_steps_laws.specs.Askings.{peeked, ask_stepped}
use Rattle.sf_steps_laws.specs.Events.{ask_events}
use Rattle.sf_steps_laws.proofs.Compared.{open_in_is}
use Rattle.sf_steps_laws.proofs.Sound.{unsettled, Good, Sound, live_open}
use Rattle.sf_steps_laws.proofs.RightAnswers.{run_append, always}
use Rattle.sf_group_steps.specs.declared.view.View.{View}
use Rattle.sf_group_steps.specs.Words.{Word, call, IsOthers, code_at, IsCallFor, Writes}
use Rattle.sf_group_steps.specs.View.{setting_of, world_of, history_of}
use Rattle.sf_group_steps.specs.Plays.{Moves, Made, Found}
use Rattle.sf_group_steps.proofs.Ways.{Ran, step_ran, writes_none, writes_call, Does}
use Rattle.sf_group_steps.proofs.LookSteps.{asking_alone, alike_none, alike_call}
use Rattle.sf_group_chans.specs.declared.askers.Askers.{Askers}
use Rattle.sf_group_chans.specs.Both.{AskAt}
use Rattle.sf_group_chans.specs.Changes.{StayBoth}
use Rattle.sf_group_chans.proofs.Alone.{Stand, stand}
use Rattle.sf_group_chans.proofs.Going.{moves_both, stay_both}
use Rattle.sf_group_chans.proofs.LookSteps.{by_first, second_serves, ends_step}

-- the word of one who is to lead, with an own channel
abbrev pub ready_state : ℕ → CallState
ready_state g = word.Open (record { generation = g; own = true; top = None })

module _ {V : Type 0} where
  -- a step of an asking that is no first look
  pub step_move : (c : Askers) (v : View V) (step : AskStep) (x : Word) (f : ℕ → ℕ) → AskAt c v step
      → ((s : List (Turn V)) → Stand c v (stage.Asking c.place (Some c.second) step) (stage.Seconding c.number) s → (n : ℕ) → n ≡ code_at (world_of c.sizes s) x → Does c.sizes s x (f n) (turn.Step c.number ∷ []))
      → Moves c.sizes v x f (λ _. turn.Step c.number ∷ [])
  step_move c v step x f asks does = moves_both c v (stage.Asking c.place (Some c.second) step) (stage.Seconding c.number) x f (λ _. turn.Step c.number ∷ []) asks.sit (asking_alone c.place (Some c.second) step) (second_serves c.number)
      (λ s comes at n found. (by_first V c.number c.second, does s at n found))

  pub stepped_ran : (c : Askers) (v : View V) (step : AskStep) (s : List (Turn V)) → AskAt c v step → Stand c v (stage.Asking c.place (Some c.second) step) (stage.Seconding c.number) s
      → Ran (setting_of c.sizes) (history_of c.sizes s) (world_of c.sizes s) (turn.Step c.number ∷ []) (ask_stepped (world_of c.sizes s) c.number c.place (Some c.second) step) (ask_events (world_of c.sizes s) c.number c.place (Some c.second) step)
  stepped_ran c v step s asks at = step_ran (setting_of c.sizes) (history_of c.sizes s) (world_of c.sizes s) c.number (stage.Asking c.place (Some c.second) step) asks.sit.first.caller tt at.first

  -- where the two stand then
  pub standing : (c : Askers) (v w : View V) (step : AskStep) (ts : List (Turn V)) → AskAt c v step → (m : Made c.sizes v w ts) → Stand c v (stage.Asking c.place (Some c.second) step) (stage.Seconding c.number) m.before
  standing c v w step ts asks m = stand c v (stage.Asking c.place (Some c.second) step) (stage.Seconding c.number) m.before asks.sit (asking_alone c.place (Some c.second) step) (second_serves c.number) m.comes

  -- a step that adds nothing, and leaves the second where it stands
  pub stay_step : (c : Askers) (v w : View V) (step to : AskStep) → c.second ≢ c.number → AskAt c v step → (m : Made c.sizes v w (turn.Step c.number ∷ []))
      → let w₀ = world_of c.sizes m.before in
      let u = ask_stepped w₀ c.number c.place (Some c.second) step in
      ask_events w₀ c.number c.place (Some c.second) step ≡ [] → u.stages ≡ put w₀.stages c.number (stage.Asking c.place (Some c.second) to) → u.generations ≡ w₀.generations
      → ((y : Word) → IsOthers c.number y → IsOthers c.second y → code_at u y ≡ code_at w₀ y) → StayBoth c v w (stage.Asking c.place (Some c.second) to) (stage.Seconding c.number)
  stay_step c v w step to apart asks m none stages generations alike =
      let w₀ : World V = world_of c.sizes m.before in
      let u : World V = ask_stepped w₀ c.number c.place (Some c.second) step in
      let at = standing c v w step (turn.Step c.number ∷ []) asks m in
      let ran = subst (λ es. Ran (setting_of c.sizes) (history_of c.sizes m.before) w₀ (turn.Step c.number ∷ []) u es) none (stepped_ran c v step m.before asks at) in
      stay_both c v w (stage.Asking c.place (Some c.second) step) (stage.Seconding c.number) (stage.Asking c.place (Some c.second) to) (stage.Seconding c.number) (turn.Step c.number ∷ []) u asks
      (asking_alone c.place (Some c.second) step) (second_serves c.number) m ran (ends_step c w₀ u (stage.Asking c.place (Some c.second) to) (stage.Seconding c.number) apart stages generations at.second) alike

  -- peek at the call word of the call that the key word named
  pub peek_move : (c : Askers) (d : CallId) (v : View V) → AskAt c v (ask.Peek d) → Moves c.sizes v (call d.caller) (λ n. n) (λ _. turn.Step c.number ∷ [])
  peek_move c d v asks = step_move c v (ask.Peek d) (call d.caller) (λ n. n) asks
      (λ s at n found.
      let w : World V = world_of c.sizes s in
      let u : World V = ask_stepped w c.number c.place (Some c.second) (ask.Peek d) in
      record { world = u; events = []; ran = stepped_ran c v (ask.Peek d) s asks at; writes = writes_none c.sizes.callers w u (call d.caller) n found refl refl refl; cells = refl })

  -- what a peek found
  pub peek_is : (c : Askers) (n : ℕ) (d : CallId) (v w : View V) (x : CallState) → (found : Found (call d.caller) (λ _. turn.Step c.number ∷ []) c.sizes v n w)
      → ((y : CallState) → IsCallFor c.sizes.callers y → call_code y ≡ n → x ≡ y) → x ≡ (world_of c.sizes found.0.before).calls d.caller
  peek_is c n d v w x found says = says ((world_of c.sizes found.0.before).calls d.caller) (found.0.comes.lawful.calls d.caller) (sym found.1)

  pub peek_told : (c : Askers) (n : ℕ) (d : CallId) (v w : View V) (x : CallState) → c.second ≢ c.number → AskAt c v (ask.Peek d) → (found : Found (call d.caller) (λ _. turn.Step c.number ∷ []) c.sizes v n w)
      → x ≡ (world_of c.sizes found.0.before).calls d.caller
      → StayBoth c v w (stage.Asking c.place (Some c.second) (peeked (Some c.second) d (is_forgot_in d.generation x) (open_in d.generation x))) (stage.Seconding c.number)
  peek_told c n d v w x apart asks found is =
      let m = found.0 in
      let w₀ : World V = world_of c.sizes m.before in
      let u : World V = ask_stepped w₀ c.number c.place (Some c.second) (ask.Peek d) in
      let to : CallState → AskStep = λ y. peeked (Some c.second) d (is_forgot_in d.generation y) (open_in d.generation y) in
      stay_step c v w (ask.Peek d) (to x) apart asks m refl (ap (λ y. put w₀.stages c.number (stage.Asking c.place (Some c.second) (to y))) (sym is)) refl (λ y first second. alike_none w₀ u c.number refl refl refl y first)

  pub peek_shown : (c : Askers) (n : ℕ) (d : CallId) (v w : View V) (x : CallState) → AskAt c v (ask.Peek d) → (found : Found (call d.caller) (λ _. turn.Step c.number ∷ []) c.sizes v n w)
      → x ≡ (world_of c.sizes found.0.before).calls d.caller → (world_of c.sizes w.known.turns).calls d.caller ≡ x
  peek_shown c n d v w x asks found is =
      let m = found.0 in
      let at = standing c v w (ask.Peek d) (turn.Step c.number ∷ []) asks m in
      let ran = stepped_ran c v (ask.Peek d) m.before asks at in
      ap (λ (y : View V). (world_of c.sizes y.known.turns).calls d.caller) m.view ∙ (ap (λ (y : World V). y.calls d.caller) (run_append (first_world c.sizes.callers c.sizes.first) m.before (turn.Step c.number ∷ []) ∙ ran.world) ∙ sym is)

  -- a call word that a peek finds open is of neither of the two
  opened_by : (c : Askers) (d : CallId) (v w : View V) (x : CallState) (seen : LeaderState) (i : ℕ) → AskAt c v (ask.Peek d) → (m : Made c.sizes v w (turn.Step c.number ∷ [])) → x ≡ (world_of c.sizes m.before).calls d.caller
      → open_in d.generation x ≡ Some seen → unsettled ((world_of c.sizes m.before).stages i) ≡ None → d.caller ≢ i
  opened_by c d v w x seen i asks m is opened idle same =
      let w₀ : World V = world_of c.sizes m.before in
      let h : List (Event ℕ V) = history_of c.sizes m.before in
      let at = standing c v w (ask.Peek d) (turn.Step c.number ∷ []) asks m in
      let sound : Sound c.sizes.first h w₀ = always (setting_of c.sizes) m.before m.comes.schedule in
      let good : Good h w₀ c.number (stage.Asking c.place (Some c.second) (ask.Peek d)) = subst (λ (q : Stage V). Good h w₀ c.number q) at.first (sound.callers c.number).good in
      let parts = open_in_is d.generation x seen opened in
      let open_word : w₀.calls d.caller ≡ word.Open seen = sym is ∙ parts.0 in
      let held = sound.held c.place d (live_open c.sizes.first h w₀ c.place d seen sound good.1 open_word parts.1) in
      let clash : ◌≡◌ {A = Option (ℕ × ℕ)} None (Some (c.place, d.generation)) = sym idle ∙ (ap (λ j. unsettled (w₀.stages j)) (sym same) ∙ held.stage) in
      cc

  pub opened_apart : (c : Askers) (d : CallId) (v w : View V) (x : CallState) (seen : LeaderState) → AskAt c v (ask.Peek d) → (m : Made c.sizes v w (turn.Step c.number ∷ [])) → x ≡ (world_of c.sizes m.before).calls d.caller
      → open_in d.generation x ≡ Some seen → (d.caller ≢ c.number) × (d.caller ≢ c.second)
  opened_apart c d v w x seen asks m is opened =
      let at = standing c v w (ask.Peek d) (turn.Step c.number ∷ []) asks m in (
        opened_by c d v w x seen c.number asks m is opened (ap unsettled at.first),
        opened_by c d v w x seen c.second asks m is opened (ap unsettled at.second),
      )

  -- make the second's word ready, as the own channel of the call to be led
  pub ready_own_move : (c : Askers) (new : ℕ) (seen : KeyState) (f : Bool) (v : View V) → AskAt c v (ask.ReadyOwn seen f) → IsCallFor c.sizes.callers (word.Listed c.second_generation) → new ≡ call_code (word.Listed c.second_generation)
      → Moves c.sizes v (call c.second) (λ _. new) (λ _. turn.Step c.number ∷ [])
  ready_own_move c new seen f v asks lawful code = step_move c v (ask.ReadyOwn seen f) (call c.second) (λ _. new) asks
      (λ s at n found.
      let w : World V = world_of c.sizes s in
      let u : World V = ask_stepped w c.number c.place (Some c.second) (ask.ReadyOwn seen f) in
      let same : word.Listed c.second_generation ≡ word.Listed (w.generations c.second) = ap (λ i. word.Listed i) (sym (at.second_next ∙ asks.second_next)) in
      record {
        world = u;
        events = [];
        ran = stepped_ran c v (ask.ReadyOwn seen f) s asks at;
        writes = subst (λ m. Writes c.sizes.callers w u (call c.second) m) (sym (code ∙ ap call_code same)) (writes_call c.sizes.callers w u c.second (word.Listed (w.generations c.second)) (subst (IsCallFor c.sizes.callers) same lawful) refl refl refl);
        cells = refl;
      })

  pub ready_own_told : (c : Askers) (seen : KeyState) (f : Bool) (v w : View V) → c.second ≢ c.number → AskAt c v (ask.ReadyOwn seen f) → Made c.sizes v w (turn.Step c.number ∷ [])
      → StayBoth c v w (stage.Asking c.place (Some c.second) (ask.ReadyLead seen f)) (stage.Seconding c.number)
  ready_own_told c seen f v w apart asks m =
      let w₀ : World V = world_of c.sizes m.before in
      let u : World V = ask_stepped w₀ c.number c.place (Some c.second) (ask.ReadyOwn seen f) in
      stay_step c v w (ask.ReadyOwn seen f) (ask.ReadyLead seen f) apart asks m refl refl refl (λ y first second. alike_call w₀ u c.second (word.Listed (w₀.generations c.second)) refl refl refl y second)

  -- make the own word ready to lead
  pub ready_move : (c : Askers) (new : ℕ) (seen : KeyState) (f : Bool) (v : View V) → AskAt c v (ask.ReadyLead seen f) → IsCallFor c.sizes.callers (ready_state c.generation) → new ≡ call_code (ready_state c.generation)
      → Moves c.sizes v (call c.number) (λ _. new) (λ _. turn.Step c.number ∷ [])
  ready_move c new seen f v asks lawful code = step_move c v (ask.ReadyLead seen f) (call c.number) (λ _. new) asks
      (λ s at n found.
      let w : World V = world_of c.sizes s in
      let u : World V = ask_stepped w c.number c.place (Some c.second) (ask.ReadyLead seen f) in
      let same : ready_state c.generation ≡ ready_state (w.generations c.number) = ap (λ i. ready_state i) (sym (at.next ∙ asks.next)) in
      record {
        world = u;
        events = [];
        ran = stepped_ran c v (ask.ReadyLead seen f) s asks at;
        writes = subst (λ m. Writes c.sizes.callers w u (call c.number) m) (sym (code ∙ ap call_code same)) (writes_call c.sizes.callers w u c.number (ready_state (w.generations c.number)) (subst (IsCallFor c.sizes.callers) same lawful) refl refl refl);
        cells = refl;
      })

  pub ready_told : (c : Askers) (seen : KeyState) (f : Bool) (v w : View V) → c.second ≢ c.number → AskAt c v (ask.ReadyLead seen f) → Made c.sizes v w (turn.Step c.number ∷ [])
      → StayBoth c v w (stage.Asking c.place (Some c.second) (ask.Lead seen f)) (stage.Seconding c.number)
  ready_told c seen f v w apart asks m =
      let w₀ : World V = world_of c.sizes m.before in
      let u : World V = ask_stepped w₀ c.number c.place (Some c.second) (ask.ReadyLead seen f) in
      stay_step c v w (ask.ReadyLead seen f) (ask.Lead seen f) apart asks m refl refl refl (λ y first second. alike_call w₀ u c.number (ready_state (w₀.generations c.number)) refl refl refl y first)

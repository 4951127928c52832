-- the answers to questions: right at the peek or at the look
use Rattle.std.proofs.Common.{◌≡◌, ◌≢◌, ℕ, ◌<◌, Bool, true, false, ◌==◌, ◌||◌, List, [], ◌∷◌, ◌++◌, ◌⊎◌, inl, inr, Option, Some, None, refl, sym, ◌∙◌, ap, subst, append_assoc, arith}
use Rattle.std.proofs.lemmas.List.{append-nil}
use Rattle.std.proofs.lemmas.List.Folds.{list_any-append}
use Rattle.std.specs.List.{list_any}
use Rattle.std.proofs.lemmas.Bool.{or_left, false_from_ne_true, true≢false}
use Rattle.std.specs.Prelude.{cond}
use Rattle.sf_history.specs.declared.call.CallId.{CallId}
use Rattle.sf_history.specs.declared.event.Event.{Event}
use Rattle.sf_history.specs.Calls.{same_call}
use Rattle.sf_history.specs.History.{holds_call}
use Rattle.sf_history.proofs.LegalHistories.{same_call_is, same_call_self}
use Rattle.sf_words.specs.declared.key_word.KeyState.{KeyState}
use Rattle.sf_words.specs.declared.key_word.KeyState.TheVariants.{Names}
use Rattle.sf_words.specs.declared.call_word.LeaderState.{LeaderState}
use Rattle.sf_steps_laws.specs.declared.operation.Op.{Op}
use Rattle.sf_steps_laws.specs.declared.operation.Op.TheVariants as op
use Rattle.sf_steps_laws.specs.declared.operation.Stage.{Stage}
use Rattle.sf_steps_laws.specs.declared.operation.Stage.TheVariants.{Free, Leading, Holding, Polling, Seconding, Asking, Settling, Forgetting, Naming, Questioning}
use Rattle.sf_steps_laws.specs.declared.operation.AskStep.{AskStep}
use Rattle.sf_steps_laws.specs.declared.operation.AskStep.TheVariants as ask
use Rattle.sf_steps_laws.specs.declared.operation.SettleStep.{SettleStep}
use Rattle.sf_steps_laws.specs.declared.operation.SettleStep.TheVariants as settle
use Rattle.sf_steps_laws.specs.declared.operation.ForgetStep.{ForgetStep}
use Rattle.sf_steps_laws.specs.declared.operation.ForgetStep.TheVariants as forget
use Rattle.sf_steps_laws.specs.declared.operation.CurrentStep.{CurrentStep}
use Rattle.sf_steps_laws.specs.declared.operation.CurrentStep.TheVariants as current
use Rattle.sf_steps_laws.specs.declared.turn.Turn.{Turn}
use Rattle.sf_steps_laws.specs.declared.turn.Turn.TheVariants as turn
use Rattle.sf_steps_laws.specs.World.{World, first_world, with_stage, next_id, key_of, cleared_key_of, same_key, is_open_with, is_forgot_in, is_full, is_spent}
use Rattle.sf_lists.specs.Functions.{put}
use Rattle.sf_steps_laws.specs.Askings.{ready_own, led, after_lead, after_enter, ask_stepped}
use Rattle.sf_steps_laws.specs.Turns.{current_peeked, after_close, cleared, settle_stepped, forgot, forget_cleared, forget_stepped, polled, current_stepped, stepped, chan_started, started, freed, left, turned, run}
use Rattle.sf_steps_laws.specs.Events.{turn_events, adds, events_of, world_after}
use Rattle.sf_steps_laws.specs.Laws.{is_current_after, SchedulesAreLegal, PeeksAreRight, LooksAreRight}
use Rattle.sf_steps_laws.specs.Schedules.{Setting, leads_on, was_led_on, IsScheduleFrom, IsSchedule}
use Rattle.sf_steps_laws.proofs.Histories.{now, led_on_named}
use Rattle.sf_lists.proofs.Functions.{put_here, put_cases}
use Rattle.sf_steps_laws.proofs.Sound.{call_of, Good, GoodKey, Sound}
use Rattle.sf_steps_laws.proofs.Compared.{same_key_is, same_key_self, forgot_in_is, forgot_is_in}
use Rattle.sf_steps_laws.proofs.Leaders.{forgotten_not_now, current_key}
use Rattle.sf_steps_laws.proofs.Flags.{run_fair, turn_fair}
use Rattle.sf_steps_laws.proofs.Callers.{Fair, fair_begins}

-- two key words that name the same call
named_alike : (c d : CallId) → key_of c ≡ key_of d → c ≡ d
named_alike c d is =
    let callers : c.caller ≡ d.caller = cc in
    let generations : c.generation ≡ d.generation = cc in
    ap (λ (n : ℕ). call_of n c.generation) callers ∙ ap (λ (n : ℕ). call_of d.caller n) generations

-- a call that is not found is not held
held_not : (o : Option CallId) (c : CallId) → o ≢ Some c → holds_call o c ≡ false
held_not None c isnt = refl
held_not (Some d) c isnt = false_from_ne_true (same_call d c) (λ is. isnt (ap (λ (x : CallId). Some x) (same_call_is d c is)))

held_is : (o : Option CallId) (c : CallId) → o ≡ Some c → holds_call o c ≡ true
held_is o c is = ap (λ (x : Option CallId). holds_call x c) is ∙ same_call_self c

module _ {V : Type 0} where
  -- a key word that names a call after a step named it before, or the stepping caller leads the call just now
  abbrev Named : World V → ℕ → ℕ → CallId → Type 0
  Named w a k c = (w.keys k ≡ key_of c) ⊎ (next_id w a ≡ c)

  clears_none : (w : World V) (a i k : ℕ) (c d : CallId) → put w.keys i (cleared_key_of d) k ≡ key_of c → Named w a k c
  clears_none w a i k c d = put_cases (λ (v : KeyState). v ≡ key_of c → Named w a k c) w.keys i (cleared_key_of d) k (λ here is. cc) (λ other is. inl is)

  lead_named : (w : World V) (a i k : ℕ) (s : Option ℕ) (c : CallId) (b : Bool) → (after_lead w a i s b).keys k ≡ key_of c → Named w a k c
  lead_named w a i k s c false is = inl is
  lead_named w a i k None c true is = put_cases (λ (v : KeyState). v ≡ key_of c → Named w a k c) w.keys i (key_of (next_id w a)) k (λ here is. inr (named_alike (next_id w a) c is)) (λ other is. inl is) is
  lead_named w a i k (Some b) c true is = put_cases (λ (v : KeyState). v ≡ key_of c → Named w a k c) w.keys i (key_of (next_id w a)) k (λ here is. inr (named_alike (next_id w a) c is)) (λ other is. inl is) is

  enter_named : (w : World V) (a i k : ℕ) (s : Option ℕ) (c d : CallId) (seen : LeaderState) (b : Bool) → (after_enter w a i s d seen b).keys k ≡ key_of c → Named w a k c
  enter_named w a i k s c d seen false is = inl is
  enter_named w a i k s c d seen true is = inl is

  own_named : (w : World V) (a i k : ℕ) (s : Option ℕ) (c : CallId) (seen : KeyState) (f : Bool) → (ready_own w a i s seen f).keys k ≡ key_of c → Named w a k c
  own_named w a i k None c seen f is = inl is
  own_named w a i k (Some b) c seen f is = inl is

  ask_named : (w : World V) (a i k : ℕ) (s : Option ℕ) (c : CallId) (step : AskStep) → (ask_stepped w a i s step).keys k ≡ key_of c → Named w a k c
  ask_named w a i k s c (ask.Look failed) is = inl is
  ask_named w a i k s c (ask.Peek d) is = inl is
  ask_named w a i k s c (ask.ReadyOwn seen f) is = own_named w a i k s c seen f is
  ask_named w a i k s c (ask.ReadyLead seen f) is = inl is
  ask_named w a i k s c (ask.Lead seen f) is = lead_named w a i k s c (same_key (w.keys i) seen) is
  ask_named w a i k s c (ask.ReadyJoin d seen) is = inl is
  ask_named w a i k s c (ask.Link d seen) is = inl is
  ask_named w a i k s c (ask.Enter d seen) is = enter_named w a i k s c d seen (is_open_with seen (w.calls d.caller)) is

  close_named : (w : World V) (a i g k : ℕ) (own : Option CallId) (v : V) (seen : LeaderState) (c : CallId) (b : Bool) → (after_close w a i g own v seen b).keys k ≡ key_of c → Named w a k c
  close_named w a i g k own v seen c false is = inl is
  close_named w a i g k own v seen c true is = inl is

  cleared_named : (w : World V) (a i k : ℕ) (c d : CallId) (b : Bool) → (cleared w i d b).keys k ≡ key_of c → Named w a k c
  cleared_named w a i k c d false is = inl is
  cleared_named w a i k c d true is = clears_none w a i k c d is

  settle_named : (w : World V) (a i g k : ℕ) (own : Option CallId) (v : V) (c : CallId) (step : SettleStep) → (settle_stepped w a i g own v step).keys k ≡ key_of c → Named w a k c
  settle_named w a i g k own v c settle.Peek is = inl is
  settle_named w a i g k own v c (settle.Close seen) is = close_named w a i g k own v seen c (is_open_with seen (w.calls a)) is
  settle_named w a i g k own v c (settle.Clear top) is = cleared_named w a i k c (call_of a g) (same_key (w.keys i) (Names a g false)) is
  settle_named w a i g k own v c (settle.Count n m top) is = inl is
  settle_named w a i g k own v c (settle.Follow joiners m) is = inl is
  settle_named w a i g k own v c (settle.PeekMember joiners m next) is = inl is
  settle_named w a i g k own v c (settle.Deliver joiners m next) is = inl is
  settle_named w a i g k own v c (settle.PeekOwn joiners) is = inl is
  settle_named w a i g k own v c (settle.DeliverOwn joiners m) is = inl is

  forgot_named : (w : World V) (a i k : ℕ) (target : Option CallId) (c d : CallId) (seen : LeaderState) (b : Bool) → (forgot w a i target d seen b).keys k ≡ key_of c → Named w a k c
  forgot_named w a i k target c d seen false is = inl is
  forgot_named w a i k target c d seen true is = inl is

  first_named : (w : World V) (a i k : ℕ) (target : Option CallId) (c d : CallId) (b : Bool) → (forget_cleared w a i target d b).keys k ≡ key_of c → Named w a k c
  first_named w a i k target c d false is = inl is
  first_named w a i k target c d true is = clears_none w a i k c d is

  forget_named : (w : World V) (a i k : ℕ) (target : Option CallId) (c : CallId) (step : ForgetStep) → (forget_stepped w a i target step).keys k ≡ key_of c → Named w a k c
  forget_named w a i k target c (forget.Look failed) is = inl is
  forget_named w a i k target c (forget.Peek d) is = inl is
  forget_named w a i k target c (forget.Close d seen) is = forgot_named w a i k target c d seen (is_open_with seen (w.calls d.caller)) is
  forget_named w a i k target c (forget.FirstClear d) is = first_named w a i k target c d (same_key (w.keys i) (key_of d)) is
  forget_named w a i k target c (forget.LastClear d) is = cleared_named w a i k c d (same_key (w.keys i) (key_of d)) is

  poll_named : (w : World V) (a i g k : ℕ) (c d : CallId) (b : Bool) → (polled w a i g d b).keys k ≡ key_of c → Named w a k c
  poll_named w a i g k c d false is = inl is
  poll_named w a i g k c d true is = inl is

  current_named : (w : World V) (a i k : ℕ) (c d : CallId) (step : CurrentStep) → (current_stepped w a i d step).keys k ≡ key_of c → Named w a k c
  current_named w a i k c d current.Peek is = inl is
  current_named w a i k c d current.Look is = inl is

  step_named : (w : World V) (a k : ℕ) (c : CallId) (p : Stage V) → (stepped w a p).keys k ≡ key_of c → Named w a k c
  step_named w a k c Free is = inl is
  step_named w a k c (Leading i g own) is = inl is
  step_named w a k c (Holding i g d) is = inl is
  step_named w a k c (Polling i g d) is = poll_named w a i g k c d (is_full (w.calls a)) is
  step_named w a k c (Seconding one) is = inl is
  step_named w a k c (Asking i s step) is = ask_named w a i k s c step is
  step_named w a k c (Settling i g own v step) is = settle_named w a i g k own v c step is
  step_named w a k c (Forgetting i target step) is = forget_named w a i k target c step is
  step_named w a k c (Naming i) is = inl is
  step_named w a k c (Questioning i d step) is = current_named w a i k c d step is

  -- starts and leaves change no key word
  kept_either : (w u : World V) (k : ℕ) (b : Bool) → u.keys k ≡ w.keys k → (cond b w u).keys k ≡ w.keys k
  kept_either w u k true same = refl
  kept_either w u k false same = same

  chan_keys : (w : World V) (a b i k : ℕ) (q : Stage V) (t : Bool) → (cond t w (chan_started w a b i q)).keys k ≡ w.keys k
  chan_keys w a b i k q true = refl
  chan_keys w a b i k Free false = kept_either w (with_stage (with_stage w b (Seconding a)) a (Asking i (Some b) (ask.Look false))) k ((b == a) || is_spent w b) refl
  chan_keys w a b i k _ false = refl

  pub start_keys : (w : World V) (a k : ℕ) (o : Op V) (p : Stage V) → (started w a o p).keys k ≡ w.keys k
  start_keys w a k (op.Ask i) Free = kept_either w (with_stage w a (Asking i None (ask.Look false))) k (is_spent w a) refl
  start_keys w a k (op.Chan b i) Free = chan_keys w a b i k (w.stages b) (is_spent w a)
  start_keys w a k (op.Settle v) (Leading i g own) = refl
  start_keys w a k (op.Forget i) Free = refl
  start_keys w a k (op.ForgetCall i d) Free = refl
  start_keys w a k (op.Named i) Free = refl
  start_keys w a k op.Poll (Holding i g c) = refl
  start_keys w a k (op.Current i c) Free = refl
  start_keys w a k _ _ = refl

  freed_keys : (w : World V) (a k : ℕ) (s : Option ℕ) → (freed w a s).keys k ≡ w.keys k
  freed_keys w a k None = refl
  freed_keys w a k (Some b) = refl

  pub leave_keys : (w : World V) (a k : ℕ) (p : Stage V) → (left w a p).keys k ≡ w.keys k
  leave_keys w a k (Asking i s (ask.Look true)) = freed_keys w a k s
  leave_keys w a k (Forgetting i target (forget.Look true)) = refl
  leave_keys w a k _ = refl

  -- a key word that does not name a call that was led will not name it again
  pub unnamed_turn : (first : ℕ) (h : List (Event ℕ V)) (w : World V) (k : ℕ) (c : CallId) → Sound first h w → was_led_on h k c ≡ true → (t : Turn V) → w.keys k ≢ key_of c → (turned w t).keys k ≢ key_of c
  unnamed_turn first h w k c sound led (turn.Start a o) isnt is = isnt (sym (start_keys w a k o (w.stages a)) ∙ is)
  unnamed_turn first h w k c sound led (turn.Leave a) isnt is = isnt (sym (leave_keys w a k (w.stages a)) ∙ is)
  unnamed_turn first h w k c sound led (turn.Step a) isnt is =
      elim (step_named w a k c (w.stages a) is) [
        | inl was ↦ isnt was
        | inr same ↦
            let below : c.generation < w.generations c.caller = sound.past.numbered c (led_on_named h k c led) in
            let callers : a ≡ c.caller = ap (λ (z : CallId). z.caller) same in
            let generations : w.generations a ≡ c.generation = ap (λ (z : CallId). z.generation) same in
            let own : w.generations a ≡ w.generations c.caller = ap w.generations callers in
            absurd (omega arith)
      ]

  -- schedules in parts
  pub run_append : (w : World V) (p q : List (Turn V)) → run w (p ++ q) ≡ run (run w p) q
  run_append w [] q = refl
  run_append w (t ∷ p) q = run_append (turned w t) p q

  pub adds_append : (w : World V) (p q : List (Turn V)) → adds w (p ++ q) ≡ adds w p ++ adds (run w p) q
  adds_append w [] q = refl
  adds_append w (t ∷ p) q = ap (λ (es : List (Event ℕ V)). turn_events w t ++ es) (adds_append (turned w t) p q) ∙ sym (append_assoc (turn_events w t) (adds (turned w t) p) (adds (run (turned w t) p) q))

  pub schedule_parts : (z : Setting) (p q : List (Turn V)) (h : List (Event ℕ V)) (w : World V) → IsScheduleFrom z h w (p ++ q) → IsScheduleFrom z h w p × IsScheduleFrom z (h ++ adds w p) (run w p) q
  schedule_parts z [] q h w is = (tt, subst (λ (es : List (Event ℕ V)). IsScheduleFrom z es w q) (sym (append-nil h)) is)
  schedule_parts z (t ∷ p) q h w is =
      let parts = schedule_parts z p q (h ++ turn_events w t) (turned w t) is.1 in
      ((is.0, parts.0), subst (λ (es : List (Event ℕ V)). IsScheduleFrom z es (run (turned w t) p) q) (append_assoc h (turn_events w t) (adds (turned w t) p)) parts.1)

  pub always_fair : (z : Setting) (s : List (Turn V)) → IsSchedule z s → Fair z (events_of z.callers z.first s) (world_after z.callers z.first s)
  always_fair z s is = run_fair z s [] (first_world z.callers z.first) (fair_begins z) is

  pub always : (z : Setting) (s : List (Turn V)) → IsSchedule z s → Sound z.first (events_of z.callers z.first s) (world_after z.callers z.first s)
  always z s is = (always_fair z s is).sound

  unnamed_run : (z : Setting) (k : ℕ) (c : CallId) (ts : List (Turn V)) (h : List (Event ℕ V)) (w : World V) → Fair z h w → was_led_on h k c ≡ true → IsScheduleFrom z h w ts → w.keys k ≢ key_of c → (run w ts).keys k ≢ key_of c
  unnamed_run z k c [] h w sound led is isnt = isnt
  unnamed_run z k c (t ∷ ts) h w sound led is isnt =
      unnamed_run z k c ts (h ++ turn_events w t) (turned w t) (turn_fair z h w t sound is.0) (led_longer h (turn_events w t) led) is.1 (unnamed_turn z.first h w k c sound.sound led t isnt)
    where
      led_longer : (h es : List (Event ℕ V)) → was_led_on h k c ≡ true → was_led_on (h ++ es) k c ≡ true
      led_longer h es led = list_any-append (leads_on k c) h es ∙ or_left (list_any (leads_on k c) h) (list_any (leads_on k c) es) led

  pub schedules_are_legal : SchedulesAreLegal V
  schedules_are_legal z s is = (always z s is).past.legal

  answered : (h : List (Event ℕ V)) (k : ℕ) (c : CallId) (b answer : Bool) → Some b ≡ Some answer → b ≡ holds_call (now h k) c → answer ≡ holds_call (now h k) c
  answered h k c b answer same is = let values : b ≡ answer = cc in sym values ∙ is

  pub peeks_are_right : PeeksAreRight V
  peeks_are_right z s is a k c answer at said = either (is_forgot_in c.generation (w.calls c.caller)) refl said
    where
      w : World V
      w = world_after z.callers z.first s

      either : (b : Bool) → is_forgot_in c.generation (w.calls c.caller) ≡ b → cond b (Some false) None ≡ Some answer → answer ≡ is_current_after z.callers z.first s k c
      either false found said = cc
      either true found said =
          let isnt : holds_call (now (events_of z.callers z.first s) k) c ≡ false = held_not (now (events_of z.callers z.first s) k) c (forgotten_not_now z.first (events_of z.callers z.first s) w c.caller k c.generation (always z s is) (forgot_in_is c.generation (w.calls c.caller) found)) in
          answered (events_of z.callers z.first s) k c false answer said (sym isnt)

  -- a key word that names a call which its word does not call forgotten names the current call
  unforgotten_current : (h : List (Event ℕ V)) (w : World V) (k : ℕ) (c : CallId) → GoodKey h w k (key_of c) → is_forgot_in c.generation (w.calls c.caller) ≡ false → now h k ≡ Some c
  unforgotten_current h w k c good isnt = elim good.1 [
    | inl is ↦ is
    | inr debt ↦ absurd (true≢false (sym (forgot_is_in c.generation (w.calls c.caller) debt.1) ∙ isnt))
  ]

  pub looks_are_right : LooksAreRight V
  looks_are_right z p rest a k c answer is at looks said = either (same_key (u.keys k) (key_of c)) refl said
    where
      s : List (Turn V)
      s = p ++ turn.Step a ∷ rest

      w : World V
      w = world_after z.callers z.first p

      u : World V
      u = world_after z.callers z.first s

      h : List (Event ℕ V)
      h = events_of z.callers z.first p

      parts : IsScheduleFrom z [] (first_world z.callers z.first) p × IsScheduleFrom z h w (turn.Step a ∷ rest)
      parts = schedule_parts z p (turn.Step a ∷ rest) [] (first_world z.callers z.first) is

      sound : Sound z.first h w
      sound = always z p parts.0

      peeked : World V
      peeked = turned w (turn.Step a)

      peeked_is : run w (turn.Step a ∷ []) ≡ current_stepped w a k c current.Peek
      peeked_is = ap (λ (q : Stage V). stepped w a q) at

      not_forgot : (b : Bool) → is_forgot_in c.generation (w.calls c.caller) ≡ b → is_forgot_in c.generation (w.calls c.caller) ≡ false
      not_forgot false found = found
      not_forgot true found =
          let stage : (world_after z.callers z.first (p ++ turn.Step a ∷ [])).stages a ≡ current_peeked k c (is_forgot_in c.generation (w.calls c.caller)) =
          ap (λ (x : World V). x.stages a) (run_append (first_world z.callers z.first) p (turn.Step a ∷ []) ∙ peeked_is) ∙ put_here w.stages a (current_peeked k c (is_forgot_in c.generation (w.calls c.caller))) in
          let freed_now : current_peeked k c (is_forgot_in c.generation (w.calls c.caller)) ≡ Free = ap (λ (t : Bool). current_peeked k c t) found in
          let clash : Questioning k c current.Look ≡ Free = sym looks ∙ (stage ∙ freed_now) in
          cc

      either : (b : Bool) → same_key (u.keys k) (key_of c) ≡ b → Some b ≡ Some answer → (answer ≡ is_current_after z.callers z.first p k c) ⊎ (answer ≡ is_current_after z.callers z.first s k c)
      either false found said = inr (answered (events_of z.callers z.first s) k c false answer said (sym (held_not (now (events_of z.callers z.first s) k) c (λ current_is.
          let named : u.keys k ≡ key_of c = current_key (events_of z.callers z.first s) u k c (u.keys k) ((always z s is).keys k) current_is in
          true≢false (sym (subst (λ (v : KeyState). same_key v (key_of c) ≡ true) (sym named) (same_key_self (key_of c))) ∙ found)))))
      either true found said = inl (answered h k c true answer said (sym (held_is (now h k) c (unforgotten_current h w k c (subst (λ (v : KeyState). GoodKey h w k v) (before (same_key (w.keys k) (key_of c)) refl) (sound.keys k)) (not_forgot (is_forgot_in c.generation (w.calls c.caller)) refl)))))
        where
          before : (b : Bool) → same_key (w.keys k) (key_of c) ≡ b → w.keys k ≡ key_of c
          before true same = same_key_is (w.keys k) (key_of c) same
          before false other =
              let led : was_led_on h k c ≡ true = subst (λ (q : Stage V). Good h w a q) at (sound.callers a).good in
              let isnt : w.keys k ≢ key_of c = λ same. true≢false (sym (subst (λ (v : KeyState). same_key v (key_of c) ≡ true) (sym same) (same_key_self (key_of c))) ∙ other) in
              let after : (run w (turn.Step a ∷ rest)).keys k ≢ key_of c = unnamed_run z k c (turn.Step a ∷ rest) h w (always_fair z p parts.0) led parts.1 isnt in
              absurd (after (ap (λ (x : World V). x.keys k) (sym (run_append (first_world z.callers z.first) p (turn.Step a ∷ rest))) ∙ same_key_is (u.keys k) (key_of c) found))

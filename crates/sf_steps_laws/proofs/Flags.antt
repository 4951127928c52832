-- what callers know of words of others that they saw lasts, and with it the invariant
use Rattle.std.proofs.Common.{◌≡◌, ℕ, Bool, true, false, ◌==◌, ◌||◌, List, [], ◌∷◌, ◌++◌, ◌⊎◌, inl, inr, Option, Some, None, refl, sym, ◌∙◌, ap, subst, append_assoc}
use Rattle.std.proofs.lemmas.List.{append-nil}
use Rattle.std.proofs.lemmas.Bool.{true≢false}
use Rattle.std.specs.Prelude.{cond, is_some}
use Rattle.sf_history.specs.declared.call.CallId.{CallId}
use Rattle.sf_history.specs.declared.event.Event.{Event}
use Rattle.sf_words.specs.declared.key_word.KeyState.{KeyState}
use Rattle.sf_words.specs.declared.key_word.KeyState.TheVariants.{Never, Names}
use Rattle.sf_words.specs.declared.call_word.LeaderState.{LeaderState}
use Rattle.sf_words.specs.declared.call_word.CallState.{CallState}
use Rattle.sf_words.specs.declared.call_word.CallState.TheVariants as word
use Rattle.sf_steps_laws.specs.declared.operation.Op.{Op}
use Rattle.sf_steps_laws.specs.declared.operation.Op.TheVariants as op
use Rattle.sf_steps_laws.specs.declared.operation.Stage.{Stage}
use Rattle.sf_steps_laws.specs.declared.operation.Stage.TheVariants.{Free, Leading, Holding, Polling, Seconding, Asking, Settling, Forgetting, Naming, Questioning}
use Rattle.sf_steps_laws.specs.declared.operation.AskStep.{AskStep}
use Rattle.sf_steps_laws.specs.declared.operation.AskStep.TheVariants as ask
use Rattle.sf_steps_laws.specs.declared.operation.SettleStep.{SettleStep}
use Rattle.sf_steps_laws.specs.declared.operation.SettleStep.TheVariants as settle
use Rattle.sf_steps_laws.specs.declared.operation.ForgetStep.{ForgetStep}
use Rattle.sf_steps_laws.specs.declared.operation.ForgetStep.TheVariants as forget
use Rattle.sf_steps_laws.specs.declared.operation.CurrentStep.{CurrentStep}
use Rattle.sf_steps_laws.specs.declared.operation.CurrentStep.TheVariants as current
use Rattle.sf_steps_laws.specs.declared.turn.Turn.{Turn}
use Rattle.sf_steps_laws.specs.declared.turn.Turn.TheVariants as turn
use Rattle.sf_steps_laws.specs.World.{World, with_stage, next_id, key_of, same_key, is_open_with, open_in, is_forgot_in, generation_in, is_full, is_spent, one_more}
use Rattle.sf_lists.specs.Functions.{put}
use Rattle.sf_steps_laws.specs.Askings.{prepares, looked, peeked, joiner, with_top, ready_own, after_lead, after_enter, ask_stepped}
use Rattle.sf_steps_laws.specs.Turns.{after_own_peek, at_members, after_close, cleared, own_peeked, settle_stepped, key_looked, call_looked, forget_looked, misses, peek_missed, forgot, forget_cleared, forget_stepped, polled, current_peeked, current_stepped, stepped, chan_started, started, freed, left, turned, run, at_count, after_count}
use Rattle.sf_steps_laws.specs.Events.{turn_events, adds}
use Rattle.sf_steps_laws.specs.Schedules.{Setting, was_led_on, IsTurn, IsScheduleFrom}
use Rattle.sf_steps_laws.proofs.Histories.{led_on_named, past_longer}
use Rattle.sf_lists.proofs.Functions.{put_cases}
use Rattle.sf_steps_laws.proofs.Compared.{open_with_is, forgot_in_is, forgot_is_in}
use Rattle.sf_steps_laws.proofs.Sound.{call_of, IsForgotWord, SawClosed, GoodForget, Good, FlagAt, ForgetFlag, GoodFlag, Sound, live_open}
use Rattle.sf_steps_laws.proofs.Leaders.{not_open_in, forgotten_not_now}
use Rattle.sf_steps_laws.proofs.Callers.{Fair, callers_turn, turn_size}
use Rattle.sf_steps_laws.proofs.AllTurns.{turn_sound}

-- a call word that says forgotten said so, or was open in that generation
abbrev Was : CallState → ℕ → Type 0
Was u g = IsForgotWord g u ⊎ ((s : LeaderState) × (u ≡ word.Open s) × (s.generation ≡ g))

-- a word that is put says nothing of forgetting
put_was : (f : ℕ → CallState) (i : ℕ) (v : CallState) (b g : ℕ) → (IsForgotWord g v → ⊥) → IsForgotWord g (put f i v b) → Was (f b) g
put_was f i v b g none = put_cases (λ (u : CallState). IsForgotWord g u → Was (f b) g) f i v b (λ here is. absurd (none is)) (λ other is. inl is)

module _ {V : Type 0} where
  lead_was : (w : World V) (a k : ℕ) (s : Option ℕ) (t : Bool) (b g : ℕ) → IsForgotWord g ((after_lead w a k s t).calls b) → Was (w.calls b) g
  lead_was w a k s false b g is = inl is
  lead_was w a k None true b g is = inl is
  lead_was w a k (Some j) true b g is = inl is

  enter_was : (w : World V) (a k : ℕ) (s : Option ℕ) (c : CallId) (seen : LeaderState) (t : Bool) (b g : ℕ) → IsForgotWord g ((after_enter w a k s c seen t).calls b) → Was (w.calls b) g
  enter_was w a k s c seen false b g is = inl is
  enter_was w a k s c seen true b g is = put_was w.calls c.caller (word.Open (with_top seen (joiner a s))) b g (λ x. x) is

  own_was : (w : World V) (a k : ℕ) (s : Option ℕ) (seen : KeyState) (f : Bool) (b g : ℕ) → IsForgotWord g ((ready_own w a k s seen f).calls b) → Was (w.calls b) g
  own_was w a k None seen f b g is = inl is
  own_was w a k (Some j) seen f b g is = put_was w.calls j (word.Listed (w.generations j)) b g (λ x. x) is

  ask_was : (w : World V) (a k : ℕ) (s : Option ℕ) (step : AskStep) (b g : ℕ) → IsForgotWord g ((ask_stepped w a k s step).calls b) → Was (w.calls b) g
  ask_was w a k s (ask.Look failed) b g is = inl is
  ask_was w a k s (ask.Peek c) b g is = inl is
  ask_was w a k s (ask.ReadyOwn seen f) b g is = own_was w a k s seen f b g is
  ask_was w a k s (ask.ReadyLead seen f) b g is = put_was w.calls a (word.Open (record { generation = w.generations a; own = is_some s; top = None })) b g (λ x. x) is
  ask_was w a k s (ask.Lead seen f) b g is = lead_was w a k s (same_key (w.keys k) seen) b g is
  ask_was w a k s (ask.ReadyJoin c seen) b g is = put_was w.calls (joiner a s) (word.Listed (w.generations (joiner a s))) b g (λ x. x) is
  ask_was w a k s (ask.Link c seen) b g is = inl is
  ask_was w a k s (ask.Enter c seen) b g is = enter_was w a k s c seen (is_open_with seen (w.calls c.caller)) b g is

  close_was : (w : World V) (a k i : ℕ) (own : Option CallId) (v : V) (seen : LeaderState) (t : Bool) (b g : ℕ) → IsForgotWord g ((after_close w a k i own v seen t).calls b) → Was (w.calls b) g
  close_was w a k i own v seen false b g is = inl is
  close_was w a k i own v seen true b g is = put_was w.calls a (word.Done seen) b g (λ x. x) is

  cleared_was : (w : World V) (k : ℕ) (c : CallId) (t : Bool) (b g : ℕ) → IsForgotWord g ((cleared w k c t).calls b) → Was (w.calls b) g
  cleared_was w k c false b g is = inl is
  cleared_was w k c true b g is = inl is

  settle_was : (w : World V) (a k i : ℕ) (own : Option CallId) (v : V) (step : SettleStep) (b g : ℕ) → IsForgotWord g ((settle_stepped w a k i own v step).calls b) → Was (w.calls b) g
  settle_was w a k i own v settle.Peek b g is = inl is
  settle_was w a k i own v (settle.Close seen) b g is = close_was w a k i own v seen (is_open_with seen (w.calls a)) b g is
  settle_was w a k i own v (settle.Clear top) b g is = cleared_was w k (call_of a i) (same_key (w.keys k) (Names a i false)) b g is
  settle_was w a k i own v (settle.Count n m top) b g is = inl is
  settle_was w a k i own v (settle.Follow joiners m) b g is = inl is
  settle_was w a k i own v (settle.PeekMember joiners m next) b g is = inl is
  settle_was w a k i own v (settle.Deliver joiners m next) b g is = put_was w.calls m.caller (word.Full m.generation) b g (λ x. x) is
  settle_was w a k i own v (settle.PeekOwn joiners) b g is = inl is
  settle_was w a k i own v (settle.DeliverOwn joiners m) b g is = put_was w.calls m.caller (word.Full m.generation) b g (λ x. x) is

  forgot_was : (w : World V) (a k : ℕ) (target : Option CallId) (c : CallId) (seen : LeaderState) (t : Bool) → is_open_with seen (w.calls c.caller) ≡ t → (b g : ℕ) → IsForgotWord g ((forgot w a k target c seen t).calls b) → Was (w.calls b) g
  forgot_was w a k target c seen false same b g is = inl is
  forgot_was w a k target c seen true same b g is =
      put_cases (λ (u : CallState). IsForgotWord g u → Was (w.calls b) g) w.calls c.caller (word.Forgot seen) b
      (λ here made. inr (seen, ap w.calls here ∙ open_with_is seen (w.calls c.caller) same, made)) (λ other was. inl was) is

  first_was : (w : World V) (a k : ℕ) (target : Option CallId) (c : CallId) (t : Bool) (b g : ℕ) → IsForgotWord g ((forget_cleared w a k target c t).calls b) → Was (w.calls b) g
  first_was w a k target c false b g is = inl is
  first_was w a k target c true b g is = inl is

  forget_was : (w : World V) (a k : ℕ) (target : Option CallId) (step : ForgetStep) (b g : ℕ) → IsForgotWord g ((forget_stepped w a k target step).calls b) → Was (w.calls b) g
  forget_was w a k target (forget.Look failed) b g is = inl is
  forget_was w a k target (forget.Peek c) b g is = inl is
  forget_was w a k target (forget.Close c seen) b g is = forgot_was w a k target c seen (is_open_with seen (w.calls c.caller)) refl b g is
  forget_was w a k target (forget.FirstClear c) b g is = first_was w a k target c (same_key (w.keys k) (key_of c)) b g is
  forget_was w a k target (forget.LastClear c) b g is = cleared_was w k c (same_key (w.keys k) (key_of c)) b g is

  poll_was : (w : World V) (a k i : ℕ) (c : CallId) (t : Bool) (b g : ℕ) → IsForgotWord g ((polled w a k i c t).calls b) → Was (w.calls b) g
  poll_was w a k i c false b g is = inl is
  poll_was w a k i c true b g is = inl is

  current_was : (w : World V) (a k : ℕ) (c : CallId) (step : CurrentStep) (b g : ℕ) → IsForgotWord g ((current_stepped w a k c step).calls b) → Was (w.calls b) g
  current_was w a k c current.Peek b g is = inl is
  current_was w a k c current.Look b g is = inl is

  step_was : (w : World V) (a : ℕ) (p : Stage V) (b g : ℕ) → IsForgotWord g ((stepped w a p).calls b) → Was (w.calls b) g
  step_was w a Free b g is = inl is
  step_was w a (Leading k i own) b g is = inl is
  step_was w a (Holding k i c) b g is = inl is
  step_was w a (Polling k i c) b g is = poll_was w a k i c (is_full (w.calls a)) b g is
  step_was w a (Seconding one) b g is = inl is
  step_was w a (Asking k s step) b g is = ask_was w a k s step b g is
  step_was w a (Settling k i own v step) b g is = settle_was w a k i own v step b g is
  step_was w a (Forgetting k target step) b g is = forget_was w a k target step b g is
  step_was w a (Naming k) b g is = inl is
  step_was w a (Questioning k c step) b g is = current_was w a k c step b g is

  either_calls : (w u : World V) (b : ℕ) (t : Bool) → u.calls b ≡ w.calls b → (cond t w u).calls b ≡ w.calls b
  either_calls w u b true same = refl
  either_calls w u b false same = same

  chan_calls : (w : World V) (a j k b : ℕ) (q : Stage V) (t : Bool) → (cond t w (chan_started w a j k q)).calls b ≡ w.calls b
  chan_calls w a j k b q true = refl
  chan_calls w a j k b Free false = either_calls w (with_stage (with_stage w j (Seconding a)) a (Asking k (Some j) (ask.Look false))) b ((j == a) || is_spent w j) refl
  chan_calls w a j k b _ false = refl

  start_calls : (w : World V) (a b : ℕ) (o : Op V) (p : Stage V) → (started w a o p).calls b ≡ w.calls b
  start_calls w a b (op.Ask k) Free = either_calls w (with_stage w a (Asking k None (ask.Look false))) b (is_spent w a) refl
  start_calls w a b (op.Chan j k) Free = chan_calls w a j k b (w.stages j) (is_spent w a)
  start_calls w a b (op.Settle v) (Leading k g own) = refl
  start_calls w a b (op.Forget k) Free = refl
  start_calls w a b (op.ForgetCall k d) Free = refl
  start_calls w a b (op.Named k) Free = refl
  start_calls w a b op.Poll (Holding k g c) = refl
  start_calls w a b (op.Current k c) Free = refl
  start_calls w a b _ _ = refl

  freed_calls : (w : World V) (a b : ℕ) (s : Option ℕ) → (freed w a s).calls b ≡ w.calls b
  freed_calls w a b None = refl
  freed_calls w a b (Some j) = refl

  leave_calls : (w : World V) (a b : ℕ) (p : Stage V) → (left w a p).calls b ≡ w.calls b
  leave_calls w a b (Asking k s (ask.Look true)) = freed_calls w a b s
  leave_calls w a b (Forgetting k target (forget.Look true)) = refl
  leave_calls w a b _ = refl

  -- only a Forget's close of an open word makes a word forgotten
  pub turn_was : (w : World V) (t : Turn V) (b g : ℕ) → IsForgotWord g ((turned w t).calls b) → Was (w.calls b) g
  turn_was w (turn.Start a o) b g is = inl (subst (IsForgotWord g) (start_calls w a b o (w.stages a)) is)
  turn_was w (turn.Step a) b g is = step_was w a (w.stages a) b g is
  turn_was w (turn.Leave a) b g is = inl (subst (IsForgotWord g) (leave_calls w a b (w.stages a)) is)

  -- it lasts
  flag_stays : (z : Setting) (h : List (Event ℕ V)) (w : World V) (t : Turn V) → Sound z.first h w → Sound z.first (h ++ turn_events w t) (turned w t) → (k : ℕ) (seen : KeyState) (f : Bool) → SawClosed h k seen → FlagAt h w k seen f
      → FlagAt (h ++ turn_events w t) (turned w t) k seen f
  flag_stays z h w t sound after k Never f saw flag = tt
  flag_stays z h w t sound after k (Names b g true) f saw flag = tt
  flag_stays z h w t sound after k (Names b g false) true saw flag = past_longer k (call_of b g) (turn_events w t) h after.past.legal (led_on_named h k (call_of b g) saw.0) flag
  flag_stays z h w t sound after k (Names b g false) false saw flag = λ is. elim (turn_was w t b g is) [
    | inl was ↦ flag was
    | inr closed ↦ saw.1 (live_open z.first h w k (call_of b g) closed.0 sound saw.0 closed.1 closed.2)
  ]

  module _ (z : Setting) (h : List (Event ℕ V)) (w : World V) (t : Turn V) (sound : Sound z.first h w) (after : Sound z.first (h ++ turn_events w t) (turned w t)) (flags : (a : ℕ) → GoodFlag h w (w.stages a)) where
    -- the flags of the stages before the turn
    old_forget : (k : ℕ) (step : ForgetStep) (target : Option CallId) → GoodForget h k step → ForgetFlag h w k step target → ForgetFlag (h ++ turn_events w t) (turned w t) k step target
    old_forget k (forget.Look failed) target good flag = tt
    old_forget k (forget.Peek c) target good flag = tt
    old_forget k (forget.Close c seen) target good flag = tt
    old_forget k (forget.FirstClear c) None good flag = tt
    old_forget k (forget.FirstClear c) (Some d) good flag = flag_stays z h w t sound after k (key_of c) false good flag
    old_forget k (forget.LastClear c) target good flag = tt

    old_at : (a : ℕ) (p : Stage V) → Good h w a p → GoodFlag h w p → GoodFlag (h ++ turn_events w t) (turned w t) p
    old_at a (Asking k s (ask.ReadyOwn seen f)) good flag = flag_stays z h w t sound after k seen f good.1 flag
    old_at a (Asking k s (ask.ReadyLead seen f)) good flag = flag_stays z h w t sound after k seen f good.1.0 flag
    old_at a (Asking k s (ask.Lead seen f)) good flag = flag_stays z h w t sound after k seen f good.1.0 flag
    old_at a (Forgetting k target step) good flag = old_forget k step target good flag
    old_at a _ good flag = tt

    old : (a : ℕ) → GoodFlag (h ++ turn_events w t) (turned w t) (w.stages a)
    old a = old_at a (w.stages a) (sound.callers a).good (flags a)

    abbrev Q : Stage V → Type 0
    Q p = GoodFlag (h ++ turn_events w t) (turned w t) p

    put_flag : (f : ℕ → Stage V) (b : ℕ) (v : Stage V) → Q v → ((a : ℕ) → Q (f a)) → (a : ℕ) → Q (put f b v a)
    put_flag f b v new were a = put_cases (λ (q : Stage V). Q q) f b v a (λ here. new) (λ other. were a)

    prepares_flag : (k : ℕ) (s : Option ℕ) (seen : KeyState) (f : Bool) → FlagAt (h ++ turn_events w t) (turned w t) k seen f → Q (Asking k s (prepares s seen f))
    prepares_flag k None seen f flag = flag
    prepares_flag k (Some j) seen f flag = flag

    looked_flag : (k : ℕ) (s : Option ℕ) (v : KeyState) → Q (Asking k s (looked s v))
    looked_flag k s Never = prepares_flag k s Never false tt
    looked_flag k s (Names b g true) = prepares_flag k s (Names b g true) false tt
    looked_flag k s (Names b g false) = tt

    flag_now : (k : ℕ) (c : CallId) (f : Bool) → is_forgot_in c.generation (w.calls c.caller) ≡ f → FlagAt h w k (key_of c) f
    flag_now k c true is = forgotten_not_now z.first h w c.caller k c.generation sound (forgot_in_is c.generation (w.calls c.caller) is)
    flag_now k c false is = λ forgot. true≢false (sym (forgot_is_in c.generation (w.calls c.caller) forgot) ∙ is)

    peeked_flag : (k : ℕ) (s : Option ℕ) (c : CallId) → was_led_on h k c ≡ true → (o : Option LeaderState) → open_in c.generation (w.calls c.caller) ≡ o → Q (Asking k s (peeked s c (is_forgot_in c.generation (w.calls c.caller)) o))
    peeked_flag k s c led (Some seen) is = tt
    peeked_flag k s c led None is =
        let f : Bool = is_forgot_in c.generation (w.calls c.caller) in
        prepares_flag k s (key_of c) f (flag_stays z h w t sound after k (key_of c) f (led, not_open_in z.first h w k c sound is) (flag_now k c f refl))

    members_flag : (k g : ℕ) (own : Option CallId) (v : V) (joiners : ℕ) (top : Option ℕ) → Q (at_members k g own v joiners top)
    members_flag k g None v joiners None = tt
    members_flag k g (Some m) v joiners None = tt
    members_flag k g own v joiners (Some m) = tt

    count_flag : (k g : ℕ) (own : Option CallId) (v : V) (top : Option ℕ) → Q (at_count k g own v top)
    count_flag k g None v None = tt
    count_flag k g (Some m) v None = tt
    count_flag k g own v (Some m) = tt

    lead_flag : (a k : ℕ) (s : Option ℕ) (b : Bool) (x : ℕ) → Q ((after_lead w a k s b).stages x)
    lead_flag a k s false x = put_flag w.stages a (Asking k s (ask.Look true)) tt old x
    lead_flag a k None true x = put_flag w.stages a (Leading k (w.generations a) None) tt old x
    lead_flag a k (Some j) true x =
        put_flag (put w.stages j (Holding k (w.generations j) (next_id w a))) a (Leading k (w.generations a) (Some (next_id w j))) tt
        (put_flag w.stages j (Holding k (w.generations j) (next_id w a)) tt old) x

    enter_flag : (a k : ℕ) (s : Option ℕ) (c : CallId) (seen : LeaderState) (b : Bool) (x : ℕ) → Q ((after_enter w a k s c seen b).stages x)
    enter_flag a k s c seen false x = put_flag w.stages a (Asking k s (ask.Look true)) tt old x
    enter_flag a k s c seen true x = put_flag (put w.stages a Free) (joiner a s) (Holding k (w.generations (joiner a s)) c) tt (put_flag w.stages a Free tt old) x

    own_flag : (a k : ℕ) (s : Option ℕ) (seen : KeyState) (f : Bool) → w.stages a ≡ Asking k s (ask.ReadyOwn seen f) → (x : ℕ) → Q ((ready_own w a k s seen f).stages x)
    own_flag a k None seen f at x = old x
    own_flag a k (Some j) seen f at x = put_flag w.stages a (Asking k (Some j) (ask.ReadyLead seen f)) (subst (λ (q : Stage V). Q q) at (old a)) old x

    ask_flag : (a k : ℕ) (s : Option ℕ) (step : AskStep) → w.stages a ≡ Asking k s step → (x : ℕ) → Q ((ask_stepped w a k s step).stages x)
    ask_flag a k s (ask.Look failed) at x = put_flag w.stages a (Asking k s (looked s (w.keys k))) (looked_flag k s (w.keys k)) old x
    ask_flag a k s (ask.Peek c) at x =
        let good : Good h w a (Asking k s (ask.Peek c)) = subst (λ (q : Stage V). Good h w a q) at (sound.callers a).good in
        put_flag w.stages a (Asking k s (peeked s c (is_forgot_in c.generation (w.calls c.caller)) (open_in c.generation (w.calls c.caller)))) (peeked_flag k s c good.1 (open_in c.generation (w.calls c.caller)) refl) old x
    ask_flag a k s (ask.ReadyOwn seen f) at x = own_flag a k s seen f at x
    ask_flag a k s (ask.ReadyLead seen f) at x = put_flag w.stages a (Asking k s (ask.Lead seen f)) (subst (λ (q : Stage V). Q q) at (old a)) old x
    ask_flag a k s (ask.Lead seen f) at x = lead_flag a k s (same_key (w.keys k) seen) x
    ask_flag a k s (ask.ReadyJoin c seen) at x = put_flag w.stages a (Asking k s (ask.Link c seen)) tt old x
    ask_flag a k s (ask.Link c seen) at x = put_flag w.stages a (Asking k s (ask.Enter c seen)) tt old x
    ask_flag a k s (ask.Enter c seen) at x = enter_flag a k s c seen (is_open_with seen (w.calls c.caller)) x

    close_flag : (a k g : ℕ) (own : Option CallId) (v : V) (seen : LeaderState) (b : Bool) (x : ℕ) → Q ((after_close w a k g own v seen b).stages x)
    close_flag a k g own v seen false x = put_flag w.stages a (Settling k g own v settle.Peek) tt old x
    close_flag a k g own v seen true x = put_flag w.stages a (at_count k g own v seen.top) (count_flag k g own v seen.top) old x

    cleared_flag : (a i : ℕ) (c : CallId) (v : Stage V) → Q v → (b : Bool) (x : ℕ) → Q ((with_stage (cleared w i c b) a v).stages x)
    cleared_flag a i c v new false x = put_flag w.stages a v new old x
    cleared_flag a i c v new true x = put_flag w.stages a v new old x

    settle_flag : (a k g : ℕ) (own : Option CallId) (v : V) (step : SettleStep) (x : ℕ) → Q ((settle_stepped w a k g own v step).stages x)
    settle_flag a k g own v settle.Peek x = put_flag w.stages a (Settling k g own v (after_own_peek (w.calls a))) tt old x
    settle_flag a k g own v (settle.Close seen) x = close_flag a k g own v seen (is_open_with seen (w.calls a)) x
    settle_flag a k g own v (settle.Clear top) x = cleared_flag a k (call_of a g) (at_count k g own v top) (count_flag k g own v top) (same_key (w.keys k) (Names a g false)) x
    settle_flag a k g own v (settle.Count n m top) x = put_flag w.stages a (Settling k g own v (after_count (one_more w.callers n) top (w.nexts m))) tt old x
    settle_flag a k g own v (settle.Follow joiners m) x = put_flag w.stages a (Settling k g own v (settle.PeekMember joiners m (w.nexts m))) tt old x
    settle_flag a k g own v (settle.PeekMember joiners m next) x = put_flag w.stages a (Settling k g own v (settle.Deliver joiners (call_of m (generation_in (w.calls m))) next)) tt old x
    settle_flag a k g own v (settle.Deliver joiners m next) x = put_flag w.stages a (at_members k g own v joiners next) (members_flag k g own v joiners next) old x
    settle_flag a k g own v (settle.PeekOwn joiners) x = put_flag w.stages a (Settling k g own v (own_peeked w joiners own)) tt old x
    settle_flag a k g own v (settle.DeliverOwn joiners m) x = put_flag w.stages a Free tt old x

    key_looked_flag : (k : ℕ) (v : KeyState) → Q (key_looked k v)
    key_looked_flag k Never = tt
    key_looked_flag k (Names b g true) = tt
    key_looked_flag k (Names b g false) = tt

    call_looked_flag : (k : ℕ) (c : CallId) (b : Bool) → Q (call_looked k c b)
    call_looked_flag k c false = tt
    call_looked_flag k c true = tt

    looked_on_flag : (k : ℕ) (target : Option CallId) (v : KeyState) → Q (forget_looked k target v)
    looked_on_flag k None v = key_looked_flag k v
    looked_on_flag k (Some c) v = call_looked_flag k c (same_key v (key_of c))

    -- a forget of one call that goes on from its peek saw the call not forgotten
    missed_flag : (k : ℕ) (target : Option CallId) (c : CallId) → was_led_on h k c ≡ true → (o : Option LeaderState) → open_in c.generation (w.calls c.caller) ≡ o → (b : Bool) → misses target (is_forgot_in c.generation (w.calls c.caller)) ≡ b
        → Q (peek_missed k target c o b)
    missed_flag k target c led o is true missed = tt
    missed_flag k None c led None is false missed = tt
    missed_flag k None c led (Some seen) is false missed = tt
    missed_flag k (Some d) c led (Some seen) is false missed = tt
    missed_flag k (Some d) c led None is false missed = flag_stays z h w t sound after k (key_of c) false (led, not_open_in z.first h w k c sound is) (flag_now k c false missed)

    forgot_flag : (a k : ℕ) (target : Option CallId) (c : CallId) (seen : LeaderState) (b : Bool) (x : ℕ) → Q ((forgot w a k target c seen b).stages x)
    forgot_flag a k target c seen false x = put_flag w.stages a (Forgetting k target (forget.Look true)) tt old x
    forgot_flag a k target c seen true x = put_flag w.stages a (Forgetting k target (forget.LastClear c)) tt old x

    first_flag : (a k : ℕ) (target : Option CallId) (c : CallId) (b : Bool) (x : ℕ) → Q ((forget_cleared w a k target c b).stages x)
    first_flag a k target c false x = put_flag w.stages a (Forgetting k target (forget.Look true)) tt old x
    first_flag a k target c true x = put_flag w.stages a Free tt old x

    forget_flag : (a k : ℕ) (target : Option CallId) (step : ForgetStep) → w.stages a ≡ Forgetting k target step → (x : ℕ) → Q ((forget_stepped w a k target step).stages x)
    forget_flag a k target (forget.Look failed) at x = put_flag w.stages a (forget_looked k target (w.keys k)) (looked_on_flag k target (w.keys k)) old x
    forget_flag a k target (forget.Peek c) at x =
        let good : GoodForget h k (forget.Peek c) = subst (λ (q : Stage V). Good h w a q) at (sound.callers a).good in
        let missed : Bool = misses target (is_forgot_in c.generation (w.calls c.caller)) in
        put_flag w.stages a (peek_missed k target c (open_in c.generation (w.calls c.caller)) missed) (missed_flag k target c good (open_in c.generation (w.calls c.caller)) refl missed refl) old x
    forget_flag a k target (forget.Close c seen) at x = forgot_flag a k target c seen (is_open_with seen (w.calls c.caller)) x
    forget_flag a k target (forget.FirstClear c) at x = first_flag a k target c (same_key (w.keys k) (key_of c)) x
    forget_flag a k target (forget.LastClear c) at x = cleared_flag a k c Free tt (same_key (w.keys k) (key_of c)) x

    poll_flag : (a k g : ℕ) (c : CallId) (b : Bool) (x : ℕ) → Q ((polled w a k g c b).stages x)
    poll_flag a k g c false x = put_flag w.stages a (Holding k g c) tt old x
    poll_flag a k g c true x = put_flag w.stages a Free tt old x

    peeked_on_flag : (k : ℕ) (c : CallId) (b : Bool) → Q (current_peeked k c b)
    peeked_on_flag k c false = tt
    peeked_on_flag k c true = tt

    current_flag : (a k : ℕ) (c : CallId) (step : CurrentStep) (x : ℕ) → Q ((current_stepped w a k c step).stages x)
    current_flag a k c current.Peek x = put_flag w.stages a (current_peeked k c (is_forgot_in c.generation (w.calls c.caller))) (peeked_on_flag k c (is_forgot_in c.generation (w.calls c.caller))) old x
    current_flag a k c current.Look x = put_flag w.stages a Free tt old x

    step_flag : (a : ℕ) (p : Stage V) → w.stages a ≡ p → (x : ℕ) → Q ((stepped w a p).stages x)
    step_flag a Free at x = old x
    step_flag a (Leading k g own) at x = old x
    step_flag a (Holding k g c) at x = old x
    step_flag a (Polling k g c) at x = poll_flag a k g c (is_full (w.calls a)) x
    step_flag a (Seconding one) at x = old x
    step_flag a (Asking k s step) at x = ask_flag a k s step at x
    step_flag a (Settling k g own v step) at x = settle_flag a k g own v step x
    step_flag a (Forgetting k target step) at x = forget_flag a k target step at x
    step_flag a (Naming k) at x = put_flag w.stages a Free tt old x
    step_flag a (Questioning k c step) at x = current_flag a k c step x

    either_flag : (u : World V) (b : Bool) → ((x : ℕ) → Q (u.stages x)) → (x : ℕ) → Q ((cond b w u).stages x)
    either_flag u true new x = old x
    either_flag u false new x = new x

    chan_flag : (a j k : ℕ) (q : Stage V) (x : ℕ) → Q ((chan_started w a j k q).stages x)
    chan_flag a j k Free x =
        either_flag (with_stage (with_stage w j (Seconding a)) a (Asking k (Some j) (ask.Look false))) ((j == a) || is_spent w j)
        (put_flag (put w.stages j (Seconding a)) a (Asking k (Some j) (ask.Look false)) tt (put_flag w.stages j (Seconding a) tt old)) x
    chan_flag a j k _ x = old x

    start_flag : (a : ℕ) (o : Op V) (p : Stage V) (x : ℕ) → Q ((started w a o p).stages x)
    start_flag a (op.Ask k) Free x = either_flag (with_stage w a (Asking k None (ask.Look false))) (is_spent w a) (put_flag w.stages a (Asking k None (ask.Look false)) tt old) x
    start_flag a (op.Chan j k) Free x = either_flag (chan_started w a j k (w.stages j)) (is_spent w a) (chan_flag a j k (w.stages j)) x
    start_flag a (op.Settle v) (Leading k g own) x = put_flag w.stages a (Settling k g own v settle.Peek) tt old x
    start_flag a (op.Forget k) Free x = put_flag w.stages a (Forgetting k None (forget.Look false)) tt old x
    start_flag a (op.ForgetCall k d) Free x = put_flag w.stages a (Forgetting k (Some d) (forget.Look false)) tt old x
    start_flag a (op.Named k) Free x = put_flag w.stages a (Naming k) tt old x
    start_flag a op.Poll (Holding k g c) x = put_flag w.stages a (Polling k g c) tt old x
    start_flag a (op.Current k c) Free x = put_flag w.stages a (Questioning k c current.Peek) tt old x
    start_flag a _ _ x = old x

    freed_flag : (a : ℕ) (s : Option ℕ) (x : ℕ) → Q ((freed w a s).stages x)
    freed_flag a None x = put_flag w.stages a Free tt old x
    freed_flag a (Some j) x = put_flag (put w.stages j Free) a Free tt (put_flag w.stages j Free tt old) x

    leave_flag : (a : ℕ) (p : Stage V) (x : ℕ) → Q ((left w a p).stages x)
    leave_flag a (Asking k s (ask.Look true)) x = freed_flag a s x
    leave_flag a (Forgetting k target (forget.Look true)) x = put_flag w.stages a Free tt old x
    leave_flag a _ x = old x

  turn_flag : (z : Setting) (h : List (Event ℕ V)) (w : World V) (t : Turn V) → Sound z.first h w → Sound z.first (h ++ turn_events w t) (turned w t) → ((a : ℕ) → GoodFlag h w (w.stages a)) → (x : ℕ) → GoodFlag (h ++ turn_events w t) (turned w t) ((turned w t).stages x)
  turn_flag z h w (turn.Start a o) sound after flags x = start_flag z h w (turn.Start a o) sound after flags a o (w.stages a) x
  turn_flag z h w (turn.Step a) sound after flags x = step_flag z h w (turn.Step a) sound after flags a (w.stages a) refl x
  turn_flag z h w (turn.Leave a) sound after flags x = leave_flag z h w (turn.Leave a) sound after flags a (w.stages a) x

  -- the invariant goes on, with what callers know of words that they saw
  pub turn_fair : (z : Setting) (h : List (Event ℕ V)) (w : World V) (t : Turn V) → Fair z h w → IsTurn z h w t → Fair z (h ++ turn_events w t) (turned w t)
  turn_fair z h w t fair allowed =
      let after = turn_sound z h w t fair allowed in
      record {
        sound = after;
        are = callers_turn z h w t fair.sound allowed fair.are;
        size = turn_size w t ∙ fair.size;
        flags = turn_flag z h w t fair.sound after fair.flags;
      }

  pub run_fair : (z : Setting) (ts : List (Turn V)) (h : List (Event ℕ V)) (w : World V) → Fair z h w → IsScheduleFrom z h w ts → Fair z (h ++ adds w ts) (run w ts)
  run_fair z [] h w fair allowed = subst (λ (q : List (Event ℕ V)). Fair z q w) (sym (append-nil h)) fair
  run_fair z (t ∷ ts) h w fair allowed =
      subst (λ (q : List (Event ℕ V)). Fair z q (run (turned w t) ts)) (append_assoc h (turn_events w t) (adds (turned w t) ts))
      (run_fair z ts (h ++ turn_events w t) (turned w t) (turn_fair z h w t fair allowed.0) allowed.1)

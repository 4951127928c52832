-- every turn keeps the invariant
use Rattle.std.proofs.Common.{◌≡◌, ◌≢◌, ℕ, Bool, true, false, ◌==◌, ◌||◌, List, ◌++◌, inl, inr, Option, Some, None, refl, sym, ◌∙◌, ap, subst, eq-eqb}
use Rattle.std.proofs.lemmas.Bool.{or_parts, true≢false}
use Rattle.std.specs.Prelude.{cond}
use Rattle.sf_history.specs.declared.call.CallId.{CallId}
use Rattle.sf_history.specs.declared.event.Event.{Event}
use Rattle.sf_words.specs.declared.key_word.KeyState.TheVariants.{Names}
use Rattle.sf_steps_laws.specs.declared.operation.Op.{Op}
use Rattle.sf_steps_laws.specs.declared.operation.Op.TheVariants as op
use Rattle.sf_steps_laws.specs.declared.operation.Stage.{Stage}
use Rattle.sf_steps_laws.specs.declared.operation.Stage.TheVariants.{Free, Leading, Holding, Polling, Seconding, Asking, Settling, Forgetting, Naming, Questioning}
use Rattle.sf_steps_laws.specs.declared.operation.AskStep.{AskStep}
use Rattle.sf_steps_laws.specs.declared.operation.AskStep.TheVariants as ask
use Rattle.sf_steps_laws.specs.declared.operation.SettleStep.{SettleStep}
use Rattle.sf_steps_laws.specs.declared.operation.SettleStep.TheVariants as settle
use Rattle.sf_steps_laws.specs.declared.operation.ForgetStep.TheVariants as forget
use Rattle.sf_steps_laws.specs.declared.operation.CurrentStep.{CurrentStep}
use Rattle.sf_steps_laws.specs.declared.operation.CurrentStep.TheVariants as current
use Rattle.sf_steps_laws.specs.declared.turn.Turn.{Turn}
use Rattle.sf_steps_laws.specs.declared.turn.Turn.TheVariants as turn
use Rattle.sf_steps_laws.specs.World.{World, with_stage, is_spent, same_key, is_open_with, is_forgot_in, is_full}
use Rattle.sf_steps_laws.specs.Askings.{ready_own, ask_stepped}
use Rattle.sf_steps_laws.specs.Turns.{cleared, settle_stepped, current_peeked, current_stepped, stepped, chan_started, started, left, freed, turned, at_count}
use Rattle.sf_steps_laws.specs.Events.{ask_events, settle_events, step_events, turn_events}
use Rattle.sf_steps_laws.specs.Schedules.{Setting, AsksOfLed, was_led_on, IsTurn}
use Rattle.sf_steps_laws.proofs.Growing.{grows_none}
use Rattle.sf_lists.proofs.Functions.{put_here, put_else}
use Rattle.sf_steps_laws.proofs.Sound.{call_of, unsettled, uncleared, ticket, GoodSecond, GoodAsk, Good, GoodFlag, Caller, Sound}
use Rattle.sf_steps_laws.proofs.Kept.{Same, sound_after}
use Rattle.sf_steps_laws.proofs.Quiet.{same_stage, same_then, Two, split_two, Idle, idle_self, idle_second, idle_spared, not_held, not_owing, key_kept, debt_same, still, quiet}
use Rattle.sf_steps_laws.proofs.AskSteps.{second_apart, look_sound, peek_sound, ready_own_sound, ready_lead_sound, ready_join_sound, link_sound}
use Rattle.sf_steps_laws.proofs.LeadSteps.{lead_either}
use Rattle.sf_steps_laws.proofs.EnterSteps.{enter_either}
use Rattle.sf_steps_laws.proofs.SettleSteps.{FewMembers, settle_started, peek_either, close_either, clear_either}
use Rattle.sf_steps_laws.proofs.DeliverSteps.{count_sound, follow_sound, peek_member_sound, deliver_sound, peek_own_sound, deliver_own_sound, poll_either, poll_started}
use Rattle.sf_steps_laws.proofs.ForgetSteps.{forget_sound}
use Rattle.sf_steps_laws.proofs.Callers.{Fair, few_members}

module _ {V : Type 0} where
  peeked_either : (first : ℕ) (h : List (Event ℕ V)) (w : World V) (a k : ℕ) (c : CallId) → w.stages a ≡ Questioning k c current.Peek → Sound first h w → (b : Bool) → Sound first h (with_stage w a (current_peeked k c b))
  peeked_either first h w a k c at sound true = quiet first h w a (Questioning k c current.Peek) Free at sound refl (λ b x. cc) refl (λ i g key owes. cc) tt
  peeked_either first h w a k c at sound false =
      let led : was_led_on h k c ≡ true = subst (λ (q : Stage V). Good h w a q) at (sound.callers a).good in
      quiet first h w a (Questioning k c current.Peek) (Questioning k c current.Look) at sound refl (λ b x. cc) refl (λ i g key owes. cc) led

  current_sound : (first : ℕ) (h : List (Event ℕ V)) (w : World V) (a k : ℕ) (c : CallId) (step : CurrentStep) → w.stages a ≡ Questioning k c step → Sound first h w → Sound first h (current_stepped w a k c step)
  current_sound first h w a k c current.Peek at sound = peeked_either first h w a k c at sound (is_forgot_in c.generation (w.calls c.caller))
  current_sound first h w a k c current.Look at sound = quiet first h w a (Questioning k c current.Look) Free at sound refl (λ b x. cc) refl (λ i g key owes. cc) tt

  ask_sound : (first : ℕ) (h : List (Event ℕ V)) (w : World V) (a k : ℕ) (s : Option ℕ) (step : AskStep) → w.stages a ≡ Asking k s step → Sound first h w → Sound first (h ++ ask_events w a k s step) (ask_stepped w a k s step)
  ask_sound first h w a k s (ask.Look failed) at sound = still first h (ask_stepped w a k s (ask.Look failed)) (look_sound first h w a k s failed at sound)
  ask_sound first h w a k s (ask.Peek c) at sound = still first h (ask_stepped w a k s (ask.Peek c)) (peek_sound first h w a k s c at sound)
  ask_sound first h w a k s (ask.ReadyOwn seen f) at sound = still first h (ready_own w a k s seen f) (ready_own_sound first h w a k s seen f at sound)
  ask_sound first h w a k s (ask.ReadyLead seen f) at sound = still first h (ask_stepped w a k s (ask.ReadyLead seen f)) (ready_lead_sound first h w a k s seen f at sound)
  ask_sound first h w a k s (ask.Lead seen f) at sound = lead_either first h w a k s seen f at sound (same_key (w.keys k) seen) refl
  ask_sound first h w a k s (ask.ReadyJoin c seen) at sound = still first h (ask_stepped w a k s (ask.ReadyJoin c seen)) (ready_join_sound first h w a k s c seen at sound)
  ask_sound first h w a k s (ask.Link c seen) at sound = still first h (ask_stepped w a k s (ask.Link c seen)) (link_sound first h w a k s c seen at sound)
  ask_sound first h w a k s (ask.Enter c seen) at sound = enter_either first h w a k s c seen at sound (is_open_with seen (w.calls c.caller)) refl

  settle_sound : (first : ℕ) (h : List (Event ℕ V)) (w : World V) (a k g : ℕ) (own : Option CallId) (v : V) (step : SettleStep) → w.stages a ≡ Settling k g own v step → Sound first h w → FewMembers h w a
      → Sound first (h ++ settle_events w a (call_of a g) own v step) (settle_stepped w a k g own v step)
  settle_sound first h w a k g own v settle.Peek at sound most = peek_either first h w a k g own v at sound most (w.calls a) refl
  settle_sound first h w a k g own v (settle.Close seen) at sound most = close_either first h w a k g own v seen at sound most (is_open_with seen (w.calls a)) refl
  settle_sound first h w a k g own v (settle.Clear top) at sound most =
      let tested : Bool = same_key (w.keys k) (Names a g false) in
      still first h (with_stage (cleared w k (call_of a g) tested) a (at_count k g own v top)) (clear_either first h w a k g own v top at sound tested refl)
  settle_sound first h w a k g own v (settle.Count n m top) at sound most = still first h (settle_stepped w a k g own v (settle.Count n m top)) (count_sound first h w a k g own v n m top at sound)
  settle_sound first h w a k g own v (settle.Follow joiners m) at sound most = still first h (settle_stepped w a k g own v (settle.Follow joiners m)) (follow_sound first h w a k g own v joiners m at sound)
  settle_sound first h w a k g own v (settle.PeekMember joiners m next) at sound most = still first h (settle_stepped w a k g own v (settle.PeekMember joiners m next)) (peek_member_sound first h w a k g own v joiners m next at sound)
  settle_sound first h w a k g own v (settle.Deliver joiners m next) at sound most = deliver_sound first h w a k g own v joiners m next at sound
  settle_sound first h w a k g own v (settle.PeekOwn joiners) at sound most = still first h (settle_stepped w a k g own v (settle.PeekOwn joiners)) (peek_own_sound first h w a k g own v joiners at sound)
  settle_sound first h w a k g own v (settle.DeliverOwn joiners m) at sound most = deliver_own_sound first h w a k g own v joiners m at sound

  step_sound : (first : ℕ) (h : List (Event ℕ V)) (w : World V) (a : ℕ) (p : Stage V) → w.stages a ≡ p → Sound first h w → GoodFlag h w p → FewMembers h w a → Sound first (h ++ step_events w a p) (stepped w a p)
  step_sound first h w a Free at sound flag most = still first h w sound
  step_sound first h w a (Leading k g own) at sound flag most = still first h w sound
  step_sound first h w a (Holding k g c) at sound flag most = still first h w sound
  step_sound first h w a (Polling k g c) at sound flag most = still first h (stepped w a (Polling k g c)) (poll_either first h w a k g c at sound (is_full (w.calls a)) refl)
  step_sound first h w a (Seconding one) at sound flag most = still first h w sound
  step_sound first h w a (Asking k s step) at sound flag most = ask_sound first h w a k s step at sound
  step_sound first h w a (Settling k g own v step) at sound flag most = settle_sound first h w a k g own v step at sound most
  step_sound first h w a (Forgetting k target step) at sound flag most = forget_sound first h w a k target step at sound flag
  step_sound first h w a (Naming k) at sound flag most = still first h (with_stage w a Free) (quiet first h w a (Naming k) Free at sound refl (λ b x. cc) refl (λ i g key owes. cc) tt)
  step_sound first h w a (Questioning k c step) at sound flag most = still first h (current_stepped w a k c step) (current_sound first h w a k c step at sound)

  -- two callers who lead nothing and hold no ticket change their stages together
  two_staged : (first : ℕ) (h : List (Event ℕ V)) (w : World V) (a b : ℕ) (p q : Stage V) → Sound first h w → Idle w a a → Idle w a b → b ≢ a → Good h (with_stage (with_stage w b q) a p) a p → Good h (with_stage (with_stage w b q) a p) b q
      → Sound first h (with_stage (with_stage w b q) a p)
  two_staged first h w a b p q sound first_idle second_idle apart good_first good_second =
      let w' : World V = with_stage (with_stage w b q) a p in
      let untouched : (z : ℕ) → z ≢ a → z ≢ b → Same w w' z = λ z other far. same_then w (with_stage w b q) w' z (same_stage w b q z far) (same_stage (with_stage w b q) a p z other) in
      let stage_there : w'.stages b ≡ q = put_else (with_stage w b q).stages a p b apart ∙ put_here w.stages b q in
      sound_after first a (Two a b) h w h w' sound (record {
        bound = refl;
        past = sound.past;
        grows = grows_none a h;
        mine = inl refl;
        split = split_two w w' a b untouched;
        spared = λ x z free one. elim one [
          | inl here ↦ idle_spared w w' a a first_idle x z (λ e. free (inl e)) here
          | inr there ↦ idle_spared w w' a b second_idle x z (λ e. free (inl e)) there
        ];
        members = λ c free. refl;
        kept_open = λ k c free is. is;
        callers = λ z one. elim one [
          | inl here ↦ subst (λ (n : ℕ). Caller h w' n) (sym here) (record {
            good = subst (λ (s : Stage V). Good h w' a s) (sym (put_here (with_stage w b q).stages a p)) good_first;
            live = (sound.callers a).live;
            forgot = (sound.callers a).forgot;
            empty = λ none. (sound.callers a).empty first_idle.no_ticket;
          })
          | inr there ↦ subst (λ (n : ℕ). Caller h w' n) (sym there) (record {
            good = subst (λ (s : Stage V). Good h w' b s) (sym stage_there) good_second;
            live = (sound.callers b).live;
            forgot = (sound.callers b).forgot;
            empty = λ none. (sound.callers b).empty second_idle.no_ticket;
          })
        ];
        keys = λ k. key_kept h h w w' k (w.keys k) (sound.keys k) (λ c is. is) refl
            (λ x g is forgot debt. debt_same w w' x k g (untouched x (not_owing w a x (k, g) first_idle.no_debt debt) (not_owing w b x (k, g) second_idle.no_debt debt)) forgot debt);
        held = λ k c one is. elim one [
          | inl here ↦ absurd (not_held first h w a k c sound first_idle.no_call is here)
          | inr there ↦ absurd (not_held first h w b k c sound second_idle.no_call is there)
        ];
      })

  -- a free caller
  idle_free : (w : World V) (a b : ℕ) → w.stages b ≡ Free → Idle w a b
  idle_free w a b at = record {
    no_ticket = ap ticket at;
    no_call = ap unsettled at;
    no_debt = ap uncleared at;
    second = λ x is. let clash : Free ≡ Seconding x = sym at ∙ is in cc;
  }

  ask_started : (first : ℕ) (h : List (Event ℕ V)) (w : World V) (a k : ℕ) → w.stages a ≡ Free → Sound first h w → (b : Bool) → Sound first h (cond b w (with_stage w a (Asking k None (ask.Look false))))
  ask_started first h w a k at sound true = sound
  ask_started first h w a k at sound false = quiet first h w a Free (Asking k None (ask.Look false)) at sound refl (λ b x. cc) refl (λ i g key owes. cc) (tt, tt)

  chan_either : (first : ℕ) (h : List (Event ℕ V)) (w : World V) (a b k : ℕ) → w.stages a ≡ Free → w.stages b ≡ Free → Sound first h w → (t : Bool) → ((b == a) || is_spent w b) ≡ t
      → Sound first h (cond t w (with_stage (with_stage w b (Seconding a)) a (Asking k (Some b) (ask.Look false))))
  chan_either first h w a b k at there sound true is = sound
  chan_either first h w a b k at there sound false is =
      let apart : b ≢ a = λ (same : b ≡ a). true≢false (sym (eq-eqb b a same) ∙ (or_parts (b == a) (is_spent w b) is).0) in
      two_staged first h w a b (Asking k (Some b) (ask.Look false)) (Seconding a) sound (idle_free w a a at) (idle_free w a b there) apart
      (put_else (with_stage w b (Seconding a)).stages a (Asking k (Some b) (ask.Look false)) b apart ∙ put_here w.stages b (Seconding a), tt) tt

  chan_sound : (first : ℕ) (h : List (Event ℕ V)) (w : World V) (a b k : ℕ) (q : Stage V) → w.stages a ≡ Free → w.stages b ≡ q → Sound first h w → Sound first h (chan_started w a b k q)
  chan_sound first h w a b k Free at there sound = chan_either first h w a b k at there sound ((b == a) || is_spent w b) refl
  chan_sound first h w a b k (Leading i g own) at there sound = sound
  chan_sound first h w a b k (Holding i g c) at there sound = sound
  chan_sound first h w a b k (Polling i g c) at there sound = sound
  chan_sound first h w a b k (Seconding one) at there sound = sound
  chan_sound first h w a b k (Asking i s step) at there sound = sound
  chan_sound first h w a b k (Settling i g own v step) at there sound = sound
  chan_sound first h w a b k (Forgetting i target step) at there sound = sound
  chan_sound first h w a b k (Naming i) at there sound = sound
  chan_sound first h w a b k (Questioning i c step) at there sound = sound

  chan_started_sound : (first : ℕ) (h : List (Event ℕ V)) (w : World V) (a b k : ℕ) → w.stages a ≡ Free → Sound first h w → (t : Bool) → Sound first h (cond t w (chan_started w a b k (w.stages b)))
  chan_started_sound first h w a b k at sound true = sound
  chan_started_sound first h w a b k at sound false = chan_sound first h w a b k (w.stages b) at refl sound

  start_sound : (first : ℕ) (h : List (Event ℕ V)) (w : World V) (a : ℕ) (o : Op V) (p : Stage V) → w.stages a ≡ p → Sound first h w → AsksOfLed h o → Sound first h (started w a o p)
  start_sound first h w a (op.Ask k) Free at sound led = ask_started first h w a k at sound (is_spent w a)
  start_sound first h w a (op.Ask k) _ at sound led = sound
  start_sound first h w a (op.Chan b k) Free at sound led = chan_started_sound first h w a b k at sound (is_spent w a)
  start_sound first h w a (op.Chan b k) _ at sound led = sound
  start_sound first h w a (op.Settle v) (Leading k g own) at sound led = settle_started first h w a k g own v at sound
  start_sound first h w a (op.Settle v) _ at sound led = sound
  start_sound first h w a (op.Forget k) Free at sound led = quiet first h w a Free (Forgetting k None (forget.Look false)) at sound refl (λ b x. cc) refl (λ i g key owes. cc) tt
  start_sound first h w a (op.ForgetCall k d) Free at sound led = quiet first h w a Free (Forgetting k (Some d) (forget.Look false)) at sound refl (λ b x. cc) refl (λ i g key owes. cc) tt
  start_sound first h w a (op.Named k) Free at sound led = quiet first h w a Free (Naming k) at sound refl (λ b x. cc) refl (λ i g key owes. cc) tt
  start_sound first h w a (op.Forget k) _ at sound led = sound
  start_sound first h w a (op.ForgetCall k d) _ at sound led = sound
  start_sound first h w a (op.Named k) _ at sound led = sound
  start_sound first h w a op.Poll (Holding k g c) at sound led = poll_started first h w a k g c at sound
  start_sound first h w a op.Poll _ at sound led = sound
  start_sound first h w a (op.Current k c) Free at sound led = quiet first h w a Free (Questioning k c current.Peek) at sound refl (λ b x. cc) refl (λ i g key owes. cc) led
  start_sound first h w a (op.Current k c) _ at sound led = sound

  freed_sound : (first : ℕ) (h : List (Event ℕ V)) (w : World V) (a k : ℕ) (s : Option ℕ) → w.stages a ≡ Asking k s (ask.Look true) → Sound first h w → Sound first h (freed w a s)
  freed_sound first h w a k None at sound = quiet first h w a (Asking k None (ask.Look true)) Free at sound refl (λ b x. cc) refl (λ i g key owes. cc) tt
  freed_sound first h w a k (Some b) at sound =
      let good : GoodSecond w a (Some b) × GoodAsk h w a k (Some b) (ask.Look true) = subst (λ (q : Stage V). Good h w a q) at (sound.callers a).good in
      two_staged first h w a b Free Free sound (idle_self w a k (Some b) (ask.Look true) at) (idle_second w a b good.0) (second_apart w a b k (Some b) (ask.Look true) at good.0) tt tt

  leave_sound : (first : ℕ) (h : List (Event ℕ V)) (w : World V) (a : ℕ) (p : Stage V) → w.stages a ≡ p → Sound first h w → Sound first h (left w a p)
  leave_sound first h w a (Asking k s (ask.Look true)) at sound = freed_sound first h w a k s at sound
  leave_sound first h w a (Forgetting k target (forget.Look true)) at sound = quiet first h w a (Forgetting k target (forget.Look true)) Free at sound refl (λ b x. cc) refl (λ i g key owes. cc) tt
  leave_sound first h w a _ at sound = sound

  -- what callers know of words that they saw is asked for too, since a forget of one call ends the current one by it
  pub turn_sound : (z : Setting) (h : List (Event ℕ V)) (w : World V) (t : Turn V) → Fair z h w → IsTurn z h w t → Sound z.first (h ++ turn_events w t) (turned w t)
  turn_sound z h w (turn.Start a o) fair allowed = still z.first h (started w a o (w.stages a)) (start_sound z.first h w a o (w.stages a) refl fair.sound allowed.2)
  turn_sound z h w (turn.Step a) fair allowed = step_sound z.first h w a (w.stages a) refl fair.sound (fair.flags a) (λ k g leads. few_members z h w a k g fair leads)
  turn_sound z h w (turn.Leave a) fair allowed = still z.first h (left w a (w.stages a)) (leave_sound z.first h w a (w.stages a) refl fair.sound)

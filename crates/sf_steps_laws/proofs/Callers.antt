-- callers of the setting alone have stages, so a leader and its members are not more than those
use Rattle.std.proofs.Common.{◌≡◌, ◌≢◌, ℕ, ◌+◌, ◌≤◌, ◌==◌, ◌||◌, ◌⊎◌, Bool, true, false, List, [], length, inl, inr, Option, Some, None, refl, sym, ◌∙◌, ap, subst, arith}
use Rattle.std.proofs.lemmas.Bool.{cases_eq}
use Rattle.std.specs.Prelude.{cond}
use Rattle.sf_history.specs.declared.call.CallId.{CallId}
use Rattle.sf_history.specs.declared.event.Event.{Event}
use Rattle.sf_words.specs.declared.key_word.KeyState.{KeyState}
use Rattle.sf_words.specs.declared.key_word.KeyState.TheVariants.{Names}
use Rattle.sf_words.specs.declared.call_word.LeaderState.{LeaderState}
use Rattle.sf_steps_laws.specs.declared.operation.Op.{Op}
use Rattle.sf_steps_laws.specs.declared.operation.Op.TheVariants as op
use Rattle.sf_steps_laws.specs.declared.operation.Stage.{Stage}
use Rattle.sf_steps_laws.specs.declared.operation.Stage.TheVariants.{Free, Leading, Holding, Polling, Seconding, Asking, Settling, Forgetting, Naming, Questioning}
use Rattle.sf_steps_laws.specs.declared.operation.AskStep.{AskStep}
use Rattle.sf_steps_laws.specs.declared.operation.AskStep.TheVariants as ask
use Rattle.sf_steps_laws.specs.declared.operation.SettleStep.{SettleStep}
use Rattle.sf_steps_laws.specs.declared.operation.SettleStep.TheVariants as settle
use Rattle.sf_steps_laws.specs.declared.operation.ForgetStep.{ForgetStep}
use Rattle.sf_steps_laws.specs.declared.operation.ForgetStep.TheVariants as forget
use Rattle.sf_steps_laws.specs.declared.operation.CurrentStep.{CurrentStep}
use Rattle.sf_steps_laws.specs.declared.operation.CurrentStep.TheVariants as current
use Rattle.sf_steps_laws.specs.declared.turn.Turn.{Turn}
use Rattle.sf_steps_laws.specs.declared.turn.Turn.TheVariants as turn
use Rattle.sf_steps_laws.specs.World.{World, first_world, with_stage, key_of, same_key, is_open_with, is_full, is_spent}
use Rattle.sf_steps_laws.specs.Askings.{ready_own, after_lead, after_enter, ask_stepped}
use Rattle.sf_steps_laws.specs.Turns.{after_close, cleared, settle_stepped, forgot, forget_cleared, forget_stepped, polled, current_stepped, stepped, chan_started, started, freed, left, turned}
use Rattle.sf_steps_laws.specs.Schedules.{Setting, IsCaller, IsTurn}
use Rattle.sf_steps_laws.specs.Left.{Concerns}
use Rattle.sf_history.proofs.Members.{each_map, members, IsOther, few}
use Rattle.sf_steps_laws.proofs.Members.{line_apart, line_members}
use Rattle.sf_steps_laws.proofs.Sound.{call_of, unsettled, ticket, Waits, GoodFlag, Sound, sound_begins}
use Rattle.sf_steps_laws.proofs.Leaders.{unsettled_good, ticket_apart, leader_ticketless}
use Rattle.sf_steps_laws.proofs.Others.{turn_left}

module _ {V : Type 0} where
  -- callers alone have stages
  abbrev pub AreCallers : Setting → World V → Type 0
  AreCallers z w = (b : ℕ) → w.stages b ≢ Free → IsCaller z b

  -- callers alone have stages
  pub callers_turn : (z : Setting) (h : List (Event ℕ V)) (w : World V) (t : Turn V) → Sound z.first h w → IsTurn z h w t → AreCallers z w → AreCallers z (turned w t)
  callers_turn z h w t sound allowed are b busy = at (w.stages b) refl
    where
      was_free : w.stages b ≡ Free → (Concerns w t b → ⊥) → ⊥
      was_free free apart = busy ((turn_left z.first h w t b sound apart).stage ∙ free)

      one : (a : ℕ) → IsCaller z a → (b ≢ a → ⊥) → IsCaller z b
      one a is_caller same = elim (cases_eq b a) [
        | inl here ↦ subst (λ (n : ℕ). IsCaller z n) (sym here) is_caller
        | inr other ↦ absurd (same other)
      ]

      free_caller : (t : Turn V) → IsTurn z h w t → w.stages b ≡ Free → ((Concerns w t b → ⊥) → ⊥) → IsCaller z b
      free_caller (turn.Start a (op.Ask k)) allowed free apart = one a allowed.0 (λ other. apart other)
      free_caller (turn.Start a (op.Chan j k)) allowed free apart = elim (cases_eq b j) [
        | inl here ↦ subst (λ (n : ℕ). IsCaller z n) (sym here) allowed.1.1
        | inr far ↦ one a allowed.0 (λ other. apart (λ (c : (b ≡ a) ⊎ (b ≡ j)). elim c [
          | inl is ↦ other is
          | inr is ↦ far is
        ]))
      ]
      free_caller (turn.Start a (op.Settle v)) allowed free apart = one a allowed.0 (λ other. apart other)
      free_caller (turn.Start a (op.Forget k)) allowed free apart = one a allowed.0 (λ other. apart other)
      free_caller (turn.Start a (op.ForgetCall k d)) allowed free apart = one a allowed.0 (λ other. apart other)
      free_caller (turn.Start a (op.Named k)) allowed free apart = one a allowed.0 (λ other. apart other)
      free_caller (turn.Start a op.Poll) allowed free apart = one a allowed.0 (λ other. apart other)
      free_caller (turn.Start a (op.Current k c)) allowed free apart = one a allowed.0 (λ other. apart other)
      free_caller (turn.Step a) allowed free apart = one a allowed.0 (λ other. apart (λ (c : (b ≡ a) ⊎ (w.stages b ≡ Seconding a)). elim c [
        | inl is ↦ other is
        | inr serves ↦ let clash : Free ≡ Seconding a = sym free ∙ serves in cc
      ]))
      free_caller (turn.Leave a) allowed free apart = one a allowed.0 (λ other. apart (λ (c : (b ≡ a) ⊎ (w.stages b ≡ Seconding a)). elim c [
        | inl is ↦ other is
        | inr serves ↦ let clash : Free ≡ Seconding a = sym free ∙ serves in cc
      ]))

      at : (p : Stage V) → w.stages b ≡ p → IsCaller z b
      at Free is = free_caller t allowed is (was_free is)
      at (Leading k g own) is = are b (λ free. let clash : Leading k g own ≡ Free = sym is ∙ free in cc)
      at (Holding k g c) is = are b (λ free. let clash : Holding k g c ≡ Free = sym is ∙ free in cc)
      at (Polling k g c) is = are b (λ free. let clash : Polling k g c ≡ Free = sym is ∙ free in cc)
      at (Seconding first) is = are b (λ free. let clash : Seconding first ≡ Free = sym is ∙ free in cc)
      at (Asking k s step) is = are b (λ free. let clash : Asking k s step ≡ Free = sym is ∙ free in cc)
      at (Settling k g own v step) is = are b (λ free. let clash : Settling k g own v step ≡ Free = sym is ∙ free in cc)
      at (Naming k) is = are b (λ free. let clash : Naming k ≡ Free = sym is ∙ free in cc)
      at (Forgetting k target step) is = are b (λ free. let clash : Forgetting k target step ≡ Free = sym is ∙ free in cc)
      at (Questioning k c step) is = are b (λ free. let clash : Questioning k c step ≡ Free = sym is ∙ free in cc)

  -- a leader and the members of its call are not more than the callers
  pub members_few : (z : Setting) (h : List (Event ℕ V)) (w : World V) (a k g : ℕ) → Sound z.first h w → AreCallers z w → unsettled (w.stages a) ≡ Some (k, g) → length (members h (call_of a g)) + 1 ≤ z.callers
  members_few z h w a k g sound are leads =
      let good = unsettled_good h w a (w.stages a) k g leads (sound.callers a).good in
      let waits = line_members (Waits w k (call_of a g)) good.0 (members h (call_of a g)) good.1.waits in
      let none : ticket (w.stages a) ≡ None = leader_ticketless (w.stages a) (k, g) leads in
      let self : IsCaller z a = are a (λ free. let clash : None ≡ Some (k, g) = sym (ap unsettled free) ∙ leads in cc) in
      few a z.callers (members h (call_of a g)) self.0 self.1
      (each_map (Waits w k (call_of a g)) (IsOther a z.callers) (λ m waiting.
      let caller : IsCaller z m.caller = are m.caller (λ free. let clash : None ≡ Some (k, m.generation, call_of a g) = sym (ap ticket free) ∙ waiting.0 in cc) in
      (ticket_apart w k (call_of a g) m a waiting none, caller.0, caller.1)) (members h (call_of a g)) waits)
      (line_apart good.0 (members h (call_of a g)) good.1.apart)

  -- no turn changes how many callers there are
  lead_size : (w : World V) (a i : ℕ) (s : Option ℕ) (b : Bool) → (after_lead w a i s b).callers ≡ w.callers
  lead_size w a i s false = refl
  lead_size w a i None true = refl
  lead_size w a i (Some b) true = refl

  enter_size : (w : World V) (a i : ℕ) (s : Option ℕ) (d : CallId) (seen : LeaderState) (b : Bool) → (after_enter w a i s d seen b).callers ≡ w.callers
  enter_size w a i s d seen false = refl
  enter_size w a i s d seen true = refl

  own_size : (w : World V) (a i : ℕ) (s : Option ℕ) (seen : KeyState) (f : Bool) → (ready_own w a i s seen f).callers ≡ w.callers
  own_size w a i None seen f = refl
  own_size w a i (Some b) seen f = refl

  ask_size : (w : World V) (a i : ℕ) (s : Option ℕ) (step : AskStep) → (ask_stepped w a i s step).callers ≡ w.callers
  ask_size w a i s (ask.Look failed) = refl
  ask_size w a i s (ask.Peek d) = refl
  ask_size w a i s (ask.ReadyOwn seen f) = own_size w a i s seen f
  ask_size w a i s (ask.ReadyLead seen f) = refl
  ask_size w a i s (ask.Lead seen f) = lead_size w a i s (same_key (w.keys i) seen)
  ask_size w a i s (ask.ReadyJoin d seen) = refl
  ask_size w a i s (ask.Link d seen) = refl
  ask_size w a i s (ask.Enter d seen) = enter_size w a i s d seen (is_open_with seen (w.calls d.caller))

  close_size : (w : World V) (a i g : ℕ) (own : Option CallId) (v : V) (seen : LeaderState) (b : Bool) → (after_close w a i g own v seen b).callers ≡ w.callers
  close_size w a i g own v seen false = refl
  close_size w a i g own v seen true = refl

  cleared_size : (w : World V) (i : ℕ) (d : CallId) (b : Bool) → (cleared w i d b).callers ≡ w.callers
  cleared_size w i d false = refl
  cleared_size w i d true = refl

  settle_size : (w : World V) (a i g : ℕ) (own : Option CallId) (v : V) (step : SettleStep) → (settle_stepped w a i g own v step).callers ≡ w.callers
  settle_size w a i g own v settle.Peek = refl
  settle_size w a i g own v (settle.Close seen) = close_size w a i g own v seen (is_open_with seen (w.calls a))
  settle_size w a i g own v (settle.Clear top) = cleared_size w i (call_of a g) (same_key (w.keys i) (Names a g false))
  settle_size w a i g own v (settle.Count n m top) = refl
  settle_size w a i g own v (settle.Follow joiners m) = refl
  settle_size w a i g own v (settle.PeekMember joiners m next) = refl
  settle_size w a i g own v (settle.Deliver joiners m next) = refl
  settle_size w a i g own v (settle.PeekOwn joiners) = refl
  settle_size w a i g own v (settle.DeliverOwn joiners m) = refl

  forgot_size : (w : World V) (a i : ℕ) (target : Option CallId) (d : CallId) (seen : LeaderState) (b : Bool) → (forgot w a i target d seen b).callers ≡ w.callers
  forgot_size w a i target d seen false = refl
  forgot_size w a i target d seen true = refl

  first_size : (w : World V) (a i : ℕ) (target : Option CallId) (d : CallId) (b : Bool) → (forget_cleared w a i target d b).callers ≡ w.callers
  first_size w a i target d false = refl
  first_size w a i target d true = refl

  forget_size : (w : World V) (a i : ℕ) (target : Option CallId) (step : ForgetStep) → (forget_stepped w a i target step).callers ≡ w.callers
  forget_size w a i target (forget.Look failed) = refl
  forget_size w a i target (forget.Peek d) = refl
  forget_size w a i target (forget.Close d seen) = forgot_size w a i target d seen (is_open_with seen (w.calls d.caller))
  forget_size w a i target (forget.FirstClear d) = first_size w a i target d (same_key (w.keys i) (key_of d))
  forget_size w a i target (forget.LastClear d) = cleared_size w i d (same_key (w.keys i) (key_of d))

  poll_size : (w : World V) (a i g : ℕ) (d : CallId) (b : Bool) → (polled w a i g d b).callers ≡ w.callers
  poll_size w a i g d false = refl
  poll_size w a i g d true = refl

  current_size : (w : World V) (a i : ℕ) (d : CallId) (step : CurrentStep) → (current_stepped w a i d step).callers ≡ w.callers
  current_size w a i d current.Peek = refl
  current_size w a i d current.Look = refl

  step_size : (w : World V) (a : ℕ) (p : Stage V) → (stepped w a p).callers ≡ w.callers
  step_size w a (Polling i g d) = poll_size w a i g d (is_full (w.calls a))
  step_size w a (Asking i s step) = ask_size w a i s step
  step_size w a (Settling i g own v step) = settle_size w a i g own v step
  step_size w a (Forgetting i target step) = forget_size w a i target step
  step_size w a (Questioning i d step) = current_size w a i d step
  step_size w a _ = refl

  either_size : (w u : World V) (b : Bool) → u.callers ≡ w.callers → (cond b w u).callers ≡ w.callers
  either_size w u true same = refl
  either_size w u false same = same

  chan_size : (w : World V) (a b i : ℕ) (q : Stage V) (t : Bool) → (cond t w (chan_started w a b i q)).callers ≡ w.callers
  chan_size w a b i q true = refl
  chan_size w a b i Free false = either_size w (with_stage (with_stage w b (Seconding a)) a (Asking i (Some b) (ask.Look false))) ((b == a) || is_spent w b) refl
  chan_size w a b i _ false = refl

  start_size : (w : World V) (a : ℕ) (o : Op V) (p : Stage V) → (started w a o p).callers ≡ w.callers
  start_size w a (op.Ask i) Free = either_size w (with_stage w a (Asking i None (ask.Look false))) (is_spent w a) refl
  start_size w a (op.Chan b i) Free = chan_size w a b i (w.stages b) (is_spent w a)
  start_size w a (op.Settle v) (Leading i g own) = refl
  start_size w a (op.Forget i) Free = refl
  start_size w a (op.ForgetCall i d) Free = refl
  start_size w a (op.Named i) Free = refl
  start_size w a op.Poll (Holding i g c) = refl
  start_size w a (op.Current i c) Free = refl
  start_size w a _ _ = refl

  freed_size : (w : World V) (a : ℕ) (s : Option ℕ) → (freed w a s).callers ≡ w.callers
  freed_size w a None = refl
  freed_size w a (Some b) = refl

  leave_size : (w : World V) (a : ℕ) (p : Stage V) → (left w a p).callers ≡ w.callers
  leave_size w a (Asking i s (ask.Look true)) = freed_size w a s
  leave_size w a (Forgetting i target (forget.Look true)) = refl
  leave_size w a _ = refl

  pub turn_size : (w : World V) (t : Turn V) → (turned w t).callers ≡ w.callers
  turn_size w (turn.Start a o) = start_size w a o (w.stages a)
  turn_size w (turn.Step a) = step_size w a (w.stages a)
  turn_size w (turn.Leave a) = leave_size w a (w.stages a)

  -- the invariant, that callers of the setting alone have stages, and what callers know of words that they saw
  pub record Fair (z : Setting) (h : List (Event ℕ V)) (w : World V) : Type 0 where
    pub sound : Sound z.first h w
    pub are : AreCallers z w
    pub size : w.callers ≡ z.callers
    pub flags : (a : ℕ) → GoodFlag h w (w.stages a)

  pub fair_begins : (z : Setting) → Fair z [] (first_world z.callers z.first)
  fair_begins z = record { sound = sound_begins z.callers z.first; are = λ b busy. absurd (busy refl); size = refl; flags = λ a. tt }

  -- a leader before its settle has no more members than there are callers
  pub few_members : (z : Setting) (h : List (Event ℕ V)) (w : World V) (a k g : ℕ) → Fair z h w → unsettled (w.stages a) ≡ Some (k, g) → length (members h (call_of a g)) ≤ w.callers
  few_members z h w a k g fair leads =
      let few_of : length (members h (call_of a g)) + 1 ≤ z.callers = members_few z h w a k g fair.sound fair.are leads in
      let alike : w.callers ≡ z.callers = fair.size in
      omega (arith, few_of, alike)

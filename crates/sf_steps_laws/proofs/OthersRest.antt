-- a caller does not come to lead by another's turn
use Rattle.std.proofs.Common.{◌≡◌, ◌≢◌, ℕ, Bool, true, false, ◌==◌, ◌||◌, List, inl, inr, Option, Some, None, refl, sym, ◌∙◌, ap}
use Rattle.std.specs.Prelude.{cond}
use Rattle.sf_history.specs.declared.call.CallId.{CallId}
use Rattle.sf_history.specs.declared.event.Event.{Event}
use Rattle.sf_words.specs.declared.call_word.LeaderState.{LeaderState}
use Rattle.sf_steps_laws.specs.declared.operation.Op.TheVariants as op
use Rattle.sf_steps_laws.specs.declared.operation.Stage.{Stage}
use Rattle.sf_steps_laws.specs.declared.operation.Stage.TheVariants.{Free, Leading, Holding, Polling, Seconding, Asking, Settling, Forgetting, Naming, Questioning}
use Rattle.sf_steps_laws.specs.declared.operation.SettleStep.TheVariants as settle
use Rattle.sf_steps_laws.specs.declared.turn.Turn.{Turn}
use Rattle.sf_steps_laws.specs.declared.turn.Turn.TheVariants as turn
use Rattle.sf_words.specs.declared.key_word.KeyState.{KeyState}
use Rattle.sf_words.specs.declared.key_word.KeyState.TheVariants.{Names}
use Rattle.sf_steps_laws.specs.declared.operation.AskStep.{AskStep}
use Rattle.sf_steps_laws.specs.declared.operation.AskStep.TheVariants as ask
use Rattle.sf_steps_laws.specs.declared.operation.ForgetStep.{ForgetStep}
use Rattle.sf_steps_laws.specs.declared.operation.ForgetStep.TheVariants as forget
use Rattle.sf_steps_laws.specs.declared.operation.CurrentStep.TheVariants as current
use Rattle.sf_steps_laws.specs.World.{World, with_stage, next_id, key_of, same_key, is_open_with, open_in, is_forgot_in, generation_in, is_full, is_spent, one_more}
use Rattle.sf_lists.specs.Functions.{put}
use Rattle.sf_steps_laws.specs.Askings.{looked, peeked, joiner, ready_own, after_lead, after_enter, ask_stepped}
use Rattle.sf_steps_laws.specs.Turns.{after_own_peek, at_members, after_close, cleared, own_peeked, forget_looked, misses, peek_missed, forgot, forget_cleared, forget_stepped, polled, current_peeked, stepped, chan_started, started, left, turned, at_count, after_count}
use Rattle.sf_steps_laws.specs.Schedules.{Setting, IsTurn}
use Rattle.sf_steps_laws.specs.Left.{Concerns}
use Rattle.sf_lists.proofs.Functions.{put_else, put_cases}
use Rattle.sf_steps_laws.proofs.Sound.{call_of, unsettled}
use Rattle.sf_steps_laws.proofs.OwnLeads.{IsBy}

module _ {V : Type 0} where
  -- a second does not come to lead by its first's turn
  rests : (f : ℕ → Stage V) (b a : ℕ) (s : Stage V) (x : ℕ × ℕ) → a ≢ b → (unsettled (f a) ≡ Some x → ⊥) → unsettled (put f b s a) ≡ Some x → ⊥
  rests f b a s x other rest is = rest (sym (ap unsettled (put_else f b s a other)) ∙ is)

  rests_none : (f : ℕ → Stage V) (b a : ℕ) (s : Stage V) (x : ℕ × ℕ) → unsettled s ≡ None → (unsettled (f a) ≡ Some x → ⊥) → unsettled (put f b s a) ≡ Some x → ⊥
  rests_none f b a s x none rest = put_cases (λ (q : Stage V). unsettled q ≡ Some x → ⊥) f b s a (λ here is. let clash : None ≡ Some x = sym none ∙ is in cc) (λ other is. rest is)

  lead_rests : (w : World V) (b i a : ℕ) (s : Option ℕ) (x : ℕ × ℕ) → a ≢ b → (unsettled (w.stages a) ≡ Some x → ⊥) → (t : Bool) → unsettled ((after_lead w b i s t).stages a) ≡ Some x → ⊥
  lead_rests w b i a s x other rest false is = rests w.stages b a (Asking i s (ask.Look true)) x other rest is
  lead_rests w b i a None x other rest true is = rests w.stages b a (Leading i (w.generations b) None) x other rest is
  lead_rests w b i a (Some j) x other rest true is =
      rests (put w.stages j (Holding i (w.generations j) (next_id w b))) b a (Leading i (w.generations b) (Some (next_id w j))) x other (rests_none w.stages j a (Holding i (w.generations j) (next_id w b)) x refl rest) is

  enter_rests : (w : World V) (b i a : ℕ) (s : Option ℕ) (c : CallId) (seen : LeaderState) (x : ℕ × ℕ) → a ≢ b → (unsettled (w.stages a) ≡ Some x → ⊥) → (t : Bool) → unsettled ((after_enter w b i s c seen t).stages a) ≡ Some x → ⊥
  enter_rests w b i a s c seen x other rest false is = rests w.stages b a (Asking i s (ask.Look true)) x other rest is
  enter_rests w b i a s c seen x other rest true is =
      rests_none (put w.stages b Free) (joiner b s) a (Holding i (w.generations (joiner b s)) c) x refl (rests w.stages b a Free x other rest) is

  own_rests : (w : World V) (b i a : ℕ) (s : Option ℕ) (seen : KeyState) (f : Bool) (x : ℕ × ℕ) → a ≢ b → (unsettled (w.stages a) ≡ Some x → ⊥) → unsettled ((ready_own w b i s seen f).stages a) ≡ Some x → ⊥
  own_rests w b i a None seen f x other rest is = rest is
  own_rests w b i a (Some j) seen f x other rest is = rests w.stages b a (Asking i (Some j) (ask.ReadyLead seen f)) x other rest is

  ask_rests : (w : World V) (b i a : ℕ) (s : Option ℕ) (step : AskStep) (x : ℕ × ℕ) → a ≢ b → (unsettled (w.stages a) ≡ Some x → ⊥) → unsettled ((ask_stepped w b i s step).stages a) ≡ Some x → ⊥
  ask_rests w b i a s (ask.Look failed) x other rest is = rests w.stages b a (Asking i s (looked s (w.keys i))) x other rest is
  ask_rests w b i a s (ask.Peek c) x other rest is = rests w.stages b a (Asking i s (peeked s c (is_forgot_in c.generation (w.calls c.caller)) (open_in c.generation (w.calls c.caller)))) x other rest is
  ask_rests w b i a s (ask.ReadyOwn seen f) x other rest is = own_rests w b i a s seen f x other rest is
  ask_rests w b i a s (ask.ReadyLead seen f) x other rest is = rests w.stages b a (Asking i s (ask.Lead seen f)) x other rest is
  ask_rests w b i a s (ask.Lead seen f) x other rest is = lead_rests w b i a s x other rest (same_key (w.keys i) seen) is
  ask_rests w b i a s (ask.ReadyJoin c seen) x other rest is = rests w.stages b a (Asking i s (ask.Link c seen)) x other rest is
  ask_rests w b i a s (ask.Link c seen) x other rest is = rests w.stages b a (Asking i s (ask.Enter c seen)) x other rest is
  ask_rests w b i a s (ask.Enter c seen) x other rest is = enter_rests w b i a s c seen x other rest (is_open_with seen (w.calls c.caller)) is

  -- a caller that asks nothing serves no second
  serves_asking : (w : World V) (b a : ℕ) (p : Stage V) (x : ℕ × ℕ) → w.stages b ≡ p → a ≢ b → (unsettled (w.stages a) ≡ Some x → ⊥) → (stepped_by : (s : Stage V) (u : World V) → u.stages a ≡ put w.stages b s a → unsettled (u.stages a) ≡ Some x → ⊥)
      → unsettled ((stepped w b p).stages a) ≡ Some x → ⊥
  serves_asking w b a Free x at other rest by is = rest is
  serves_asking w b a (Leading i n own) x at other rest by is = rest is
  serves_asking w b a (Holding i n c) x at other rest by is = rest is
  serves_asking w b a (Polling i n c) x at other rest by is = polls (is_full (w.calls b)) is
    where
      polls : (t : Bool) → unsettled ((polled w b i n c t).stages a) ≡ Some x → ⊥
      polls false is = by (Holding i n c) (polled w b i n c false) refl is
      polls true is = by Free (polled w b i n c true) refl is
  serves_asking w b a (Seconding one) x at other rest by is = rest is
  serves_asking w b a (Asking i s step) x at other rest by is = ask_rests w b i a s step x other rest is
  serves_asking w b a (Settling i n own v settle.Peek) x at other rest by is = rests w.stages b a (Settling i n own v (after_own_peek (w.calls b))) x other rest is
  serves_asking w b a (Settling i n own v (settle.Close seen)) x at other rest by is = closes (is_open_with seen (w.calls b)) is
    where
      closes : (t : Bool) → unsettled ((after_close w b i n own v seen t).stages a) ≡ Some x → ⊥
      closes false is = by (Settling i n own v settle.Peek) (after_close w b i n own v seen false) refl is
      closes true is = by (at_count i n own v seen.top) (after_close w b i n own v seen true) refl is
  serves_asking w b a (Settling i n own v (settle.Clear top)) x at other rest by is = clears (same_key (w.keys i) (Names b n false)) is
    where
      clears : (t : Bool) → unsettled ((with_stage (cleared w i (call_of b n) t) b (at_count i n own v top)).stages a) ≡ Some x → ⊥
      clears false is = by (at_count i n own v top) (with_stage w b (at_count i n own v top)) refl is
      clears true is = by (at_count i n own v top) (with_stage (cleared w i (call_of b n) true) b (at_count i n own v top)) refl is
  serves_asking w b a (Settling i n own v (settle.Count j m top)) x at other rest by is = rests w.stages b a (Settling i n own v (after_count (one_more w.callers j) top (w.nexts m))) x other rest is
  serves_asking w b a (Settling i n own v (settle.Follow joiners m)) x at other rest by is = rests w.stages b a (Settling i n own v (settle.PeekMember joiners m (w.nexts m))) x other rest is
  serves_asking w b a (Settling i n own v (settle.PeekMember joiners m next)) x at other rest by is = rests w.stages b a (Settling i n own v (settle.Deliver joiners (call_of m (generation_in (w.calls m))) next)) x other rest is
  serves_asking w b a (Settling i n own v (settle.Deliver joiners m next)) x at other rest by is = rests w.stages b a (at_members i n own v joiners next) x other rest is
  serves_asking w b a (Settling i n own v (settle.PeekOwn joiners)) x at other rest by is = rests w.stages b a (Settling i n own v (own_peeked w joiners own)) x other rest is
  serves_asking w b a (Settling i n own v (settle.DeliverOwn joiners m)) x at other rest by is = rests w.stages b a Free x other rest is
  serves_asking w b a (Forgetting i target step) x at other rest by is = forgetting step is
    where
      forgets_call : (c : CallId) (seen : LeaderState) (t : Bool) → unsettled ((forgot w b i target c seen t).stages a) ≡ Some x → ⊥
      forgets_call c seen false is = by (Forgetting i target (forget.Look true)) (forgot w b i target c seen false) refl is
      forgets_call c seen true is = by (Forgetting i target (forget.LastClear c)) (forgot w b i target c seen true) refl is

      clears_first : (c : CallId) (t : Bool) → unsettled ((forget_cleared w b i target c t).stages a) ≡ Some x → ⊥
      clears_first c false is = by (Forgetting i target (forget.Look true)) (forget_cleared w b i target c false) refl is
      clears_first c true is = by Free (forget_cleared w b i target c true) refl is

      clears_last : (c : CallId) (t : Bool) → unsettled ((with_stage (cleared w i c t) b Free).stages a) ≡ Some x → ⊥
      clears_last c false is = by Free (with_stage w b Free) refl is
      clears_last c true is = by Free (with_stage (cleared w i c true) b Free) refl is

      forgetting : (step : ForgetStep) → unsettled ((forget_stepped w b i target step).stages a) ≡ Some x → ⊥
      forgetting (forget.Look failed) is = by (forget_looked i target (w.keys i)) (forget_stepped w b i target (forget.Look failed)) refl is
      forgetting (forget.Peek c) is = by (peek_missed i target c (open_in c.generation (w.calls c.caller)) (misses target (is_forgot_in c.generation (w.calls c.caller)))) (forget_stepped w b i target (forget.Peek c)) refl is
      forgetting (forget.Close c seen) is = forgets_call c seen (is_open_with seen (w.calls c.caller)) is
      forgetting (forget.FirstClear c) is = clears_first c (same_key (w.keys i) (key_of c)) is
      forgetting (forget.LastClear c) is = clears_last c (same_key (w.keys i) (key_of c)) is
  serves_asking w b a (Naming i) x at other rest by is = rests w.stages b a Free x other rest is
  serves_asking w b a (Questioning i c current.Peek) x at other rest by is = rests w.stages b a (current_peeked i c (is_forgot_in c.generation (w.calls c.caller))) x other rest is
  serves_asking w b a (Questioning i c current.Look) x at other rest by is = rests w.stages b a Free x other rest is

  leave_rests : (w : World V) (b a : ℕ) (p : Stage V) (x : ℕ × ℕ) → a ≢ b → (unsettled (w.stages a) ≡ Some x → ⊥) → unsettled ((left w b p).stages a) ≡ Some x → ⊥
  leave_rests w b a (Asking i None (ask.Look true)) x other rest is = rests w.stages b a Free x other rest is
  leave_rests w b a (Asking i (Some j) (ask.Look true)) x other rest is = rests (put w.stages j Free) b a Free x other (rests_none w.stages j a Free x refl rest) is
  leave_rests w b a (Forgetting i target (forget.Look true)) x other rest is = rests w.stages b a Free x other rest is
  leave_rests w b a _ x other rest is = rest is

  chan_rests : (w : World V) (b j i a : ℕ) (q : Stage V) (x : ℕ × ℕ) → a ≢ b → (unsettled (w.stages a) ≡ Some x → ⊥) → unsettled ((chan_started w b j i q).stages a) ≡ Some x → ⊥
  chan_rests w b j i a Free x other rest is = at ((j == b) || is_spent w j) is
    where
      at : (t : Bool) → unsettled ((cond t w (with_stage (with_stage w j (Seconding b)) b (Asking i (Some j) (ask.Look false)))).stages a) ≡ Some x → ⊥
      at true is = rest is
      at false is = rests (put w.stages j (Seconding b)) b a (Asking i (Some j) (ask.Look false)) x other (rests_none w.stages j a (Seconding b) x refl rest) is
  chan_rests w b j i a _ x other rest is = rest is

  chan_second : (w : World V) (b j i a : ℕ) (p : Stage V) (x : ℕ × ℕ) → a ≢ b → (unsettled (w.stages a) ≡ Some x → ⊥) → unsettled ((started w b (op.Chan j i) p).stages a) ≡ Some x → ⊥
  chan_second w b j i a Free x other rest is = at (is_spent w b) is
    where
      at : (t : Bool) → unsettled ((cond t w (chan_started w b j i (w.stages j))).stages a) ≡ Some x → ⊥
      at true is = rest is
      at false is = chan_rests w b j i a (w.stages j) x other rest is
  chan_second w b j i a _ x other rest is = rest is

  -- whom another's turn leaves with an unsettled call, it does not concern
  pub others_turn : (z : Setting) (h : List (Event ℕ V)) (w : World V) (a : ℕ) (t : Turn V) (x : ℕ × ℕ) → IsTurn z h w t → (IsBy a t → ⊥) → unsettled ((turned w t).stages a) ≡ Some x → Concerns w t a → ⊥
  others_turn z h w a (turn.Start b (op.Ask k)) x allowed not_by is one = not_by (sym one)
  others_turn z h w a (turn.Start b (op.Chan j k)) x allowed not_by is (inl one) = not_by (sym one)
  others_turn z h w a (turn.Start b (op.Chan j k)) x allowed not_by is (inr one) =
      let free : w.stages j ≡ Free = allowed.1.4.0 in
      chan_second w b j k a (w.stages b) x (λ (e : a ≡ b). not_by (sym e)) (λ unsettled_is. let clash : None ≡ Some x = sym (ap unsettled (ap w.stages one ∙ free)) ∙ unsettled_is in cc) is
  others_turn z h w a (turn.Start b (op.Settle v)) x allowed not_by is one = not_by (sym one)
  others_turn z h w a (turn.Start b (op.Forget k)) x allowed not_by is one = not_by (sym one)
  others_turn z h w a (turn.Start b (op.ForgetCall k d)) x allowed not_by is one = not_by (sym one)
  others_turn z h w a (turn.Start b (op.Named k)) x allowed not_by is one = not_by (sym one)
  others_turn z h w a (turn.Start b op.Poll) x allowed not_by is one = not_by (sym one)
  others_turn z h w a (turn.Start b (op.Current k c)) x allowed not_by is one = not_by (sym one)
  others_turn z h w a (turn.Step b) x allowed not_by is (inl one) = not_by (sym one)
  others_turn z h w a (turn.Step b) x allowed not_by is (inr serves) =
      let other : a ≢ b = λ (e : a ≡ b). not_by (sym e) in
      let rest : unsettled (w.stages a) ≡ Some x → ⊥ = λ unsettled_is. (let clash : None ≡ Some x = sym (ap unsettled serves) ∙ unsettled_is in cc) in
      serves_asking w b a (w.stages b) x refl other rest (λ s u same stays. rests w.stages b a s x other rest (sym (ap unsettled same) ∙ stays)) is
  others_turn z h w a (turn.Leave b) x allowed not_by is (inl one) = not_by (sym one)
  others_turn z h w a (turn.Leave b) x allowed not_by is (inr serves) =
      leave_rests w b a (w.stages b) x (λ (e : a ≡ b). not_by (sym e)) (λ unsettled_is. let clash : None ≡ Some x = sym (ap unsettled serves) ∙ unsettled_is in cc) is

-- each question that is at its look has made its peek
use Rattle.std.proofs.Common.{◌≡◌, ◌≢◌, ℕ, Bool, true, false, ◌==◌, ◌||◌, List, [], ◌∷◌, ◌++◌, ◌⊎◌, inl, inr, Option, Some, None, sym, ◌∙◌, ap, subst}
use Rattle.std.specs.Prelude.{cond}
use Rattle.sf_history.specs.declared.call.CallId.{CallId}
use Rattle.sf_words.specs.declared.key_word.KeyState.{KeyState}
use Rattle.sf_words.specs.declared.key_word.KeyState.TheVariants.{Never, Names}
use Rattle.sf_words.specs.declared.call_word.LeaderState.{LeaderState}
use Rattle.sf_steps_laws.specs.declared.operation.Op.{Op}
use Rattle.sf_steps_laws.specs.declared.operation.Op.TheVariants as op
use Rattle.sf_steps_laws.specs.declared.operation.Stage.{Stage}
use Rattle.sf_steps_laws.specs.declared.operation.Stage.TheVariants.{Free, Leading, Holding, Polling, Seconding, Asking, Settling, Forgetting, Naming, Questioning}
use Rattle.sf_steps_laws.specs.declared.operation.AskStep.{AskStep}
use Rattle.sf_steps_laws.specs.declared.operation.AskStep.TheVariants as ask
use Rattle.sf_steps_laws.specs.declared.operation.SettleStep.{SettleStep}
use Rattle.sf_steps_laws.specs.declared.operation.SettleStep.TheVariants as settle
use Rattle.sf_steps_laws.specs.declared.operation.ForgetStep.{ForgetStep}
use Rattle.sf_steps_laws.specs.declared.operation.ForgetStep.TheVariants as forget
use Rattle.sf_steps_laws.specs.declared.operation.CurrentStep.{CurrentStep}
use Rattle.sf_steps_laws.specs.declared.operation.CurrentStep.TheVariants as current
use Rattle.sf_steps_laws.specs.declared.turn.Turn.{Turn}
use Rattle.sf_steps_laws.specs.declared.turn.Turn.TheVariants as turn
use Rattle.sf_steps_laws.specs.World.{World, first_world, with_stage, next_id, key_of, same_key, is_open_with, is_forgot_in, open_in, generation_in, is_full, is_spent, one_more}
use Rattle.sf_lists.specs.Functions.{put}
use Rattle.sf_steps_laws.specs.Askings.{looked, peeked, joiner, ready_own, after_lead, after_enter, ask_stepped}
use Rattle.sf_steps_laws.specs.Turns.{after_own_peek, at_members, after_close, cleared, own_peeked, settle_stepped, key_looked, call_looked, forget_looked, misses, peek_missed, forget_peeked, forgot, forget_cleared, forget_stepped, polled, current_peeked, current_stepped, stepped, chan_started, started, freed, left, turned, run, at_count, after_count}
use Rattle.sf_steps_laws.specs.Laws.{LooksHavePeeks}
use Rattle.sf_steps_laws.proofs.Sound.{call_of}
use Rattle.sf_lists.proofs.Functions.{put_cases}

module _ {V : Type 0} where
  -- a stage that is no look of the question, put for any caller, makes no look of it
  kept : (f : ℕ → Stage V) (b : ℕ) (q : Stage V) (a k : ℕ) (c : CallId) → q ≢ Questioning k c current.Look → put f b q a ≡ Questioning k c current.Look → f a ≡ Questioning k c current.Look
  kept f b q a k c isnt = put_cases (λ (x : Stage V). x ≡ Questioning k c current.Look → f a ≡ Questioning k c current.Look) f b q a (λ here is. absurd (isnt is)) (λ other is. is)

  freed_kept : (f : ℕ → Stage V) (b a k : ℕ) (c : CallId) → put f b Free a ≡ Questioning k c current.Look → f a ≡ Questioning k c current.Look
  freed_kept f b a k c = kept f b Free a k c (λ x. cc)

  asking_kept : (f : ℕ → Stage V) (b i : ℕ) (s : Option ℕ) (step : AskStep) (a k : ℕ) (c : CallId) → put f b (Asking i s step) a ≡ Questioning k c current.Look → f a ≡ Questioning k c current.Look
  asking_kept f b i s step a k c = kept f b (Asking i s step) a k c (λ x. cc)

  settling_kept : (f : ℕ → Stage V) (b i g : ℕ) (own : Option CallId) (v : V) (step : SettleStep) (a k : ℕ) (c : CallId) → put f b (Settling i g own v step) a ≡ Questioning k c current.Look → f a ≡ Questioning k c current.Look
  settling_kept f b i g own v step a k c = kept f b (Settling i g own v step) a k c (λ x. cc)

  forgetting_kept : (f : ℕ → Stage V) (b i : ℕ) (target : Option CallId) (step : ForgetStep) (a k : ℕ) (c : CallId) → put f b (Forgetting i target step) a ≡ Questioning k c current.Look → f a ≡ Questioning k c current.Look
  forgetting_kept f b i target step a k c = kept f b (Forgetting i target step) a k c (λ x. cc)

  holding_kept : (f : ℕ → Stage V) (b i g : ℕ) (d : CallId) (a k : ℕ) (c : CallId) → put f b (Holding i g d) a ≡ Questioning k c current.Look → f a ≡ Questioning k c current.Look
  holding_kept f b i g d a k c = kept f b (Holding i g d) a k c (λ x. cc)

  leading_kept : (f : ℕ → Stage V) (b i g : ℕ) (own : Option CallId) (a k : ℕ) (c : CallId) → put f b (Leading i g own) a ≡ Questioning k c current.Look → f a ≡ Questioning k c current.Look
  leading_kept f b i g own a k c = kept f b (Leading i g own) a k c (λ x. cc)

  -- the steps of an ask and a chan put no look
  lead_kept : (w : World V) (b i : ℕ) (s : Option ℕ) (t : Bool) (a k : ℕ) (c : CallId) → (after_lead w b i s t).stages a ≡ Questioning k c current.Look → w.stages a ≡ Questioning k c current.Look
  lead_kept w b i s false a k c is = asking_kept w.stages b i s (ask.Look true) a k c is
  lead_kept w b i None true a k c is = leading_kept w.stages b i (w.generations b) None a k c is
  lead_kept w b i (Some e) true a k c is =
      holding_kept w.stages e i (w.generations e) (next_id w b) a k c
      (leading_kept (put w.stages e (Holding i (w.generations e) (next_id w b))) b i (w.generations b) (Some (next_id w e)) a k c is)

  enter_kept : (w : World V) (b i : ℕ) (s : Option ℕ) (d : CallId) (seen : LeaderState) (t : Bool) (a k : ℕ) (c : CallId) → (after_enter w b i s d seen t).stages a ≡ Questioning k c current.Look → w.stages a ≡ Questioning k c current.Look
  enter_kept w b i s d seen false a k c is = asking_kept w.stages b i s (ask.Look true) a k c is
  enter_kept w b i s d seen true a k c is =
      freed_kept w.stages b a k c
      (holding_kept (put w.stages b Free) (joiner b s) i (w.generations (joiner b s)) d a k c is)

  own_kept : (w : World V) (b i : ℕ) (s : Option ℕ) (seen : KeyState) (f : Bool) (a k : ℕ) (c : CallId) → (ready_own w b i s seen f).stages a ≡ Questioning k c current.Look → w.stages a ≡ Questioning k c current.Look
  own_kept w b i None seen f a k c is = is
  own_kept w b i (Some e) seen f a k c is = asking_kept w.stages b i (Some e) (ask.ReadyLead seen f) a k c is

  ask_kept : (w : World V) (b i : ℕ) (s : Option ℕ) (step : AskStep) (a k : ℕ) (c : CallId) → (ask_stepped w b i s step).stages a ≡ Questioning k c current.Look → w.stages a ≡ Questioning k c current.Look
  ask_kept w b i s (ask.Look failed) a k c is = asking_kept w.stages b i s (looked s (w.keys i)) a k c is
  ask_kept w b i s (ask.Peek d) a k c is = asking_kept w.stages b i s (peeked s d (is_forgot_in d.generation (w.calls d.caller)) (open_in d.generation (w.calls d.caller))) a k c is
  ask_kept w b i s (ask.ReadyOwn seen f) a k c is = own_kept w b i s seen f a k c is
  ask_kept w b i s (ask.ReadyLead seen f) a k c is = asking_kept w.stages b i s (ask.Lead seen f) a k c is
  ask_kept w b i s (ask.Lead seen f) a k c is = lead_kept w b i s (same_key (w.keys i) seen) a k c is
  ask_kept w b i s (ask.ReadyJoin d seen) a k c is = asking_kept w.stages b i s (ask.Link d seen) a k c is
  ask_kept w b i s (ask.Link d seen) a k c is = asking_kept w.stages b i s (ask.Enter d seen) a k c is
  ask_kept w b i s (ask.Enter d seen) a k c is = enter_kept w b i s d seen (is_open_with seen (w.calls d.caller)) a k c is

  -- nor do those of a settle
  members_kept : (f : ℕ → Stage V) (b i g : ℕ) (own : Option CallId) (v : V) (joiners : ℕ) (top : Option ℕ) (a k : ℕ) (c : CallId) → put f b (at_members i g own v joiners top) a ≡ Questioning k c current.Look → f a ≡ Questioning k c current.Look
  members_kept f b i g None v joiners None a k c is = freed_kept f b a k c is
  members_kept f b i g (Some m) v joiners None a k c is = settling_kept f b i g (Some m) v (settle.PeekOwn joiners) a k c is
  members_kept f b i g own v joiners (Some m) a k c is = settling_kept f b i g own v (settle.Follow joiners m) a k c is

  count_kept : (f : ℕ → Stage V) (b i g : ℕ) (own : Option CallId) (v : V) (top : Option ℕ) (a k : ℕ) (c : CallId) → put f b (at_count i g own v top) a ≡ Questioning k c current.Look → f a ≡ Questioning k c current.Look
  count_kept f b i g None v None a k c is = freed_kept f b a k c is
  count_kept f b i g (Some m) v None a k c is = settling_kept f b i g (Some m) v (settle.PeekOwn 0) a k c is
  count_kept f b i g own v (Some m) a k c is = settling_kept f b i g own v (settle.Count 0 m m) a k c is

  close_kept : (w : World V) (b i g : ℕ) (own : Option CallId) (v : V) (seen : LeaderState) (t : Bool) (a k : ℕ) (c : CallId) → (after_close w b i g own v seen t).stages a ≡ Questioning k c current.Look → w.stages a ≡ Questioning k c current.Look
  close_kept w b i g own v seen false a k c is = settling_kept w.stages b i g own v settle.Peek a k c is
  close_kept w b i g own v seen true a k c is = count_kept w.stages b i g own v seen.top a k c is

  cleared_kept : (w : World V) (i : ℕ) (d : CallId) (t : Bool) (a k : ℕ) (c : CallId) → (cleared w i d t).stages a ≡ Questioning k c current.Look → w.stages a ≡ Questioning k c current.Look
  cleared_kept w i d false a k c is = is
  cleared_kept w i d true a k c is = is

  settle_kept : (w : World V) (b i g : ℕ) (own : Option CallId) (v : V) (step : SettleStep) (a k : ℕ) (c : CallId) → (settle_stepped w b i g own v step).stages a ≡ Questioning k c current.Look → w.stages a ≡ Questioning k c current.Look
  settle_kept w b i g own v settle.Peek a k c is = settling_kept w.stages b i g own v (after_own_peek (w.calls b)) a k c is
  settle_kept w b i g own v (settle.Close seen) a k c is = close_kept w b i g own v seen (is_open_with seen (w.calls b)) a k c is
  settle_kept w b i g own v (settle.Clear top) a k c is =
      let t : Bool = same_key (w.keys i) (Names b g false) in
      cleared_kept w i (call_of b g) t a k c (count_kept (cleared w i (call_of b g) t).stages b i g own v top a k c is)
  settle_kept w b i g own v (settle.Count n m top) a k c is = settling_kept w.stages b i g own v (after_count (one_more w.callers n) top (w.nexts m)) a k c is
  settle_kept w b i g own v (settle.Follow joiners m) a k c is = settling_kept w.stages b i g own v (settle.PeekMember joiners m (w.nexts m)) a k c is
  settle_kept w b i g own v (settle.PeekMember joiners m next) a k c is = settling_kept w.stages b i g own v (settle.Deliver joiners (call_of m (generation_in (w.calls m))) next) a k c is
  settle_kept w b i g own v (settle.Deliver joiners m next) a k c is = members_kept w.stages b i g own v joiners next a k c is
  settle_kept w b i g own v (settle.PeekOwn joiners) a k c is = settling_kept w.stages b i g own v (own_peeked w joiners own) a k c is
  settle_kept w b i g own v (settle.DeliverOwn joiners m) a k c is = freed_kept w.stages b a k c is

  -- nor those of a forget
  key_looked_kept : (f : ℕ → Stage V) (b i : ℕ) (v : KeyState) (a k : ℕ) (c : CallId) → put f b (key_looked i v) a ≡ Questioning k c current.Look → f a ≡ Questioning k c current.Look
  key_looked_kept f b i Never a k c is = freed_kept f b a k c is
  key_looked_kept f b i (Names n g true) a k c is = freed_kept f b a k c is
  key_looked_kept f b i (Names n g false) a k c is = forgetting_kept f b i None (forget.Peek (call_of n g)) a k c is

  call_looked_kept : (f : ℕ → Stage V) (b i : ℕ) (d : CallId) (t : Bool) (a k : ℕ) (c : CallId) → put f b (call_looked i d t) a ≡ Questioning k c current.Look → f a ≡ Questioning k c current.Look
  call_looked_kept f b i d false a k c is = freed_kept f b a k c is
  call_looked_kept f b i d true a k c is = forgetting_kept f b i (Some d) (forget.Peek d) a k c is

  looked_kept : (f : ℕ → Stage V) (b i : ℕ) (target : Option CallId) (v : KeyState) (a k : ℕ) (c : CallId) → put f b (forget_looked i target v) a ≡ Questioning k c current.Look → f a ≡ Questioning k c current.Look
  looked_kept f b i None v a k c is = key_looked_kept f b i v a k c is
  looked_kept f b i (Some d) v a k c is = call_looked_kept f b i d (same_key v (key_of d)) a k c is

  missed_kept : (f : ℕ → Stage V) (b i : ℕ) (target : Option CallId) (d : CallId) (o : Option LeaderState) (t : Bool) (a k : ℕ) (c : CallId) → put f b (peek_missed i target d o t) a ≡ Questioning k c current.Look → f a ≡ Questioning k c current.Look
  missed_kept f b i target d o false a k c is = forgetting_kept f b i target (forget_peeked d o) a k c is
  missed_kept f b i target d o true a k c is = freed_kept f b a k c is

  forgot_kept : (w : World V) (b i : ℕ) (target : Option CallId) (d : CallId) (seen : LeaderState) (t : Bool) (a k : ℕ) (c : CallId) → (forgot w b i target d seen t).stages a ≡ Questioning k c current.Look → w.stages a ≡ Questioning k c current.Look
  forgot_kept w b i target d seen false a k c is = forgetting_kept w.stages b i target (forget.Look true) a k c is
  forgot_kept w b i target d seen true a k c is = forgetting_kept w.stages b i target (forget.LastClear d) a k c is

  first_kept : (w : World V) (b i : ℕ) (target : Option CallId) (d : CallId) (t : Bool) (a k : ℕ) (c : CallId) → (forget_cleared w b i target d t).stages a ≡ Questioning k c current.Look → w.stages a ≡ Questioning k c current.Look
  first_kept w b i target d false a k c is = forgetting_kept w.stages b i target (forget.Look true) a k c is
  first_kept w b i target d true a k c is = freed_kept w.stages b a k c is

  forget_kept : (w : World V) (b i : ℕ) (target : Option CallId) (step : ForgetStep) (a k : ℕ) (c : CallId) → (forget_stepped w b i target step).stages a ≡ Questioning k c current.Look → w.stages a ≡ Questioning k c current.Look
  forget_kept w b i target (forget.Look failed) a k c is = looked_kept w.stages b i target (w.keys i) a k c is
  forget_kept w b i target (forget.Peek d) a k c is = missed_kept w.stages b i target d (open_in d.generation (w.calls d.caller)) (misses target (is_forgot_in d.generation (w.calls d.caller))) a k c is
  forget_kept w b i target (forget.Close d seen) a k c is = forgot_kept w b i target d seen (is_open_with seen (w.calls d.caller)) a k c is
  forget_kept w b i target (forget.FirstClear d) a k c is = first_kept w b i target d (same_key (w.keys i) (key_of d)) a k c is
  forget_kept w b i target (forget.LastClear d) a k c is =
      let t : Bool = same_key (w.keys i) (key_of d) in
      cleared_kept w i d t a k c (freed_kept (cleared w i d t).stages b a k c is)

  poll_kept : (w : World V) (b i g : ℕ) (d : CallId) (t : Bool) (a k : ℕ) (c : CallId) → (polled w b i g d t).stages a ≡ Questioning k c current.Look → w.stages a ≡ Questioning k c current.Look
  poll_kept w b i g d false a k c is = holding_kept w.stages b i g d a k c is
  poll_kept w b i g d true a k c is = freed_kept w.stages b a k c is

  -- a caller that comes to its look by a step of this caller is this caller, at its peek
  abbrev CameFrom : World V → ℕ → Stage V → ℕ → ℕ → CallId → Type 0
  CameFrom w b q a k c = (w.stages a ≡ Questioning k c current.Look) ⊎ ((b ≡ a) × (q ≡ Questioning k c current.Peek))

  peek_look : (w : World V) (b i : ℕ) (d : CallId) (t : Bool) (a k : ℕ) (c : CallId) → put w.stages b (current_peeked i d t) a ≡ Questioning k c current.Look → CameFrom w b (Questioning i d current.Peek) a k c
  peek_look w b i d true a k c is = inl (freed_kept w.stages b a k c is)
  peek_look w b i d false a k c is =
      put_cases (λ (x : Stage V). x ≡ Questioning k c current.Look → CameFrom w b (Questioning i d current.Peek) a k c) w.stages b (Questioning i d current.Look) a
      (λ here same. inr (sym here, at_peek same)) (λ other was. inl was) is
    where
      at_peek : ◌≡◌ {A = Stage V} (Questioning i d current.Look) (Questioning k c current.Look) → ◌≡◌ {A = Stage V} (Questioning i d current.Peek) (Questioning k c current.Peek)
      at_peek same =
          let places : i ≡ k = cc in
          let calls : d ≡ c = cc in
          ap (λ (n : ℕ). Questioning n d current.Peek) places ∙ ap (λ (x : CallId). Questioning k x current.Peek) calls

  question_look : (w : World V) (b i : ℕ) (d : CallId) (step : CurrentStep) (a k : ℕ) (c : CallId) → (current_stepped w b i d step).stages a ≡ Questioning k c current.Look → CameFrom w b (Questioning i d step) a k c
  question_look w b i d current.Peek a k c is = peek_look w b i d (is_forgot_in d.generation (w.calls d.caller)) a k c is
  question_look w b i d current.Look a k c is = inl (freed_kept w.stages b a k c is)

  step_look : (w : World V) (b : ℕ) (q : Stage V) (a k : ℕ) (c : CallId) → (stepped w b q).stages a ≡ Questioning k c current.Look → CameFrom w b q a k c
  step_look w b Free a k c is = inl is
  step_look w b (Leading i g own) a k c is = inl is
  step_look w b (Holding i g d) a k c is = inl is
  step_look w b (Polling i g d) a k c is = inl (poll_kept w b i g d (is_full (w.calls b)) a k c is)
  step_look w b (Seconding one) a k c is = inl is
  step_look w b (Asking i s step) a k c is = inl (ask_kept w b i s step a k c is)
  step_look w b (Settling i g own v step) a k c is = inl (settle_kept w b i g own v step a k c is)
  step_look w b (Forgetting i target step) a k c is = inl (forget_kept w b i target step a k c is)
  step_look w b (Naming i) a k c is = inl (freed_kept w.stages b a k c is)
  step_look w b (Questioning i d step) a k c is = question_look w b i d step a k c is

  -- starts and leaves put no look
  either_kept : (w u : World V) (t : Bool) (a k : ℕ) (c : CallId) → (u.stages a ≡ Questioning k c current.Look → w.stages a ≡ Questioning k c current.Look) → (cond t w u).stages a ≡ Questioning k c current.Look → w.stages a ≡ Questioning k c current.Look
  either_kept w u true a k c was is = is
  either_kept w u false a k c was is = was is

  chan_kept : (w : World V) (b e i : ℕ) (q : Stage V) (t : Bool) (a k : ℕ) (c : CallId) → (cond t w (chan_started w b e i q)).stages a ≡ Questioning k c current.Look → w.stages a ≡ Questioning k c current.Look
  chan_kept w b e i q true a k c is = is
  chan_kept w b e i Free false a k c is =
      either_kept w (with_stage (with_stage w e (Seconding b)) b (Asking i (Some e) (ask.Look false))) ((e == b) || is_spent w e) a k c
      (λ put_two. kept w.stages e (Seconding b) a k c (λ x. cc) (asking_kept (put w.stages e (Seconding b)) b i (Some e) (ask.Look false) a k c put_two)) is
  chan_kept w b e i _ false a k c is = is

  start_kept : (w : World V) (b : ℕ) (o : Op V) (q : Stage V) (a k : ℕ) (c : CallId) → (started w b o q).stages a ≡ Questioning k c current.Look → w.stages a ≡ Questioning k c current.Look
  start_kept w b (op.Ask i) Free a k c is =
      either_kept w (with_stage w b (Asking i None (ask.Look false))) (is_spent w b) a k c (asking_kept w.stages b i None (ask.Look false) a k c) is
  start_kept w b (op.Chan e i) Free a k c is = chan_kept w b e i (w.stages e) (is_spent w b) a k c is
  start_kept w b (op.Settle v) (Leading i g own) a k c is = settling_kept w.stages b i g own v settle.Peek a k c is
  start_kept w b (op.Forget i) Free a k c is = forgetting_kept w.stages b i None (forget.Look false) a k c is
  start_kept w b (op.ForgetCall i d) Free a k c is = forgetting_kept w.stages b i (Some d) (forget.Look false) a k c is
  start_kept w b (op.Named i) Free a k c is = kept w.stages b (Naming i) a k c (λ x. cc) is
  start_kept w b op.Poll (Holding i g d) a k c is = kept w.stages b (Polling i g d) a k c (λ x. cc) is
  start_kept w b (op.Current i d) Free a k c is = kept w.stages b (Questioning i d current.Peek) a k c (λ x. cc) is
  start_kept w b _ _ a k c is = is

  both_kept : (w : World V) (b : ℕ) (s : Option ℕ) (a k : ℕ) (c : CallId) → (freed w b s).stages a ≡ Questioning k c current.Look → w.stages a ≡ Questioning k c current.Look
  both_kept w b None a k c is = freed_kept w.stages b a k c is
  both_kept w b (Some e) a k c is = freed_kept w.stages e a k c (freed_kept (put w.stages e Free) b a k c is)

  leave_kept : (w : World V) (b : ℕ) (q : Stage V) (a k : ℕ) (c : CallId) → (left w b q).stages a ≡ Questioning k c current.Look → w.stages a ≡ Questioning k c current.Look
  leave_kept w b (Asking i s (ask.Look true)) a k c is = both_kept w b s a k c is
  leave_kept w b (Forgetting i target (forget.Look true)) a k c is = freed_kept w.stages b a k c is
  leave_kept w b _ a k c is = is

  -- after a turn a question is at its look that was there before, or the turn was its peek
  pub turn_look : (w : World V) (t : Turn V) (a k : ℕ) (c : CallId) → (turned w t).stages a ≡ Questioning k c current.Look → (w.stages a ≡ Questioning k c current.Look) ⊎ ((t ≡ turn.Step a) × (w.stages a ≡ Questioning k c current.Peek))
  turn_look w (turn.Start b o) a k c is = inl (start_kept w b o (w.stages b) a k c is)
  turn_look w (turn.Leave b) a k c is = inl (leave_kept w b (w.stages b) a k c is)
  turn_look w (turn.Step b) a k c is =
      elim (step_look w b (w.stages b) a k c is) [
        | inl was ↦ inl was
        | inr made ↦ inr (ap (λ (n : ℕ). turn.Step n) made.0, ap w.stages (sym made.0) ∙ made.1)
      ]

  -- the turns from a world on came to the peek of the question, which went on to its look
  abbrev HasPeek : World V → List (Turn V) → ℕ → ℕ → CallId → Type 0
  HasPeek w ts a k c = (p rest : List (Turn V)) × (ts ≡ p ++ turn.Step a ∷ rest) × ((run w p).stages a ≡ Questioning k c current.Peek) × ((run w (p ++ turn.Step a ∷ [])).stages a ≡ Questioning k c current.Look)

  run_look : (ts : List (Turn V)) (w : World V) (a k : ℕ) (c : CallId) → (run w ts).stages a ≡ Questioning k c current.Look → (w.stages a ≡ Questioning k c current.Look) ⊎ HasPeek w ts a k c
  run_look [] w a k c is = inl is
  run_look (t ∷ ts) w a k c is =
      elim (run_look ts (turned w t) a k c is) [
        | inl after ↦ first_turn after
        | inr later ↦ inr (t ∷ later.0, later.1, ap (λ (xs : List (Turn V)). t ∷ xs) later.2, later.3, later.4)
      ]
    where
      first_turn : (turned w t).stages a ≡ Questioning k c current.Look → (w.stages a ≡ Questioning k c current.Look) ⊎ HasPeek w (t ∷ ts) a k c
      first_turn after =
          elim (turn_look w t a k c after) [
            | inl was ↦ inl was
            | inr made ↦ inr ([], ts, ap (λ (x : Turn V). x ∷ ts) made.0, made.1, subst (λ (x : Turn V). (turned w x).stages a ≡ Questioning k c current.Look) made.0 after)
          ]

  pub looks_have_peeks : LooksHavePeeks V
  looks_have_peeks z s is a k c looks =
      elim (run_look s (first_world z.callers z.first) a k c looks) [
        | inl free ↦ cc
        | inr has ↦ has
      ]

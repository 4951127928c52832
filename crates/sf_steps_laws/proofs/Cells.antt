-- a cell is emptied by its owner's collect alone
use Rattle.std.proofs.Common.{◌≡◌, ℕ, Bool, true, false, ◌==◌, ◌||◌, List, [], ◌∷◌, ◌++◌, ◌⊎◌, inl, inr, Option, Some, None, refl, sym, ◌∙◌, ap, subst, append_assoc}
use Rattle.std.proofs.lemmas.Bool.{cases_eq}
use Rattle.sf_history.specs.declared.event.Event.{Event}
use Rattle.sf_steps_laws.specs.Events.{turn_events, events_of}
use Rattle.sf_steps_laws.specs.Schedules.{Setting, IsScheduleFrom}
use Rattle.sf_steps_laws.proofs.Sound.{Sound}
use Rattle.sf_steps_laws.proofs.Flags.{turn_fair}
use Rattle.sf_steps_laws.proofs.Callers.{Fair}
use Rattle.std.specs.Prelude.{cond}
use Rattle.sf_history.specs.declared.call.CallId.{CallId}
use Rattle.sf_words.specs.declared.key_word.KeyState.{KeyState}
use Rattle.sf_words.specs.declared.key_word.KeyState.TheVariants.{Names}
use Rattle.sf_words.specs.declared.call_word.LeaderState.{LeaderState}
use Rattle.sf_words.specs.declared.call_word.CallState.TheVariants as word
use Rattle.sf_steps_laws.specs.declared.letter.Letter.{Letter}
use Rattle.sf_steps_laws.specs.declared.operation.Op.{Op}
use Rattle.sf_steps_laws.specs.declared.operation.Op.TheVariants as op
use Rattle.sf_steps_laws.specs.declared.operation.Stage.{Stage}
use Rattle.sf_steps_laws.specs.declared.operation.Stage.TheVariants.{Free, Leading, Holding, Polling, Seconding, Asking, Settling, Forgetting, Naming, Questioning}
use Rattle.sf_steps_laws.specs.declared.operation.AskStep.{AskStep}
use Rattle.sf_steps_laws.specs.declared.operation.AskStep.TheVariants as ask
use Rattle.sf_steps_laws.specs.declared.operation.SettleStep.{SettleStep}
use Rattle.sf_steps_laws.specs.declared.operation.SettleStep.TheVariants as settle
use Rattle.sf_steps_laws.specs.declared.operation.ForgetStep.{ForgetStep}
use Rattle.sf_steps_laws.specs.declared.operation.ForgetStep.TheVariants as forget
use Rattle.sf_steps_laws.specs.declared.operation.CurrentStep.{CurrentStep}
use Rattle.sf_steps_laws.specs.declared.operation.CurrentStep.TheVariants as current
use Rattle.sf_steps_laws.specs.declared.turn.Turn.{Turn}
use Rattle.sf_steps_laws.specs.declared.turn.Turn.TheVariants as turn
use Rattle.sf_steps_laws.specs.World.{World, first_world, with_stage, same_key, key_of, is_open_with, is_full, is_spent}
use Rattle.sf_lists.specs.Functions.{put}
use Rattle.sf_steps_laws.specs.Askings.{ready_own, after_lead, after_enter, ask_stepped}
use Rattle.sf_steps_laws.specs.Turns.{after_close, cleared, settle_stepped, forgot, forget_cleared, forget_stepped, polled, current_stepped, stepped, chan_started, started, freed, left, turned, run}
use Rattle.sf_steps_laws.specs.Events.{world_after}
use Rattle.sf_steps_laws.specs.Schedules.{IsSchedule}
use Rattle.sf_steps_laws.specs.Delivered.{delivers, Collects}
use Rattle.sf_steps_laws.specs.Laws.{LettersArrive, CellsAreCollected, FirstLettersAreCollected}
use Rattle.sf_lists.proofs.Functions.{put_here, put_else, put_cases}
use Rattle.sf_steps_laws.proofs.Sound.{call_of}
use Rattle.sf_steps_laws.proofs.RightAnswers.{run_append, schedule_parts, always_fair}
use Rattle.sf_steps_laws.proofs.Letters.{same_pair, deliver_right, letters_are_answers}

module _ {V : Type 0} where
  -- the letter leaves the cell, and it is the caller's own
  abbrev Empties : World V → ℕ → ℕ → Type 0
  Empties w a x = (a ≡ x) × Collects w a

  -- a cell that stays is not emptied
  stays : (w u : World V) (a x : ℕ) (l : Letter V) → u.cells x ≡ w.cells x → w.cells x ≡ Some l → u.cells x ≡ None → Empties w a x
  stays w u a x l same is none = let clash : Some l ≡ None = sym is ∙ (sym same ∙ none) in cc

  own_stays : (w : World V) (a i x : ℕ) (s : Option ℕ) (seen : KeyState) (f : Bool) → (ready_own w a i s seen f).cells x ≡ w.cells x
  own_stays w a i x None seen f = refl
  own_stays w a i x (Some b) seen f = refl

  lead_stays : (w : World V) (a i x : ℕ) (s : Option ℕ) (b : Bool) → (after_lead w a i s b).cells x ≡ w.cells x
  lead_stays w a i x s false = refl
  lead_stays w a i x None true = refl
  lead_stays w a i x (Some b) true = refl

  enter_stays : (w : World V) (a i x : ℕ) (s : Option ℕ) (d : CallId) (seen : LeaderState) (b : Bool) → (after_enter w a i s d seen b).cells x ≡ w.cells x
  enter_stays w a i x s d seen false = refl
  enter_stays w a i x s d seen true = refl

  ask_stays : (w : World V) (a i x : ℕ) (s : Option ℕ) (step : AskStep) → (ask_stepped w a i s step).cells x ≡ w.cells x
  ask_stays w a i x s (ask.Look failed) = refl
  ask_stays w a i x s (ask.Peek d) = refl
  ask_stays w a i x s (ask.ReadyOwn seen f) = own_stays w a i x s seen f
  ask_stays w a i x s (ask.ReadyLead seen f) = refl
  ask_stays w a i x s (ask.Lead seen f) = lead_stays w a i x s (same_key (w.keys i) seen)
  ask_stays w a i x s (ask.ReadyJoin d seen) = refl
  ask_stays w a i x s (ask.Link d seen) = refl
  ask_stays w a i x s (ask.Enter d seen) = enter_stays w a i x s d seen (is_open_with seen (w.calls d.caller))

  close_stays : (w : World V) (a i g x : ℕ) (own : Option CallId) (v : V) (seen : LeaderState) (b : Bool) → (after_close w a i g own v seen b).cells x ≡ w.cells x
  close_stays w a i g x own v seen false = refl
  close_stays w a i g x own v seen true = refl

  cleared_stays : (w : World V) (i x : ℕ) (d : CallId) (b : Bool) → (cleared w i d b).cells x ≡ w.cells x
  cleared_stays w i x d false = refl
  cleared_stays w i x d true = refl

  -- a letter that is delivered fills a cell
  filled : (w : World V) (a y x : ℕ) (letter l : Letter V) → w.cells x ≡ Some l → put w.cells y (Some letter) x ≡ None → Empties w a x
  filled w a y x letter l is = put_cases (λ (c : Option (Letter V)). c ≡ None → Empties w a x) w.cells y (Some letter) x (λ here none. cc) (λ other none. let clash : Some l ≡ None = sym is ∙ none in cc)

  settle_empties : (w : World V) (a i g x : ℕ) (own : Option CallId) (v : V) (step : SettleStep) (l : Letter V) → w.cells x ≡ Some l → (settle_stepped w a i g own v step).cells x ≡ None → Empties w a x
  settle_empties w a i g x own v settle.Peek l is none = stays w w a x l refl is none
  settle_empties w a i g x own v (settle.Close seen) l is none = stays w (after_close w a i g own v seen (is_open_with seen (w.calls a))) a x l (close_stays w a i g x own v seen (is_open_with seen (w.calls a))) is none
  settle_empties w a i g x own v (settle.Clear top) l is none =
      stays w (cleared w i (call_of a g) (same_key (w.keys i) (Names a g false))) a x l (cleared_stays w i x (call_of a g) (same_key (w.keys i) (Names a g false))) is none
  settle_empties w a i g x own v (settle.Count n m top) l is none = stays w w a x l refl is none
  settle_empties w a i g x own v (settle.Follow joiners m) l is none = stays w w a x l refl is none
  settle_empties w a i g x own v (settle.PeekMember joiners m next) l is none = stays w w a x l refl is none
  settle_empties w a i g x own v (settle.Deliver joiners m next) l is none = filled w a m.caller x (record { place = i; call = call_of a g; value = v; joiners = joiners }) l is none
  settle_empties w a i g x own v (settle.PeekOwn joiners) l is none = stays w w a x l refl is none
  settle_empties w a i g x own v (settle.DeliverOwn joiners m) l is none = filled w a m.caller x (record { place = i; call = call_of a g; value = v; joiners = joiners }) l is none

  forgot_stays : (w : World V) (a i x : ℕ) (target : Option CallId) (d : CallId) (seen : LeaderState) (b : Bool) → (forgot w a i target d seen b).cells x ≡ w.cells x
  forgot_stays w a i x target d seen false = refl
  forgot_stays w a i x target d seen true = refl

  first_stays : (w : World V) (a i x : ℕ) (target : Option CallId) (d : CallId) (b : Bool) → (forget_cleared w a i target d b).cells x ≡ w.cells x
  first_stays w a i x target d false = refl
  first_stays w a i x target d true = refl

  forget_stays : (w : World V) (a i x : ℕ) (target : Option CallId) (step : ForgetStep) → (forget_stepped w a i target step).cells x ≡ w.cells x
  forget_stays w a i x target (forget.Look failed) = refl
  forget_stays w a i x target (forget.Peek d) = refl
  forget_stays w a i x target (forget.Close d seen) = forgot_stays w a i x target d seen (is_open_with seen (w.calls d.caller))
  forget_stays w a i x target (forget.FirstClear d) = first_stays w a i x target d (same_key (w.keys i) (key_of d))
  forget_stays w a i x target (forget.LastClear d) = cleared_stays w i x d (same_key (w.keys i) (key_of d))

  current_stays : (w : World V) (a i x : ℕ) (d : CallId) (step : CurrentStep) → (current_stepped w a i d step).cells x ≡ w.cells x
  current_stays w a i x d current.Peek = refl
  current_stays w a i x d current.Look = refl

  poll_empties : (w : World V) (a i g x : ℕ) (d : CallId) (l : Letter V) → w.stages a ≡ Polling i g d → w.cells x ≡ Some l → (b : Bool) → is_full (w.calls a) ≡ b → (polled w a i g d b).cells x ≡ None → Empties w a x
  poll_empties w a i g x d l at is false full none = stays w w a x l refl is none
  poll_empties w a i g x d l at is true full none = put_cases (λ (c : Option (Letter V)). c ≡ None → Empties w a x) w.cells a None x
      (λ here emptied. (sym here, record { place = i; generation = g; call = d; polls = at; full = full }))
      (λ other emptied. let clash : Some l ≡ None = sym is ∙ emptied in cc) none

  step_empties : (w : World V) (a x : ℕ) (p : Stage V) (l : Letter V) → w.stages a ≡ p → w.cells x ≡ Some l → (stepped w a p).cells x ≡ None → Empties w a x
  step_empties w a x Free l at is none = stays w w a x l refl is none
  step_empties w a x (Leading i g own) l at is none = stays w w a x l refl is none
  step_empties w a x (Holding i g d) l at is none = stays w w a x l refl is none
  step_empties w a x (Polling i g d) l at is none = poll_empties w a i g x d l at is (is_full (w.calls a)) refl none
  step_empties w a x (Seconding one) l at is none = stays w w a x l refl is none
  step_empties w a x (Asking i s step) l at is none = stays w (ask_stepped w a i s step) a x l (ask_stays w a i x s step) is none
  step_empties w a x (Settling i g own v step) l at is none = settle_empties w a i g x own v step l is none
  step_empties w a x (Forgetting i target step) l at is none = stays w (forget_stepped w a i target step) a x l (forget_stays w a i x target step) is none
  step_empties w a x (Naming i) l at is none = stays w (with_stage w a Free) a x l refl is none
  step_empties w a x (Questioning i d step) l at is none = stays w (current_stepped w a i d step) a x l (current_stays w a i x d step) is none

  -- starts and leaves change no cell
  either_stays : (w u : World V) (x : ℕ) (b : Bool) → u.cells x ≡ w.cells x → (cond b w u).cells x ≡ w.cells x
  either_stays w u x true same = refl
  either_stays w u x false same = same

  chan_stays : (w : World V) (a b i x : ℕ) (q : Stage V) (t : Bool) → (cond t w (chan_started w a b i q)).cells x ≡ w.cells x
  chan_stays w a b i x q true = refl
  chan_stays w a b i x Free false = either_stays w (with_stage (with_stage w b (Seconding a)) a (Asking i (Some b) (ask.Look false))) x ((b == a) || is_spent w b) refl
  chan_stays w a b i x _ false = refl

  pub start_stays : (w : World V) (a x : ℕ) (o : Op V) (p : Stage V) → (started w a o p).cells x ≡ w.cells x
  start_stays w a x (op.Ask i) Free = either_stays w (with_stage w a (Asking i None (ask.Look false))) x (is_spent w a) refl
  start_stays w a x (op.Chan b i) Free = chan_stays w a b i x (w.stages b) (is_spent w a)
  start_stays w a x (op.Settle v) (Leading i g own) = refl
  start_stays w a x (op.Forget i) Free = refl
  start_stays w a x (op.ForgetCall i d) Free = refl
  start_stays w a x (op.Named i) Free = refl
  start_stays w a x op.Poll (Holding i g c) = refl
  start_stays w a x (op.Current i c) Free = refl
  start_stays w a x _ _ = refl

  freed_stays : (w : World V) (a x : ℕ) (s : Option ℕ) → (freed w a s).cells x ≡ w.cells x
  freed_stays w a x None = refl
  freed_stays w a x (Some b) = refl

  pub leave_stays : (w : World V) (a x : ℕ) (p : Stage V) → (left w a p).cells x ≡ w.cells x
  leave_stays w a x (Asking i s (ask.Look true)) = freed_stays w a x s
  leave_stays w a x (Forgetting i target (forget.Look true)) = refl
  leave_stays w a x _ = refl

  turn_empties : (w : World V) (x : ℕ) (t : Turn V) (l : Letter V) → w.cells x ≡ Some l → (turned w t).cells x ≡ None → (t ≡ turn.Step x) × Collects w x
  turn_empties w x (turn.Start a o) l is none = let clash : Some l ≡ None = sym is ∙ (sym (start_stays w a x o (w.stages a)) ∙ none) in cc
  turn_empties w x (turn.Step a) l is none =
      let emptied = step_empties w a x (w.stages a) l refl is none in
      (ap (λ (n : ℕ). turn.Step n) emptied.0, subst (λ (n : ℕ). Collects w n) emptied.0 emptied.1)
  turn_empties w x (turn.Leave a) l is none = let clash : Some l ≡ None = sym is ∙ (sym (leave_stays w a x (w.stages a)) ∙ none) in cc

  -- a letter that is gone after some turns was collected in one of them
  abbrev WasCollected : World V → ℕ → List (Turn V) → Type 0
  WasCollected w x ts = (front back : List (Turn V)) × (ts ≡ front ++ turn.Step x ∷ back) × Collects (run w front) x

  pub collected : (w : World V) (x : ℕ) (ts : List (Turn V)) (l : Letter V) → w.cells x ≡ Some l → (run w ts).cells x ≡ None → WasCollected w x ts
  collected w x [] l is none = let clash : Some l ≡ None = sym is ∙ none in cc
  collected w x (t ∷ ts) l is none = at ((turned w t).cells x) refl (λ k found. collected (turned w t) x ts k found none)
    where
      at : (c : Option (Letter V)) → (turned w t).cells x ≡ c → ((k : Letter V) → (turned w t).cells x ≡ Some k → WasCollected (turned w t) x ts) → WasCollected w x (t ∷ ts)
      at None now later = let here = turn_empties w x t l is now in ([], ts, ap (λ (u : Turn V). u ∷ ts) here.0, here.1)
      at (Some k) now later = let there = later k now in (t ∷ there.0, there.1, ap (λ (us : List (Turn V)). t ∷ us) there.2, there.3)

  -- a deliver fills the cell
  settle_fills : (w : World V) (a i g : ℕ) (own : Option CallId) (v : V) (step : SettleStep) (x : CallId × Letter V) → delivers a (Settling i g own v step) ≡ Some x → (settle_stepped w a i g own v step).cells x.0.caller ≡ Some x.1
  settle_fills w a i g own v settle.Peek x is = cc
  settle_fills w a i g own v (settle.Close seen) x is = cc
  settle_fills w a i g own v (settle.Clear top) x is = cc
  settle_fills w a i g own v (settle.Count n m top) x is = cc
  settle_fills w a i g own v (settle.Follow joiners m) x is = cc
  settle_fills w a i g own v (settle.PeekMember joiners m next) x is = cc
  settle_fills w a i g own v (settle.Deliver joiners m next) x is =
      let letter : Letter V = record { place = i; call = call_of a g; value = v; joiners = joiners } in
      subst (λ (y : CallId × Letter V). (settle_stepped w a i g own v (settle.Deliver joiners m next)).cells y.0.caller ≡ Some y.1) (same_pair (m, letter) x is) (put_here w.cells m.caller (Some letter))
  settle_fills w a i g own v (settle.PeekOwn joiners) x is = cc
  settle_fills w a i g own v (settle.DeliverOwn joiners m) x is =
      let letter : Letter V = record { place = i; call = call_of a g; value = v; joiners = joiners } in
      subst (λ (y : CallId × Letter V). (settle_stepped w a i g own v (settle.DeliverOwn joiners m)).cells y.0.caller ≡ Some y.1) (same_pair (m, letter) x is) (put_here w.cells m.caller (Some letter))

  deliver_fills : (w : World V) (a : ℕ) (p : Stage V) (x : CallId × Letter V) → delivers a p ≡ Some x → (stepped w a p).cells x.0.caller ≡ Some x.1
  deliver_fills w a Free x is = cc
  deliver_fills w a (Leading i g own) x is = cc
  deliver_fills w a (Holding i g d) x is = cc
  deliver_fills w a (Polling i g d) x is = cc
  deliver_fills w a (Seconding one) x is = cc
  deliver_fills w a (Asking i s step) x is = cc
  deliver_fills w a (Settling i g own v step) x is = settle_fills w a i g own v step x is
  deliver_fills w a (Forgetting i target step) x is = cc
  deliver_fills w a (Naming i) x is = cc
  deliver_fills w a (Questioning i d step) x is = cc

  settle_fulls : (w : World V) (a i g : ℕ) (own : Option CallId) (v : V) (step : SettleStep) (x : CallId × Letter V) → delivers a (Settling i g own v step) ≡ Some x → (settle_stepped w a i g own v step).calls x.0.caller ≡ word.Full x.0.generation
  settle_fulls w a i g own v settle.Peek x is = cc
  settle_fulls w a i g own v (settle.Close seen) x is = cc
  settle_fulls w a i g own v (settle.Clear top) x is = cc
  settle_fulls w a i g own v (settle.Count n m top) x is = cc
  settle_fulls w a i g own v (settle.Follow joiners m) x is = cc
  settle_fulls w a i g own v (settle.PeekMember joiners m next) x is = cc
  settle_fulls w a i g own v (settle.Deliver joiners m next) x is =
      let letter : Letter V = record { place = i; call = call_of a g; value = v; joiners = joiners } in
      subst (λ (y : CallId × Letter V). (settle_stepped w a i g own v (settle.Deliver joiners m next)).calls y.0.caller ≡ word.Full y.0.generation) (same_pair (m, letter) x is) (put_here w.calls m.caller (word.Full m.generation))
  settle_fulls w a i g own v (settle.PeekOwn joiners) x is = cc
  settle_fulls w a i g own v (settle.DeliverOwn joiners m) x is =
      let letter : Letter V = record { place = i; call = call_of a g; value = v; joiners = joiners } in
      subst (λ (y : CallId × Letter V). (settle_stepped w a i g own v (settle.DeliverOwn joiners m)).calls y.0.caller ≡ word.Full y.0.generation) (same_pair (m, letter) x is) (put_here w.calls m.caller (word.Full m.generation))

  deliver_fulls : (w : World V) (a : ℕ) (p : Stage V) (x : CallId × Letter V) → delivers a p ≡ Some x → (stepped w a p).calls x.0.caller ≡ word.Full x.0.generation
  deliver_fulls w a Free x is = cc
  deliver_fulls w a (Leading i g own) x is = cc
  deliver_fulls w a (Holding i g d) x is = cc
  deliver_fulls w a (Polling i g d) x is = cc
  deliver_fulls w a (Seconding one) x is = cc
  deliver_fulls w a (Asking i s step) x is = cc
  deliver_fulls w a (Settling i g own v step) x is = settle_fulls w a i g own v step x is
  deliver_fulls w a (Forgetting i target step) x is = cc
  deliver_fulls w a (Naming i) x is = cc
  deliver_fulls w a (Questioning i d step) x is = cc

  pub letters_arrive : LettersArrive V
  letters_arrive z p a m l is =
      let w : World V = world_after z.callers z.first p in
      let there : world_after z.callers z.first (p ++ turn.Step a ∷ []) ≡ stepped w a (w.stages a) = run_append (first_world z.callers z.first) p (turn.Step a ∷ []) in (
        ap (λ (u : World V). u.cells m.caller) there ∙ deliver_fills w a (w.stages a) (m, l) is,
        ap (λ (u : World V). u.calls m.caller) there ∙ deliver_fulls w a (w.stages a) (m, l) is,
      )

  pub cells_are_collected : CellsAreCollected V
  cells_are_collected z p between a b m n l k is same first next =
      let w : World V = world_after z.callers z.first p in
      let u : World V = turned w (turn.Step a) in
      let there : world_after z.callers z.first (p ++ turn.Step a ∷ between) ≡ run u between = run_append (first_world z.callers z.first) p (turn.Step a ∷ between) in
      let whole : IsSchedule z ((p ++ turn.Step a ∷ between) ++ turn.Step b ∷ []) = subst (λ (ts : List (Turn V)). IsSchedule z ts) (sym (append_assoc p (turn.Step a ∷ between) (turn.Step b ∷ []))) is in
      let empty : (world_after z.callers z.first (p ++ turn.Step a ∷ between)).cells n.caller ≡ None = (letters_are_answers z (p ++ turn.Step a ∷ between) [] b n k whole next).0.empty in
      let gone : (run u between).cells m.caller ≡ None = ap (λ (v : World V). v.cells m.caller) (sym there) ∙ (ap (λ (i : ℕ). (world_after z.callers z.first (p ++ turn.Step a ∷ between)).cells i) (sym same) ∙ empty) in
      let found = collected u m.caller between l (deliver_fills w a (w.stages a) (m, l) first) gone in
      (found.0, found.1, found.2, subst (λ (v : World V). Collects v m.caller) (sym (run_append (first_world z.callers z.first) p (turn.Step a ∷ found.0))) found.3)

  -- what a step makes of a cell: it stays, it is emptied, or a letter is delivered into it
  abbrev pub Becomes : World V → World V → ℕ → Stage V → ℕ → Type 0
  Becomes w u a p x = (u.cells x ≡ w.cells x) ⊎ (u.cells x ≡ None) ⊎ ((m : CallId) × (l : Letter V) × (delivers a p ≡ Some (m, l)) × (x ≡ m.caller))

  settle_becomes : (w : World V) (a i g x : ℕ) (own : Option CallId) (v : V) (step : SettleStep) → Becomes w (settle_stepped w a i g own v step) a (Settling i g own v step) x
  settle_becomes w a i g x own v settle.Peek = inl refl
  settle_becomes w a i g x own v (settle.Close seen) = inl (close_stays w a i g x own v seen (is_open_with seen (w.calls a)))
  settle_becomes w a i g x own v (settle.Clear top) = inl (cleared_stays w i x (call_of a g) (same_key (w.keys i) (Names a g false)))
  settle_becomes w a i g x own v (settle.Count n m top) = inl refl
  settle_becomes w a i g x own v (settle.Follow joiners m) = inl refl
  settle_becomes w a i g x own v (settle.PeekMember joiners m next) = inl refl
  settle_becomes w a i g x own v (settle.Deliver joiners m next) =
      let letter : Letter V = record { place = i; call = call_of a g; value = v; joiners = joiners } in
      elim (cases_eq x m.caller) [
        | inl here ↦ inr (inr (m, letter, refl, here))
        | inr other ↦ inl (put_else w.cells m.caller (Some letter) x other)
      ]
  settle_becomes w a i g x own v (settle.PeekOwn joiners) = inl refl
  settle_becomes w a i g x own v (settle.DeliverOwn joiners m) =
      let letter : Letter V = record { place = i; call = call_of a g; value = v; joiners = joiners } in
      elim (cases_eq x m.caller) [
        | inl here ↦ inr (inr (m, letter, refl, here))
        | inr other ↦ inl (put_else w.cells m.caller (Some letter) x other)
      ]

  poll_becomes : (w : World V) (a i g x : ℕ) (d : CallId) (b : Bool) → Becomes w (polled w a i g d b) a (Polling i g d) x
  poll_becomes w a i g x d false = inl refl
  poll_becomes w a i g x d true = elim (cases_eq x a) [
    | inl here ↦ inr (inl (ap (put w.cells a None) here ∙ put_here w.cells a None))
    | inr other ↦ inl (put_else w.cells a None x other)
  ]

  pub step_becomes : (w : World V) (a x : ℕ) (p : Stage V) → Becomes w (stepped w a p) a p x
  step_becomes w a x Free = inl refl
  step_becomes w a x (Leading i g own) = inl refl
  step_becomes w a x (Holding i g d) = inl refl
  step_becomes w a x (Polling i g d) = poll_becomes w a i g x d (is_full (w.calls a))
  step_becomes w a x (Seconding one) = inl refl
  step_becomes w a x (Asking i s step) = inl (ask_stays w a i x s step)
  step_becomes w a x (Settling i g own v step) = settle_becomes w a i g x own v step
  step_becomes w a x (Forgetting i target step) = inl (forget_stays w a i x target step)
  step_becomes w a x (Naming i) = inl refl
  step_becomes w a x (Questioning i d step) = inl (current_stays w a i x d step)

  -- a letter in a cell stays, or the cell is emptied
  turn_cell : (first : ℕ) (h : List (Event ℕ V)) (w : World V) (x : ℕ) (t : Turn V) (l : Letter V) → Sound first h w → w.cells x ≡ Some l → ((turned w t).cells x ≡ Some l) ⊎ ((turned w t).cells x ≡ None)
  turn_cell first h w x (turn.Start a o) l sound is = inl (start_stays w a x o (w.stages a) ∙ is)
  turn_cell first h w x (turn.Leave a) l sound is = inl (leave_stays w a x (w.stages a) ∙ is)
  turn_cell first h w x (turn.Step a) l sound is = at (step_becomes w a x (w.stages a))
    where
      at : Becomes w (stepped w a (w.stages a)) a (w.stages a) x → ((stepped w a (w.stages a)).cells x ≡ Some l) ⊎ ((stepped w a (w.stages a)).cells x ≡ None)
      at (inl same) = inl (same ∙ is)
      at (inr (inl none)) = inr none
      at (inr (inr filled)) =
          let empty : w.cells filled.0.caller ≡ None = (deliver_right first h w a (w.stages a) (filled.0, filled.1) refl sound filled.2).0.empty in
          let clash : Some l ≡ None = sym is ∙ (ap w.cells filled.3 ∙ empty) in cc

  abbrev LetterWasCollected : World V → ℕ → List (Turn V) → Letter V → Type 0
  LetterWasCollected w x ts l = (front back : List (Turn V)) × (ts ≡ front ++ turn.Step x ∷ back) × Collects (run w front) x × ((run w front).cells x ≡ Some l)

  letter_collected : (z : Setting) (h : List (Event ℕ V)) (w : World V) (x : ℕ) (ts : List (Turn V)) (l : Letter V) → Fair z h w → IsScheduleFrom z h w ts → w.cells x ≡ Some l → (run w ts).cells x ≡ None → LetterWasCollected w x ts l
  letter_collected z h w x [] l sound allowed is none = let clash : Some l ≡ None = sym is ∙ none in cc
  letter_collected z h w x (t ∷ ts) l sound allowed is none = at (turn_cell z.first h w x t l sound.sound is) (λ kept. letter_collected z (h ++ turn_events w t) (turned w t) x ts l (turn_fair z h w t sound allowed.0) allowed.1 kept none)
    where
      at : ((turned w t).cells x ≡ Some l) ⊎ ((turned w t).cells x ≡ None) → ((turned w t).cells x ≡ Some l → LetterWasCollected (turned w t) x ts l) → LetterWasCollected w x (t ∷ ts) l
      at (inl kept) later = let there = later kept in (t ∷ there.0, there.1, ap (λ (us : List (Turn V)). t ∷ us) there.2, there.3, there.4)
      at (inr gone) later = let here = turn_empties w x t l is gone in ([], ts, ap (λ (u : Turn V). u ∷ ts) here.0, here.1, is)

  pub first_letters_are_collected : FirstLettersAreCollected V
  first_letters_are_collected z p between a b m n l k is same first next =
      let w : World V = world_after z.callers z.first p in
      let h : List (Event ℕ V) = events_of z.callers z.first p in
      let u : World V = turned w (turn.Step a) in
      let there : world_after z.callers z.first (p ++ turn.Step a ∷ between) ≡ run u between = run_append (first_world z.callers z.first) p (turn.Step a ∷ between) in
      let whole : IsSchedule z ((p ++ turn.Step a ∷ between) ++ turn.Step b ∷ []) = subst (λ (ts : List (Turn V)). IsSchedule z ts) (sym (append_assoc p (turn.Step a ∷ between) (turn.Step b ∷ []))) is in
      let parts = schedule_parts z p (turn.Step a ∷ (between ++ turn.Step b ∷ [])) [] (first_world z.callers z.first) is in
      let rest = (schedule_parts z between (turn.Step b ∷ []) (h ++ turn_events w (turn.Step a)) u parts.1.1).0 in
      let sound : Fair z (h ++ turn_events w (turn.Step a)) u = turn_fair z h w (turn.Step a) (always_fair z p parts.0) parts.1.0 in
      let empty : (world_after z.callers z.first (p ++ turn.Step a ∷ between)).cells n.caller ≡ None = (letters_are_answers z (p ++ turn.Step a ∷ between) [] b n k whole next).0.empty in
      let gone : (run u between).cells m.caller ≡ None = ap (λ (v : World V). v.cells m.caller) (sym there) ∙ (ap (λ (i : ℕ). (world_after z.callers z.first (p ++ turn.Step a ∷ between)).cells i) (sym same) ∙ empty) in
      let found = letter_collected z (h ++ turn_events w (turn.Step a)) u m.caller between l sound rest (deliver_fills w a (w.stages a) (m, l) first) gone in
      let back : world_after z.callers z.first (p ++ turn.Step a ∷ found.0) ≡ run u found.0 = run_append (first_world z.callers z.first) p (turn.Step a ∷ found.0) in
      (found.0, found.1, found.2, subst (λ (v : World V). Collects v m.caller) (sym back) found.3, ap (λ (v : World V). v.cells m.caller) back ∙ found.4)

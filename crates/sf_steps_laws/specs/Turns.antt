-- turns: what starting, stepping and leaving an operation make of the world. A turn that is not allowed changes nothing.
use Rattle.std.specs.Prelude.{ℕ, ◌==◌, Bool, true, false, ◌||◌, List, [], ◌∷◌, if◌then◌else◌, Option, Some, None}
use Rattle.sf_history.specs.declared.call.CallId.{CallId}
use Rattle.sf_words.specs.declared.key_word.KeyState.{KeyState}
use Rattle.sf_words.specs.declared.key_word.KeyState.TheVariants.{Never, Names}
use Rattle.sf_words.specs.declared.call_word.LeaderState.{LeaderState}
use Rattle.sf_words.specs.declared.call_word.CallState.{CallState}
use Rattle.sf_words.specs.declared.call_word.CallState.TheVariants as word
use Rattle.sf_steps_laws.specs.declared.letter.Letter.{Letter}
use Rattle.sf_steps_laws.specs.declared.operation.Op.{Op}
use Rattle.sf_steps_laws.specs.declared.operation.Op.TheVariants as op
use Rattle.sf_steps_laws.specs.declared.operation.Stage.{Stage}
use Rattle.sf_steps_laws.specs.declared.operation.Stage.TheVariants.{Free, Leading, Holding, Polling, Seconding, Asking, Settling, Forgetting, Naming, Questioning}
use Rattle.sf_steps_laws.specs.declared.operation.AskStep.TheVariants as ask
use Rattle.sf_steps_laws.specs.declared.operation.SettleStep.{SettleStep}
use Rattle.sf_steps_laws.specs.declared.operation.SettleStep.TheVariants as settle
use Rattle.sf_steps_laws.specs.declared.operation.ForgetStep.{ForgetStep}
use Rattle.sf_steps_laws.specs.declared.operation.ForgetStep.TheVariants as forget
use Rattle.sf_steps_laws.specs.declared.operation.CurrentStep.{CurrentStep}
use Rattle.sf_steps_laws.specs.declared.operation.CurrentStep.TheVariants as current
use Rattle.sf_steps_laws.specs.declared.turn.Turn.{Turn}
use Rattle.sf_steps_laws.specs.declared.turn.Turn.TheVariants as turn
use Rattle.sf_steps_laws.specs.World.{World, with_key, with_call, with_cell, with_stage, is_spent, key_of, cleared_key_of, same_key, is_open_with, open_in, is_forgot_in, generation_in, is_full, one_more}
use Rattle.sf_steps_laws.specs.Askings.{ask_stepped}

-- after a forget's peek: an open word of the call's generation leads on to closing
abbrev pub forget_peeked : CallId → Option LeaderState → ForgetStep
forget_peeked c None = forget.FirstClear c
forget_peeked c (Some seen) = forget.Close c seen

-- a forget of one call misses that call where it finds it forgotten
abbrev pub misses : Option CallId → Bool → Bool
misses None is_forgot = false
misses (Some c) is_forgot = is_forgot

-- after a leader's peek of its own word: an open one leads on to closing, a forgotten one to clearing
abbrev pub after_own_peek : CallState → SettleStep
after_own_peek word.Free = settle.Peek
after_own_peek (word.Open s) = settle.Close s
after_own_peek (word.Forgot s) = settle.Clear s.top
after_own_peek (word.Done s) = settle.Peek
after_own_peek (word.Listed i) = settle.Peek
after_own_peek (word.Full i) = settle.Peek

-- after the load of a counted member's next word: the next one is counted, or the members get their letters from the top on
abbrev pub after_count : ℕ → ℕ → Option ℕ → SettleStep
after_count joiners top None = settle.Follow joiners top
after_count joiners top (Some m) = settle.Count joiners m top

module _ {V : Type 0} where
  -- the members from the top on; after them the own channel; then the caller is free
  abbrev pub at_own : ℕ → ℕ → V → ℕ → Option CallId → Stage V
  at_own k g v joiners None = Free
  at_own k g v joiners (Some m) = Settling k g (Some m) v (settle.PeekOwn joiners)

  abbrev pub at_members : ℕ → ℕ → Option CallId → V → ℕ → Option ℕ → Stage V
  at_members k g own v joiners None = at_own k g v joiners own
  at_members k g own v joiners (Some m) = Settling k g own v (settle.Follow joiners m)

  -- after the Settle: the members from the top on are counted first, if there are any
  abbrev pub at_count : ℕ → ℕ → Option CallId → V → Option ℕ → Stage V
  at_count k g own v None = at_own k g v 0 own
  at_count k g own v (Some m) = Settling k g own v (settle.Count 0 m m)

  abbrev pub after_close : World V → ℕ → ℕ → ℕ → Option CallId → V → LeaderState → Bool → World V
  after_close w a k g own v seen false = with_stage w a (Settling k g own v settle.Peek)
  after_close w a k g own v seen true = with_stage (with_call w a (word.Done seen)) a (at_count k g own v seen.top)

  -- an exchange of the call's key word to cleared
  abbrev pub cleared : World V → ℕ → CallId → Bool → World V
  cleared w k c false = w
  cleared w k c true = with_key w k (cleared_key_of c)

  -- the letter goes into the member's cell, and the member's call word says that it is full
  abbrev pub delivered : World V → CallId → Letter V → World V
  delivered w m letter = with_call (with_cell w m.caller (Some letter)) m.caller (word.Full m.generation)

  -- after a peek of the own channel
  abbrev pub own_peeked : World V → ℕ → Option CallId → SettleStep
  own_peeked w joiners None = settle.PeekOwn joiners
  own_peeked w joiners (Some m) = settle.DeliverOwn joiners (record { caller = m.caller; generation = generation_in (w.calls m.caller) })

  -- the steps of a settle
  abbrev pub settle_stepped : World V → ℕ → ℕ → ℕ → Option CallId → V → SettleStep → World V
  settle_stepped w a k g own v settle.Peek = with_stage w a (Settling k g own v (after_own_peek (w.calls a)))
  settle_stepped w a k g own v (settle.Close seen) = after_close w a k g own v seen (is_open_with seen (w.calls a))
  settle_stepped w a k g own v (settle.Clear top) =
      with_stage (cleared w k (record { caller = a; generation = g }) (same_key (w.keys k) (Names a g false))) a (at_count k g own v top)
  settle_stepped w a k g own v (settle.Count joiners m top) = with_stage w a (Settling k g own v (after_count (one_more w.callers joiners) top (w.nexts m)))
  settle_stepped w a k g own v (settle.Follow joiners m) = with_stage w a (Settling k g own v (settle.PeekMember joiners m (w.nexts m)))
  settle_stepped w a k g own v (settle.PeekMember joiners m next) =
      with_stage w a (Settling k g own v (settle.Deliver joiners (record { caller = m; generation = generation_in (w.calls m) }) next))
  settle_stepped w a k g own v (settle.Deliver joiners m next) =
      with_stage (delivered w m (record { place = k; call = record { caller = a; generation = g }; value = v; joiners = joiners })) a (at_members k g own v joiners next)
  settle_stepped w a k g own v (settle.PeekOwn joiners) = with_stage w a (Settling k g own v (own_peeked w joiners own))
  settle_stepped w a k g own v (settle.DeliverOwn joiners m) =
      with_stage (delivered w m (record { place = k; call = record { caller = a; generation = g }; value = v; joiners = joiners })) a Free

  -- a forget's look: without a call to forget it is done
  abbrev pub key_looked : ℕ → KeyState → Stage V
  key_looked k Never = Free
  key_looked k (Names a g true) = Free
  key_looked k (Names a g false) = Forgetting k None (forget.Peek (record { caller = a; generation = g }))

  -- of one call: where the key word does not name it, or is cleared, it is done
  abbrev pub call_looked : ℕ → CallId → Bool → Stage V
  call_looked k c false = Free
  call_looked k c true = Forgetting k (Some c) (forget.Peek c)

  abbrev pub forget_looked : ℕ → Option CallId → KeyState → Stage V
  forget_looked k None v = key_looked k v
  forget_looked k (Some c) v = call_looked k c (same_key v (key_of c))

  -- a forget's peek: one that misses is done
  abbrev pub peek_missed : ℕ → Option CallId → CallId → Option LeaderState → Bool → Stage V
  peek_missed k target c o false = Forgetting k target (forget_peeked c o)
  peek_missed k target c o true = Free

  abbrev pub forgot : World V → ℕ → ℕ → Option CallId → CallId → LeaderState → Bool → World V
  forgot w a k target c seen false = with_stage w a (Forgetting k target (forget.Look true))
  forgot w a k target c seen true = with_stage (with_call w c.caller (word.Forgot seen)) a (Forgetting k target (forget.LastClear c))

  abbrev pub forget_cleared : World V → ℕ → ℕ → Option CallId → CallId → Bool → World V
  forget_cleared w a k target c false = with_stage w a (Forgetting k target (forget.Look true))
  forget_cleared w a k target c true = with_stage (with_key w k (cleared_key_of c)) a Free

  -- the steps of a forget, of the place's key or of one call
  abbrev pub forget_stepped : World V → ℕ → ℕ → Option CallId → ForgetStep → World V
  forget_stepped w a k target (forget.Look failed) = with_stage w a (forget_looked k target (w.keys k))
  forget_stepped w a k target (forget.Peek c) = with_stage w a (peek_missed k target c (open_in c.generation (w.calls c.caller)) (misses target (is_forgot_in c.generation (w.calls c.caller))))
  forget_stepped w a k target (forget.Close c seen) = forgot w a k target c seen (is_open_with seen (w.calls c.caller))
  forget_stepped w a k target (forget.FirstClear c) = forget_cleared w a k target c (same_key (w.keys k) (key_of c))
  forget_stepped w a k target (forget.LastClear c) = with_stage (cleared w k c (same_key (w.keys k) (key_of c))) a Free

  -- the step of a poll: a full word's letter is taken
  abbrev pub polled : World V → ℕ → ℕ → ℕ → CallId → Bool → World V
  polled w a k g c false = with_stage w a (Holding k g c)
  polled w a k g c true = with_stage (with_cell w a None) a Free

  -- the steps of the question: a forgotten word ends it at the peek
  abbrev pub current_peeked : ℕ → CallId → Bool → Stage V
  current_peeked k c false = Questioning k c current.Look
  current_peeked k c true = Free

  abbrev pub current_stepped : World V → ℕ → ℕ → CallId → CurrentStep → World V
  current_stepped w a k c current.Peek = with_stage w a (current_peeked k c (is_forgot_in c.generation (w.calls c.caller)))
  current_stepped w a k c current.Look = with_stage w a Free

  -- the next step of the caller, which is at this stage
  abbrev pub stepped : World V → ℕ → Stage V → World V
  stepped w a (Polling k g c) = polled w a k g c (is_full (w.calls a))
  stepped w a (Asking k s step) = ask_stepped w a k s step
  stepped w a (Settling k g own v step) = settle_stepped w a k g own v step
  stepped w a (Forgetting k target step) = forget_stepped w a k target step
  stepped w a (Naming k) = with_stage w a Free
  stepped w a (Questioning k c step) = current_stepped w a k c step
  stepped w a _ = w

  -- the start of a chan: the second is free, another caller, and not spent
  abbrev pub chan_started : World V → ℕ → ℕ → ℕ → Stage V → World V
  chan_started w a b k Free =
      if (b == a) || is_spent w b then w
      else with_stage (with_stage w b (Seconding a)) a (Asking k (Some b) (ask.Look false))
  chan_started w a b k _ = w

  -- the start of an operation: by a free caller, by one that leads, by one that holds a ticket
  abbrev pub started : World V → ℕ → Op V → Stage V → World V
  started w a (op.Ask k) Free = if is_spent w a then w else with_stage w a (Asking k None (ask.Look false))
  started w a (op.Chan b k) Free = if is_spent w a then w else chan_started w a b k (w.stages b)
  started w a (op.Settle v) (Leading k g own) = with_stage w a (Settling k g own v settle.Peek)
  started w a (op.Forget k) Free = with_stage w a (Forgetting k None (forget.Look false))
  started w a (op.ForgetCall k c) Free = with_stage w a (Forgetting k (Some c) (forget.Look false))
  started w a (op.Named k) Free = with_stage w a (Naming k)
  started w a op.Poll (Holding k g c) = with_stage w a (Polling k g c)
  started w a (op.Current k c) Free = with_stage w a (Questioning k c current.Peek)
  started w a _ _ = w

  -- a second is free again with its first
  abbrev pub freed : World V → ℕ → Option ℕ → World V
  freed w a None = with_stage w a Free
  freed w a (Some b) = with_stage (with_stage w b Free) a Free

  -- an ask, chan or forget is left right after a failed exchange that went back to its look
  abbrev pub left : World V → ℕ → Stage V → World V
  left w a (Asking k s (ask.Look true)) = freed w a s
  left w a (Forgetting k target (forget.Look true)) = with_stage w a Free
  left w a _ = w

  -- the world after a turn, and after the turns of a schedule
  abbrev pub turned : World V → Turn V → World V
  turned w (turn.Start a o) = started w a o (w.stages a)
  turned w (turn.Step a) = stepped w a (w.stages a)
  turned w (turn.Leave a) = left w a (w.stages a)

  abbrev pub run : World V → List (Turn V) → World V
  run w [] = w
  run w (t ∷ ts) = run (turned w t) ts

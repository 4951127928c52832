-- what each turn leaves to the callers that it does not concern
use Rattle.std.proofs.Common.{◌≡◌, ◌≢◌, ℕ, ◌+◌, Bool, true, false, ◌==◌, ◌||◌, List, [], ◌∷◌, inl, inr, Option, Some, None, refl, sym, ◌∙◌, ap, subst}
use Rattle.std.proofs.lemmas.Bool.{cases_eq}
use Rattle.std.specs.Prelude.{cond}
use Rattle.sf_history.specs.declared.call.CallId.{CallId}
use Rattle.sf_history.specs.declared.event.Event.{Event}
use Rattle.sf_words.specs.declared.key_word.KeyState.{KeyState}
use Rattle.sf_words.specs.declared.key_word.KeyState.TheVariants.{Names}
use Rattle.sf_words.specs.declared.call_word.LeaderState.{LeaderState}
use Rattle.sf_words.specs.declared.call_word.CallState.TheVariants as word
use Rattle.sf_steps_laws.specs.declared.letter.Letter.{Letter}
use Rattle.sf_steps_laws.specs.declared.operation.Op.{Op}
use Rattle.sf_steps_laws.specs.declared.operation.Op.TheVariants as op
use Rattle.sf_steps_laws.specs.declared.operation.Stage.{Stage}
use Rattle.sf_steps_laws.specs.declared.operation.Stage.TheVariants.{Free, Leading, Holding, Polling, Seconding, Asking, Settling, Forgetting, Naming, Questioning}
use Rattle.sf_steps_laws.specs.declared.operation.AskStep.{AskStep}
use Rattle.sf_steps_laws.specs.declared.operation.AskStep.TheVariants as ask
use Rattle.sf_steps_laws.specs.declared.operation.SettleStep.{SettleStep}
use Rattle.sf_steps_laws.specs.declared.operation.SettleStep.TheVariants as settle
use Rattle.sf_steps_laws.specs.declared.operation.ForgetStep.{ForgetStep}
use Rattle.sf_steps_laws.specs.declared.operation.ForgetStep.TheVariants as forget
use Rattle.sf_steps_laws.specs.declared.operation.CurrentStep.{CurrentStep}
use Rattle.sf_steps_laws.specs.declared.operation.CurrentStep.TheVariants as current
use Rattle.sf_steps_laws.specs.declared.turn.Turn.{Turn}
use Rattle.sf_steps_laws.specs.declared.turn.Turn.TheVariants as turn
use Rattle.sf_steps_laws.specs.World.{World, with_stage, with_call, with_next, with_key, with_cell, next_id, key_of, cleared_key_of, same_key, is_open_with, open_in, is_forgot_in, generation_in, is_full, is_spent, one_more}
use Rattle.sf_lists.specs.Functions.{put}
use Rattle.sf_steps_laws.specs.Askings.{looked, peeked, joiner, with_top, ready_own, after_lead, after_enter, ask_stepped}
use Rattle.sf_steps_laws.specs.Turns.{after_own_peek, at_members, after_close, cleared, delivered, own_peeked, settle_stepped, forget_looked, misses, peek_missed, forgot, forget_cleared, forget_stepped, polled, current_peeked, current_stepped, stepped, chan_started, started, freed, left, turned, at_count, after_count}
use Rattle.sf_steps_laws.specs.Left.{Concerns, LeadsUnsettled, HoldsTicket, IsLeft}
use Rattle.sf_steps_laws.proofs.Histories.{opened}
use Rattle.sf_lists.proofs.Functions.{put_here, put_else}
use Rattle.sf_steps_laws.proofs.Compared.{open_with_is}
use Rattle.sf_history.proofs.Members.{Each}
use Rattle.sf_steps_laws.proofs.Members.{line, line_head}
use Rattle.sf_steps_laws.proofs.Sound.{call_of, ready_word, unsettled, ticket, Waits, IsTicket, GoodSecond, GoodAsk, GoodSettle, GoodForget, Good, Sound, live_open}
use Rattle.sf_steps_laws.proofs.Kept.{Same}
use Rattle.sf_steps_laws.proofs.Quiet.{same_self, same_stage, same_word, same_next, same_cell, same_keyed, same_then}
use Rattle.sf_steps_laws.proofs.DeliverSteps.{ticket_good}

module _ {V : Type 0} where
  same_left : (w w' : World V) (b : ℕ) → Same w w' b → IsLeft w w' b
  same_left w w' b same = record { stage = same.stage; generation = same.generation; next = same.next; word = inl (same.word, same.cell) }

  staged : (w : World V) (a b : ℕ) (s : Stage V) → b ≢ a → IsLeft w (with_stage w a s) b
  staged w a b s other = same_left w (with_stage w a s) b (same_stage w a s b other)

  -- a word of one's own or of one's second is stored
  stored : (w : World V) (a x b : ℕ) (s : Stage V) → (u : World V) → Same w u b → b ≢ a → Same w (with_stage u a s) b
  stored w a x b s u same other = same_then w u (with_stage u a s) b same (same_stage u a s b other)

  leads_unsettled : (p : Stage V) (x : ℕ × ℕ) → unsettled p ≡ Some x → LeadsUnsettled p
  leads_unsettled Free x is = cc
  leads_unsettled (Leading k g own) x is = tt
  leads_unsettled (Holding k g c) x is = cc
  leads_unsettled (Polling k g c) x is = cc
  leads_unsettled (Seconding first) x is = cc
  leads_unsettled (Asking k s step) x is = cc
  leads_unsettled (Settling k g own v settle.Peek) x is = tt
  leads_unsettled (Settling k g own v (settle.Close seen)) x is = tt
  leads_unsettled (Settling k g own v (settle.Clear top)) x is = cc
  leads_unsettled (Settling k g own v (settle.Count n m top)) x is = cc
  leads_unsettled (Settling k g own v (settle.Follow joiners m)) x is = cc
  leads_unsettled (Settling k g own v (settle.PeekMember joiners m next)) x is = cc
  leads_unsettled (Settling k g own v (settle.Deliver joiners m next)) x is = cc
  leads_unsettled (Settling k g own v (settle.PeekOwn joiners)) x is = cc
  leads_unsettled (Settling k g own v (settle.DeliverOwn joiners m)) x is = cc
  leads_unsettled (Forgetting k target step) x is = cc
  leads_unsettled (Naming k) x is = cc
  leads_unsettled (Questioning k c step) x is = cc

  holds_ticket : (p : Stage V) (x : ℕ × ℕ × CallId) → ticket p ≡ Some x → HoldsTicket p
  holds_ticket Free x is = cc
  holds_ticket (Leading k g own) x is = cc
  holds_ticket (Holding k g c) x is = tt
  holds_ticket (Polling k g c) x is = tt
  holds_ticket (Seconding first) x is = cc
  holds_ticket (Asking k s step) x is = cc
  holds_ticket (Settling k g own v step) x is = cc
  holds_ticket (Forgetting k target step) x is = cc
  holds_ticket (Naming k) x is = cc
  holds_ticket (Questioning k c step) x is = cc

  -- a joiner is the caller or its second
  pub joiner_apart : (w : World V) (a b : ℕ) (s : Option ℕ) → b ≢ a → w.stages b ≢ Seconding a → GoodSecond w a s → b ≢ joiner a s
  joiner_apart w a b None other apart second = other
  joiner_apart w a b (Some j) other apart second = λ is. apart (ap w.stages is ∙ second)

  lead_left : (w : World V) (a k b : ℕ) (s : Option ℕ) → b ≢ a → b ≢ joiner a s → (t : Bool) → IsLeft w (after_lead w a k s t) b
  lead_left w a k b s other far false = staged w a b (Asking k s (ask.Look true)) other
  lead_left w a k b None other far true = record {
    stage = put_else w.stages a (Leading k (w.generations a) None) b other;
    generation = put_else w.generations a (w.generations a + 1) b other;
    next = refl;
    word = inl (refl, refl);
  }
  lead_left w a k b (Some j) other far true = record {
    stage = put_else (put w.stages j (Holding k (w.generations j) (next_id w a))) a (Leading k (w.generations a) (Some (next_id w j))) b other ∙ put_else w.stages j (Holding k (w.generations j) (next_id w a)) b far;
    generation = put_else (put w.generations j (w.generations j + 1)) a (put w.generations j (w.generations j + 1) a + 1) b other ∙ put_else w.generations j (w.generations j + 1) b far;
    next = refl;
    word = inl (refl, refl);
  }

  enter_left : (first : ℕ) (h : List (Event ℕ V)) (w : World V) (a k b : ℕ) (s : Option ℕ) (c : CallId) (seen : LeaderState) → w.stages a ≡ Asking k s (ask.Enter c seen) → Sound first h w → b ≢ a → b ≢ joiner a s → (t : Bool) → is_open_with seen (w.calls c.caller) ≡ t
      → IsLeft w (after_enter w a k s c seen t) b
  enter_left first h w a k b s c seen at sound other far false is = staged w a b (Asking k s (ask.Look true)) other
  enter_left first h w a k b s c seen at sound other far true is =
      let j : ℕ = joiner a s in
      let l : ℕ = c.caller in
      let u = word.Open (with_top seen j) in
      let good : GoodSecond w a s × GoodAsk h w a k s (ask.Enter c seen) = subst (λ (q : Stage V). Good h w a q) at (sound.callers a).good in
      let open_word : w.calls l ≡ word.Open seen = open_with_is seen (w.calls l) is in
      let is_open : opened h k ≡ Some c = live_open first h w k c seen sound good.1.0.0 open_word good.1.0.1 in
      record {
        stage = put_else (put w.stages a Free) j (Holding k (w.generations j) c) b far ∙ put_else w.stages a Free b other;
        generation = put_else w.generations j (w.generations j + 1) b far;
        next = refl;
        word = elim (cases_eq b l) [
          | inl here ↦ inr (inl (record {
            leads = subst (λ (n : ℕ). LeadsUnsettled (w.stages n)) (sym here) (leads_unsettled (w.stages l) (k, c.generation) (sound.held k c is_open).stage);
            seen = seen;
            joiner = j;
            was = ap w.calls here ∙ open_word;
            is = ap (put w.calls l u) here ∙ put_here w.calls l u;
            cell = refl;
          }))
          | inr apart ↦ inl (put_else w.calls l u b apart, refl)
        ];
      }

  ready_left : (w : World V) (a k b : ℕ) (s : Option ℕ) (seen : KeyState) (f : Bool) → b ≢ a → b ≢ joiner a s → IsLeft w (ready_own w a k s seen f) b
  ready_left w a k b None seen f other far = same_left w w b (same_self w b)
  ready_left w a k b (Some j) seen f other far =
      same_left w (ready_own w a k (Some j) seen f) b (stored w a j b (Asking k (Some j) (ask.ReadyLead seen f)) (with_call w j (word.Listed (w.generations j))) (same_word w j (word.Listed (w.generations j)) b far) other)

  ask_left : (first : ℕ) (h : List (Event ℕ V)) (w : World V) (a k b : ℕ) (s : Option ℕ) (step : AskStep) → w.stages a ≡ Asking k s step → Sound first h w → b ≢ a → b ≢ joiner a s → IsLeft w (ask_stepped w a k s step) b
  ask_left first h w a k b s (ask.Look failed) at sound other far = staged w a b (Asking k s (looked s (w.keys k))) other
  ask_left first h w a k b s (ask.Peek c) at sound other far = staged w a b (Asking k s (peeked s c (is_forgot_in c.generation (w.calls c.caller)) (open_in c.generation (w.calls c.caller)))) other
  ask_left first h w a k b s (ask.ReadyOwn seen f) at sound other far = ready_left w a k b s seen f other far
  ask_left first h w a k b s (ask.ReadyLead seen f) at sound other far =
      same_left w (ask_stepped w a k s (ask.ReadyLead seen f)) b (stored w a a b (Asking k s (ask.Lead seen f)) (with_call w a (ready_word w a s)) (same_word w a (ready_word w a s) b other) other)
  ask_left first h w a k b s (ask.Lead seen f) at sound other far = lead_left w a k b s other far (same_key (w.keys k) seen)
  ask_left first h w a k b s (ask.ReadyJoin c seen) at sound other far =
      let j : ℕ = joiner a s in
      same_left w (ask_stepped w a k s (ask.ReadyJoin c seen)) b (stored w a j b (Asking k s (ask.Link c seen)) (with_call w j (word.Listed (w.generations j))) (same_word w j (word.Listed (w.generations j)) b far) other)
  ask_left first h w a k b s (ask.Link c seen) at sound other far =
      let j : ℕ = joiner a s in
      same_left w (ask_stepped w a k s (ask.Link c seen)) b (stored w a j b (Asking k s (ask.Enter c seen)) (with_next w j seen.top) (same_next w j seen.top b far) other)
  ask_left first h w a k b s (ask.Enter c seen) at sound other far = enter_left first h w a k b s c seen at sound other far (is_open_with seen (w.calls c.caller)) refl

  close_left : (w : World V) (a k g b : ℕ) (own : Option CallId) (v : V) (seen : LeaderState) → b ≢ a → (t : Bool) → IsLeft w (after_close w a k g own v seen t) b
  close_left w a k g b own v seen other false = staged w a b (Settling k g own v settle.Peek) other
  close_left w a k g b own v seen other true =
      same_left w (after_close w a k g own v seen true) b (stored w a a b (at_count k g own v seen.top) (with_call w a (word.Done seen)) (same_word w a (word.Done seen) b other) other)

  clear_left : (w : World V) (a k b : ℕ) (c : CallId) (s : Stage V) → b ≢ a → (t : Bool) → IsLeft w (with_stage (cleared w k c t) a s) b
  clear_left w a k b c s other false = staged w a b s other
  clear_left w a k b c s other true = same_left w (with_stage (cleared w k c true) a s) b (stored w a a b s (with_key w k (cleared_key_of c)) (same_keyed w k (cleared_key_of c) b) other)

  -- a letter is delivered to a member that waits
  letter_left : (first : ℕ) (h : List (Event ℕ V)) (w : World V) (a k b : ℕ) (c m : CallId) (letter : Letter V) (q : Stage V) → Sound first h w → Waits w k c m → b ≢ a → IsLeft w (with_stage (delivered w m letter) a q) b
  letter_left first h w a k b c m letter q sound waits other =
      let x : ℕ = m.caller in
      let held = (ticket_good h w x (w.stages x) k m.generation c waits.0 (sound.callers x).good).0 in
      let listed : IsTicket h k m.generation c (word.Listed m.generation) (w.cells x) = subst (λ u. IsTicket h k m.generation c u (w.cells x)) waits.1 held.1 in
      record {
        stage = put_else w.stages a q b other;
        generation = refl;
        next = refl;
        word = elim (cases_eq b x) [
          | inl here ↦ inr (inr (inr (record {
            holds = subst (λ (n : ℕ). HoldsTicket (w.stages n)) (sym here) (holds_ticket (w.stages x) (k, m.generation, c) waits.0);
            generation = m.generation;
            letter = letter;
            was = ap w.calls here ∙ waits.1;
            is = ap (put w.calls x (word.Full m.generation)) here ∙ put_here w.calls x (word.Full m.generation);
            empty = ap w.cells here ∙ listed.1;
            filled = ap (put w.cells x (Some letter)) here ∙ put_here w.cells x (Some letter);
          })))
          | inr apart ↦ inl (put_else w.calls x (word.Full m.generation) b apart, put_else w.cells x (Some letter) b apart)
        ];
      }

  settle_left : (first : ℕ) (h : List (Event ℕ V)) (w : World V) (a k g b : ℕ) (own : Option CallId) (v : V) (step : SettleStep) → w.stages a ≡ Settling k g own v step → Sound first h w → b ≢ a → IsLeft w (settle_stepped w a k g own v step) b
  settle_left first h w a k g b own v settle.Peek at sound other = staged w a b (Settling k g own v (after_own_peek (w.calls a))) other
  settle_left first h w a k g b own v (settle.Close seen) at sound other = close_left w a k g b own v seen other (is_open_with seen (w.calls a))
  settle_left first h w a k g b own v (settle.Clear top) at sound other = clear_left w a k b (call_of a g) (at_count k g own v top) other (same_key (w.keys k) (Names a g false))
  settle_left first h w a k g b own v (settle.Count n m top) at sound other = staged w a b (Settling k g own v (after_count (one_more w.callers n) top (w.nexts m))) other
  settle_left first h w a k g b own v (settle.Follow joiners m) at sound other = staged w a b (Settling k g own v (settle.PeekMember joiners m (w.nexts m))) other
  settle_left first h w a k g b own v (settle.PeekMember joiners m next) at sound other = staged w a b (Settling k g own v (settle.Deliver joiners (call_of m (generation_in (w.calls m))) next)) other
  settle_left first h w a k g b own v (settle.Deliver joiners m next) at sound other =
      let good : GoodSettle h w a k g own v (settle.Deliver joiners m next) = subst (λ (q : Stage V). Good h w a q) at (sound.callers a).good in
      letter_left first h w a k b (call_of a g) m (record { place = k; call = call_of a g; value = v; joiners = joiners }) (at_members k g own v joiners next) sound (line_head (Waits w k (call_of a g)) own m good.0 good.1.waits) other
  settle_left first h w a k g b own v (settle.PeekOwn joiners) at sound other = staged w a b (Settling k g own v (own_peeked w joiners own)) other
  settle_left first h w a k g b own v (settle.DeliverOwn joiners m) at sound other =
      let good : GoodSettle h w a k g own v (settle.DeliverOwn joiners m) = subst (λ (q : Stage V). Good h w a q) at (sound.callers a).good in
      let waits : Each (Waits w k (call_of a g)) (m ∷ []) = subst (λ (o : Option CallId). Each (Waits w k (call_of a g)) (line o [])) good.2 good.0.waits in
      letter_left first h w a k b (call_of a g) m (record { place = k; call = call_of a g; value = v; joiners = joiners }) Free sound waits.0 other

  forgot_left : (first : ℕ) (h : List (Event ℕ V)) (w : World V) (a k b : ℕ) (target : Option CallId) (c : CallId) (seen : LeaderState) → w.stages a ≡ Forgetting k target (forget.Close c seen) → Sound first h w → b ≢ a → (t : Bool) → is_open_with seen (w.calls c.caller) ≡ t → IsLeft w (forgot w a k target c seen t) b
  forgot_left first h w a k b target c seen at sound other false is = staged w a b (Forgetting k target (forget.Look true)) other
  forgot_left first h w a k b target c seen at sound other true is =
      let l : ℕ = c.caller in
      let good : GoodForget h k (forget.Close c seen) = subst (λ (q : Stage V). Good h w a q) at (sound.callers a).good in
      let open_word : w.calls l ≡ word.Open seen = open_with_is seen (w.calls l) is in
      let is_open : opened h k ≡ Some c = live_open first h w k c seen sound good.0 open_word good.1 in
      record {
        stage = put_else w.stages a (Forgetting k target (forget.LastClear c)) b other;
        generation = refl;
        next = refl;
        word = elim (cases_eq b l) [
          | inl here ↦ inr (inr (inl (record {
            leads = subst (λ (n : ℕ). LeadsUnsettled (w.stages n)) (sym here) (leads_unsettled (w.stages l) (k, c.generation) (sound.held k c is_open).stage);
            seen = seen;
            was = ap w.calls here ∙ open_word;
            is = ap (put w.calls l (word.Forgot seen)) here ∙ put_here w.calls l (word.Forgot seen);
            cell = refl;
          })))
          | inr apart ↦ inl (put_else w.calls l (word.Forgot seen) b apart, refl)
        ];
      }

  first_left : (w : World V) (a k b : ℕ) (target : Option CallId) (c : CallId) → b ≢ a → (t : Bool) → IsLeft w (forget_cleared w a k target c t) b
  first_left w a k b target c other false = staged w a b (Forgetting k target (forget.Look true)) other
  first_left w a k b target c other true = same_left w (forget_cleared w a k target c true) b (stored w a a b Free (with_key w k (cleared_key_of c)) (same_keyed w k (cleared_key_of c) b) other)

  forget_left : (first : ℕ) (h : List (Event ℕ V)) (w : World V) (a k b : ℕ) (target : Option CallId) (step : ForgetStep) → w.stages a ≡ Forgetting k target step → Sound first h w → b ≢ a → IsLeft w (forget_stepped w a k target step) b
  forget_left first h w a k b target (forget.Look failed) at sound other = staged w a b (forget_looked k target (w.keys k)) other
  forget_left first h w a k b target (forget.Peek c) at sound other = staged w a b (peek_missed k target c (open_in c.generation (w.calls c.caller)) (misses target (is_forgot_in c.generation (w.calls c.caller)))) other
  forget_left first h w a k b target (forget.Close c seen) at sound other = forgot_left first h w a k b target c seen at sound other (is_open_with seen (w.calls c.caller)) refl
  forget_left first h w a k b target (forget.FirstClear c) at sound other = first_left w a k b target c other (same_key (w.keys k) (key_of c))
  forget_left first h w a k b target (forget.LastClear c) at sound other = clear_left w a k b c Free other (same_key (w.keys k) (key_of c))

  poll_left : (w : World V) (a k g b : ℕ) (c : CallId) → b ≢ a → (t : Bool) → IsLeft w (polled w a k g c t) b
  poll_left w a k g b c other false = staged w a b (Holding k g c) other
  poll_left w a k g b c other true = same_left w (polled w a k g c true) b (stored w a a b Free (with_cell w a None) (same_cell w a None b other) other)

  current_left : (w : World V) (a k b : ℕ) (c : CallId) (step : CurrentStep) → b ≢ a → IsLeft w (current_stepped w a k c step) b
  current_left w a k b c current.Peek other = staged w a b (current_peeked k c (is_forgot_in c.generation (w.calls c.caller))) other
  current_left w a k b c current.Look other = staged w a b Free other

  step_left : (first : ℕ) (h : List (Event ℕ V)) (w : World V) (a b : ℕ) (p : Stage V) → w.stages a ≡ p → Sound first h w → b ≢ a → w.stages b ≢ Seconding a → IsLeft w (stepped w a p) b
  step_left first h w a b Free at sound other apart = same_left w w b (same_self w b)
  step_left first h w a b (Leading k g own) at sound other apart = same_left w w b (same_self w b)
  step_left first h w a b (Holding k g c) at sound other apart = same_left w w b (same_self w b)
  step_left first h w a b (Polling k g c) at sound other apart = poll_left w a k g b c other (is_full (w.calls a))
  step_left first h w a b (Seconding one) at sound other apart = same_left w w b (same_self w b)
  step_left first h w a b (Asking k s step) at sound other apart =
      let good : Good h w a (Asking k s step) = subst (λ (q : Stage V). Good h w a q) at (sound.callers a).good in
      ask_left first h w a k b s step at sound other (joiner_apart w a b s other apart good.0)
  step_left first h w a b (Settling k g own v step) at sound other apart = settle_left first h w a k g b own v step at sound other
  step_left first h w a b (Forgetting k target step) at sound other apart = forget_left first h w a k b target step at sound other
  step_left first h w a b (Naming k) at sound other apart = staged w a b Free other
  step_left first h w a b (Questioning k c step) at sound other apart = current_left w a k b c step other

  either_left : (w u : World V) (b : ℕ) (t : Bool) → IsLeft w u b → IsLeft w (cond t w u) b
  either_left w u b true is = same_left w w b (same_self w b)
  either_left w u b false is = is

  chan_left : (w : World V) (a b k x : ℕ) (q : Stage V) → x ≢ a → x ≢ b → IsLeft w (chan_started w a b k q) x
  chan_left w a b k x Free other far =
      either_left w (with_stage (with_stage w b (Seconding a)) a (Asking k (Some b) (ask.Look false))) x ((b == a) || is_spent w b)
      (same_left w (with_stage (with_stage w b (Seconding a)) a (Asking k (Some b) (ask.Look false))) x (stored w a b x (Asking k (Some b) (ask.Look false)) (with_stage w b (Seconding a)) (same_stage w b (Seconding a) x far) other))
  chan_left w a b k x _ other far = same_left w w x (same_self w x)

  start_left : (w : World V) (a b : ℕ) (o : Op V) (p : Stage V) → (Concerns w (turn.Start a o) b → ⊥) → IsLeft w (started w a o p) b
  start_left w a b (op.Ask k) Free free = either_left w (with_stage w a (Asking k None (ask.Look false))) b (is_spent w a) (staged w a b (Asking k None (ask.Look false)) free)
  start_left w a b (op.Ask k) _ free = same_left w w b (same_self w b)
  start_left w a b (op.Chan second k) Free free = either_left w (chan_started w a second k (w.stages second)) b (is_spent w a) (chan_left w a second k b (w.stages second) (λ e. free (inl e)) (λ e. free (inr e)))
  start_left w a b (op.Chan second k) _ free = same_left w w b (same_self w b)
  start_left w a b (op.Settle v) (Leading k g own) free = staged w a b (Settling k g own v settle.Peek) free
  start_left w a b (op.Settle v) _ free = same_left w w b (same_self w b)
  start_left w a b (op.Forget k) Free free = staged w a b (Forgetting k None (forget.Look false)) free
  start_left w a b (op.ForgetCall k d) Free free = staged w a b (Forgetting k (Some d) (forget.Look false)) free
  start_left w a b (op.Named k) Free free = staged w a b (Naming k) free
  start_left w a b (op.Forget k) _ free = same_left w w b (same_self w b)
  start_left w a b (op.ForgetCall k d) _ free = same_left w w b (same_self w b)
  start_left w a b (op.Named k) _ free = same_left w w b (same_self w b)
  start_left w a b op.Poll (Holding k g c) free = staged w a b (Polling k g c) free
  start_left w a b op.Poll _ free = same_left w w b (same_self w b)
  start_left w a b (op.Current k c) Free free = staged w a b (Questioning k c current.Peek) free
  start_left w a b (op.Current k c) _ free = same_left w w b (same_self w b)

  freed_left : (first : ℕ) (h : List (Event ℕ V)) (w : World V) (a k b : ℕ) (s : Option ℕ) → w.stages a ≡ Asking k s (ask.Look true) → Sound first h w → b ≢ a → w.stages b ≢ Seconding a → IsLeft w (freed w a s) b
  freed_left first h w a k b None at sound other apart = staged w a b Free other
  freed_left first h w a k b (Some j) at sound other apart =
      let good : Good h w a (Asking k (Some j) (ask.Look true)) = subst (λ (q : Stage V). Good h w a q) at (sound.callers a).good in
      same_left w (freed w a (Some j)) b (stored w a j b Free (with_stage w j Free) (same_stage w j Free b (joiner_apart w a b (Some j) other apart good.0)) other)

  leave_left : (first : ℕ) (h : List (Event ℕ V)) (w : World V) (a b : ℕ) (p : Stage V) → w.stages a ≡ p → Sound first h w → b ≢ a → w.stages b ≢ Seconding a → IsLeft w (left w a p) b
  leave_left first h w a b (Asking k s (ask.Look true)) at sound other apart = freed_left first h w a k b s at sound other apart
  leave_left first h w a b (Forgetting k target (forget.Look true)) at sound other apart = staged w a b Free other
  leave_left first h w a b _ at sound other apart = same_left w w b (same_self w b)

  pub turn_left : (first : ℕ) (h : List (Event ℕ V)) (w : World V) (t : Turn V) (b : ℕ) → Sound first h w → (Concerns w t b → ⊥) → IsLeft w (turned w t) b
  turn_left first h w (turn.Start a o) b sound free = start_left w a b o (w.stages a) free
  turn_left first h w (turn.Step a) b sound free = step_left first h w a b (w.stages a) refl sound (λ e. free (inl e)) (λ e. free (inr e))
  turn_left first h w (turn.Leave a) b sound free = leave_left first h w a b (w.stages a) refl sound (λ e. free (inl e)) (λ e. free (inr e))

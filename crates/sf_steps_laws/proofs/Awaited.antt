-- each member that waits is on its leader's list, so a call that is handed out is awaited by nobody
use Rattle.std.proofs.Common.{◌≡◌, ◌≢◌, ℕ, Bool, true, false, ◌==◌, ◌||◌, ◌⊎◌, List, [], ◌∷◌, ◌++◌, inl, inr, Option, Some, None, refl, sym, ◌∙◌, ap, subst, eq-eqb}
use Rattle.std.proofs.lemmas.Bool.{cases_eq, or_parts, true≢false}
use Rattle.std.specs.Prelude.{cond}
use Rattle.sf_history.specs.declared.call.CallId.{CallId}
use Rattle.sf_history.specs.declared.event.Event.{Event}
use Rattle.sf_history.specs.History.{is_handed}
use Rattle.sf_words.specs.declared.key_word.KeyState.{KeyState}
use Rattle.sf_words.specs.declared.key_word.KeyState.TheVariants.{Never, Names}
use Rattle.sf_words.specs.declared.call_word.LeaderState.{LeaderState}
use Rattle.sf_words.specs.declared.call_word.CallState.{CallState}
use Rattle.sf_words.specs.declared.call_word.CallState.TheVariants as word
use Rattle.sf_steps_laws.specs.declared.letter.Letter.{Letter}
use Rattle.sf_steps_laws.specs.declared.operation.Op.{Op}
use Rattle.sf_steps_laws.specs.declared.operation.Op.TheVariants as op
use Rattle.sf_steps_laws.specs.declared.operation.Stage.{Stage}
use Rattle.sf_steps_laws.specs.declared.operation.Stage.TheVariants.{Free, Leading, Holding, Polling, Seconding, Asking, Settling, Forgetting, Naming, Questioning}
use Rattle.sf_steps_laws.specs.declared.operation.AskStep.TheVariants as ask
use Rattle.sf_steps_laws.specs.declared.operation.SettleStep.{SettleStep}
use Rattle.sf_steps_laws.specs.declared.operation.SettleStep.TheVariants as settle
use Rattle.sf_steps_laws.specs.declared.operation.ForgetStep.{ForgetStep}
use Rattle.sf_steps_laws.specs.declared.operation.ForgetStep.TheVariants as forget
use Rattle.sf_steps_laws.specs.declared.operation.CurrentStep.{CurrentStep}
use Rattle.sf_steps_laws.specs.declared.operation.CurrentStep.TheVariants as current
use Rattle.sf_steps_laws.specs.declared.turn.Turn.{Turn}
use Rattle.sf_steps_laws.specs.declared.turn.Turn.TheVariants as turn
use Rattle.sf_steps_laws.specs.World.{World, first_world, with_stage, key_of, same_key, is_open_with, open_in, is_forgot_in, generation_in, is_full, is_spent, one_more}
use Rattle.sf_lists.specs.Functions.{put}
use Rattle.sf_steps_laws.specs.Turns.{after_own_peek, at_members, after_close, cleared, delivered, settle_stepped, key_looked, call_looked, forget_looked, misses, peek_missed, forgot, forget_cleared, forget_stepped, polled, current_peeked, current_stepped, stepped, chan_started, started, freed, left, turned, run, at_count, after_count}
use Rattle.sf_steps_laws.specs.Events.{turn_events, events_of, world_after}
use Rattle.sf_steps_laws.specs.Schedules.{Setting, IsScheduleFrom, IsSchedule}
use Rattle.sf_steps_laws.proofs.Histories.{opened}
use Rattle.sf_history.proofs.Members.{Each}
use Rattle.sf_steps_laws.proofs.Members.{line, line_head}
use Rattle.sf_steps_laws.proofs.Past.{unsettled_unhanded}
use Rattle.sf_lists.proofs.Functions.{put_here, put_else}
use Rattle.sf_steps_laws.proofs.Compared.{open_with_is}
use Rattle.sf_steps_laws.proofs.Sound.{call_of, top_in, Held, unsettled, ticket, Waits, Leads, GoodSecond, GoodAsk, GoodSettle, GoodForget, Good, Sound, live_open}
use Rattle.sf_steps_laws.proofs.Leaders.{leader_ticketless}
use Rattle.sf_steps_laws.proofs.Quiet.{not_held}
use Rattle.sf_steps_laws.proofs.AskSteps.{second_apart}
use Rattle.sf_steps_laws.proofs.Flags.{turn_fair}
use Rattle.sf_steps_laws.proofs.Callers.{Fair, fair_begins}
use Rattle.sf_steps_laws.proofs.RightAnswers.{always}
use Rattle.sf_steps_laws.proofs.Serving.{InLine, own_line, owed_unhanded, rest_line, ServesAt, Serves, Awaited, serves_same, awaited_after, own_awaited, quiet_awaited, staged, on, held_on, two_awaited}
use Rattle.sf_steps_laws.proofs.AskAwaited.{asking_serves, joiner_serves, ask_awaited}

module _ {V : Type 0} where
  -- a leader goes on with its list
  members_serve : (u : World V) (a i n : ℕ) (own : Option CallId) (v : V) (joiners : ℕ) (top : Option ℕ) (k g : ℕ) (m : CallId) → i ≡ k → n ≡ g → InLine u.nexts own top m → Serves u a (at_members i n own v joiners top) k g m
  members_serve u a i n None v joiners None k g m places generations is = let clash : ◌≡◌ {A = Option CallId} None (Some m) = own_line u.nexts None m is in cc
  members_serve u a i n (Some o) v joiners None k g m places generations is = (places, generations, own_line u.nexts (Some o) m is)
  members_serve u a i n own v joiners (Some x) k g m places generations is = (places, generations, is)

  count_serve : (u : World V) (a i n : ℕ) (own : Option CallId) (v : V) (top : Option ℕ) (k g : ℕ) (m : CallId) → i ≡ k → n ≡ g → InLine u.nexts own top m → Serves u a (at_count i n own v top) k g m
  count_serve u a i n None v None k g m places generations is = let clash : ◌≡◌ {A = Option CallId} None (Some m) = own_line u.nexts None m is in cc
  count_serve u a i n (Some o) v None k g m places generations is = (places, generations, own_line u.nexts (Some o) m is)
  count_serve u a i n own v (Some x) k g m places generations is = (places, generations, is)

  counted_serve : (w : World V) (a : ℕ) (own : Option CallId) (j top : ℕ) (m : CallId) (next : Option ℕ) → InLine w.nexts own (Some top) m → ServesAt w a own (after_count j top next) m
  counted_serve w a own j top m None serves = serves
  counted_serve w a own j top m (Some x) serves = serves

  members_ticketless : (w : World V) (i n : ℕ) (own : Option CallId) (v : V) (joiners : ℕ) (top : Option ℕ) → ticket (at_members i n own v joiners top) ≡ None
  members_ticketless w i n None v joiners None = refl
  members_ticketless w i n (Some o) v joiners None = refl
  members_ticketless w i n own v joiners (Some x) = refl

  count_ticketless : (w : World V) (i n : ℕ) (own : Option CallId) (v : V) (top : Option ℕ) → ticket (at_count i n own v top) ≡ None
  count_ticketless w i n None v None = refl
  count_ticketless w i n (Some o) v None = refl
  count_ticketless w i n own v (Some x) = refl

  peek_awaited : (w : World V) (a i n : ℕ) (own : Option CallId) (v : V) → w.stages a ≡ Settling i n own v settle.Peek → Awaited w → (x : CallState) → w.calls a ≡ x → Awaited (with_stage w a (Settling i n own v (after_own_peek x)))
  peek_awaited w a i n own v at all x is =
      own_awaited w (with_stage w a (Settling i n own v (after_own_peek x))) a (Settling i n own v settle.Peek) (Settling i n own v (after_own_peek x)) at all refl (staged w a (Settling i n own v (after_own_peek x))) (put_here w.stages a (Settling i n own v (after_own_peek x))) refl (goes x is)
    where
      goes : (x : CallState) → w.calls a ≡ x → (k g : ℕ) (m : CallId) → Serves w a (Settling i n own v settle.Peek) k g m → Serves (with_stage w a (Settling i n own v (after_own_peek x))) a (Settling i n own v (after_own_peek x)) k g m
      goes word.Free is k g m serves = serves
      goes (word.Open s) is k g m serves = serves
      goes (word.Forgot s) is k g m serves = (serves.0, serves.1, subst (λ (t : Option ℕ). InLine w.nexts own t m) (ap top_in is) serves.2)
      goes (word.Done s) is k g m serves = serves
      goes (word.Listed b) is k g m serves = serves
      goes (word.Full b) is k g m serves = serves

  close_awaited : (w : World V) (a i n : ℕ) (own : Option CallId) (v : V) (seen : LeaderState) → w.stages a ≡ Settling i n own v (settle.Close seen) → Awaited w → (b : Bool) → is_open_with seen (w.calls a) ≡ b → Awaited (after_close w a i n own v seen b)
  close_awaited w a i n own v seen at all false is =
      own_awaited w (with_stage w a (Settling i n own v settle.Peek)) a (Settling i n own v (settle.Close seen)) (Settling i n own v settle.Peek) at all refl (staged w a (Settling i n own v settle.Peek)) (put_here w.stages a (Settling i n own v settle.Peek)) refl (λ k g m serves. serves)
  close_awaited w a i n own v seen at all true is =
      let s : Stage V = at_count i n own v seen.top in
      let u : World V = after_close w a i n own v seen true in
      own_awaited w u a (Settling i n own v (settle.Close seen)) s at all refl (λ z other. (put_else w.stages a s z other, put_else w.calls a (word.Done seen) z other)) (put_here w.stages a s) (count_ticketless w i n own v seen.top)
      (λ k g m serves. count_serve u a i n own v seen.top k g m serves.0 serves.1 (subst (λ (t : Option ℕ). InLine w.nexts own t m) (ap top_in (open_with_is seen (w.calls a) is)) serves.2))

  clear_awaited : (w : World V) (a i n : ℕ) (own : Option CallId) (v : V) (top : Option ℕ) → w.stages a ≡ Settling i n own v (settle.Clear top) → Awaited w → (b : Bool) → Awaited (with_stage (cleared w i (call_of a n) b) a (at_count i n own v top))
  clear_awaited w a i n own v top at all false =
      let s : Stage V = at_count i n own v top in
      own_awaited w (with_stage w a s) a (Settling i n own v (settle.Clear top)) s at all refl (staged w a s) (put_here w.stages a s) (count_ticketless w i n own v top) (λ k g m serves. count_serve (with_stage w a s) a i n own v top k g m serves.0 serves.1 serves.2)
  clear_awaited w a i n own v top at all true =
      let s : Stage V = at_count i n own v top in
      let u : World V = with_stage (cleared w i (call_of a n) true) a s in
      own_awaited w u a (Settling i n own v (settle.Clear top)) s at all refl (λ z other. (put_else w.stages a s z other, refl)) (put_here w.stages a s) (count_ticketless w i n own v top) (λ k g m serves. count_serve u a i n own v top k g m serves.0 serves.1 serves.2)

  ticket_serves : (w : World V) (a : ℕ) (p : Stage V) (x : ℕ × ℕ × CallId) (k g : ℕ) (m : CallId) → ticket p ≡ Some x → Serves w a p k g m → ⊥
  ticket_serves w a Free x k g m is serves = serves
  ticket_serves w a (Leading i n own) x k g m is serves = cc
  ticket_serves w a (Holding i n c) x k g m is serves = serves
  ticket_serves w a (Polling i n c) x k g m is serves = serves
  ticket_serves w a (Seconding first) x k g m is serves = serves
  ticket_serves w a (Asking i s step) x k g m is serves = serves
  ticket_serves w a (Settling i n own v step) x k g m is serves = cc
  ticket_serves w a (Forgetting i target step) x k g m is serves = serves
  ticket_serves w a (Naming i) x k g m is serves = serves
  ticket_serves w a (Questioning i c step) x k g m is serves = serves

  -- a letter is delivered to a member that waits
  letter_awaited : (w : World V) (a i n : ℕ) (own : Option CallId) (v : V) (step : SettleStep) (m₀ : CallId) (letter : Letter V) (q : Stage V) (x : ℕ × ℕ × CallId) → w.stages a ≡ Settling i n own v step → Awaited w → ticket (w.stages m₀.caller) ≡ Some x → ticket q ≡ None
      → ((k g : ℕ) (m : CallId) → m.caller ≢ m₀.caller → Serves w a (Settling i n own v step) k g m → Serves (with_stage (delivered w m₀ letter) a q) a q k g m) → Awaited (with_stage (delivered w m₀ letter) a q)
  letter_awaited w a i n own v step m₀ letter q x at all holds none serves = awaited_after (λ z. (z ≡ a) ⊎ (z ≡ y)) w u all (record {
    nexts = refl;
    split = split;
    waiting = λ k c m one waits. elim one [
      | inl here ↦ let clash : ◌≡◌ {A = Option (ℕ × ℕ × CallId)} None (Some (k, m.generation, c)) = sym (ap (λ (b : ℕ). ticket (u.stages b)) here ∙ (ap ticket (put_here w.stages a q) ∙ none)) ∙ waits.0 in cc
      | inr there ↦ absurd (filled m k c there waits)
    ];
    serving = λ z k g m one waits is. elim one [
      | inl here ↦ subst (λ (b : ℕ). Serves w b (w.stages b) k g m → Serves u b (u.stages b) k g m) (sym here)
          (λ before. subst (λ (p : Stage V). Serves u a p k g m) (sym (put_here w.stages a q)) (serves k g m (λ (e : m.caller ≡ y). filled m k (call_of z g) e waits) (subst (λ (p : Stage V). Serves w a p k g m) at before))) is
      | inr there ↦ absurd (ticket_serves w z (w.stages z) x k g m (ap (λ (b : ℕ). ticket (w.stages b)) there ∙ holds) is)
    ];
  })
    where
      y : ℕ
      y = m₀.caller

      u : World V
      u = with_stage (delivered w m₀ letter) a q

      filled : (m : CallId) (k : ℕ) (c : CallId) → m.caller ≡ y → Waits u k c m → ⊥
      filled m k c there waits =
          let clash : word.Full m₀.generation ≡ word.Listed m.generation = sym (put_here w.calls y (word.Full m₀.generation)) ∙ (ap u.calls (sym there) ∙ waits.1) in cc

      split : (z : ℕ) → ((z ≡ a) ⊎ (z ≡ y)) ⊎ ((u.stages z ≡ w.stages z) × (u.calls z ≡ w.calls z))
      split z = elim (cases_eq z a) [
        | inl here ↦ inl (inl here)
        | inr other ↦ elim (cases_eq z y) [
          | inl there ↦ inl (inr there)
          | inr far ↦ inr (put_else w.stages a q z other, put_else w.calls y (word.Full m₀.generation) z far)
        ]
      ]

  poll_awaited : (w : World V) (a k g : ℕ) (c : CallId) → w.stages a ≡ Polling k g c → Awaited w → (b : Bool) → Awaited (polled w a k g c b)
  poll_awaited w a k g c at all false = held_on w a (Polling k g c) (Holding k g c) at all refl (λ i n m x. x)
  poll_awaited w a k g c at all true = quiet_awaited w (polled w a k g c true) a (Polling k g c) Free at all refl (λ z other. (put_else w.stages a Free z other, refl)) (put_here w.stages a Free) refl (λ i n m x. x)

  settle_awaited : (first : ℕ) (h : List (Event ℕ V)) (w : World V) (a i n : ℕ) (own : Option CallId) (v : V) (step : SettleStep) → w.stages a ≡ Settling i n own v step → Sound first h w → Awaited w → Awaited (settle_stepped w a i n own v step)
  settle_awaited first h w a i n own v settle.Peek at sound all = peek_awaited w a i n own v at all (w.calls a) refl
  settle_awaited first h w a i n own v (settle.Close seen) at sound all = close_awaited w a i n own v seen at all (is_open_with seen (w.calls a)) refl
  settle_awaited first h w a i n own v (settle.Clear top) at sound all = clear_awaited w a i n own v top at all (same_key (w.keys i) (Names a n false))
  settle_awaited first h w a i n own v (settle.Count j x top) at sound all =
      let s : Stage V = Settling i n own v (after_count (one_more w.callers j) top (w.nexts x)) in
      own_awaited w (with_stage w a s) a (Settling i n own v (settle.Count j x top)) s at all refl (staged w a s) (put_here w.stages a s) refl (λ k g m serves. (serves.0, serves.1, counted_serve (with_stage w a s) a own (one_more w.callers j) top m (w.nexts x) serves.2))
  settle_awaited first h w a i n own v (settle.Follow joiners x) at sound all =
      let s : Stage V = Settling i n own v (settle.PeekMember joiners x (w.nexts x)) in
      own_awaited w (with_stage w a s) a (Settling i n own v (settle.Follow joiners x)) s at all refl (staged w a s) (put_here w.stages a s) refl (λ k g m serves. serves)
  settle_awaited first h w a i n own v (settle.PeekMember joiners x next) at sound all =
      let s : Stage V = Settling i n own v (settle.Deliver joiners (call_of x (generation_in (w.calls x))) next) in
      own_awaited w (with_stage w a s) a (Settling i n own v (settle.PeekMember joiners x next)) s at all refl (staged w a s) (put_here w.stages a s) refl (λ k g m serves. serves)
  settle_awaited first h w a i n own v (settle.Deliver joiners m₀ next) at sound all =
      let good : GoodSettle h w a i n own v (settle.Deliver joiners m₀ next) = subst (λ (q : Stage V). Good h w a q) at (sound.callers a).good in
      let waits : Waits w i (call_of a n) m₀ = line_head (Waits w i (call_of a n)) own m₀ good.0 good.1.waits in
      let letter : Letter V = record { place = i; call = call_of a n; value = v; joiners = joiners } in
      let s : Stage V = at_members i n own v joiners next in
      letter_awaited w a i n own v (settle.Deliver joiners m₀ next) m₀ letter s (i, m₀.generation, call_of a n) at all waits.0 (members_ticketless w i n own v joiners next)
      (λ k g m far serves. members_serve (with_stage (delivered w m₀ letter) a s) a i n own v joiners next k g m serves.0 serves.1 (rest_line w.nexts own m₀.caller next m good.3 far serves.2))
  settle_awaited first h w a i n None v (settle.PeekOwn joiners) at sound all =
      let s : Stage V = Settling i n None v (settle.PeekOwn joiners) in
      own_awaited w (with_stage w a s) a s s at all refl (staged w a s) (put_here w.stages a s) refl (λ k g m serves. serves)
  settle_awaited first h w a i n (Some o) v (settle.PeekOwn joiners) at sound all =
      let s : Stage V = Settling i n (Some o) v (settle.DeliverOwn joiners (call_of o.caller (generation_in (w.calls o.caller)))) in
      own_awaited w (with_stage w a s) a (Settling i n (Some o) v (settle.PeekOwn joiners)) s at all refl (staged w a s) (put_here w.stages a s) refl (λ k g m serves. serves)
  settle_awaited first h w a i n own v (settle.DeliverOwn joiners m₀) at sound all =
      let good : GoodSettle h w a i n own v (settle.DeliverOwn joiners m₀) = subst (λ (q : Stage V). Good h w a q) at (sound.callers a).good in
      let waits : Each (Waits w i (call_of a n)) (m₀ ∷ []) = subst (λ (o : Option CallId). Each (Waits w i (call_of a n)) (line o [])) good.2 good.0.waits in
      let letter : Letter V = record { place = i; call = call_of a n; value = v; joiners = joiners } in
      letter_awaited w a i n own v (settle.DeliverOwn joiners m₀) m₀ letter Free (i, m₀.generation, call_of a n) at all waits.0.0 refl
      (λ k g m far serves.
      let same : Some m ≡ Some m₀ = sym serves.2 ∙ good.2 in
      let members : m ≡ m₀ = cc in
      absurd (far (ap (λ (x : CallId). x.caller) members)))

  -- a forget closes the call: its leader's list stays
  forgot_awaited : (first : ℕ) (h : List (Event ℕ V)) (w : World V) (a k : ℕ) (target : Option CallId) (c₀ : CallId) (seen : LeaderState) → w.stages a ≡ Forgetting k target (forget.Close c₀ seen) → Sound first h w → Awaited w → (b : Bool) → is_open_with seen (w.calls c₀.caller) ≡ b → Awaited (forgot w a k target c₀ seen b)
  forgot_awaited first h w a k target c₀ seen at sound all false is = on w a (Forgetting k target (forget.Close c₀ seen)) (Forgetting k target (forget.Look true)) at all refl (λ i g m x. x)
  forgot_awaited first h w a k target c₀ seen at sound all true is = awaited_after (λ z. (z ≡ a) ⊎ (z ≡ l)) w u all (record {
    nexts = refl;
    split = split;
    waiting = λ i c m one waits. elim one [
      | inl here ↦ let clash : ◌≡◌ {A = Option (ℕ × ℕ × CallId)} None (Some (i, m.generation, c)) = sym (ap (λ (n : ℕ). ticket (u.stages n)) here ∙ ap ticket (put_here w.stages a q)) ∙ waits.0 in cc
      | inr leads ↦
          let clash : ◌≡◌ {A = Option (ℕ × ℕ × CallId)} None (Some (i, m.generation, c)) =
          sym (ap (λ (n : ℕ). ticket (u.stages n)) leads ∙ (ap ticket stage_there ∙ leader_ticketless (w.stages l) (k, c₀.generation) leader.stage)) ∙ waits.0 in cc
    ];
    serving = λ z i g m one waits serves. elim one [
      | inl here ↦ absurd (subst (λ (p : Stage V). Serves w a p i g m) at (subst (λ (n : ℕ). Serves w n (w.stages n) i g m) here serves))
      | inr leads ↦ subst (λ (n : ℕ). Serves w n (w.stages n) i g m → Serves u n (u.stages n) i g m) (sym leads)
          (λ x. subst (λ (p : Stage V). Serves u l p i g m) (sym stage_there) (serves_same w u l (w.stages l) i g m refl (ap top_in (put_here w.calls l (word.Forgot seen)) ∙ sym (ap top_in open_word)) x)) serves
    ];
  })
    where
      l : ℕ
      l = c₀.caller

      q : Stage V
      q = Forgetting k target (forget.LastClear c₀)

      u : World V
      u = forgot w a k target c₀ seen true

      good : GoodForget h k (forget.Close c₀ seen)
      good = subst (λ (q : Stage V). Good h w a q) at (sound.callers a).good

      open_word : w.calls l ≡ word.Open seen
      open_word = open_with_is seen (w.calls l) is

      is_open : opened h k ≡ Some c₀
      is_open = live_open first h w k c₀ seen sound good.0 open_word good.1

      leader : Held w k c₀
      leader = sound.held k c₀ is_open

      apart : l ≢ a
      apart = not_held first h w a k c₀ sound (ap unsettled at) is_open

      stage_there : u.stages l ≡ w.stages l
      stage_there = put_else w.stages a q l apart

      split : (z : ℕ) → ((z ≡ a) ⊎ (z ≡ l)) ⊎ ((u.stages z ≡ w.stages z) × (u.calls z ≡ w.calls z))
      split z = elim (cases_eq z a) [
        | inl here ↦ inl (inl here)
        | inr other ↦ elim (cases_eq z l) [
          | inl there ↦ inl (inr there)
          | inr far ↦ inr (put_else w.stages a q z other, put_else w.calls l (word.Forgot seen) z far)
        ]
      ]

  keyed_on : (w u : World V) (a k : ℕ) (target : Option CallId) (step : ForgetStep) (s : Stage V) → w.stages a ≡ Forgetting k target step → Awaited w → u.nexts ≡ w.nexts → u.calls ≡ w.calls → u.stages ≡ put w.stages a s → ticket s ≡ None → Awaited u
  keyed_on w u a k target step s at all nexts calls stages none =
      quiet_awaited w u a (Forgetting k target step) s at all nexts (λ z other. (ap (λ (f : ℕ → Stage V). f z) stages ∙ put_else w.stages a s z other, ap (λ (f : ℕ → CallState). f z) calls)) (ap (λ (f : ℕ → Stage V). f a) stages ∙ put_here w.stages a s) none (λ i g m x. x)

  first_awaited : (w : World V) (a k : ℕ) (target : Option CallId) (c : CallId) → w.stages a ≡ Forgetting k target (forget.FirstClear c) → Awaited w → (b : Bool) → Awaited (forget_cleared w a k target c b)
  first_awaited w a k target c at all false = on w a (Forgetting k target (forget.FirstClear c)) (Forgetting k target (forget.Look true)) at all refl (λ i g m x. x)
  first_awaited w a k target c at all true = keyed_on w (forget_cleared w a k target c true) a k target (forget.FirstClear c) Free at all refl refl refl refl

  last_awaited : (w : World V) (a k : ℕ) (target : Option CallId) (c : CallId) → w.stages a ≡ Forgetting k target (forget.LastClear c) → Awaited w → (b : Bool) → Awaited (with_stage (cleared w k c b) a Free)
  last_awaited w a k target c at all false = on w a (Forgetting k target (forget.LastClear c)) Free at all refl (λ i g m x. x)
  last_awaited w a k target c at all true = keyed_on w (with_stage (cleared w k c true) a Free) a k target (forget.LastClear c) Free at all refl refl refl refl

  key_looked_ticketless : (w : World V) (k : ℕ) (v : KeyState) → ticket {V = V} (key_looked k v) ≡ None
  key_looked_ticketless w k Never = refl
  key_looked_ticketless w k (Names b g true) = refl
  key_looked_ticketless w k (Names b g false) = refl

  call_looked_ticketless : (w : World V) (k : ℕ) (c : CallId) (b : Bool) → ticket {V = V} (call_looked k c b) ≡ None
  call_looked_ticketless w k c false = refl
  call_looked_ticketless w k c true = refl

  looked_ticketless : (w : World V) (k : ℕ) (target : Option CallId) (v : KeyState) → ticket {V = V} (forget_looked k target v) ≡ None
  looked_ticketless w k None v = key_looked_ticketless w k v
  looked_ticketless w k (Some c) v = call_looked_ticketless w k c (same_key v (key_of c))

  missed_ticketless : (w : World V) (k : ℕ) (target : Option CallId) (c : CallId) (o : Option LeaderState) (b : Bool) → ticket {V = V} (peek_missed k target c o b) ≡ None
  missed_ticketless w k target c o false = refl
  missed_ticketless w k target c o true = refl

  forget_awaited : (first : ℕ) (h : List (Event ℕ V)) (w : World V) (a k : ℕ) (target : Option CallId) (step : ForgetStep) → w.stages a ≡ Forgetting k target step → Sound first h w → Awaited w → Awaited (forget_stepped w a k target step)
  forget_awaited first h w a k target (forget.Look failed) at sound all = on w a (Forgetting k target (forget.Look failed)) (forget_looked k target (w.keys k)) at all (looked_ticketless w k target (w.keys k)) (λ i g m x. x)
  forget_awaited first h w a k target (forget.Peek c) at sound all = on w a (Forgetting k target (forget.Peek c)) (peek_missed k target c (open_in c.generation (w.calls c.caller)) (misses target (is_forgot_in c.generation (w.calls c.caller)))) at all (missed_ticketless w k target c (open_in c.generation (w.calls c.caller)) (misses target (is_forgot_in c.generation (w.calls c.caller)))) (λ i g m x. x)
  forget_awaited first h w a k target (forget.Close c seen) at sound all = forgot_awaited first h w a k target c seen at sound all (is_open_with seen (w.calls c.caller)) refl
  forget_awaited first h w a k target (forget.FirstClear c) at sound all = first_awaited w a k target c at all (same_key (w.keys k) (key_of c))
  forget_awaited first h w a k target (forget.LastClear c) at sound all = last_awaited w a k target c at all (same_key (w.keys k) (key_of c))

  peeked_ticketless : (w : World V) (k : ℕ) (c : CallId) (b : Bool) → ticket {V = V} (current_peeked k c b) ≡ None
  peeked_ticketless w k c false = refl
  peeked_ticketless w k c true = refl

  current_awaited : (w : World V) (a k : ℕ) (c : CallId) (step : CurrentStep) → w.stages a ≡ Questioning k c step → Awaited w → Awaited (current_stepped w a k c step)
  current_awaited w a k c current.Peek at all =
      on w a (Questioning k c current.Peek) (current_peeked k c (is_forgot_in c.generation (w.calls c.caller))) at all (peeked_ticketless w k c (is_forgot_in c.generation (w.calls c.caller))) (λ i g m x. x)
  current_awaited w a k c current.Look at all = on w a (Questioning k c current.Look) Free at all refl (λ i g m x. x)

  step_awaited : (first : ℕ) (h : List (Event ℕ V)) (w : World V) (a : ℕ) (p : Stage V) → w.stages a ≡ p → Sound first h w → Awaited w → Awaited (stepped w a p)
  step_awaited first h w a Free at sound all = all
  step_awaited first h w a (Leading k g own) at sound all = all
  step_awaited first h w a (Holding k g c) at sound all = all
  step_awaited first h w a (Polling k g c) at sound all = poll_awaited w a k g c at all (is_full (w.calls a))
  step_awaited first h w a (Seconding one) at sound all = all
  step_awaited first h w a (Asking k s step) at sound all = ask_awaited first h w a k s step at sound all
  step_awaited first h w a (Settling k g own v step) at sound all = settle_awaited first h w a k g own v step at sound all
  step_awaited first h w a (Forgetting k target step) at sound all = forget_awaited first h w a k target step at sound all
  step_awaited first h w a (Naming k) at sound all = on w a (Naming k) Free at all refl (λ i g m x. x)
  step_awaited first h w a (Questioning k c step) at sound all = current_awaited w a k c step at all

  free_serves : (w : World V) (a : ℕ) → w.stages a ≡ Free → (k g : ℕ) (m : CallId) → Serves w a (w.stages a) k g m → ⊥
  free_serves w a at k g m is = subst (λ (p : Stage V). Serves w a p k g m) at is

  start_either : (w : World V) (a : ℕ) (s : Stage V) (b : Bool) → w.stages a ≡ Free → Awaited w → ticket s ≡ None → Awaited (cond b w (with_stage w a s))
  start_either w a s true at all none = all
  start_either w a s false at all none = on w a Free s at all none (λ i g m x. x)

  chan_either : (w : World V) (a b k : ℕ) → w.stages a ≡ Free → w.stages b ≡ Free → Awaited w → (t : Bool) → ((b == a) || is_spent w b) ≡ t → Awaited (cond t w (with_stage (with_stage w b (Seconding a)) a (Asking k (Some b) (ask.Look false))))
  chan_either w a b k at there all true is = all
  chan_either w a b k at there all false is =
      let apart : b ≢ a = λ (same : b ≡ a). true≢false (sym (eq-eqb b a same) ∙ (or_parts (b == a) (is_spent w b) is).0) in
      two_awaited w a b (Asking k (Some b) (ask.Look false)) (Seconding a) all apart refl refl (free_serves w a at) (free_serves w b there)

  chan_awaited : (w : World V) (a b k : ℕ) (q : Stage V) → w.stages a ≡ Free → w.stages b ≡ q → Awaited w → Awaited (chan_started w a b k q)
  chan_awaited w a b k Free at there all = chan_either w a b k at there all ((b == a) || is_spent w b) refl
  chan_awaited w a b k _ at there all = all

  chan_starts : (w : World V) (a b k : ℕ) → w.stages a ≡ Free → Awaited w → (t : Bool) → Awaited (cond t w (chan_started w a b k (w.stages b)))
  chan_starts w a b k at all true = all
  chan_starts w a b k at all false = chan_awaited w a b k (w.stages b) at refl all

  start_awaited : (w : World V) (a : ℕ) (o : Op V) (p : Stage V) → w.stages a ≡ p → Awaited w → Awaited (started w a o p)
  start_awaited w a (op.Ask k) Free at all = start_either w a (Asking k None (ask.Look false)) (is_spent w a) at all refl
  start_awaited w a (op.Ask k) _ at all = all
  start_awaited w a (op.Chan b k) Free at all = chan_starts w a b k at all (is_spent w a)
  start_awaited w a (op.Chan b k) _ at all = all
  start_awaited w a (op.Settle v) (Leading k g own) at all =
      let s : Stage V = Settling k g own v settle.Peek in
      own_awaited w (with_stage w a s) a (Leading k g own) s at all refl (staged w a s) (put_here w.stages a s) refl (λ i n m serves. serves)
  start_awaited w a (op.Settle v) _ at all = all
  start_awaited w a (op.Forget k) Free at all = on w a Free (Forgetting k None (forget.Look false)) at all refl (λ i g m x. x)
  start_awaited w a (op.ForgetCall k d) Free at all = on w a Free (Forgetting k (Some d) (forget.Look false)) at all refl (λ i g m x. x)
  start_awaited w a (op.Named k) Free at all = on w a Free (Naming k) at all refl (λ i g m x. x)
  start_awaited w a (op.Forget k) _ at all = all
  start_awaited w a (op.ForgetCall k d) _ at all = all
  start_awaited w a (op.Named k) _ at all = all
  start_awaited w a op.Poll (Holding k g c) at all = held_on w a (Holding k g c) (Polling k g c) at all refl (λ i n m x. x)
  start_awaited w a op.Poll _ at all = all
  start_awaited w a (op.Current k c) Free at all = on w a Free (Questioning k c current.Peek) at all refl (λ i g m x. x)
  start_awaited w a (op.Current k c) _ at all = all

  freed_awaited : (first : ℕ) (h : List (Event ℕ V)) (w : World V) (a k : ℕ) (s : Option ℕ) → w.stages a ≡ Asking k s (ask.Look true) → Sound first h w → Awaited w → Awaited (freed w a s)
  freed_awaited first h w a k None at sound all = on w a (Asking k None (ask.Look true)) Free at all refl (λ i g m x. x)
  freed_awaited first h w a k (Some b) at sound all =
      let good : GoodSecond w a (Some b) × GoodAsk h w a k (Some b) (ask.Look true) = subst (λ (q : Stage V). Good h w a q) at (sound.callers a).good in
      two_awaited w a b Free Free all (second_apart w a b k (Some b) (ask.Look true) at good.0) refl refl (asking_serves w a k (Some b) (ask.Look true) at) (joiner_serves w a k (Some b) (ask.Look true) at good.0)

  leave_awaited : (first : ℕ) (h : List (Event ℕ V)) (w : World V) (a : ℕ) (p : Stage V) → w.stages a ≡ p → Sound first h w → Awaited w → Awaited (left w a p)
  leave_awaited first h w a (Asking k s (ask.Look true)) at sound all = freed_awaited first h w a k s at sound all
  leave_awaited first h w a (Forgetting k target (forget.Look true)) at sound all = on w a (Forgetting k target (forget.Look true)) Free at all refl (λ i g m x. x)
  leave_awaited first h w a _ at sound all = all

  turn_awaited : (first : ℕ) (h : List (Event ℕ V)) (w : World V) (t : Turn V) → Sound first h w → Awaited w → Awaited (turned w t)
  turn_awaited first h w (turn.Start a o) sound all = start_awaited w a o (w.stages a) refl all
  turn_awaited first h w (turn.Step a) sound all = step_awaited first h w a (w.stages a) refl sound all
  turn_awaited first h w (turn.Leave a) sound all = leave_awaited first h w a (w.stages a) refl sound all

  run_awaited : (z : Setting) (ts : List (Turn V)) (h : List (Event ℕ V)) (w : World V) → Fair z h w → IsScheduleFrom z h w ts → Awaited w → Awaited (run w ts)
  run_awaited z [] h w sound is all = all
  run_awaited z (t ∷ ts) h w sound is all = run_awaited z ts (h ++ turn_events w t) (turned w t) (turn_fair z h w t sound is.0) is.1 (turn_awaited z.first h w t sound.sound all)

  serving_unhanded : (first : ℕ) (h : List (Event ℕ V)) (w : World V) (a : ℕ) (p : Stage V) (k g : ℕ) (m : CallId) → w.stages a ≡ p → Sound first h w → Serves w a p k g m → is_handed h (call_of a g) ≡ false
  serving_unhanded first h w a Free k g m at sound is = absurd is
  serving_unhanded first h w a (Leading i n own) k g m at sound is =
      let good : Leads h w a i n own = subst (λ (q : Stage V). Good h w a q) at (sound.callers a).good in
      subst (λ (b : ℕ). is_handed h (call_of a b) ≡ false) is.1 (unsettled_unhanded first h w.generations (call_of a n) sound.past good.not_settled)
  serving_unhanded first h w a (Holding i n c) k g m at sound is = absurd is
  serving_unhanded first h w a (Polling i n c) k g m at sound is = absurd is
  serving_unhanded first h w a (Seconding one) k g m at sound is = absurd is
  serving_unhanded first h w a (Asking i s step) k g m at sound is = absurd is
  serving_unhanded first h w a (Settling i n own v step) k g m at sound is =
      subst (λ (b : ℕ). is_handed h (call_of a b) ≡ false) is.1 (by_step step (subst (λ (q : Stage V). Good h w a q) at (sound.callers a).good) is.2)
    where
      by_step : (step : SettleStep) → GoodSettle h w a i n own v step → ServesAt w a own step m → is_handed h (call_of a n) ≡ false
      by_step settle.Peek good serves = unsettled_unhanded first h w.generations (call_of a n) sound.past good.not_settled
      by_step (settle.Close seen) good serves = unsettled_unhanded first h w.generations (call_of a n) sound.past good.0.not_settled
      by_step (settle.Clear top) good serves = good.4 (owed_unhanded own top w.nexts m serves)
      by_step (settle.Count j x top) good serves = good.4
      by_step (settle.Follow joiners x) good serves = good.2
      by_step (settle.PeekMember joiners x next) good serves = good.2
      by_step (settle.Deliver joiners x next) good serves = good.2
      by_step (settle.PeekOwn joiners) good serves = good.1
      by_step (settle.DeliverOwn joiners x) good serves = good.1
  serving_unhanded first h w a (Forgetting i target step) k g m at sound is = absurd is
  serving_unhanded first h w a (Naming i) k g m at sound is = absurd is
  serving_unhanded first h w a (Questioning i c step) k g m at sound is = absurd is

  -- what is awaited is not handed out
  pub awaited_unhanded : (z : Setting) (s : List (Turn V)) → IsSchedule z s → (k : ℕ) (c m : CallId) → Waits (world_after z.callers z.first s) k c m → is_handed (events_of z.callers z.first s) c ≡ false
  awaited_unhanded z s is k c m waits =
      let all : Awaited (world_after z.callers z.first s) = run_awaited z s [] (first_world z.callers z.first) (fair_begins z) is (λ i d n waiting. cc) in
      serving_unhanded z.first (events_of z.callers z.first s) (world_after z.callers z.first s) c.caller ((world_after z.callers z.first s).stages c.caller) k c.generation m refl (always z s is) (all k c m waits)

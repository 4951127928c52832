-- what a caller's stage, word and cell promise outlasts the turns of others, and a turn keeps the invariant that keeps it for those whom it touches
use Rattle.std.proofs.Common.{◌≡◌, ◌≢◌, ◌≤◌, ℕ, true, false, List, [], ◌∷◌, ◌++◌, ◌⊎◌, inl, inr, Option, Some, None, refl, sym, ◌∙◌, ap, subst}
use Rattle.sf_history.specs.declared.call.CallId.{CallId}
use Rattle.sf_history.specs.declared.event.Event.{Event}
use Rattle.sf_words.specs.declared.key_word.KeyState.{KeyState}
use Rattle.sf_words.specs.declared.key_word.KeyState.TheVariants.{Never, Names}
use Rattle.sf_words.specs.declared.call_word.CallState.{CallState}
use Rattle.sf_words.specs.declared.call_word.CallState.TheVariants as word
use Rattle.sf_steps_laws.specs.declared.letter.Letter.{Letter}
use Rattle.sf_steps_laws.specs.declared.operation.Stage.{Stage}
use Rattle.sf_steps_laws.specs.declared.operation.Stage.TheVariants.{Free, Leading, Holding, Polling, Seconding, Asking, Settling, Forgetting, Naming, Questioning}
use Rattle.sf_steps_laws.specs.declared.operation.AskStep.{AskStep}
use Rattle.sf_steps_laws.specs.declared.operation.AskStep.TheVariants as ask
use Rattle.sf_steps_laws.specs.declared.operation.SettleStep.{SettleStep}
use Rattle.sf_steps_laws.specs.declared.operation.SettleStep.TheVariants as settle
use Rattle.sf_steps_laws.specs.declared.operation.ForgetStep.{ForgetStep}
use Rattle.sf_steps_laws.specs.declared.operation.ForgetStep.TheVariants as forget
use Rattle.sf_steps_laws.specs.World.{World}
use Rattle.sf_steps_laws.specs.Askings.{joiner}
use Rattle.sf_steps_laws.proofs.Histories.{opened}
use Rattle.sf_steps_laws.proofs.Growing.{Grows}
use Rattle.sf_history.proofs.Members.{Each, each_map, Apart, members}
use Rattle.sf_steps_laws.proofs.Members.{Chain, chain_kept, line, line_members, line_after}
use Rattle.sf_steps_laws.proofs.Past.{Past}
use Rattle.sf_steps_laws.proofs.Sound.{call_of, IsLeadersWord, IsForgotWord, top_in, unsettled, ticket, Waits, Leads, Owes, Unhanded, IsTicket, Holds, SawClosed, IsListed, ready_word, GoodSecond, ReadySecond, GoodAsk, GoodSettle, GoodForget, Good, GoodKey, Held, Caller, Sound}

module _ {V : Type 0} where
  -- all that is the caller's is as before
  pub record Same (w w' : World V) (z : ℕ) : Type 0 where
    pub stage : w'.stages z ≡ w.stages z
    pub word : w'.calls z ≡ w.calls z
    pub next : w'.nexts z ≡ w.nexts z
    pub cell : w'.cells z ≡ w.cells z
    pub generation : w'.generations z ≡ w.generations z

  -- what the stage of b promises of z, which is not its second, is kept: if it waits for a call of b, it still waits
  pub record Spared (w w' : World V) (b z : ℕ) : Type 0 where
    pub second : w.stages z ≢ Seconding b
    pub member : (k : ℕ) (c m : CallId) → m.caller ≡ z → c.caller ≡ b → Waits w k c m → Waits w' k c m × (w'.nexts m.caller ≡ w.nexts m.caller)

  -- a turn of the caller a leaves b alone
  pub record Kept (a b : ℕ) (h : List (Event ℕ V)) (w : World V) (h' : List (Event ℕ V)) (w' : World V) : Type 0 where
    pub bound : w'.callers ≡ w.callers
    pub other : b ≢ a
    pub grows : Grows a h h'
    pub members : (c : CallId) → c.caller ≡ b → members h' c ≡ members h c
    pub same : Same w w' b
    pub others : (z : ℕ) → Same w w' z ⊎ Spared w w' b z

  module _ (a b : ℕ) (h : List (Event ℕ V)) (w : World V) (h' : List (Event ℕ V)) (w' : World V) (f : Kept a b h w h' w') where
    waits_kept : (k : ℕ) (c m : CallId) → c.caller ≡ b → Waits w k c m → Waits w' k c m × (w'.nexts m.caller ≡ w.nexts m.caller)
    waits_kept k c m is waits = elim (f.others m.caller) [
      | inl same ↦ ((ap ticket same.stage ∙ waits.0, same.word ∙ waits.1), same.next)
      | inr spared ↦ spared.member k c m refl is waits
    ]

    line_kept : (k g : ℕ) (l : List CallId) → Each (Waits w k (call_of b g)) l → Each (Waits w' k (call_of b g)) l
    line_kept k g l = each_map (Waits w k (call_of b g)) (Waits w' k (call_of b g)) (λ m waits. (waits_kept k (call_of b g) m refl waits).0) l

    list_kept : (k g : ℕ) (own : Option CallId) (top : Option ℕ) (l : List CallId) → Each (Waits w k (call_of b g)) (line own l) → Chain w.nexts top l → Chain w'.nexts top l
    list_kept k g own top l waits chain = chain_kept w.nexts w'.nexts l top
        (each_map (Waits w k (call_of b g)) (λ m. w'.nexts m.caller ≡ w.nexts m.caller) (λ m is. (waits_kept k (call_of b g) m refl is).1) l (line_members (Waits w k (call_of b g)) own l waits)) chain

    leads_kept : (k g : ℕ) (own : Option CallId) → Leads h w b k g own → Leads h' w' b k g own
    leads_kept k g own is =
        let c : CallId = call_of b g in
        let same : members h' c ≡ members h c = f.members c refl in
        record {
          led = f.grows.led k c is.led;
          mine = f.grows.mine b c is.mine;
          not_settled = f.grows.not_settled c f.other is.not_settled;
          has_word = subst (λ (u : CallState). IsLeadersWord g u) (sym f.same.word) is.has_word;
          chain = subst (λ (u : CallState). Chain w'.nexts (top_in u) (members h' c)) (sym f.same.word)
              (subst (λ (l : List CallId). Chain w'.nexts (top_in (w.calls b)) l) (sym same) (list_kept k g own (top_in (w.calls b)) (members h c) is.waits is.chain));
          waits = subst (λ (l : List CallId). Each (Waits w' k c) (line own l)) (sym same) (line_kept k g (line own (members h c)) is.waits);
          apart = subst (λ (l : List CallId). Apart (line own l)) (sym same) is.apart;
        }

    owes_kept : (k g : ℕ) (own : Option CallId) (v : V) (joiners : ℕ) (top : Option ℕ) (rest : List CallId) → Owes h w b k g own v joiners top rest → Owes h' w' b k g own v joiners top rest
    owes_kept k g own v joiners top rest is = record {
      led = f.grows.led k (call_of b g) is.led;
      mine = f.grows.mine b (call_of b g) is.mine;
      answered = f.grows.answered (call_of b g) v joiners is.answered;
      chain = list_kept k g own top rest is.waits is.chain;
      waits = line_kept k g (line own rest) is.waits;
      apart = is.apart;
    }

    unhanded_kept : (g : ℕ) → Unhanded h b g → Unhanded h' b g
    unhanded_kept g isnt = f.grows.not_handed (call_of b g) f.other isnt

    next_kept : (k g : ℕ) (own : Option CallId) (v : V) (joiners : ℕ) (m : ℕ) (rest : List CallId) → Owes h w b k g own v joiners (Some m) rest → w'.nexts m ≡ w.nexts m
    next_kept k g own v joiners m [] is = absurd is.chain
    next_kept k g own v joiners m (n ∷ rest) is =
        subst (λ (x : ℕ). w'.nexts x ≡ w.nexts x) (sym is.chain.0) (waits_kept k (call_of b g) n refl (line_members (Waits w k (call_of b g)) own (n ∷ rest) is.waits).0).1

    ticket_longer : (k g : ℕ) (c : CallId) (u : CallState) (cell : Option (Letter V)) → IsTicket h k g c u cell → IsTicket h' k g c u cell
    ticket_longer k g c word.Free cell is = absurd is
    ticket_longer k g c (word.Open s) cell is = absurd is
    ticket_longer k g c (word.Forgot s) cell is = absurd is
    ticket_longer k g c (word.Done s) cell is = absurd is
    ticket_longer k g c (word.Listed i) cell is = is
    ticket_longer k g c (word.Full i) cell is = (is.0, (is.1.0, is.1.1, is.1.2, f.grows.answered c is.1.0 is.1.1 is.1.3))

    holds_kept : (k g : ℕ) (c : CallId) → Holds h w b k g c → Holds h' w' b k g c
    holds_kept k g c is = (
      f.grows.led k c is.0,
      subst (λ (u : CallState). IsTicket h' k g c u (w'.cells b)) (sym f.same.word) (subst (λ (l : Option (Letter V)). IsTicket h' k g c (w.calls b) l) (sym f.same.cell) (ticket_longer k g c (w.calls b) (w.cells b) is.1)),
    )

    seen_kept : (k : ℕ) (seen : KeyState) → SawClosed h k seen → SawClosed h' k seen
    seen_kept k Never saw = tt
    seen_kept k (Names d g true) saw = tt
    seen_kept k (Names d g false) saw = (f.grows.led k (call_of d g) saw.0, f.grows.closed k (call_of d g) saw.0 saw.1)

    -- a second is left alone with its first
    second_same : (s : ℕ) → w.stages s ≡ Seconding b → Same w w' s
    second_same s is = elim (f.others s) [
      | inl same ↦ same
      | inr spared ↦ absurd (spared.second is)
    ]

    second_kept : (s : Option ℕ) → GoodSecond w b s → GoodSecond w' b s
    second_kept None is = tt
    second_kept (Some s) is = (second_same s is).stage ∙ is

    listed_same : (z : ℕ) → Same w w' z → IsListed w z → IsListed w' z
    listed_same z same is = same.word ∙ (is ∙ ap (λ (n : ℕ). word.Listed n) (sym same.generation))

    ready_kept : (s : Option ℕ) → GoodSecond w b s → ReadySecond w s → ReadySecond w' s
    ready_kept None good is = tt
    ready_kept (Some s) good is = listed_same s (second_same s good) is

    joiner_same : (s : Option ℕ) → GoodSecond w b s → Same w w' (joiner b s)
    joiner_same None good = f.same
    joiner_same (Some s) good = second_same s good

    ask_kept : (k : ℕ) (s : Option ℕ) (p : AskStep) → GoodSecond w b s → GoodAsk h w b k s p → GoodAsk h' w' b k s p
    ask_kept k s (ask.Look failed) second good = tt
    ask_kept k s (ask.Peek c) second good = f.grows.led k c good
    ask_kept k s (ask.ReadyOwn seen forgot) second good = seen_kept k seen good
    ask_kept k s (ask.ReadyLead seen forgot) second good = (seen_kept k seen good.0, ready_kept s second good.1)
    ask_kept k s (ask.Lead seen forgot) second good = (
      seen_kept k seen good.0,
      ready_kept s second good.1,
      f.same.word ∙ (good.2 ∙ ap (λ (n : ℕ). ready_word (record w { generations = λ i. n }) b s) (sym f.same.generation)),
    )
    ask_kept k s (ask.ReadyJoin c seen) second good = (f.grows.led k c good.0, good.1)
    ask_kept k s (ask.Link c seen) second good = ((f.grows.led k c good.0.0, good.0.1), listed_same (joiner b s) (joiner_same s second) good.1)
    ask_kept k s (ask.Enter c seen) second good = (
      (f.grows.led k c good.0.0, good.0.1),
      listed_same (joiner b s) (joiner_same s second) good.1,
      (joiner_same s second).next ∙ good.2,
    )

    settle_kept : (k g : ℕ) (own : Option CallId) (v : V) (p : SettleStep) → GoodSettle h w b k g own v p → GoodSettle h' w' b k g own v p
    settle_kept k g own v settle.Peek good = leads_kept k g own good
    settle_kept k g own v (settle.Close seen) good = (leads_kept k g own good.0, good.1)
    settle_kept k g own v (settle.Clear top) good = (
      good.0,
      good.1,
      owes_kept k g own v good.1 top good.0 good.2,
      subst (λ (u : CallState). IsForgotWord g u) (sym f.same.word) good.3,
      λ owed. unhanded_kept g (good.4 owed),
      good.5,
      subst (λ (n : ℕ). good.1 ≤ n) (sym f.bound) good.6,
    )
    settle_kept k g own v (settle.Count joiners m top) good = (
      good.0,
      good.1,
      good.2,
      owes_kept k g own v good.2 (Some top) (good.0 ++ good.1) good.3,
      unhanded_kept g good.4,
      list_kept k g own (Some m) good.1 (line_after (Waits w k (call_of b g)) own good.0 good.1 good.3.waits) good.5,
      good.6,
      subst (λ (n : ℕ). good.2 ≤ n) (sym f.bound) good.7,
    )
    settle_kept k g own v (settle.Follow joiners m) good = (good.0, owes_kept k g own v joiners (Some m) good.0 good.1, unhanded_kept g good.2)
    settle_kept k g own v (settle.PeekMember joiners m next) good =
        (good.0, owes_kept k g own v joiners (Some m) good.0 good.1, unhanded_kept g good.2, good.3 ∙ sym (next_kept k g own v joiners m good.0 good.1))
    settle_kept k g own v (settle.Deliver joiners m next) good =
        (good.0, owes_kept k g own v joiners (Some m.caller) (m ∷ good.0) good.1, unhanded_kept g good.2, good.3 ∙ sym (next_kept k g own v joiners m.caller (m ∷ good.0) good.1))
    settle_kept k g own v (settle.PeekOwn joiners) good = (owes_kept k g own v joiners None [] good.0, unhanded_kept g good.1)
    settle_kept k g own v (settle.DeliverOwn joiners m) good = (owes_kept k g own v joiners None [] good.0, unhanded_kept g good.1, good.2)

    forget_kept : (k : ℕ) (p : ForgetStep) → GoodForget h k p → GoodForget h' k p
    forget_kept k (forget.Look failed) good = tt
    forget_kept k (forget.Peek c) good = f.grows.led k c good
    forget_kept k (forget.Close c seen) good = (f.grows.led k c good.0, good.1)
    forget_kept k (forget.FirstClear c) good = (f.grows.led k c good.0, f.grows.closed k c good.0 good.1)
    forget_kept k (forget.LastClear c) good = (f.grows.led k c good.0, f.grows.past k c good.0 good.1)

    good_kept : (p : Stage V) → Good h w b p → Good h' w' b p
    good_kept Free good = tt
    good_kept (Leading k g own) good = leads_kept k g own good
    good_kept (Holding k g c) good = holds_kept k g c good
    good_kept (Polling k g c) good = holds_kept k g c good
    good_kept (Seconding first) good = tt
    good_kept (Asking k s step) good = (second_kept s good.0, ask_kept k s step good.0 good.1)
    good_kept (Settling k g own v step) good = settle_kept k g own v step good
    good_kept (Forgetting k target step) good = forget_kept k step good
    good_kept (Naming k) good = tt
    good_kept (Questioning k c step) good = f.grows.led k c good

    caller_kept : ((k : ℕ) (c : CallId) → c.caller ≡ b → opened h k ≡ Some c → opened h' k ≡ Some c) → Caller h w b → Caller h' w' b
    caller_kept kept_open is = record {
      good = subst (λ (p : Stage V). Good h' w' b p) (sym f.same.stage) (good_kept (w.stages b) is.good);
      live = λ k s led open_word. kept_open k (call_of b s.generation) refl (is.live k s (f.grows.led_before k (call_of b s.generation) f.other led) (sym f.same.word ∙ open_word));
      forgot = λ k s forgot_word found. is.forgot k s (sym f.same.word ∙ forgot_word) (f.grows.now_before k (call_of b s.generation) f.other found);
      empty = λ none. f.same.cell ∙ is.empty (ap ticket (sym f.same.stage) ∙ none);
    }

  -- a turn: its events, the callers that it touches, and what it keeps for them
  pub record Step (first a : ℕ) (touched : ℕ → Type 0) (h : List (Event ℕ V)) (w : World V) (h' : List (Event ℕ V)) (w' : World V) : Type 0 where
    pub bound : w'.callers ≡ w.callers
    pub past : Past first h' w'.generations
    pub grows : Grows a h h'
    pub mine : touched a
    pub split : (z : ℕ) → touched z ⊎ ((touched z → ⊥) × Same w w' z)
    pub spared : (b z : ℕ) → (touched b → ⊥) → touched z → Spared w w' b z
    pub members : (c : CallId) → (touched c.caller → ⊥) → members h' c ≡ members h c
    pub kept_open : (k : ℕ) (c : CallId) → (touched c.caller → ⊥) → opened h k ≡ Some c → opened h' k ≡ Some c
    pub callers : (z : ℕ) → touched z → Caller h' w' z
    pub keys : (k : ℕ) → GoodKey h' w' k (w'.keys k)
    pub held : (k : ℕ) (c : CallId) → touched c.caller → opened h' k ≡ Some c → Held w' k c

  pub sound_after : (first a : ℕ) (touched : ℕ → Type 0) (h : List (Event ℕ V)) (w : World V) (h' : List (Event ℕ V)) (w' : World V) → Sound first h w → Step first a touched h w h' w' → Sound first h' w'
  sound_after first a touched h w h' w' sound t = record {
    past = t.past;
    keys = t.keys;
    held = λ k c is. elim (t.split c.caller) [
      | inl one ↦ t.held k c one is
      | inr free ↦
          let x = sound.held k c (t.grows.opened_before k c (apart c.caller free.0) is) in
          record { state = x.state; open_word = free.1.word ∙ x.open_word; generation = x.generation; stage = ap unsettled free.1.stage ∙ x.stage }
    ];
    callers = λ b. elim (t.split b) [
      | inl one ↦ t.callers b one
      | inr free ↦ caller_kept a b h w h' w' (record {
        bound = t.bound;
        other = apart b free.0;
        grows = t.grows;
        members = λ c is. t.members c (of c.caller b is free.0);
        same = free.1;
        others = λ z. elim (t.split z) [
          | inl one ↦ inr (t.spared b z free.0 one)
          | inr more ↦ inl more.1
        ];
      }) (λ k c is. t.kept_open k c (of c.caller b is free.0)) (sound.callers b)
    ];
  }
    where
      apart : (b : ℕ) → (touched b → ⊥) → b ≢ a
      apart b isnt is = isnt (subst touched (sym is) t.mine)

      of : (n b : ℕ) → n ≡ b → (touched b → ⊥) → touched n → ⊥
      of n b is isnt one = isnt (subst touched is one)

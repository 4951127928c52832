-- the steps of an asking leave each member that waits on its leader's list
use Rattle.std.proofs.Common.{◌≡◌, ◌≢◌, ℕ, Bool, true, false, ◌⊎◌, List, ◌∷◌, ◌++◌, inl, inr, Option, Some, None, refl, sym, ◌∙◌, ap, subst}
use Rattle.std.proofs.lemmas.Bool.{cases_eq}
use Rattle.sf_history.specs.declared.call.CallId.{CallId}
use Rattle.sf_history.specs.declared.event.Event.{Event}
use Rattle.sf_words.specs.declared.call_word.LeaderState.{LeaderState}
use Rattle.sf_words.specs.declared.call_word.CallState.{CallState}
use Rattle.sf_words.specs.declared.call_word.CallState.TheVariants as word
use Rattle.sf_steps_laws.specs.declared.operation.Stage.{Stage}
use Rattle.sf_steps_laws.specs.declared.operation.Stage.TheVariants.{Free, Leading, Holding, Polling, Seconding, Asking, Settling, Forgetting, Naming, Questioning}
use Rattle.sf_steps_laws.specs.declared.operation.AskStep.{AskStep}
use Rattle.sf_steps_laws.specs.declared.operation.AskStep.TheVariants as ask
use Rattle.sf_steps_laws.specs.declared.operation.SettleStep.TheVariants as settle
use Rattle.sf_steps_laws.specs.World.{World, next_id, same_key, is_open_with, open_in, is_forgot_in}
use Rattle.sf_lists.specs.Functions.{put}
use Rattle.sf_steps_laws.specs.Askings.{looked, peeked, joiner, with_top, led, entered, after_lead, after_enter, ask_stepped}
use Rattle.sf_steps_laws.proofs.Histories.{opened}
use Rattle.sf_history.proofs.Members.{Each, each_map, members}
use Rattle.sf_steps_laws.proofs.Members.{Chain, chain_kept, line, line_members}
use Rattle.sf_lists.proofs.Functions.{put_here, put_else}
use Rattle.sf_steps_laws.proofs.Compared.{same_pair, open_with_is}
use Rattle.sf_steps_laws.proofs.Sound.{call_of, top_in, Held, unsettled, ticket, Waits, Leads, ready_word, GoodSecond, GoodAsk, Good, Sound, live_open}
use Rattle.sf_steps_laws.proofs.Leaders.{unsettled_good, leader_ticketless, ticket_apart}
use Rattle.sf_steps_laws.proofs.Quiet.{not_held, idle_joiner}
use Rattle.sf_steps_laws.proofs.DeliverSteps.{same_ticket}
use Rattle.sf_steps_laws.proofs.AskSteps.{second_apart}
use Rattle.sf_steps_laws.proofs.Serving.{InLine, same_callers, Serves, Awaited, awaited_after, quiet_awaited, on, word_awaited}

module _ {V : Type 0} where
  -- a leader before its settle serves by the top of its word
  unsettled_serves : (w u : World V) (l : ℕ) (p : Stage V) (x : ℕ × ℕ) (k g : ℕ) (m : CallId) → unsettled p ≡ Some x → ((own : Option CallId) → InLine w.nexts own (top_in (w.calls l)) m → InLine u.nexts own (top_in (u.calls l)) m) → Serves w l p k g m → Serves u l p k g m
  unsettled_serves w u l Free x k g m is line serves = cc
  unsettled_serves w u l (Leading i n own) x k g m is line serves = (serves.0, serves.1, line own serves.2)
  unsettled_serves w u l (Holding i n c) x k g m is line serves = cc
  unsettled_serves w u l (Polling i n c) x k g m is line serves = cc
  unsettled_serves w u l (Seconding first) x k g m is line serves = cc
  unsettled_serves w u l (Asking i s step) x k g m is line serves = cc
  unsettled_serves w u l (Settling i n own v settle.Peek) x k g m is line serves = (serves.0, serves.1, line own serves.2)
  unsettled_serves w u l (Settling i n own v (settle.Close seen)) x k g m is line serves = (serves.0, serves.1, line own serves.2)
  unsettled_serves w u l (Settling i n own v (settle.Clear top)) x k g m is line serves = cc
  unsettled_serves w u l (Settling i n own v (settle.Count j y top)) x k g m is line serves = cc
  unsettled_serves w u l (Settling i n own v (settle.Follow joiners y)) x k g m is line serves = cc
  unsettled_serves w u l (Settling i n own v (settle.PeekMember joiners y next)) x k g m is line serves = cc
  unsettled_serves w u l (Settling i n own v (settle.Deliver joiners y next)) x k g m is line serves = cc
  unsettled_serves w u l (Settling i n own v (settle.PeekOwn joiners)) x k g m is line serves = cc
  unsettled_serves w u l (Settling i n own v (settle.DeliverOwn joiners y)) x k g m is line serves = cc
  unsettled_serves w u l (Forgetting i target step) x k g m is line serves = cc
  unsettled_serves w u l (Naming i) x k g m is line serves = cc
  unsettled_serves w u l (Questioning i c step) x k g m is line serves = cc

  -- a new member on top is served
  unsettled_new : (u : World V) (l : ℕ) (p : Stage V) (k g : ℕ) (m : CallId) → unsettled p ≡ Some (k, g) → ((own : Option CallId) → InLine u.nexts own (top_in (u.calls l)) m) → Serves u l p k g m
  unsettled_new u l Free k g m is line = cc
  unsettled_new u l (Leading i n own) k g m is line = let same = same_pair (i, n) (k, g) is in (ap (λ (x : ℕ × ℕ). x.0) same, ap (λ (x : ℕ × ℕ). x.1) same, line own)
  unsettled_new u l (Holding i n c) k g m is line = cc
  unsettled_new u l (Polling i n c) k g m is line = cc
  unsettled_new u l (Seconding first) k g m is line = cc
  unsettled_new u l (Asking i s step) k g m is line = cc
  unsettled_new u l (Settling i n own v settle.Peek) k g m is line = let same = same_pair (i, n) (k, g) is in (ap (λ (x : ℕ × ℕ). x.0) same, ap (λ (x : ℕ × ℕ). x.1) same, line own)
  unsettled_new u l (Settling i n own v (settle.Close seen)) k g m is line = let same = same_pair (i, n) (k, g) is in (ap (λ (x : ℕ × ℕ). x.0) same, ap (λ (x : ℕ × ℕ). x.1) same, line own)
  unsettled_new u l (Settling i n own v (settle.Clear top)) k g m is line = cc
  unsettled_new u l (Settling i n own v (settle.Count j y top)) k g m is line = cc
  unsettled_new u l (Settling i n own v (settle.Follow joiners y)) k g m is line = cc
  unsettled_new u l (Settling i n own v (settle.PeekMember joiners y next)) k g m is line = cc
  unsettled_new u l (Settling i n own v (settle.Deliver joiners y next)) k g m is line = cc
  unsettled_new u l (Settling i n own v (settle.PeekOwn joiners)) k g m is line = cc
  unsettled_new u l (Settling i n own v (settle.DeliverOwn joiners y)) k g m is line = cc
  unsettled_new u l (Forgetting i target step) k g m is line = cc
  unsettled_new u l (Naming i) k g m is line = cc
  unsettled_new u l (Questioning i c step) k g m is line = cc

  pub asking_serves : (w : World V) (a i : ℕ) (s : Option ℕ) (step : AskStep) → w.stages a ≡ Asking i s step → (k g : ℕ) (m : CallId) → Serves w a (w.stages a) k g m → ⊥
  asking_serves w a i s step at k g m is = subst (λ (p : Stage V). Serves w a p k g m) at is

  pub joiner_serves : (w : World V) (a i : ℕ) (s : Option ℕ) (step : AskStep) → w.stages a ≡ Asking i s step → GoodSecond w a s → (k g : ℕ) (m : CallId) → Serves w (joiner a s) (w.stages (joiner a s)) k g m → ⊥
  joiner_serves w a i None step at second k g m is = asking_serves w a i None step at k g m is
  joiner_serves w a i (Some b) step at second k g m is = subst (λ (p : Stage V). Serves w b p k g m) second is

  lead_awaited : (w : World V) (a k : ℕ) (s : Option ℕ) (step : AskStep) → w.stages a ≡ Asking k s step → GoodSecond w a s → Awaited w → Awaited (led w a k s)
  lead_awaited w a k None step at second all =
      quiet_awaited w (led w a k None) a (Asking k None step) (Leading k (w.generations a) None) at all refl (λ z other. (put_else w.stages a (Leading k (w.generations a) None) z other, refl)) (put_here w.stages a (Leading k (w.generations a) None)) refl (λ i g m is. is)
  lead_awaited w a k (Some b) step at second all = awaited_after (λ z. (z ≡ a) ⊎ (z ≡ b)) w u all (record {
    nexts = refl;
    split = split;
    waiting = λ i c m one waits. now i c m one waits;
    serving = λ z i g m one waits is. elim one [
      | inl here ↦ absurd (asking_serves w a k (Some b) step at i g m (subst (λ (n : ℕ). Serves w n (w.stages n) i g m) here is))
      | inr there ↦ absurd (joiner_serves w a k (Some b) step at second i g m (subst (λ (n : ℕ). Serves w n (w.stages n) i g m) there is))
    ];
  })
    where
      apart : b ≢ a
      apart = second_apart w a b k (Some b) step at second

      c₀ : CallId
      c₀ = next_id w a

      m₀ : CallId
      m₀ = next_id w b

      holding : Stage V
      holding = Holding k (w.generations b) c₀

      leading : Stage V
      leading = Leading k (w.generations a) (Some m₀)

      u : World V
      u = led w a k (Some b)

      stage_here : u.stages a ≡ leading
      stage_here = put_here (put w.stages b holding) a leading

      stage_there : u.stages b ≡ holding
      stage_there = put_else (put w.stages b holding) a leading b apart ∙ put_here w.stages b holding

      split : (z : ℕ) → ((z ≡ a) ⊎ (z ≡ b)) ⊎ ((u.stages z ≡ w.stages z) × (u.calls z ≡ w.calls z))
      split z = elim (cases_eq z a) [
        | inl here ↦ inl (inl here)
        | inr other ↦ elim (cases_eq z b) [
          | inl there ↦ inl (inr there)
          | inr far ↦ inr (put_else (put w.stages b holding) a leading z other ∙ put_else w.stages b holding z far, refl)
        ]
      ]

      now : (i : ℕ) (c m : CallId) → (m.caller ≡ a) ⊎ (m.caller ≡ b) → Waits u i c m → Waits w i c m ⊎ Serves u c.caller (u.stages c.caller) i c.generation m
      now i c m (inl here) waits =
          let clash : ◌≡◌ {A = Option (ℕ × ℕ × CallId)} None (Some (i, m.generation, c)) = sym (ap (λ (n : ℕ). ticket (u.stages n)) here ∙ ap ticket stage_here) ∙ waits.0 in cc
      now i c m (inr there) waits =
          let same : (k, w.generations b, c₀) ≡ (i, m.generation, c) = same_ticket (k, w.generations b, c₀) (i, m.generation, c) (sym (ap (λ (n : ℕ). ticket (u.stages n)) there ∙ ap ticket stage_there) ∙ waits.0) in
          let places : k ≡ i = ap (λ (x : ℕ × ℕ × CallId). x.0) same in
          let generations : w.generations b ≡ m.generation = ap (λ (x : ℕ × ℕ × CallId). x.1) same in
          let calls : c₀ ≡ c = ap (λ (x : ℕ × ℕ × CallId). x.2) same in
          let member : m₀ ≡ m = ap (λ (n : ℕ). call_of b n) generations ∙ ap (λ (n : ℕ). call_of n m.generation) (sym there) in
          inr (subst (λ (d : CallId). Serves u d.caller (u.stages d.caller) i d.generation m) calls
          (subst (λ (q : Stage V). Serves u a q i (w.generations a) m) (sym stage_here) (places, refl, inl (ap (λ (x : CallId). Some x) member))))

  lead_either : (w : World V) (a k : ℕ) (s : Option ℕ) (step : AskStep) → w.stages a ≡ Asking k s step → GoodSecond w a s → Awaited w → (b : Bool) → Awaited (after_lead w a k s b)
  lead_either w a k s step at second all false = on w a (Asking k s step) (Asking k s (ask.Look true)) at all refl (λ i g m is. is)
  lead_either w a k s step at second all true = lead_awaited w a k s step at second all

  enter_awaited : (first : ℕ) (h : List (Event ℕ V)) (w : World V) (a k : ℕ) (s : Option ℕ) (c₀ : CallId) (seen : LeaderState) → w.stages a ≡ Asking k s (ask.Enter c₀ seen) → Sound first h w → Awaited w → w.calls c₀.caller ≡ word.Open seen → Awaited (entered w a k c₀ seen (joiner a s))
  enter_awaited first h w a k s c₀ seen at sound all open_word = awaited_after (λ z. (z ≡ a) ⊎ (z ≡ j) ⊎ (z ≡ l)) w u all (record {
    nexts = refl;
    split = split;
    waiting = now;
    serving = λ z i g m one waits is. elim one [
      | inl here ↦ absurd (asking_serves w a k s (ask.Enter c₀ seen) at i g m (subst (λ (n : ℕ). Serves w n (w.stages n) i g m) here is))
      | inr more ↦ elim more [
        | inl there ↦ absurd (joiner_serves w a k s (ask.Enter c₀ seen) at good.0 i g m (subst (λ (n : ℕ). Serves w n (w.stages n) i g m) there is))
        | inr leads ↦ subst (λ (n : ℕ). Serves w n (w.stages n) i g m → Serves u n (u.stages n) i g m) (sym leads)
            (λ x. subst (λ (q : Stage V). Serves u l q i g m) (sym stage_there) (unsettled_serves w u l (w.stages l) (k, c₀.generation) i g m leader.stage longer x)) is
      ]
    ];
  })
    where
      j : ℕ
      j = joiner a s

      l : ℕ
      l = c₀.caller

      m₀ : CallId
      m₀ = next_id w j

      holding : Stage V
      holding = Holding k (w.generations j) c₀

      u : World V
      u = entered w a k c₀ seen j

      good : GoodSecond w a s × GoodAsk h w a k s (ask.Enter c₀ seen)
      good = subst (λ (q : Stage V). Good h w a q) at (sound.callers a).good

      is_open : opened h k ≡ Some c₀
      is_open = live_open first h w k c₀ seen sound good.1.0.0 open_word good.1.0.1

      leader : Held w k c₀
      leader = sound.held k c₀ is_open

      apart : l ≢ a
      apart = not_held first h w a k c₀ sound (ap unsettled at) is_open

      away : l ≢ j
      away = not_held first h w j k c₀ sound (idle_joiner w a k s (ask.Enter c₀ seen) at good.0).no_call is_open

      stage_there : u.stages l ≡ w.stages l
      stage_there = put_else (put w.stages a Free) j holding l away ∙ put_else w.stages a Free l apart

      top_there : top_in (u.calls l) ≡ Some j
      top_there = ap top_in (put_here w.calls l (word.Open (with_top seen j)))

      split : (z : ℕ) → ((z ≡ a) ⊎ (z ≡ j) ⊎ (z ≡ l)) ⊎ ((u.stages z ≡ w.stages z) × (u.calls z ≡ w.calls z))
      split z = elim (cases_eq z a) [
        | inl here ↦ inl (inl here)
        | inr other ↦ elim (cases_eq z j) [
          | inl there ↦ inl (inr (inl there))
          | inr far ↦ elim (cases_eq z l) [
            | inl leads ↦ inl (inr (inr leads))
            | inr off ↦ inr (put_else (put w.stages a Free) j holding z far ∙ put_else w.stages a Free z other, put_else w.calls l (word.Open (with_top seen j)) z off)
          ]
        ]
      ]

      leads : Leads h w l k c₀.generation (unsettled_good h w l (w.stages l) k c₀.generation leader.stage (sound.callers l).good).0
      leads = (unsettled_good h w l (w.stages l) k c₀.generation leader.stage (sound.callers l).good).1

      pushed : (x : List CallId) → Chain w.nexts seen.top x → Chain w.nexts (Some j) (m₀ ∷ x)
      pushed x chain = (refl, subst (λ (t : Option ℕ). Chain w.nexts t x) (sym good.1.2) chain)

      longer : {m : CallId} (own : Option CallId) → InLine w.nexts own (top_in (w.calls l)) m → InLine w.nexts own (top_in (u.calls l)) m
      longer own (inl is) = inl is
      longer {m} own (inr list) = inr (m₀ ∷ list.0, subst (λ (t : Option ℕ). Chain w.nexts t (m₀ ∷ list.0)) (sym top_there) (pushed list.0 (subst (λ (t : Option ℕ). Chain w.nexts t list.0) (ap top_in open_word) list.1)), inr list.2)

      now : (i : ℕ) (c m : CallId) → (m.caller ≡ a) ⊎ (m.caller ≡ j) ⊎ (m.caller ≡ l) → Waits u i c m → Waits w i c m ⊎ Serves u c.caller (u.stages c.caller) i c.generation m
      now i c m one waits = elim (cases_eq m.caller j) [
        | inl there ↦
            let same : (k, w.generations j, c₀) ≡ (i, m.generation, c) = same_ticket (k, w.generations j, c₀) (i, m.generation, c) (sym (ap (λ (n : ℕ). ticket (u.stages n)) there ∙ ap ticket (put_here (put w.stages a Free) j holding)) ∙ waits.0) in
            let places : k ≡ i = ap (λ (x : ℕ × ℕ × CallId). x.0) same in
            let generations : w.generations j ≡ m.generation = ap (λ (x : ℕ × ℕ × CallId). x.1) same in
            let calls : c₀ ≡ c = ap (λ (x : ℕ × ℕ × CallId). x.2) same in
            let chain : Chain w.nexts seen.top (members h c₀) = subst (λ (t : Option ℕ). Chain w.nexts t (members h c₀)) (ap top_in open_word) leads.chain in
            let line : (own : Option CallId) → InLine w.nexts own (top_in (u.calls l)) m = λ own. inr (m₀ ∷ members h c₀, subst (λ (t : Option ℕ). Chain w.nexts t (m₀ ∷ members h c₀)) (sym top_there) (pushed (members h c₀) chain), inl there) in
            inr (subst (λ (d : CallId). Serves u d.caller (u.stages d.caller) i d.generation m) calls
            (subst (λ (q : Stage V). Serves u l q i c₀.generation m) (sym stage_there) (unsettled_new u l (w.stages l) i c₀.generation m (leader.stage ∙ ap (λ (n : ℕ). Some (n, c₀.generation)) places) line)))
        | inr far ↦ elim one [
          | inl here ↦
              let clash : ◌≡◌ {A = Option (ℕ × ℕ × CallId)} None (Some (i, m.generation, c)) =
              sym (ap ticket (put_else (put w.stages a Free) j holding m.caller far ∙ (ap (put w.stages a Free) here ∙ put_here w.stages a Free))) ∙ waits.0 in cc
          | inr more ↦ elim more [
            | inl there ↦ absurd (far there)
            | inr leads ↦
                let clash : ◌≡◌ {A = Option (ℕ × ℕ × CallId)} None (Some (i, m.generation, c)) =
                sym (ap (λ (n : ℕ). ticket (u.stages n)) leads ∙ (ap ticket stage_there ∙ leader_ticketless (w.stages l) (k, c₀.generation) leader.stage)) ∙ waits.0 in cc
          ]
        ]
      ]

  enter_either : (first : ℕ) (h : List (Event ℕ V)) (w : World V) (a k : ℕ) (s : Option ℕ) (c : CallId) (seen : LeaderState) → w.stages a ≡ Asking k s (ask.Enter c seen) → Sound first h w → Awaited w → (b : Bool) → is_open_with seen (w.calls c.caller) ≡ b → Awaited (after_enter w a k s c seen b)
  enter_either first h w a k s c seen at sound all false is = on w a (Asking k s (ask.Enter c seen)) (Asking k s (ask.Look true)) at all refl (λ i g m x. x)
  enter_either first h w a k s c seen at sound all true is = enter_awaited first h w a k s c seen at sound all (open_with_is seen (w.calls c.caller) is)

  -- a joiner's next word bears on no list, since who is on one waits
  line_linked : (w : World V) (k : ℕ) (c : CallId) (j : ℕ) (t : Option ℕ) (top : Option ℕ) (x : List CallId) → ticket (w.stages j) ≡ None → Each (Waits w k c) x → Chain w.nexts top x → (own : Option CallId) (m : CallId) → InLine w.nexts own top m → InLine (put w.nexts j t) own top m
  line_linked w k c j t top x none waits chain own m (inl is) = inl is
  line_linked w k c j t top x none waits chain own m (inr list) = inr (
    x,
    chain_kept w.nexts (put w.nexts j t) x top (each_map (Waits w k c) (λ n. put w.nexts j t n.caller ≡ w.nexts n.caller) (λ n waiting. put_else w.nexts j t n.caller (ticket_apart w k c n j waiting none)) x waits) chain,
    same_callers w.nexts list.0 x top m.caller list.1 chain list.2,
  )

  serves_linked : (h : List (Event ℕ V)) (w u : World V) (l : ℕ) (p : Stage V) (j : ℕ) (t : Option ℕ) (k g : ℕ) (m : CallId) → u.nexts ≡ put w.nexts j t → u.calls ≡ w.calls → ticket (w.stages j) ≡ None → Good h w l p → Serves w l p k g m → Serves u l p k g m
  serves_linked h w u l Free j t k g m nexts calls none good is = is
  serves_linked h w u l (Leading i n own) j t k g m nexts calls none good is = (
    is.0,
    is.1,
    subst (λ (f : ℕ → Option ℕ). InLine f own (top_in (u.calls l)) m) (sym nexts) (subst (λ (f : ℕ → CallState). InLine (put w.nexts j t) own (top_in (f l)) m) (sym calls)
        (line_linked w i (call_of l n) j t (top_in (w.calls l)) (members h (call_of l n)) none (line_members (Waits w i (call_of l n)) own (members h (call_of l n)) good.waits) good.chain own m is.2)),
  )
  serves_linked h w u l (Holding i n c) j t k g m nexts calls none good is = is
  serves_linked h w u l (Polling i n c) j t k g m nexts calls none good is = is
  serves_linked h w u l (Seconding first) j t k g m nexts calls none good is = is
  serves_linked h w u l (Asking i s step) j t k g m nexts calls none good is = is
  serves_linked h w u l (Settling i n own v settle.Peek) j t k g m nexts calls none good is = (
    is.0,
    is.1,
    subst (λ (f : ℕ → Option ℕ). InLine f own (top_in (u.calls l)) m) (sym nexts) (subst (λ (f : ℕ → CallState). InLine (put w.nexts j t) own (top_in (f l)) m) (sym calls)
        (line_linked w i (call_of l n) j t (top_in (w.calls l)) (members h (call_of l n)) none (line_members (Waits w i (call_of l n)) own (members h (call_of l n)) good.waits) good.chain own m is.2)),
  )
  serves_linked h w u l (Settling i n own v (settle.Close seen)) j t k g m nexts calls none good is = (
    is.0,
    is.1,
    subst (λ (f : ℕ → Option ℕ). InLine f own (top_in (u.calls l)) m) (sym nexts) (subst (λ (f : ℕ → CallState). InLine (put w.nexts j t) own (top_in (f l)) m) (sym calls)
        (line_linked w i (call_of l n) j t (top_in (w.calls l)) (members h (call_of l n)) none (line_members (Waits w i (call_of l n)) own (members h (call_of l n)) good.0.waits) good.0.chain own m is.2)),
  )
  serves_linked h w u l (Settling i n own v (settle.Clear top)) j t k g m nexts calls none good is = (
    is.0,
    is.1,
    subst (λ (f : ℕ → Option ℕ). InLine f own top m) (sym nexts) (line_linked w i (call_of l n) j t top good.0 none (line_members (Waits w i (call_of l n)) own good.0 good.2.waits) good.2.chain own m is.2),
  )
  serves_linked h w u l (Settling i n own v (settle.Count p y top)) j t k g m nexts calls none good is = (
    is.0,
    is.1,
    subst (λ (f : ℕ → Option ℕ). InLine f own (Some top) m) (sym nexts)
        (line_linked w i (call_of l n) j t (Some top) (good.0 ++ good.1) none (line_members (Waits w i (call_of l n)) own (good.0 ++ good.1) good.3.waits) good.3.chain own m is.2),
  )
  serves_linked h w u l (Settling i n own v (settle.Follow joiners y)) j t k g m nexts calls none good is = (
    is.0,
    is.1,
    subst (λ (f : ℕ → Option ℕ). InLine f own (Some y) m) (sym nexts) (line_linked w i (call_of l n) j t (Some y) good.0 none (line_members (Waits w i (call_of l n)) own good.0 good.1.waits) good.1.chain own m is.2),
  )
  serves_linked h w u l (Settling i n own v (settle.PeekMember joiners y next)) j t k g m nexts calls none good is = (
    is.0,
    is.1,
    subst (λ (f : ℕ → Option ℕ). InLine f own (Some y) m) (sym nexts) (line_linked w i (call_of l n) j t (Some y) good.0 none (line_members (Waits w i (call_of l n)) own good.0 good.1.waits) good.1.chain own m is.2),
  )
  serves_linked h w u l (Settling i n own v (settle.Deliver joiners y next)) j t k g m nexts calls none good is = (
    is.0,
    is.1,
    subst (λ (f : ℕ → Option ℕ). InLine f own (Some y.caller) m) (sym nexts) (line_linked w i (call_of l n) j t (Some y.caller) (y ∷ good.0) none (line_members (Waits w i (call_of l n)) own (y ∷ good.0) good.1.waits) good.1.chain own m is.2),
  )
  serves_linked h w u l (Settling i n own v (settle.PeekOwn joiners)) j t k g m nexts calls none good is = is
  serves_linked h w u l (Settling i n own v (settle.DeliverOwn joiners y)) j t k g m nexts calls none good is = is
  serves_linked h w u l (Forgetting i target step) j t k g m nexts calls none good is = is
  serves_linked h w u l (Naming i) j t k g m nexts calls none good is = is
  serves_linked h w u l (Questioning i c step) j t k g m nexts calls none good is = is

  link_awaited : (first : ℕ) (h : List (Event ℕ V)) (w : World V) (a k : ℕ) (s : Option ℕ) (c₀ : CallId) (seen : LeaderState) → w.stages a ≡ Asking k s (ask.Link c₀ seen) → Sound first h w → Awaited w → Awaited (ask_stepped w a k s (ask.Link c₀ seen))
  link_awaited first h w a k s c₀ seen at sound all i c m waits =
      let good : GoodSecond w a s × GoodAsk h w a k s (ask.Link c₀ seen) = subst (λ (q : Stage V). Good h w a q) at (sound.callers a).good in
      let q : Stage V = Asking k s (ask.Enter c₀ seen) in
      let u : World V = ask_stepped w a k s (ask.Link c₀ seen) in
      let idle = idle_joiner w a k s (ask.Link c₀ seen) at good.0 in
      elim (cases_eq m.caller a) [
        | inl here ↦ let clash : ◌≡◌ {A = Option (ℕ × ℕ × CallId)} None (Some (i, m.generation, c)) = sym (ap (λ (n : ℕ). ticket (u.stages n)) here ∙ ap ticket (put_here w.stages a q)) ∙ waits.0 in cc
        | inr other ↦
            let before : Waits w i c m = (ap ticket (sym (put_else w.stages a q m.caller other)) ∙ waits.0, waits.1) in
            let serves : Serves w c.caller (w.stages c.caller) i c.generation m = all i c m before in
            elim (cases_eq c.caller a) [
              | inl leads ↦ absurd (asking_serves w a k s (ask.Link c₀ seen) at i c.generation m (subst (λ (n : ℕ). Serves w n (w.stages n) i c.generation m) leads serves))
              | inr apart ↦ subst (λ (p : Stage V). Serves u c.caller p i c.generation m) (sym (put_else w.stages a q c.caller apart))
                  (serves_linked h w u c.caller (w.stages c.caller) (joiner a s) seen.top i c.generation m refl refl idle.no_ticket (sound.callers c.caller).good serves)
            ]
      ]

  pub ask_awaited : (first : ℕ) (h : List (Event ℕ V)) (w : World V) (a k : ℕ) (s : Option ℕ) (step : AskStep) → w.stages a ≡ Asking k s step → Sound first h w → Awaited w → Awaited (ask_stepped w a k s step)
  ask_awaited first h w a k s (ask.Look failed) at sound all = on w a (Asking k s (ask.Look failed)) (Asking k s (looked s (w.keys k))) at all refl (λ i g m x. x)
  ask_awaited first h w a k s (ask.Peek c) at sound all = on w a (Asking k s (ask.Peek c)) (Asking k s (peeked s c (is_forgot_in c.generation (w.calls c.caller)) (open_in c.generation (w.calls c.caller)))) at all refl (λ i g m x. x)
  ask_awaited first h w a k None (ask.ReadyOwn seen f) at sound all = all
  ask_awaited first h w a k (Some b) (ask.ReadyOwn seen f) at sound all =
      word_awaited w a k b (Some b) (ask.ReadyOwn seen f) (ask.ReadyLead seen f) (word.Listed (w.generations b)) at (subst (λ (q : Stage V). Good h w a q) at (sound.callers a).good).0 (inl refl) all
  ask_awaited first h w a k s (ask.ReadyLead seen f) at sound all =
      word_awaited w a k a s (ask.ReadyLead seen f) (ask.Lead seen f) (ready_word w a s) at (subst (λ (q : Stage V). Good h w a q) at (sound.callers a).good).0 (inr refl) all
  ask_awaited first h w a k s (ask.Lead seen f) at sound all = lead_either w a k s (ask.Lead seen f) at (subst (λ (q : Stage V). Good h w a q) at (sound.callers a).good).0 all (same_key (w.keys k) seen)
  ask_awaited first h w a k s (ask.ReadyJoin c seen) at sound all =
      word_awaited w a k (joiner a s) s (ask.ReadyJoin c seen) (ask.Link c seen) (word.Listed (w.generations (joiner a s))) at (subst (λ (q : Stage V). Good h w a q) at (sound.callers a).good).0 (inl refl) all
  ask_awaited first h w a k s (ask.Link c seen) at sound all = link_awaited first h w a k s c seen at sound all
  ask_awaited first h w a k s (ask.Enter c seen) at sound all = enter_either first h w a k s c seen at sound all (is_open_with seen (w.calls c.caller)) refl

-- an asking that enters the open call keeps the invariant
use Rattle.std.proofs.Common.{◌≡◌, ◌≢◌, ℕ, ◌+◌, Bool, true, false, List, [], ◌∷◌, ◌++◌, inl, inr, Option, Some, None, refl, sym, ◌∙◌, ap, subst}
use Rattle.std.proofs.Math.Bool.{or-false}
use Rattle.std.proofs.lemmas.Bool.{cases_eq}
use Rattle.std.specs.Prelude.{nat_eq, cond}
use Rattle.sf_history.specs.declared.call.CallId.{CallId}
use Rattle.sf_history.specs.declared.event.Event.{Event}
use Rattle.sf_history.specs.declared.event.Event.TheVariants.{Enter}
use Rattle.sf_history.specs.History.{settles, is_settled}
use Rattle.sf_history.specs.Legal.{MayFollow}
use Rattle.sf_lists.proofs.Lists.{list_any_push}
use Rattle.sf_history.proofs.LegalHistories.{same_call_self}
use Rattle.sf_words.specs.declared.call_word.LeaderState.{LeaderState}
use Rattle.sf_words.specs.declared.call_word.CallState.{CallState}
use Rattle.sf_words.specs.declared.call_word.CallState.TheVariants as word
use Rattle.sf_steps_laws.specs.declared.operation.Stage.{Stage}
use Rattle.sf_steps_laws.specs.declared.operation.Stage.TheVariants.{Free, Holding, Asking}
use Rattle.sf_steps_laws.specs.declared.operation.AskStep.TheVariants as ask
use Rattle.sf_steps_laws.specs.World.{World, with_stage, next_id, is_open_with}
use Rattle.sf_lists.specs.Functions.{put}
use Rattle.sf_steps_laws.specs.Askings.{joiner, with_top, entered, after_enter}
use Rattle.sf_steps_laws.specs.Events.{enter_events}
use Rattle.sf_steps_laws.specs.Schedules.{was_led_on}
use Rattle.sf_steps_laws.proofs.Histories.{opened, opened_push, now_push}
use Rattle.sf_steps_laws.proofs.Growing.{apart_call, Grows, grows_push}
use Rattle.sf_history.proofs.Members.{Each, each_map, IsApart, Apart, members, members_push, members_kept}
use Rattle.sf_steps_laws.proofs.Members.{Chain, line, line_push, apart_push}
use Rattle.sf_steps_laws.proofs.Past.{past_enter, next_is_new}
use Rattle.sf_lists.proofs.Functions.{put_here, put_else}
use Rattle.sf_steps_laws.proofs.Compared.{open_with_is}
use Rattle.sf_steps_laws.proofs.Sound.{call_of, IsLeadersWord, IsForgotWord, top_in, unsettled, ticket, Waits, Leads, IsTicket, GoodSecond, GoodAsk, Good, Held, Caller, Sound, live_open}
use Rattle.sf_steps_laws.proofs.Kept.{Same, sound_after}
use Rattle.sf_steps_laws.proofs.Quiet.{Three, split_three, leader_spared, Idle, idle_self, idle_joiner, idle_spared, not_held, not_owing, key_kept, debt_same, still}
use Rattle.sf_steps_laws.proofs.Leaders.{unsettled_good, ticket_apart, leader_ticketless, waits_same, led_still}
use Rattle.sf_steps_laws.proofs.AskSteps.{ask_on}

module _ {V : Type 0} where
  enter_sound : (first : ℕ) (h : List (Event ℕ V)) (w : World V) (a k : ℕ) (s : Option ℕ) (c : CallId) (seen : LeaderState) → w.stages a ≡ Asking k s (ask.Enter c seen) → Sound first h w → w.calls c.caller ≡ word.Open seen
      → Sound first (h ++ Enter (joiner a s) k c (next_id w (joiner a s)) ∷ []) (entered w a k c seen (joiner a s))
  enter_sound first h w a k s c seen at sound is =
      sound_after first a (Three a j l) h w h' w' sound (record {
        bound = refl;
        past = past_enter first h w.generations j k c sound.past is_open;
        grows = grows;
        mine = inl refl;
        split = split_three w w' a j l untouched;
        spared = λ b z free one. elim one [
          | inl here ↦ idle_spared w w' a a self b z (λ x. free (inl x)) here
          | inr more ↦ elim more [
            | inl there ↦ idle_spared w w' a j idle b z (λ x. free (inl x)) there
            | inr leads ↦ leader_spared w w' l (k, c.generation) leader.stage b z leads
          ]
        ];
        members = λ d free. members_kept h e d (apart_call d c (λ (x : l ≡ d.caller). free (inr (inr (sym x)))));
        kept_open = λ i d free found. opened_push h e i ∙ found;
        callers = λ z one. elim (cases_eq z j) [
          | inl here ↦ subst (λ (n : ℕ). Caller h' w' n) (sym here) joined
          | inr far ↦ elim one [
            | inl here ↦ subst (λ (n : ℕ). Caller h' w' n) (sym here) (asked (λ x. far (here ∙ x)))
            | inr more ↦ elim more [
              | inl there ↦ absurd (far there)
              | inr leads ↦ subst (λ (n : ℕ). Caller h' w' n) (sym leads) led_by
            ]
          ]
        ];
        keys = λ i. key_kept h h' w w' i (w.keys i) (sound.keys i) (λ d led. grows.led i d led) (now_push h e i) (λ b g is_key word_is debt.
            let another : b ≢ l = λ here. absurd (subst (λ (v : CallState). IsForgotWord g v) (ap w.calls here ∙ is) word_is) in
            debt_same w w' b i g (untouched b (not_owing w a b (i, g) self.no_debt debt) (not_owing w j b (i, g) idle.no_debt debt) another) word_is debt);
        held = λ i d one found.
            let was : opened h i ≡ Some d = sym (opened_push h e i) ∙ found in
            elim one [
              | inl here ↦ absurd (not_held first h w a i d sound self.no_call was here)
              | inr more ↦ elim more [
                | inl there ↦ absurd (not_held first h w j i d sound idle.no_call was there)
                | inr leads ↦
                    let x = sound.held i d was in
                    let words : word.Open seen ≡ word.Open x.state = sym (ap w.calls leads ∙ is) ∙ x.open_word in
                    let states : seen ≡ x.state = cc in
                    record {
                      state = with_top seen j;
                      open_word = ap w'.calls leads ∙ word_there;
                      generation = ap (λ (y : LeaderState). y.generation) states ∙ x.generation;
                      stage = ap (λ (n : ℕ). unsettled (w'.stages n)) leads ∙ (ap unsettled stage_there ∙ (ap (λ (n : ℕ). unsettled (w.stages n)) (sym leads) ∙ x.stage));
                    }
              ]
            ];
      })
    where
      j : ℕ
      j = joiner a s

      l : ℕ
      l = c.caller

      m : CallId
      m = next_id w j

      e : Event ℕ V
      e = Enter j k c m

      h' : List (Event ℕ V)
      h' = h ++ e ∷ []

      u : CallState
      u = word.Open (with_top seen j)

      holding : Stage V
      holding = Holding k (w.generations j) c

      w' : World V
      w' = entered w a k c seen j

      good : GoodSecond w a s × GoodAsk h w a k s (ask.Enter c seen)
      good = subst (λ (q : Stage V). Good h w a q) at (sound.callers a).good

      self : Idle w a a
      self = idle_self w a k s (ask.Enter c seen) at

      idle : Idle w a j
      idle = idle_joiner w a k s (ask.Enter c seen) at good.0

      is_open : opened h k ≡ Some c
      is_open = live_open first h w k c seen sound good.1.0.0 is good.1.0.1

      leader : Held w k c
      leader = sound.held k c is_open

      apart : l ≢ a
      apart = not_held first h w a k c sound self.no_call is_open

      away : l ≢ j
      away = not_held first h w j k c sound idle.no_call is_open

      leads_with : (own : Option CallId) × Leads h w l k c.generation own × ((i : List (Event ℕ V)) (y : World V) → Leads i y l k c.generation own → Good i y l (w.stages l))
      leads_with = unsettled_good h w l (w.stages l) k c.generation leader.stage (sound.callers l).good

      follows : MayFollow nat_eq h e
      follows = (refl, next_is_new first h w.generations j sound.past, is_open)

      grows : Grows a h h'
      grows = grows_push a h e follows leads_with.1.not_settled

      untouched : (z : ℕ) → z ≢ a → z ≢ j → z ≢ l → Same w w' z
      untouched z other far off = record {
        stage = put_else (put w.stages a Free) j holding z far ∙ put_else w.stages a Free z other;
        word = put_else w.calls l u z off;
        next = refl;
        cell = refl;
        generation = put_else w.generations j (w.generations j + 1) z far;
      }

      stage_there : w'.stages l ≡ w.stages l
      stage_there = put_else (put w.stages a Free) j holding l away ∙ put_else w.stages a Free l apart

      word_there : w'.calls l ≡ u
      word_there = put_here w.calls l u

      word_joined : w'.calls j ≡ word.Listed (w.generations j)
      word_joined = put_else w.calls l u j (λ (x : j ≡ l). away (sym x)) ∙ good.1.1

      stage_joined : w'.stages j ≡ holding
      stage_joined = put_here (put w.stages a Free) j holding

      cell_joined : w'.cells j ≡ None
      cell_joined = (sound.callers j).empty idle.no_ticket

      -- the joiner holds a ticket
      joined : Caller h' w' j
      joined = record {
        good = subst (λ (p : Stage V). Good h' w' j p) (sym stage_joined) (grows.led k c good.1.0.0, subst (λ (v : CallState). IsTicket h' k (w.generations j) c v (w'.cells j)) (sym word_joined) (refl, cell_joined));
        live = λ i st led open_word. let clash : word.Listed (w.generations j) ≡ word.Open st = sym word_joined ∙ open_word in cc;
        forgot = λ i st forgot_word found. let clash : word.Listed (w.generations j) ≡ word.Forgot st = sym word_joined ∙ forgot_word in cc;
        empty = λ none. cell_joined;
      }

      -- its first is free
      asked : a ≢ j → Caller h' w' a
      asked far =
          let stage : w'.stages a ≡ Free = put_else (put w.stages a Free) j holding a far ∙ put_here w.stages a Free in
          let same : w'.calls a ≡ w.calls a = put_else w.calls l u a (λ (x : a ≡ l). apart (sym x)) in
          record {
            good = subst (λ (p : Stage V). Good h' w' a p) (sym stage) tt;
            live = λ i st led open_word. absurd (not_held first h w a i (call_of a st.generation) sound self.no_call ((sound.callers a).live i st (led_still h e i (call_of a st.generation) refl led) (sym same ∙ open_word)) refl);
            forgot = λ i st forgot_word found. (sound.callers a).forgot i st (sym same ∙ forgot_word) (sym (now_push h e i) ∙ found);
            empty = λ none. (sound.callers a).empty self.no_ticket;
          }

      same_members : members h' c ≡ m ∷ members h c
      same_members = members_push h e c ∙ ap (λ (b : Bool). cond b (m ∷ members h c) (members h c)) (same_call_self c)

      -- the leader's list has one more at its top
      led_by : Caller h' w' l
      led_by =
          let own = leads_with.0 in
          let leads = leads_with.1 in
          let waiting : Each (Waits w' k c) (line own (members h c)) = each_map (Waits w k c) (Waits w' k c)
          (λ n waits. waits_same w w' k c n (untouched n.caller (ticket_apart w k c n a waits self.no_ticket) (ticket_apart w k c n j waits idle.no_ticket) (ticket_apart w k c n l waits (leader_ticketless (w.stages l) (k, c.generation) leader.stage))) waits)
          (line own (members h c)) leads.waits in
          let apart_from : Each (IsApart m) (line own (members h c)) = each_map (Waits w k c) (IsApart m) (λ n waits. ticket_apart w k c n j waits idle.no_ticket) (line own (members h c)) leads.waits in
          let chain_seen : Chain w.nexts seen.top (members h c) = subst (λ (v : CallState). Chain w.nexts (top_in v) (members h c)) is leads.chain in
          let chain : Chain w.nexts (Some j) (m ∷ members h c) = (refl, subst (λ (t : Option ℕ). Chain w.nexts t (members h c)) (sym good.1.2) chain_seen) in
          record {
            good = subst (λ (p : Stage V). Good h' w' l p) (sym stage_there) (leads_with.2 h' w' (record {
              led = grows.led k c leads.led;
              mine = grows.mine l c leads.mine;
              not_settled = list_any_push (settles c) h e ∙ (or-false (is_settled h c) ∙ leads.not_settled);
              has_word = subst (λ (v : CallState). IsLeadersWord c.generation v) (sym word_there) good.1.0.1;
              chain = subst (λ (v : CallState). Chain w.nexts (top_in v) (members h' c)) (sym word_there) (subst (λ (x : List CallId). Chain w.nexts (Some j) x) (sym same_members) chain);
              waits = subst (λ (x : List CallId). Each (Waits w' k c) (line own x)) (sym same_members) (line_push (Waits w' k c) own m (members h c) (ap ticket stage_joined, word_joined) waiting);
              apart = subst (λ (x : List CallId). Apart (line own x)) (sym same_members) (apart_push own m (members h c) apart_from leads.apart);
            }));
            live = λ i st led open_word.
                let words : word.Open (with_top seen j) ≡ word.Open st = sym word_there ∙ open_word in
                let generations : seen.generation ≡ st.generation = cc in
                let was : opened h i ≡ Some (call_of l seen.generation) = (sound.callers l).live i seen (led_still h e i (call_of l seen.generation) refl (subst (λ (n : ℕ). was_led_on h' i (call_of l n) ≡ true) (sym generations) led)) is in
                opened_push h e i ∙ (was ∙ ap (λ (n : ℕ). Some (call_of l n)) generations);
            forgot = λ i st forgot_word found. let clash : word.Open (with_top seen j) ≡ word.Forgot st = sym word_there ∙ forgot_word in cc;
            empty = λ none. (sound.callers l).empty (ap ticket (sym stage_there) ∙ none);
          }

  pub enter_either : (first : ℕ) (h : List (Event ℕ V)) (w : World V) (a k : ℕ) (s : Option ℕ) (c : CallId) (seen : LeaderState) → w.stages a ≡ Asking k s (ask.Enter c seen) → Sound first h w → (b : Bool) → is_open_with seen (w.calls c.caller) ≡ b
      → Sound first (h ++ enter_events w k c (joiner a s) b) (after_enter w a k s c seen b)
  enter_either first h w a k s c seen at sound false is = still first h (with_stage w a (Asking k s (ask.Look true))) (ask_on first h w a k s (ask.Enter c seen) (ask.Look true) at sound tt)
  enter_either first h w a k s c seen at sound true is = enter_sound first h w a k s c seen at sound (open_with_is seen (w.calls c.caller) is)

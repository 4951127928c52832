-- the steps of a forget keep the invariant
use Rattle.std.proofs.Common.{◌≡◌, ◌≢◌, ℕ, Bool, true, false, ◌==◌, ◌&&◌, ◌||◌, List, [], ◌∷◌, ◌++◌, inl, inr, Option, Some, None, refl, sym, ◌∙◌, ap, subst, eq-eqb}
use Rattle.std.proofs.Math.Bool.{or-false, and-false}
use Rattle.std.proofs.lemmas.Bool.{ne_eqb, cases_eq, true≢false}
use Rattle.std.specs.Prelude.{cond}
use Rattle.sf_history.specs.declared.call.CallId.{CallId}
use Rattle.sf_history.specs.declared.event.Event.{Event}
use Rattle.sf_history.specs.declared.event.Event.TheVariants.{Forget, ForgetCall}
use Rattle.sf_history.specs.declared.event.Hit.TheVariants.{Closed, Cleared, Missed}
use Rattle.sf_history.specs.History.{settles, is_settled}
use Rattle.sf_lists.proofs.Lists.{list_any_push}
use Rattle.sf_words.specs.declared.key_word.KeyState.{KeyState}
use Rattle.sf_words.specs.declared.key_word.KeyState.TheVariants.{Never, Names}
use Rattle.sf_words.specs.declared.call_word.LeaderState.{LeaderState}
use Rattle.sf_words.specs.declared.call_word.CallState.{CallState}
use Rattle.sf_words.specs.declared.call_word.CallState.TheVariants as word
use Rattle.sf_steps_laws.specs.declared.operation.Stage.{Stage}
use Rattle.sf_steps_laws.specs.declared.operation.Stage.TheVariants.{Free, Forgetting}
use Rattle.sf_steps_laws.specs.declared.operation.ForgetStep.{ForgetStep}
use Rattle.sf_steps_laws.specs.declared.operation.ForgetStep.TheVariants as forget
use Rattle.sf_steps_laws.specs.World.{World, with_stage, with_call, with_key, key_of, cleared_key_of, same_key, is_open_with, open_in, is_forgot_in}
use Rattle.sf_steps_laws.specs.Turns.{misses, key_looked, call_looked, forget_looked, peek_missed, forgot, forget_cleared, cleared, forget_stepped}
use Rattle.sf_steps_laws.specs.Events.{closes, clears, key_look_events, missed_unless, look_events, forget_one, forget_events}
use Rattle.sf_steps_laws.specs.Schedules.{was_led_on}
use Rattle.sf_steps_laws.proofs.Histories.{opened, now, opened_push, now_push, opened_now, now_led}
use Rattle.sf_steps_laws.proofs.Growing.{Grows, grows_none, grows_push}
use Rattle.sf_history.proofs.Members.{Each, each_map, Apart, members, members_kept}
use Rattle.sf_steps_laws.proofs.Members.{Chain, line}
use Rattle.sf_steps_laws.proofs.Past.{Past, past_note}
use Rattle.sf_lists.proofs.Functions.{put_here, put_else, put_cases}
use Rattle.sf_steps_laws.proofs.Compared.{same_key_is, same_key_self, same_pair, open_with_is, open_in_is, forgot_in_is}
use Rattle.sf_steps_laws.proofs.Sound.{call_of, IsLeadersWord, IsForgotWord, top_in, unsettled, uncleared, unsettled_uncleared, ticket, Waits, Leads, Good, GoodForget, GoodFlag, GoodKey, Held, Caller, Sound, live_open}
use Rattle.sf_steps_laws.proofs.Kept.{Same, sound_after}
use Rattle.sf_steps_laws.proofs.Quiet.{same_stage, same_word, same_keyed, same_then, Two, split_one, split_two, own_spared, leader_spared, not_held, not_owing, key_kept, debt_same, still, quiet}
use Rattle.sf_steps_laws.proofs.Leaders.{not_now_not_open, not_open_in, forgotten_not_now, named_current, current_key, unsettled_good, ticket_apart, leader_ticketless, waits_same, led_still}

-- only a forget of one call misses, and only where its word says forgotten
misses_forgot : (target : Option CallId) (b : Bool) → misses target b ≡ true → b ≡ true
misses_forgot None b is = cc
misses_forgot (Some c) b is = is

module _ {V : Type 0} where
  -- the history after a Forget of the place
  pub record Forgets (first a k : ℕ) (h h' : List (Event ℕ V)) (generations : ℕ → ℕ) : Type 0 where
    pub past : Past first h' generations
    pub grows : Grows a h h'
    pub opens : opened h' k ≡ None
    pub opens_else : (i : ℕ) → i ≢ k → opened h' i ≡ opened h i
    pub currents : now h' k ≡ None
    pub currents_else : (i : ℕ) → i ≢ k → now h' i ≡ now h i
    pub members : (c : CallId) → members h' c ≡ members h c
    pub led_before : (i : ℕ) (d : CallId) → was_led_on h' i d ≡ true → was_led_on h i d ≡ true

  forgets : (first : ℕ) (h : List (Event ℕ V)) (w : World V) (a k : ℕ) (closed : Option CallId) → Sound first h w → closed ≡ opened h k → Forgets first a k h (h ++ Forget a k closed ∷ []) w.generations
  forgets first h w a k closed sound follows = record {
    past = past_note first h w.generations e sound.past follows tt;
    grows = grows_push a h e follows tt;
    members = λ c. members_kept h e c refl;
    opens = opened_push h e k ∙ ap (λ (b : Bool). cond b None (opened h k)) (eq-eqb k k refl);
    opens_else = λ i other. opened_push h e i ∙ ap (λ (b : Bool). cond b None (opened h i)) (ne_eqb k i (λ (x : k ≡ i). other (sym x)));
    currents = now_push h e k ∙ ap (λ (b : Bool). cond b None (now h k)) (eq-eqb k k refl);
    currents_else = λ i other. now_push h e i ∙ ap (λ (b : Bool). cond b None (now h i)) (ne_eqb k i (λ (x : k ≡ i). other (sym x)));
    led_before = λ i d is. led_still h e i d refl is;
  }
    where
      e : Event ℕ V
      e = Forget a k closed

  -- one of a call that closed it
  forgets_closed : (first : ℕ) (h : List (Event ℕ V)) (w : World V) (a k : ℕ) (c : CallId) → Sound first h w → opened h k ≡ Some c → Forgets first a k h (h ++ ForgetCall a k c Closed ∷ []) w.generations
  forgets_closed first h w a k c sound follows = record {
    past = past_note first h w.generations e sound.past follows tt;
    grows = grows_push a h e follows tt;
    members = λ d. members_kept h e d refl;
    opens = opened_push h e k ∙ ap (λ (b : Bool). cond (b && true) None (opened h k)) (eq-eqb k k refl);
    opens_else = λ i other. opened_push h e i ∙ ap (λ (b : Bool). cond (b && true) None (opened h i)) (ne_eqb k i (λ (x : k ≡ i). other (sym x)));
    currents = now_push h e k ∙ ap (λ (b : Bool). cond (b && true) None (now h k)) (eq-eqb k k refl);
    currents_else = λ i other. now_push h e i ∙ ap (λ (b : Bool). cond (b && true) None (now h i)) (ne_eqb k i (λ (x : k ≡ i). other (sym x)));
    led_before = λ i d is. led_still h e i d refl is;
  }
    where
      e : Event ℕ V
      e = ForgetCall a k c Closed

  -- one of a call that cleared it: no call of the place is open then
  forgets_cleared : (first : ℕ) (h : List (Event ℕ V)) (w : World V) (a k : ℕ) (c : CallId) → Sound first h w → opened h k ≡ None → now h k ≡ Some c → Forgets first a k h (h ++ ForgetCall a k c Cleared ∷ []) w.generations
  forgets_cleared first h w a k c sound none current = record {
    past = past_note first h w.generations e sound.past follows tt;
    grows = grows_push a h e follows tt;
    members = λ d. members_kept h e d refl;
    opens = opened_push h e k ∙ (ap (λ (b : Bool). cond b None (opened h k)) (and-false (k == k)) ∙ none);
    opens_else = λ i other. opened_push h e i ∙ ap (λ (b : Bool). cond b None (opened h i)) (and-false (k == i));
    currents = now_push h e k ∙ ap (λ (b : Bool). cond (b && true) None (now h k)) (eq-eqb k k refl);
    currents_else = λ i other. now_push h e i ∙ ap (λ (b : Bool). cond (b && true) None (now h i)) (ne_eqb k i (λ (x : k ≡ i). other (sym x)));
    led_before = λ i d is. led_still h e i d refl is;
  }
    where
      e : Event ℕ V
      e = ForgetCall a k c Cleared

      follows : (now h k ≡ Some c) × (opened h k ≢ Some c)
      follows = (current, λ is. let clash : None ≡ Some c = sym none ∙ is in cc)

  -- what a Forget adds that found the call open
  closes_call : (first : ℕ) (h : List (Event ℕ V)) (w : World V) (a k : ℕ) (target : Option CallId) (c : CallId) → Sound first h w → opened h k ≡ Some c → Forgets first a k h (h ++ closes a k target c ∷ []) w.generations
  closes_call first h w a k None c sound is = forgets first h w a k (Some c) sound (sym is)
  closes_call first h w a k (Some d) c sound is = forgets_closed first h w a k c sound is

  -- it settles no call
  closes_unsettled : (w : World V) (a k : ℕ) (target : Option CallId) (c d : CallId) → settles {K = ℕ} {V = V} d (closes a k target c) ≡ false
  closes_unsettled w a k None c d = refl
  closes_unsettled w a k (Some x) c d = refl

  -- no event, where the place has no current call
  forgets_nothing : (first : ℕ) (h : List (Event ℕ V)) (w : World V) (a k : ℕ) → Sound first h w → now h k ≡ None → Forgets first a k h h w.generations
  forgets_nothing first h w a k sound none = record {
    past = sound.past;
    grows = grows_none a h;
    opens = not_now_not_open h k sound.past.legal none;
    opens_else = λ i other. refl;
    currents = none;
    currents_else = λ i other. refl;
    members = λ c. refl;
    led_before = λ i d is. is;
  }

  -- of an idle Forget all open calls stay
  opens_all : (first a k : ℕ) (h h' : List (Event ℕ V)) (g : ℕ → ℕ) → Forgets first a k h h' g → opened h k ≡ None → (i : ℕ) → opened h' i ≡ opened h i
  opens_all first a k h h' g f none i = elim (cases_eq i k) [
    | inl here ↦ ap (λ (n : ℕ). opened h' n) here ∙ (f.opens ∙ (sym none ∙ ap (λ (n : ℕ). opened h n) (sym here)))
    | inr other ↦ f.opens_else i other
  ]

  -- a current call of the place is named, so a key without one stays without
  past_stays : (first a k : ℕ) (h h' : List (Event ℕ V)) (g : ℕ → ℕ) → Forgets first a k h h' g → (i : ℕ) (c : CallId) → now h' i ≡ Some c → now h i ≡ Some c
  past_stays first a k h h' g f i c is = elim (cases_eq i k) [
    | inl here ↦ let none : now h' i ≡ None = ap (λ (n : ℕ). now h' n) here ∙ f.currents in cc
    | inr other ↦ sym (f.currents_else i other) ∙ is
  ]

  -- the caller's own promises, where its word and cell stay
  forgetter : (first : ℕ) (h h' : List (Event ℕ V)) (w w' : World V) (a k : ℕ) (target : Option CallId) (s : Stage V) (step : ForgetStep) → w.stages a ≡ Forgetting k target step → Sound first h w → Forgets first a k h h' w.generations
      → w'.stages a ≡ s → w'.calls a ≡ w.calls a → w'.cells a ≡ w.cells a → Good h' w' a s → (z : ℕ) → z ≡ a → Caller h' w' z
  forgetter first h h' w w' a k target s step at sound f stage same cell good z here = subst (λ (n : ℕ). Caller h' w' n) (sym here) (record {
    good = subst (λ (q : Stage V). Good h' w' a q) (sym stage) good;
    live = λ i state led open_word. absurd (not_held first h w a i (call_of a state.generation) sound (ap unsettled at) ((sound.callers a).live i state (f.led_before i (call_of a state.generation) led) (sym same ∙ open_word)) refl);
    forgot = λ i state word_is found. (sound.callers a).forgot i state (sym same ∙ word_is) (past_stays first a k h h' w.generations f i (call_of a state.generation) found);
    empty = λ none. cell ∙ (sound.callers a).empty (ap ticket at);
  })

  -- a forget ends with an event that leaves open and current calls
  leaves_sound : (first : ℕ) (h h' : List (Event ℕ V)) (w : World V) (a k : ℕ) (target : Option CallId) (step : ForgetStep) → w.stages a ≡ Forgetting k target step → Sound first h w → Past first h' w.generations → Grows a h h'
      → ((c : CallId) → members h' c ≡ members h c) → ((i : ℕ) (d : CallId) → was_led_on h' i d ≡ true → was_led_on h i d ≡ true) → ((i : ℕ) → opened h' i ≡ opened h i) → ((i : ℕ) → now h' i ≡ now h i) → Sound first h' (with_stage w a Free)
  leaves_sound first h h' w a k target step at sound past grows same_members led_before same currents =
      let w' : World V = with_stage w a Free in
      sound_after first a (λ z. z ≡ a) h w h' w' sound (record {
        bound = refl;
        past = past;
        grows = grows;
        mine = refl;
        split = split_one w w' a (same_stage w a Free);
        spared = λ b z free. own_spared w w' a (Forgetting k target step) at refl (λ b x. cc) b z;
        members = λ c free. same_members c;
        kept_open = λ i c free is. same i ∙ is;
        callers = λ z here. subst (λ (n : ℕ). Caller h' w' n) (sym here) (record {
          good = subst (λ (q : Stage V). Good h' w' a q) (sym (put_here w.stages a Free)) tt;
          live = λ i state led open_word. absurd (not_held first h w a i (call_of a state.generation) sound (ap unsettled at) ((sound.callers a).live i state (led_before i (call_of a state.generation) led) open_word) refl);
          forgot = λ i state word_is found. (sound.callers a).forgot i state word_is (sym (currents i) ∙ found);
          empty = λ none. (sound.callers a).empty (ap ticket at);
        });
        keys = λ i. key_kept h h' w w' i (w.keys i) (sound.keys i) (λ d led. grows.led i d led) (currents i)
            (λ b n is_key word_is debt. debt_same w w' b i n (same_stage w a Free b (not_owing w a b (i, n) (ap uncleared at) debt)) word_is debt);
        held = λ i d here found. absurd (not_held first h w a i d sound (ap unsettled at) (sym (same i) ∙ found) here);
      })

  -- the look finds no call to forget
  idle_sound : (first : ℕ) (h : List (Event ℕ V)) (w : World V) (a k : ℕ) (target : Option CallId) (failed : Bool) → w.stages a ≡ Forgetting k target (forget.Look failed) → Sound first h w → now h k ≡ None
      → Sound first (h ++ Forget a k None ∷ []) (with_stage w a Free)
  idle_sound first h w a k target failed at sound none =
      let h' : List (Event ℕ V) = h ++ Forget a k None ∷ [] in
      let closed : opened h k ≡ None = not_now_not_open h k sound.past.legal none in
      let f : Forgets first a k h h' w.generations = forgets first h w a k None sound (sym closed) in
      let currents : (i : ℕ) → now h' i ≡ now h i = λ i. elim (cases_eq i k) [
        | inl here ↦ ap (λ (n : ℕ). now h' n) here ∙ (f.currents ∙ (sym none ∙ ap (λ (n : ℕ). now h n) (sym here)))
        | inr other ↦ f.currents_else i other
      ] in
      leaves_sound first h h' w a k target (forget.Look failed) at sound f.past f.grows f.members f.led_before (opens_all first a k h h' w.generations f closed) currents

  -- a forget of one call misses it, which is not the current one
  missed_sound : (first : ℕ) (h : List (Event ℕ V)) (w : World V) (a k : ℕ) (target : Option CallId) (step : ForgetStep) (c : CallId) → w.stages a ≡ Forgetting k target step → Sound first h w → now h k ≢ Some c
      → Sound first (h ++ ForgetCall a k c Missed ∷ []) (with_stage w a Free)
  missed_sound first h w a k target step c at sound isnt =
      let e : Event ℕ V = ForgetCall a k c Missed in
      leaves_sound first h (h ++ e ∷ []) w a k target step at sound (past_note first h w.generations e sound.past isnt tt) (grows_push a h e isnt tt) (λ d. members_kept h e d refl) (λ i d is. led_still h e i d refl is)
      (λ i. opened_push h e i ∙ ap (λ (b : Bool). cond b None (opened h i)) (and-false (k == i))) (λ i. now_push h e i ∙ ap (λ (b : Bool). cond b None (now h i)) (and-false (k == i)))

  -- a forget clears the key word, where no open call of the place is left
  clears_sound : (first : ℕ) (h h' : List (Event ℕ V)) (w : World V) (a k : ℕ) (target : Option CallId) (c : CallId) (step : ForgetStep) → w.stages a ≡ Forgetting k target step → Sound first h w → opened h k ≡ None → Forgets first a k h h' w.generations
      → Sound first h' (with_stage (with_key w k (cleared_key_of c)) a Free)
  clears_sound first h h' w a k target c step at sound closed f =
      let w' : World V = with_stage (with_key w k (cleared_key_of c)) a Free in
      let same = opens_all first a k h h' w.generations f closed in
      let untouched : (z : ℕ) → z ≢ a → Same w w' z = λ z other. same_then w (with_key w k (cleared_key_of c)) w' z (same_keyed w k (cleared_key_of c) z) (same_stage (with_key w k (cleared_key_of c)) a Free z other) in
      sound_after first a (λ z. z ≡ a) h w h' w' sound (record {
        bound = refl;
        past = f.past;
        grows = f.grows;
        mine = refl;
        split = split_one w w' a untouched;
        spared = λ b z free. own_spared w w' a (Forgetting k target step) at refl (λ b x. cc) b z;
        members = λ d free. f.members d;
        kept_open = λ i d free is. same i ∙ is;
        callers = forgetter first h h' w w' a k target Free step at sound f (put_here w.stages a Free) refl refl tt;
        keys = λ i. put_cases (λ (u : KeyState). GoodKey h' w' i u) w.keys k (cleared_key_of c) i
            (λ here. ap (λ (n : ℕ). now h' n) here ∙ f.currents)
            (λ other. key_kept h h' w w' i (w.keys i) (sound.keys i) (λ d led. f.grows.led i d led) (f.currents_else i other)
            (λ b n is_key word_is debt. debt_same w w' b i n (untouched b (not_owing w a b (i, n) (ap uncleared at) debt)) word_is debt));
        held = λ i d here found. absurd (not_held first h w a i d sound (ap unsettled at) (sym (same i) ∙ found) here);
      })

  -- the leader of the call that a forget closes
  closed_leader : (first : ℕ) (h h' : List (Event ℕ V)) (w w' : World V) (a k : ℕ) (c : CallId) (seen : LeaderState) → Sound first h w → (f : Forgets first a k h h' w.generations) → Held w k c → c.caller ≢ a → w.calls c.caller ≡ word.Open seen
      → is_settled h' c ≡ is_settled h c → w'.calls c.caller ≡ word.Forgot seen → w'.stages c.caller ≡ w.stages c.caller → w'.nexts ≡ w.nexts → ((z : ℕ) → z ≢ a → z ≢ c.caller → Same w w' z) → ticket (w.stages a) ≡ None
      → Good h' w' c.caller (w'.stages c.caller)
  closed_leader first h h' w w' a k c seen sound f leader apart is settled closed stage nexts untouched none =
      let l : ℕ = c.caller in
      let good = unsettled_good h w l (w.stages l) k c.generation leader.stage (sound.callers l).good in
      let leads : Leads h w l k c.generation good.0 = good.1 in
      let shape : IsLeadersWord c.generation (word.Open seen) = subst (λ (u : CallState). IsLeadersWord c.generation u) is leads.has_word in
      let same : members h' c ≡ members h c = f.members c in
      let chain : Chain w.nexts seen.top (members h c) = subst (λ (u : CallState). Chain w.nexts (top_in u) (members h c)) is leads.chain in
      let chain_now : Chain w'.nexts seen.top (members h c) = subst (λ (g : ℕ → Option ℕ). Chain g seen.top (members h c)) (sym nexts) chain in
      let waits : Each (Waits w' k c) (line good.0 (members h c)) = each_map (Waits w k c) (Waits w' k c)
      (λ m waiting. waits_same w w' k c m (untouched m.caller (ticket_apart w k c m a waiting none) (ticket_apart w k c m l waiting (leader_ticketless (w.stages l) (k, c.generation) leader.stage))) waiting)
      (line good.0 (members h c)) leads.waits in
      subst (λ (q : Stage V). Good h' w' l q) (sym stage) (good.2 h' w' (record {
        led = f.grows.led k c leads.led;
        mine = f.grows.mine l c leads.mine;
        not_settled = settled ∙ leads.not_settled;
        has_word = subst (λ (u : CallState). IsLeadersWord c.generation u) (sym closed) shape;
        chain = subst (λ (u : CallState). Chain w'.nexts (top_in u) (members h' c)) (sym closed) (subst (λ (x : List CallId). Chain w'.nexts seen.top x) (sym same) chain_now);
        waits = subst (λ (x : List CallId). Each (Waits w' k c) (line good.0 x)) (sym same) waits;
        apart = subst (λ (x : List CallId). Apart (line good.0 x)) (sym same) leads.apart;
      }))

  -- a forget closes the open call
  close_sound : (first : ℕ) (h : List (Event ℕ V)) (w : World V) (a k : ℕ) (target : Option CallId) (c : CallId) (seen : LeaderState) → w.stages a ≡ Forgetting k target (forget.Close c seen) → Sound first h w → w.calls c.caller ≡ word.Open seen
      → Sound first (h ++ closes a k target c ∷ []) (with_stage (with_call w c.caller (word.Forgot seen)) a (Forgetting k target (forget.LastClear c)))
  close_sound first h w a k target c seen at sound is =
      let e : Event ℕ V = closes a k target c in
      let h' : List (Event ℕ V) = h ++ e ∷ [] in
      let l : ℕ = c.caller in
      let s : Stage V = Forgetting k target (forget.LastClear c) in
      let u : CallState = word.Forgot seen in
      let w' : World V = with_stage (with_call w l u) a s in
      let no_call : unsettled (w.stages a) ≡ None = ap unsettled at in
      let no_debt : uncleared (w.stages a) ≡ None = ap uncleared at in
      let good : GoodForget h k (forget.Close c seen) = subst (λ (q : Stage V). Good h w a q) at (sound.callers a).good in
      let is_open : opened h k ≡ Some c = live_open first h w k c seen sound good.0 is good.1 in
      let leader = sound.held k c is_open in
      let apart : l ≢ a = not_held first h w a k c sound no_call is_open in
      let f : Forgets first a k h h' w.generations = closes_call first h w a k target c sound is_open in
      let key : w.keys k ≡ key_of c = current_key h w k c (w.keys k) (sound.keys k) (opened_now h k c sound.past.legal is_open) in
      let one_place : (i n : ℕ) → unsettled (w.stages l) ≡ Some (i, n) → i ≡ k = λ i n found. ap (λ (x : ℕ × ℕ). x.0) (same_pair (i, n) (k, c.generation) (sym found ∙ leader.stage)) in
      let untouched : (z : ℕ) → z ≢ a → z ≢ l → Same w w' z = λ z other far. same_then w (with_call w l u) w' z (same_word w l u z far) (same_stage (with_call w l u) a s z other) in
      let stage_there : w'.stages l ≡ w.stages l = put_else w.stages a s l apart in
      let word_there : w'.calls l ≡ u = put_here w.calls l u in
      sound_after first a (Two a l) h w h' w' sound (record {
        bound = refl;
        past = f.past;
        grows = f.grows;
        mine = inl refl;
        split = split_two w w' a l untouched;
        spared = λ b z free one. elim one [
          | inl here ↦ own_spared w w' a (Forgetting k target (forget.Close c seen)) at refl (λ b x. cc) b z here
          | inr there ↦ leader_spared w w' l (k, c.generation) leader.stage b z there
        ];
        members = λ d free. f.members d;
        kept_open = λ i d free found. elim (cases_eq i k) [
          | inl here ↦
              let both : Some d ≡ Some c = sym found ∙ (ap (λ (n : ℕ). opened h n) here ∙ is_open) in
              let same : d ≡ c = cc in
              absurd (free (inr (ap (λ (z : CallId). z.caller) same)))
          | inr elsewhere ↦ f.opens_else i elsewhere ∙ found
        ];
        callers = λ z one. elim one [
          | inl here ↦ forgetter first h h' w w' a k target s (forget.Close c seen) at sound f (put_here w.stages a s) (put_else w.calls l u a (λ (e : a ≡ l). apart (sym e))) refl
              (f.grows.led k c good.0, λ found. let none : now h' k ≡ None = f.currents in cc) z here
          | inr there ↦ subst (λ (n : ℕ). Caller h' w' n) (sym there) (record {
            good = closed_leader first h h' w w' a k c seen sound f leader apart is (list_any_push (settles c) h e ∙ (ap (λ (b : Bool). is_settled h c || b) (closes_unsettled w a k target c c) ∙ or-false (is_settled h c))) word_there stage_there refl untouched (ap ticket at);
            live = λ i state led open_word. let clash : word.Forgot seen ≡ word.Open state = sym word_there ∙ open_word in cc;
            forgot = λ i state word_is found. elim (cases_eq i k) [
              | inl at_place ↦ let none : now h' i ≡ None = ap (λ (n : ℕ). now h' n) at_place ∙ f.currents in cc
              | inr elsewhere ↦
                  let words : word.Forgot seen ≡ word.Forgot state = sym word_there ∙ word_is in
                  let states : seen ≡ state = cc in
                  let d : CallId = call_of l state.generation in
                  let was : now h i ≡ Some d = past_stays first a k h h' w.generations f i d found in
                  let open_there : opened h i ≡ Some d = live_open first h w i d seen sound (now_led h i d was) is (ap (λ (x : LeaderState). x.generation) states) in
                  absurd (elsewhere (one_place i state.generation (sound.held i d open_there).stage))
            ];
            empty = λ none. (sound.callers l).empty (ap ticket (sym stage_there) ∙ none);
          })
        ];
        keys = λ i. elim (cases_eq i k) [
          | inl here ↦ subst (λ (n : ℕ). GoodKey h' w' n (w.keys n)) (sym here) (subst (λ (v : KeyState). GoodKey h' w' k v) (sym key) (
            f.grows.led k c good.0,
            inr (
              f.currents,
              subst (λ (v : CallState). IsForgotWord c.generation v) (sym word_there) good.1,
              ap uncleared stage_there ∙ unsettled_uncleared (w.stages l) (k, c.generation) leader.stage,
            ),
          ))
          | inr other ↦ key_kept h h' w w' i (w.keys i) (sound.keys i) (λ d led. f.grows.led i d led) (f.currents_else i other) (λ b n is_key word_is debt.
              let another : b ≢ l = λ here. absurd (subst (λ (v : CallState). IsForgotWord n v) (ap w.calls here ∙ is) word_is) in
              debt_same w w' b i n (untouched b (not_owing w a b (i, n) no_debt debt) another) word_is debt)
        ];
        held = λ i d one found. elim (cases_eq i k) [
          | inl here ↦ let none : opened h' i ≡ None = ap (λ (n : ℕ). opened h' n) here ∙ f.opens in cc
          | inr elsewhere ↦
              let was : opened h i ≡ Some d = sym (f.opens_else i elsewhere) ∙ found in
              elim one [
                | inl here ↦ absurd (not_held first h w a i d sound no_call was here)
                | inr there ↦ absurd (elsewhere (one_place i d.generation (ap (λ (n : ℕ). unsettled (w.stages n)) (sym there) ∙ (sound.held i d was).stage)))
              ]
        ];
      })

  key_look_either : (first : ℕ) (h : List (Event ℕ V)) (w : World V) (a k : ℕ) (failed : Bool) → w.stages a ≡ Forgetting k None (forget.Look failed) → Sound first h w → (v : KeyState) → w.keys k ≡ v
      → Sound first (h ++ key_look_events a k v) (with_stage w a (key_looked k v))
  key_look_either first h w a k failed at sound Never is = idle_sound first h w a k None failed at sound (subst (λ (v : KeyState). GoodKey h w k v) is (sound.keys k))
  key_look_either first h w a k failed at sound (Names b g true) is = idle_sound first h w a k None failed at sound (subst (λ (v : KeyState). GoodKey h w k v) is (sound.keys k))
  key_look_either first h w a k failed at sound (Names b g false) is =
      let s : Stage V = Forgetting k None (forget.Peek (call_of b g)) in
      let key : GoodKey h w k (Names b g false) = subst (λ (v : KeyState). GoodKey h w k v) is (sound.keys k) in
      still first h (with_stage w a s) (quiet first h w a (Forgetting k None (forget.Look failed)) s at sound refl (λ b x. cc) refl (λ i n named owes. cc) key.0)

  -- a call that the key word does not name is not the current one
  call_look_either : (first : ℕ) (h : List (Event ℕ V)) (w : World V) (a k : ℕ) (c : CallId) (failed : Bool) → w.stages a ≡ Forgetting k (Some c) (forget.Look failed) → Sound first h w → (b : Bool) → same_key (w.keys k) (key_of c) ≡ b
      → Sound first (h ++ missed_unless a k c b) (with_stage w a (call_looked k c b))
  call_look_either first h w a k c failed at sound false isnt = missed_sound first h w a k (Some c) (forget.Look failed) c at sound (λ is.
      let named : w.keys k ≡ key_of c = current_key h w k c (w.keys k) (sound.keys k) is in
      true≢false (sym (ap (λ (v : KeyState). same_key v (key_of c)) named ∙ same_key_self (key_of c)) ∙ isnt))
  call_look_either first h w a k c failed at sound true is =
      let s : Stage V = Forgetting k (Some c) (forget.Peek c) in
      let key : GoodKey h w k (key_of c) = subst (λ (v : KeyState). GoodKey h w k v) (same_key_is (w.keys k) (key_of c) is) (sound.keys k) in
      still first h (with_stage w a s) (quiet first h w a (Forgetting k (Some c) (forget.Look failed)) s at sound refl (λ b x. cc) refl (λ i n named owes. cc) key.0)

  look_either : (first : ℕ) (h : List (Event ℕ V)) (w : World V) (a k : ℕ) (target : Option CallId) (failed : Bool) → w.stages a ≡ Forgetting k target (forget.Look failed) → Sound first h w
      → Sound first (h ++ look_events a k target (w.keys k)) (with_stage w a (forget_looked k target (w.keys k)))
  look_either first h w a k None failed at sound = key_look_either first h w a k failed at sound (w.keys k) refl
  look_either first h w a k (Some c) failed at sound = call_look_either first h w a k c failed at sound (same_key (w.keys k) (key_of c)) refl

  peek_either : (first : ℕ) (h : List (Event ℕ V)) (w : World V) (a k : ℕ) (target : Option CallId) (c : CallId) → w.stages a ≡ Forgetting k target (forget.Peek c) → Sound first h w → (o : Option LeaderState) → open_in c.generation (w.calls c.caller) ≡ o
      → (b : Bool) → misses target (is_forgot_in c.generation (w.calls c.caller)) ≡ b → Sound first (h ++ forget_one (ForgetCall a k c Missed) b) (with_stage w a (peek_missed k target c o b))
  peek_either first h w a k target c at sound o is true missed =
      missed_sound first h w a k target (forget.Peek c) c at sound
      (forgotten_not_now first h w c.caller k c.generation sound (forgot_in_is c.generation (w.calls c.caller) (misses_forgot target (is_forgot_in c.generation (w.calls c.caller)) missed)))
  peek_either first h w a k target c at sound None is false missed =
      let led : was_led_on h k c ≡ true = subst (λ (q : Stage V). Good h w a q) at (sound.callers a).good in
      let s : Stage V = Forgetting k target (forget.FirstClear c) in
      still first h (with_stage w a s) (quiet first h w a (Forgetting k target (forget.Peek c)) s at sound refl (λ b x. cc) refl (λ i n named owes. cc) (led, not_open_in first h w k c sound is))
  peek_either first h w a k target c at sound (Some seen) is false missed =
      let led : was_led_on h k c ≡ true = subst (λ (q : Stage V). Good h w a q) at (sound.callers a).good in
      let s : Stage V = Forgetting k target (forget.Close c seen) in
      still first h (with_stage w a s) (quiet first h w a (Forgetting k target (forget.Peek c)) s at sound refl (λ b x. cc) refl (λ i n named owes. cc) (led, (open_in_is c.generation (w.calls c.caller) seen is).1))

  close_either : (first : ℕ) (h : List (Event ℕ V)) (w : World V) (a k : ℕ) (target : Option CallId) (c : CallId) (seen : LeaderState) → w.stages a ≡ Forgetting k target (forget.Close c seen) → Sound first h w → (b : Bool) → is_open_with seen (w.calls c.caller) ≡ b
      → Sound first (h ++ forget_one (closes a k target c) b) (forgot w a k target c seen b)
  close_either first h w a k target c seen at sound true is = close_sound first h w a k target c seen at sound (open_with_is seen (w.calls c.caller) is)
  close_either first h w a k target c seen at sound false is =
      let s : Stage V = Forgetting k target (forget.Look true) in
      still first h (with_stage w a s) (quiet first h w a (Forgetting k target (forget.Close c seen)) s at sound refl (λ b x. cc) refl (λ i n named owes. cc) tt)

  -- a forget of one call that clears it saw it not forgotten, so the key word names the current call
  clears_call : (first : ℕ) (h : List (Event ℕ V)) (w : World V) (a k : ℕ) (target : Option CallId) (c : CallId) → Sound first h w → GoodFlag h w (Forgetting k target (forget.FirstClear c)) → GoodKey h w k (key_of c) → opened h k ≡ None
      → Forgets first a k h (h ++ clears a k target c ∷ []) w.generations
  clears_call first h w a k None c sound flag key none = forgets first h w a k None sound (sym none)
  clears_call first h w a k (Some d) c sound flag key none = forgets_cleared first h w a k c sound none (elim key.1 [
    | inl current ↦ current
    | inr debt ↦ absurd (flag debt.1)
  ])

  first_either : (first : ℕ) (h : List (Event ℕ V)) (w : World V) (a k : ℕ) (target : Option CallId) (c : CallId) → w.stages a ≡ Forgetting k target (forget.FirstClear c) → Sound first h w → GoodFlag h w (Forgetting k target (forget.FirstClear c))
      → (b : Bool) → same_key (w.keys k) (key_of c) ≡ b → Sound first (h ++ forget_one (clears a k target c) b) (forget_cleared w a k target c b)
  first_either first h w a k target c at sound flag false is =
      let s : Stage V = Forgetting k target (forget.Look true) in
      still first h (with_stage w a s) (quiet first h w a (Forgetting k target (forget.FirstClear c)) s at sound refl (λ b x. cc) refl (λ i n named owes. cc) tt)
  first_either first h w a k target c at sound flag true is =
      let good : GoodForget h k (forget.FirstClear c) = subst (λ (q : Stage V). Good h w a q) at (sound.callers a).good in
      let key : GoodKey h w k (key_of c) = subst (λ (v : KeyState). GoodKey h w k v) (same_key_is (w.keys k) (key_of c) is) (sound.keys k) in
      let none : opened h k ≡ None = open_none (opened h k) refl good.1 key in
      clears_sound first h (h ++ clears a k target c ∷ []) w a k target c (forget.FirstClear c) at sound none (clears_call first h w a k target c sound flag key none)
    where
      open_none : (o : Option CallId) → opened h k ≡ o → opened h k ≢ Some c → GoodKey h w k (key_of c) → opened h k ≡ None
      open_none None is isnt key = is
      open_none (Some d) is isnt key =
          let same : d ≡ c = named_current h w k c d key (opened_now h k d sound.past.legal is) in
          absurd (isnt (is ∙ ap (λ (z : CallId). Some z) same))

  last_either : (first : ℕ) (h : List (Event ℕ V)) (w : World V) (a k : ℕ) (target : Option CallId) (c : CallId) → w.stages a ≡ Forgetting k target (forget.LastClear c) → Sound first h w → (b : Bool) → same_key (w.keys k) (key_of c) ≡ b
      → Sound first h (with_stage (cleared w k c b) a Free)
  last_either first h w a k target c at sound false is = quiet first h w a (Forgetting k target (forget.LastClear c)) Free at sound refl (λ b x. cc) refl (λ i n named owes. cc) tt
  last_either first h w a k target c at sound true is =
      let good : GoodForget h k (forget.LastClear c) = subst (λ (q : Stage V). Good h w a q) at (sound.callers a).good in
      let key : GoodKey h w k (key_of c) = subst (λ (v : KeyState). GoodKey h w k v) (same_key_is (w.keys k) (key_of c) is) (sound.keys k) in
      let none : now h k ≡ None = elim key.1 [
        | inl current ↦ absurd (good.1 current)
        | inr debt ↦ debt.0
      ] in
      clears_sound first h h w a k target c (forget.LastClear c) at sound (not_now_not_open h k sound.past.legal none) (forgets_nothing first h w a k sound none)

  pub forget_sound : (first : ℕ) (h : List (Event ℕ V)) (w : World V) (a k : ℕ) (target : Option CallId) (step : ForgetStep) → w.stages a ≡ Forgetting k target step → Sound first h w → GoodFlag h w (Forgetting k target step)
      → Sound first (h ++ forget_events w a k target step) (forget_stepped w a k target step)
  forget_sound first h w a k target (forget.Look failed) at sound flag = look_either first h w a k target failed at sound
  forget_sound first h w a k target (forget.Peek c) at sound flag =
      peek_either first h w a k target c at sound (open_in c.generation (w.calls c.caller)) refl (misses target (is_forgot_in c.generation (w.calls c.caller))) refl
  forget_sound first h w a k target (forget.Close c seen) at sound flag = close_either first h w a k target c seen at sound (is_open_with seen (w.calls c.caller)) refl
  forget_sound first h w a k target (forget.FirstClear c) at sound flag = first_either first h w a k target c at sound flag (same_key (w.keys k) (key_of c)) refl
  forget_sound first h w a k target (forget.LastClear c) at sound flag =
      let tested : Bool = same_key (w.keys k) (key_of c) in
      still first h (with_stage (cleared w k c tested) a Free) (last_either first h w a k target c at sound tested refl)

-- the steps of a settle up to its letters keep the invariant
use Rattle.std.proofs.Common.{◌≡◌, ◌≢◌, ◌≤◌, ℕ, Bool, true, false, List, [], ◌∷◌, ◌++◌, length, inl, inr, Option, Some, None, refl, sym, ◌∙◌, ap, subst, append_assoc, arith}
use Rattle.std.proofs.lemmas.Bool.{true≢false}
use Rattle.std.specs.Prelude.{nat_eq, cond}
use Rattle.sf_history.specs.declared.call.CallId.{CallId}
use Rattle.sf_history.specs.declared.event.Event.{Event}
use Rattle.sf_history.specs.declared.event.Event.TheVariants.{Settle, Handed}
use Rattle.sf_history.specs.Calls.{same_call}
use Rattle.sf_history.specs.History.{holds_call, joined, leads, settles, hands, is_handed}
use Rattle.sf_history.specs.Legal.{MayFollow}
use Rattle.sf_lists.proofs.Lists.{list_any_push_kept, list_any_push_last, list_any_push_none}
use Rattle.sf_history.proofs.LegalHistories.{same_call_self}
use Rattle.sf_words.specs.declared.key_word.KeyState.{KeyState}
use Rattle.sf_words.specs.declared.key_word.KeyState.TheVariants.{Names}
use Rattle.sf_words.specs.declared.call_word.LeaderState.{LeaderState}
use Rattle.sf_words.specs.declared.call_word.CallState.{CallState}
use Rattle.sf_words.specs.declared.call_word.CallState.TheVariants as word
use Rattle.sf_steps_laws.specs.declared.operation.Stage.{Stage}
use Rattle.sf_steps_laws.specs.declared.operation.Stage.TheVariants.{Leading, Settling}
use Rattle.sf_steps_laws.specs.declared.operation.SettleStep.TheVariants as settle
use Rattle.sf_steps_laws.specs.World.{World, with_stage, with_call, with_key, same_key, is_open_with, count}
use Rattle.sf_steps_laws.specs.Turns.{after_own_peek, at_members, at_count, after_close, cleared}
use Rattle.sf_steps_laws.specs.Events.{settled, peek_events, close_events}
use Rattle.sf_steps_laws.specs.Schedules.{was_led_on}
use Rattle.sf_steps_laws.proofs.Histories.{opened, now, opened_push, now_push}
use Rattle.sf_steps_laws.proofs.Growing.{apart_call, Answered, Grows, grows_none, grows_push, grows_twice, result_settled}
use Rattle.sf_history.proofs.Members.{Each, each_map, members, members_kept, joined_members, joined_kept}
use Rattle.sf_steps_laws.proofs.Members.{Chain, line, chain_count}
use Rattle.sf_steps_laws.proofs.Past.{Past, past_note, unsettled_unhanded}
use Rattle.sf_lists.proofs.Functions.{put_here, put_cases}
use Rattle.sf_steps_laws.proofs.Compared.{same_key_is, same_key_self, same_pair, open_with_is, alike_call, left_open}
use Rattle.sf_steps_laws.proofs.Sound.{call_of, IsLeadersWord, IsForgotWord, top_in, owes, unsettled, uncleared, ticket, Waits, Leads, Owes, Unhanded, GoodSettle, Good, GoodKey, Caller, Sound}
use Rattle.sf_steps_laws.proofs.Kept.{Same, sound_after}
use Rattle.sf_steps_laws.proofs.Quiet.{same_stage, same_word, same_keyed, same_then, split_one, own_spared, not_held, key_kept, debt_same, still, quiet}
use Rattle.sf_steps_laws.proofs.Leaders.{forgotten_not_now, ticket_apart, waits_same, led_still}

module _ {V : Type 0} where
  -- a leader before its settle has no more members than there are callers
  abbrev pub FewMembers : List (Event ℕ V) → World V → ℕ → Type 0
  FewMembers h w a = (k g : ℕ) → unsettled (w.stages a) ≡ Some (k, g) → length (members h (call_of a g)) ≤ w.callers

  -- the history after a leader's settle
  pub record Ends (first a : ℕ) (c : CallId) (v : V) (joiners : ℕ) (h h' : List (Event ℕ V)) (generations : ℕ → ℕ) : Type 0 where
    pub past : Past first h' generations
    pub grows : Grows a h h'
    pub opens : (k : ℕ) → opened h' k ≡ cond (holds_call (opened h k) c) None (opened h k)
    pub currents : (k : ℕ) → now h' k ≡ now h k
    pub led_before : (k : ℕ) (d : CallId) → was_led_on h' k d ≡ true → was_led_on h k d ≡ true
    pub members : (d : CallId) → members h' d ≡ members h d
    pub answered : Answered h' c v joiners

  ends : (first : ℕ) (h : List (Event ℕ V)) (w : World V) (a k g : ℕ) (own : Option CallId) (v : V) (joiners : ℕ) → Sound first h w → Leads h w a k g own → joiners ≡ joined h (call_of a g)
      → Ends first a (call_of a g) v joiners h (h ++ Settle a (call_of a g) v joiners ∷ []) w.generations
  ends first h w a k g own v joiners sound lead mark = record {
    past = past_note first h w.generations e sound.past follows tt;
    grows = grows_push a h e follows refl;
    opens = λ i. opened_push h e i;
    currents = λ i. now_push h e i;
    led_before = λ i d is. led_still h e i d refl is;
    members = λ d. members_kept h e d refl;
    answered = (
      list_any_push_last (settles c) h e (same_call_self c),
      result_settled h a c v joiners lead.not_settled,
      joined_kept h e c refl ∙ sym mark,
    );
  }
    where
      c : CallId
      c = call_of a g

      e : Event ℕ V
      e = Settle a c v joiners

      follows : MayFollow nat_eq h e
      follows = (lead.mine, lead.not_settled, mark)

  -- with its Handed, where no letter is owed
  ends_handed : (first a : ℕ) (c : CallId) (v : V) (joiners : ℕ) (h h' : List (Event ℕ V)) (g : ℕ → ℕ) → c.caller ≡ a → Ends first a c v joiners h h' g → MayFollow nat_eq h' (Handed a c)
      → Ends first a c v joiners h (h' ++ Handed a c ∷ []) g
  ends_handed first a c v joiners h h' g by x follows = record {
    past = past_note first h' g (Handed a c) x.past follows tt;
    grows = grows_twice a h h' (h' ++ Handed a c ∷ []) x.grows more;
    opens = λ i. opened_push h' (Handed a c) i ∙ x.opens i;
    currents = λ i. now_push h' (Handed a c) i ∙ x.currents i;
    led_before = λ i d is. x.led_before i d (led_still h' (Handed a c) i d refl is);
    members = λ d. members_kept h' (Handed a c) d refl ∙ x.members d;
    answered = more.answered c v joiners x.answered;
  }
    where
      more : Grows a h' (h' ++ Handed a c ∷ [])
      more = grows_push a h' (Handed a c) follows by

  -- the events of a settle: its Settle, and its Handed exactly where no letter is owed
  settle_ends : (first : ℕ) (h : List (Event ℕ V)) (w : World V) (a k g : ℕ) (own : Option CallId) (v : V) (top : Option ℕ) → Sound first h w → Leads h w a k g own → count top w.callers w.nexts ≡ joined h (call_of a g)
      → Ends first a (call_of a g) v (count top w.callers w.nexts) h (h ++ settled a (call_of a g) own v (count top w.callers w.nexts) top) w.generations × (owes own top ≡ true → Unhanded (h ++ settled a (call_of a g) own v (count top w.callers w.nexts) top) a g)
  settle_ends first h w a k g own v top sound lead mark = at own top mark lead
    where
      c : CallId
      c = call_of a g

      with_number : ℕ → List (Event ℕ V)
      with_number joiners = h ++ Settle a c v joiners ∷ []

      unhanded : (joiners : ℕ) → is_handed (with_number joiners) c ≡ false
      unhanded joiners = list_any_push_none (hands c) h (Settle a c v joiners) (unsettled_unhanded first h w.generations c sound.past lead.not_settled) refl

      at : (own : Option CallId) (top : Option ℕ) → count top w.callers w.nexts ≡ joined h c → Leads h w a k g own
          → Ends first a c v (count top w.callers w.nexts) h (h ++ settled a c own v (count top w.callers w.nexts) top) w.generations × (owes own top ≡ true → Unhanded (h ++ settled a c own v (count top w.callers w.nexts) top) a g)
      at None None mark lead = (
        subst (λ (q : List (Event ℕ V)). Ends first a c v 0 h q w.generations) (append_assoc h (Settle a c v 0 ∷ []) (Handed a c ∷ []))
            (ends_handed first a c v 0 h (with_number 0) w.generations refl (ends first h w a k g None v 0 sound lead mark)
            (list_any_push_kept (leads a c) h (Settle a c v 0) lead.mine, list_any_push_last (settles c) h (Settle a c v 0) (same_call_self c), unhanded 0)),
        λ owed. cc,
      )
      at None (Some m) mark lead = let n : ℕ = count (Some m) w.callers w.nexts in (ends first h w a k g None v n sound lead mark, λ owed. unhanded n)
      at (Some o) None mark lead = (ends first h w a k g (Some o) v 0 sound lead mark, λ owed. unhanded 0)
      at (Some o) (Some m) mark lead = let n : ℕ = count (Some m) w.callers w.nexts in (ends first h w a k g (Some o) v n sound lead mark, λ owed. unhanded n)

  -- a leader's list has as many members as joined
  top_joined : (h : List (Event ℕ V)) (w : World V) (a k g : ℕ) (own : Option CallId) (top : Option ℕ) → Leads h w a k g own → top_in (w.calls a) ≡ top → length (members h (call_of a g)) ≤ w.callers → count top w.callers w.nexts ≡ length (members h (call_of a g))
  top_joined h w a k g own top lead is few =
      chain_count w.nexts (members h (call_of a g)) top w.callers (subst (λ (t : Option ℕ). Chain w.nexts t (members h (call_of a g))) is lead.chain) few

  -- a call that stays open is another caller's
  stays_open : (first a : ℕ) (c : CallId) (v : V) (joiners : ℕ) (h h' : List (Event ℕ V)) (g : ℕ → ℕ) → Ends first a c v joiners h h' g → (k : ℕ) (d : CallId) → opened h k ≡ Some d → same_call d c ≡ false → opened h' k ≡ Some d
  stays_open first a c v joiners h h' g e k d is other = e.opens k ∙ (ap (λ (o : Option CallId). cond (holds_call o c) None o) is ∙ ap (λ (b : Bool). cond b None (Some d)) other)

  -- those who wait for a leader's call wait on, where nobody else's words change
  pub waiting_on : (w w' : World V) (a k : ℕ) (c : CallId) (l : List CallId) → ticket (w.stages a) ≡ None → ((z : ℕ) → z ≢ a → Same w w' z) → Each (Waits w k c) l → Each (Waits w' k c) l
  waiting_on w w' a k c l none same = each_map (Waits w k c) (Waits w' k c) (λ m waits. waits_same w w' k c m (same m.caller (ticket_apart w k c m a waits none)) waits) l

  -- a leader goes on with the members from the top on
  pub members_good : (h : List (Event ℕ V)) (w : World V) (a k g : ℕ) (own : Option CallId) (v : V) (joiners : ℕ) (top : Option ℕ) (rest : List CallId) → Owes h w a k g own v joiners top rest → (owes own top ≡ true → Unhanded h a g)
      → Good h w a (at_members k g own v joiners top)
  members_good h w a k g None v joiners None rest owed unhanded = tt
  members_good h w a k g (Some o) v joiners None [] owed unhanded = (owed, unhanded refl)
  members_good h w a k g (Some o) v joiners None (m ∷ rest) owed unhanded = absurd owed.chain
  members_good h w a k g None v joiners (Some m) rest owed unhanded = (rest, owed, unhanded refl)
  members_good h w a k g (Some o) v joiners (Some m) rest owed unhanded = (rest, owed, unhanded refl)

  -- and, right after its settle, counts them from the top on
  count_good : (h : List (Event ℕ V)) (w : World V) (a k g : ℕ) (own : Option CallId) (v : V) (joiners : ℕ) (top : Option ℕ) (rest : List CallId) → Owes h w a k g own v joiners top rest → (owes own top ≡ true → Unhanded h a g)
      → length rest ≡ joiners → joiners ≤ w.callers → Good h w a (at_count k g own v top)
  count_good h w a k g None v joiners None rest owed unhanded same few = tt
  count_good h w a k g (Some o) v joiners None [] owed unhanded same few = (subst (λ (n : ℕ). Owes h w a k g (Some o) v n None []) (sym same) owed, unhanded refl)
  count_good h w a k g (Some o) v joiners None (m ∷ rest) owed unhanded same few = absurd owed.chain
  count_good h w a k g None v joiners (Some m) rest owed unhanded same few = ([], rest, joiners, owed, unhanded refl, owed.chain, omega (arith, same), few)
  count_good h w a k g (Some o) v joiners (Some m) rest owed unhanded same few = ([], rest, joiners, owed, unhanded refl, owed.chain, omega (arith, same), few)

  pub count_unsettled : (k g : ℕ) (own : Option CallId) (v : V) (top : Option ℕ) → unsettled (at_count k g own v top) ≡ None
  count_unsettled k g None v None = refl
  count_unsettled k g (Some o) v None = refl
  count_unsettled k g own v (Some m) = refl

  pub members_unsettled : (k g : ℕ) (own : Option CallId) (v : V) (joiners : ℕ) (top : Option ℕ) → unsettled (at_members k g own v joiners top) ≡ None
  members_unsettled k g None v joiners None = refl
  members_unsettled k g (Some o) v joiners None = refl
  members_unsettled k g own v joiners (Some m) = refl

  -- what a leader still owes, where nobody else's words change and no event is added
  pub owes_on : (h : List (Event ℕ V)) (w w' : World V) (a k g : ℕ) (own : Option CallId) (v : V) (joiners : ℕ) (top : Option ℕ) (rest : List CallId) → ticket (w.stages a) ≡ None → ((z : ℕ) → z ≢ a → Same w w' z) → w'.nexts ≡ w.nexts
      → Owes h w a k g own v joiners top rest → Owes h w' a k g own v joiners top rest
  owes_on h w w' a k g own v joiners top rest none same nexts is = record {
    led = is.led;
    mine = is.mine;
    answered = is.answered;
    chain = subst (λ (f : ℕ → Option ℕ). Chain f top rest) (sym nexts) is.chain;
    waits = waiting_on w w' a k (call_of a g) (line own rest) none same is.waits;
    apart = is.apart;
  }

  -- what it owes right after its settle
  owes_all : (first : ℕ) (h h' : List (Event ℕ V)) (w w' : World V) (a k g : ℕ) (own : Option CallId) (v : V) (joiners : ℕ) (top : Option ℕ) → Leads h w a k g own → Ends first a (call_of a g) v joiners h h' w.generations → top_in (w.calls a) ≡ top
      → ticket (w.stages a) ≡ None → ((z : ℕ) → z ≢ a → Same w w' z) → w'.nexts ≡ w.nexts → Owes h' w' a k g own v joiners top (members h (call_of a g))
  owes_all first h h' w w' a k g own v joiners top lead e is none same nexts = record {
    led = e.grows.led k (call_of a g) lead.led;
    mine = e.grows.mine a (call_of a g) lead.mine;
    answered = e.answered;
    chain = subst (λ (f : ℕ → Option ℕ). Chain f top (members h (call_of a g))) (sym nexts) (subst (λ (t : Option ℕ). Chain w.nexts t (members h (call_of a g))) is lead.chain);
    waits = waiting_on w w' a k (call_of a g) (line own (members h (call_of a g))) none same lead.waits;
    apart = lead.apart;
  }

  -- the leader's own peek finds its call forgotten
  forgotten_sound : (first : ℕ) (h : List (Event ℕ V)) (w : World V) (a k g : ℕ) (own : Option CallId) (v : V) (s : LeaderState) → w.stages a ≡ Settling k g own v settle.Peek → Sound first h w → FewMembers h w a → w.calls a ≡ word.Forgot s
      → Sound first (h ++ settled a (call_of a g) own v (count s.top w.callers w.nexts) s.top) (with_stage w a (Settling k g own v (settle.Clear s.top)))
  forgotten_sound first h w a k g own v s at sound most is =
      let c : CallId = call_of a g in
      let lead : Leads h w a k g own = subst (λ (q : Stage V). Good h w a q) at (sound.callers a).good in
      let shape : IsLeadersWord g (word.Forgot s) = subst (λ (u : CallState). IsLeadersWord g u) is lead.has_word in
      let p : Stage V = Settling k g own v (settle.Clear s.top) in
      let w' : World V = with_stage w a p in
      let h' : List (Event ℕ V) = h ++ settled a c own v (count s.top w.callers w.nexts) s.top in
      let top : top_in (w.calls a) ≡ s.top = ap top_in is in
      let n : ℕ = count s.top w.callers w.nexts in
      let few : length (members h c) ≤ w.callers = most k g (ap unsettled at) in
      let number : n ≡ length (members h c) = top_joined h w a k g own s.top lead top few in
      let both = settle_ends first h w a k g own v s.top sound lead (number ∙ sym (joined_members h c)) in
      let e : Ends first a c v n h h' w.generations = both.0 in
      sound_after first a (λ z. z ≡ a) h w h' w' sound (record {
        bound = refl;
        past = e.past;
        grows = e.grows;
        mine = refl;
        split = split_one w w' a (same_stage w a p);
        spared = λ b z free. own_spared w w' a (Settling k g own v settle.Peek) at refl (λ b x. cc) b z;
        members = λ d free. e.members d;
        kept_open = λ i d free found. stays_open first a c v n h h' w.generations e i d found (apart_call c d free);
        callers = λ z here. subst (λ (n : ℕ). Caller h' w' n) (sym here) (record {
          good = subst (λ (q : Stage V). Good h' w' a q) (sym (put_here w.stages a p)) (
            members h c,
            n,
            owes_all first h h' w w' a k g own v n s.top lead e top (ap ticket at) (same_stage w a p) refl,
            subst (λ (u : CallState). IsForgotWord g u) (sym is) shape,
            both.1,
            sym number,
            subst (λ (x : ℕ). x ≤ w.callers) (sym number) few,
          );
          live = λ i state led open_word. let clash : word.Forgot s ≡ word.Open state = sym is ∙ open_word in cc;
          forgot = λ i state is_forgot found. (sound.callers a).forgot i state is_forgot (sym (e.currents i) ∙ found);
          empty = λ none. (sound.callers a).empty (ap ticket at);
        });
        keys = λ i. key_kept h h' w w' i (w.keys i) (sound.keys i) (λ d led. e.grows.led i d led) (e.currents i) (λ b n is_key forgot debt. (
          forgot,
          put_cases (λ (q : Stage V). uncleared q ≡ Some (i, n)) w.stages a p b
              (λ (here : b ≡ a). ap uncleared (sym at) ∙ (ap (λ (m : ℕ). uncleared (w.stages m)) (sym here) ∙ debt))
              (λ other. debt),
        ));
        held = λ i d here found.
            let was = left_open (opened h i) c d (sym (e.opens i) ∙ found) in
            let x = sound.held i d was.0 in
            let clash : word.Forgot s ≡ word.Open x.state = sym (ap w.calls here ∙ is) ∙ x.open_word in
            cc;
      })

  -- the leader closes its call
  closed_sound : (first : ℕ) (h : List (Event ℕ V)) (w : World V) (a k g : ℕ) (own : Option CallId) (v : V) (seen : LeaderState) → w.stages a ≡ Settling k g own v (settle.Close seen) → Sound first h w → FewMembers h w a → w.calls a ≡ word.Open seen
      → Sound first (h ++ settled a (call_of a g) own v (count seen.top w.callers w.nexts) seen.top) (with_stage (with_call w a (word.Done seen)) a (at_count k g own v seen.top))
  closed_sound first h w a k g own v seen at sound most is =
      let c : CallId = call_of a g in
      let good : GoodSettle h w a k g own v (settle.Close seen) = subst (λ (q : Stage V). Good h w a q) at (sound.callers a).good in
      let lead = good.0 in
      let p : Stage V = at_count k g own v seen.top in
      let u : CallState = word.Done seen in
      let w' : World V = with_stage (with_call w a u) a p in
      let h' : List (Event ℕ V) = h ++ settled a c own v (count seen.top w.callers w.nexts) seen.top in
      let top : top_in (w.calls a) ≡ seen.top = ap top_in is in
      let n : ℕ = count seen.top w.callers w.nexts in
      let few : length (members h c) ≤ w.callers = most k g (ap unsettled at) in
      let number : n ≡ length (members h c) = top_joined h w a k g own seen.top lead top few in
      let both = settle_ends first h w a k g own v seen.top sound lead (number ∙ sym (joined_members h c)) in
      let e : Ends first a c v n h h' w.generations = both.0 in
      let untouched : (z : ℕ) → z ≢ a → Same w w' z = λ z other. same_then w (with_call w a u) w' z (same_word w a u z other) (same_stage (with_call w a u) a p z other) in
      let word_now : w'.calls a ≡ u = put_here w.calls a u in
      sound_after first a (λ z. z ≡ a) h w h' w' sound (record {
        bound = refl;
        past = e.past;
        grows = e.grows;
        mine = refl;
        split = split_one w w' a untouched;
        spared = λ b z free. own_spared w w' a (Settling k g own v (settle.Close seen)) at refl (λ b x. cc) b z;
        members = λ d free. e.members d;
        kept_open = λ i d free found. stays_open first a c v n h h' w.generations e i d found (apart_call c d free);
        callers = λ z here. subst (λ (n : ℕ). Caller h' w' n) (sym here) (record {
          good = subst (λ (q : Stage V). Good h' w' a q) (sym (put_here w.stages a p))
              (count_good h' w' a k g own v n seen.top (members h c) (owes_all first h h' w w' a k g own v n seen.top lead e top (ap ticket at) untouched refl) both.1 (sym number) (subst (λ (x : ℕ). x ≤ w.callers) (sym number) few));
          live = λ i state led open_word. let clash : word.Done seen ≡ word.Open state = sym word_now ∙ open_word in cc;
          forgot = λ i state is_forgot found. let clash : word.Done seen ≡ word.Forgot state = sym word_now ∙ is_forgot in cc;
          empty = λ none. (sound.callers a).empty (ap ticket at);
        });
        keys = λ i. key_kept h h' w w' i (w.keys i) (sound.keys i) (λ d led. e.grows.led i d led) (e.currents i) (λ b n is_key forgot debt.
            debt_same w w' b i n (untouched b (λ here. absurd (subst (λ (x : CallState). IsForgotWord n x) (ap w.calls here ∙ is) forgot))) forgot debt);
        held = λ i d here found.
            let was = left_open (opened h i) c d (sym (e.opens i) ∙ found) in
            let x = sound.held i d was.0 in
            let words : word.Open seen ≡ word.Open x.state = sym (ap w.calls here ∙ is) ∙ x.open_word in
            let states : seen ≡ x.state = cc in
            let generations : d.generation ≡ g = sym x.generation ∙ (ap (λ (l : LeaderState). l.generation) (sym states) ∙ good.1) in
            absurd (true≢false (sym (alike_call c d here generations) ∙ was.1));
      })

  -- the leader of a forgotten call clears the key word that still names it
  cleared_sound : (first : ℕ) (h : List (Event ℕ V)) (w : World V) (a k g : ℕ) (own : Option CallId) (v : V) (top : Option ℕ) → w.stages a ≡ Settling k g own v (settle.Clear top) → Sound first h w → w.keys k ≡ Names a g false
      → Sound first h (with_stage (with_key w k (Names a g true)) a (at_count k g own v top))
  cleared_sound first h w a k g own v top at sound is =
      let p : Stage V = at_count k g own v top in
      let w' : World V = with_stage (with_key w k (Names a g true)) a p in
      let good : GoodSettle h w a k g own v (settle.Clear top) = subst (λ (q : Stage V). Good h w a q) at (sound.callers a).good in
      let owed : uncleared (w.stages a) ≡ Some (k, g) = ap uncleared at in
      let key : GoodKey h w k (Names a g false) = subst (λ (u : KeyState). GoodKey h w k u) is (sound.keys k) in
      let none : now h k ≡ None = elim key.1 [
        | inl current ↦ absurd (forgotten_not_now first h w a k g sound good.3 current)
        | inr debt ↦ debt.0
      ] in
      let untouched : (z : ℕ) → z ≢ a → Same w w' z = λ z other. same_then w (with_key w k (Names a g true)) w' z (same_keyed w k (Names a g true) z) (same_stage (with_key w k (Names a g true)) a p z other) in
      sound_after first a (λ z. z ≡ a) h w h w' sound (record {
        bound = refl;
        past = sound.past;
        grows = grows_none a h;
        mine = refl;
        split = split_one w w' a untouched;
        spared = λ b z free. own_spared w w' a (Settling k g own v (settle.Clear top)) at refl (λ b x. cc) b z;
        members = λ d free. refl;
        kept_open = λ i d free found. found;
        callers = λ z here. subst (λ (n : ℕ). Caller h w' n) (sym here) (record {
          good = subst (λ (q : Stage V). Good h w' a q) (sym (put_here w.stages a p))
              (count_good h w' a k g own v good.1 top good.0 (owes_on h w w' a k g own v good.1 top good.0 (ap ticket at) untouched refl good.2) good.4 good.5 good.6);
          live = (sound.callers a).live;
          forgot = (sound.callers a).forgot;
          empty = λ ticketless. (sound.callers a).empty (ap ticket at);
        });
        keys = λ i. put_cases (λ (u : KeyState). GoodKey h w' i u) w.keys k (Names a g true) i
            (λ here. ap (λ (n : ℕ). now h n) here ∙ none)
            (λ other. key_kept h h w w' i (w.keys i) (sound.keys i) (λ d led. led) refl (λ b n is_key forgot debt.
            let apart : b ≢ a = λ here.
            let same : Some (k, g) ≡ Some (i, n) = sym owed ∙ (ap (λ (m : ℕ). uncleared (w.stages m)) (sym here) ∙ debt) in
            other (sym (ap (λ (x : ℕ × ℕ). x.0) (same_pair (k, g) (i, n) same)))
            in
            debt_same w w' b i n (untouched b apart) forgot debt));
        held = λ i d here found. absurd (not_held first h w a i d sound (ap unsettled at) found here);
      })

  pub clear_either : (first : ℕ) (h : List (Event ℕ V)) (w : World V) (a k g : ℕ) (own : Option CallId) (v : V) (top : Option ℕ) → w.stages a ≡ Settling k g own v (settle.Clear top) → Sound first h w
      → (b : Bool) → same_key (w.keys k) (Names a g false) ≡ b → Sound first h (with_stage (cleared w k (call_of a g) b) a (at_count k g own v top))
  clear_either first h w a k g own v top at sound true is = cleared_sound first h w a k g own v top at sound (same_key_is (w.keys k) (Names a g false) is)
  clear_either first h w a k g own v top at sound false isnt =
      let p : Stage V = at_count k g own v top in
      let w' : World V = with_stage w a p in
      let good : GoodSettle h w a k g own v (settle.Clear top) = subst (λ (q : Stage V). Good h w a q) at (sound.callers a).good in
      quiet first h w a (Settling k g own v (settle.Clear top)) p at sound refl (λ b x. cc) (count_unsettled k g own v top) (λ i n key owed.
      let same : (k, g) ≡ (i, n) = same_pair (k, g) (i, n) owed in
      let places : k ≡ i = ap (λ (x : ℕ × ℕ). x.0) same in
      let generations : g ≡ n = ap (λ (x : ℕ × ℕ). x.1) same in
      let named : w.keys k ≡ Names a g false = subst (λ (m : ℕ). w.keys m ≡ Names a g false) (sym places) (subst (λ (m : ℕ). w.keys i ≡ Names a m false) (sym generations) key) in
      absurd (true≢false (sym (subst (λ (u : KeyState). same_key u (Names a g false) ≡ true) (sym named) (same_key_self (Names a g false))) ∙ isnt)))
      (count_good h w' a k g own v good.1 top good.0 (owes_on h w w' a k g own v good.1 top good.0 (ap ticket at) (same_stage w a p) refl good.2) good.4 good.5 good.6)

  -- a leader before its settle goes on
  leads_on_stage : (h : List (Event ℕ V)) (w : World V) (a k g : ℕ) (own : Option CallId) (p : Stage V) → ticket (w.stages a) ≡ None → Leads h w a k g own → Leads h (with_stage w a p) a k g own
  leads_on_stage h w a k g own p none lead = record {
    led = lead.led;
    mine = lead.mine;
    not_settled = lead.not_settled;
    has_word = lead.has_word;
    chain = lead.chain;
    waits = waiting_on w (with_stage w a p) a k (call_of a g) (line own (members h (call_of a g))) none (same_stage w a p) lead.waits;
    apart = lead.apart;
  }

  -- a leader starts to settle
  pub settle_started : (first : ℕ) (h : List (Event ℕ V)) (w : World V) (a k g : ℕ) (own : Option CallId) (v : V) → w.stages a ≡ Leading k g own → Sound first h w → Sound first h (with_stage w a (Settling k g own v settle.Peek))
  settle_started first h w a k g own v at sound =
      let lead : Leads h w a k g own = subst (λ (q : Stage V). Good h w a q) at (sound.callers a).good in
      quiet first h w a (Leading k g own) (Settling k g own v settle.Peek) at sound refl (λ b x. cc) refl (λ i n key owed. owed) (leads_on_stage h w a k g own (Settling k g own v settle.Peek) (ap ticket at) lead)

  -- a leader's word before its settle is open or forgotten
  none_else : (first : ℕ) (h : List (Event ℕ V)) (w : World V) (a k g : ℕ) (own : Option CallId) (v : V) → w.stages a ≡ Settling k g own v settle.Peek → Sound first h w → (u : CallState) → w.calls a ≡ u → IsLeadersWord g u
  none_else first h w a k g own v at sound u is =
      let lead : Leads h w a k g own = subst (λ (q : Stage V). Good h w a q) at (sound.callers a).good in
      subst (λ (u : CallState). IsLeadersWord g u) is lead.has_word

  pub peek_either : (first : ℕ) (h : List (Event ℕ V)) (w : World V) (a k g : ℕ) (own : Option CallId) (v : V) → w.stages a ≡ Settling k g own v settle.Peek → Sound first h w → FewMembers h w a → (u : CallState) → w.calls a ≡ u
      → Sound first (h ++ peek_events w a (call_of a g) own v u) (with_stage w a (Settling k g own v (after_own_peek u)))
  peek_either first h w a k g own v at sound most (word.Forgot s) is = forgotten_sound first h w a k g own v s at sound most is
  peek_either first h w a k g own v at sound most (word.Open s) is =
      let lead : Leads h w a k g own = subst (λ (q : Stage V). Good h w a q) at (sound.callers a).good in
      let shape : IsLeadersWord g (word.Open s) = subst (λ (u : CallState). IsLeadersWord g u) is lead.has_word in
      let p : Stage V = Settling k g own v (settle.Close s) in
      still first h (with_stage w a p) (quiet first h w a (Settling k g own v settle.Peek) p at sound refl (λ b x. cc) refl (λ i n key owed. owed) (leads_on_stage h w a k g own p (ap ticket at) lead, shape))
  peek_either first h w a k g own v at sound most word.Free is = absurd (none_else first h w a k g own v at sound word.Free is)
  peek_either first h w a k g own v at sound most (word.Done s) is = absurd (none_else first h w a k g own v at sound (word.Done s) is)
  peek_either first h w a k g own v at sound most (word.Listed n) is = absurd (none_else first h w a k g own v at sound (word.Listed n) is)
  peek_either first h w a k g own v at sound most (word.Full n) is = absurd (none_else first h w a k g own v at sound (word.Full n) is)

  pub close_either : (first : ℕ) (h : List (Event ℕ V)) (w : World V) (a k g : ℕ) (own : Option CallId) (v : V) (seen : LeaderState) → w.stages a ≡ Settling k g own v (settle.Close seen) → Sound first h w → FewMembers h w a → (b : Bool) → is_open_with seen (w.calls a) ≡ b
      → Sound first (h ++ close_events w a (call_of a g) own v seen b) (after_close w a k g own v seen b)
  close_either first h w a k g own v seen at sound most true is = closed_sound first h w a k g own v seen at sound most (open_with_is seen (w.calls a) is)
  close_either first h w a k g own v seen at sound most false isnt =
      let good : GoodSettle h w a k g own v (settle.Close seen) = subst (λ (q : Stage V). Good h w a q) at (sound.callers a).good in
      let p : Stage V = Settling k g own v settle.Peek in
      still first h (with_stage w a p) (quiet first h w a (Settling k g own v (settle.Close seen)) p at sound refl (λ b x. cc) refl (λ i n key owed. owed) (leads_on_stage h w a k g own p (ap ticket at) good.0))

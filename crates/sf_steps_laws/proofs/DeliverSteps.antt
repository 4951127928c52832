-- the steps that deliver letters, and those that take them, keep the invariant
use Rattle.std.proofs.Common.{◌≡◌, ◌≢◌, ◌<◌, ◌≤◌, ◌+◌, ℕ, Bool, true, false, List, [], ◌∷◌, ◌++◌, length, inl, inr, Option, Some, None, refl, sym, ◌∙◌, ap, subst, append_assoc, arith}
use Rattle.std.proofs.lemmas.List.{append-nil}
use Rattle.std.proofs.lemmas.Bool.{cond-true, lt-ltb}
use Rattle.std.specs.Prelude.{nat_eq, nat_lt}
use Rattle.sf_history.specs.declared.call.CallId.{CallId}
use Rattle.sf_history.specs.declared.event.Event.{Event}
use Rattle.sf_history.specs.declared.event.Event.TheVariants.{Handed}
use Rattle.sf_history.specs.Legal.{MayFollow}
use Rattle.sf_words.specs.declared.call_word.CallState.{CallState}
use Rattle.sf_words.specs.declared.call_word.CallState.TheVariants as word
use Rattle.sf_steps_laws.specs.declared.letter.Letter.{Letter}
use Rattle.sf_steps_laws.specs.declared.operation.Stage.{Stage}
use Rattle.sf_steps_laws.specs.declared.operation.Stage.TheVariants.{Free, Leading, Holding, Polling, Seconding, Asking, Settling, Forgetting, Naming, Questioning}
use Rattle.sf_steps_laws.specs.declared.operation.SettleStep.{SettleStep}
use Rattle.sf_steps_laws.specs.declared.operation.SettleStep.TheVariants as settle
use Rattle.sf_steps_laws.specs.World.{World, with_stage, with_cell, generation_in, is_full, one_more}
use Rattle.sf_steps_laws.specs.Turns.{at_members, after_count, delivered, own_peeked, polled}
use Rattle.sf_steps_laws.specs.Events.{handed}
use Rattle.sf_steps_laws.specs.Schedules.{was_led_on}
use Rattle.sf_steps_laws.proofs.Histories.{opened, now, opened_push, now_push}
use Rattle.sf_steps_laws.proofs.Growing.{Answered, Grows, grows_none, grows_push}
use Rattle.sf_history.proofs.Members.{Each, IsApart, members, members_kept}
use Rattle.sf_steps_laws.proofs.Members.{each_both, Chain, line, line_head, line_tail, apart_head, apart_tail}
use Rattle.sf_steps_laws.proofs.Past.{Past, past_note}
use Rattle.sf_lists.proofs.Functions.{put_here, put_else}
use Rattle.sf_steps_laws.proofs.Sound.{call_of, owes, unsettled, uncleared, ticket, Waits, Owes, Unhanded, IsTicket, Holds, GoodSettle, Good, Caller, Sound}
use Rattle.sf_steps_laws.proofs.Kept.{Same, Spared, sound_after}
use Rattle.sf_steps_laws.proofs.Quiet.{same_stage, same_cell, same_then, Two, split_one, split_two, own_spared, not_held, not_owing, key_kept, debt_same, quiet}
use Rattle.sf_steps_laws.proofs.Leaders.{ticket_apart, led_still}
use Rattle.sf_steps_laws.proofs.SettleSteps.{owes_on, members_good, members_unsettled}

-- a ticket names its call
pub same_ticket : (x y : ℕ × ℕ × CallId) → Some x ≡ Some y → x ≡ y
same_ticket x y is = cc

-- a member more is counted, where there is room for it
one_more_is : (callers n : ℕ) → n < callers → one_more callers n ≡ n + 1
one_more_is callers n room = cond-true (nat_lt n callers) (n + 1) n (lt-ltb n callers room)

module _ {V : Type 0} where
  -- what the stage of one who holds a ticket promises, and that the same promise is enough elsewhere
  pub ticket_good : (h : List (Event ℕ V)) (w : World V) (x : ℕ) (p : Stage V) (k g : ℕ) (c : CallId) → ticket p ≡ Some (k, g, c) → Good h w x p
      → Holds h w x k g c × ((i : List (Event ℕ V)) (u : World V) → Holds i u x k g c → Good i u x p)
  ticket_good h w x Free k g c is good = cc
  ticket_good h w x (Leading i n own) k g c is good = cc
  ticket_good h w x (Holding i n d) k g c is good =
      let same : (i, n, d) ≡ (k, g, c) = same_ticket (i, n, d) (k, g, c) is in
      (subst (λ (y : ℕ × ℕ × CallId). Holds h w x y.0 y.1 y.2) same good, λ j u holds. subst (λ (y : ℕ × ℕ × CallId). Holds j u x y.0 y.1 y.2) (sym same) holds)
  ticket_good h w x (Polling i n d) k g c is good =
      let same : (i, n, d) ≡ (k, g, c) = same_ticket (i, n, d) (k, g, c) is in
      (subst (λ (y : ℕ × ℕ × CallId). Holds h w x y.0 y.1 y.2) same good, λ j u holds. subst (λ (y : ℕ × ℕ × CallId). Holds j u x y.0 y.1 y.2) (sym same) holds)
  ticket_good h w x (Seconding first) k g c is good = cc
  ticket_good h w x (Asking i s step) k g c is good = cc
  ticket_good h w x (Settling i n own v step) k g c is good = cc
  ticket_good h w x (Forgetting i target step) k g c is good = cc
  ticket_good h w x (Naming i) k g c is good = cc
  ticket_good h w x (Questioning i d step) k g c is good = cc

  -- who holds a ticket leads nothing, and is nobody's second
  ticket_unsettled : (p : Stage V) (x : ℕ × ℕ × CallId) → ticket p ≡ Some x → (unsettled p ≡ None) × (uncleared p ≡ None) × ((b : ℕ) → p ≢ Seconding b)
  ticket_unsettled Free x is = cc
  ticket_unsettled (Leading k g own) x is = cc
  ticket_unsettled (Holding k g c) x is = (refl, refl, λ b e. cc)
  ticket_unsettled (Polling k g c) x is = (refl, refl, λ b e. cc)
  ticket_unsettled (Seconding first) x is = cc
  ticket_unsettled (Asking k s step) x is = cc
  ticket_unsettled (Settling k g own v step) x is = cc
  ticket_unsettled (Forgetting k target step) x is = cc
  ticket_unsettled (Naming k) x is = cc
  ticket_unsettled (Questioning k c step) x is = cc

  -- events after which open and current calls, members and generations are as before
  record Quiets (first a : ℕ) (h h' : List (Event ℕ V)) (generations : ℕ → ℕ) : Type 0 where
    pub past : Past first h' generations
    pub grows : Grows a h h'
    pub opens : (k : ℕ) → opened h' k ≡ opened h k
    pub currents : (k : ℕ) → now h' k ≡ now h k
    pub led_before : (k : ℕ) (c : CallId) → was_led_on h' k c ≡ true → was_led_on h k c ≡ true
    pub members : (c : CallId) → members h' c ≡ members h c

  quiets_none : (first a : ℕ) (h : List (Event ℕ V)) (g : ℕ → ℕ) → Past first h g → Quiets first a h h g
  quiets_none first a h g past = record { past = past; grows = grows_none a h; opens = λ k. refl; currents = λ k. refl; led_before = λ k c is. is; members = λ c. refl }

  quiets_handed : (first : ℕ) (h : List (Event ℕ V)) (w : World V) (a k g : ℕ) (own : Option CallId) (v : V) (joiners : ℕ) (top : Option ℕ) (rest : List CallId) → Past first h w.generations → Owes h w a k g own v joiners top rest → Unhanded h a g
      → Quiets first a h (h ++ Handed a (call_of a g) ∷ []) w.generations
  quiets_handed first h w a k g own v joiners top rest past owed unhanded =
      let c : CallId = call_of a g in
      let e : Event ℕ V = Handed a c in
      let follows : MayFollow nat_eq h e = (owed.mine, owed.answered.0, unhanded) in
      record {
        past = past_note first h w.generations e past follows tt;
        grows = grows_push a h e follows refl;
        opens = λ i. opened_push h e i;
        currents = λ i. now_push h e i;
        led_before = λ i d is. led_still h e i d refl is;
        members = λ d. members_kept h e d refl;
      }

  -- the Handed comes with the last letter
  quiets_last : (first : ℕ) (h : List (Event ℕ V)) (w : World V) (a k g : ℕ) (own : Option CallId) (v : V) (joiners : ℕ) (top next : Option ℕ) (rest : List CallId) → Past first h w.generations → Owes h w a k g own v joiners top rest → Unhanded h a g
      → Quiets first a h (h ++ handed a (call_of a g) own next) w.generations × (owes own next ≡ true → Unhanded (h ++ handed a (call_of a g) own next) a g)
  quiets_last first h w a k g own v joiners top next rest past owed unhanded = at own next
    where
      none : (h ++ [] ≡ h) → Quiets first a h (h ++ []) w.generations × (Unhanded (h ++ []) a g)
      none is = subst (λ (q : List (Event ℕ V)). Quiets first a h q w.generations × Unhanded q a g) (sym is) (quiets_none first a h w.generations past, unhanded)

      at : (own : Option CallId) (next : Option ℕ) → Quiets first a h (h ++ handed a (call_of a g) own next) w.generations × (owes own next ≡ true → Unhanded (h ++ handed a (call_of a g) own next) a g)
      at None None = (quiets_handed first h w a k g own v joiners top rest past owed unhanded, λ x. cc)
      at None (Some m) = let x = none (append-nil h) in (x.0, λ y. x.1)
      at (Some o) None = let x = none (append-nil h) in (x.0, λ y. x.1)
      at (Some o) (Some m) = let x = none (append-nil h) in (x.0, λ y. x.1)

  -- a letter of the leader's call goes to a member that waits for it
  letter_sound : (first : ℕ) (h h' : List (Event ℕ V)) (w : World V) (a k g : ℕ) (own : Option CallId) (v : V) (step : SettleStep) (joiners : ℕ) (m : CallId) (q : Stage V)
      → w.stages a ≡ Settling k g own v step → unsettled (Settling k g own v step) ≡ None → uncleared (Settling k g own v step) ≡ None → Sound first h w → Waits w k (call_of a g) m → was_led_on h k (call_of a g) ≡ true → Answered h (call_of a g) v joiners
      → Quiets first a h h' w.generations → unsettled q ≡ None
      → Good h' (with_stage (delivered w m (record { place = k; call = call_of a g; value = v; joiners = joiners })) a q) a q
      → Sound first h' (with_stage (delivered w m (record { place = k; call = call_of a g; value = v; joiners = joiners })) a q)
  letter_sound first h h' w a k g own v step joiners m q at no_call no_debt sound waits led answered quiets after good =
      sound_after first a (Two a x) h w h' w' sound (record {
        bound = refl;
        past = quiets.past;
        grows = quiets.grows;
        mine = inl refl;
        split = split_two w w' a x untouched;
        spared = λ b z free one. elim one [
          | inl here ↦ own_spared w w' a (Settling k g own v step) at refl (λ b x. cc) b z here
          | inr there ↦ member_spared b z (λ e. free (inl e)) there
        ];
        members = λ d free. quiets.members d;
        kept_open = λ i d free is. quiets.opens i ∙ is;
        callers = λ z one. elim one [
          | inl here ↦ subst (λ (n : ℕ). Caller h' w' n) (sym here) leader
          | inr there ↦ subst (λ (n : ℕ). Caller h' w' n) (sym there) member
        ];
        keys = λ i. key_kept h h' w w' i (w.keys i) (sound.keys i) (λ d is. quiets.grows.led i d is) (quiets.currents i) (λ b n is forgot debt.
            debt_same w w' b i n (untouched b (not_owing w a b (i, n) (ap uncleared at ∙ no_debt) debt) (not_owing w x b (i, n) leads_none.1 debt)) forgot debt);
        held = λ i d one is.
            let was : opened h i ≡ Some d = sym (quiets.opens i) ∙ is in
            elim one [
              | inl here ↦ absurd (not_held first h w a i d sound (ap unsettled at ∙ no_call) was here)
              | inr there ↦ absurd (not_held first h w x i d sound leads_none.0 was there)
            ];
      })
    where
      c : CallId
      c = call_of a g

      x : ℕ
      x = m.caller

      letter : Letter V
      letter = record { place = k; call = c; value = v; joiners = joiners }

      w' : World V
      w' = with_stage (delivered w m letter) a q

      apart : x ≢ a
      apart = ticket_apart w k c m a waits (ap ticket at)

      leads_none : (unsettled (w.stages x) ≡ None) × (uncleared (w.stages x) ≡ None) × ((b : ℕ) → w.stages x ≢ Seconding b)
      leads_none = ticket_unsettled (w.stages x) (k, m.generation, c) waits.0

      untouched : (z : ℕ) → z ≢ a → z ≢ x → Same w w' z
      untouched z other far = record { stage = put_else w.stages a q z other; word = put_else w.calls x (word.Full m.generation) z far; next = refl; cell = put_else w.cells x (Some letter) z far; generation = refl }

      member_spared : (b z : ℕ) → b ≢ a → z ≡ x → Spared w w' b z
      member_spared b z other there = subst (λ (n : ℕ). Spared w w' b n) (sym there) (record {
        second = leads_none.2 b;
        member = λ i d n here by waiting.
            let same : ticket (w.stages n.caller) ≡ ticket (w.stages x) = ap (λ (y : ℕ). ticket (w.stages y)) here in
            let tickets : Some (i, n.generation, d) ≡ Some (k, m.generation, c) = sym waiting.0 ∙ (same ∙ waits.0) in
            let calls : d ≡ c = ap (λ (y : ℕ × ℕ × CallId). y.2) (same_ticket (i, n.generation, d) (k, m.generation, c) tickets) in
            absurd (other (sym by ∙ ap (λ (y : CallId). y.caller) calls));
      })

      word_there : w'.calls x ≡ word.Full m.generation
      word_there = put_here w.calls x (word.Full m.generation)

      stage_there : w'.stages x ≡ w.stages x
      stage_there = put_else w.stages a q x apart

      word_here : w'.calls a ≡ w.calls a
      word_here = put_else w.calls x (word.Full m.generation) a (λ (e : a ≡ x). apart (sym e))

      leader : Caller h' w' a
      leader = record {
        good = subst (λ (p : Stage V). Good h' w' a p) (sym (put_here w.stages a q)) good;
        live = λ i st is_led is. quiets.opens i ∙ (sound.callers a).live i st (quiets.led_before i (call_of a st.generation) is_led) (sym word_here ∙ is);
        forgot = λ i st is found. (sound.callers a).forgot i st (sym word_here ∙ is) (sym (quiets.currents i) ∙ found);
        empty = λ none. put_else w.cells x (Some letter) a (λ (e : a ≡ x). apart (sym e)) ∙ (sound.callers a).empty (ap ticket at);
      }

      member : Caller h' w' x
      member =
          let held = ticket_good h w x (w.stages x) k m.generation c waits.0 (sound.callers x).good in
          let letters : IsTicket h' k m.generation c (w'.calls x) (w'.cells x) =
          subst (λ (u : CallState). IsTicket h' k m.generation c u (w'.cells x)) (sym word_there)
          (refl, (v, joiners, put_here w.cells x (Some letter), quiets.grows.answered c v joiners answered)) in
          record {
            good = subst (λ (p : Stage V). Good h' w' x p) (sym stage_there) (held.1 h' w' (quiets.grows.led k c led, letters));
            live = λ i st is_led is. let clash : word.Full m.generation ≡ word.Open st = sym word_there ∙ is in cc;
            forgot = λ i st is found. let clash : word.Full m.generation ≡ word.Forgot st = sym word_there ∙ is in cc;
            empty = λ none. let clash : None ≡ Some (k, m.generation, c) = sym none ∙ (ap ticket stage_there ∙ waits.0) in cc;
          }

  -- what a leader owes after it delivered to the member at hand
  owes_less : (h h' : List (Event ℕ V)) (w : World V) (a k g : ℕ) (own : Option CallId) (v : V) (joiners : ℕ) (m : CallId) (rest : List CallId) (next : Option ℕ) (q : Stage V) → Owes h w a k g own v joiners (Some m.caller) (m ∷ rest)
      → next ≡ w.nexts m.caller → Grows a h h' → ticket (w.stages a) ≡ None
      → Owes h' (with_stage (delivered w m (record { place = k; call = call_of a g; value = v; joiners = joiners })) a q) a k g own v joiners next rest
  owes_less h h' w a k g own v joiners m rest next q owed is grows none = record {
    led = grows.led k c owed.led;
    mine = grows.mine a c owed.mine;
    answered = grows.answered c v joiners owed.answered;
    chain = subst (λ (t : Option ℕ). Chain w.nexts t rest) (sym is) owed.chain.1;
    waits = each_both (Waits w k c) (IsApart m) (Waits w' k c) stays (line own rest) (line_tail (Waits w k c) own m rest owed.waits) (apart_head own m rest owed.apart);
    apart = apart_tail own m rest owed.apart;
  }
    where
      c : CallId
      c = call_of a g

      letter : Letter V
      letter = record { place = k; call = c; value = v; joiners = joiners }

      w' : World V
      w' = with_stage (delivered w m letter) a q

      stays : (n : CallId) → Waits w k c n → n.caller ≢ m.caller → Waits w' k c n
      stays n waits far = (ap ticket (put_else w.stages a q n.caller (ticket_apart w k c n a waits none)) ∙ waits.0, put_else w.calls m.caller (word.Full m.generation) n.caller far ∙ waits.1)

  pub follow_sound : (first : ℕ) (h : List (Event ℕ V)) (w : World V) (a k g : ℕ) (own : Option CallId) (v : V) (joiners : ℕ) (m : ℕ) → w.stages a ≡ Settling k g own v (settle.Follow joiners m) → Sound first h w
      → Sound first h (with_stage w a (Settling k g own v (settle.PeekMember joiners m (w.nexts m))))
  follow_sound first h w a k g own v joiners m at sound =
      let p : Stage V = Settling k g own v (settle.PeekMember joiners m (w.nexts m)) in
      let good : GoodSettle h w a k g own v (settle.Follow joiners m) = subst (λ (q : Stage V). Good h w a q) at (sound.callers a).good in
      quiet first h w a (Settling k g own v (settle.Follow joiners m)) p at sound refl (λ b x. cc) refl (λ i n key owed. cc)
      (good.0, owes_on h w (with_stage w a p) a k g own v joiners (Some m) good.0 (ap ticket at) (same_stage w a p) refl good.1, good.2, refl)

  pub count_sound : (first : ℕ) (h : List (Event ℕ V)) (w : World V) (a k g : ℕ) (own : Option CallId) (v : V) (n m top : ℕ) → w.stages a ≡ Settling k g own v (settle.Count n m top) → Sound first h w
      → Sound first h (with_stage w a (Settling k g own v (after_count (one_more w.callers n) top (w.nexts m))))
  count_sound first h w a k g own v n m top at sound =
      let good : GoodSettle h w a k g own v (settle.Count n m top) = subst (λ (q : Stage V). Good h w a q) at (sound.callers a).good in
      let owed = owes_on h w w' a k g own v good.2 (Some top) (good.0 ++ good.1) (ap ticket at) (same_stage w a p) refl good.3 in
      quiet first h w a (Settling k g own v (settle.Count n m top)) p at sound refl (λ b x. cc) (none (w.nexts m)) (λ i n key owed. cc) (counted good.0 good.1 good.2 owed good.4 good.5 good.6 good.7 (w.nexts m) refl)
    where
      p : Stage V
      p = Settling k g own v (after_count (one_more w.callers n) top (w.nexts m))

      w' : World V
      w' = with_stage w a p

      none : (next : Option ℕ) → unsettled (Settling k g own v (after_count (one_more w.callers n) top next)) ≡ None
      none None = refl
      none (Some x) = refl

      counted : (seen left : List CallId) (joiners : ℕ) → Owes h w' a k g own v joiners (Some top) (seen ++ left) → Unhanded h a g → Chain w.nexts (Some m) left → n + length left ≡ joiners → joiners ≤ w.callers
          → (next : Option ℕ) → next ≡ w.nexts m → GoodSettle h w' a k g own v (after_count (one_more w.callers n) top next)
      counted seen [] joiners owed unhanded chain number few next is = absurd chain
      counted seen (x ∷ left) joiners owed unhanded chain number few next is = on next left rest owing (omega (arith, more, number))
        where
          more : one_more w.callers n ≡ n + 1
          more = one_more_is w.callers n (omega (arith, number, few))

          rest : Chain w.nexts next left
          rest = subst (λ (t : Option ℕ). Chain w.nexts t left) (sym (is ∙ ap w.nexts chain.0)) chain.1

          owing : Owes h w' a k g own v joiners (Some top) ((seen ++ x ∷ []) ++ left)
          owing = subst (λ (l : List CallId). Owes h w' a k g own v joiners (Some top) l) (sym (append_assoc seen (x ∷ []) left)) owed

          on : (next : Option ℕ) (left : List CallId) → Chain w.nexts next left → Owes h w' a k g own v joiners (Some top) ((seen ++ x ∷ []) ++ left) → one_more w.callers n + length left ≡ joiners
              → GoodSettle h w' a k g own v (after_count (one_more w.callers n) top next)
          on None [] chain owed number = (
            (seen ++ x ∷ []) ++ [],
            subst (λ (j : ℕ). Owes h w' a k g own v j (Some top) ((seen ++ x ∷ []) ++ [])) (omega (arith, number)) owed,
            unhanded,
          )
          on None (y ∷ left) chain owed number = absurd chain
          on (Some y) left chain owed number = (seen ++ x ∷ [], left, joiners, owed, unhanded, chain, number, few)

  -- the word of one who waits says its generation
  waiting_call : (w : World V) (k : ℕ) (c m : CallId) → Waits w k c m → m ≡ call_of m.caller (generation_in (w.calls m.caller))
  waiting_call w k c m waits = ap (λ (n : ℕ). call_of m.caller n) (sym (ap generation_in waits.1))

  pub peek_member_sound : (first : ℕ) (h : List (Event ℕ V)) (w : World V) (a k g : ℕ) (own : Option CallId) (v : V) (joiners : ℕ) (m : ℕ) (next : Option ℕ) → w.stages a ≡ Settling k g own v (settle.PeekMember joiners m next) → Sound first h w
      → Sound first h (with_stage w a (Settling k g own v (settle.Deliver joiners (record { caller = m; generation = generation_in (w.calls m) }) next)))
  peek_member_sound first h w a k g own v joiners m next at sound =
      let good : GoodSettle h w a k g own v (settle.PeekMember joiners m next) = subst (λ (q : Stage V). Good h w a q) at (sound.callers a).good in
      quiet first h w a (Settling k g own v (settle.PeekMember joiners m next)) p at sound refl (λ b x. cc) refl (λ i n key owed. cc)
      (peeked good.0 (owes_on h w w' a k g own v joiners (Some m) good.0 (ap ticket at) (same_stage w a p) refl good.1) good.2 good.3)
    where
      here : CallId
      here = call_of m (generation_in (w.calls m))

      p : Stage V
      p = Settling k g own v (settle.Deliver joiners here next)

      w' : World V
      w' = with_stage w a p

      peeked : (rest : List CallId) → Owes h w' a k g own v joiners (Some m) rest → Unhanded h a g → next ≡ w.nexts m → GoodSettle h w' a k g own v (settle.Deliver joiners here next)
      peeked [] owed unhanded is = absurd owed.chain
      peeked (n ∷ rest) owed unhanded is =
          let member : n ≡ call_of n.caller (generation_in (w.calls n.caller)) = waiting_call w' k (call_of a g) n (line_head (Waits w' k (call_of a g)) own n rest owed.waits) in
          let same : n ≡ here = member ∙ ap (λ (x : ℕ). call_of x (generation_in (w.calls x))) (sym owed.chain.0) in
          (rest, subst (λ (x : CallId). Owes h w' a k g own v joiners (Some m) (x ∷ rest)) same owed, unhanded, is)

  pub deliver_sound : (first : ℕ) (h : List (Event ℕ V)) (w : World V) (a k g : ℕ) (own : Option CallId) (v : V) (joiners : ℕ) (m : CallId) (next : Option ℕ) → w.stages a ≡ Settling k g own v (settle.Deliver joiners m next) → Sound first h w
      → Sound first (h ++ handed a (call_of a g) own next) (with_stage (delivered w m (record { place = k; call = call_of a g; value = v; joiners = joiners })) a (at_members k g own v joiners next))
  deliver_sound first h w a k g own v joiners m next at sound =
      let c : CallId = call_of a g in
      let p : Stage V = Settling k g own v (settle.Deliver joiners m next) in
      let q : Stage V = at_members k g own v joiners next in
      let h' : List (Event ℕ V) = h ++ handed a c own next in
      let w' : World V = with_stage (delivered w m (record { place = k; call = c; value = v; joiners = joiners })) a q in
      let good : GoodSettle h w a k g own v (settle.Deliver joiners m next) = subst (λ (q : Stage V). Good h w a q) at (sound.callers a).good in
      let rest = good.0 in
      let both = quiets_last first h w a k g own v joiners (Some m.caller) next (m ∷ rest) sound.past good.1 good.2 in
      letter_sound first h h' w a k g own v (settle.Deliver joiners m next) joiners m q at refl refl sound (line_head (Waits w k c) own m rest good.1.waits) good.1.led good.1.answered both.0 (members_unsettled k g own v joiners next)
      (members_good h' w' a k g own v joiners next rest (owes_less h h' w a k g own v joiners m rest next q good.1 good.3 both.0.grows (ap ticket at)) both.1)

  pub peek_own_sound : (first : ℕ) (h : List (Event ℕ V)) (w : World V) (a k g : ℕ) (own : Option CallId) (v : V) (joiners : ℕ) → w.stages a ≡ Settling k g own v (settle.PeekOwn joiners) → Sound first h w
      → Sound first h (with_stage w a (Settling k g own v (own_peeked w joiners own)))
  peek_own_sound first h w a k g None v joiners at sound =
      let p : Stage V = Settling k g None v (settle.PeekOwn joiners) in
      let good : GoodSettle h w a k g None v (settle.PeekOwn joiners) = subst (λ (q : Stage V). Good h w a q) at (sound.callers a).good in
      quiet first h w a p p at sound refl (λ b x. cc) refl (λ i n key owed. cc) (owes_on h w (with_stage w a p) a k g None v joiners None [] (ap ticket at) (same_stage w a p) refl good.0, good.1)
  peek_own_sound first h w a k g (Some m) v joiners at sound =
      let here : CallId = call_of m.caller (generation_in (w.calls m.caller)) in
      let p : Stage V = Settling k g (Some m) v (settle.DeliverOwn joiners here) in
      let good : GoodSettle h w a k g (Some m) v (settle.PeekOwn joiners) = subst (λ (q : Stage V). Good h w a q) at (sound.callers a).good in
      quiet first h w a (Settling k g (Some m) v (settle.PeekOwn joiners)) p at sound refl (λ b x. cc) refl (λ i n key owed. cc)
      (owes_on h w (with_stage w a p) a k g (Some m) v joiners None [] (ap ticket at) (same_stage w a p) refl good.0, good.1, ap (λ (x : CallId). Some x) (waiting_call w k (call_of a g) m good.0.waits.0))

  pub deliver_own_sound : (first : ℕ) (h : List (Event ℕ V)) (w : World V) (a k g : ℕ) (own : Option CallId) (v : V) (joiners : ℕ) (m : CallId) → w.stages a ≡ Settling k g own v (settle.DeliverOwn joiners m) → Sound first h w
      → Sound first (h ++ Handed a (call_of a g) ∷ []) (with_stage (delivered w m (record { place = k; call = call_of a g; value = v; joiners = joiners })) a Free)
  deliver_own_sound first h w a k g own v joiners m at sound =
      let c : CallId = call_of a g in
      let h' : List (Event ℕ V) = h ++ Handed a c ∷ [] in
      let good : GoodSettle h w a k g own v (settle.DeliverOwn joiners m) = subst (λ (q : Stage V). Good h w a q) at (sound.callers a).good in
      let waits : Each (Waits w k c) (m ∷ []) = subst (λ (o : Option CallId). Each (Waits w k c) (line o [])) good.2 good.0.waits in
      letter_sound first h h' w a k g own v (settle.DeliverOwn joiners m) joiners m Free at refl refl sound waits.0 good.0.led good.0.answered (quiets_handed first h w a k g own v joiners None [] sound.past good.0 good.1) refl tt

  -- one who holds a ticket and polls, or has polled, holds it on
  pub ticket_on : (first : ℕ) (h : List (Event ℕ V)) (w : World V) (a k g : ℕ) (c : CallId) (p q : Stage V) → w.stages a ≡ p → ticket p ≡ Some (k, g, c) → ticket q ≡ Some (k, g, c) → unsettled q ≡ None → Good h (with_stage w a q) a q → Sound first h w
      → Sound first h (with_stage w a q)
  ticket_on first h w a k g c p q at was is none good sound =
      let w' : World V = with_stage w a q in
      let leads_none = ticket_unsettled (w.stages a) (k, g, c) (ap ticket at ∙ was) in
      sound_after first a (λ z. z ≡ a) h w h w' sound (record {
        bound = refl;
        past = sound.past;
        grows = grows_none a h;
        mine = refl;
        split = split_one w w' a (same_stage w a q);
        spared = λ b z free here. subst (λ (n : ℕ). Spared w w' b n) (sym here) (record {
          second = leads_none.2 b;
          member = λ i d m there by waits.
              let stage : ticket (w'.stages m.caller) ≡ ticket (w.stages m.caller) =
              ap (λ (n : ℕ). ticket (w'.stages n)) there ∙ (ap ticket (put_here w.stages a q) ∙ (is ∙ (sym was ∙ (ap ticket (sym at) ∙ ap (λ (n : ℕ). ticket (w.stages n)) (sym there))))) in
              ((stage ∙ waits.0, waits.1), refl);
        });
        members = λ d free. refl;
        kept_open = λ i d free found. found;
        callers = λ z here. subst (λ (n : ℕ). Caller h w' n) (sym here) (record {
          good = subst (λ (s : Stage V). Good h w' a s) (sym (put_here w.stages a q)) good;
          live = (sound.callers a).live;
          forgot = (sound.callers a).forgot;
          empty = λ ticketless. let clash : None ≡ Some (k, g, c) = sym ticketless ∙ (ap ticket (put_here w.stages a q) ∙ is) in cc;
        });
        keys = λ i. key_kept h h w w' i (w.keys i) (sound.keys i) (λ d led. led) refl (λ b n is_key forgot debt. debt_same w w' b i n (same_stage w a q b (not_owing w a b (i, n) leads_none.1 debt)) forgot debt);
        held = λ i d here found. absurd (not_held first h w a i d sound leads_none.0 found here);
      })

  -- a letter is taken
  collect_sound : (first : ℕ) (h : List (Event ℕ V)) (w : World V) (a k g : ℕ) (c : CallId) → w.stages a ≡ Polling k g c → Sound first h w → is_full (w.calls a) ≡ true → Sound first h (with_stage (with_cell w a None) a Free)
  collect_sound first h w a k g c at sound full =
      let w' : World V = with_stage (with_cell w a None) a Free in
      let leads_none = ticket_unsettled (w.stages a) (k, g, c) (ap ticket at) in
      let untouched : (z : ℕ) → z ≢ a → Same w w' z = λ z other. same_then w (with_cell w a None) w' z (same_cell w a None z other) (same_stage (with_cell w a None) a Free z other) in
      sound_after first a (λ z. z ≡ a) h w h w' sound (record {
        bound = refl;
        past = sound.past;
        grows = grows_none a h;
        mine = refl;
        split = split_one w w' a untouched;
        spared = λ b z free here. subst (λ (n : ℕ). Spared w w' b n) (sym here) (record {
          second = leads_none.2 b;
          member = λ i d m there by waits.
              let listed : w.calls a ≡ word.Listed m.generation = ap w.calls (sym there) ∙ waits.1 in
              let clash : false ≡ true = sym (ap is_full listed) ∙ full in
              cc;
        });
        members = λ d free. refl;
        kept_open = λ i d free found. found;
        callers = λ z here. subst (λ (n : ℕ). Caller h w' n) (sym here) (record {
          good = subst (λ (s : Stage V). Good h w' a s) (sym (put_here w.stages a Free)) tt;
          live = (sound.callers a).live;
          forgot = (sound.callers a).forgot;
          empty = λ none. put_here w.cells a None;
        });
        keys = λ i. key_kept h h w w' i (w.keys i) (sound.keys i) (λ d led. led) refl (λ b n is_key forgot debt. debt_same w w' b i n (untouched b (not_owing w a b (i, n) leads_none.1 debt)) forgot debt);
        held = λ i d here found. absurd (not_held first h w a i d sound leads_none.0 found here);
      })

  pub poll_either : (first : ℕ) (h : List (Event ℕ V)) (w : World V) (a k g : ℕ) (c : CallId) → w.stages a ≡ Polling k g c → Sound first h w → (b : Bool) → is_full (w.calls a) ≡ b → Sound first h (polled w a k g c b)
  poll_either first h w a k g c at sound true is = collect_sound first h w a k g c at sound is
  poll_either first h w a k g c at sound false is =
      ticket_on first h w a k g c (Polling k g c) (Holding k g c) at refl refl refl (subst (λ (q : Stage V). Good h w a q) at (sound.callers a).good) sound

  pub poll_started : (first : ℕ) (h : List (Event ℕ V)) (w : World V) (a k g : ℕ) (c : CallId) → w.stages a ≡ Holding k g c → Sound first h w → Sound first h (with_stage w a (Polling k g c))
  poll_started first h w a k g c at sound = ticket_on first h w a k g c (Holding k g c) (Polling k g c) at refl refl refl (subst (λ (q : Stage V). Good h w a q) at (sound.callers a).good) sound

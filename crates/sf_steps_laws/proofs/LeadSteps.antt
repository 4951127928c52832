-- an asking that leads a new call keeps the invariant
use Rattle.std.proofs.Common.{◌≡◌, ◌≢◌, ℕ, ◌+◌, Bool, true, false, ◌==◌, List, [], ◌∷◌, ◌++◌, inl, inr, Option, Some, None, refl, sym, ◌∙◌, ap, subst, eq-eqb}
use Rattle.std.proofs.lemmas.Bool.{and_parts, and_from, eqb-true, ne_eqb, cases_eq, or_parts, true≢false}
use Rattle.std.specs.Prelude.{nat_eq, cond, is_some}
use Rattle.std.specs.List.{list_any}
use Rattle.sf_history.specs.declared.call.CallId.{CallId}
use Rattle.sf_history.specs.declared.event.Event.{Event}
use Rattle.sf_history.specs.declared.event.Event.TheVariants.{Lead, Enter, Forget, ForgetCall, Settle, Handed}
use Rattle.sf_history.specs.Calls.{same_call}
use Rattle.sf_history.specs.History.{names, enters, leads, settles}
use Rattle.sf_history.specs.Legal.{MayFollow}
use Rattle.sf_lists.proofs.Lists.{by_push, list_any_push_cases, list_any_push_last, list_any_push_none, list_any_push_parts}
use Rattle.sf_history.proofs.LegalHistories.{same_call_self}
use Rattle.sf_words.specs.declared.key_word.KeyState.{KeyState}
use Rattle.sf_words.specs.declared.call_word.CallState.{CallState}
use Rattle.sf_words.specs.declared.call_word.CallState.TheVariants as word
use Rattle.sf_steps_laws.specs.declared.operation.Stage.{Stage}
use Rattle.sf_steps_laws.specs.declared.operation.Stage.TheVariants.{Leading, Holding, Seconding, Asking}
use Rattle.sf_steps_laws.specs.declared.operation.AskStep.{AskStep}
use Rattle.sf_steps_laws.specs.declared.operation.AskStep.TheVariants as ask
use Rattle.sf_steps_laws.specs.World.{World, with_stage, key_of, next_id, same_key}
use Rattle.sf_lists.specs.Functions.{put}
use Rattle.sf_steps_laws.specs.Askings.{own_of, led, after_lead}
use Rattle.sf_steps_laws.specs.Events.{lead_events}
use Rattle.sf_steps_laws.specs.Schedules.{leads_on, was_led_on}
use Rattle.sf_steps_laws.proofs.Histories.{opened, now, opened_push, now_push, led_on_named}
use Rattle.sf_steps_laws.proofs.Growing.{Grows, grows_push}
use Rattle.sf_history.proofs.Members.{Each, Apart, members, members_kept}
use Rattle.sf_steps_laws.proofs.Members.{Chain, line}
use Rattle.sf_steps_laws.proofs.Past.{Past, lead_generations, past_lead, next_is_new, new_unsettled}
use Rattle.sf_lists.proofs.Functions.{put_here, put_else, put_cases}
use Rattle.sf_steps_laws.proofs.Compared.{same_key_is}
use Rattle.sf_steps_laws.proofs.Sound.{call_of, IsLeadersWord, top_in, unsettled, ticket, Waits, SawClosed, ready_word, IsListed, GoodSecond, GoodAsk, IsTicket, Good, GoodKey, Held, Caller, Sound}
use Rattle.sf_steps_laws.proofs.Kept.{Same, sound_after}
use Rattle.sf_steps_laws.proofs.Quiet.{Two, split_two, Idle, idle_self, idle_second, idle_spared, not_held, not_owing, key_kept, debt_same, still}
use Rattle.sf_steps_laws.proofs.Leaders.{unopened}
use Rattle.sf_steps_laws.proofs.AskSteps.{second_apart, ask_on}

module _ {V : Type 0} where
  -- a new call has no members
  new_unjoined : (h : List (Event ℕ V)) (c : CallId) → list_any (names c) h ≡ false → members h c ≡ []
  new_unjoined h c = by_push (λ (h : List (Event ℕ V)). list_any (names c) h ≡ false → members h c ≡ []) (λ new. refl) step h
    where
      unentered : (e : Event ℕ V) → names c e ≡ false → enters c e ≡ false
      unentered (Lead by key call own) none = refl
      unentered (Enter by key call member) none = (or_parts (same_call call c) (same_call member c) none).0
      unentered (Forget by key closed) none = refl
      unentered (ForgetCall by key call hit) none = refl
      unentered (Settle by call result joiners) none = refl
      unentered (Handed by call) none = refl

      step : (h : List (Event ℕ V)) (e : Event ℕ V) → (list_any (names c) h ≡ false → members h c ≡ []) → list_any (names c) (h ++ e ∷ []) ≡ false → members (h ++ e ∷ []) c ≡ []
      step h e before new =
          let parts = list_any_push_parts (names c) h e new in
          members_kept h e c (unentered e parts.1) ∙ before parts.0

  -- the world after a Lead
  abbrev lead_world : World V → ℕ → CallId → (ℕ → Stage V) → (ℕ → ℕ) → World V
  lead_world w k c stages generations = record w { keys = put w.keys k (key_of c); stages = stages; generations = generations }

  lead_made : (first : ℕ) (h : List (Event ℕ V)) (w : World V) (a k j : ℕ) (s : Option ℕ) (step : AskStep) (own : Option CallId) (st : ℕ → Stage V) (gn : ℕ → ℕ)
      → w.stages a ≡ Asking k s step → Sound first h w → Idle w a j → opened h k ≡ None → MayFollow nat_eq h (Lead a k (next_id w a) own) → Past first (h ++ Lead a k (next_id w a) own ∷ []) gn
      → w.calls a ≡ ready_word w a s → st a ≡ Leading k (w.generations a) own → ((z : ℕ) → z ≢ a → z ≢ j → Same w (lead_world w k (next_id w a) st gn) z)
      → Each (Waits (lead_world w k (next_id w a) st gn) k (next_id w a)) (line own []) → Apart (line own [])
      → ((z : ℕ) → z ≢ a → z ≡ j → Caller (h ++ Lead a k (next_id w a) own ∷ []) (lead_world w k (next_id w a) st gn) z)
      → Sound first (h ++ Lead a k (next_id w a) own ∷ []) (lead_world w k (next_id w a) st gn)
  lead_made first h w a k j s step own st gn at sound idle none follows past ready stage untouched own_waits own_apart second =
      sound_after first a (Two a j) h w h' w' sound (record {
        bound = refl;
        past = past;
        grows = grows;
        mine = inl refl;
        split = split_two w w' a j untouched;
        spared = λ b z free one. elim one [
          | inl here ↦ idle_spared w w' a a self b z (λ x. free (inl x)) here
          | inr there ↦ idle_spared w w' a j idle b z (λ x. free (inl x)) there
        ];
        members = λ d free. members_kept h e d refl;
        kept_open = λ i d free is. elim (cases_eq i k) [
          | inl here ↦ let none_here : opened h i ≡ None = ap (λ (n : ℕ). opened h n) here ∙ none in cc
          | inr other ↦ opened_else i other ∙ is
        ];
        callers = λ z one. elim (cases_eq z a) [
          | inl here ↦ subst (λ (n : ℕ). Caller h' w' n) (sym here) leader
          | inr other ↦ second z other (elim one [
            | inl is ↦ absurd (other is)
            | inr is ↦ is
          ])
        ];
        keys = λ i. put_cases (λ (v : KeyState). GoodKey h' w' i v) w.keys k (key_of c) i
            (λ here. (led_now i here, inl (now_here i here)))
            (λ other. key_kept h h' w w' i (w.keys i) (sound.keys i) (λ d is. grows.led i d is) (now_else i other)
            (λ b g is forgot debt. debt_same w w' b i g (untouched b (not_owing w a b (i, g) self.no_debt debt) (not_owing w j b (i, g) idle.no_debt debt)) forgot debt));
        held = λ i d one is. elim (cases_eq i k) [
          | inl here ↦
              let calls : c ≡ d = let open_now : opened h' i ≡ Some c = opened_here i here in cc in
              subst (λ (z : CallId). Held w' i z) calls (record {
                state = record { generation = w.generations a; own = is_some s; top = None };
                open_word = ready;
                generation = refl;
                stage = ap unsettled stage ∙ ap (λ (n : ℕ). Some (n, w.generations a)) (sym here);
              })
          | inr other ↦
              let was : opened h i ≡ Some d = sym (opened_else i other) ∙ is in
              elim one [
                | inl here ↦ absurd (not_held first h w a i d sound self.no_call was here)
                | inr there ↦ absurd (not_held first h w j i d sound idle.no_call was there)
              ]
        ];
      })
    where
      c : CallId
      c = next_id w a

      e : Event ℕ V
      e = Lead a k c own

      h' : List (Event ℕ V)
      h' = h ++ e ∷ []

      w' : World V
      w' = lead_world w k c st gn

      self : Idle w a a
      self = idle_self w a k s step at

      grows : Grows a h h'
      grows = grows_push a h e follows refl

      led_now : (i : ℕ) → i ≡ k → was_led_on h' i c ≡ true
      led_now i here = list_any_push_last (leads_on i c) h e (and_from (k == i) (same_call c c) (eq-eqb k i (sym here)) (same_call_self c))

      now_here : (i : ℕ) → i ≡ k → now h' i ≡ Some c
      now_here i here = now_push h e i ∙ ap (λ (b : Bool). cond b (Some c) (now h i)) (eq-eqb k i (sym here))

      now_else : (i : ℕ) → i ≢ k → now h' i ≡ now h i
      now_else i other = now_push h e i ∙ ap (λ (b : Bool). cond b (Some c) (now h i)) (ne_eqb k i (λ x. other (sym x)))

      opened_here : (i : ℕ) → i ≡ k → opened h' i ≡ Some c
      opened_here i here = opened_push h e i ∙ ap (λ (b : Bool). cond b (Some c) (opened h i)) (eq-eqb k i (sym here))

      opened_else : (i : ℕ) → i ≢ k → opened h' i ≡ opened h i
      opened_else i other = opened_push h e i ∙ ap (λ (b : Bool). cond b (Some c) (opened h i)) (ne_eqb k i (λ x. other (sym x)))

      nobody : members h' c ≡ []
      nobody = members_kept h e c refl ∙ new_unjoined h c (next_is_new first h w.generations a sound.past)

      leader : Caller h' w' a
      leader = record {
        good = subst (λ (p : Stage V). Good h' w' a p) (sym stage) (record {
          led = led_now k refl;
          mine = list_any_push_last (leads a c) h e (and_from (a == a) (same_call c c) (eq-eqb a a refl) (same_call_self c));
          not_settled = list_any_push_none (settles c) h e (new_unsettled first h w.generations a sound.past) refl;
          has_word = subst (λ (v : CallState). IsLeadersWord (w.generations a) v) (sym ready) refl;
          chain = subst (λ (v : CallState). Chain w.nexts (top_in v) (members h' c)) (sym ready) (subst (λ (l : List CallId). Chain w.nexts None l) (sym nobody) tt);
          waits = subst (λ (l : List CallId). Each (Waits w' k c) (line own l)) (sym nobody) own_waits;
          apart = subst (λ (l : List CallId). Apart (line own l)) (sym nobody) own_apart;
        });
        live = λ i state is_led is.
            let same : ready_word w a s ≡ word.Open state = sym ready ∙ is in
            let generations : w.generations a ≡ state.generation = cc in
            let d : CallId = call_of a state.generation in
            let calls : c ≡ d = ap (λ (n : ℕ). call_of a n) generations in
            elim (list_any_push_cases (leads_on i d) h e is_led) [
              | inl was ↦ absurd (true≢false (sym (led_on_named h i d was) ∙ subst (λ (z : CallId). list_any (names z) h ≡ false) calls (next_is_new first h w.generations a sound.past)))
              | inr last ↦
                  let both = and_parts (k == i) (same_call c d) last in
                  opened_here i (sym (eqb-true k i both.0)) ∙ ap (λ (z : CallId). Some z) calls
            ];
        forgot = λ i state is found. let clash : ready_word w a s ≡ word.Forgot state = sym ready ∙ is in cc;
        empty = λ ticketless. (sound.callers a).empty self.no_ticket;
      }

  -- the second of a chan whose first leads
  own_second : (first : ℕ) (h h' : List (Event ℕ V)) (w w' : World V) (a b k : ℕ) (c : CallId) → Sound first h w → w.stages b ≡ Seconding a → IsListed w b → was_led_on h' k c ≡ true
      → w'.stages b ≡ Holding k (w.generations b) c → w'.calls b ≡ w.calls b → w'.cells b ≡ w.cells b → Caller h' w' b
  own_second first h h' w w' a b k c sound serves listed led stage same cell =
      let word_now : w'.calls b ≡ word.Listed (w.generations b) = same ∙ listed in
      let cell_now : w'.cells b ≡ None = cell ∙ (sound.callers b).empty (ap ticket serves) in
      record {
        good = subst (λ (p : Stage V). Good h' w' b p) (sym stage) (led, subst (λ (u : CallState). IsTicket h' k (w.generations b) c u (w'.cells b)) (sym word_now) (refl, cell_now));
        live = λ i st is_led is. let clash : word.Listed (w.generations b) ≡ word.Open st = sym word_now ∙ is in cc;
        forgot = λ i st is found. let clash : word.Listed (w.generations b) ≡ word.Forgot st = sym word_now ∙ is in cc;
        empty = λ none. cell_now;
      }

  lead_sound : (first : ℕ) (h : List (Event ℕ V)) (w : World V) (a k : ℕ) (s : Option ℕ) (seen : KeyState) (f : Bool) → w.stages a ≡ Asking k s (ask.Lead seen f) → Sound first h w → same_key (w.keys k) seen ≡ true
      → Sound first (h ++ Lead a k (next_id w a) (own_of w s) ∷ []) (led w a k s)
  lead_sound first h w a k None seen f at sound same =
      let good : GoodSecond w a None × GoodAsk h w a k None (ask.Lead seen f) = subst (λ (q : Stage V). Good h w a q) at (sound.callers a).good in
      let none : opened h k ≡ None = unopened h w k (w.keys k) sound.past.legal (sound.keys k) (subst (λ (v : KeyState). SawClosed h k v) (sym (same_key_is (w.keys k) seen same)) good.1.0) in
      let follows : MayFollow nat_eq h (Lead a k (next_id w a) None) = (refl, next_is_new first h w.generations a sound.past, tt, none) in
      let st : ℕ → Stage V = put w.stages a (Leading k (w.generations a) None) in
      lead_made first h w a k a None (ask.Lead seen f) None st (lead_generations w.generations a None) at sound (idle_self w a k None (ask.Lead seen f) at) none follows
      (past_lead first h w.generations a k None sound.past follows) good.1.2 (put_here w.stages a (Leading k (w.generations a) None))
      (λ z other far. record { stage = put_else w.stages a (Leading k (w.generations a) None) z other; word = refl; next = refl; cell = refl; generation = put_else w.generations a (w.generations a + 1) z other })
      tt tt (λ z other is. absurd (other is))
  lead_sound first h w a k (Some b) seen f at sound same =
      let good : GoodSecond w a (Some b) × GoodAsk h w a k (Some b) (ask.Lead seen f) = subst (λ (q : Stage V). Good h w a q) at (sound.callers a).good in
      let apart : b ≢ a = second_apart w a b k (Some b) (ask.Lead seen f) at good.0 in
      let none : opened h k ≡ None = unopened h w k (w.keys k) sound.past.legal (sound.keys k) (subst (λ (v : KeyState). SawClosed h k v) (sym (same_key_is (w.keys k) seen same)) good.1.0) in
      let c : CallId = next_id w a in
      let m : CallId = next_id w b in
      let follows : MayFollow nat_eq h (Lead a k c (Some m)) = (refl, next_is_new first h w.generations a sound.past, (next_is_new first h w.generations b sound.past, λ (e : m ≡ c). apart (ap (λ (z : CallId). z.caller) e)), none) in
      let holding : Stage V = Holding k (w.generations b) c in
      let leading : Stage V = Leading k (w.generations a) (Some m) in
      let st : ℕ → Stage V = put (put w.stages b holding) a leading in
      let gn : ℕ → ℕ = lead_generations w.generations a (Some b) in
      let w' : World V = lead_world w k c st gn in
      let h' : List (Event ℕ V) = h ++ Lead a k c (Some m) ∷ [] in
      let stage_there : st b ≡ holding = put_else (put w.stages b holding) a leading b apart ∙ put_here w.stages b holding in
      let led_now : was_led_on h' k c ≡ true = list_any_push_last (leads_on k c) h (Lead a k c (Some m)) (and_from (k == k) (same_call c c) (eq-eqb k k refl) (same_call_self c)) in
      lead_made first h w a k b (Some b) (ask.Lead seen f) (Some m) st gn at sound (idle_second w a b good.0) none follows
      (past_lead first h w.generations a k (Some b) sound.past follows) good.1.2 (put_here (put w.stages b holding) a leading)
      (λ z other far. record {
        stage = put_else (put w.stages b holding) a leading z other ∙ put_else w.stages b holding z far;
        word = refl;
        next = refl;
        cell = refl;
        generation = put_else (put w.generations b (w.generations b + 1)) a (put w.generations b (w.generations b + 1) a + 1) z other ∙ put_else w.generations b (w.generations b + 1) z far;
      })
      ((ap ticket stage_there, good.1.1), tt) (tt, tt)
      (λ z other is. subst (λ (n : ℕ). Caller h' w' n) (sym is) (own_second first h h' w w' a b k c sound good.0 good.1.1 led_now stage_there refl refl))

  pub lead_either : (first : ℕ) (h : List (Event ℕ V)) (w : World V) (a k : ℕ) (s : Option ℕ) (seen : KeyState) (f : Bool) → w.stages a ≡ Asking k s (ask.Lead seen f) → Sound first h w → (b : Bool) → same_key (w.keys k) seen ≡ b
      → Sound first (h ++ lead_events w a k s b) (after_lead w a k s b)
  lead_either first h w a k s seen f at sound false is = still first h (with_stage w a (Asking k s (ask.Look true))) (ask_on first h w a k s (ask.Lead seen f) (ask.Look true) at sound tt)
  lead_either first h w a k s seen f at sound true is = lead_sound first h w a k s seen f at sound is

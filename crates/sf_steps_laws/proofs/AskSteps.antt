-- the steps of an asking that add no event keep the invariant
use Rattle.std.proofs.Common.{◌≡◌, ◌≢◌, ℕ, ◌<◌, Bool, true, false, List, inl, inr, Option, Some, None, refl, sym, ◌∙◌, ap, subst, arith}
use Rattle.std.proofs.lemmas.Bool.{cases_eq}
use Rattle.sf_history.specs.declared.call.CallId.{CallId}
use Rattle.sf_history.specs.declared.event.Event.{Event}
use Rattle.sf_words.specs.declared.key_word.KeyState.{KeyState}
use Rattle.sf_words.specs.declared.key_word.KeyState.TheVariants.{Never, Names}
use Rattle.sf_words.specs.declared.call_word.LeaderState.{LeaderState}
use Rattle.sf_words.specs.declared.call_word.CallState.{CallState}
use Rattle.sf_words.specs.declared.call_word.CallState.TheVariants as word
use Rattle.sf_steps_laws.specs.declared.operation.Stage.{Stage}
use Rattle.sf_steps_laws.specs.declared.operation.Stage.TheVariants.{Seconding, Asking}
use Rattle.sf_steps_laws.specs.declared.operation.AskStep.{AskStep}
use Rattle.sf_steps_laws.specs.declared.operation.AskStep.TheVariants as ask
use Rattle.sf_steps_laws.specs.World.{World, with_stage, with_call, with_next, key_of, open_in, is_forgot_in}
use Rattle.sf_lists.specs.Functions.{put}
use Rattle.sf_steps_laws.specs.Askings.{prepares, looked, peeked, joiner, ready_own, ask_stepped}
use Rattle.sf_steps_laws.specs.Schedules.{was_led_on}
use Rattle.sf_steps_laws.proofs.Histories.{opened, now, led_on_named}
use Rattle.sf_steps_laws.proofs.Growing.{grows_none}
use Rattle.sf_lists.proofs.Functions.{put_here, put_else, put_cases}
use Rattle.sf_steps_laws.proofs.Compared.{open_in_is}
use Rattle.sf_steps_laws.proofs.Sound.{call_of, ticket, SawClosed, ready_word, GoodSecond, ReadySecond, GoodAsk, Good, GoodKey, Caller, Sound}
use Rattle.sf_steps_laws.proofs.Kept.{Same, sound_after}
use Rattle.sf_steps_laws.proofs.Quiet.{same_stage, same_word, same_next, same_then, Two, split_two, Idle, idle_self, idle_second, idle_joiner, idle_spared, not_held, not_owing, key_kept, debt_same, quiet}
use Rattle.sf_steps_laws.proofs.Leaders.{not_open_in}

module _ {V : Type 0} where
  -- the second is another caller, and stays a second
  pub second_apart : (w : World V) (a b k : ℕ) (s : Option ℕ) (step : AskStep) → w.stages a ≡ Asking k s step → w.stages b ≡ Seconding a → b ≢ a
  second_apart w a b k s step at serves is = let clash : Seconding a ≡ Asking k s step = sym serves ∙ (ap w.stages is ∙ at) in cc

  pub second_still : (w : World V) (a k : ℕ) (s : Option ℕ) (step : AskStep) (q : Stage V) → w.stages a ≡ Asking k s step → GoodSecond w a s → GoodSecond (with_stage w a q) a s
  second_still w a k None step q at good = tt
  second_still w a k (Some b) step q at good = put_else w.stages a q b (second_apart w a b k (Some b) step at good) ∙ good

  -- who joins where it is not the asking caller is its second
  pub joiner_seconds : (w : World V) (a : ℕ) (s : Option ℕ) → GoodSecond w a s → joiner a s ≢ a → w.stages (joiner a s) ≡ Seconding a
  joiner_seconds w a None good other = absurd (other refl)
  joiner_seconds w a (Some b) good other = good

  -- a second that is left where it is
  left_second : (h : List (Event ℕ V)) (w w' : World V) (a z : ℕ) → w'.stages z ≡ Seconding a → Good h w' z (w'.stages z)
  left_second h w w' a z is = subst (λ (q : Stage V). Good h w' z q) (sym is) tt

  -- a word is stored for one who asks or serves: no old call of it is open by that word
  stored_live : (first : ℕ) (h : List (Event ℕ V)) (w : World V) (x : ℕ) (u : CallState) → Sound first h w → ((st : LeaderState) → u ≡ word.Open st → st.generation ≡ w.generations x)
      → (z i : ℕ) (st : LeaderState) → was_led_on h i (call_of z st.generation) ≡ true → put w.calls x u z ≡ word.Open st → opened h i ≡ Some (call_of z st.generation)
  stored_live first h w x u sound fresh z i st led = put_cases (λ (v : CallState). v ≡ word.Open st → opened h i ≡ Some (call_of z st.generation)) w.calls x u z
      (λ (here : z ≡ x) is.
      let below : st.generation < w.generations z = sound.past.numbered (call_of z st.generation) (led_on_named h i (call_of z st.generation) led) in
      let same : w.generations z ≡ w.generations x = ap w.generations here in
      let own : st.generation ≡ w.generations x = fresh st is in
      absurd (omega arith))
      (λ other is. (sound.callers z).live i st led is)

  stored_forgot : (first : ℕ) (h : List (Event ℕ V)) (w : World V) (x : ℕ) (u : CallState) → Sound first h w → ((st : LeaderState) → u ≢ word.Forgot st)
      → (z i : ℕ) (st : LeaderState) → put w.calls x u z ≡ word.Forgot st → now h i ≢ Some (call_of z st.generation)
  stored_forgot first h w x u sound unforgotten z i st = put_cases (λ (v : CallState). v ≡ word.Forgot st → now h i ≢ Some (call_of z st.generation)) w.calls x u z
      (λ here is. absurd (unforgotten st is))
      (λ other is. (sound.callers z).forgot i st is)

  -- an asking stores a word of its own or of its second
  word_stored : (first : ℕ) (h : List (Event ℕ V)) (w : World V) (a k : ℕ) (s : Option ℕ) (step next : AskStep) (x : ℕ) (u : CallState) → w.stages a ≡ Asking k s step → Sound first h w → Idle w a x
      → (x ≢ a → w.stages x ≡ Seconding a) → ((st : LeaderState) → u ≡ word.Open st → st.generation ≡ w.generations x) → ((st : LeaderState) → u ≢ word.Forgot st)
      → GoodAsk h (with_stage (with_call w x u) a (Asking k s next)) a k s next → Sound first h (with_stage (with_call w x u) a (Asking k s next))
  word_stored first h w a k s step next x u at sound idle serves fresh unforgotten good =
      let q : Stage V = Asking k s next in
      let w' : World V = with_stage (with_call w x u) a q in
      let own : Idle w a a = idle_self w a k s step at in
      let second : GoodSecond w a s = (subst (λ (p : Stage V). Good h w a p) at (sound.callers a).good).0 in
      let untouched : (z : ℕ) → z ≢ a → z ≢ x → Same w w' z = λ z other far. same_then w (with_call w x u) w' z (same_word w x u z far) (same_stage (with_call w x u) a q z other) in
      sound_after first a (Two a x) h w h w' sound (record {
        bound = refl;
        past = sound.past;
        grows = grows_none a h;
        mine = inl refl;
        split = split_two w w' a x untouched;
        spared = λ b z free one. elim one [
          | inl here ↦ idle_spared w w' a a own b z (λ e. free (inl e)) here
          | inr there ↦ idle_spared w w' a x idle b z (λ e. free (inl e)) there
        ];
        members = λ c free. refl;
        kept_open = λ i c free is. is;
        callers = λ z one. elim (cases_eq z a) [
          | inl here ↦ subst (λ (n : ℕ). Caller h w' n) (sym here) (record {
            good = subst (λ (p : Stage V). Good h w' a p) (sym (put_here w.stages a q)) (second_still w a k s step q at second, good);
            live = stored_live first h w x u sound fresh a;
            forgot = stored_forgot first h w x u sound unforgotten a;
            empty = λ none. (sound.callers a).empty own.no_ticket;
          })
          | inr other ↦
              let there : z ≡ x = elim one [
                | inl is ↦ absurd (other is)
                | inr is ↦ is
              ] in
              record {
                good = left_second h w w' a z (put_else w.stages a q z other ∙ (ap w.stages there ∙ serves (λ e. other (there ∙ e))));
                live = stored_live first h w x u sound fresh z;
                forgot = stored_forgot first h w x u sound unforgotten z;
                empty = λ none. (sound.callers z).empty (ap (λ (n : ℕ). ticket (w.stages n)) there ∙ idle.no_ticket);
              }
        ];
        keys = λ i. key_kept h h w w' i (w.keys i) (sound.keys i) (λ c is. is) refl
            (λ b g is forgot debt. debt_same w w' b i g (untouched b (not_owing w a b (i, g) own.no_debt debt) (not_owing w x b (i, g) idle.no_debt debt)) forgot debt);
        held = λ i c one is. elim one [
          | inl here ↦ absurd (not_held first h w a i c sound own.no_call is here)
          | inr there ↦ absurd (not_held first h w x i c sound idle.no_call is there)
        ];
      })

  -- an asking stores the next word of its joiner
  next_stored : (first : ℕ) (h : List (Event ℕ V)) (w : World V) (a k : ℕ) (s : Option ℕ) (step next : AskStep) (x : ℕ) (n : Option ℕ) → w.stages a ≡ Asking k s step → Sound first h w → Idle w a x
      → (x ≢ a → w.stages x ≡ Seconding a) → GoodAsk h (with_stage (with_next w x n) a (Asking k s next)) a k s next → Sound first h (with_stage (with_next w x n) a (Asking k s next))
  next_stored first h w a k s step next x n at sound idle serves good =
      let q : Stage V = Asking k s next in
      let w' : World V = with_stage (with_next w x n) a q in
      let own : Idle w a a = idle_self w a k s step at in
      let second : GoodSecond w a s = (subst (λ (p : Stage V). Good h w a p) at (sound.callers a).good).0 in
      let untouched : (z : ℕ) → z ≢ a → z ≢ x → Same w w' z = λ z other far. same_then w (with_next w x n) w' z (same_next w x n z far) (same_stage (with_next w x n) a q z other) in
      sound_after first a (Two a x) h w h w' sound (record {
        bound = refl;
        past = sound.past;
        grows = grows_none a h;
        mine = inl refl;
        split = split_two w w' a x untouched;
        spared = λ b z free one. elim one [
          | inl here ↦ idle_spared w w' a a own b z (λ e. free (inl e)) here
          | inr there ↦ idle_spared w w' a x idle b z (λ e. free (inl e)) there
        ];
        members = λ c free. refl;
        kept_open = λ i c free is. is;
        callers = λ z one. elim (cases_eq z a) [
          | inl here ↦ subst (λ (m : ℕ). Caller h w' m) (sym here) (record {
            good = subst (λ (p : Stage V). Good h w' a p) (sym (put_here w.stages a q)) (second_still w a k s step q at second, good);
            live = (sound.callers a).live;
            forgot = (sound.callers a).forgot;
            empty = λ none. (sound.callers a).empty own.no_ticket;
          })
          | inr other ↦
              let there : z ≡ x = elim one [
                | inl is ↦ absurd (other is)
                | inr is ↦ is
              ] in
              record {
                good = left_second h w w' a z (put_else w.stages a q z other ∙ (ap w.stages there ∙ serves (λ e. other (there ∙ e))));
                live = (sound.callers z).live;
                forgot = (sound.callers z).forgot;
                empty = λ none. (sound.callers z).empty (ap (λ (m : ℕ). ticket (w.stages m)) there ∙ idle.no_ticket);
              }
        ];
        keys = λ i. key_kept h h w w' i (w.keys i) (sound.keys i) (λ c is. is) refl
            (λ b g is forgot debt. debt_same w w' b i g (untouched b (not_owing w a b (i, g) own.no_debt debt) (not_owing w x b (i, g) idle.no_debt debt)) forgot debt);
        held = λ i c one is. elim one [
          | inl here ↦ absurd (not_held first h w a i c sound own.no_call is here)
          | inr there ↦ absurd (not_held first h w x i c sound idle.no_call is there)
        ];
      })

  -- what an asking knows after its look and its peek
  prepared_good : (h : List (Event ℕ V)) (u : World V) (a k : ℕ) (s : Option ℕ) (v : KeyState) (forgot : Bool) → SawClosed h k v → GoodAsk h u a k s (prepares s v forgot)
  prepared_good h u a k None v forgot saw = (saw, tt)
  prepared_good h u a k (Some b) v forgot saw = saw

  looked_good : (h : List (Event ℕ V)) (w u : World V) (a k : ℕ) (s : Option ℕ) (v : KeyState) → GoodKey h w k v → GoodAsk h u a k s (looked s v)
  looked_good h w u a k s Never good = prepared_good h u a k s Never false tt
  looked_good h w u a k s (Names b g true) good = prepared_good h u a k s (Names b g true) false tt
  looked_good h w u a k s (Names b g false) good = good.0

  peeked_good : (h : List (Event ℕ V)) (u : World V) (a k : ℕ) (s : Option ℕ) (c : CallId) (forgot : Bool) (o : Option LeaderState) → was_led_on h k c ≡ true → (o ≡ None → opened h k ≢ Some c)
      → ((seen : LeaderState) → o ≡ Some seen → seen.generation ≡ c.generation) → GoodAsk h u a k s (peeked s c forgot o)
  peeked_good h u a k s c forgot None led closed same = prepared_good h u a k s (key_of c) forgot (led, closed refl)
  peeked_good h u a k s c forgot (Some seen) led closed same = (led, same seen refl)

  -- a step that changes nothing but what the asking remembers
  pub ask_on : (first : ℕ) (h : List (Event ℕ V)) (w : World V) (a k : ℕ) (s : Option ℕ) (step next : AskStep) → w.stages a ≡ Asking k s step → Sound first h w → GoodAsk h (with_stage w a (Asking k s next)) a k s next
      → Sound first h (with_stage w a (Asking k s next))
  ask_on first h w a k s step next at sound good =
      let second : GoodSecond w a s = (subst (λ (p : Stage V). Good h w a p) at (sound.callers a).good).0 in
      quiet first h w a (Asking k s step) (Asking k s next) at sound refl (λ b x. cc) refl (λ i g key owes. cc) (second_still w a k s step (Asking k s next) at second, good)

  pub look_sound : (first : ℕ) (h : List (Event ℕ V)) (w : World V) (a k : ℕ) (s : Option ℕ) (failed : Bool) → w.stages a ≡ Asking k s (ask.Look failed) → Sound first h w → Sound first h (ask_stepped w a k s (ask.Look failed))
  look_sound first h w a k s failed at sound =
      ask_on first h w a k s (ask.Look failed) (looked s (w.keys k)) at sound (looked_good h w (with_stage w a (Asking k s (looked s (w.keys k)))) a k s (w.keys k) (sound.keys k))

  pub peek_sound : (first : ℕ) (h : List (Event ℕ V)) (w : World V) (a k : ℕ) (s : Option ℕ) (c : CallId) → w.stages a ≡ Asking k s (ask.Peek c) → Sound first h w → Sound first h (ask_stepped w a k s (ask.Peek c))
  peek_sound first h w a k s c at sound =
      let found = open_in c.generation (w.calls c.caller) in
      let forgot = is_forgot_in c.generation (w.calls c.caller) in
      let led : was_led_on h k c ≡ true = (subst (λ (q : Stage V). Good h w a q) at (sound.callers a).good).1 in
      ask_on first h w a k s (ask.Peek c) (peeked s c forgot found) at sound
      (peeked_good h (with_stage w a (Asking k s (peeked s c forgot found))) a k s c forgot found led (λ missing. not_open_in first h w k c sound missing) (λ seen is. (open_in_is c.generation (w.calls c.caller) seen is).1))

  pub ready_own_sound : (first : ℕ) (h : List (Event ℕ V)) (w : World V) (a k : ℕ) (s : Option ℕ) (seen : KeyState) (f : Bool) → w.stages a ≡ Asking k s (ask.ReadyOwn seen f) → Sound first h w → Sound first h (ready_own w a k s seen f)
  ready_own_sound first h w a k None seen f at sound = sound
  ready_own_sound first h w a k (Some b) seen f at sound =
      let good : GoodSecond w a (Some b) × GoodAsk h w a k (Some b) (ask.ReadyOwn seen f) = subst (λ (p : Stage V). Good h w a p) at (sound.callers a).good in
      word_stored first h w a k (Some b) (ask.ReadyOwn seen f) (ask.ReadyLead seen f) b (word.Listed (w.generations b)) at sound (idle_second w a b good.0) (λ other. good.0) (λ st is. cc) (λ st is. cc)
      (good.1, put_here w.calls b (word.Listed (w.generations b)))

  pub ready_lead_sound : (first : ℕ) (h : List (Event ℕ V)) (w : World V) (a k : ℕ) (s : Option ℕ) (seen : KeyState) (f : Bool) → w.stages a ≡ Asking k s (ask.ReadyLead seen f) → Sound first h w
      → Sound first h (ask_stepped w a k s (ask.ReadyLead seen f))
  ready_lead_sound first h w a k s seen f at sound =
      let good : GoodSecond w a s × GoodAsk h w a k s (ask.ReadyLead seen f) = subst (λ (p : Stage V). Good h w a p) at (sound.callers a).good in
      word_stored first h w a k s (ask.ReadyLead seen f) (ask.Lead seen f) a (ready_word w a s) at sound (idle_self w a k s (ask.ReadyLead seen f) at) (λ other. absurd (other refl))
      (λ st is. own st is) (λ st is. cc) (good.1.0, ready s good.0 good.1.1 at, put_here w.calls a (ready_word w a s))
    where
      own : (st : LeaderState) → ready_word w a s ≡ word.Open st → st.generation ≡ w.generations a
      own st is = cc

      ready : (s : Option ℕ) → GoodSecond w a s → ReadySecond w s → w.stages a ≡ Asking k s (ask.ReadyLead seen f) → ReadySecond (with_stage (with_call w a (ready_word w a s)) a (Asking k s (ask.Lead seen f))) s
      ready None good is at = tt
      ready (Some b) good is at = put_else w.calls a (ready_word w a (Some b)) b (second_apart w a b k (Some b) (ask.ReadyLead seen f) at good) ∙ is

  pub ready_join_sound : (first : ℕ) (h : List (Event ℕ V)) (w : World V) (a k : ℕ) (s : Option ℕ) (c : CallId) (seen : LeaderState) → w.stages a ≡ Asking k s (ask.ReadyJoin c seen) → Sound first h w
      → Sound first h (ask_stepped w a k s (ask.ReadyJoin c seen))
  ready_join_sound first h w a k s c seen at sound =
      let j : ℕ = joiner a s in
      let good : GoodSecond w a s × GoodAsk h w a k s (ask.ReadyJoin c seen) = subst (λ (p : Stage V). Good h w a p) at (sound.callers a).good in
      word_stored first h w a k s (ask.ReadyJoin c seen) (ask.Link c seen) j (word.Listed (w.generations j)) at sound (idle_joiner w a k s (ask.ReadyJoin c seen) at good.0) (joiner_seconds w a s good.0) (λ st is. cc) (λ st is. cc)
      (good.1, put_here w.calls j (word.Listed (w.generations j)))

  pub link_sound : (first : ℕ) (h : List (Event ℕ V)) (w : World V) (a k : ℕ) (s : Option ℕ) (c : CallId) (seen : LeaderState) → w.stages a ≡ Asking k s (ask.Link c seen) → Sound first h w
      → Sound first h (ask_stepped w a k s (ask.Link c seen))
  link_sound first h w a k s c seen at sound =
      let j : ℕ = joiner a s in
      let good : GoodSecond w a s × GoodAsk h w a k s (ask.Link c seen) = subst (λ (p : Stage V). Good h w a p) at (sound.callers a).good in
      next_stored first h w a k s (ask.Link c seen) (ask.Enter c seen) j seen.top at sound (idle_joiner w a k s (ask.Link c seen) at good.0) (joiner_seconds w a s good.0)
      (good.1.0, good.1.1, put_here w.nexts j seen.top)

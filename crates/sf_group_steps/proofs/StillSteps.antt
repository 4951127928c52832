-- the loads of a question that is no operation, and what they answer
use Rattle.std.proofs.Common.{◌≡◌, ◌≢◌, ℕ, ◌==◌, Bool, true, false, ◌&&◌, List, [], ◌∷◌, ◌++◌, inl, inr, Option, Some, None, refl, sym, ◌∙◌, ap, subst, append_assoc, cond}
use Rattle.std.specs.Prelude.{nat_eq}
use Rattle.std.specs.List.{list_any}
use Rattle.std.proofs.lemmas.List.{append-nil}
use Rattle.std.proofs.lemmas.List.Folds.{list_any-append}
use Rattle.std.proofs.lemmas.Bool.{cases_Bool, cond-true, or_left, or_right, or_from, and_parts, true≢false}
use Rattle.sf_lists.proofs.Lists.{by_push}
use Rattle.sf_history.specs.declared.call.CallId.{CallId}
use Rattle.sf_history.specs.declared.event.Event.{Event}
use Rattle.sf_history.specs.declared.event.Event.TheVariants.{Lead, Enter, Forget, ForgetCall, Settle, Handed}
use Rattle.sf_history.specs.Calls.{same_call}
use Rattle.sf_history.specs.History.{current_call, last_led, keeps_current, leads_last}
use Rattle.sf_history.proofs.LegalHistories.{same_call_is, same_call_self, fold_push}
use Rattle.sf_words.specs.declared.key_word.KeyState.{KeyState}
use Rattle.sf_words.specs.declared.call_word.CallState.{CallState}
use Rattle.sf_words.specs.KeyWord.{key_code}
use Rattle.sf_words.specs.CallWord.{call_code}
use Rattle.sf_steps_laws.specs.declared.turn.Turn.{Turn}
use Rattle.sf_steps_laws.specs.World.{World, first_world, key_of, same_key, is_forgot_in}
use Rattle.sf_steps_laws.specs.Turns.{turned, run}
use Rattle.sf_steps_laws.specs.Events.{turn_events, adds, named_by}
use Rattle.sf_steps_laws.specs.Naming.{IsNamed}
use Rattle.sf_steps_laws.specs.Schedules.{Setting, IsCaller, leads_on, was_led_on, IsScheduleFrom, IsSchedule}
use Rattle.sf_steps_laws.proofs.Sound.{GoodKey}
use Rattle.sf_steps_laws.proofs.Compared.{same_key_is, same_key_self, forgot_in_is, forgot_is_in}
use Rattle.sf_steps_laws.proofs.Leaders.{forgotten_not_now, current_key}
use Rattle.sf_steps_laws.proofs.Callers.{Fair}
use Rattle.sf_steps_laws.proofs.Flags.{turn_fair}
use Rattle.sf_steps_laws.proofs.RightAnswers.{run_append, adds_append, schedule_parts, always, always_fair, unnamed_turn}
use Rattle.sf_steps_laws.proofs.LastLed.{names_are_right}
use Rattle.sf_group_rows.specs.declared.sizes.Sizes.{Sizes}
use Rattle.sf_group_rows.specs.Seen.{StartsWith}
use Rattle.sf_group_rows.specs.Currents.{WasCurrent}
use Rattle.sf_group_steps.specs.declared.view.View.{View}
use Rattle.sf_group_steps.specs.Words.{key, call, IsKeyFor, IsCallFor}
use Rattle.sf_group_steps.specs.View.{setting_of, world_of, history_of}
use Rattle.sf_group_steps.specs.Plays.{Found, Made}
use Rattle.sf_group_steps.specs.Hears.{BeginsWith}
use Rattle.sf_group_steps.specs.StillCurrents.{HasFoundForgot, HasFoundNamed, Stays}
use Rattle.sf_group_steps.proofs.HearSteps.{heard_goes}
use Rattle.sf_group_steps.proofs.Trying.{goes_after, goes_none}
use Rattle.sf_group_steps.proofs.QuestionSteps.{led_known}

-- which call a key word names that names one uncleared
names_it : (c : CallId) → named_by (key_of c) ≡ Some c
names_it c = refl

module _ {V : Type 0} where
  -- the turns that the seat knows after a load that is no turn
  known_then : (z : Sizes) (v w : View V) (m : Made z v w []) → w.known.turns ≡ m.before
  known_then z v w m = ap (λ (y : View V). y.known.turns) m.view ∙ append-nil m.before

  known_longer : (z : Sizes) (v w : View V) → Made z v w [] → BeginsWith w.known.turns v.known.turns
  known_longer z v w m = (m.comes.later.between, known_then z v w m ∙ m.comes.later.turns)

  pub known_schedule : (z : Sizes) (v w : View V) → Made z v w [] → IsSchedule (setting_of z) w.known.turns
  known_schedule z v w m = subst (λ s. IsSchedule (setting_of z) s) (sym (known_then z v w m)) m.comes.schedule

  events_begin : (z : Sizes) (ts us : List (Turn V)) → BeginsWith us ts → StartsWith (history_of z us) (history_of z ts)
  events_begin z ts us b = (adds (world_of z ts) b.0, ap (history_of z) b.1 ∙ adds_append (first_world z.callers z.first) ts b.0)

  pub found_forgot : (z : Sizes) (c : CallId) (n : ℕ) (v w : View V) (x : CallState) → Found (call c.caller) (λ _. []) z v n w
      → ((y : CallState) → IsCallFor z.callers y → call_code y ≡ n → x ≡ y) → HasFoundForgot z c v w (is_forgot_in c.generation x)
  found_forgot z c n v w x found says =
      let m = found.0 in
      let is : x ≡ (world_of z m.before).calls c.caller = says ((world_of z m.before).calls c.caller) (m.comes.lawful.calls c.caller) (sym found.1) in
      record { made = m; found = ap (λ s. is_forgot_in c.generation ((world_of z s).calls c.caller)) (known_then z v w m) ∙ ap (is_forgot_in c.generation) (sym is) }

  pub found_named : (z : Sizes) (k : ℕ) (c : CallId) (n : ℕ) (v w : View V) (x : KeyState) → Found (key k) (λ _. []) z v n w
      → ((y : KeyState) → IsKeyFor z.callers y → key_code y ≡ n → x ≡ y) → HasFoundNamed z k c v w (same_key x (key_of c))
  found_named z k c n v w x found says =
      let m = found.0 in
      let is : x ≡ (world_of z m.before).keys k = says ((world_of z m.before).keys k) (m.comes.lawful.keys k) (sym found.1) in
      record { made = m; found = ap (λ s. same_key ((world_of z s).keys k) (key_of c)) (known_then z v w m) ∙ ap (λ (y : KeyState). same_key y (key_of c)) (sym is) }

  -- who made no turns stays, after one load and after two
  pub stays_after : (z : Sizes) (v u w : View V) → Made z v u [] → Made z u w [] → Stays z v w
  stays_after z v u w one two a p alone sits =
      let first = heard_goes z a v u p sits alone one in
      goes_after z a v u w p p [] 0 first (heard_goes z a u w p first.sits alone two)

  pub stays_once : (z : Sizes) (v w : View V) → Made z v w [] → Stays z v w
  stays_once z v w made a p alone sits = heard_goes z a v w p sits alone made

  pub stays_still : (z : Sizes) (v : View V) → Stays z v v
  stays_still z v a p alone sits = goes_none z a v p sits

  -- a call that was led last on the place was led there
  led_last : (h : List (Event ℕ V)) (k : ℕ) (c : CallId) → last_led nat_eq h k ≡ Some c → was_led_on h k c ≡ true
  led_last h k c = by_push (λ (h : List (Event ℕ V)). last_led nat_eq h k ≡ Some c → was_led_on h k c ≡ true) (λ is. cc) step h
    where
      more : (h : List (Event ℕ V)) (e : Event ℕ V) → was_led_on h k c ≡ true → was_led_on (h ++ e ∷ []) k c ≡ true
      more h e led = list_any-append (leads_on k c) h (e ∷ []) ∙ or_left (list_any (leads_on k c) h) (list_any (leads_on k c) (e ∷ [])) led

      at_lead : (h : List (Event ℕ V)) (by at : ℕ) (d : CallId) (own : Option CallId) → (last_led nat_eq h k ≡ Some c → was_led_on h k c ≡ true)
          → (b : Bool) → nat_eq at k ≡ b → cond b (Some d) (last_led nat_eq h k) ≡ Some c → was_led_on (h ++ Lead by at d own ∷ []) k c ≡ true
      at_lead h by at d own before true on is =
          let same : d ≡ c = cc in
          list_any-append (leads_on k c) h (Lead by at d own ∷ [])
          ∙ or_right (list_any (leads_on k c) h) _ (or_left _ _ (ap (λ (b : Bool). b && same_call d c) on ∙ (ap (λ (x : CallId). same_call x c) same ∙ same_call_self c)))
      at_lead h by at d own before false on is = more h (Lead by at d own) (before is)

      step : (h : List (Event ℕ V)) (e : Event ℕ V) → (last_led nat_eq h k ≡ Some c → was_led_on h k c ≡ true) → last_led nat_eq (h ++ e ∷ []) k ≡ Some c → was_led_on (h ++ e ∷ []) k c ≡ true
      step h (Lead by at d own) before is = at_lead h by at d own before (nat_eq at k) refl (sym (fold_push (leads_last nat_eq k) None h _) ∙ is)
      step h (Enter by at d member) before is = more h _ (before (sym (fold_push (leads_last nat_eq k) None h _) ∙ is))
      step h (Forget by at closed) before is = more h _ (before (sym (fold_push (leads_last nat_eq k) None h _) ∙ is))
      step h (ForgetCall by at d hit) before is = more h _ (before (sym (fold_push (leads_last nat_eq k) None h _) ∙ is))
      step h (Settle by d result joiners) before is = more h _ (before (sym (fold_push (leads_last nat_eq k) None h _) ∙ is))
      step h (Handed by d) before is = more h _ (before (sym (fold_push (leads_last nat_eq k) None h _) ∙ is))

  -- a call is current right after its Lead
  current_at_lead : (h : List (Event ℕ V)) (k : ℕ) (c : CallId) (e : Event ℕ V) → leads_on k c e ≡ true → current_call nat_eq (h ++ e ∷ []) k ≡ Some c
  current_at_lead h k c (Lead by at d own) is =
      let both = and_parts (at == k) (same_call d c) is in
      fold_push (keeps_current nat_eq k) None h (Lead by at d own) ∙ (cond-true _ _ _ both.0 ∙ ap (λ (x : CallId). Some x) (same_call_is d c both.1))
  current_at_lead h k c (Enter by at d member) is = absurd (true≢false (sym is))
  current_at_lead h k c (Forget by at closed) is = absurd (true≢false (sym is))
  current_at_lead h k c (ForgetCall by at d hit) is = absurd (true≢false (sym is))
  current_at_lead h k c (Settle by d result joiners) is = absurd (true≢false (sym is))
  current_at_lead h k c (Handed by d) is = absurd (true≢false (sym is))

  -- a moment between the two lists at which the call was current
  abbrev Between : ℕ → CallId → List (Event ℕ V) → List (Event ℕ V) → Type 0
  Between k c h whole = (moment : List (Event ℕ V)) × StartsWith moment h × StartsWith whole moment × (current_call nat_eq moment k ≡ Some c)

  -- a call that was led last and not before was led in between
  led_between : (h more : List (Event ℕ V)) (k : ℕ) (c : CallId) → was_led_on h k c ≡ false → last_led nat_eq (h ++ more) k ≡ Some c → Between k c h (h ++ more)
  led_between h [] k c unled is = absurd (true≢false (sym (led_last h k c (subst (λ (l : List (Event ℕ V)). last_led nat_eq l k ≡ Some c) (append-nil h) is)) ∙ unled))
  led_between h (e ∷ more) k c unled is =
      elim (cases_Bool (leads_on k c e)) [
        | inl leads ↦ (h ++ e ∷ [], (e ∷ [], refl), (more, sym (append_assoc h (e ∷ []) more)), current_at_lead h k c e leads)
        | inr other ↦
            let none : was_led_on (h ++ e ∷ []) k c ≡ false = list_any-append (leads_on k c) h (e ∷ []) ∙ or_from _ _ unled (or_from _ _ other refl) in
            let same : (h ++ e ∷ []) ++ more ≡ h ++ e ∷ more = append_assoc h (e ∷ []) more in
            let later = led_between (h ++ e ∷ []) more k c none (subst (λ (l : List (Event ℕ V)). last_led nat_eq l k ≡ Some c) (sym same) is) in
            (later.0, (e ∷ later.1.0, later.1.1 ∙ append_assoc h (e ∷ []) later.1.0), (later.2.0, sym same ∙ later.2.1), later.3)
      ]

  -- a key word that does not name a call which was led does not name it later
  unnamed_later : (z : Setting) (k : ℕ) (c : CallId) (ts : List (Turn V)) (h : List (Event ℕ V)) (w : World V) → Fair z h w → was_led_on h k c ≡ true → IsScheduleFrom z h w ts → w.keys k ≢ key_of c → (run w ts).keys k ≢ key_of c
  unnamed_later z k c [] h w fair led is isnt = isnt
  unnamed_later z k c (t ∷ ts) h w fair led is isnt =
      unnamed_later z k c ts (h ++ turn_events w t) (turned w t) (turn_fair z h w t fair is.0)
      (list_any-append (leads_on k c) h (turn_events w t) ∙ or_left (list_any (leads_on k c) h) (list_any (leads_on k c) (turn_events w t)) led) is.1 (unnamed_turn z.first h w k c fair.sound led t isnt)

  -- a key word that names a call which its word does not call forgotten names the current call
  unforgotten_named : (h : List (Event ℕ V)) (w : World V) (k : ℕ) (c : CallId) → GoodKey h w k (key_of c) → is_forgot_in c.generation (w.calls c.caller) ≡ false → current_call nat_eq h k ≡ Some c
  unforgotten_named h w k c good isnt = elim good.1 [
    | inl is ↦ is
    | inr debt ↦ absurd (true≢false (sym (forgot_is_in c.generation (w.calls c.caller) debt.1) ∙ isnt))
  ]

  -- A call that was not forgotten when it was peeked at, and is named later, was current in between: at the peek, where it had been
  -- led by then, and else right after its Lead.
  named_after_peek : (z : Sizes) (k : ℕ) (c : CallId) (s ts : List (Turn V)) → IsSchedule (setting_of z) (s ++ ts) → is_forgot_in c.generation ((world_of z s).calls c.caller) ≡ false → (world_of z (s ++ ts)).keys k ≡ key_of c
      → Between k c (history_of z s) (history_of z (s ++ ts))
  named_after_peek z k c s ts is unforgotten named =
      elim (cases_Bool (was_led_on h k c)) [
        | inl led ↦ (h, ([], sym (append-nil h)), (more, whole), unforgotten_named h w k c (subst (λ (x : KeyState). GoodKey h w k x) (was_named led) ((always (setting_of z) s parts.0).keys k)) unforgotten)
        | inr unled ↦
            let last : last_led nat_eq (history_of z (s ++ ts)) k ≡ Some c = subst (λ (o : Option CallId). IsNamed (history_of z (s ++ ts)) k o) (ap named_by named ∙ names_it c) (names_are_right (setting_of z) (s ++ ts) is k) in
            let found = led_between h more k c unled (subst (λ (l : List (Event ℕ V)). last_led nat_eq l k ≡ Some c) whole last) in
            (found.0, found.1, (found.2.0, whole ∙ found.2.1), found.3)
      ]
    where
      h : List (Event ℕ V)
      h = history_of z s

      w : World V
      w = world_of z s

      more : List (Event ℕ V)
      more = adds w ts

      whole : history_of z (s ++ ts) ≡ h ++ more
      whole = adds_append (first_world z.callers z.first) s ts

      parts : IsSchedule (setting_of z) s × IsScheduleFrom (setting_of z) h w ts
      parts = schedule_parts (setting_of z) s ts [] (first_world z.callers z.first) is

      was_named : was_led_on h k c ≡ true → w.keys k ≡ key_of c
      was_named led = elim (cases_Bool (same_key (w.keys k) (key_of c))) [
        | inl alike ↦ same_key_is (w.keys k) (key_of c) alike
        | inr unlike ↦ absurd (unnamed_later (setting_of z) k c ts h w (always_fair (setting_of z) s parts.0) led parts.1
            (λ same. true≢false (sym (ap (λ (x : KeyState). same_key x (key_of c)) same ∙ same_key_self (key_of c)) ∙ unlike))
            (ap (λ (y : World V). y.keys k) (sym (run_append (first_world z.callers z.first) s ts)) ∙ named))
      ]

  -- what the two loads answer
  pub still_right : (z : Sizes) (k : ℕ) (c : CallId) (v u w : View V) → HasFoundForgot z c v u false → HasFoundNamed z k c u w true
      → WasCurrent k c (history_of z v.known.turns) (history_of z v.known.turns) (history_of z w.known.turns)
  still_right z k c v u w peek look =
      let later = known_longer z u w look.made in
      let schedule = subst (λ s. IsSchedule (setting_of z) s) later.1 (known_schedule z u w look.made) in
      let named : (world_of z (u.known.turns ++ later.0)).keys k ≡ key_of c = ap (λ s. (world_of z s).keys k) (sym later.1) ∙ same_key_is ((world_of z w.known.turns).keys k) (key_of c) look.found in
      let found = named_after_peek z k c u.known.turns later.0 schedule peek.found named in
      let before = events_begin z v.known.turns u.known.turns (known_longer z v u peek.made) in
      let begins : StartsWith found.0 (history_of z v.known.turns) = (before.0 ++ found.1.0, found.1.1 ∙ (ap (λ l. l ++ found.1.0) before.1 ∙ append_assoc (history_of z v.known.turns) before.0 found.1.0)) in
      record {
        moment = found.0;
        begins = begins;
        shows = begins;
        within = (found.2.0, ap (history_of z) later.1 ∙ found.2.1);
        current = found.3;
      }

  pub still_forgot : (z : Sizes) (k : ℕ) (c : CallId) (v u : View V) → HasFoundForgot z c v u true → current_call nat_eq (history_of z u.known.turns) k ≢ Some c
  still_forgot z k c v u peek = forgotten_not_now z.first (history_of z u.known.turns) (world_of z u.known.turns) c.caller k c.generation
      (always (setting_of z) u.known.turns (known_schedule z v u peek.made)) (forgot_in_is c.generation ((world_of z u.known.turns).calls c.caller) peek.found)

  pub still_unnamed : (z : Sizes) (k : ℕ) (c : CallId) (u w : View V) → HasFoundNamed z k c u w false → current_call nat_eq (history_of z w.known.turns) k ≢ Some c
  still_unnamed z k c u w look is =
      let s = w.known.turns in
      let same : (world_of z s).keys k ≡ key_of c = current_key (history_of z s) (world_of z s) k c ((world_of z s).keys k) ((always (setting_of z) s (known_schedule z u w look.made)).keys k) is in
      true≢false (sym (ap (λ (x : KeyState). same_key x (key_of c)) same ∙ same_key_self (key_of c)) ∙ look.found)

  -- the current call was led by one of the callers
  pub current_caller : (z : Sizes) (k : ℕ) (c : CallId) (s : List (Turn V)) → IsSchedule (setting_of z) s → current_call nat_eq (history_of z s) k ≡ Some c → IsCaller (setting_of z) c.caller
  current_caller z k c s is current =
      let named : (world_of z s).keys k ≡ key_of c = current_key (history_of z s) (world_of z s) k c ((world_of z s).keys k) ((always (setting_of z) s is).keys k) current in
      let last : last_led nat_eq (history_of z s) k ≡ Some c = subst (λ (o : Option CallId). IsNamed (history_of z s) k o) (ap named_by named ∙ names_it c) (names_are_right (setting_of z) s is k) in
      led_known z k c s is (led_last (history_of z s) k c last)

-- the kinds peek and look of a question, and what they answer, and the look of one which call a key word names
use Rattle.std.proofs.Common.{◌≡◌, ◌≢◌, ℕ, ◌==◌, Bool, true, false, List, [], ◌∷◌, ◌++◌, inl, inr, Option, Some, None, refl, sym, ◌∙◌, ap, subst, append_assoc, arith}
use Rattle.std.specs.Prelude.{nat_eq, if◌then◌else◌}
use Rattle.std.specs.List.{list_any, All}
use Rattle.std.proofs.lemmas.List.{append-nil}
use Rattle.std.proofs.lemmas.List.Elements.{All-head, All-tail}
use Rattle.std.proofs.lemmas.List.Folds.{list_any-append}
use Rattle.std.proofs.lemmas.Bool.{or_left, or_cases, and_parts, true≢false}
use Rattle.sf_history.specs.declared.call.CallId.{CallId}
use Rattle.sf_history.specs.declared.event.Event.{Event}
use Rattle.sf_history.specs.declared.event.Event.TheVariants.{Lead, Enter, Forget, ForgetCall, Settle, Handed}
use Rattle.sf_history.specs.Calls.{same_call}
use Rattle.sf_history.specs.History.{maker, holds_call, current_call}
use Rattle.sf_history.specs.Legal.{IsLegal}
use Rattle.sf_history.proofs.LegalHistories.{same_call_is, same_call_self}
use Rattle.sf_words.specs.declared.key_word.KeyState.{KeyState}
use Rattle.sf_words.specs.declared.call_word.CallState.{CallState}
use Rattle.sf_words.specs.KeyWord.{key_code}
use Rattle.sf_words.specs.CallWord.{call_code}
use Rattle.sf_steps_laws.specs.declared.operation.Op.TheVariants as op
use Rattle.sf_steps_laws.specs.declared.operation.Stage.{Stage}
use Rattle.sf_steps_laws.specs.declared.operation.Stage.TheVariants as stage
use Rattle.sf_steps_laws.specs.declared.operation.CurrentStep.{CurrentStep}
use Rattle.sf_steps_laws.specs.declared.operation.CurrentStep.TheVariants as current
use Rattle.sf_steps_laws.specs.declared.turn.Turn.{Turn}
use Rattle.sf_steps_laws.specs.declared.turn.Turn.TheVariants as turn
use Rattle.sf_steps_laws.specs.World.{World, first_world, with_stage, key_of, same_key, is_forgot_in}
use Rattle.sf_steps_laws.specs.Turns.{current_peeked, current_stepped, started}
use Rattle.sf_steps_laws.specs.Events.{step_events, adds, current_answer, named_by}
use Rattle.sf_steps_laws.specs.Naming.{IsNamed}
use Rattle.sf_steps_laws.specs.Laws.{is_current_after}
use Rattle.sf_steps_laws.specs.Schedules.{Setting, IsCaller, IsPlace, IsSchedule, leads_on, was_led_on}
use Rattle.sf_lists.proofs.Functions.{put_here}
use Rattle.sf_steps_laws.proofs.Named.{IsAlone, makers_are_callers}
use Rattle.sf_steps_laws.proofs.RightAnswers.{run_append, adds_append, schedule_parts, schedules_are_legal, peeks_are_right}
use Rattle.sf_steps_laws.proofs.Questions.{yes_at_the_peek_no_at_the_look}
use Rattle.sf_steps_laws.proofs.LastLed.{names_are_right}
use Rattle.sf_group_rows.specs.declared.sizes.Sizes.{Sizes}
use Rattle.sf_group_steps.specs.declared.view.View.{View}
use Rattle.sf_group_steps.specs.Words.{key, call, IsKeyFor, IsCallFor}
use Rattle.sf_group_steps.specs.View.{setting_of, world_of, history_of}
use Rattle.sf_group_steps.specs.Plays.{Moves, Found, Comes}
use Rattle.sf_group_steps.specs.Stands.{Sits, Goes}
use Rattle.sf_group_steps.specs.Questions.{question_turns, named_turns, HasPeeked, HasLooked, WasCurrent}
use Rattle.sf_group_steps.proofs.Ways.{Ran, ran_then, step_ran, named_ran, writes_none, stands, moves_by, goes_by}
use Rattle.sf_group_steps.proofs.LookSteps.{free_alone}

held_some : (o : Option CallId) (c : CallId) → holds_call o c ≡ true → o ≡ Some c
held_some None c is = cc
held_some (Some d) c is = ap (λ (x : CallId). Some x) (same_call_is d c is)

not_held : (o : Option CallId) (c : CallId) → holds_call o c ≡ false → o ≢ Some c
not_held o c isnt is = true≢false (sym (ap (λ (x : Option CallId). holds_call x c) is ∙ same_call_self c) ∙ isnt)

module _ {V : Type 0} where
  -- a call that was led on a place was led there
  pub led_longer : (h more : List (Event ℕ V)) (k : ℕ) (c : CallId) → was_led_on h k c ≡ true → was_led_on (h ++ more) k c ≡ true
  led_longer h more k c led = list_any-append (leads_on k c) h more ∙ or_left (list_any (leads_on k c) h) (list_any (leads_on k c) more) led

  -- the Lead of a call that was led is by the call's caller, who is one of the setting
  pub led_caller : (z : Setting) (h : List (Event ℕ V)) (k : ℕ) (c : CallId) → IsLegal nat_eq h → All (λ e. IsCaller z (maker e)) h → was_led_on h k c ≡ true → IsCaller z c.caller
  led_caller z h k c legal made led = find_in h [] legal made led
    where
      here : (p q : List (Event ℕ V)) (e : Event ℕ V) → IsLegal nat_eq (p ++ e ∷ q) → IsCaller z (maker e) → leads_on k c e ≡ true → IsCaller z c.caller
      here p q (Lead by at d own) legal by_caller is =
          let same : d ≡ c = same_call_is d c (and_parts (at == k) (same_call d c) is).1 in
          let by_is : by ≡ c.caller = (legal p q (Lead by at d own) refl).0 ∙ ap (λ (x : CallId). x.caller) same in
          subst (IsCaller z) by_is by_caller
      here p q (Enter by at d member) legal by_caller is = absurd (true≢false (sym is))
      here p q (Forget by at closed) legal by_caller is = absurd (true≢false (sym is))
      here p q (ForgetCall by at d hit) legal by_caller is = absurd (true≢false (sym is))
      here p q (Settle by d result joiners) legal by_caller is = absurd (true≢false (sym is))
      here p q (Handed by d) legal by_caller is = absurd (true≢false (sym is))

      find_in : (q p : List (Event ℕ V)) → IsLegal nat_eq (p ++ q) → All (λ e. IsCaller z (maker e)) q → list_any (leads_on k c) q ≡ true → IsCaller z c.caller
      find_in [] p legal made is = absurd (true≢false (sym is))
      find_in (e ∷ q) p legal made is = elim (or_cases (leads_on k c e) (list_any (leads_on k c) q) is) [
        | inl now ↦ here p q e legal (All-head (λ (x : Event ℕ V). IsCaller z (maker x)) e q made) now
        | inr later ↦ find_in q (p ++ e ∷ []) (subst (λ (h : List (Event ℕ V)). IsLegal nat_eq h) (sym (append_assoc p (e ∷ []) q)) legal) (All-tail (λ (x : Event ℕ V). IsCaller z (maker x)) e q made) later
      ]

  -- the same of what a seat knows
  pub led_known : (z : Sizes) (k : ℕ) (c : CallId) (s : List (Turn V)) → IsSchedule (setting_of z) s → was_led_on (history_of z s) k c ≡ true → IsCaller (setting_of z) c.caller
  led_known z k c s is led = led_caller (setting_of z) (history_of z s) k c (schedules_are_legal (setting_of z) s is) (makers_are_callers (setting_of z) s is) led

  questioning_alone : (k : ℕ) (c : CallId) (step : CurrentStep) → IsAlone {V = V} (stage.Questioning k c step)
  questioning_alone k c step d is = cc

  current_ran : (z : Setting) (h : List (Event ℕ V)) (w : World V) (a k : ℕ) (c : CallId) → IsCaller z a → IsPlace z k → was_led_on h k c ≡ true → w.stages a ≡ stage.Free
      → Ran z h w (turn.Start a (op.Current k c) ∷ []) (with_stage w a (stage.Questioning k c current.Peek)) []
  current_ran z h w a k c caller place led at = record { allowed = ((caller, (place, at), led), tt); world = ap (λ q. started w a (op.Current k c) q) at; events = refl }

  -- peek
  abbrev asked : World V → ℕ → ℕ → CallId → World V
  asked w a k c = with_stage w a (stage.Questioning k c current.Peek)

  started_peek : (z : Sizes) (a k : ℕ) (c : CallId) (s : List (Turn V)) → IsCaller (setting_of z) a → IsPlace (setting_of z) k → was_led_on (history_of z s) k c ≡ true → (world_of z s).stages a ≡ stage.Free
      → Ran (setting_of z) (history_of z s) (world_of z s) (question_turns a k c) (current_stepped (asked (world_of z s) a k c) a k c current.Peek) []
  started_peek z a k c s caller place led at =
      let w : World V = world_of z s in
      let u : World V = asked w a k c in
      ran_then (setting_of z) (history_of z s) w u (current_stepped u a k c current.Peek) (turn.Start a (op.Current k c) ∷ []) (turn.Step a ∷ []) [] []
      (current_ran (setting_of z) (history_of z s) w a k c caller place led at)
      (step_ran (setting_of z) (history_of z s ++ []) u a (stage.Questioning k c current.Peek) caller tt (put_here w.stages a (stage.Questioning k c current.Peek)))

  led_comes : (z : Sizes) (v : View V) (s : List (Turn V)) (k : ℕ) (c : CallId) → was_led_on (history_of z v.known.turns) k c ≡ true → Comes z v s → was_led_on (history_of z s) k c ≡ true
  led_comes z v s k c led comes =
      let grown : history_of z s ≡ history_of z v.known.turns ++ adds (world_of z v.known.turns) comes.later.between = ap (history_of z) comes.later.turns ∙ adds_append (first_world z.callers z.first) v.known.turns comes.later.between in
      subst (λ (h : List (Event ℕ V)). was_led_on h k c ≡ true) (sym grown) (led_longer (history_of z v.known.turns) (adds (world_of z v.known.turns) comes.later.between) k c led)

  pub question_peek_move : (z : Sizes) (a k : ℕ) (c : CallId) (v : View V) → IsPlace (setting_of z) k → was_led_on (history_of z v.known.turns) k c ≡ true → Sits z a v stage.Free
      → Moves z v (call c.caller) (λ n. n) (λ _. question_turns a k c)
  question_peek_move z a k c v place led free = moves_by z a v stage.Free (call c.caller) (λ n. n) (λ _. question_turns a k c) free free_alone
      (λ s comes at used n found.
      let w : World V = world_of z s in
      let u : World V = current_stepped (asked w a k c) a k c current.Peek in (
        ((λ b e. inl e), ((λ b e. inl e), tt)),
        record { world = u; events = []; ran = started_peek z a k c s free.caller place (led_comes z v s k c led comes) at; writes = writes_none z.callers w u (call c.caller) n found refl refl refl; cells = refl },
      ))

  pub question_peek_told : (z : Sizes) (a k n : ℕ) (c : CallId) (v w : View V) (x : CallState) → IsPlace (setting_of z) k → was_led_on (history_of z v.known.turns) k c ≡ true → Sits z a v stage.Free
      → Found (call c.caller) (λ _. question_turns a k c) z v n w → ((y : CallState) → IsCallFor z.callers y → call_code y ≡ n → x ≡ y) → HasPeeked z a k c v w (is_forgot_in c.generation x)
  question_peek_told z a k n c v w x place led free found says =
      let m = found.0 in
      let w₀ : World V = world_of z m.before in
      let is : x ≡ w₀.calls c.caller = says (w₀.calls c.caller) (m.comes.lawful.calls c.caller) (sym found.1) in
      let q : CallState → Stage V = λ y. current_peeked k c (is_forgot_in c.generation y) in
      let mid : World V = asked w₀ a k c in
      let u : World V = current_stepped mid a k c current.Peek in
      let at = stands z a v stage.Free m.before free free_alone m.comes in
      let led_then = led_comes z v m.before k c led m.comes in
      let ran = started_peek z a k c m.before free.caller place led_then at in
      let start = current_ran (setting_of z) (history_of z m.before) w₀ a k c free.caller place led_then at in
      let before : List (Turn V) = m.before ++ turn.Start a (op.Current k c) ∷ [] in
      let there : world_of z before ≡ mid = run_append (first_world z.callers z.first) m.before (turn.Start a (op.Current k c) ∷ []) ∙ start.world in
      record {
        goes = goes_by z a v w stage.Free (q x) (question_turns a k c) u [] [] 0 free free_alone m ran (put_here mid.stages a (q (w₀.calls c.caller)) ∙ ap q (sym is)) refl (omega arith);
        before = before;
        begins = (m.comes.later.between ++ turn.Start a (op.Current k c) ∷ [], ap (λ ts. ts ++ turn.Start a (op.Current k c) ∷ []) m.comes.later.turns ∙ append_assoc v.known.turns m.comes.later.between (turn.Start a (op.Current k c) ∷ []));
        peeked = ap (λ (y : View V). y.known.turns) m.view ∙ sym (append_assoc m.before (turn.Start a (op.Current k c) ∷ []) (turn.Step a ∷ []));
        asks = ap (λ (y : World V). y.stages a) there ∙ put_here w₀.stages a (stage.Questioning k c current.Peek);
        found = ap (λ (y : World V). is_forgot_in c.generation (y.calls c.caller)) there ∙ ap (is_forgot_in c.generation) (sym is);
      }

  -- the step that peeks, or looks, adds nothing
  same_history : (z : Sizes) (a k : ℕ) (c : CallId) (step : CurrentStep) (before : List (Turn V)) → (world_of z before).stages a ≡ stage.Questioning k c step → history_of z (before ++ turn.Step a ∷ []) ≡ history_of z before
  same_history z a k c step before at =
      adds_append (first_world z.callers z.first) before (turn.Step a ∷ []) ∙ (ap (λ es. history_of z before ++ es) nothing ∙ append-nil (history_of z before))
    where
      nothing : adds (world_of z before) (turn.Step a ∷ []) ≡ []
      nothing = append-nil (step_events (world_of z before) a ((world_of z before).stages a)) ∙ ap (λ (q : Stage V). step_events (world_of z before) a q) at

  -- a no of the peek is right at it
  pub peeked_forgot : (z : Sizes) (a k : ℕ) (c : CallId) (v w : View V) (forgot : Bool) → HasPeeked z a k c v w forgot → forgot ≡ true → current_call nat_eq (history_of z w.known.turns) k ≢ Some c
  peeked_forgot z a k c v w forgot peek is =
      let before : List (Turn V) = peek.before in
      let whole : IsSchedule (setting_of z) (before ++ turn.Step a ∷ []) = subst (λ s. IsSchedule (setting_of z) s) peek.peeked peek.goes.sits.schedule in
      let front = (schedule_parts (setting_of z) before (turn.Step a ∷ []) [] (first_world z.callers z.first) whole).0 in
      let answer : current_answer (world_of z before) k c current.Peek ≡ Some false = ap (λ (b : Bool). if b then Some false else None) (peek.found ∙ is) in
      let outdated : is_current_after z.callers z.first before k c ≡ false = sym (peeks_are_right (setting_of z) before front a k c false peek.asks answer) in
      let same : history_of z w.known.turns ≡ history_of z before = ap (history_of z) peek.peeked ∙ same_history z a k c current.Peek before peek.asks in
      subst (λ (h : List (Event ℕ V)). current_call nat_eq h k ≢ Some c) (sym same) (not_held (current_call nat_eq (history_of z before) k) c outdated)

  pub goes_peeked : (z : Sizes) (a k : ℕ) (c : CallId) (v w : View V) (forgot b : Bool) → HasPeeked z a k c v w forgot → forgot ≡ b → Goes z a v w (current_peeked k c b) [] 0
  goes_peeked z a k c v w forgot b peek is = subst (λ (x : Bool). Goes z a v w (current_peeked k c x) [] 0) is peek.goes

  -- look
  pub question_look_move : (z : Sizes) (a k : ℕ) (c : CallId) (v : View V) → Sits z a v (stage.Questioning k c current.Look) → Moves z v (key k) (λ n. n) (λ _. turn.Step a ∷ [])
  question_look_move z a k c v sits = moves_by z a v (stage.Questioning k c current.Look) (key k) (λ n. n) (λ _. turn.Step a ∷ []) sits (questioning_alone k c current.Look)
      (λ s comes at used n found.
      let w : World V = world_of z s in
      let u : World V = current_stepped w a k c current.Look in (
        ((λ b e. inl e), tt),
        record { world = u; events = []; ran = step_ran (setting_of z) (history_of z s) w a (stage.Questioning k c current.Look) sits.caller tt at; writes = writes_none z.callers w u (key k) n found refl refl refl; cells = refl },
      ))

  pub question_look_told : (z : Sizes) (a k n : ℕ) (c : CallId) (v w : View V) (x : KeyState) → Sits z a v (stage.Questioning k c current.Look) → Found (key k) (λ _. turn.Step a ∷ []) z v n w
      → ((y : KeyState) → IsKeyFor z.callers y → key_code y ≡ n → x ≡ y) → HasLooked z a k c v w (same_key x (key_of c))
  question_look_told z a k n c v w x sits found says =
      let m = found.0 in
      let p : Stage V = stage.Questioning k c current.Look in
      let w₀ : World V = world_of z m.before in
      let is : x ≡ w₀.keys k = says (w₀.keys k) (m.comes.lawful.keys k) (sym found.1) in
      let at = stands z a v p m.before sits (questioning_alone k c current.Look) m.comes in
      let ran = step_ran (setting_of z) (history_of z m.before) w₀ a p sits.caller tt at in
      record {
        goes = goes_by z a v w p stage.Free (turn.Step a ∷ []) (current_stepped w₀ a k c current.Look) [] [] 0 sits (questioning_alone k c current.Look) m ran (put_here w₀.stages a stage.Free) refl (omega arith);
        before = m.before;
        begins = (m.comes.later.between, m.comes.later.turns);
        looked = ap (λ (y : View V). y.known.turns) m.view;
        asks = at;
        answered = ap (λ (y : KeyState). Some (same_key y (key_of c))) (sym is);
      }

  -- a peek and a look
  pub record Answers (z : Sizes) (k : ℕ) (c : CallId) (v w : View V) (answer : Bool) : Type 0 where
    pub right : answer ≡ true → WasCurrent z k c v w
    pub outdated : answer ≡ false → current_call nat_eq (history_of z w.known.turns) k ≢ Some c

  pub looked_after : (z : Sizes) (a k : ℕ) (c : CallId) (v u w : View V) (forgot answer : Bool) → HasPeeked z a k c v u forgot → forgot ≡ false → HasLooked z a k c u w answer → Answers z k c v w answer
  looked_after z a k c v u w forgot answer peek unforgot look = record {
    right = λ yes. record {
      moment = p;
      begins = peek.begins;
      within = (turn.Step a ∷ rest ++ turn.Step a ∷ [], look.looked ∙ (ap (λ ts. ts ++ turn.Step a ∷ []) split ∙ append_assoc p (turn.Step a ∷ rest) (turn.Step a ∷ [])));
      is = held_some (current_call nat_eq (history_of z p) k) c (both.0 (answered ∙ ap (λ b. Some b) yes));
    };
    outdated = λ no_such.
        subst (λ (h : List (Event ℕ V)). current_call nat_eq h k ≢ Some c) (sym same) (not_held (current_call nat_eq (history_of z (p ++ turn.Step a ∷ rest)) k) c (both.1 (answered ∙ ap (λ b. Some b) no_such)));
  }
    where
      p : List (Turn V)
      p = peek.before

      rest : List (Turn V)
      rest = look.begins.0

      split : look.before ≡ p ++ turn.Step a ∷ rest
      split = look.begins.1 ∙ (ap (λ ts. ts ++ rest) peek.peeked ∙ append_assoc p (turn.Step a ∷ []) rest)

      whole : IsSchedule (setting_of z) (p ++ turn.Step a ∷ rest)
      whole = subst (λ s. IsSchedule (setting_of z) s) split
          (schedule_parts (setting_of z) look.before (turn.Step a ∷ []) [] (first_world z.callers z.first) (subst (λ s. IsSchedule (setting_of z) s) look.looked look.goes.sits.schedule)).0

      looks : (world_of z (p ++ turn.Step a ∷ [])).stages a ≡ stage.Questioning k c current.Look
      looks = ap (λ ts. (world_of z ts).stages a) (sym peek.peeked) ∙ (peek.goes.sits.stage ∙ ap (current_peeked k c) unforgot)

      answered : current_answer (world_of z (p ++ turn.Step a ∷ rest)) k c current.Look ≡ Some answer
      answered = ap (λ ts. current_answer (world_of z ts) k c current.Look) (sym split) ∙ look.answered

      both : (current_answer (world_of z (p ++ turn.Step a ∷ rest)) k c current.Look ≡ Some true → is_current_after z.callers z.first p k c ≡ true)
          × (current_answer (world_of z (p ++ turn.Step a ∷ rest)) k c current.Look ≡ Some false → is_current_after z.callers z.first (p ++ turn.Step a ∷ rest) k c ≡ false)
      both = yes_at_the_peek_no_at_the_look (setting_of z) p rest a k c whole peek.asks looks

      same : history_of z w.known.turns ≡ history_of z (p ++ turn.Step a ∷ rest)
      same = ap (history_of z) look.looked ∙ (same_history z a k c current.Look look.before look.asks ∙ ap (history_of z) split)

  -- the question which call the key word names
  naming_alone : (k : ℕ) → IsAlone {V = V} (stage.Naming k)
  naming_alone k d is = cc

  abbrev naming : World V → ℕ → ℕ → World V
  naming w a k = with_stage w a (stage.Naming k)

  started_naming : (z : Sizes) (a k : ℕ) (s : List (Turn V)) → IsCaller (setting_of z) a → IsPlace (setting_of z) k → (world_of z s).stages a ≡ stage.Free
      → Ran (setting_of z) (history_of z s) (world_of z s) (named_turns a k) (with_stage (naming (world_of z s) a k) a stage.Free) []
  started_naming z a k s caller place at =
      let w : World V = world_of z s in
      let u : World V = naming w a k in
      ran_then (setting_of z) (history_of z s) w u (with_stage u a stage.Free) (turn.Start a (op.Named k) ∷ []) (turn.Step a ∷ []) [] []
      (named_ran (setting_of z) (history_of z s) w a k caller place at)
      (step_ran (setting_of z) (history_of z s ++ []) u a (stage.Naming k) caller tt (put_here w.stages a (stage.Naming k)))

  pub named_move : (z : Sizes) (a k : ℕ) (v : View V) → IsPlace (setting_of z) k → Sits z a v stage.Free → Moves z v (key k) (λ n. n) (λ _. named_turns a k)
  named_move z a k v place free = moves_by z a v stage.Free (key k) (λ n. n) (λ _. named_turns a k) free free_alone
      (λ s comes at used n found.
      let w : World V = world_of z s in
      let u : World V = with_stage (naming w a k) a stage.Free in (
        ((λ b e. inl e), ((λ b e. inl e), tt)),
        record { world = u; events = []; ran = started_naming z a k s free.caller place at; writes = writes_none z.callers w u (key k) n found refl refl refl; cells = refl },
      ))

  pub named_told : (z : Sizes) (a k n : ℕ) (v w : View V) (x : KeyState) → IsPlace (setting_of z) k → Sits z a v stage.Free → Found (key k) (λ _. named_turns a k) z v n w
      → ((y : KeyState) → IsKeyFor z.callers y → key_code y ≡ n → x ≡ y) → Goes z a v w stage.Free [] 0 × IsNamed (history_of z w.known.turns) k (named_by x)
  named_told z a k n v w x place free found says =
      let m = found.0 in
      let w₀ : World V = world_of z m.before in
      let mid : World V = naming w₀ a k in
      let u : World V = with_stage mid a stage.Free in
      let is : x ≡ w₀.keys k = says (w₀.keys k) (m.comes.lawful.keys k) (sym found.1) in
      let ran = started_naming z a k m.before free.caller place (stands z a v stage.Free m.before free free_alone m.comes) in
      let goes = goes_by z a v w stage.Free stage.Free (named_turns a k) u [] [] 0 free free_alone m ran (put_here mid.stages a stage.Free) refl (omega arith) in
      let world_is : world_of z w.known.turns ≡ u = ap (λ (y : View V). world_of z y.known.turns) m.view ∙ (run_append (first_world z.callers z.first) m.before (named_turns a k) ∙ ran.world) in
      let known : (world_of z w.known.turns).keys k ≡ x = ap (λ (y : World V). y.keys k) world_is ∙ sym is in
      (goes, subst (λ (y : KeyState). IsNamed (history_of z w.known.turns) k (named_by y)) known (names_are_right (setting_of z) w.known.turns goes.sits.schedule k))

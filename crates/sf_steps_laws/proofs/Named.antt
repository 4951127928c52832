-- what turns leave of callers that they do not name, and who makes events
use Rattle.std.proofs.Common.{◌≡◌, ◌≢◌, ℕ, Bool, true, false, ◌==◌, List, [], ◌∷◌, ◌++◌, ◌⊎◌, inl, inr, Option, Some, None, refl, sym, ◌∙◌, ap, subst, append_assoc, ne_eqb}
use Rattle.std.specs.Prelude.{filter}
use Rattle.std.specs.List.{All}
use Rattle.std.proofs.lemmas.List.{append-nil}
use Rattle.std.proofs.lemmas.List.Elements.{filter-append, All-nil, All-cons, All-append}
use Rattle.std.proofs.lemmas.Bool.{cond-false}
use mathlib.Core.Logic.{dite}
use native.Mathlib.Decide.{dec_le}
use Rattle.sf_history.specs.declared.call.CallId.{CallId}
use Rattle.sf_history.specs.declared.event.Event.{Event}
use Rattle.sf_history.specs.declared.event.Event.TheVariants.{ForgetCall}
use Rattle.sf_history.specs.declared.event.Hit.TheVariants.{Missed}
use Rattle.sf_history.specs.History.{maker}
use Rattle.sf_words.specs.declared.key_word.KeyState.{KeyState}
use Rattle.sf_words.specs.declared.key_word.KeyState.TheVariants.{Never, Names}
use Rattle.sf_words.specs.declared.call_word.LeaderState.{LeaderState}
use Rattle.sf_words.specs.declared.call_word.CallState.{CallState}
use Rattle.sf_words.specs.declared.call_word.CallState.TheVariants as word
use Rattle.sf_steps_laws.specs.declared.operation.Op.TheVariants as op
use Rattle.sf_steps_laws.specs.declared.operation.Stage.{Stage}
use Rattle.sf_steps_laws.specs.declared.operation.Stage.TheVariants as stage
use Rattle.sf_steps_laws.specs.declared.operation.AskStep.{AskStep}
use Rattle.sf_steps_laws.specs.declared.operation.AskStep.TheVariants as ask
use Rattle.sf_steps_laws.specs.declared.operation.SettleStep.{SettleStep}
use Rattle.sf_steps_laws.specs.declared.operation.SettleStep.TheVariants as settle
use Rattle.sf_steps_laws.specs.declared.operation.ForgetStep.{ForgetStep}
use Rattle.sf_steps_laws.specs.declared.operation.ForgetStep.TheVariants as forget
use Rattle.sf_steps_laws.specs.declared.turn.Turn.{Turn}
use Rattle.sf_steps_laws.specs.declared.turn.Turn.TheVariants as turn
use Rattle.sf_steps_laws.specs.World.{World, first_world, same_key, key_of, is_open_with, count, is_forgot_in}
use Rattle.sf_steps_laws.specs.Turns.{misses, turned}
use Rattle.sf_steps_laws.specs.Askings.{joiner}
use Rattle.sf_steps_laws.specs.Events.{handed, settled, lead_events, enter_events, ask_events, peek_events, close_events, settle_events, closes, clears, key_look_events, missed_unless, look_events, forget_one, forget_events, step_events, turn_events, adds, events_of, world_after}
use Rattle.sf_steps_laws.specs.Schedules.{Setting, IsCaller, IsTurn, IsScheduleFrom, IsSchedule}
use Rattle.sf_steps_laws.specs.Left.{Concerns, AreOthers}
use Rattle.sf_steps_laws.proofs.Sound.{GoodSecond, Good, Sound}
use Rattle.sf_steps_laws.proofs.RightAnswers.{run_append, adds_append, schedule_parts, always, always_fair}
use Rattle.sf_steps_laws.proofs.LeftAlone.{others_are_left, own_turns_decide}
use Rattle.sf_steps_laws.proofs.Flags.{turn_fair}
use Rattle.sf_steps_laws.proofs.Callers.{Fair}
use Rattle.sf_steps_laws.specs.Named as named
use Rattle.sf_steps_laws.specs.Named.{Spares, SparedAreLeft, OthersAddNothing, MakersAreCallers}
use Rattle.sf_history.specs.History.{own_events}

is_caller : (z : Setting) (b : ℕ) → IsCaller z b ⊎ (IsCaller z b → ⊥)
is_caller z b = dite (dec_le 1 b) (λ low. dite (dec_le b z.callers) (λ high. inl (low, high)) (λ high. inr (λ is. high is.1))) (λ low. inr (λ is. low is.0))

module _ {V : Type 0} where
  -- the caller serves no first
  abbrev pub IsAlone : Stage V → Type 0
  IsAlone s = (c : ℕ) → s ≢ stage.Seconding c

  unconcerned : (w : World V) (t : Turn V) (b : ℕ) → (named.Names t b → ⊥) → ((d : ℕ) → w.stages b ≡ stage.Seconding d → named.Names t d → ⊥) → Concerns w t b → ⊥
  unconcerned w (turn.Start a (op.Ask k)) b spares first is = spares (sym is)
  unconcerned w (turn.Start a (op.Chan second k)) b spares first (inl is) = spares (inl (sym is))
  unconcerned w (turn.Start a (op.Chan second k)) b spares first (inr is) = spares (inr (sym is))
  unconcerned w (turn.Start a (op.Settle v)) b spares first is = spares (sym is)
  unconcerned w (turn.Start a (op.Forget k)) b spares first is = spares (sym is)
  unconcerned w (turn.Start a (op.ForgetCall k d)) b spares first is = spares (sym is)
  unconcerned w (turn.Start a (op.Named k)) b spares first is = spares (sym is)
  unconcerned w (turn.Start a op.Poll) b spares first is = spares (sym is)
  unconcerned w (turn.Start a (op.Current k c)) b spares first is = spares (sym is)
  unconcerned w (turn.Step a) b spares first (inl is) = spares (sym is)
  unconcerned w (turn.Step a) b spares first (inr is) = first a is refl
  unconcerned w (turn.Leave a) b spares first (inl is) = spares (sym is)
  unconcerned w (turn.Leave a) b spares first (inr is) = first a is refl

  pub spared_are_left : SparedAreLeft V
  spared_are_left z s [] is b spares first = tt
  spared_are_left z s (t ∷ ts) is b spares first =
      let w : World V = world_after z.callers z.first s in
      let parts : IsSchedule z ((s ++ t ∷ []) ++ ts) = subst (λ (q : List (Turn V)). IsSchedule z q) (sym (append_assoc s (t ∷ []) ts)) is in
      let one = (schedule_parts z (s ++ t ∷ []) ts [] (first_world z.callers z.first) parts).0 in
      let there : world_after z.callers z.first (s ++ t ∷ []) ≡ turned w t = run_append (first_world z.callers z.first) s (t ∷ []) in
      let free : Concerns w t b → ⊥ = unconcerned w t b spares.0 (λ d seconds. (first d seconds).0) in
      let here = others_are_left z s t one b free in
      (free, subst (λ (u : World V). AreOthers u ts b) there (spared_are_left z (s ++ t ∷ []) ts parts b spares.1 (λ d seconds. (first d (sym here.stage ∙ seconds)).1)))

  -- turns that do not name a caller are others', if it is no second
  pub spared_others : (z : Setting) (s ts : List (Turn V)) (b : ℕ) → IsSchedule z (s ++ ts) → Spares ts b → IsAlone ((world_after z.callers z.first s).stages b) → AreOthers (world_after z.callers z.first s) ts b
  spared_others z s ts b is spares alone = spared_are_left z s ts is b spares (λ d seconds. absurd (alone d seconds))

  -- so its stage and its next generation stay
  pub spared_stage : (z : Setting) (s ts : List (Turn V)) (b : ℕ) → IsSchedule z (s ++ ts) → Spares ts b → IsAlone ((world_after z.callers z.first s).stages b) → (world_after z.callers z.first (s ++ ts)).stages b ≡ (world_after z.callers z.first s).stages b
  spared_stage z s ts b is spares alone = (own_turns_decide z s ts is b (spared_others z s ts b is spares alone)).0

  pub spared_generation : (z : Setting) (s ts : List (Turn V)) (b : ℕ) → IsSchedule z (s ++ ts) → Spares ts b → IsAlone ((world_after z.callers z.first s).stages b) → (world_after z.callers z.first (s ++ ts)).generations b ≡ (world_after z.callers z.first s).generations b
  spared_generation z s ts b is spares alone = (own_turns_decide z s ts is b (spared_others z s ts b is spares alone)).1

  -- the fact holds of each event, by recursion
  abbrev Each : (Event ℕ V → Type 0) → List (Event ℕ V) → Type 0
  Each P [] = Unit {0}
  Each P (e ∷ es) = P e × Each P es

  -- whom the step of a caller concerns
  abbrev By : World V → ℕ → Event ℕ V → Type 0
  By w a e = (maker e ≡ a) ⊎ (w.stages (maker e) ≡ stage.Seconding a)

  handed_by : (w : World V) (a : ℕ) (c : CallId) (own : Option CallId) (top : Option ℕ) → Each (By w a) (handed a c own top)
  handed_by w a c None None = (inl refl, tt)
  handed_by w a c None (Some m) = tt
  handed_by w a c (Some o) None = tt
  handed_by w a c (Some o) (Some m) = tt

  settled_by : (w : World V) (a : ℕ) (c : CallId) (own : Option CallId) (v : V) (top : Option ℕ) → Each (By w a) (settled a c own v (count top w.callers w.nexts) top)
  settled_by w a c own v top = (inl refl, handed_by w a c own top)

  lead_by : (w : World V) (a k : ℕ) (s : Option ℕ) (b : Bool) → Each (By w a) (lead_events w a k s b)
  lead_by w a k s false = tt
  lead_by w a k s true = (inl refl, tt)

  enter_by : (w : World V) (a k : ℕ) (c : CallId) (s : Option ℕ) (b : Bool) → GoodSecond w a s → Each (By w a) (enter_events w k c (joiner a s) b)
  enter_by w a k c s false good = tt
  enter_by w a k c None true good = (inl refl, tt)
  enter_by w a k c (Some j) true good = (inr good, tt)

  peek_by : (w : World V) (a : ℕ) (c : CallId) (own : Option CallId) (v : V) (x : CallState) → Each (By w a) (peek_events w a c own v x)
  peek_by w a c own v word.Free = tt
  peek_by w a c own v (word.Open s) = tt
  peek_by w a c own v (word.Forgot s) = settled_by w a c own v s.top
  peek_by w a c own v (word.Done s) = tt
  peek_by w a c own v (word.Listed g) = tt
  peek_by w a c own v (word.Full g) = tt

  close_by : (w : World V) (a : ℕ) (c : CallId) (own : Option CallId) (v : V) (seen : LeaderState) (b : Bool) → Each (By w a) (close_events w a c own v seen b)
  close_by w a c own v seen false = tt
  close_by w a c own v seen true = settled_by w a c own v seen.top

  -- each event of a forget is of the caller that makes it
  closes_by : (w : World V) (a k : ℕ) (target : Option CallId) (c : CallId) → maker {K = ℕ} {V = V} (closes a k target c) ≡ a
  closes_by w a k None c = refl
  closes_by w a k (Some d) c = refl

  clears_by : (w : World V) (a k : ℕ) (target : Option CallId) (c : CallId) → maker {K = ℕ} {V = V} (clears a k target c) ≡ a
  clears_by w a k None c = refl
  clears_by w a k (Some d) c = refl

  forget_by : (w : World V) (a : ℕ) (e : Event ℕ V) (b : Bool) → maker e ≡ a → Each (By w a) (forget_one e b)
  forget_by w a e false is = tt
  forget_by w a e true is = (inl is, tt)

  key_look_by : (w : World V) (a k : ℕ) (x : KeyState) → Each (By w a) (key_look_events a k x)
  key_look_by w a k Never = (inl refl, tt)
  key_look_by w a k (Names b g true) = (inl refl, tt)
  key_look_by w a k (Names b g false) = tt

  missed_by : (w : World V) (a k : ℕ) (c : CallId) (b : Bool) → Each (By w a) (missed_unless a k c b)
  missed_by w a k c false = (inl refl, tt)
  missed_by w a k c true = tt

  look_by : (w : World V) (a k : ℕ) (target : Option CallId) (x : KeyState) → Each (By w a) (look_events a k target x)
  look_by w a k None x = key_look_by w a k x
  look_by w a k (Some c) x = missed_by w a k c (same_key x (key_of c))

  ask_by : (w : World V) (a k : ℕ) (s : Option ℕ) (step : AskStep) → GoodSecond w a s → Each (By w a) (ask_events w a k s step)
  ask_by w a k s (ask.Look failed) good = tt
  ask_by w a k s (ask.Peek c) good = tt
  ask_by w a k s (ask.ReadyOwn seen f) good = tt
  ask_by w a k s (ask.ReadyLead seen f) good = tt
  ask_by w a k s (ask.Lead seen f) good = lead_by w a k s (same_key (w.keys k) seen)
  ask_by w a k s (ask.ReadyJoin c seen) good = tt
  ask_by w a k s (ask.Link c seen) good = tt
  ask_by w a k s (ask.Enter c seen) good = enter_by w a k c s (is_open_with seen (w.calls c.caller)) good

  settle_by : (w : World V) (a : ℕ) (c : CallId) (own : Option CallId) (v : V) (step : SettleStep) → Each (By w a) (settle_events w a c own v step)
  settle_by w a c own v settle.Peek = peek_by w a c own v (w.calls a)
  settle_by w a c own v (settle.Close seen) = close_by w a c own v seen (is_open_with seen (w.calls a))
  settle_by w a c own v (settle.Clear top) = tt
  settle_by w a c own v (settle.Count n m top) = tt
  settle_by w a c own v (settle.Follow joiners m) = tt
  settle_by w a c own v (settle.PeekMember joiners m next) = tt
  settle_by w a c own v (settle.Deliver joiners m next) = handed_by w a c own next
  settle_by w a c own v (settle.PeekOwn joiners) = tt
  settle_by w a c own v (settle.DeliverOwn joiners m) = (inl refl, tt)

  forgets_by : (w : World V) (a k : ℕ) (target : Option CallId) (step : ForgetStep) → Each (By w a) (forget_events w a k target step)
  forgets_by w a k target (forget.Look failed) = look_by w a k target (w.keys k)
  forgets_by w a k target (forget.Peek c) = forget_by w a (ForgetCall a k c Missed) (misses target (is_forgot_in c.generation (w.calls c.caller))) refl
  forgets_by w a k target (forget.Close c seen) = forget_by w a (closes a k target c) (is_open_with seen (w.calls c.caller)) (closes_by w a k target c)
  forgets_by w a k target (forget.FirstClear c) = forget_by w a (clears a k target c) (same_key (w.keys k) (key_of c)) (clears_by w a k target c)
  forgets_by w a k target (forget.LastClear c) = tt

  step_by : (first : ℕ) (h : List (Event ℕ V)) (w : World V) (a : ℕ) (p : Stage V) → w.stages a ≡ p → Sound first h w → Each (By w a) (step_events w a p)
  step_by first h w a stage.Free at sound = tt
  step_by first h w a (stage.Leading k g own) at sound = tt
  step_by first h w a (stage.Holding k g c) at sound = tt
  step_by first h w a (stage.Polling k g c) at sound = tt
  step_by first h w a (stage.Seconding one) at sound = tt
  step_by first h w a (stage.Asking k s step) at sound =
      let good : Good h w a (stage.Asking k s step) = subst (λ (q : Stage V). Good h w a q) at (sound.callers a).good in
      ask_by w a k s step good.0
  step_by first h w a (stage.Settling k g own v step) at sound = settle_by w a (record { caller = a; generation = g }) own v step
  step_by first h w a (stage.Forgetting k target step) at sound = forgets_by w a k target step
  step_by first h w a (stage.Naming k) at sound = tt
  step_by first h w a (stage.Questioning k c step) at sound = tt

  -- the maker of each event is one whom the turn concerns
  turn_by : (first : ℕ) (h : List (Event ℕ V)) (w : World V) (t : Turn V) → Sound first h w → Each (λ (e : Event ℕ V). Concerns w t (maker e)) (turn_events w t)
  turn_by first h w (turn.Start a o) sound = tt
  turn_by first h w (turn.Step a) sound = step_by first h w a (w.stages a) refl sound
  turn_by first h w (turn.Leave a) sound = tt

  none_of : (w : World V) (t : Turn V) (b : ℕ) (es : List (Event ℕ V)) → Each (λ (e : Event ℕ V). Concerns w t (maker e)) es → (Concerns w t b → ⊥) → filter (λ (e : Event ℕ V). maker e == b) es ≡ []
  none_of w t b [] by free = refl
  none_of w t b (e ∷ es) by free =
      let other : (maker e == b) ≡ false = ne_eqb (maker e) b (λ is. free (subst (λ n. Concerns w t n) is by.0)) in
      cond-false _ _ _ other ∙ none_of w t b es by.1 free

  -- others' turns add no event of the caller
  pub others_none : (z : Setting) (ts : List (Turn V)) (h : List (Event ℕ V)) (w : World V) (b : ℕ) → Fair z h w → IsScheduleFrom z h w ts → AreOthers w ts b → filter (λ (e : Event ℕ V). maker e == b) (adds w ts) ≡ []
  others_none z [] h w b sound is others = refl
  others_none z (t ∷ ts) h w b sound is others =
      filter-append (λ (e : Event ℕ V). maker e == b) (turn_events w t) (adds (turned w t) ts)
      ∙ (ap (λ q. q ++ filter (λ (e : Event ℕ V). maker e == b) (adds (turned w t) ts)) (none_of w t b (turn_events w t) (turn_by z.first h w t sound.sound) others.0)
      ∙ others_none z ts (h ++ turn_events w t) (turned w t) b (turn_fair z h w t sound is.0) is.1 others.1)

  pub others_add_nothing : OthersAddNothing V
  others_add_nothing z s ts is b others =
      let parts = schedule_parts z s ts [] (first_world z.callers z.first) is in
      let none : own_events b (adds (world_after z.callers z.first s) ts) ≡ [] = others_none z ts (events_of z.callers z.first s) (world_after z.callers z.first s) b (always_fair z s parts.0) parts.1 others in
      ap (own_events b) (adds_append (first_world z.callers z.first) s ts)
      ∙ (filter-append (λ (e : Event ℕ V). maker e == b) (events_of z.callers z.first s) (adds (world_after z.callers z.first s) ts)
      ∙ (ap (λ (es : List (Event ℕ V)). own_events b (events_of z.callers z.first s) ++ es) none ∙ append-nil (own_events b (events_of z.callers z.first s))))

  -- who is no caller is named by no turn, and has no stage but free
  turn_named : (z : Setting) (h : List (Event ℕ V)) (w : World V) (t : Turn V) (b : ℕ) → IsTurn z h w t → named.Names t b → IsCaller z b
  turn_named z h w (turn.Start a (op.Ask k)) b is named = subst (IsCaller z) named is.0
  turn_named z h w (turn.Start a (op.Chan second k)) b is (inl named) = subst (IsCaller z) named is.0
  turn_named z h w (turn.Start a (op.Chan second k)) b is (inr named) = subst (IsCaller z) named is.1.1
  turn_named z h w (turn.Start a (op.Settle v)) b is named = subst (IsCaller z) named is.0
  turn_named z h w (turn.Start a (op.Forget k)) b is named = subst (IsCaller z) named is.0
  turn_named z h w (turn.Start a (op.ForgetCall k d)) b is named = subst (IsCaller z) named is.0
  turn_named z h w (turn.Start a (op.Named k)) b is named = subst (IsCaller z) named is.0
  turn_named z h w (turn.Start a op.Poll) b is named = subst (IsCaller z) named is.0
  turn_named z h w (turn.Start a (op.Current k c)) b is named = subst (IsCaller z) named is.0
  turn_named z h w (turn.Step a) b is named = subst (IsCaller z) named is.0
  turn_named z h w (turn.Leave a) b is named = subst (IsCaller z) named is.0

  outsider_spared : (z : Setting) (ts : List (Turn V)) (h : List (Event ℕ V)) (w : World V) (b : ℕ) → (IsCaller z b → ⊥) → IsScheduleFrom z h w ts → Spares ts b
  outsider_spared z [] h w b out is = tt
  outsider_spared z (t ∷ ts) h w b out is = ((λ named. out (turn_named z h w t b is.0 named)), outsider_spared z ts (h ++ turn_events w t) (turned w t) b out is.1)

  pub outsider_free : (z : Setting) (s : List (Turn V)) (b : ℕ) → (IsCaller z b → ⊥) → IsSchedule z s → (world_after z.callers z.first s).stages b ≡ stage.Free
  outsider_free z s b out is = spared_stage z [] s b is (outsider_spared z s [] (first_world z.callers z.first) b out is) (λ c is. cc)

  -- a second is a caller
  second_caller : (z : Setting) (s : List (Turn V)) (a b : ℕ) → IsSchedule z s → (world_after z.callers z.first s).stages b ≡ stage.Seconding a → IsCaller z b
  second_caller z s a b is serves = elim (is_caller z b) [
    | inl caller ↦ caller
    | inr out ↦ absurd (let clash : ◌≡◌ {A = Stage V} (stage.Seconding a) stage.Free = sym serves ∙ outsider_free z s b out is in cc)
  ]

  concerned_caller : (z : Setting) (s : List (Turn V)) (t : Turn V) (b : ℕ) → IsSchedule z s → IsTurn z (events_of z.callers z.first s) (world_after z.callers z.first s) t → Concerns (world_after z.callers z.first s) t b → IsCaller z b
  concerned_caller z s (turn.Start a (op.Ask k)) b is allowed one = subst (IsCaller z) (sym one) allowed.0
  concerned_caller z s (turn.Start a (op.Chan second k)) b is allowed (inl one) = subst (IsCaller z) (sym one) allowed.0
  concerned_caller z s (turn.Start a (op.Chan second k)) b is allowed (inr one) = subst (IsCaller z) (sym one) allowed.1.1
  concerned_caller z s (turn.Start a (op.Settle v)) b is allowed one = subst (IsCaller z) (sym one) allowed.0
  concerned_caller z s (turn.Start a (op.Forget k)) b is allowed one = subst (IsCaller z) (sym one) allowed.0
  concerned_caller z s (turn.Start a (op.ForgetCall k d)) b is allowed one = subst (IsCaller z) (sym one) allowed.0
  concerned_caller z s (turn.Start a (op.Named k)) b is allowed one = subst (IsCaller z) (sym one) allowed.0
  concerned_caller z s (turn.Start a op.Poll) b is allowed one = subst (IsCaller z) (sym one) allowed.0
  concerned_caller z s (turn.Start a (op.Current k c)) b is allowed one = subst (IsCaller z) (sym one) allowed.0
  concerned_caller z s (turn.Step a) b is allowed (inl one) = subst (IsCaller z) (sym one) allowed.0
  concerned_caller z s (turn.Step a) b is allowed (inr one) = second_caller z s a b is one
  concerned_caller z s (turn.Leave a) b is allowed (inl one) = subst (IsCaller z) (sym one) allowed.0
  concerned_caller z s (turn.Leave a) b is allowed (inr one) = second_caller z s a b is one

  all_callers : (z : Setting) (s : List (Turn V)) (t : Turn V) (es : List (Event ℕ V)) → IsSchedule z s → IsTurn z (events_of z.callers z.first s) (world_after z.callers z.first s) t → Each (λ (e : Event ℕ V). Concerns (world_after z.callers z.first s) t (maker e)) es → All (λ (e : Event ℕ V). IsCaller z (maker e)) es
  all_callers z s t [] is allowed by = All-nil (λ (e : Event ℕ V). IsCaller z (maker e))
  all_callers z s t (e ∷ es) is allowed by = All-cons (λ (d : Event ℕ V). IsCaller z (maker d)) e es (concerned_caller z s t (maker e) is allowed by.0) (all_callers z s t es is allowed by.1)

  makers_from : (z : Setting) (s ts : List (Turn V)) → IsSchedule z (s ++ ts) → All (λ (e : Event ℕ V). IsCaller z (maker e)) (adds (world_after z.callers z.first s) ts)
  makers_from z s [] is = All-nil (λ (e : Event ℕ V). IsCaller z (maker e))
  makers_from z s (t ∷ ts) is =
      let w : World V = world_after z.callers z.first s in
      let parts : IsSchedule z ((s ++ t ∷ []) ++ ts) = subst (λ (q : List (Turn V)). IsSchedule z q) (sym (append_assoc s (t ∷ []) ts)) is in
      let halves = schedule_parts z s (t ∷ ts) [] (first_world z.callers z.first) is in
      let there : world_after z.callers z.first (s ++ t ∷ []) ≡ turned w t = run_append (first_world z.callers z.first) s (t ∷ []) in
      All-append (λ (e : Event ℕ V). IsCaller z (maker e)) (turn_events w t) (adds (turned w t) ts)
      (all_callers z s t (turn_events w t) halves.0 halves.1.0 (turn_by z.first (events_of z.callers z.first s) w t (always z s halves.0)))
      (subst (λ (u : World V). All (λ (e : Event ℕ V). IsCaller z (maker e)) (adds u ts)) there (makers_from z (s ++ t ∷ []) ts parts))

  pub makers_are_callers : MakersAreCallers V
  makers_are_callers z s is = makers_from z [] s is

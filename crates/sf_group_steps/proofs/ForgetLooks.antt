-- the kinds look and peek of a Forget
use Rattle.std.proofs.Common.{◌≡◌, ◌≢◌, ℕ, ◌+◌, Bool, true, false, eq-eqb, List, [], ◌∷◌, ◌++◌, inl, inr, Option, Some, None, refl, sym, ◌∙◌, ap, subst, arith}
use mathlib.Core.Logic.{dite}
use native.Mathlib.Decide.{ℕ_discrete}
use Rattle.std.proofs.lemmas.Bool.{cond-true}
use Rattle.sf_history.specs.declared.call.CallId.{CallId}
use Rattle.sf_history.specs.declared.event.Event.{Event}
use Rattle.sf_history.specs.declared.event.Event.TheVariants as event
use Rattle.sf_history.specs.declared.event.Hit.TheVariants as hit
use Rattle.sf_words.specs.declared.key_word.KeyState.{KeyState}
use Rattle.sf_words.specs.declared.key_word.KeyState.TheVariants.{Never, Names}
use Rattle.sf_words.specs.declared.call_word.LeaderState.{LeaderState}
use Rattle.sf_words.specs.declared.call_word.CallState.{CallState}
use Rattle.sf_words.specs.declared.call_word.CallState.TheVariants as word
use Rattle.sf_words.specs.KeyWord.{key_code}
use Rattle.sf_words.specs.CallWord.{call_code}
use Rattle.sf_steps_laws.specs.declared.operation.Stage.{Stage}
use Rattle.sf_steps_laws.specs.declared.operation.Stage.TheVariants as stage
use Rattle.sf_steps_laws.specs.declared.operation.ForgetStep.{ForgetStep}
use Rattle.sf_steps_laws.specs.declared.operation.ForgetStep.TheVariants as forget
use Rattle.sf_steps_laws.specs.declared.turn.Turn.{Turn}
use Rattle.sf_steps_laws.specs.declared.turn.Turn.TheVariants as turn
use Rattle.sf_steps_laws.specs.World.{World, first_world, with_stage, key_of, same_key, open_in, is_forgot_in}
use Rattle.sf_steps_laws.specs.Turns.{misses, forget_looked, forget_stepped, run}
use Rattle.sf_steps_laws.specs.Events.{missed_unless, look_events, forget_one}
use Rattle.sf_steps_laws.specs.Schedules.{IsCaller, IsPlace, IsSchedule}
use Rattle.sf_lists.proofs.Functions.{put_here}
use Rattle.sf_steps_laws.proofs.Compared.{open_in_is}
use Rattle.sf_steps_laws.proofs.Sound.{unsettled, Good, Sound, live_open}
use Rattle.sf_steps_laws.proofs.RightAnswers.{run_append, always}
use Rattle.sf_group_rows.specs.declared.sizes.Sizes.{Sizes}
use Rattle.sf_group_steps.specs.declared.view.View.{View}
use Rattle.sf_group_steps.specs.Words.{Word, key, call, IsOthers, code_at, IsKeyFor, IsCallFor}
use Rattle.sf_group_steps.specs.View.{Has, setting_of, AreBy, world_of, history_of}
use Rattle.sf_group_steps.specs.Plays.{Moves, view_after, Made, Found}
use Rattle.sf_history.specs.History.{own_events}
use Rattle.sf_group_steps.specs.Stands.{stage_in, Sits}
use Rattle.sf_group_steps.specs.Changes.{Stays, Went}
use Rattle.sf_group_steps.specs.Forgets.{MayForget, forget_op, forget_turns, peek_stage, peek_adds}
use Rattle.sf_steps_laws.proofs.Named.{IsAlone}
use Rattle.sf_group_steps.proofs.Ways.{Ran, ran_then, step_ran, forget_ran, writes_none, stands, moves_by, goes_by}
use Rattle.sf_group_steps.proofs.Changing.{changes_append, changed_once}
use Rattle.sf_group_steps.proofs.LookSteps.{free_alone, stage_is, alike_none}

start_by : (V : Type 0) (a k : ℕ) (target : Option CallId) → AreBy {V = V} (a ∷ []) (turn.Start a (forget_op k target) ∷ turn.Step a ∷ [])
start_by V a k None = ((λ b e. inl e), ((λ b e. inl e), tt))
start_by V a k (Some c) = ((λ b e. inl e), ((λ b e. inl e), tt))

module _ {V : Type 0} where
  pub forgetting_alone : (k : ℕ) (target : Option CallId) (step : ForgetStep) → IsAlone {V = V} (stage.Forgetting k target step)
  forgetting_alone k target step c is = cc

  -- a step that leaves others' words alone, and adds these events
  pub went_by : (z : Sizes) (a : ℕ) (v w : View V) (p q : Stage V) (ts : List (Turn V)) (u : World V) (es : List (Event ℕ V)) → Sits z a v p → IsAlone p → (m : Made z v w ts)
      → Ran (setting_of z) (history_of z m.before) (world_of z m.before) ts u es → u.stages a ≡ q → own_events a es ≡ es → u.generations a ≡ (world_of z m.before).generations a
      → ((y : Word) → IsOthers a y → code_at u y ≡ code_at (world_of z m.before) y) → Went z a v w q es
  went_by z a v w p q ts u es sits alone m ran at own used alike =
      let between : List (Turn V) = m.comes.later.between in
      let more : u.generations a ≡ (world_of z m.before).generations a + 0 = omega (arith, used) in
      let w₀ : World V = world_of z v.known.turns in
      let mid : World V = run w₀ between in
      let before_is : world_of z m.before ≡ mid = ap (world_of z) m.comes.later.turns ∙ run_append (first_world z.callers z.first) v.known.turns between in
      let turns_is : w.known.turns ≡ m.before ++ ts = ap (λ (y : View V). y.known.turns) m.view in
      let world_is : world_of z w.known.turns ≡ u = ap (world_of z) turns_is ∙ (run_append (first_world z.callers z.first) m.before ts ∙ ran.world) in
      let spared = m.comes.later.others a (subst (λ c. Has c a) (sym sits.callers) (inl refl)) in
      record {
        goes = goes_by z a v w p q ts u es es 0 sits alone m ran at own more;
        word = λ xs y has others.
            let now_is : code_at (world_of z w.known.turns) y ≡ code_at mid y = ap (λ (x : World V). code_at x y) world_is ∙ (alike y others ∙ ap (λ (x : World V). code_at x y) before_is) in
            dite (ℕ_discrete (code_at mid y) (code_at w₀ y))
            (λ e. inl (now_is ∙ e))
            (λ n. inr (let one = changed_once a xs y between w₀ spared has n in let whole = changes_append a xs w₀ between ts in omega (arith, one, whole)));
      }

  pub stays_went : (z : Sizes) (a : ℕ) (v w : View V) (p : Stage V) → Went z a v w p [] → Stays z a v w p
  stays_went z a v w p went = record { goes = went.goes; word = went.word }

  -- look
  started_look : (z : Sizes) (a k : ℕ) (target : Option CallId) (s : List (Turn V)) → IsCaller (setting_of z) a → IsPlace (setting_of z) k → (world_of z s).stages a ≡ stage.Free
      → Ran (setting_of z) (history_of z s) (world_of z s) (turn.Start a (forget_op k target) ∷ turn.Step a ∷ []) (forget_stepped (with_stage (world_of z s) a (stage.Forgetting k target (forget.Look false))) a k target (forget.Look false)) (look_events a k target ((world_of z s).keys k))
  started_look z a k target s caller place at =
      let w : World V = world_of z s in
      let u : World V = with_stage w a (stage.Forgetting k target (forget.Look false)) in
      ran_then (setting_of z) (history_of z s) w u (forget_stepped u a k target (forget.Look false)) (turn.Start a (forget_op k target) ∷ []) (turn.Step a ∷ []) [] (look_events a k target (w.keys k))
      (forget_ran (setting_of z) (history_of z s) w a k target caller place at)
      (step_ran (setting_of z) (history_of z s ++ []) u a (stage.Forgetting k target (forget.Look false)) caller tt (put_here w.stages a (stage.Forgetting k target (forget.Look false))))

  turns_are : (z : Sizes) (a k : ℕ) (target : Option CallId) (v : View V) (p : Stage V) → Sits z a v p → forget_turns (stage_in v a) a k target ≡ forget_turns p a k target
  turns_are z a k target v p sits = ap (λ q. forget_turns q a k target) (stage_is z a v p sits)

  pub forget_look_move : (z : Sizes) (a k : ℕ) (target : Option CallId) (v : View V) → IsPlace (setting_of z) k → MayForget z a k target v → Moves z v (key k) (λ n. n) (λ _. forget_turns (stage_in v a) a k target)
  forget_look_move z a k target v place (inl free) = subst (λ ts. Moves z v (key k) (λ n. n) (λ _. ts)) (sym (turns_are z a k target v stage.Free free))
      (moves_by z a v stage.Free (key k) (λ n. n) (λ _. turn.Start a (forget_op k target) ∷ turn.Step a ∷ []) free free_alone
      (λ s c at used n found.
      let w : World V = world_of z s in
      let u : World V = forget_stepped (with_stage w a (stage.Forgetting k target (forget.Look false))) a k target (forget.Look false) in (
        start_by V a k target,
        record { world = u; events = look_events a k target (w.keys k); ran = started_look z a k target s (free.caller) place at; writes = writes_none z.callers w u (key k) n found refl refl refl; cells = refl },
      )))
  forget_look_move z a k target v place (inr again) = subst (λ ts. Moves z v (key k) (λ n. n) (λ _. ts)) (sym (turns_are z a k target v (stage.Forgetting k target (forget.Look true)) again))
      (moves_by z a v (stage.Forgetting k target (forget.Look true)) (key k) (λ n. n) (λ _. turn.Step a ∷ []) again (forgetting_alone k target (forget.Look true))
      (λ s c at used n found.
      let w : World V = world_of z s in
      let u : World V = forget_stepped w a k target (forget.Look true) in (
        ((λ b e. inl e), tt),
        record { world = u; events = look_events a k target (w.keys k); ran = step_ran (setting_of z) (history_of z s) w a (stage.Forgetting k target (forget.Look true)) again.caller tt at; writes = writes_none z.callers w u (key k) n found refl refl refl; cells = refl },
      )))

  own_missed : (a k : ℕ) (c : CallId) (b : Bool) → own_events {V = V} a (missed_unless a k c b) ≡ missed_unless a k c b
  own_missed a k c false = cond-true _ _ _ (eq-eqb a a refl)
  own_missed a k c true = refl

  own_look : (a k : ℕ) (target : Option CallId) (x : KeyState) → own_events {V = V} a (look_events a k target x) ≡ look_events a k target x
  own_look a k None Never = cond-true _ _ _ (eq-eqb a a refl)
  own_look a k None (Names b g true) = cond-true _ _ _ (eq-eqb a a refl)
  own_look a k None (Names b g false) = refl
  own_look a k (Some c) x = own_missed a k c (same_key x (key_of c))

  pub forget_look_told : (z : Sizes) (a k n : ℕ) (target : Option CallId) (v w : View V) (x : KeyState) → IsPlace (setting_of z) k → MayForget z a k target v → Found (key k) (λ _. forget_turns (stage_in v a) a k target) z v n w
      → ((y : KeyState) → IsKeyFor z.callers y → key_code y ≡ n → x ≡ y)
      → Went z a v w (forget_looked k target x) (look_events a k target x) × ((world_of z w.known.turns).keys k ≡ x)
  forget_look_told z a k n target v w x place may found says = at may
    where
      m : Made z v w (forget_turns (stage_in v a) a k target)
      m = found.0

      w₀ : World V
      w₀ = world_of z m.before

      is : x ≡ w₀.keys k
      is = says (w₀.keys k) (m.comes.lawful.keys k) (sym found.1)

      known : (ts : List (Turn V)) (u : World V) → (o : Made z v w ts) → run (world_of z o.before) ts ≡ u → u.keys ≡ w₀.keys → (world_of z w.known.turns).keys k ≡ x
      known ts u o to keys = ap (λ (y : View V). (world_of z y.known.turns).keys k) o.view ∙ (ap (λ (y : World V). y.keys k) (run_append (first_world z.callers z.first) o.before ts ∙ to) ∙ (ap (λ f. f k) keys ∙ sym is))

      at : MayForget z a k target v → Went z a v w (forget_looked k target x) (look_events a k target x) × ((world_of z w.known.turns).keys k ≡ x)
      at (inl free) =
          let ts : List (Turn V) = turn.Start a (forget_op k target) ∷ turn.Step a ∷ [] in
          let same = turns_are z a k target v stage.Free free in
          let o : Made z v w ts = record { before = m.before; comes = m.comes; whole = subst (λ us. IsSchedule (setting_of z) (m.before ++ us)) same m.whole; view = m.view ∙ ap (λ us. view_after v (m.before ++ us)) same } in
          let mid : World V = with_stage w₀ a (stage.Forgetting k target (forget.Look false)) in
          let u : World V = forget_stepped mid a k target (forget.Look false) in
          let ran = started_look z a k target m.before (free.caller) place (stands z a v stage.Free m.before free free_alone m.comes) in (
            subst (λ (y : KeyState). Went z a v w (forget_looked k target y) (look_events a k target y)) (sym is)
                (went_by z a v w stage.Free (forget_looked k target (w₀.keys k)) ts u (look_events a k target (w₀.keys k)) free free_alone o ran
                (put_here mid.stages a (forget_looked k target (w₀.keys k))) (own_look a k target (w₀.keys k)) refl (alike_none w₀ u a refl refl refl)),
            known ts u o ran.world refl,
          )
      at (inr again) =
          let p : Stage V = stage.Forgetting k target (forget.Look true) in
          let same = turns_are z a k target v p again in
          let o : Made z v w (turn.Step a ∷ []) = record { before = m.before; comes = m.comes; whole = subst (λ us. IsSchedule (setting_of z) (m.before ++ us)) same m.whole; view = m.view ∙ ap (λ us. view_after v (m.before ++ us)) same } in
          let u : World V = forget_stepped w₀ a k target (forget.Look true) in
          let ran = step_ran (setting_of z) (history_of z m.before) w₀ a p again.caller tt (stands z a v p m.before again (forgetting_alone k target (forget.Look true)) m.comes) in (
            subst (λ (y : KeyState). Went z a v w (forget_looked k target y) (look_events a k target y)) (sym is)
                (went_by z a v w p (forget_looked k target (w₀.keys k)) (turn.Step a ∷ []) u (look_events a k target (w₀.keys k)) again (forgetting_alone k target (forget.Look true)) o ran
                (put_here w₀.stages a (forget_looked k target (w₀.keys k))) (own_look a k target (w₀.keys k)) refl (alike_none w₀ u a refl refl refl)),
            known (turn.Step a ∷ []) u o ran.world refl,
          )

  own_one : (a k : ℕ) (c : CallId) (b : Bool) → own_events {V = V} a (forget_one (event.ForgetCall a k c hit.Missed) b) ≡ forget_one (event.ForgetCall a k c hit.Missed) b
  own_one a k c false = refl
  own_one a k c true = cond-true _ _ _ (eq-eqb a a refl)

  -- peek
  pub forget_peek_move : (z : Sizes) (a k : ℕ) (target : Option CallId) (c : CallId) (v : View V) → Sits z a v (stage.Forgetting k target (forget.Peek c)) → Moves z v (call c.caller) (λ n. n) (λ _. turn.Step a ∷ [])
  forget_peek_move z a k target c v sits = moves_by z a v (stage.Forgetting k target (forget.Peek c)) (call c.caller) (λ n. n) (λ _. turn.Step a ∷ []) sits (forgetting_alone k target (forget.Peek c))
      (λ s comes at used n found.
      let w : World V = world_of z s in
      let u : World V = forget_stepped w a k target (forget.Peek c) in (
        ((λ b e. inl e), tt),
        record { world = u; events = peek_adds a k target c (w.calls c.caller); ran = step_ran (setting_of z) (history_of z s) w a (stage.Forgetting k target (forget.Peek c)) sits.caller tt at; writes = writes_none z.callers w u (call c.caller) n found refl refl refl; cells = refl },
      ))

  pub forget_peek_told : (z : Sizes) (a k n : ℕ) (target : Option CallId) (c : CallId) (v w : View V) (x : CallState) → Sits z a v (stage.Forgetting k target (forget.Peek c)) → Found (call c.caller) (λ _. turn.Step a ∷ []) z v n w
      → ((y : CallState) → IsCallFor z.callers y → call_code y ≡ n → x ≡ y)
      → Went z a v w (peek_stage k target c x) (peek_adds a k target c x) × ((world_of z w.known.turns).calls c.caller ≡ x)
      × ((seen : LeaderState) → open_in c.generation x ≡ Some seen → c.caller ≢ a)
  forget_peek_told z a k n target c v w x sits found says =
      let m = found.0 in
      let p : Stage V = stage.Forgetting k target (forget.Peek c) in
      let w₀ : World V = world_of z m.before in
      let h : List (Event ℕ V) = history_of z m.before in
      let y : CallState = w₀.calls c.caller in
      let is : x ≡ y = says y (m.comes.lawful.calls c.caller) (sym found.1) in
      let u : World V = forget_stepped w₀ a k target (forget.Peek c) in
      let alone = forgetting_alone k target (forget.Peek c) in
      let at = stands z a v p m.before sits alone m.comes in
      let ran = step_ran (setting_of z) h w₀ a p sits.caller tt at in (
        subst (λ (s : CallState). Went z a v w (peek_stage k target c s) (peek_adds a k target c s)) (sym is)
            (went_by z a v w p (peek_stage k target c y) (turn.Step a ∷ []) u (peek_adds a k target c y) sits alone m ran (put_here w₀.stages a (peek_stage k target c y)) (own_one a k c (misses target (is_forgot_in c.generation y))) refl (alike_none w₀ u a refl refl refl)),
        ap (λ (t : View V). (world_of z t.known.turns).calls c.caller) m.view ∙ (ap (λ (t : World V). t.calls c.caller) (run_append (first_world z.callers z.first) m.before (turn.Step a ∷ []) ∙ ran.world) ∙ sym is),
        λ seen opened same.
            let sound : Sound z.first h w₀ = always (setting_of z) m.before m.comes.schedule in
            let good : Good h w₀ a p = subst (λ (r : Stage V). Good h w₀ a r) at (sound.callers a).good in
            let parts = open_in_is c.generation x seen opened in
            let open_word : w₀.calls c.caller ≡ word.Open seen = sym is ∙ parts.0 in
            let held = sound.held k c (live_open z.first h w₀ k c seen sound good open_word parts.1) in
            let clash : ◌≡◌ {A = Option (ℕ × ℕ)} None (Some (k, c.generation)) = sym (ap unsettled at) ∙ (ap (λ i. unsettled (w₀.stages i)) (sym same) ∙ held.stage) in
            cc,
      )

  pub forget_sizes : (z : Sizes) (a k : ℕ) (target : Option CallId) (v : View V) → MayForget z a k target v → v.sizes ≡ Some z
  forget_sizes z a k target v (inl free) = free.sizes
  forget_sizes z a k target v (inr again) = again.sizes

-- steps that take a cell out or bring it back, and those of a delivery
use Rattle.std.proofs.Common.{◌≡◌, ℕ, eq-eqb, List, [], ◌∷◌, ◌++◌, inl, Option, Some, None, refl, sym, ◌∙◌, ap, subst, arith}
use Rattle.std.proofs.lemmas.Bool.{cond-true}
use Rattle.atomic_table.specs.Table.{Me}
use Rattle.sf_history.specs.declared.call.CallId.{CallId}
use Rattle.sf_history.specs.declared.event.Event.{Event}
use Rattle.sf_history.specs.History.{own_events}
use Rattle.sf_words.specs.declared.call_word.CallState.{CallState}
use Rattle.sf_words.specs.declared.call_word.CallState.TheVariants as word
use Rattle.sf_words.specs.CallWord.{IsGeneration, call_code}
use Rattle.sf_lists.proofs.Functions.{put_here, put_else}
use Rattle.sf_steps_laws.specs.declared.letter.Letter.{Letter}
use Rattle.sf_steps_laws.specs.declared.operation.Stage.{Stage}
use Rattle.sf_steps_laws.specs.declared.operation.Stage.TheVariants as stage
use Rattle.sf_steps_laws.specs.declared.operation.SettleStep.{SettleStep}
use Rattle.sf_steps_laws.specs.declared.turn.Turn.{Turn}
use Rattle.sf_steps_laws.specs.declared.turn.Turn.TheVariants as turn
use Rattle.sf_steps_laws.specs.World.{World, first_world, with_stage}
use Rattle.sf_steps_laws.specs.Turns.{delivered, settle_stepped, run}
use Rattle.sf_steps_laws.specs.Events.{adds, handed, settle_events}
use Rattle.sf_steps_laws.specs.Schedules.{IsCaller}
use Rattle.sf_steps_laws.proofs.Named.{IsAlone}
use Rattle.sf_steps_laws.proofs.RightAnswers.{adds_append}
use Rattle.sf_steps_laws.proofs.Sound.{call_of}
use Rattle.sf_group_rows.specs.declared.sizes.Sizes.{Sizes}
use Rattle.sf_group_rows.specs.Fitting.{FitOf}
use Rattle.sf_group_steps.specs.declared.view.View.{View}
use Rattle.sf_group_steps.specs.Words.{Word, call, code_at, Writes}
use Rattle.sf_group_steps.specs.View.{Has, setting_of, AreBy, world_of, history_of}
use Rattle.sf_group_steps.specs.Cells.{Handle, take_one, give_one, Serves, Handling, FitsCell, Lasts}
use Rattle.sf_group_steps.specs.Plays.{Comes, Moves, Handles, MovesCell, MadeWith, Made}
use Rattle.sf_group_steps.specs.Stands.{SitsWith, Sits, GoesWith, Goes}
use Rattle.sf_group_steps.proofs.Ways.{Ran, step_ran, writes_none, writes_call, all_alone, stands, moves_by, goes_with}

module _ {V : Type 0} where
  -- from each schedule to which others come, the turns run, write one word, and do this with a cell
  pub record DoesCell (fits : FitOf V) (z : Sizes) (me : Me (Option (Letter V)) (View V)) (s : List (Turn V)) (x : Word) (m : ℕ) (ts : List (Turn V)) (h : Handle) : Type 0 where
    pub world : World V
    pub events : List (Event ℕ V)
    pub ran : Ran (setting_of z) (history_of z s) (world_of z s) ts world events
    pub writes : Writes z.callers (world_of z s) world x m
    pub handles : Handles fits z me.0 me.1 (world_of z s) world (history_of z s ++ events) h

  pub handles_by : (fits : FitOf V) (z : Sizes) (a : ℕ) (me : Me (Option (Letter V)) (View V)) (p : Stage V) (out : List ℕ) (x : Word) (f : ℕ → ℕ) (turns : ℕ → List (Turn V)) (handle : ℕ → Handle) → SitsWith z a me.0 p out → IsAlone p
      → ((s : List (Turn V)) → Comes z me.0 s → (world_of z s).stages a ≡ p → (n : ℕ) → n ≡ code_at (world_of z s) x → AreBy (a ∷ []) (turns n) × DoesCell fits z me s x (f n) (turns n) (handle n))
      → MovesCell fits z me x f turns handle
  handles_by fits z a me p out x f turns handle sits alone does s c n found small =
      let d = does s c (stands z a me.0 p s sits alone c) n found in
      let w : World V = world_of z s in
      let grown : history_of z (s ++ turns n) ≡ history_of z s ++ d.1.events = adds_append (first_world z.callers z.first) s (turns n) ∙ ap (λ es. history_of z s ++ es) d.1.ran.events in (
        subst (λ who. AreBy who (turns n)) (sym (all_alone z a me.0 p sits)) d.0,
        d.1.ran.allowed,
        subst (λ (u : World V). Writes z.callers w u x (f n)) (sym d.1.ran.world) d.1.writes,
        subst (λ h. Handles fits z me.0 me.1 w (run w (turns n)) h (handle n)) (sym grown) (subst (λ (u : World V). Handles fits z me.0 me.1 w u (history_of z s ++ d.1.events) (handle n)) (sym d.1.ran.world) d.1.handles),
      )

  pub settling_alone : (k g : ℕ) (own : Option CallId) (x : V) (step : SettleStep) → IsAlone {V = V} (stage.Settling k g own x step)
  settling_alone k g own x step c is = cc

  -- a load of a settle that changes its stage alone
  pub quiet_move : (z : Sizes) (a k g : ℕ) (own : Option CallId) (x : V) (step : SettleStep) (y : Word) (v : View V) (to : World V → Stage V) → Sits z a v (stage.Settling k g own x step)
      → ((w : World V) → settle_stepped w a k g own x step ≡ with_stage w a (to w)) → Moves z v y (λ n. n) (λ _. turn.Step a ∷ [])
  quiet_move z a k g own x step y v to sits steps = moves_by z a v (stage.Settling k g own x step) y (λ n. n) (λ _. turn.Step a ∷ []) sits (settling_alone k g own x step)
      (λ s c at used n found.
      let w : World V = world_of z s in
      let u : World V = settle_stepped w a k g own x step in
      let is : u ≡ with_stage w a (to w) = steps w in (
        ((λ b e. inl e), tt),
        record {
          world = u;
          events = settle_events w a (call_of a g) own x step;
          ran = step_ran (setting_of z) (history_of z s) w a (stage.Settling k g own x step) sits.caller tt at;
          writes = writes_none z.callers w u y n found (ap (λ (q : World V). q.keys) is) (ap (λ (q : World V). q.calls) is) (ap (λ (q : World V). q.nexts) is);
          cells = ap (λ (q : World V). q.cells) is;
        },
      ))

  -- a load of a settle that changes its stage alone, to one at which it has the member's cell for itself
  pub peek_move : (fits : FitOf V) (z : Sizes) (a k g m : ℕ) (own : Option CallId) (x : V) (step : SettleStep) (peeked : CallState → SettleStep) (me : Me (Option (Letter V)) (View V)) → Sits z a me.0 (stage.Settling k g own x step) → IsCaller (setting_of z) m
      → ((w : World V) → settle_stepped w a k g own x step ≡ with_stage w a (stage.Settling k g own x (peeked (w.calls m)))) → ((r : CallState) → Serves (peeked r) m)
      → MovesCell fits z me (call m) (λ n. n) (λ _. turn.Step a ∷ []) (λ _. take_one m)
  peek_move fits z a k g m own x step peeked me sits caller steps serves = handles_by fits z a me (stage.Settling k g own x step) [] (call m) (λ n. n) (λ _. turn.Step a ∷ []) (λ _. take_one m) sits (settling_alone k g own x step)
      (λ s c at n found.
      let w : World V = world_of z s in
      let u : World V = settle_stepped w a k g own x step in
      let to : Stage V = stage.Settling k g own x (peeked (w.calls m)) in
      let is : u ≡ with_stage w a to = steps w in
      let there : u.stages a ≡ to = ap (λ (q : World V). q.stages a) is ∙ put_here w.stages a to in (
        ((λ b e. inl e), tt),
        record {
          world = u;
          events = settle_events w a (call_of a g) own x step;
          ran = step_ran (setting_of z) (history_of z s) w a (stage.Settling k g own x step) sits.caller tt at;
          writes = writes_none z.callers w u (call m) n found (ap (λ (q : World V). q.keys) is) (ap (λ (q : World V). q.calls) is) (ap (λ (q : World V). q.nexts) is);
          handles = (
            sits.cells,
            caller.1,
            (a, subst (λ who. Has who a) (sym (all_alone z a me.0 (stage.Settling k g own x step) sits)) (inl refl), subst (λ (p : Stage V). Handling p a m) (sym there) (serves (w.calls m))),
            λ j other. ap (λ (q : World V). q.cells j) is,
          );
        },
      ))

  pub quiet_told : (z : Sizes) (a k g : ℕ) (own : Option CallId) (x : V) (step : SettleStep) (v w : View V) (out : List ℕ) (to : Stage V) → Sits z a v (stage.Settling k g own x step) → (m : MadeWith z v w (turn.Step a ∷ []) out)
      → settle_stepped (world_of z m.before) a k g own x step ≡ with_stage (world_of z m.before) a to → settle_events (world_of z m.before) a (call_of a g) own x step ≡ [] → GoesWith z a v w to [] 0 out
  quiet_told z a k g own x step v w out to sits m steps silent =
      let p : Stage V = stage.Settling k g own x step in
      let w₀ : World V = world_of z m.before in
      let u : World V = settle_stepped w₀ a k g own x step in
      let alone = settling_alone k g own x step in
      goes_with z a v w p to (turn.Step a ∷ []) u (settle_events w₀ a (call_of a g) own x step) [] 0 [] out sits alone m (step_ran (setting_of z) (history_of z m.before) w₀ a p sits.caller tt (stands z a v p m.before sits alone m.comes))
      (ap (λ (q : World V). q.stages a) steps ∙ put_here w₀.stages a to) (ap (own_events a) silent) (ap (λ (q : World V). q.generations a) steps ∙ omega arith)

  -- the letter that the leader delivers
  abbrev pub letter_of : ℕ → ℕ → ℕ → V → ℕ → Letter V
  letter_of a k g x joiners = record { place = k; call = call_of a g; value = x; joiners = joiners }

  -- the store that fills the member's word
  pub fill_move : (fits : FitOf V) → Lasts fits → (z : Sizes) (a k g new : ℕ) (own : Option CallId) (x : V) (joiners : ℕ) (step : SettleStep) (to : Stage V) (m : CallId) (me : Me (Option (Letter V)) (View V)) → SitsWith z a me.0 (stage.Settling k g own x step) (m.caller ∷ [])
      → me.1 ≡ (m.caller, Some (letter_of a k g x joiners)) ∷ [] → IsGeneration m.generation → new ≡ call_code (word.Full m.generation) → fits k (call_of a g) x (history_of z me.0.known.turns)
      → ((w : World V) → settle_stepped w a k g own x step ≡ with_stage (delivered w m (letter_of a k g x joiners)) a to)
      → MovesCell fits z me (call m.caller) (λ _. new) (λ _. turn.Step a ∷ []) (λ _. give_one m.caller)
  fill_move fits lasts z a k g new own x joiners step to m me sits carried generation code fit steps = handles_by fits z a me (stage.Settling k g own x step) (m.caller ∷ []) (call m.caller) (λ _. new) (λ _. turn.Step a ∷ []) (λ _. give_one m.caller) sits (settling_alone k g own x step)
      (λ s c at n found.
      let w : World V = world_of z s in
      let u : World V = settle_stepped w a k g own x step in
      let l : Letter V = letter_of a k g x joiners in
      let is : u ≡ with_stage (delivered w m l) a to = steps w in
      let cell : u.cells m.caller ≡ Some l = ap (λ (q : World V). q.cells m.caller) is ∙ put_here w.cells m.caller (Some l) in
      let es : List (Event ℕ V) = settle_events w a (call_of a g) own x step in
      let since : List (Event ℕ V) = adds (world_of z me.0.known.turns) c.later.between in
      let grown : history_of z s ≡ history_of z me.0.known.turns ++ since = ap (history_of z) c.later.turns ∙ adds_append (first_world z.callers z.first) me.0.known.turns c.later.between in (
        ((λ b e. inl e), tt),
        record {
          world = u;
          events = es;
          ran = step_ran (setting_of z) (history_of z s) w a (stage.Settling k g own x step) sits.caller tt at;
          writes = subst (λ j. Writes z.callers w u (call m.caller) j) (sym code) (writes_call z.callers w u m.caller (word.Full m.generation) (generation, omega arith)
              (ap (λ (q : World V). q.keys) is) (ap (λ (q : World V). q.calls) is) (ap (λ (q : World V). q.nexts) is));
          handles = (
            sits.cells,
            carried ∙ ap (λ (y : Option (Letter V)). (m.caller, y) ∷ []) (sym cell),
            subst (λ (y : Option (Letter V)). FitsCell fits (history_of z s ++ es) y) (sym cell) (lasts k (call_of a g) x (history_of z s) es (subst (λ h. fits k (call_of a g) x h) (sym grown) (lasts k (call_of a g) x (history_of z me.0.known.turns) since fit))),
            λ j other. ap (λ (q : World V). q.cells j) is ∙ put_else w.cells m.caller (Some l) j other,
          );
        },
      ))

  pub fill_told : (z : Sizes) (a k g : ℕ) (own : Option CallId) (x : V) (joiners : ℕ) (step : SettleStep) (to : Stage V) (es : List (Event ℕ V)) (m : CallId) (v w : View V) (out : List ℕ) → SitsWith z a v (stage.Settling k g own x step) out → (o : Made z v w (turn.Step a ∷ []))
      → settle_stepped (world_of z o.before) a k g own x step ≡ with_stage (delivered (world_of z o.before) m (letter_of a k g x joiners)) a to → settle_events (world_of z o.before) a (call_of a g) own x step ≡ es → own_events a es ≡ es → Goes z a v w to es 0
  fill_told z a k g own x joiners step to es m v w out sits o steps said mine =
      let p : Stage V = stage.Settling k g own x step in
      let w₀ : World V = world_of z o.before in
      let u : World V = settle_stepped w₀ a k g own x step in
      let alone = settling_alone k g own x step in
      goes_with z a v w p to (turn.Step a ∷ []) u (settle_events w₀ a (call_of a g) own x step) es 0 out [] sits alone o (step_ran (setting_of z) (history_of z o.before) w₀ a p sits.caller tt (stands z a v p o.before sits alone o.comes))
      (ap (λ (q : World V). q.stages a) steps ∙ put_here w₀.stages a to) (ap (own_events a) said ∙ mine) (ap (λ (q : World V). q.generations a) steps ∙ omega arith)

  pub own_handed : (a g : ℕ) (own : Option CallId) (top : Option ℕ) → own_events {V = V} a (handed a (call_of a g) own top) ≡ handed a (call_of a g) own top
  own_handed a g None None = cond-true _ _ _ (eq-eqb a a refl)
  own_handed a g None (Some m) = refl
  own_handed a g (Some o) None = refl
  own_handed a g (Some o) (Some m) = refl

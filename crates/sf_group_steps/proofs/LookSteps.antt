-- the kinds look, peek and ready of an asking
use Rattle.std.proofs.Common.{◌≡◌, ◌≢◌, ℕ, ◌+◌, ◌≤◌, Bool, true, false, eqb, eq-eqb, ne_eqb, List, [], ◌∷◌, ◌++◌, inl, inr, Option, Some, None, refl, sym, ◌∙◌, ap, subst, arith}
use Rattle.std.specs.Prelude.{if◌then◌else◌}
use mathlib.Core.Logic.{dite}
use native.Mathlib.Decide.{ℕ_discrete}
use Rattle.sf_history.specs.declared.call.CallId.{CallId}
use Rattle.sf_words.specs.declared.key_word.KeyState.{KeyState}
use Rattle.sf_words.specs.declared.call_word.CallState.{CallState}
use Rattle.sf_words.specs.declared.call_word.CallState.TheVariants as word
use Rattle.sf_words.specs.KeyWord.{IsKeyState, key_code}
use Rattle.sf_words.specs.CallWord.{call_code}
use Rattle.sf_words.specs.NextWord.{next_code}
use Rattle.sf_words.proofs.KeyCodes.{key_code_one}
use Rattle.sf_steps_laws.specs.declared.operation.Op.TheVariants as op
use Rattle.sf_steps_laws.specs.declared.operation.Stage.{Stage}
use Rattle.sf_steps_laws.specs.declared.operation.Stage.TheVariants as stage
use Rattle.sf_steps_laws.specs.declared.operation.AskStep.{AskStep}
use Rattle.sf_steps_laws.specs.declared.operation.AskStep.TheVariants as ask
use Rattle.sf_steps_laws.specs.declared.turn.Turn.{Turn}
use Rattle.sf_steps_laws.specs.declared.turn.Turn.TheVariants as turn
use Rattle.sf_steps_laws.specs.World.{World, first_world, with_stage, same_key, open_in, is_forgot_in}
use Rattle.sf_lists.specs.Functions.{put}
use Rattle.sf_steps_laws.specs.Askings.{looked, peeked, ask_stepped}
use Rattle.sf_steps_laws.specs.Turns.{left, run}
use Rattle.sf_steps_laws.specs.Schedules.{IsCaller, IsPlace, IsSchedule}
use Rattle.sf_lists.proofs.Functions.{put_here, put_else}
use Rattle.sf_steps_laws.proofs.Compared.{same_key_is, same_key_self}
use Rattle.sf_steps_laws.proofs.RightAnswers.{run_append}
use Rattle.sf_group_rows.specs.declared.sizes.Sizes.{Sizes}
use Rattle.sf_group_steps.specs.declared.view.View.{View}
use Rattle.sf_group_steps.specs.Words.{Word, key, call, next, IsOthers, code_at, IsKeyFor, IsCallFor, Writes}
use Rattle.sf_group_steps.specs.View.{Has, setting_of, sizes_of, AreBy, world_of, history_of}
use Rattle.sf_group_steps.specs.Plays.{Moves, view_after, Made, Found}
use Rattle.sf_group_steps.specs.Stands.{stage_in, Sits, next_in, MayLook, look_turns}
use Rattle.sf_group_steps.specs.Changes.{Stays}
use Rattle.sf_steps_laws.proofs.Named.{IsAlone}
use Rattle.sf_group_steps.proofs.Ways.{Ran, ran_then, step_ran, ask_ran, writes_none, writes_call, stands, uses, moves_by, goes_by}
use Rattle.sf_group_steps.proofs.Changing.{changes_append, changed_once}
use Rattle.sf_words.specs.declared.limits.TheConstants.{LARGEST_GENERATION}

-- a test of two codes is one of what they say
pub key_test : (x y : KeyState) → IsKeyState x → IsKeyState y → eqb (key_code x) (key_code y) ≡ same_key x y
key_test x y p q = dite (ℕ_discrete (key_code x) (key_code y))
    (λ e. eq-eqb (key_code x) (key_code y) e ∙ sym (subst (λ (s : KeyState). same_key x s ≡ true) (key_code_one x y p q e) (same_key_self x)))
    (λ n. ne_eqb (key_code x) (key_code y) n ∙ sym (differ (same_key x y) refl n))
  where
    differ : (b : Bool) → same_key x y ≡ b → key_code x ≢ key_code y → same_key x y ≡ false
    differ true is n = absurd (n (ap key_code (same_key_is x y is)))
    differ false is n = is

-- the word of one who is to lead
abbrev pub ready_state : ℕ → CallState
ready_state g = word.Open (record { generation = g; own = false; top = None })

pub lost_by : (V : Type 0) (a : ℕ) (last : Bool) → AreBy {V = V} (a ∷ []) (if last then turn.Step a ∷ turn.Leave a ∷ [] else turn.Step a ∷ [])
lost_by V a true = ((λ b e. inl e), ((λ b e. inl e), tt))
lost_by V a false = ((λ b e. inl e), tt)

module _ {V : Type 0} where
  pub asking_alone : (k : ℕ) (s : Option ℕ) (step : AskStep) → IsAlone {V = V} (stage.Asking k s step)
  asking_alone k s step c is = cc

  pub free_alone : IsAlone {V = V} stage.Free
  free_alone c is = cc

  -- the seat's stage, by the sizes that it knows
  pub stage_is : (z : Sizes) (a : ℕ) (v : View V) (p : Stage V) → Sits z a v p → stage_in v a ≡ p
  stage_is z a v p sits = ap (λ o. (world_of (sizes_with o) v.known.turns).stages a) sits.sizes ∙ sits.stage
    where
      sizes_with : Option Sizes → Sizes
      sizes_with o = sizes_of (record { sizes = o; known = v.known; told = v.told; cells = v.cells })

  -- a step that leaves others' words alone
  pub stays_by : (z : Sizes) (a : ℕ) (v w : View V) (p q : Stage V) (ts : List (Turn V)) (u : World V) → Sits z a v p → IsAlone p → (m : Made z v w ts)
      → Ran (setting_of z) (history_of z m.before) (world_of z m.before) ts u [] → u.stages a ≡ q → u.generations a ≡ (world_of z m.before).generations a
      → ((y : Word) → IsOthers a y → code_at u y ≡ code_at (world_of z m.before) y) → Stays z a v w q
  stays_by z a v w p q ts u sits alone m ran at used alike =
      let between : List (Turn V) = m.comes.later.between in
      let more : u.generations a ≡ (world_of z m.before).generations a + 0 = omega (arith, used) in
      let w₀ : World V = world_of z v.known.turns in
      let mid : World V = run w₀ between in
      let before_is : world_of z m.before ≡ mid = ap (world_of z) m.comes.later.turns ∙ run_append (first_world z.callers z.first) v.known.turns between in
      let turns_is : w.known.turns ≡ m.before ++ ts = ap (λ (y : View V). y.known.turns) m.view in
      let world_is : world_of z w.known.turns ≡ u = ap (world_of z) turns_is ∙ (run_append (first_world z.callers z.first) m.before ts ∙ ran.world) in
      let spared = m.comes.later.others a (subst (λ c. Has c a) (sym sits.callers) (inl refl)) in
      record {
        goes = goes_by z a v w p q ts u [] [] 0 sits alone m ran at refl more;
        word = λ xs y has others.
            let now_is : code_at (world_of z w.known.turns) y ≡ code_at mid y = ap (λ (x : World V). code_at x y) world_is ∙ (alike y others ∙ ap (λ (x : World V). code_at x y) before_is) in
            dite (ℕ_discrete (code_at mid y) (code_at w₀ y))
            (λ e. inl (now_is ∙ e))
            (λ n. inr (let one = changed_once a xs y between w₀ spared has n in let whole = changes_append a xs w₀ between ts in omega (arith, one, whole)));
      }

  -- a world in which all words are as they were
  pub alike_none : (w u : World V) (a : ℕ) → u.keys ≡ w.keys → u.calls ≡ w.calls → u.nexts ≡ w.nexts → (y : Word) → IsOthers a y → code_at u y ≡ code_at w y
  alike_none w u a keys calls nexts (key k) others = ap (λ f. key_code (f k)) keys
  alike_none w u a keys calls nexts (call b) others = ap (λ f. call_code (f b)) calls
  alike_none w u a keys calls nexts (next b) others = ap (λ f. next_code (f b)) nexts

  pub alike_call : (w u : World V) (a : ℕ) (x : CallState) → u.keys ≡ w.keys → u.calls ≡ put w.calls a x → u.nexts ≡ w.nexts → (y : Word) → IsOthers a y → code_at u y ≡ code_at w y
  alike_call w u a x keys calls nexts (key k) others = ap (λ f. key_code (f k)) keys
  alike_call w u a x keys calls nexts (call b) others = ap (λ f. call_code (f b)) calls ∙ ap call_code (put_else w.calls a x b others)
  alike_call w u a x keys calls nexts (next b) others = ap (λ f. next_code (f b)) nexts

  pub alike_next : (w u : World V) (a : ℕ) (x : Option ℕ) → u.keys ≡ w.keys → u.calls ≡ w.calls → u.nexts ≡ put w.nexts a x → (y : Word) → IsOthers a y → code_at u y ≡ code_at w y
  alike_next w u a x keys calls nexts (key k) others = ap (λ f. key_code (f k)) keys
  alike_next w u a x keys calls nexts (call b) others = ap (λ f. call_code (f b)) calls
  alike_next w u a x keys calls nexts (next b) others = ap (λ f. next_code (f b)) nexts ∙ ap next_code (put_else w.nexts a x b others)

  -- look
  started_look : (z : Sizes) (a k : ℕ) (s : List (Turn V)) → IsCaller (setting_of z) a → IsPlace (setting_of z) k → (world_of z s).stages a ≡ stage.Free → (world_of z s).generations a ≤ LARGEST_GENERATION
      → Ran (setting_of z) (history_of z s) (world_of z s) (turn.Start a (op.Ask k) ∷ turn.Step a ∷ []) (ask_stepped (with_stage (world_of z s) a (stage.Asking k None (ask.Look false))) a k None (ask.Look false)) []
  started_look z a k s caller place at left =
      let w : World V = world_of z s in
      let u : World V = with_stage w a (stage.Asking k None (ask.Look false)) in
      ran_then (setting_of z) (history_of z s) w u (ask_stepped u a k None (ask.Look false)) (turn.Start a (op.Ask k) ∷ []) (turn.Step a ∷ []) [] []
      (ask_ran (setting_of z) (history_of z s) w a k caller place at left)
      (step_ran (setting_of z) (history_of z s ++ []) u a (stage.Asking k None (ask.Look false)) caller tt (put_here w.stages a (stage.Asking k None (ask.Look false))))

  look_turns_are : (z : Sizes) (a k : ℕ) (v : View V) (p : Stage V) → Sits z a v p → look_turns (stage_in v a) a k ≡ look_turns p a k
  look_turns_are z a k v p sits = ap (λ q. look_turns q a k) (stage_is z a v p sits)

  pub look_move : (z : Sizes) (a k : ℕ) (v : View V) → IsPlace (setting_of z) k → MayLook z a k v → Moves z v (key k) (λ n. n) (λ _. look_turns (stage_in v a) a k)
  look_move z a k v place (inl free) = subst (λ ts. Moves z v (key k) (λ n. n) (λ _. ts)) (sym (look_turns_are z a k v stage.Free free.0))
      (moves_by z a v stage.Free (key k) (λ n. n) (λ _. turn.Start a (op.Ask k) ∷ turn.Step a ∷ []) free.0 free_alone
      (λ s c at used n found.
      let w : World V = world_of z s in
      let u : World V = ask_stepped (with_stage w a (stage.Asking k None (ask.Look false))) a k None (ask.Look false) in (
        ((λ b e. inl e), ((λ b e. inl e), tt)),
        record { world = u; events = []; ran = started_look z a k s (free.0.caller) place at (subst (λ g. g ≤ LARGEST_GENERATION) (sym used) free.1); writes = writes_none z.callers w u (key k) n found refl refl refl; cells = refl },
      )))
  look_move z a k v place (inr again) = subst (λ ts. Moves z v (key k) (λ n. n) (λ _. ts)) (sym (look_turns_are z a k v (stage.Asking k None (ask.Look true)) again))
      (moves_by z a v (stage.Asking k None (ask.Look true)) (key k) (λ n. n) (λ _. turn.Step a ∷ []) again (asking_alone k None (ask.Look true))
      (λ s c at used n found.
      let w : World V = world_of z s in
      let u : World V = ask_stepped w a k None (ask.Look true) in (
        ((λ b e. inl e), tt),
        record { world = u; events = []; ran = step_ran (setting_of z) (history_of z s) w a (stage.Asking k None (ask.Look true)) again.caller tt at; writes = writes_none z.callers w u (key k) n found refl refl refl; cells = refl },
      )))

  -- what the look found is in the key word, as far as the seat then knows
  pub look_told : (z : Sizes) (a k n : ℕ) (v w : View V) (x : KeyState) → IsPlace (setting_of z) k → MayLook z a k v → Found (key k) (λ _. look_turns (stage_in v a) a k) z v n w
      → ((y : KeyState) → IsKeyFor z.callers y → key_code y ≡ n → x ≡ y)
      → Stays z a v w (stage.Asking k None (looked None x)) × ((world_of z w.known.turns).keys k ≡ x)
  look_told z a k n v w x place may found says = at may
    where
      m : Made z v w (look_turns (stage_in v a) a k)
      m = found.0

      w₀ : World V
      w₀ = world_of z m.before

      is : x ≡ w₀.keys k
      is = says (w₀.keys k) (m.comes.lawful.keys k) (sym found.1)

      known : (ts : List (Turn V)) (u : World V) → (o : Made z v w ts) → (o.before ≡ m.before) → run (world_of z o.before) ts ≡ u → u.keys ≡ w₀.keys → (world_of z w.known.turns).keys k ≡ x
      known ts u o same to keys = ap (λ (y : View V). (world_of z y.known.turns).keys k) o.view ∙ (ap (λ (y : World V). y.keys k) (run_append (first_world z.callers z.first) o.before ts ∙ to) ∙ (ap (λ f. f k) keys ∙ sym is))

      at : MayLook z a k v → Stays z a v w (stage.Asking k None (looked None x)) × ((world_of z w.known.turns).keys k ≡ x)
      at (inl free) =
          let o : Made z v w (turn.Start a (op.Ask k) ∷ turn.Step a ∷ []) = record { before = m.before; comes = m.comes; whole = subst (λ ts. IsSchedule (setting_of z) (m.before ++ ts)) (look_turns_are z a k v stage.Free free.0) m.whole; view = m.view ∙ ap (λ ts. view_after v (m.before ++ ts)) (look_turns_are z a k v stage.Free free.0) } in
          let mid : World V = with_stage w₀ a (stage.Asking k None (ask.Look false)) in
          let u : World V = ask_stepped mid a k None (ask.Look false) in
          let ran = started_look z a k m.before (free.0.caller) place (stands z a v stage.Free m.before free.0 free_alone m.comes) (subst (λ g. g ≤ LARGEST_GENERATION) (sym (uses z a v stage.Free m.before free.0 free_alone m.comes)) free.1) in (
            stays_by z a v w stage.Free (stage.Asking k None (looked None x)) (turn.Start a (op.Ask k) ∷ turn.Step a ∷ []) u free.0 free_alone o ran
                (put_here mid.stages a (stage.Asking k None (looked None (w₀.keys k))) ∙ ap (λ y. stage.Asking k None (looked None y)) (sym is)) refl (alike_none w₀ u a refl refl refl),
            known (turn.Start a (op.Ask k) ∷ turn.Step a ∷ []) u o refl ran.world refl,
          )
      at (inr again) =
          let p : Stage V = stage.Asking k None (ask.Look true) in
          let o : Made z v w (turn.Step a ∷ []) = record { before = m.before; comes = m.comes; whole = subst (λ ts. IsSchedule (setting_of z) (m.before ++ ts)) (look_turns_are z a k v p again) m.whole; view = m.view ∙ ap (λ ts. view_after v (m.before ++ ts)) (look_turns_are z a k v p again) } in
          let u : World V = ask_stepped w₀ a k None (ask.Look true) in
          let ran = step_ran (setting_of z) (history_of z m.before) w₀ a p again.caller tt (stands z a v p m.before again (asking_alone k None (ask.Look true)) m.comes) in (
            stays_by z a v w p (stage.Asking k None (looked None x)) (turn.Step a ∷ []) u again (asking_alone k None (ask.Look true)) o ran
                (put_here w₀.stages a (stage.Asking k None (looked None (w₀.keys k))) ∙ ap (λ y. stage.Asking k None (looked None y)) (sym is)) refl (alike_none w₀ u a refl refl refl),
            known (turn.Step a ∷ []) u o refl ran.world refl,
          )

  -- peek at the call word of the call that the key word named
  pub peek_move : (z : Sizes) (a k : ℕ) (c : CallId) (v : View V) → Sits z a v (stage.Asking k None (ask.Peek c)) → Moves z v (call c.caller) (λ n. n) (λ _. turn.Step a ∷ [])
  peek_move z a k c v sits = moves_by z a v (stage.Asking k None (ask.Peek c)) (call c.caller) (λ n. n) (λ _. turn.Step a ∷ []) sits (asking_alone k None (ask.Peek c))
      (λ s comes at used n found.
      let w : World V = world_of z s in
      let u : World V = ask_stepped w a k None (ask.Peek c) in (
        ((λ b e. inl e), tt),
        record { world = u; events = []; ran = step_ran (setting_of z) (history_of z s) w a (stage.Asking k None (ask.Peek c)) sits.caller tt at; writes = writes_none z.callers w u (call c.caller) n found refl refl refl; cells = refl },
      ))

  pub peek_told : (z : Sizes) (a k n : ℕ) (c : CallId) (v w : View V) (x : CallState) → Sits z a v (stage.Asking k None (ask.Peek c)) → Found (call c.caller) (λ _. turn.Step a ∷ []) z v n w
      → ((y : CallState) → IsCallFor z.callers y → call_code y ≡ n → x ≡ y)
      → Stays z a v w (stage.Asking k None (peeked None c (is_forgot_in c.generation x) (open_in c.generation x)))
  peek_told z a k n c v w x sits found says =
      let m = found.0 in
      let p : Stage V = stage.Asking k None (ask.Peek c) in
      let w₀ : World V = world_of z m.before in
      let is : x ≡ w₀.calls c.caller = says (w₀.calls c.caller) (m.comes.lawful.calls c.caller) (sym found.1) in
      let u : World V = ask_stepped w₀ a k None (ask.Peek c) in
      let q : CallState → Stage V = λ y. stage.Asking k None (peeked None c (is_forgot_in c.generation y) (open_in c.generation y)) in
      let ran = step_ran (setting_of z) (history_of z m.before) w₀ a p sits.caller tt (stands z a v p m.before sits (asking_alone k None (ask.Peek c)) m.comes) in
      stays_by z a v w p (q x) (turn.Step a ∷ []) u sits (asking_alone k None (ask.Peek c)) m ran (put_here w₀.stages a (q (w₀.calls c.caller)) ∙ ap q (sym is)) refl (alike_none w₀ u a refl refl refl)

  -- make the own word ready to lead
  pub ready_move : (z : Sizes) (a k g new : ℕ) (seen : KeyState) (f : Bool) (v : View V) → Sits z a v (stage.Asking k None (ask.ReadyLead seen f)) → next_in z v a ≡ g → IsCallFor z.callers (ready_state g) → new ≡ call_code (ready_state g)
      → Moves z v (call a) (λ _. new) (λ _. turn.Step a ∷ [])
  ready_move z a k g new seen f v sits given lawful code = moves_by z a v (stage.Asking k None (ask.ReadyLead seen f)) (call a) (λ _. new) (λ _. turn.Step a ∷ []) sits (asking_alone k None (ask.ReadyLead seen f))
      (λ s comes at used n found.
      let w : World V = world_of z s in
      let u : World V = ask_stepped w a k None (ask.ReadyLead seen f) in
      let same : ready_state g ≡ ready_state (w.generations a) = ap ready_state (sym given ∙ sym used) in (
        ((λ b e. inl e), tt),
        record {
          world = u;
          events = [];
          ran = step_ran (setting_of z) (history_of z s) w a (stage.Asking k None (ask.ReadyLead seen f)) sits.caller tt at;
          writes = subst (λ m. Writes z.callers w u (call a) m) (sym (code ∙ ap call_code same)) (writes_call z.callers w u a (ready_state (w.generations a)) (subst (IsCallFor z.callers) same lawful) refl refl refl);
          cells = refl;
        },
      ))

  pub ready_told : (z : Sizes) (a k : ℕ) (seen : KeyState) (f : Bool) (v w : View V) → Sits z a v (stage.Asking k None (ask.ReadyLead seen f)) → Made z v w (turn.Step a ∷ []) → Stays z a v w (stage.Asking k None (ask.Lead seen f))
  ready_told z a k seen f v w sits m =
      let p : Stage V = stage.Asking k None (ask.ReadyLead seen f) in
      let w₀ : World V = world_of z m.before in
      let u : World V = ask_stepped w₀ a k None (ask.ReadyLead seen f) in
      let ran = step_ran (setting_of z) (history_of z m.before) w₀ a p sits.caller tt (stands z a v p m.before sits (asking_alone k None (ask.ReadyLead seen f)) m.comes) in
      stays_by z a v w p (stage.Asking k None (ask.Lead seen f)) (turn.Step a ∷ []) u sits (asking_alone k None (ask.ReadyLead seen f)) m ran (put_here w₀.stages a (stage.Asking k None (ask.Lead seen f))) refl (alike_call w₀ u a (ready_state (w₀.generations a)) refl refl refl)

  pub may_sizes : (z : Sizes) (a k : ℕ) (v : View V) → MayLook z a k v → v.sizes ≡ Some z
  may_sizes z a k v (inl free) = free.0.sizes
  may_sizes z a k v (inr again) = again.sizes

  -- what a peek found is in the call word, as far as the seat then knows
  pub peek_shown : (z : Sizes) (a k n : ℕ) (c : CallId) (v w : View V) (x : CallState) → Sits z a v (stage.Asking k None (ask.Peek c)) → (found : Found (call c.caller) (λ _. turn.Step a ∷ []) z v n w)
      → ((y : CallState) → IsCallFor z.callers y → call_code y ≡ n → x ≡ y)
      → ((world_of z w.known.turns).calls c.caller ≡ x) × (x ≡ (world_of z found.0.before).calls c.caller)
  peek_shown z a k n c v w x sits found says =
      let m = found.0 in
      let p : Stage V = stage.Asking k None (ask.Peek c) in
      let w₀ : World V = world_of z m.before in
      let is : x ≡ w₀.calls c.caller = says (w₀.calls c.caller) (m.comes.lawful.calls c.caller) (sym found.1) in
      let ran = step_ran (setting_of z) (history_of z m.before) w₀ a p sits.caller tt (stands z a v p m.before sits (asking_alone k None (ask.Peek c)) m.comes) in
      (ap (λ (y : View V). (world_of z y.known.turns).calls c.caller) m.view ∙ (ap (λ (y : World V). y.calls c.caller) (run_append (first_world z.callers z.first) m.before (turn.Step a ∷ []) ∙ ran.world) ∙ sym is), is)

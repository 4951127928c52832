-- from a turn of the core to what a seat may do and what it then knows
use Rattle.std.proofs.Common.{◌≡◌, ℕ, ◌+◌, ◌≤◌, Bool, true, false, ◌==◌, List, [], ◌∷◌, ◌++◌, inl, Option, Some, None, refl, sym, ◌∙◌, ap, subst, append_assoc}
use Rattle.std.specs.Prelude.{cond, if◌then◌else◌}
use Rattle.std.proofs.lemmas.Bool.{le-ltb, eqb-true}
use Rattle.std.proofs.lemmas.List.{append-nil}
use Rattle.std.proofs.lemmas.List.Elements.{filter-append}
use Rattle.sf_history.specs.declared.event.Event.{Event}
use Rattle.sf_history.specs.History.{maker}
use Rattle.sf_words.specs.declared.key_word.KeyState.{KeyState}
use Rattle.sf_words.specs.declared.call_word.CallState.{CallState}
use Rattle.sf_words.specs.KeyWord.{key_code}
use Rattle.sf_words.specs.CallWord.{call_code}
use Rattle.sf_words.specs.NextWord.{next_code}
use Rattle.sf_steps_laws.specs.declared.operation.Op.TheVariants as op
use Rattle.sf_steps_laws.specs.declared.operation.Stage.{Stage}
use Rattle.sf_steps_laws.specs.declared.operation.Stage.TheVariants as stage
use Rattle.sf_steps_laws.specs.declared.operation.AskStep.TheVariants as ask
use Rattle.sf_steps_laws.specs.declared.operation.SettleStep.TheVariants as settle
use Rattle.sf_history.specs.declared.call.CallId.{CallId}
use Rattle.sf_steps_laws.specs.declared.operation.ForgetStep.TheVariants as forget
use Rattle.sf_steps_laws.specs.declared.turn.Turn.{Turn}
use Rattle.sf_steps_laws.specs.declared.turn.Turn.TheVariants as turn
use Rattle.sf_steps_laws.specs.World.{World, first_world, with_stage}
use Rattle.sf_lists.specs.Functions.{put}
use Rattle.sf_steps_laws.specs.Turns.{stepped, started, left, run}
use Rattle.sf_steps_laws.specs.Events.{step_events, adds}
use Rattle.sf_steps_laws.specs.Schedules.{Setting, IsCaller, IsPlace, HasOperation, MayLeave, IsScheduleFrom, IsSchedule}
use Rattle.sf_lists.proofs.Functions.{put_cases}
use Rattle.sf_steps_laws.proofs.RightAnswers.{run_append, adds_append, schedule_parts, always, schedules_are_legal, always_fair}
use Rattle.sf_group_rows.specs.declared.sizes.Sizes.{Sizes}
use Rattle.sf_group_steps.specs.declared.view.View.{View}
use Rattle.sf_group_steps.specs.Words.{Word, key, call, next, same_word, code_at, IsKeyFor, IsCallFor, IsNextFor, Writes}
use Rattle.sf_group_steps.specs.View.{Has, setting_of, AreBy, callers_of, all_of, world_of, history_of}
use Rattle.sf_group_steps.specs.Plays.{Comes, Moves, MadeWith, Made}
use Rattle.sf_group_rows.specs.Seen.{Adds}
use Rattle.sf_history.specs.History.{own_events}
use Rattle.sf_group_steps.specs.Stands.{SitsWith, Sits, next_in, GoesWith, Goes}
use Rattle.sf_group_steps.specs.Forgets.{forget_op}
use Rattle.sf_steps_laws.proofs.Named.{IsAlone, spared_others, spared_stage, spared_generation, others_none, makers_are_callers}
use Rattle.sf_steps_laws.proofs.Parts.{schedule_append}
use Rattle.sf_words.specs.declared.limits.TheConstants.{LARGEST_GENERATION}

module _ {V : Type 0} where
  -- the turns are allowed here, come to this world, and add these events
  pub record Ran (z : Setting) (h : List (Event ℕ V)) (w : World V) (ts : List (Turn V)) (u : World V) (es : List (Event ℕ V)) : Type 0 where
    pub allowed : IsScheduleFrom z h w ts
    pub world : run w ts ≡ u
    pub events : adds w ts ≡ es

  pub ran_then : (z : Setting) (h : List (Event ℕ V)) (w u x : World V) (ts us : List (Turn V)) (es fs : List (Event ℕ V)) → Ran z h w ts u es → Ran z (h ++ es) u us x fs → Ran z h w (ts ++ us) x (es ++ fs)
  ran_then z h w u x ts us es fs one two = record {
    allowed = schedule_append z ts us h w one.allowed (subst (λ (q : World V). IsScheduleFrom z (h ++ adds w ts) q us) (sym one.world) (subst (λ (q : List (Event ℕ V)). IsScheduleFrom z (h ++ q) u us) (sym one.events) two.allowed));
    world = run_append w ts us ∙ (ap (λ q. run q us) one.world ∙ two.world);
    events = adds_append w ts us ∙ (ap (λ q. q ++ adds (run w ts) us) one.events ∙ ap (λ q. es ++ q) (ap (λ (q : World V). adds q us) one.world ∙ two.events));
  }

  pub step_ran : (z : Setting) (h : List (Event ℕ V)) (w : World V) (a : ℕ) (p : Stage V) → IsCaller z a → HasOperation p → w.stages a ≡ p → Ran z h w (turn.Step a ∷ []) (stepped w a p) (step_events w a p)
  step_ran z h w a p caller has at = record {
    allowed = ((caller, subst HasOperation (sym at) has), tt);
    world = ap (λ q. stepped w a q) at;
    events = append-nil (step_events w a (w.stages a)) ∙ ap (λ q. step_events w a q) at;
  }

  pub leave_ran : (z : Setting) (h : List (Event ℕ V)) (w : World V) (a : ℕ) (p : Stage V) → IsCaller z a → MayLeave p → w.stages a ≡ p → Ran z h w (turn.Leave a ∷ []) (left w a p) []
  leave_ran z h w a p caller may at = record { allowed = ((caller, subst MayLeave (sym at) may), tt); world = ap (λ q. left w a q) at; events = refl }

  pub ask_ran : (z : Setting) (h : List (Event ℕ V)) (w : World V) (a k : ℕ) → IsCaller z a → IsPlace z k → w.stages a ≡ stage.Free → w.generations a ≤ LARGEST_GENERATION
      → Ran z h w (turn.Start a (op.Ask k) ∷ []) (with_stage w a (stage.Asking k None (ask.Look false))) []
  ask_ran z h w a k caller place at left = record {
    allowed = ((caller, (place, (at, left)), tt), tt);
    world = ap started_at at ∙ ap (λ b. cond b w (with_stage w a (stage.Asking k None (ask.Look false)))) (le-ltb LARGEST_GENERATION (w.generations a) left);
    events = refl;
  }
    where
      started_at : Stage V → World V
      started_at q = started w a (op.Ask k) q

  pub forget_ran : (z : Setting) (h : List (Event ℕ V)) (w : World V) (a k : ℕ) (target : Option CallId) → IsCaller z a → IsPlace z k → w.stages a ≡ stage.Free
      → Ran z h w (turn.Start a (forget_op k target) ∷ []) (with_stage w a (stage.Forgetting k target (forget.Look false))) []
  forget_ran z h w a k None caller place at = record { allowed = ((caller, (place, at), tt), tt); world = ap (λ q. started w a (op.Forget k) q) at; events = refl }
  forget_ran z h w a k (Some c) caller place at = record { allowed = ((caller, (place, at), tt), tt); world = ap (λ q. started w a (op.ForgetCall k c) q) at; events = refl }

  pub named_ran : (z : Setting) (h : List (Event ℕ V)) (w : World V) (a k : ℕ) → IsCaller z a → IsPlace z k → w.stages a ≡ stage.Free → Ran z h w (turn.Start a (op.Named k) ∷ []) (with_stage w a (stage.Naming k)) []
  named_ran z h w a k caller place at = record { allowed = ((caller, (place, at), tt), tt); world = ap (λ q. started w a (op.Named k) q) at; events = refl }

  pub settle_ran : (z : Setting) (h : List (Event ℕ V)) (w : World V) (a k g : ℕ) (own : Option CallId) (x : V) → IsCaller z a → w.stages a ≡ stage.Leading k g own → Ran z h w (turn.Start a (op.Settle x) ∷ []) (with_stage w a (stage.Settling k g own x settle.Peek)) []
  settle_ran z h w a k g own x caller at = record { allowed = ((caller, (k, g, own, at), tt), tt); world = ap (λ q. started w a (op.Settle x) q) at; events = refl }

  -- worlds whose words are alike
  pub writes_none : (c : ℕ) (w u : World V) (x : Word) (n : ℕ) → n ≡ code_at w x → u.keys ≡ w.keys → u.calls ≡ w.calls → u.nexts ≡ w.nexts → Writes c w u x n
  writes_none c w u x n found keys calls nexts = record {
    codes = λ y. alike y ∙ same y;
    lawful = λ l. record {
      keys = subst (λ f. (k : ℕ) → IsKeyFor c (f k)) (sym keys) l.keys;
      calls = subst (λ f. (a : ℕ) → IsCallFor c (f a)) (sym calls) l.calls;
      nexts = subst (λ f. (a : ℕ) → IsNextFor c (f a)) (sym nexts) l.nexts;
    };
  }
    where
      alike : (y : Word) → code_at u y ≡ code_at w y
      alike (key k) = ap (λ f. key_code (f k)) keys
      alike (call a) = ap (λ f. call_code (f a)) calls
      alike (next a) = ap (λ f. next_code (f a)) nexts

      same : (y : Word) → code_at w y ≡ (if same_word y x then n else code_at w y)
      same y = at x y found
        where
          test : (b : Bool) (m : ℕ) → (b ≡ true → n ≡ m) → m ≡ (if b then n else m)
          test true m is = sym (is refl)
          test false m is = refl

          at : (x y : Word) → n ≡ code_at w x → code_at w y ≡ (if same_word y x then n else code_at w y)
          at (key k) (key j) e = test (j == k) (key_code (w.keys j)) (λ is. e ∙ ap (λ i. key_code (w.keys i)) (sym (eqb-true j k is)))
          at (key k) (call b) e = refl
          at (key k) (next b) e = refl
          at (call a) (key j) e = refl
          at (call a) (call b) e = test (b == a) (call_code (w.calls b)) (λ is. e ∙ ap (λ i. call_code (w.calls i)) (sym (eqb-true b a is)))
          at (call a) (next b) e = refl
          at (next a) (key j) e = refl
          at (next a) (call b) e = refl
          at (next a) (next b) e = test (b == a) (next_code (w.nexts b)) (λ is. e ∙ ap (λ i. next_code (w.nexts i)) (sym (eqb-true b a is)))

  -- one word is another
  pub writes_key : (c : ℕ) (w u : World V) (k : ℕ) (s : KeyState) → IsKeyFor c s → u.keys ≡ put w.keys k s → u.calls ≡ w.calls → u.nexts ≡ w.nexts → Writes c w u (key k) (key_code s)
  writes_key c w u k s lawful keys calls nexts = record {
    codes = codes;
    lawful = λ l. record {
      keys = subst (λ f. (j : ℕ) → IsKeyFor c (f j)) (sym keys) (λ j. put_cases (IsKeyFor c) w.keys k s j (λ e. lawful) (λ e. l.keys j));
      calls = subst (λ f. (a : ℕ) → IsCallFor c (f a)) (sym calls) l.calls;
      nexts = subst (λ f. (a : ℕ) → IsNextFor c (f a)) (sym nexts) l.nexts;
    };
  }
    where
      codes : (y : Word) → code_at u y ≡ (if same_word y (key k) then key_code s else code_at w y)
      codes (key j) = ap (λ f. key_code (f j)) keys ∙ through (j == k)
        where
          through : (b : Bool) → key_code (if b then s else w.keys j) ≡ (if b then key_code s else key_code (w.keys j))
          through true = refl
          through false = refl
      codes (call a) = ap (λ f. call_code (f a)) calls
      codes (next a) = ap (λ f. next_code (f a)) nexts

  pub writes_call : (c : ℕ) (w u : World V) (a : ℕ) (s : CallState) → IsCallFor c s → u.keys ≡ w.keys → u.calls ≡ put w.calls a s → u.nexts ≡ w.nexts → Writes c w u (call a) (call_code s)
  writes_call c w u a s lawful keys calls nexts = record {
    codes = codes;
    lawful = λ l. record {
      keys = subst (λ f. (j : ℕ) → IsKeyFor c (f j)) (sym keys) l.keys;
      calls = subst (λ f. (b : ℕ) → IsCallFor c (f b)) (sym calls) (λ b. put_cases (IsCallFor c) w.calls a s b (λ e. lawful) (λ e. l.calls b));
      nexts = subst (λ f. (b : ℕ) → IsNextFor c (f b)) (sym nexts) l.nexts;
    };
  }
    where
      codes : (y : Word) → code_at u y ≡ (if same_word y (call a) then call_code s else code_at w y)
      codes (key j) = ap (λ f. key_code (f j)) keys
      codes (call b) = ap (λ f. call_code (f b)) calls ∙ through (b == a)
        where
          through : (t : Bool) → call_code (if t then s else w.calls b) ≡ (if t then call_code s else call_code (w.calls b))
          through true = refl
          through false = refl
      codes (next b) = ap (λ f. next_code (f b)) nexts

  pub writes_next : (c : ℕ) (w u : World V) (a : ℕ) (s : Option ℕ) → IsNextFor c s → u.keys ≡ w.keys → u.calls ≡ w.calls → u.nexts ≡ put w.nexts a s → Writes c w u (next a) (next_code s)
  writes_next c w u a s lawful keys calls nexts = record {
    codes = codes;
    lawful = λ l. record {
      keys = subst (λ f. (j : ℕ) → IsKeyFor c (f j)) (sym keys) l.keys;
      calls = subst (λ f. (b : ℕ) → IsCallFor c (f b)) (sym calls) l.calls;
      nexts = subst (λ f. (b : ℕ) → IsNextFor c (f b)) (sym nexts) (λ b. put_cases (IsNextFor c) w.nexts a s b (λ e. lawful) (λ e. l.nexts b));
    };
  }
    where
      codes : (y : Word) → code_at u y ≡ (if same_word y (next a) then next_code s else code_at w y)
      codes (key j) = ap (λ f. key_code (f j)) keys
      codes (call b) = ap (λ f. call_code (f b)) calls
      codes (next b) = ap (λ f. next_code (f b)) nexts ∙ through (b == a)
        where
          through : (t : Bool) → next_code (if t then s else w.nexts b) ≡ (if t then next_code s else next_code (w.nexts b))
          through true = refl
          through false = refl

  -- a seat's own stage and generation are what it knows, whatever others did
  pub sits_has : {out : List ℕ} (z : Sizes) (a : ℕ) (v : View V) (p : Stage V) → SitsWith z a v p out → Has v.known.callers a
  sits_has z a v p sits = subst (λ q. Has q a) (sym sits.callers) (inl refl)

  pub all_alone : {out : List ℕ} (z : Sizes) (a : ℕ) (v : View V) (p : Stage V) → SitsWith z a v p out → all_of v ≡ a ∷ []
  all_alone z a v p sits = ap (λ q. v.known.callers ++ callers_of q) sits.told ∙ (append-nil v.known.callers ∙ sits.callers)

  pub stands : {out : List ℕ} (z : Sizes) (a : ℕ) (v : View V) (p : Stage V) (s : List (Turn V)) → SitsWith z a v p out → IsAlone p → Comes z v s → (world_of z s).stages a ≡ p
  stands z a v p s sits alone c =
      let m = c.later in
      let whole : IsSchedule (setting_of z) (v.known.turns ++ m.between) = subst (λ q. IsSchedule (setting_of z) q) m.turns c.schedule in
      ap (λ q. (world_of z q).stages a) m.turns ∙ (spared_stage (setting_of z) v.known.turns m.between a whole (m.others a (sits_has z a v p sits)) (subst IsAlone (sym sits.stage) alone) ∙ sits.stage)

  pub uses : {out : List ℕ} (z : Sizes) (a : ℕ) (v : View V) (p : Stage V) (s : List (Turn V)) → SitsWith z a v p out → IsAlone p → Comes z v s → (world_of z s).generations a ≡ next_in z v a
  uses z a v p s sits alone c =
      let m = c.later in
      let whole : IsSchedule (setting_of z) (v.known.turns ++ m.between) = subst (λ q. IsSchedule (setting_of z) q) m.turns c.schedule in
      ap (λ q. (world_of z q).generations a) m.turns ∙ spared_generation (setting_of z) v.known.turns m.between a whole (m.others a (sits_has z a v p sits)) (subst IsAlone (sym sits.stage) alone)

  -- from each schedule to which others come, the turns run, and write one word
  pub record Does (z : Sizes) (s : List (Turn V)) (x : Word) (m : ℕ) (ts : List (Turn V)) : Type 0 where
    pub world : World V
    pub events : List (Event ℕ V)
    pub ran : Ran (setting_of z) (history_of z s) (world_of z s) ts world events
    pub writes : Writes z.callers (world_of z s) world x m
    pub cells : world.cells ≡ (world_of z s).cells

  pub moves_by : (z : Sizes) (a : ℕ) (v : View V) (p : Stage V) (x : Word) (f : ℕ → ℕ) (turns : ℕ → List (Turn V)) → Sits z a v p → IsAlone p
      → ((s : List (Turn V)) → Comes z v s → (world_of z s).stages a ≡ p → (world_of z s).generations a ≡ next_in z v a → (n : ℕ) → n ≡ code_at (world_of z s) x → AreBy (a ∷ []) (turns n) × Does z s x (f n) (turns n))
      → Moves z v x f turns
  moves_by z a v p x f turns sits alone does = (
    sits.cells,
    λ s c n found small.
        let d = does s c (stands z a v p s sits alone c) (uses z a v p s sits alone c) n found in (
          subst (λ who. AreBy who (turns n)) (sym (all_alone z a v p sits)) d.0,
          d.1.ran.allowed,
          subst (λ (u : World V). Writes z.callers (world_of z s) u x (f n)) (sym d.1.ran.world) d.1.writes,
          ap (λ (u : World V). u.cells) d.1.ran.world ∙ d.1.cells,
        ),
  )

  -- what the seat knows after these turns, before which it had these cells out, and after which those
  abbrev pub goes_with : (z : Sizes) (a : ℕ) (v w : View V) (p q : Stage V) (ts : List (Turn V)) (u : World V) (es x : List (Event ℕ V)) (given : ℕ) (had out : List ℕ) → SitsWith z a v p had → IsAlone p → (m : MadeWith z v w ts out)
      → Ran (setting_of z) (history_of z m.before) (world_of z m.before) ts u es → u.stages a ≡ q → own_events a es ≡ x → u.generations a ≡ (world_of z m.before).generations a + given → GoesWith z a v w q x given out
  goes_with z a v w p q ts u es x given had out sits alone m ran at own more =
      let s : List (Turn V) = m.before in
      let between : List (Turn V) = m.comes.later.between in
      let first = first_world z.callers z.first in
      let turns_is : w.known.turns ≡ s ++ ts = ap (λ (y : View V). y.known.turns) m.view in
      let world_is : world_of z (s ++ ts) ≡ u = run_append first s ts ∙ ran.world in
      let front : IsSchedule (setting_of z) (v.known.turns ++ between) = subst (λ q. IsSchedule (setting_of z) q) m.comes.later.turns m.comes.schedule in
      let parts = schedule_parts (setting_of z) v.known.turns between [] first front in
      let free = subst IsAlone (sym sits.stage) alone in
      let others = spared_others (setting_of z) v.known.turns between a front (m.comes.later.others a (sits_has z a v p sits)) free in
      let none = others_none (setting_of z) between (history_of z v.known.turns) (world_of z v.known.turns) a (always_fair (setting_of z) v.known.turns parts.0) parts.1 others in
      let old : List (Event ℕ V) = history_of z v.known.turns in
      let mid : List (Event ℕ V) = adds (world_of z v.known.turns) between in
      let grown : history_of z s ≡ old ++ mid = ap (history_of z) m.comes.later.turns ∙ adds_append first v.known.turns between in
      let new_is : history_of z (s ++ ts) ≡ (old ++ mid) ++ es = adds_append first s ts ∙ (ap (λ y. y ++ adds (run first s) ts) grown ∙ ap (λ y. (old ++ mid) ++ y) ran.events) in
      let kept = uses z a v p s sits alone m.comes in
      let before_counted = (always (setting_of z) v.known.turns parts.0).past.counted a in
      let after_counted = (always (setting_of z) (s ++ ts) m.whole).past.counted a in
      let there : (world_of z (s ++ ts)).generations a ≡ u.generations a = ap (λ (y : World V). y.generations a) world_is in
      record {
        sits = record {
          sizes = ap (λ (y : View V). y.sizes) m.view ∙ sits.sizes;
          callers = ap (λ (y : View V). y.known.callers) m.view ∙ all_alone z a v p sits;
          told = ap (λ (y : View V). y.told) m.view;
          caller = sits.caller;
          schedule = subst (λ y. IsSchedule (setting_of z) y) (sym turns_is) m.whole;
          stage = ap (λ y. (world_of z y).stages a) turns_is ∙ (ap (λ (y : World V). y.stages a) world_is ∙ at);
          cells = ap (λ (y : View V). y.cells) m.view;
        };
        turns = between ++ ts;
        knows = turns_is ∙ (ap (λ y. y ++ ts) m.comes.later.turns ∙ append_assoc v.known.turns between ts);
        used = ap (λ y. (world_of z y).generations a) turns_is ∙ (there ∙ (more ∙ ap (λ n. n + given) kept));
        adds = λ t. subst (λ h. Adds (record { table = t; sizes = z }) a old (history_of z h) x given) (sym turns_is) (record {
          grows = record {
            begins = (mid ++ es, new_is ∙ append_assoc old mid es);
            own = ap (own_events a) new_is
                ∙ (filter-append (λ (e : Event ℕ V). maker e == a) (old ++ mid) es
                ∙ (ap (λ y. y ++ own_events a es) (filter-append (λ (e : Event ℕ V). maker e == a) old mid ∙ (ap (λ y. own_events a old ++ y) none ∙ append-nil (own_events a old)))
                ∙ ap (λ y. own_events a old ++ y) own));
            next = sym after_counted ∙ (there ∙ (more ∙ (ap (λ y. y + given) kept ∙ ap (λ y. y + given) before_counted)));
          };
          lawful = record { legal = schedules_are_legal (setting_of z) (s ++ ts) m.whole; made = makers_are_callers (setting_of z) (s ++ ts) m.whole };
        });
      }

  -- the same where it has none out
  abbrev pub goes_by : (z : Sizes) (a : ℕ) (v w : View V) (p q : Stage V) (ts : List (Turn V)) (u : World V) (es x : List (Event ℕ V)) (given : ℕ) → Sits z a v p → IsAlone p → (m : Made z v w ts)
      → Ran (setting_of z) (history_of z m.before) (world_of z m.before) ts u es → u.stages a ≡ q → own_events a es ≡ x → u.generations a ≡ (world_of z m.before).generations a + given → Goes z a v w q x given
  goes_by z a v w p q ts u es x given sits alone m ran at own more = goes_with z a v w p q ts u es x given [] [] sits alone m ran at own more

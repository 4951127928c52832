-- the kind look of an asking with a second, which starts it
use Rattle.std.proofs.Common.{◌≡◌, ◌≢◌, ℕ, ◌≤◌, true, false, ◌==◌, ◌||◌, ne_eqb, List, [], ◌∷◌, ◌++◌, inl, inr, Some, refl, sym, ◌∙◌, ap, subst, arith}
use Rattle.std.specs.Prelude.{cond, ◌⊎◌}
use Rattle.std.proofs.lemmas.Bool.{le-ltb}
use Rattle.sf_history.specs.declared.event.Event.{Event}
use Rattle.sf_words.specs.declared.key_word.KeyState.{KeyState}
use Rattle.sf_words.specs.KeyWord.{key_code}
use Rattle.sf_steps_laws.specs.declared.operation.Op.TheVariants as op
use Rattle.sf_steps_laws.specs.declared.operation.Stage.{Stage}
use Rattle.sf_steps_laws.specs.declared.operation.Stage.TheVariants as stage
use Rattle.sf_steps_laws.specs.declared.operation.AskStep.TheVariants as ask
use Rattle.sf_steps_laws.specs.declared.turn.Turn.{Turn}
use Rattle.sf_steps_laws.specs.declared.turn.Turn.TheVariants as turn
use Rattle.sf_steps_laws.specs.World.{World, first_world, with_stage, is_spent}
use Rattle.sf_lists.specs.Functions.{put}
use Rattle.sf_steps_laws.specs.Askings.{looked, ask_stepped}
use Rattle.sf_steps_laws.specs.Turns.{started, chan_started, run}
use Rattle.sf_steps_laws.specs.Schedules.{Setting, IsCaller, IsPlace, IsSchedule}
use Rattle.sf_lists.proofs.Functions.{put_here, put_else}
use Rattle.sf_steps_laws.proofs.RightAnswers.{run_append}
use Rattle.sf_group_steps.specs.declared.view.View.{View}
use Rattle.sf_group_steps.specs.Words.{key, IsKeyFor}
use Rattle.sf_group_steps.specs.View.{setting_of, AreBy, world_of, history_of}
use Rattle.sf_group_steps.specs.Plays.{Moves, view_after, Made, Found}
use Rattle.sf_group_steps.specs.Stands.{stage_in}
use Rattle.sf_group_steps.proofs.Ways.{Ran, ran_then, step_ran, writes_none}
use Rattle.sf_group_steps.proofs.LookSteps.{asking_alone, free_alone, stage_is, alike_none}
use Rattle.sf_group_chans.specs.declared.askers.Askers.{Askers}
use Rattle.sf_group_chans.specs.Both.{AreAskers, alone, SitBoth, Ask, MayLook, look_turns}
use Rattle.sf_group_chans.specs.Changes.{StayBoth}
use Rattle.sf_group_chans.proofs.Alone.{Serves, Stand, stand}
use Rattle.sf_group_chans.proofs.Going.{moves_both, Ends, stay_both}
use Rattle.sf_words.specs.declared.limits.TheConstants.{LARGEST_GENERATION}

-- a turn of the caller names it alone
pub by_first : (V : Type 0) (a b : ℕ) → AreBy {V = V} (a ∷ b ∷ []) (turn.Step a ∷ [])
by_first V a b = ((λ i e. inl e), tt)

by_both : (V : Type 0) (c : Askers) → AreBy {V = V} (c.number ∷ c.second ∷ []) (turn.Start c.number (op.Chan c.second c.place) ∷ turn.Step c.number ∷ [])
by_both V c = (named, ((λ i e. inl e), tt))
  where
    named : (i : ℕ) → (c.number ≡ i) ⊎ (c.second ≡ i) → (c.number ≡ i) ⊎ ((c.second ≡ i) ⊎ ⊥)
    named i (inl e) = inl e
    named i (inr e) = inr (inl e)

module _ {V : Type 0} where
  pub second_serves : (a : ℕ) → Serves {V = V} (stage.Seconding a) a
  second_serves a d e = cc

  pub free_serves : (a : ℕ) → Serves {V = V} stage.Free a
  free_serves a d e = cc

  -- a step of the caller changes its stage alone, and words
  pub ends_step : (c : Askers) (w u : World V) (p q : Stage V) → c.second ≢ c.number → u.stages ≡ put w.stages c.number p → u.generations ≡ w.generations → w.stages c.second ≡ q → Ends c w u p q 0 0
  ends_step c w u p q apart stages generations at =
      let mine : u.generations c.number ≡ w.generations c.number = ap (λ f. f c.number) generations in
      let theirs : u.generations c.second ≡ w.generations c.second = ap (λ f. f c.second) generations in record {
        first = ap (λ f. f c.number) stages ∙ put_here w.stages c.number p;
        second = ap (λ f. f c.second) stages ∙ (put_else w.stages c.number p c.second apart ∙ at);
        used = omega (arith, mine);
        second_used = omega (arith, theirs);
      }

  -- the start
  chan_ran : (z : Setting) (h : List (Event ℕ V)) (w : World V) (a b k : ℕ) → IsCaller z a → IsCaller z b → b ≢ a → IsPlace z k → w.stages a ≡ stage.Free → w.stages b ≡ stage.Free → w.generations a ≤ LARGEST_GENERATION → w.generations b ≤ LARGEST_GENERATION
      → Ran z h w (turn.Start a (op.Chan b k) ∷ []) (with_stage (with_stage w b (stage.Seconding a)) a (stage.Asking k (Some b) (ask.Look false))) []
  chan_ran z h w a b k caller second apart place at second_at left second_left = record {
    allowed = ((caller, (place, second, apart, (at, left), (second_at, second_left)), tt), tt);
    world = ap started_at at
        ∙ (ap (λ e. cond e w (chan_started w a b k (w.stages b))) (le-ltb LARGEST_GENERATION (w.generations a) left)
        ∙ (ap (λ q. chan_started w a b k q) second_at ∙ ap (λ e. cond e w target) able));
    events = refl;
  }
    where
      target : World V
      target = with_stage (with_stage w b (stage.Seconding a)) a (stage.Asking k (Some b) (ask.Look false))

      started_at : Stage V → World V
      started_at q = started w a (op.Chan b k) q

      able : ((b == a) || is_spent w b) ≡ false
      able = ap (λ e. e || is_spent w b) (ne_eqb b a apart) ∙ le-ltb LARGEST_GENERATION (w.generations b) second_left

  abbrev pub chan_world : World V → Askers → World V
  chan_world w c = with_stage (with_stage w c.second (stage.Seconding c.number)) c.number (stage.Asking c.place (Some c.second) (ask.Look false))

  pub chan_begun : (c : Askers) (v : View V) (s : List (Turn V)) → AreAskers c → Ask c v stage.Free stage.Free → Stand c v stage.Free stage.Free s
      → Ran (setting_of c.sizes) (history_of c.sizes s) (world_of c.sizes s) (turn.Start c.number (op.Chan c.second c.place) ∷ []) (chan_world (world_of c.sizes s) c) []
  chan_begun c v s are asks at =
      let left = subst (λ g. g ≤ LARGEST_GENERATION) (sym (at.next ∙ asks.next)) are.generation.1 in
      let second_left = subst (λ g. g ≤ LARGEST_GENERATION) (sym (at.second_next ∙ asks.second_next)) are.second_generation.1 in
      chan_ran (setting_of c.sizes) (history_of c.sizes s) (world_of c.sizes s) c.number c.second c.place asks.sit.first.caller asks.sit.second.caller asks.apart are.place at.first at.second left second_left

  started_look : (c : Askers) (v : View V) (s : List (Turn V)) → AreAskers c → Ask c v stage.Free stage.Free → Stand c v stage.Free stage.Free s
      → Ran (setting_of c.sizes) (history_of c.sizes s) (world_of c.sizes s) (turn.Start c.number (op.Chan c.second c.place) ∷ turn.Step c.number ∷ [])
      (ask_stepped (chan_world (world_of c.sizes s) c) c.number c.place (Some c.second) (ask.Look false)) []
  started_look c v s are asks at =
      let w : World V = world_of c.sizes s in
      let u : World V = chan_world w c in
      ran_then (setting_of c.sizes) (history_of c.sizes s) w u (ask_stepped u c.number c.place (Some c.second) (ask.Look false)) (turn.Start c.number (op.Chan c.second c.place) ∷ []) (turn.Step c.number ∷ []) [] []
      (chan_begun c v s are asks at)
      (step_ran (setting_of c.sizes) (history_of c.sizes s ++ []) u c.number (stage.Asking c.place (Some c.second) (ask.Look false)) asks.sit.first.caller tt
      (put_here (put w.stages c.second (stage.Seconding c.number)) c.number (stage.Asking c.place (Some c.second) (ask.Look false))))

  started_ends : (c : Askers) (w : World V) (p : Stage V) → c.second ≢ c.number → Ends c w (with_stage (chan_world w c) c.number p) p (stage.Seconding c.number) 0 0
  started_ends c w p apart =
      let one : ℕ → Stage V = put w.stages c.second (stage.Seconding c.number) in
      let two : ℕ → Stage V = put one c.number (stage.Asking c.place (Some c.second) (ask.Look false)) in record {
        first = put_here two c.number p;
        second = put_else two c.number p c.second apart ∙ (put_else one c.number (stage.Asking c.place (Some c.second) (ask.Look false)) c.second apart ∙ put_here w.stages c.second (stage.Seconding c.number));
        used = omega arith;
        second_used = omega arith;
      }

  pub turns_are : (c : Askers) (v : View V) (p q : Stage V) → SitBoth c v p q → look_turns (stage_in v c.number) c ≡ look_turns p c
  turns_are c v p q sit = ap (λ s. look_turns s c) (stage_is c.sizes c.number (alone c.number v) p sit.first)

  pub may_sizes : (c : Askers) (v : View V) → MayLook c v → v.sizes ≡ Some c.sizes
  may_sizes c v (inl free) = free.sit.first.sizes
  may_sizes c v (inr again) = again.sit.first.sizes

  pub look_move : (c : Askers) (v : View V) → AreAskers c → MayLook c v → Moves c.sizes v (key c.place) (λ n. n) (λ _. look_turns (stage_in v c.number) c)
  look_move c v are (inl free) = subst (λ ts. Moves c.sizes v (key c.place) (λ n. n) (λ _. ts)) (sym (turns_are c v stage.Free stage.Free free.sit))
      (moves_both c v stage.Free stage.Free (key c.place) (λ n. n) (λ _. look_turns stage.Free c) free.sit free_alone (free_serves c.number)
      (λ s comes at n found.
      let w : World V = world_of c.sizes s in
      let u : World V = ask_stepped (chan_world w c) c.number c.place (Some c.second) (ask.Look false) in (
        by_both V c,
        record { world = u; events = []; ran = started_look c v s are free at; writes = writes_none c.sizes.callers w u (key c.place) n found refl refl refl; cells = refl },
      )))
  look_move c v are (inr again) = subst (λ ts. Moves c.sizes v (key c.place) (λ n. n) (λ _. ts)) (sym (turns_are c v p (stage.Seconding c.number) again.sit))
      (moves_both c v p (stage.Seconding c.number) (key c.place) (λ n. n) (λ _. turn.Step c.number ∷ []) again.sit (asking_alone c.place (Some c.second) (ask.Look true)) (second_serves c.number)
      (λ s comes at n found.
      let w : World V = world_of c.sizes s in
      let u : World V = ask_stepped w c.number c.place (Some c.second) (ask.Look true) in (
        by_first V c.number c.second,
        record { world = u; events = []; ran = step_ran (setting_of c.sizes) (history_of c.sizes s) w c.number p again.sit.first.caller tt at.first; writes = writes_none c.sizes.callers w u (key c.place) n found refl refl refl; cells = refl },
      )))
    where
      p : Stage V
      p = stage.Asking c.place (Some c.second) (ask.Look true)

  -- what the look found is in the key word, as far as the seat then knows
  pub look_told : (c : Askers) (n : ℕ) (v w : View V) (x : KeyState) → AreAskers c → MayLook c v → Found (key c.place) (λ _. look_turns (stage_in v c.number) c) c.sizes v n w
      → ((y : KeyState) → IsKeyFor c.sizes.callers y → key_code y ≡ n → x ≡ y)
      → StayBoth c v w (stage.Asking c.place (Some c.second) (looked (Some c.second) x)) (stage.Seconding c.number) × ((world_of c.sizes w.known.turns).keys c.place ≡ x)
  look_told c n v w x are may found says = at may
    where
      m : Made c.sizes v w (look_turns (stage_in v c.number) c)
      m = found.0

      w₀ : World V
      w₀ = world_of c.sizes m.before

      is : x ≡ w₀.keys c.place
      is = says (w₀.keys c.place) (m.comes.lawful.keys c.place) (sym found.1)

      q : KeyState → Stage V
      q y = stage.Asking c.place (Some c.second) (looked (Some c.second) y)

      known : (ts : List (Turn V)) (u : World V) → (o : Made c.sizes v w ts) → (o.before ≡ m.before) → run (world_of c.sizes o.before) ts ≡ u → u.keys ≡ w₀.keys → (world_of c.sizes w.known.turns).keys c.place ≡ x
      known ts u o same to keys = ap (λ (y : View V). (world_of c.sizes y.known.turns).keys c.place) o.view ∙ (ap (λ (y : World V). y.keys c.place) (run_append (first_world c.sizes.callers c.sizes.first) o.before ts ∙ to) ∙ (ap (λ f. f c.place) keys ∙ sym is))

      again_made : (ts us : List (Turn V)) → ts ≡ us → Made c.sizes v w ts → Made c.sizes v w us
      again_made ts us e o = subst (λ l. Made c.sizes v w l) e o

      at : MayLook c v → StayBoth c v w (stage.Asking c.place (Some c.second) (looked (Some c.second) x)) (stage.Seconding c.number) × ((world_of c.sizes w.known.turns).keys c.place ≡ x)
      at (inl free) =
          let ts : List (Turn V) = look_turns stage.Free c in
          let e = turns_are c v stage.Free stage.Free free.sit in
          let o : Made c.sizes v w ts = record { before = m.before; comes = m.comes; whole = subst (λ l. IsSchedule (setting_of c.sizes) (m.before ++ l)) e m.whole; view = m.view ∙ ap (λ l. view_after v (m.before ++ l)) e } in
          let mid : World V = chan_world w₀ c in
          let u : World V = ask_stepped mid c.number c.place (Some c.second) (ask.Look false) in
          let ran = started_look c v m.before are free (stand c v stage.Free stage.Free m.before free.sit free_alone (free_serves c.number) m.comes) in
          let ends : Ends c w₀ u (q x) (stage.Seconding c.number) 0 0 = subst (λ y. Ends c w₀ u (q y) (stage.Seconding c.number) 0 0) (sym is) (started_ends c w₀ (q (w₀.keys c.place)) free.apart) in (
            stay_both c v w stage.Free stage.Free (q x) (stage.Seconding c.number) ts u free free_alone (free_serves c.number) o ran ends (λ y first second. alike_none w₀ u c.number refl refl refl y first),
            known ts u o refl ran.world refl,
          )
      at (inr again) =
          let p : Stage V = stage.Asking c.place (Some c.second) (ask.Look true) in
          let ts : List (Turn V) = turn.Step c.number ∷ [] in
          let e = turns_are c v p (stage.Seconding c.number) again.sit in
          let o : Made c.sizes v w ts = record { before = m.before; comes = m.comes; whole = subst (λ l. IsSchedule (setting_of c.sizes) (m.before ++ l)) e m.whole; view = m.view ∙ ap (λ l. view_after v (m.before ++ l)) e } in
          let u : World V = ask_stepped w₀ c.number c.place (Some c.second) (ask.Look true) in
          let free = asking_alone c.place (Some c.second) (ask.Look true) in
          let there = stand c v p (stage.Seconding c.number) m.before again.sit free (second_serves c.number) m.comes in
          let ran = step_ran (setting_of c.sizes) (history_of c.sizes m.before) w₀ c.number p again.sit.first.caller tt there.first in
          let ends : Ends c w₀ u (q x) (stage.Seconding c.number) 0 0 = subst (λ y. Ends c w₀ u (q y) (stage.Seconding c.number) 0 0) (sym is) (ends_step c w₀ u (q (w₀.keys c.place)) (stage.Seconding c.number) again.apart refl refl there.second) in (
            stay_both c v w p (stage.Seconding c.number) (q x) (stage.Seconding c.number) ts u again free (second_serves c.number) o ran ends (λ y first second. alike_none w₀ u c.number refl refl refl y first),
            known ts u o refl ran.world refl,
          )

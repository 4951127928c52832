-- the kind lead
use Rattle.std.proofs.Common.{◌≡◌, ◌≢◌, ℕ, ◌+◌, Bool, true, false, ◌==◌, eqb, eq-eqb, ne_eqb, List, [], ◌∷◌, ◌++◌, inl, None, refl, sym, ◌∙◌, ap, subst, arith}
use Rattle.std.specs.Prelude.{if◌then◌else◌}
use prog.Atomic.{either}
use Rattle.std.proofs.lemmas.Bool.{cond-true}
use Rattle.sf_history.specs.declared.event.Event.TheVariants.{Lead}
use Rattle.sf_words.specs.declared.key_word.KeyState.{KeyState}
use Rattle.sf_words.specs.declared.key_word.KeyState.TheVariants.{Names}
use Rattle.sf_words.specs.KeyWord.{IsKeyState, key_code}
use Rattle.sf_words.proofs.KeyCodes.{key_code_one}
use Rattle.sf_steps_laws.specs.declared.operation.Stage.{Stage}
use Rattle.sf_steps_laws.specs.declared.operation.Stage.TheVariants as stage
use Rattle.sf_steps_laws.specs.declared.operation.AskStep.TheVariants as ask
use Rattle.sf_steps_laws.specs.declared.turn.Turn.{Turn}
use Rattle.sf_steps_laws.specs.declared.turn.Turn.TheVariants as turn
use Rattle.sf_steps_laws.specs.World.{World, first_world, with_stage, same_key, next_id}
use Rattle.sf_lists.specs.Functions.{put}
use Rattle.sf_steps_laws.specs.Askings.{led, after_lead}
use Rattle.sf_steps_laws.specs.Turns.{run}
use Rattle.sf_steps_laws.specs.Events.{lead_events}
use Rattle.sf_steps_laws.specs.Schedules.{IsCaller, IsSchedule}
use Rattle.sf_lists.proofs.Functions.{put_here}
use Rattle.sf_steps_laws.proofs.Compared.{same_key_self}
use Rattle.sf_steps_laws.specs.Afters.{after_of}
use Rattle.sf_steps_laws.proofs.Afters.{leads_know_current}
use Rattle.sf_steps_laws.proofs.RightAnswers.{run_append, adds_append}
use Rattle.sf_group_rows.specs.declared.sizes.Sizes.{Sizes}
use Rattle.sf_group_steps.specs.declared.view.View.{View}
use Rattle.sf_group_steps.specs.Words.{key, code_at, IsKeyFor, Writes}
use Rattle.sf_group_steps.specs.View.{Has, setting_of, AreBy, world_of, history_of}
use Rattle.sf_group_steps.specs.Plays.{Moves, view_after, Made, Found}
use Rattle.sf_history.specs.History.{own_events}
use Rattle.sf_group_steps.specs.Stands.{Sits, next_in, Goes}
use Rattle.sf_group_steps.specs.Changes.{Loses}
use Rattle.sf_group_steps.specs.Attempts.{IsAfter, lost_stage}
use Rattle.sf_group_steps.proofs.Ways.{Ran, ran_then, step_ran, leave_ran, writes_none, writes_key, stands, uses, Does, moves_by, goes_by}
use Rattle.sf_group_steps.proofs.Changing.{changes_append, changed_once}
use Rattle.sf_group_steps.proofs.LookSteps.{key_test, lost_by, asking_alone}

module _ {V : Type 0} where
  -- exchange the key word that was seen; the last try is followed by the drop
  abbrev pub lead_turns : ℕ → ℕ → Bool → ℕ → List (Turn V)
  lead_turns old a last n = if n == old then turn.Step a ∷ [] else (if last then turn.Step a ∷ turn.Leave a ∷ [] else turn.Step a ∷ [])

  abbrev pub lost_world : World V → ℕ → ℕ → Bool → World V
  lost_world w a k false = with_stage w a (stage.Asking k None (ask.Look true))
  lost_world w a k true = with_stage (with_stage w a (stage.Asking k None (ask.Look true))) a stage.Free

  lead_ran : (z : Sizes) (a k : ℕ) (seen : KeyState) (f : Bool) (s : List (Turn V)) → IsCaller (setting_of z) a → (world_of z s).stages a ≡ stage.Asking k None (ask.Lead seen f) → (b : Bool) → same_key ((world_of z s).keys k) seen ≡ b
      → Ran (setting_of z) (history_of z s) (world_of z s) (turn.Step a ∷ []) (after_lead (world_of z s) a k None b) (lead_events (world_of z s) a k None b)
  lead_ran z a k seen f s caller at b is = subst (λ t. Ran (setting_of z) (history_of z s) (world_of z s) (turn.Step a ∷ []) (after_lead (world_of z s) a k None t) (lead_events (world_of z s) a k None t)) is
      (step_ran (setting_of z) (history_of z s) (world_of z s) a (stage.Asking k None (ask.Lead seen f)) caller tt at)

  pub lost_ran : (z : Sizes) (a k : ℕ) (seen : KeyState) (f : Bool) (s : List (Turn V)) → IsCaller (setting_of z) a → (world_of z s).stages a ≡ stage.Asking k None (ask.Lead seen f) → same_key ((world_of z s).keys k) seen ≡ false → (last : Bool)
      → Ran (setting_of z) (history_of z s) (world_of z s) (if last then turn.Step a ∷ turn.Leave a ∷ [] else turn.Step a ∷ []) (lost_world (world_of z s) a k last) []
  lost_ran z a k seen f s caller at is false = lead_ran z a k seen f s caller at false is
  lost_ran z a k seen f s caller at is true =
      let w : World V = world_of z s in
      let u : World V = with_stage w a (stage.Asking k None (ask.Look true)) in
      ran_then (setting_of z) (history_of z s) w u (lost_world w a k true) (turn.Step a ∷ []) (turn.Leave a ∷ []) [] [] (lead_ran z a k seen f s caller at false is)
      (leave_ran (setting_of z) (history_of z s ++ []) u a (stage.Asking k None (ask.Look true)) caller tt (put_here w.stages a (stage.Asking k None (ask.Look true))))

  pub lost_writes : (c : ℕ) (w : World V) (a k n : ℕ) (last : Bool) → n ≡ code_at w (key k) → Writes c w (lost_world w a k last) (key k) n
  lost_writes c w a k n true found = writes_none c w (lost_world w a k true) (key k) n found refl refl refl
  lost_writes c w a k n false found = writes_none c w (lost_world w a k false) (key k) n found refl refl refl

  pub lost_cells : (w : World V) (a k : ℕ) (last : Bool) → (lost_world w a k last).cells ≡ w.cells
  lost_cells w a k true = refl
  lost_cells w a k false = refl

  pub lead_move : (z : Sizes) (a k g old new : ℕ) (seen : KeyState) (f last : Bool) (v : View V) → Sits z a v (stage.Asking k None (ask.Lead seen f)) → next_in z v a ≡ g → IsKeyState seen → IsKeyFor z.callers (Names a g false) → old ≡ key_code seen → new ≡ key_code (Names a g false)
      → Moves z v (key k) (λ n. either (n == old) new n) (lead_turns old a last)
  lead_move z a k g old new seen f last v sits given seen_lawful lawful old_code new_code = moves_by z a v p (key k) (λ n. either (n == old) new n) (lead_turns old a last) sits (asking_alone k None (ask.Lead seen f))
      (λ s comes at used n found.
      let w : World V = world_of z s in
      let test : (n == old) ≡ same_key (w.keys k) seen = ap (λ m. eqb m old) found ∙ (ap (eqb (key_code (w.keys k))) old_code ∙ key_test (w.keys k) seen (comes.lawful.keys k).0 seen_lawful) in
      does s n found at (used ∙ given) (same_key (w.keys k) seen) refl test)
    where
      p : Stage V
      p = stage.Asking k None (ask.Lead seen f)

      does : (s : List (Turn V)) (n : ℕ) → n ≡ code_at (world_of z s) (key k) → (world_of z s).stages a ≡ p → (world_of z s).generations a ≡ g → (b : Bool) → same_key ((world_of z s).keys k) seen ≡ b → (n == old) ≡ b
          → AreBy {V = V} (a ∷ []) (lead_turns old a last n) × Does z s (key k) (either (n == old) new n) (lead_turns old a last n)
      does s n found at used true is test = subst (λ t. AreBy {V = V} (a ∷ []) (if t then turn.Step a ∷ [] else (if last then turn.Step a ∷ turn.Leave a ∷ [] else turn.Step a ∷ [])) × Does z s (key k) (either t new n) (if t then turn.Step a ∷ [] else (if last then turn.Step a ∷ turn.Leave a ∷ [] else turn.Step a ∷ []))) (sym test)
          (let w : World V = world_of z s in
          let named : Names a g false ≡ Names a (w.generations a) false = ap (λ i. Names a i false) (sym used) in (
            ((λ b e. inl e), tt),
            record {
              world = led w a k None;
              events = Lead a k (next_id w a) None ∷ [];
              ran = lead_ran z a k seen f s sits.caller at true is;
              writes = subst (λ m. Writes z.callers w (led w a k None) (key k) m) (sym (new_code ∙ ap key_code named)) (writes_key z.callers w (led w a k None) k (Names a (w.generations a) false) (subst (IsKeyFor z.callers) named lawful) refl refl refl);
              cells = refl;
            },
          ))
      does s n found at used false is test = subst (λ t. AreBy {V = V} (a ∷ []) (if t then turn.Step a ∷ [] else (if last then turn.Step a ∷ turn.Leave a ∷ [] else turn.Step a ∷ [])) × Does z s (key k) (either t new n) (if t then turn.Step a ∷ [] else (if last then turn.Step a ∷ turn.Leave a ∷ [] else turn.Step a ∷ []))) (sym test)
          (lost_by V a last, record { world = lost_world (world_of z s) a k last; events = []; ran = lost_ran z a k seen f s sits.caller at is last; writes = lost_writes z.callers (world_of z s) a k n last found; cells = lost_cells (world_of z s) a k last })

  pub lead_won : (z : Sizes) (a k g n old : ℕ) (seen : KeyState) (f last : Bool) (v w : View V) → Sits z a v (stage.Asking k None (ask.Lead seen f)) → next_in z v a ≡ g → IsKeyState seen → old ≡ key_code seen → Found (key k) (lead_turns old a last) z v n w → n ≡ old
      → Goes z a v w (stage.Leading k g None) (Lead a k (record { caller = a; generation = g }) None ∷ []) 1
  lead_won z a k g n old seen f last v w sits given seen_lawful old_code found won =
      let p : Stage V = stage.Asking k None (ask.Lead seen f) in
      let m = found.0 in
      let turns_is : lead_turns old a last n ≡ turn.Step a ∷ [] = ap (λ t. if t then turn.Step a ∷ [] else (if last then turn.Step a ∷ turn.Leave a ∷ [] else turn.Step a ∷ [])) (eq-eqb n old won) in
      let o : Made z v w (turn.Step a ∷ []) = record { before = m.before; comes = m.comes; whole = subst (λ q. IsSchedule (setting_of z) (m.before ++ q)) turns_is m.whole; view = m.view ∙ ap (λ q. view_after v (m.before ++ q)) turns_is } in
      let w₀ : World V = world_of z m.before in
      let key_is : w₀.keys k ≡ seen = key_code_one (w₀.keys k) seen (m.comes.lawful.keys k).0 seen_lawful (sym found.1 ∙ (won ∙ old_code)) in
      let same : same_key (w₀.keys k) seen ≡ true = subst (λ (y : KeyState). same_key y seen ≡ true) (sym key_is) (same_key_self seen) in
      let alone = asking_alone k None (ask.Lead seen f) in
      let used : w₀.generations a ≡ g = uses z a v p m.before sits alone m.comes ∙ given in
      let ran = lead_ran z a k seen f m.before sits.caller (stands z a v p m.before sits alone m.comes) true same in
      let own : own_events {V = V} a (Lead a k (next_id w₀ a) None ∷ []) ≡ Lead a k (record { caller = a; generation = g }) None ∷ [] =
      cond-true _ _ _ (eq-eqb a a refl) ∙ ap (λ i. Lead a k (record { caller = a; generation = i }) None ∷ []) used in
      goes_by z a v w p (stage.Leading k g None) (turn.Step a ∷ []) (led w₀ a k None) (Lead a k (next_id w₀ a) None ∷ []) (Lead a k (record { caller = a; generation = g }) None ∷ []) 1 sits alone o ran
      (put_here w₀.stages a (stage.Leading k (w₀.generations a) None) ∙ ap (λ i. stage.Leading k i None) used) own (put_here w₀.generations a (w₀.generations a + 1))

  -- the seat then knows the Lead last, and which call was current before it
  pub lead_after : (z : Sizes) (a k g n old : ℕ) (seen : KeyState) (f last : Bool) (v w : View V) → Sits z a v (stage.Asking k None (ask.Lead seen f)) → next_in z v a ≡ g → IsKeyState seen → old ≡ key_code seen → Found (key k) (lead_turns old a last) z v n w → n ≡ old
      → IsAfter z k w (Lead a k (record { caller = a; generation = g }) None) (after_of seen f)
  lead_after z a k g n old seen f last v w sits given seen_lawful old_code found won =
      let p : Stage V = stage.Asking k None (ask.Lead seen f) in
      let m = found.0 in
      let ts : List (Turn V) = turn.Step a ∷ [] in
      let turns_is : lead_turns old a last n ≡ ts = ap (λ t. if t then turn.Step a ∷ [] else (if last then turn.Step a ∷ turn.Leave a ∷ [] else turn.Step a ∷ [])) (eq-eqb n old won) in
      let knows : w.known.turns ≡ m.before ++ ts = ap (λ (y : View V). y.known.turns) m.view ∙ ap (λ q. m.before ++ q) turns_is in
      let w₀ : World V = world_of z m.before in
      let key_is : w₀.keys k ≡ seen = key_code_one (w₀.keys k) seen (m.comes.lawful.keys k).0 seen_lawful (sym found.1 ∙ (won ∙ old_code)) in
      let same : same_key (w₀.keys k) seen ≡ true = subst (λ (y : KeyState). same_key y seen ≡ true) (sym key_is) (same_key_self seen) in
      let alone = asking_alone k None (ask.Lead seen f) in
      let at = stands z a v p m.before sits alone m.comes in
      let used : w₀.generations a ≡ g = uses z a v p m.before sits alone m.comes ∙ given in
      let ran = lead_ran z a k seen f m.before sits.caller at true same in
      record {
        before = history_of z m.before;
        last = ap (history_of z) knows ∙ (adds_append (first_world z.callers z.first) m.before ts ∙ ap (λ es. history_of z m.before ++ es) (ran.events ∙ ap (λ i. Lead a k (record { caller = a; generation = i }) None ∷ []) used));
        current = leads_know_current (setting_of z) m.before m.comes.schedule a k None seen f at same;
      }

  pub lost_at : (w : World V) (a k : ℕ) (last : Bool) → (lost_world w a k last).stages a ≡ lost_stage k last
  lost_at w a k true = put_here (put w.stages a (stage.Asking k None (ask.Look true))) a stage.Free
  lost_at w a k false = put_here w.stages a (stage.Asking k None (ask.Look true))

  pub lost_used : (w : World V) (a k : ℕ) (last : Bool) → (lost_world w a k last).generations a ≡ w.generations a + 0
  lost_used w a k true = omega arith
  lost_used w a k false = omega arith

  pub lead_lost : (z : Sizes) (a k n old : ℕ) (seen : KeyState) (f last : Bool) (v w : View V) → Sits z a v (stage.Asking k None (ask.Lead seen f)) → IsKeyState seen → old ≡ key_code seen → Found (key k) (lead_turns old a last) z v n w → n ≢ old
      → Loses z a (key k) (key_code seen) v w (lost_stage k last)
  lead_lost z a k n old seen f last v w sits seen_lawful old_code found lost =
      let p : Stage V = stage.Asking k None (ask.Lead seen f) in
      let m = found.0 in
      let us : List (Turn V) = if last then turn.Step a ∷ turn.Leave a ∷ [] else turn.Step a ∷ [] in
      let turns_is : lead_turns old a last n ≡ us = ap (λ t. if t then turn.Step a ∷ [] else us) (ne_eqb n old lost) in
      let o : Made z v w us = record { before = m.before; comes = m.comes; whole = subst (λ q. IsSchedule (setting_of z) (m.before ++ q)) turns_is m.whole; view = m.view ∙ ap (λ q. view_after v (m.before ++ q)) turns_is } in
      let w₀ : World V = world_of z m.before in
      let differs : same_key (w₀.keys k) seen ≡ false = sym (key_test (w₀.keys k) seen (m.comes.lawful.keys k).0 seen_lawful) ∙ ne_eqb (key_code (w₀.keys k)) (key_code seen) (λ e. lost (found.1 ∙ (e ∙ sym old_code))) in
      let alone = asking_alone k None (ask.Lead seen f) in
      let ran = lost_ran z a k seen f m.before sits.caller (stands z a v p m.before sits alone m.comes) differs last in
      let between : List (Turn V) = m.comes.later.between in
      let before_is : world_of z m.before ≡ run (world_of z v.known.turns) between = ap (world_of z) m.comes.later.turns ∙ run_append (first_world z.callers z.first) v.known.turns between in
      let spared = m.comes.later.others a (subst (λ c. Has c a) (sym sits.callers) (inl refl)) in
      record {
        goes = goes_by z a v w p (lost_stage k last) us (lost_world w₀ a k last) [] [] 0 sits alone o ran (lost_at w₀ a k last) refl (lost_used w₀ a k last);
        changed = λ xs has was.
            let one = changed_once a xs (key k) between (world_of z v.known.turns) spared has (λ e. lost (found.1 ∙ (ap (λ (y : World V). code_at y (key k)) before_is ∙ (e ∙ (was ∙ sym old_code))))) in
            let whole = changes_append a xs (world_of z v.known.turns) between us in
            omega (arith, one, whole);
        tries = tt;
      }

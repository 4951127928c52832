-- the kind lead of an asking with a second, and what a failed exchange comes to
use Rattle.std.proofs.Common.{◌≡◌, ◌≢◌, ℕ, ◌+◌, Bool, true, false, ◌==◌, eqb, eq-eqb, ne_eqb, List, [], ◌∷◌, ◌++◌, inl, Some, refl, sym, ◌∙◌, ap, subst, arith}
use Rattle.std.specs.Prelude.{if◌then◌else◌}
use prog.Atomic.{either}
use Rattle.std.proofs.lemmas.Bool.{cond-true, cond-false}
use Rattle.sf_history.specs.declared.event.Event.{Event}
use Rattle.sf_history.specs.declared.event.Event.TheVariants.{Lead}
use Rattle.sf_history.specs.History.{own_events}
use Rattle.sf_words.specs.declared.key_word.KeyState.{KeyState}
use Rattle.sf_words.specs.declared.key_word.KeyState.TheVariants.{Names}
use Rattle.sf_words.specs.KeyWord.{IsKeyState, key_code}
use Rattle.sf_words.proofs.KeyCodes.{key_code_one}
use Rattle.sf_steps_laws.specs.declared.operation.Stage.{Stage}
use Rattle.sf_steps_laws.specs.declared.operation.Stage.TheVariants as stage
use Rattle.sf_steps_laws.specs.declared.operation.AskStep.{AskStep}
use Rattle.sf_steps_laws.specs.declared.operation.AskStep.TheVariants as ask
use Rattle.sf_steps_laws.specs.declared.turn.Turn.{Turn}
use Rattle.sf_steps_laws.specs.declared.turn.Turn.TheVariants as turn
use Rattle.sf_steps_laws.specs.World.{World, first_world, with_stage, same_key, next_id}
use Rattle.sf_lists.specs.Functions.{put}
use Rattle.sf_steps_laws.specs.Askings.{own_of, led, after_lead}
use Rattle.sf_steps_laws.specs.Turns.{run}
use Rattle.sf_steps_laws.specs.Events.{lead_events}
use Rattle.sf_steps_laws.specs.Schedules.{IsSchedule}
use Rattle.sf_lists.proofs.Functions.{put_here, put_else}
use Rattle.sf_steps_laws.specs.Afters.{after_of}
use Rattle.sf_steps_laws.proofs.Afters.{leads_know_current}
use Rattle.sf_steps_laws.proofs.RightAnswers.{adds_append}
use Rattle.sf_steps_laws.proofs.Compared.{same_key_self}
use Rattle.sf_group_steps.specs.declared.view.View.{View}
use Rattle.sf_group_steps.specs.Words.{Word, key, code_at, IsKeyFor, Writes}
use Rattle.sf_group_steps.specs.View.{setting_of, AreBy, world_of, history_of}
use Rattle.sf_group_steps.specs.Plays.{Moves, view_after, Made, Found}
use Rattle.sf_group_steps.specs.Changes.{IsKeyOrTried}
use Rattle.sf_group_steps.proofs.Ways.{Ran, ran_then, leave_ran, writes_none, writes_key, Does}
use Rattle.sf_group_steps.proofs.LookSteps.{key_test, asking_alone}
use Rattle.sf_group_steps.proofs.LeadSteps.{lead_turns}
use Rattle.sf_group_chans.specs.declared.askers.Askers.{Askers}
use Rattle.sf_group_chans.specs.Both.{call_of, member_of, AskAt, lost_first, lost_second}
use Rattle.sf_group_chans.specs.Changes.{LoseBoth}
use Rattle.sf_group_chans.specs.Attempts.{HasLed}
use Rattle.sf_group_chans.proofs.Alone.{has_first, has_second, Stand}
use Rattle.sf_group_chans.proofs.Counting.{apart_append, apart_once}
use Rattle.sf_group_chans.proofs.Going.{moves_both, Ends, go_both, ask_on, before_is}
use Rattle.sf_group_chans.proofs.LookSteps.{by_first, second_serves, ends_step}
use Rattle.sf_group_chans.proofs.PeekSteps.{stepped_ran, standing}

-- the turns of an exchange that failed
pub lost_by : (V : Type 0) (a b : ℕ) (last : Bool) → AreBy {V = V} (a ∷ b ∷ []) (if last then turn.Step a ∷ turn.Leave a ∷ [] else turn.Step a ∷ [])
lost_by V a b true = ((λ i e. inl e), ((λ i e. inl e), tt))
lost_by V a b false = ((λ i e. inl e), tt)

module _ {V : Type 0} where
  abbrev pub lost_turns : ℕ → Bool → List (Turn V)
  lost_turns a last = if last then turn.Step a ∷ turn.Leave a ∷ [] else turn.Step a ∷ []

  -- the two look again, or they left
  abbrev pub lost_world : Askers → World V → Bool → World V
  lost_world c w false = with_stage w c.number (stage.Asking c.place (Some c.second) (ask.Look true))
  lost_world c w true = with_stage (with_stage (with_stage w c.number (stage.Asking c.place (Some c.second) (ask.Look true))) c.second stage.Free) c.number stage.Free

  pub lost_ends : (c : Askers) (w : World V) (last : Bool) → c.second ≢ c.number → w.stages c.second ≡ stage.Seconding c.number → Ends c w (lost_world c w last) (lost_first c last) (lost_second c last) 0 0
  lost_ends c w false apart at = ends_step c w (lost_world c w false) (lost_first c false) (stage.Seconding c.number) apart refl refl at
  lost_ends c w true apart at =
      let one : ℕ → Stage V = put w.stages c.number (stage.Asking c.place (Some c.second) (ask.Look true)) in
      let two : ℕ → Stage V = put one c.second stage.Free in record {
        first = put_here two c.number stage.Free;
        second = put_else two c.number stage.Free c.second apart ∙ put_here one c.second stage.Free;
        used = omega arith;
        second_used = omega arith;
      }

  pub lost_writes : (n : ℕ) (c : Askers) (w : World V) (x : Word) (m : ℕ) (last : Bool) → m ≡ code_at w x → Writes n w (lost_world c w last) x m
  lost_writes n c w x m true found = writes_none n w (lost_world c w true) x m found refl refl refl
  lost_writes n c w x m false found = writes_none n w (lost_world c w false) x m found refl refl refl

  pub lost_cells : (c : Askers) (w : World V) (last : Bool) → (lost_world c w last).cells ≡ w.cells
  lost_cells c w true = refl
  lost_cells c w false = refl

  -- after the last try the two leave
  pub lost_ran : (c : Askers) (v : View V) (step : AskStep) (s : List (Turn V)) (last : Bool) → AskAt c v step
      → let w = world_of c.sizes s in
      Ran (setting_of c.sizes) (history_of c.sizes s) w (turn.Step c.number ∷ []) (lost_world c w false) [] → Ran (setting_of c.sizes) (history_of c.sizes s) w (lost_turns c.number last) (lost_world c w last) []
  lost_ran c v step s false asks ran = ran
  lost_ran c v step s true asks ran =
      let w : World V = world_of c.sizes s in
      let u : World V = lost_world c w false in
      let p : Stage V = stage.Asking c.place (Some c.second) (ask.Look true) in
      ran_then (setting_of c.sizes) (history_of c.sizes s) w u (lost_world c w true) (turn.Step c.number ∷ []) (turn.Leave c.number ∷ []) [] [] ran
      (leave_ran (setting_of c.sizes) (history_of c.sizes s ++ []) u c.number p asks.sit.first.caller tt (put_here w.stages c.number p))

  -- an exchange: its turns by what it found
  abbrev pub chosen : ℕ → Bool → Bool → List (Turn V)
  chosen a last won = if won then turn.Step a ∷ [] else lost_turns a last

  -- what the two know whose exchange failed
  pub lose : (c : Askers) (x : Word) (n old : ℕ) (step : AskStep) (last : Bool) (v w : View V) → c.second ≢ c.number → AskAt c v step → (found : Found x (lead_turns old c.number last) c.sizes v n w) → n ≢ old
      → (let w₀ = world_of c.sizes found.0.before in Ran (setting_of c.sizes) (history_of c.sizes found.0.before) w₀ (turn.Step c.number ∷ []) (lost_world c w₀ false) [])
      → IsKeyOrTried c.number x (run (world_of c.sizes v.known.turns) found.0.comes.later.between) (lost_turns c.number last)
      → ((ts us : List (Turn V)) → IsKeyOrTried c.number x (run (world_of c.sizes v.known.turns) ts) us → IsKeyOrTried c.number x (world_of c.sizes v.known.turns) (ts ++ us))
      → LoseBoth c x old v w (lost_first c last) (lost_second c last)
  lose c x n old step last v w apart asks found lost ran tries later =
      let m = found.0 in
      let us : List (Turn V) = lost_turns c.number last in
      let turns_is : lead_turns old c.number last n ≡ us = ap (λ t. if t then turn.Step c.number ∷ [] else us) (ne_eqb n old lost) in
      let o : Made c.sizes v w us = record { before = m.before; comes = m.comes; whole = subst (λ q. IsSchedule (setting_of c.sizes) (m.before ++ q)) turns_is m.whole; view = m.view ∙ ap (λ q. view_after v (m.before ++ q)) turns_is } in
      let w₀ : World V = world_of c.sizes m.before in
      let at = standing c v w step us asks o in
      let between : List (Turn V) = m.comes.later.between in
      let goes = go_both c v w (stage.Asking c.place (Some c.second) step) (stage.Seconding c.number) (lost_first c last) (lost_second c last) us (lost_world c w₀ last) [] [] [] 0 0 asks.sit (asking_alone c.place (Some c.second) step) (second_serves c.number) o
      (lost_ran c v step m.before last asks ran) refl refl (lost_ends c w₀ last apart at.second) in
      record {
        goes = goes;
        asks = ask_on c v w (stage.Asking c.place (Some c.second) step) (stage.Seconding c.number) (lost_first c last) (lost_second c last) asks goes;
        changed = λ xs has was.
            let one = apart_once c.number c.second xs x between (world_of c.sizes v.known.turns) (m.comes.later.others c.number (has_first c v (stage.Asking c.place (Some c.second) step) (stage.Seconding c.number) asks.sit)) (m.comes.later.others c.second (has_second c v (stage.Asking c.place (Some c.second) step) (stage.Seconding c.number) asks.sit)) has
            (λ e. lost (found.1 ∙ (ap (λ (y : World V). code_at y x) (before_is c.sizes v w us o) ∙ (e ∙ was)))) in
            let whole = apart_append c.number c.second xs (world_of c.sizes v.known.turns) between us in
            omega (arith, one, whole);
        tries = later between us tries;
      }

  -- exchange the key word that was seen; the last try is followed by the drop
  lead_ran : (c : Askers) (v : View V) (seen : KeyState) (f : Bool) (s : List (Turn V)) → AskAt c v (ask.Lead seen f) → Stand c v (stage.Asking c.place (Some c.second) (ask.Lead seen f)) (stage.Seconding c.number) s → (b : Bool) → same_key ((world_of c.sizes s).keys c.place) seen ≡ b
      → Ran (setting_of c.sizes) (history_of c.sizes s) (world_of c.sizes s) (turn.Step c.number ∷ []) (after_lead (world_of c.sizes s) c.number c.place (Some c.second) b) (lead_events (world_of c.sizes s) c.number c.place (Some c.second) b)
  lead_ran c v seen f s asks at b is = subst (λ t. Ran (setting_of c.sizes) (history_of c.sizes s) (world_of c.sizes s) (turn.Step c.number ∷ []) (after_lead (world_of c.sizes s) c.number c.place (Some c.second) t) (lead_events (world_of c.sizes s) c.number c.place (Some c.second) t)) is
      (stepped_ran c v (ask.Lead seen f) s asks at)

  pub lead_move : (c : Askers) (old new : ℕ) (seen : KeyState) (f last : Bool) (v : View V) → AskAt c v (ask.Lead seen f) → IsKeyState seen → IsKeyFor c.sizes.callers (Names c.number c.generation false) → old ≡ key_code seen → new ≡ key_code (Names c.number c.generation false)
      → Moves c.sizes v (key c.place) (λ n. either (n == old) new n) (lead_turns old c.number last)
  lead_move c old new seen f last v asks seen_lawful lawful old_code new_code = moves_both c v p (stage.Seconding c.number) (key c.place) (λ n. either (n == old) new n) (lead_turns old c.number last) asks.sit (asking_alone c.place (Some c.second) (ask.Lead seen f)) (second_serves c.number)
      (λ s comes at n found.
      let w : World V = world_of c.sizes s in
      let test : (n == old) ≡ same_key (w.keys c.place) seen = ap (λ m. eqb m old) found ∙ (ap (eqb (key_code (w.keys c.place))) old_code ∙ key_test (w.keys c.place) seen (comes.lawful.keys c.place).0 seen_lawful) in
      does s n found at (same_key (w.keys c.place) seen) refl test)
    where
      p : Stage V
      p = stage.Asking c.place (Some c.second) (ask.Lead seen f)

      does : (s : List (Turn V)) (n : ℕ) → n ≡ code_at (world_of c.sizes s) (key c.place) → Stand c v p (stage.Seconding c.number) s → (b : Bool) → same_key ((world_of c.sizes s).keys c.place) seen ≡ b → (n == old) ≡ b
          → AreBy {V = V} (c.number ∷ c.second ∷ []) (lead_turns old c.number last n) × Does c.sizes s (key c.place) (either (n == old) new n) (lead_turns old c.number last n)
      does s n found at true is test = subst (λ t. AreBy {V = V} (c.number ∷ c.second ∷ []) (chosen c.number last t) × Does c.sizes s (key c.place) (either t new n) (chosen c.number last t)) (sym test)
          (let w : World V = world_of c.sizes s in
          let named : Names c.number c.generation false ≡ Names c.number (w.generations c.number) false = ap (λ i. Names c.number i false) (sym (at.next ∙ asks.next)) in (
            by_first V c.number c.second,
            record {
              world = led w c.number c.place (Some c.second);
              events = Lead c.number c.place (next_id w c.number) (own_of w (Some c.second)) ∷ [];
              ran = lead_ran c v seen f s asks at true is;
              writes = subst (λ m. Writes c.sizes.callers w (led w c.number c.place (Some c.second)) (key c.place) m) (sym (new_code ∙ ap key_code named))
                  (writes_key c.sizes.callers w (led w c.number c.place (Some c.second)) c.place (Names c.number (w.generations c.number) false) (subst (IsKeyFor c.sizes.callers) named lawful) refl refl refl);
              cells = refl;
            },
          ))
      does s n found at false is test = subst (λ t. AreBy {V = V} (c.number ∷ c.second ∷ []) (chosen c.number last t) × Does c.sizes s (key c.place) (either t new n) (chosen c.number last t)) (sym test)
          (lost_by V c.number c.second last, record { world = lost_world c (world_of c.sizes s) last; events = []; ran = lost_ran c v (ask.Lead seen f) s last asks (lead_ran c v seen f s asks at false is); writes = lost_writes c.sizes.callers c (world_of c.sizes s) (key c.place) n last found; cells = lost_cells c (world_of c.sizes s) last })

  led_ends : (c : Askers) (w : World V) → c.second ≢ c.number → w.generations c.number ≡ c.generation → w.generations c.second ≡ c.second_generation
      → Ends c w (led w c.number c.place (Some c.second)) (stage.Leading c.place c.generation (Some (member_of c))) (stage.Holding c.place c.second_generation (call_of c)) 1 1
  led_ends c w apart given second_given =
      let held : Stage V = stage.Holding c.place (w.generations c.second) (next_id w c.number) in
      let leads : Stage V = stage.Leading c.place (w.generations c.number) (own_of w (Some c.second)) in
      let stages : ℕ → Stage V = put w.stages c.second held in
      let gens : ℕ → ℕ = put w.generations c.second (w.generations c.second + 1) in
      let mine : put gens c.number (gens c.number + 1) c.number ≡ gens c.number + 1 = put_here gens c.number (gens c.number + 1) in
      let kept : gens c.number ≡ w.generations c.number = put_else w.generations c.second (w.generations c.second + 1) c.number (λ e. apart (sym e)) in record {
        first = put_here stages c.number leads ∙ (ap (λ i. stage.Leading c.place i (own_of w (Some c.second))) given ∙ ap (λ i. stage.Leading c.place c.generation (Some (record { caller = c.second; generation = i }))) second_given);
        second = put_else stages c.number leads c.second apart ∙ (put_here w.stages c.second held ∙ (ap (λ i. stage.Holding c.place i (next_id w c.number)) second_given ∙ ap (λ i. stage.Holding c.place c.second_generation (record { caller = c.number; generation = i })) given));
        used = mine ∙ ap (λ i. i + 1) kept;
        second_used = put_else gens c.number (gens c.number + 1) c.second apart ∙ put_here w.generations c.second (w.generations c.second + 1);
      }

  pub lead_won : (c : Askers) (n old : ℕ) (seen : KeyState) (f last : Bool) (v w : View V) → c.second ≢ c.number → AskAt c v (ask.Lead seen f) → IsKeyState seen → old ≡ key_code seen → Found (key c.place) (lead_turns old c.number last) c.sizes v n w → n ≡ old → HasLed c (after_of seen f) v w
  lead_won c n old seen f last v w apart asks seen_lawful old_code found won =
      let p : Stage V = stage.Asking c.place (Some c.second) (ask.Lead seen f) in
      let m = found.0 in
      let turns_is : lead_turns old c.number last n ≡ turn.Step c.number ∷ [] = ap (λ t. chosen c.number last t) (eq-eqb n old won) in
      let o : Made c.sizes v w (turn.Step c.number ∷ []) = record { before = m.before; comes = m.comes; whole = subst (λ q. IsSchedule (setting_of c.sizes) (m.before ++ q)) turns_is m.whole; view = m.view ∙ ap (λ q. view_after v (m.before ++ q)) turns_is } in
      let w₀ : World V = world_of c.sizes m.before in
      let key_is : w₀.keys c.place ≡ seen = key_code_one (w₀.keys c.place) seen (m.comes.lawful.keys c.place).0 seen_lawful (sym found.1 ∙ (won ∙ old_code)) in
      let same : same_key (w₀.keys c.place) seen ≡ true = subst (λ (y : KeyState). same_key y seen ≡ true) (sym key_is) (same_key_self seen) in
      let at = standing c v w (ask.Lead seen f) (turn.Step c.number ∷ []) asks o in
      let given : w₀.generations c.number ≡ c.generation = at.next ∙ asks.next in
      let second_given : w₀.generations c.second ≡ c.second_generation = at.second_next ∙ asks.second_next in
      let es : List (Event ℕ V) = Lead c.number c.place (next_id w₀ c.number) (own_of w₀ (Some c.second)) ∷ [] in
      let named : es ≡ Lead c.number c.place (call_of c) (Some (member_of c)) ∷ [] =
      ap (λ i. Lead c.number c.place (record { caller = c.number; generation = i }) (own_of w₀ (Some c.second)) ∷ []) given ∙ ap (λ i. Lead c.number c.place (call_of c) (Some (record { caller = c.second; generation = i })) ∷ []) second_given in
      let own : own_events {V = V} c.number es ≡ Lead c.number c.place (call_of c) (Some (member_of c)) ∷ [] =
      cond-true _ _ _ (eq-eqb c.number c.number refl) ∙ named in
      let second_own : own_events {V = V} c.second es ≡ [] = cond-false _ _ _ (ne_eqb c.number c.second (λ e. apart (sym e))) in
      let knows : w.known.turns ≡ m.before ++ turn.Step c.number ∷ [] = ap (λ (y : View V). y.known.turns) o.view in
      let ran = lead_ran c v seen f m.before asks at true same in (
        go_both c v w p (stage.Seconding c.number) (stage.Leading c.place c.generation (Some (member_of c))) (stage.Holding c.place c.second_generation (call_of c)) (turn.Step c.number ∷ []) (led w₀ c.number c.place (Some c.second)) es
            (Lead c.number c.place (call_of c) (Some (member_of c)) ∷ []) [] 1 1 asks.sit (asking_alone c.place (Some c.second) (ask.Lead seen f)) (second_serves c.number) o ran own second_own (led_ends c w₀ apart given second_given),
        record {
          before = history_of c.sizes m.before;
          last = ap (history_of c.sizes) knows ∙ (adds_append (first_world c.sizes.callers c.sizes.first) m.before (turn.Step c.number ∷ []) ∙ ap (λ l. history_of c.sizes m.before ++ l) (ran.events ∙ named));
          current = leads_know_current (setting_of c.sizes) m.before m.comes.schedule c.number c.place (Some c.second) seen f at.first same;
        },
      )

  pub lead_lost : (c : Askers) (n old : ℕ) (seen : KeyState) (f last : Bool) (v w : View V) → c.second ≢ c.number → AskAt c v (ask.Lead seen f) → IsKeyState seen → old ≡ key_code seen → Found (key c.place) (lead_turns old c.number last) c.sizes v n w → n ≢ old
      → LoseBoth c (key c.place) (key_code seen) v w (lost_first c last) (lost_second c last)
  lead_lost c n old seen f last v w apart asks seen_lawful old_code found lost =
      let m = found.0 in
      let w₀ : World V = world_of c.sizes m.before in
      let differs : same_key (w₀.keys c.place) seen ≡ false = sym (key_test (w₀.keys c.place) seen (m.comes.lawful.keys c.place).0 seen_lawful) ∙ ne_eqb (key_code (w₀.keys c.place)) (key_code seen) (λ e. lost (found.1 ∙ (e ∙ sym old_code))) in
      let at = standing c v w (ask.Lead seen f) (lead_turns old c.number last n) asks m in
      subst (λ i. LoseBoth c (key c.place) i v w (lost_first c last) (lost_second c last)) old_code
      (lose c (key c.place) n old (ask.Lead seen f) last v w apart asks found lost (lead_ran c v seen f m.before asks at false differs) tt (λ ts us is. tt))

-- the kinds of step of a settle, up to its members
use Rattle.std.proofs.Common.{◌≡◌, ◌≢◌, ℕ, ◌+◌, Bool, true, false, ◌==◌, eqb, eq-eqb, ne_eqb, List, [], ◌∷◌, ◌++◌, inl, inr, Option, Some, None, refl, sym, ◌∙◌, ap, subst, arith}
use Rattle.std.proofs.lemmas.Bool.{cond-true}
use prog.Atomic.{either}
use Rattle.sf_history.specs.declared.call.CallId.{CallId}
use Rattle.sf_history.specs.declared.event.Event.TheVariants as event
use Rattle.sf_words.specs.declared.key_word.KeyState.TheVariants.{Names}
use Rattle.sf_words.specs.declared.call_word.LeaderState.{LeaderState}
use Rattle.sf_words.specs.declared.call_word.CallState.{CallState}
use Rattle.sf_words.specs.declared.call_word.CallState.TheVariants as word
use Rattle.sf_words.specs.KeyWord.{key_code}
use Rattle.sf_words.specs.CallWord.{IsCallState, call_code}
use Rattle.sf_steps_laws.specs.declared.operation.Op.TheVariants as op
use Rattle.sf_steps_laws.specs.declared.operation.Stage.{Stage}
use Rattle.sf_steps_laws.specs.declared.operation.Stage.TheVariants as stage
use Rattle.sf_steps_laws.specs.declared.operation.SettleStep.{SettleStep}
use Rattle.sf_steps_laws.specs.declared.operation.SettleStep.TheVariants as settle
use Rattle.sf_steps_laws.specs.declared.turn.Turn.{Turn}
use Rattle.sf_steps_laws.specs.declared.turn.Turn.TheVariants as turn
use Rattle.sf_steps_laws.specs.World.{World, first_world, with_stage, is_open_with, same_key, count}
use Rattle.sf_steps_laws.specs.Turns.{after_own_peek, at_count, after_close, cleared, settle_stepped, run}
use Rattle.sf_steps_laws.specs.Events.{handed, settled, peek_events}
use Rattle.sf_steps_laws.specs.Waiting.{list_top}
use Rattle.sf_steps_laws.specs.Closes.{failed_closes}
use Rattle.sf_steps_laws.specs.Schedules.{IsCaller, IsSchedule}
use Rattle.sf_lists.proofs.Functions.{put_here}
use Rattle.sf_steps_laws.proofs.Sound.{call_of, IsLeadersWord, Good}
use Rattle.sf_steps_laws.proofs.RightAnswers.{run_append, always}
use Rattle.sf_group_rows.specs.declared.sizes.Sizes.{Sizes}
use Rattle.sf_group_steps.specs.declared.view.View.{View}
use Rattle.sf_group_steps.specs.Words.{key, call, code_at, IsKeyFor, IsCallFor, Writes}
use Rattle.sf_group_steps.specs.View.{setting_of, world_of, history_of}
use Rattle.sf_group_steps.specs.Plays.{Moves, view_after, Made, Found}
use Rattle.sf_history.specs.History.{own_events}
use Rattle.sf_group_steps.specs.Stands.{stage_in, Sits, Goes}
use Rattle.sf_group_steps.specs.Settles.{MaySettle, settle_turns, Fails, IsNumber, peeked, HasPeeked, HasSettled}
use Rattle.sf_group_steps.specs.Settles as settles
use Rattle.sf_steps_laws.proofs.Named.{IsAlone}
use Rattle.sf_group_steps.proofs.Ways.{Ran, ran_then, step_ran, settle_ran, writes_none, writes_key, stands, Does, moves_by, goes_by}
use Rattle.sf_group_steps.proofs.LookSteps.{key_test, stage_is}
use Rattle.sf_group_steps.proofs.EnterSteps.{call_test}
use Rattle.sf_group_steps.proofs.Finishing.{closes_append, close_counts, close_alone, close_ran}
use Rattle.sf_group_steps.proofs.Trying.{goes_none, goes_after}

pub leaders_word : (g : ℕ) (r : CallState) → IsLeadersWord g r → settles.IsLeadersWord g r
leaders_word g word.Free is = absurd is
leaders_word g (word.Open s) is = is
leaders_word g (word.Forgot s) is = is
leaders_word g (word.Done s) is = absurd is
leaders_word g (word.Listed i) is = absurd is
leaders_word g (word.Full i) is = absurd is

module _ {V : Type 0} where
  settling_alone : (k g : ℕ) (own : Option CallId) (x : V) (step : SettleStep) → IsAlone {V = V} (stage.Settling k g own x step)
  settling_alone k g own x step c is = cc

  leading_alone : (k g : ℕ) (own : Option CallId) → IsAlone {V = V} (stage.Leading k g own)
  leading_alone k g own c is = cc

  own_handed : (a g : ℕ) (own : Option CallId) (top : Option ℕ) → own_events {V = V} a (handed a (call_of a g) own top) ≡ handed a (call_of a g) own top
  own_handed a g None None = cond-true _ _ _ (eq-eqb a a refl)
  own_handed a g None (Some m) = refl
  own_handed a g (Some o) None = refl
  own_handed a g (Some o) (Some m) = refl

  own_settled : (a g : ℕ) (own : Option CallId) (x : V) (n : ℕ) (top : Option ℕ) → own_events {V = V} a (settled a (call_of a g) own x n top) ≡ settled a (call_of a g) own x n top
  own_settled a g own x n top = cond-true _ _ _ (eq-eqb a a refl) ∙ ap (λ q. event.Settle a (call_of a g) x n ∷ q) (own_handed a g own top)

  -- how many stand on the list of a word, as a walk finds
  abbrev listed : World V → CallState → ℕ
  listed w r = count (list_top r) w.callers w.nexts

  listed_number : (w : World V) (top : Option ℕ) → IsNumber top (count top w.callers w.nexts)
  listed_number w None = refl
  listed_number w (Some m) = tt

  -- the events of a peek are those of the word that it found
  own_peeked : (w : World V) (a g : ℕ) (own : Option CallId) (x : V) (r : CallState) → own_events {V = V} a (peek_events w a (call_of a g) own x r) ≡ peeked a (call_of a g) own x r (listed w r)
  own_peeked w a g own x word.Free = refl
  own_peeked w a g own x (word.Open s) = refl
  own_peeked w a g own x (word.Forgot s) = own_settled a g own x (count s.top w.callers w.nexts) s.top
  own_peeked w a g own x (word.Done s) = refl
  own_peeked w a g own x (word.Listed i) = refl
  own_peeked w a g own x (word.Full i) = refl

  -- peek at the own word; the first starts the settle
  first_ran : (z : Sizes) (a k g : ℕ) (own : Option CallId) (x : V) (s : List (Turn V)) → IsCaller (setting_of z) a → (world_of z s).stages a ≡ stage.Leading k g own
      → Ran (setting_of z) (history_of z s) (world_of z s) (turn.Start a (op.Settle x) ∷ turn.Step a ∷ []) (settle_stepped (with_stage (world_of z s) a (stage.Settling k g own x settle.Peek)) a k g own x settle.Peek) (peek_events (world_of z s) a (call_of a g) own x ((world_of z s).calls a))
  first_ran z a k g own x s caller at =
      let w : World V = world_of z s in
      let u : World V = with_stage w a (stage.Settling k g own x settle.Peek) in
      ran_then (setting_of z) (history_of z s) w u (settle_stepped u a k g own x settle.Peek) (turn.Start a (op.Settle x) ∷ []) (turn.Step a ∷ []) [] (peek_events w a (call_of a g) own x (w.calls a))
      (settle_ran (setting_of z) (history_of z s) w a k g own x caller at)
      (step_ran (setting_of z) (history_of z s ++ []) u a (stage.Settling k g own x settle.Peek) caller tt (put_here w.stages a (stage.Settling k g own x settle.Peek)))

  turns_are : (z : Sizes) (a : ℕ) (x : V) (v : View V) (p : Stage V) → Sits z a v p → settle_turns (stage_in v a) a x ≡ settle_turns p a x
  turns_are z a x v p sits = ap (λ q. settle_turns q a x) (stage_is z a v p sits)

  pub own_peek_move : (z : Sizes) (a k g : ℕ) (own : Option CallId) (x : V) (v : View V) → MaySettle z a k g own x v → Moves z v (call a) (λ n. n) (λ _. settle_turns (stage_in v a) a x)
  own_peek_move z a k g own x v (inl first) = subst (λ ts. Moves z v (call a) (λ n. n) (λ _. ts)) (sym (turns_are z a x v (stage.Leading k g own) first))
      (moves_by z a v (stage.Leading k g own) (call a) (λ n. n) (λ _. turn.Start a (op.Settle x) ∷ turn.Step a ∷ []) first (leading_alone k g own)
      (λ s c at used n found.
      let w : World V = world_of z s in
      let u : World V = settle_stepped (with_stage w a (stage.Settling k g own x settle.Peek)) a k g own x settle.Peek in (
        ((λ b e. inl e), ((λ b e. inl e), tt)),
        record { world = u; events = peek_events w a (call_of a g) own x (w.calls a); ran = first_ran z a k g own x s first.caller at; writes = writes_none z.callers w u (call a) n found refl refl refl; cells = refl },
      )))
  own_peek_move z a k g own x v (inr again) = subst (λ ts. Moves z v (call a) (λ n. n) (λ _. ts)) (sym (turns_are z a x v (stage.Settling k g own x settle.Peek) again))
      (moves_by z a v (stage.Settling k g own x settle.Peek) (call a) (λ n. n) (λ _. turn.Step a ∷ []) again (settling_alone k g own x settle.Peek)
      (λ s c at used n found.
      let w : World V = world_of z s in
      let u : World V = settle_stepped w a k g own x settle.Peek in (
        ((λ b e. inl e), tt),
        record { world = u; events = peek_events w a (call_of a g) own x (w.calls a); ran = step_ran (setting_of z) (history_of z s) w a (stage.Settling k g own x settle.Peek) again.caller tt at; writes = writes_none z.callers w u (call a) n found refl refl refl; cells = refl },
      )))

  pub own_peek_told : (z : Sizes) (a k g n : ℕ) (own : Option CallId) (x : V) (v w : View V) (r : CallState) → MaySettle z a k g own x v → Found (call a) (λ _. settle_turns (stage_in v a) a x) z v n w
      → ((y : CallState) → IsCallFor z.callers y → call_code y ≡ n → r ≡ y)
      → HasPeeked z a k g own x v w r × IsLeadersWord g r
  own_peek_told z a k g n own x v w r may found says = at may
    where
      m : Made z v w (settle_turns (stage_in v a) a x)
      m = found.0

      w₀ : World V
      w₀ = world_of z m.before

      is : r ≡ w₀.calls a
      is = says (w₀.calls a) (m.comes.lawful.calls a) (sym found.1)

      good : (p : Stage V) → w₀.stages a ≡ p → Good (history_of z m.before) w₀ a p
      good p at = subst (λ (q : Stage V). Good (history_of z m.before) w₀ a q) at ((always (setting_of z) m.before m.comes.schedule).callers a).good

      has : Goes z a v w (stage.Settling k g own x (after_own_peek (w₀.calls a))) (peeked a (call_of a g) own x (w₀.calls a) (listed w₀ (w₀.calls a))) 0 → HasPeeked z a k g own x v w (w₀.calls a)
      has goes = record { joiners = listed w₀ (w₀.calls a); number = listed_number w₀ (list_top (w₀.calls a)); goes = goes }

      at : MaySettle z a k g own x v → HasPeeked z a k g own x v w r × IsLeadersWord g r
      at (inl first) =
          let p : Stage V = stage.Leading k g own in
          let ts : List (Turn V) = turn.Start a (op.Settle x) ∷ turn.Step a ∷ [] in
          let o : Made z v w ts = record { before = m.before; comes = m.comes; whole = subst (λ q. IsSchedule (setting_of z) (m.before ++ q)) (turns_are z a x v p first) m.whole; view = m.view ∙ ap (λ q. view_after v (m.before ++ q)) (turns_are z a x v p first) } in
          let mid : World V = with_stage w₀ a (stage.Settling k g own x settle.Peek) in
          let u : World V = settle_stepped mid a k g own x settle.Peek in
          let here = stands z a v p m.before first (leading_alone k g own) m.comes in (
            subst (λ (y : CallState). HasPeeked z a k g own x v w y) (sym is)
                (has (goes_by z a v w p (stage.Settling k g own x (after_own_peek (w₀.calls a))) ts u (peek_events w₀ a (call_of a g) own x (w₀.calls a)) (peeked a (call_of a g) own x (w₀.calls a) (listed w₀ (w₀.calls a))) 0 first (leading_alone k g own) o (first_ran z a k g own x m.before first.caller here)
                (put_here mid.stages a (stage.Settling k g own x (after_own_peek (w₀.calls a)))) (own_peeked w₀ a g own x (w₀.calls a)) (omega arith))),
            subst (IsLeadersWord g) (sym is) (good p here).has_word,
          )
      at (inr again) =
          let p : Stage V = stage.Settling k g own x settle.Peek in
          let o : Made z v w (turn.Step a ∷ []) = record { before = m.before; comes = m.comes; whole = subst (λ q. IsSchedule (setting_of z) (m.before ++ q)) (turns_are z a x v p again) m.whole; view = m.view ∙ ap (λ q. view_after v (m.before ++ q)) (turns_are z a x v p again) } in
          let u : World V = settle_stepped w₀ a k g own x settle.Peek in
          let here = stands z a v p m.before again (settling_alone k g own x settle.Peek) m.comes in (
            subst (λ (y : CallState). HasPeeked z a k g own x v w y) (sym is)
                (has (goes_by z a v w p (stage.Settling k g own x (after_own_peek (w₀.calls a))) (turn.Step a ∷ []) u (peek_events w₀ a (call_of a g) own x (w₀.calls a)) (peeked a (call_of a g) own x (w₀.calls a) (listed w₀ (w₀.calls a))) 0 again (settling_alone k g own x settle.Peek) o (step_ran (setting_of z) (history_of z m.before) w₀ a p again.caller tt here)
                (put_here w₀.stages a (stage.Settling k g own x (after_own_peek (w₀.calls a)))) (own_peeked w₀ a g own x (w₀.calls a)) (omega arith))),
            subst (IsLeadersWord g) (sym is) (good p here).has_word,
          )

  -- the close, whoever is owed a letter
  pub close_settles : (z : Sizes) (a k g n old : ℕ) (own : Option CallId) (x : V) (seen : LeaderState) (v w : View V) → Sits z a v (stage.Settling k g own x (settle.Close seen)) → IsCallState (word.Open seen) → old ≡ call_code (word.Open seen) → Found (call a) (λ _. turn.Step a ∷ []) z v n w → n ≡ old
      → HasSettled z a k g own x v w seen.top
  close_settles z a k g n old own x seen v w sits lawful old_code found won =
      let p : Stage V = stage.Settling k g own x (settle.Close seen) in
      let m = found.0 in
      let w₀ : World V = world_of z m.before in
      let same : is_open_with seen (w₀.calls a) ≡ true = sym (call_test (w₀.calls a) seen (m.comes.lawful.calls a).0 lawful) ∙ eq-eqb (call_code (w₀.calls a)) (call_code (word.Open seen)) (sym found.1 ∙ (won ∙ old_code)) in
      let ran = close_ran z a k g own x seen m.before sits.caller (stands z a v p m.before sits (close_alone k g own x seen) m.comes) true same in
      let n : ℕ = count seen.top w₀.callers w₀.nexts in
      record {
        joiners = n;
        number = listed_number w₀ seen.top;
        goes = goes_by z a v w p (at_count k g own x seen.top) (turn.Step a ∷ []) (after_close w₀ a k g own x seen true) (settled a (call_of a g) own x n seen.top) (settled a (call_of a g) own x n seen.top) 0 sits (close_alone k g own x seen) m ran
            (put_here w₀.stages a (at_count k g own x seen.top)) (own_settled a g own x n seen.top) (omega arith);
      }

  pub close_fails : (z : Sizes) (a k g n old : ℕ) (own : Option CallId) (x : V) (seen : LeaderState) (v w : View V) → Sits z a v (stage.Settling k g own x (settle.Close seen)) → IsCallState (word.Open seen) → old ≡ call_code (word.Open seen) → Found (call a) (λ _. turn.Step a ∷ []) z v n w → n ≢ old
      → Fails z a k g 1 own x v w
  close_fails z a k g n old own x seen v w sits lawful old_code found lost =
      let p : Stage V = stage.Settling k g own x (settle.Close seen) in
      let m = found.0 in
      let w₀ : World V = world_of z m.before in
      let differs : is_open_with seen (w₀.calls a) ≡ false = sym (call_test (w₀.calls a) seen (m.comes.lawful.calls a).0 lawful) ∙ ne_eqb (call_code (w₀.calls a)) (call_code (word.Open seen)) (λ e. lost (found.1 ∙ (e ∙ sym old_code))) in
      let here = stands z a v p m.before sits (close_alone k g own x seen) m.comes in
      let ran = close_ran z a k g own x seen m.before sits.caller here false differs in
      let between : List (Turn V) = m.comes.later.between in
      let before_is : world_of z m.before ≡ run (world_of z v.known.turns) between = ap (world_of z) m.comes.later.turns ∙ run_append (first_world z.callers z.first) v.known.turns between in
      let goes = goes_by z a v w p (stage.Settling k g own x settle.Peek) (turn.Step a ∷ []) (after_close w₀ a k g own x seen false) [] [] 0 sits (close_alone k g own x seen) m ran (put_here w₀.stages a (stage.Settling k g own x settle.Peek)) refl (omega arith) in
      record {
        at = stage.Settling k g own x settle.Peek;
        goes = goes;
        may = inr goes.sits;
        count =
            let one : failed_closes w₀ a g (turn.Step a ∷ []) ≡ 1 = close_counts w₀ a k g own x seen here differs in
            let moved : failed_closes w₀ a g (turn.Step a ∷ []) ≡ failed_closes (run (world_of z v.known.turns) between) a g (turn.Step a ∷ []) = ap (λ (y : World V). failed_closes y a g (turn.Step a ∷ [])) before_is in
            let whole = closes_append a g (world_of z v.known.turns) between (turn.Step a ∷ []) in
            omega (arith, one, moved, whole);
      }

  -- the clear of a forgotten call, which goes on to the count whether it wins or not
  settle_clear_ran : (z : Sizes) (a k g : ℕ) (own : Option CallId) (x : V) (top : Option ℕ) (s : List (Turn V)) → IsCaller (setting_of z) a → (world_of z s).stages a ≡ stage.Settling k g own x (settle.Clear top) → (b : Bool) → same_key ((world_of z s).keys k) (Names a g false) ≡ b
      → Ran (setting_of z) (history_of z s) (world_of z s) (turn.Step a ∷ []) (with_stage (cleared (world_of z s) k (call_of a g) b) a (at_count k g own x top)) []
  settle_clear_ran z a k g own x top s caller at b is = subst (λ t. Ran (setting_of z) (history_of z s) (world_of z s) (turn.Step a ∷ []) (with_stage (cleared (world_of z s) k (call_of a g) t) a (at_count k g own x top)) []) is
      (step_ran (setting_of z) (history_of z s) (world_of z s) a (stage.Settling k g own x (settle.Clear top)) caller tt at)

  pub settle_clear_move : (z : Sizes) (a k g old new : ℕ) (own : Option CallId) (x : V) (top : Option ℕ) (v : View V) → Sits z a v (stage.Settling k g own x (settle.Clear top)) → IsKeyFor z.callers (Names a g false) → old ≡ key_code (Names a g false) → new ≡ key_code (Names a g true)
      → Moves z v (key k) (λ n. either (n == old) new n) (λ _. turn.Step a ∷ [])
  settle_clear_move z a k g old new own x top v sits lawful old_code new_code = moves_by z a v p (key k) (λ n. either (n == old) new n) (λ _. turn.Step a ∷ []) sits (settling_alone k g own x (settle.Clear top))
      (λ s comes at used n found.
      let w : World V = world_of z s in
      let test : (n == old) ≡ same_key (w.keys k) (Names a g false) = ap (λ m. eqb m old) found ∙ (ap (eqb (key_code (w.keys k))) old_code ∙ key_test (w.keys k) (Names a g false) (comes.lawful.keys k).0 lawful.0) in
      (((λ b e. inl e), tt), does s n found at (same_key (w.keys k) (Names a g false)) refl test))
    where
      p : Stage V
      p = stage.Settling k g own x (settle.Clear top)

      does : (s : List (Turn V)) (n : ℕ) → n ≡ code_at (world_of z s) (key k) → (world_of z s).stages a ≡ p → (b : Bool) → same_key ((world_of z s).keys k) (Names a g false) ≡ b → (n == old) ≡ b → Does z s (key k) (either (n == old) new n) (turn.Step a ∷ [])
      does s n found at true is test = subst (λ t. Does z s (key k) (either t new n) (turn.Step a ∷ [])) (sym test)
          (let w : World V = world_of z s in
          let u : World V = with_stage (cleared w k (call_of a g) true) a (at_count k g own x top) in
          record { world = u; events = []; ran = settle_clear_ran z a k g own x top s sits.caller at true is; writes = subst (λ m. Writes z.callers w u (key k) m) (sym new_code) (writes_key z.callers w u k (Names a g true) lawful refl refl refl); cells = refl })
      does s n found at false is test = subst (λ t. Does z s (key k) (either t new n) (turn.Step a ∷ [])) (sym test)
          (let w : World V = world_of z s in
          let u : World V = with_stage (cleared w k (call_of a g) false) a (at_count k g own x top) in
          record { world = u; events = []; ran = settle_clear_ran z a k g own x top s sits.caller at false is; writes = writes_none z.callers w u (key k) n found refl refl refl; cells = refl })

  pub settle_clear_told : (z : Sizes) (a k g n : ℕ) (own : Option CallId) (x : V) (top : Option ℕ) (v w : View V) → Sits z a v (stage.Settling k g own x (settle.Clear top)) → Found (key k) (λ _. turn.Step a ∷ []) z v n w
      → Goes z a v w (at_count k g own x top) [] 0
  settle_clear_told z a k g n own x top v w sits found = at (same_key (w₀.keys k) (Names a g false)) refl
    where
      w₀ : World V
      w₀ = world_of z found.0.before

      p : Stage V
      p = stage.Settling k g own x (settle.Clear top)

      at : (b : Bool) → same_key (w₀.keys k) (Names a g false) ≡ b → Goes z a v w (at_count k g own x top) [] 0
      at true is = goes_by z a v w p (at_count k g own x top) (turn.Step a ∷ []) (with_stage (cleared w₀ k (call_of a g) true) a (at_count k g own x top)) [] [] 0 sits (settling_alone k g own x (settle.Clear top)) found.0
          (settle_clear_ran z a k g own x top found.0.before sits.caller (stands z a v p found.0.before sits (settling_alone k g own x (settle.Clear top)) found.0.comes) true is) (put_here w₀.stages a (at_count k g own x top)) refl (omega arith)
      at false is = goes_by z a v w p (at_count k g own x top) (turn.Step a ∷ []) (with_stage (cleared w₀ k (call_of a g) false) a (at_count k g own x top)) [] [] 0 sits (settling_alone k g own x (settle.Clear top)) found.0
          (settle_clear_ran z a k g own x top found.0.before sits.caller (stands z a v p found.0.before sits (settling_alone k g own x (settle.Clear top)) found.0.comes) false is) (put_here w₀.stages a (at_count k g own x top)) refl (omega arith)

  -- failed closes, one after another
  pub fails_none : (z : Sizes) (a k g : ℕ) (own : Option CallId) (x : V) (v : View V) → Sits z a v (stage.Leading k g own) → Fails z a k g 0 own x v v
  fails_none z a k g own x v sits = record { at = stage.Leading k g own; goes = goes_none z a v (stage.Leading k g own) sits; may = inl sits; count = omega arith }

  pub fails_again : (z : Sizes) (a k g m n : ℕ) (own : Option CallId) (x : V) (v w y : View V) → Fails z a k g m own x v w → Fails z a k g n own x w y → Fails z a k g (m + n) own x v y
  fails_again z a k g m n own x v w y one two =
      let there : world_of z w.known.turns ≡ run (world_of z v.known.turns) one.goes.turns = ap (world_of z) one.goes.knows ∙ run_append (first_world z.callers z.first) v.known.turns one.goes.turns in
      record {
        at = two.at;
        goes = goes_after z a v w y one.at two.at [] 0 one.goes two.goes;
        may = two.may;
        count =
            let whole = closes_append a g (world_of z v.known.turns) one.goes.turns two.goes.turns in
            let later : failed_closes (world_of z w.known.turns) a g two.goes.turns ≡ failed_closes (run (world_of z v.known.turns) one.goes.turns) a g two.goes.turns = ap (λ (u : World V). failed_closes u a g two.goes.turns) there in
            let first = one.count in
            let second = two.count in
            omega (arith, whole, later, first, second);
      }

  -- steps before a failed close
  pub fails_after : (z : Sizes) (a k g n : ℕ) (own : Option CallId) (x : V) (v w y : View V) (p : Stage V) → Goes z a v w p [] 0 → Fails z a k g n own x w y → Fails z a k g n own x v y
  fails_after z a k g n own x v w y p one two =
      let there : world_of z w.known.turns ≡ run (world_of z v.known.turns) one.turns = ap (world_of z) one.knows ∙ run_append (first_world z.callers z.first) v.known.turns one.turns in
      record {
        at = two.at;
        goes = goes_after z a v w y p two.at [] 0 one two.goes;
        may = two.may;
        count =
            let whole = closes_append a g (world_of z v.known.turns) one.turns two.goes.turns in
            let later : failed_closes (world_of z w.known.turns) a g two.goes.turns ≡ failed_closes (run (world_of z v.known.turns) one.turns) a g two.goes.turns = ap (λ (u : World V). failed_closes u a g two.goes.turns) there in
            let second = two.count in
            omega (arith, whole, later, second);
      }

  pub settle_sizes : (z : Sizes) (a k g : ℕ) (own : Option CallId) (x : V) (v : View V) → MaySettle z a k g own x v → v.sizes ≡ Some z
  settle_sizes z a k g own x v (inl first) = first.sizes
  settle_sizes z a k g own x v (inr again) = again.sizes

  -- after a peek that found the word open, or forgotten
  pub peeked_open : (z : Sizes) (a k g : ℕ) (own : Option CallId) (x : V) (v w : View V) (r : CallState) (s : LeaderState) → r ≡ word.Open s → HasPeeked z a k g own x v w r → Goes z a v w (stage.Settling k g own x (settle.Close s)) [] 0
  peeked_open z a k g own x v w r s is has = subst (λ (y : CallState). Goes z a v w (stage.Settling k g own x (after_own_peek y)) (peeked a (call_of a g) own x y has.joiners) 0) is has.goes

  pub peeked_forgot : (z : Sizes) (a k g : ℕ) (own : Option CallId) (x : V) (v w : View V) (r : CallState) (s : LeaderState) → r ≡ word.Forgot s → (has : HasPeeked z a k g own x v w r)
      → Goes z a v w (stage.Settling k g own x (settle.Clear s.top)) (settled a (call_of a g) own x has.joiners s.top) 0 × IsNumber s.top has.joiners
  peeked_forgot z a k g own x v w r s is has = (
    subst (λ (y : CallState). Goes z a v w (stage.Settling k g own x (after_own_peek y)) (peeked a (call_of a g) own x y has.joiners) 0) is has.goes,
    subst (λ (y : CallState). IsNumber (list_top y) has.joiners) is has.number,
  )

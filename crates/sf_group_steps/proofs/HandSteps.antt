-- the kinds of step of a delivery
use Rattle.std.proofs.Common.{◌≡◌, ℕ, eq-eqb, List, [], ◌∷◌, Option, Some, refl, sym, ◌∙◌, ap, subst}
use Rattle.std.proofs.lemmas.Bool.{cond-true}
use Rattle.atomic_table.specs.Table.{Me}
use Rattle.sf_history.specs.declared.call.CallId.{CallId}
use Rattle.sf_history.specs.declared.event.Event.TheVariants as event
use Rattle.sf_words.specs.declared.call_word.CallState.{CallState}
use Rattle.sf_words.specs.declared.call_word.CallState.TheVariants as word
use Rattle.sf_words.specs.CallWord.{IsGeneration, call_code}
use Rattle.sf_words.specs.NextWord.{next_code}
use Rattle.sf_lists.proofs.Functions.{put_else}
use Rattle.sf_steps_laws.specs.declared.letter.Letter.{Letter}
use Rattle.sf_steps_laws.specs.declared.operation.Stage.{Stage}
use Rattle.sf_steps_laws.specs.declared.operation.Stage.TheVariants as stage
use Rattle.sf_steps_laws.specs.declared.operation.SettleStep.{SettleStep}
use Rattle.sf_steps_laws.specs.declared.operation.SettleStep.TheVariants as settle
use Rattle.sf_steps_laws.specs.declared.turn.Turn.{Turn}
use Rattle.sf_steps_laws.specs.declared.turn.Turn.TheVariants as turn
use Rattle.sf_steps_laws.specs.World.{World, with_stage, generation_in}
use Rattle.sf_steps_laws.specs.Turns.{at_members, delivered, settle_stepped}
use Rattle.sf_steps_laws.specs.Events.{handed}
use Rattle.sf_steps_laws.specs.Schedules.{IsCaller}
use Rattle.sf_steps_laws.specs.Waiting.{IsListed}
use Rattle.sf_steps_laws.proofs.Owing.{member_waits, own_waits}
use Rattle.sf_steps_laws.proofs.RightAnswers.{always}
use Rattle.sf_steps_laws.proofs.Sound.{Good}
use Rattle.sf_group_rows.specs.declared.sizes.Sizes.{Sizes}
use Rattle.sf_group_rows.specs.Fitting.{FitOf}
use Rattle.sf_group_steps.specs.declared.view.View.{View}
use Rattle.sf_group_steps.specs.Words.{Word, call, next, IsCallFor, IsNextFor}
use Rattle.sf_group_steps.specs.View.{setting_of, world_of, history_of}
use Rattle.sf_group_steps.specs.Cells.{take_one, give_one, Lasts}
use Rattle.sf_group_steps.specs.Plays.{Moves, MovesCell, MadeWith, Made, Found, Handled}
use Rattle.sf_group_steps.specs.Settles.{call_of}
use Rattle.sf_group_steps.specs.Delivers.{IsOut}
use Rattle.sf_group_steps.specs.Stands.{SitsWith, Sits, GoesWith, Goes}
use Rattle.sf_group_steps.proofs.Ways.{step_ran, stands}
use Rattle.sf_group_steps.proofs.DeliverSteps.{settling_alone, quiet_move, quiet_told, peek_move, letter_of, fill_move, fill_told, own_handed}
use Rattle.sf_group_steps.proofs.ListSteps.{NoTicket, off_ticketless, off_head, listed_off, lists_by}

-- the word of a member
abbrev pub member_step : ℕ → ℕ → Option ℕ → CallState → SettleStep
member_step joiners m o r = settle.Deliver joiners (record { caller = m; generation = generation_in r }) o

abbrev pub own_step : ℕ → ℕ → CallState → SettleStep
own_step joiners m r = settle.DeliverOwn joiners (record { caller = m; generation = generation_in r })

module _ {V : Type 0} where
  no_ticket : (k g : ℕ) (own : Option CallId) (x : V) (step : SettleStep) → NoTicket (stage.Settling k g own x step)
  no_ticket k g own x step i n c = ((λ e. cc), λ e. cc)

  -- a step that changes the leader's stage alone leaves its list
  quiet_lists : (z : Sizes) (a k g : ℕ) (own : Option CallId) (x : V) (step : SettleStep) (v w : View V) (out : List ℕ) (to : Stage V) (top : Option ℕ) (l : List CallId) → Sits z a v (stage.Settling k g own x step) → (m : MadeWith z v w (turn.Step a ∷ []) out)
      → settle_stepped (world_of z m.before) a k g own x step ≡ with_stage (world_of z m.before) a to → IsListed (world_of z v.known.turns) k (call_of a g) top l → IsListed (world_of z w.known.turns) k (call_of a g) top l
  quiet_lists z a k g own x step v w out to top l sits m steps =
      let p : Stage V = stage.Settling k g own x step in
      let w₀ : World V = world_of z m.before in
      let alone = settling_alone k g own x step in
      let at : w₀.stages a ≡ p = stands z a v p m.before sits alone m.comes in
      let ran = step_ran (setting_of z) (history_of z m.before) w₀ a p sits.caller tt at in
      lists_by z a k g v w p [] out (turn.Step a ∷ []) top top l l sits alone m
      (λ is. subst (λ (u : World V). IsListed u k (call_of a g) top l) (sym (ran.world ∙ steps))
      (let off = off_ticketless w₀ k a (call_of a g) top l (subst NoTicket (sym at) (no_ticket k g own x step)) is in
      listed_off w₀ (with_stage w₀ a to) k a a (call_of a g) top l refl (λ b other. put_else w₀.stages a to b other) (λ b other. refl) off off is))

  -- the next word of a member
  pub follow_move : (z : Sizes) (a k g m : ℕ) (own : Option CallId) (x : V) (joiners : ℕ) (v : View V) → Sits z a v (stage.Settling k g own x (settle.Follow joiners m)) → Moves z v (next m) (λ n. n) (λ _. turn.Step a ∷ [])
  follow_move z a k g m own x joiners v sits = quiet_move z a k g own x (settle.Follow joiners m) (next m) v (λ w. stage.Settling k g own x (settle.PeekMember joiners m (w.nexts m))) sits (λ w. refl)

  pub follow_told : (z : Sizes) (a k g m n : ℕ) (own : Option CallId) (x : V) (joiners : ℕ) (r : Option ℕ) (v w : View V) → Sits z a v (stage.Settling k g own x (settle.Follow joiners m)) → Found (next m) (λ _. turn.Step a ∷ []) z v n w
      → ((y : Option ℕ) → IsNextFor z.callers y → next_code y ≡ n → r ≡ y) → Goes z a v w (stage.Settling k g own x (settle.PeekMember joiners m r)) [] 0
  follow_told z a k g m n own x joiners r v w sits found says =
      let w₀ : World V = world_of z found.0.before in
      let is : r ≡ w₀.nexts m = says (w₀.nexts m) (found.0.comes.lawful.nexts m) (sym found.1) in
      subst (λ (o : Option ℕ). Goes z a v w (stage.Settling k g own x (settle.PeekMember joiners m o)) [] 0) (sym is)
      (quiet_told z a k g own x (settle.Follow joiners m) v w [] (stage.Settling k g own x (settle.PeekMember joiners m (w₀.nexts m))) sits found.0 refl refl)

  pub follow_lists : (z : Sizes) (a k g m n : ℕ) (own : Option CallId) (x : V) (joiners : ℕ) (v w : View V) → Sits z a v (stage.Settling k g own x (settle.Follow joiners m)) → Found (next m) (λ _. turn.Step a ∷ []) z v n w
      → (l : List CallId) → IsListed (world_of z v.known.turns) k (call_of a g) (Some m) l → IsListed (world_of z w.known.turns) k (call_of a g) (Some m) l
  follow_lists z a k g m n own x joiners v w sits found l is =
      quiet_lists z a k g own x (settle.Follow joiners m) v w [] (stage.Settling k g own x (settle.PeekMember joiners m ((world_of z found.0.before).nexts m))) (Some m) l sits found.0 refl is

  -- the word of a member
  pub member_move : (fits : FitOf V) (z : Sizes) (a k g m : ℕ) (own : Option CallId) (x : V) (joiners : ℕ) (o : Option ℕ) (me : Me (Option (Letter V)) (View V)) → Sits z a me.0 (stage.Settling k g own x (settle.PeekMember joiners m o)) → IsCaller (setting_of z) m
      → MovesCell fits z me (call m) (λ n. n) (λ _. turn.Step a ∷ []) (λ _. take_one m)
  member_move fits z a k g m own x joiners o me sits caller = peek_move fits z a k g m own x (settle.PeekMember joiners m o) (member_step joiners m o) me sits caller (λ w. refl) (λ r. refl)

  pub own_move : (fits : FitOf V) (z : Sizes) (a k g : ℕ) (m : CallId) (x : V) (joiners : ℕ) (me : Me (Option (Letter V)) (View V)) → Sits z a me.0 (stage.Settling k g (Some m) x (settle.PeekOwn joiners)) → IsCaller (setting_of z) m.caller
      → MovesCell fits z me (call m.caller) (λ n. n) (λ _. turn.Step a ∷ []) (λ _. take_one m.caller)
  own_move fits z a k g m x joiners me sits caller = peek_move fits z a k g m.caller (Some m) x (settle.PeekOwn joiners) (own_step joiners m.caller) me sits caller (λ w. refl) (λ r. refl)

  pub member_told : (fits : FitOf V) (z : Sizes) (a k g m n : ℕ) (own : Option CallId) (x : V) (joiners : ℕ) (o : Option ℕ) (r : CallState) (me new : Me (Option (Letter V)) (View V)) → Sits z a me.0 (stage.Settling k g own x (settle.PeekMember joiners m o))
      → Handled fits (call m) (λ _. turn.Step a ∷ []) (λ _. take_one m) z me n new → ((y : CallState) → IsCallFor z.callers y → call_code y ≡ n → r ≡ y)
      → GoesWith z a me.0 new.0 (stage.Settling k g own x (member_step joiners m o r)) [] 0 (m ∷ []) × ((i : ℕ) × (r ≡ word.Listed i) × IsGeneration i)
  member_told fits z a k g m n own x joiners o r me new sits found says =
      let w₀ : World V = world_of z found.made.before in
      let p : Stage V = stage.Settling k g own x (settle.PeekMember joiners m o) in
      let is : r ≡ w₀.calls m = says (w₀.calls m) (found.made.comes.lawful.calls m) (sym found.found) in
      let at : w₀.stages a ≡ p = stands z a me.0 p found.made.before sits (settling_alone k g own x (settle.PeekMember joiners m o)) found.made.comes in
      let waits = member_waits (setting_of z) found.made.before a k g m own x joiners o found.made.comes.schedule at in
      let listed : w₀.calls m ≡ word.Listed waits.0.generation = ap w₀.calls waits.1 ∙ waits.2.1 in (
        subst (λ (q : CallState). GoesWith z a me.0 new.0 (stage.Settling k g own x (member_step joiners m o q)) [] 0 (m ∷ [])) (sym is)
            (quiet_told z a k g own x (settle.PeekMember joiners m o) me.0 new.0 (m ∷ []) (stage.Settling k g own x (member_step joiners m o (w₀.calls m))) sits found.made refl refl),
        (waits.0.generation, is ∙ listed, (subst (λ (q : CallState). IsCallFor z.callers q) listed (found.made.comes.lawful.calls m)).0),
      )

  pub member_lists : (fits : FitOf V) (z : Sizes) (a k g m n : ℕ) (own : Option CallId) (x : V) (joiners : ℕ) (o : Option ℕ) (me new : Me (Option (Letter V)) (View V)) → Sits z a me.0 (stage.Settling k g own x (settle.PeekMember joiners m o))
      → Handled fits (call m) (λ _. turn.Step a ∷ []) (λ _. take_one m) z me n new
      → (l : List CallId) → IsListed (world_of z me.0.known.turns) k (call_of a g) (Some m) l → IsListed (world_of z new.0.known.turns) k (call_of a g) (Some m) l
  member_lists fits z a k g m n own x joiners o me new sits found l is =
      quiet_lists z a k g own x (settle.PeekMember joiners m o) me.0 new.0 (m ∷ []) (stage.Settling k g own x (member_step joiners m o ((world_of z found.made.before).calls m))) (Some m) l sits found.made refl is

  pub own_told : (fits : FitOf V) (z : Sizes) (a k g n : ℕ) (m : CallId) (x : V) (joiners : ℕ) (r : CallState) (me new : Me (Option (Letter V)) (View V)) → Sits z a me.0 (stage.Settling k g (Some m) x (settle.PeekOwn joiners))
      → Handled fits (call m.caller) (λ _. turn.Step a ∷ []) (λ _. take_one m.caller) z me n new → ((y : CallState) → IsCallFor z.callers y → call_code y ≡ n → r ≡ y)
      → GoesWith z a me.0 new.0 (stage.Settling k g (Some m) x (own_step joiners m.caller r)) [] 0 (m.caller ∷ []) × ((i : ℕ) × (r ≡ word.Listed i) × IsGeneration i)
  own_told fits z a k g n m x joiners r me new sits found says =
      let w₀ : World V = world_of z found.made.before in
      let p : Stage V = stage.Settling k g (Some m) x (settle.PeekOwn joiners) in
      let is : r ≡ w₀.calls m.caller = says (w₀.calls m.caller) (found.made.comes.lawful.calls m.caller) (sym found.found) in
      let at : w₀.stages a ≡ p = stands z a me.0 p found.made.before sits (settling_alone k g (Some m) x (settle.PeekOwn joiners)) found.made.comes in
      let waits = own_waits (setting_of z) found.made.before a k g m x joiners found.made.comes.schedule at in (
        subst (λ (q : CallState). GoesWith z a me.0 new.0 (stage.Settling k g (Some m) x (own_step joiners m.caller q)) [] 0 (m.caller ∷ [])) (sym is)
            (quiet_told z a k g (Some m) x (settle.PeekOwn joiners) me.0 new.0 (m.caller ∷ []) (stage.Settling k g (Some m) x (own_step joiners m.caller (w₀.calls m.caller))) sits found.made refl refl),
        (m.generation, is ∙ waits.1, (subst (λ (q : CallState). IsCallFor z.callers q) waits.1 (found.made.comes.lawful.calls m.caller)).0),
      )

  -- the stores
  pub deliver_move : (fits : FitOf V) → Lasts fits → (z : Sizes) (a k g new : ℕ) (own : Option CallId) (x : V) (joiners : ℕ) (m : CallId) (o : Option ℕ) (me : Me (Option (Letter V)) (View V)) → SitsWith z a me.0 (stage.Settling k g own x (settle.Deliver joiners m o)) (m.caller ∷ [])
      → me.1 ≡ (m.caller, Some (letter_of a k g x joiners)) ∷ [] → IsGeneration m.generation → new ≡ call_code (word.Full m.generation) → fits k (call_of a g) x (history_of z me.0.known.turns)
      → MovesCell fits z me (call m.caller) (λ _. new) (λ _. turn.Step a ∷ []) (λ _. give_one m.caller)
  deliver_move fits lasts z a k g new own x joiners m o me sits carried generation code fit =
      fill_move fits lasts z a k g new own x joiners (settle.Deliver joiners m o) (at_members k g own x joiners o) m me sits carried generation code fit (λ w. refl)

  pub deliver_own_move : (fits : FitOf V) → Lasts fits → (z : Sizes) (a k g new : ℕ) (own : Option CallId) (x : V) (joiners : ℕ) (m : CallId) (me : Me (Option (Letter V)) (View V)) → SitsWith z a me.0 (stage.Settling k g own x (settle.DeliverOwn joiners m)) (m.caller ∷ [])
      → me.1 ≡ (m.caller, Some (letter_of a k g x joiners)) ∷ [] → IsGeneration m.generation → new ≡ call_code (word.Full m.generation) → fits k (call_of a g) x (history_of z me.0.known.turns)
      → MovesCell fits z me (call m.caller) (λ _. new) (λ _. turn.Step a ∷ []) (λ _. give_one m.caller)
  deliver_own_move fits lasts z a k g new own x joiners m me sits carried generation code fit =
      fill_move fits lasts z a k g new own x joiners (settle.DeliverOwn joiners m) stage.Free m me sits carried generation code fit (λ w. refl)

  pub deliver_told : (z : Sizes) (a k g : ℕ) (own : Option CallId) (x : V) (joiners : ℕ) (m : CallId) (o : Option ℕ) (v w : View V) (out : List ℕ) → SitsWith z a v (stage.Settling k g own x (settle.Deliver joiners m o)) out → Made z v w (turn.Step a ∷ [])
      → Goes z a v w (at_members k g own x joiners o) (handed a (call_of a g) own o) 0
  deliver_told z a k g own x joiners m o v w out sits made =
      fill_told z a k g own x joiners (settle.Deliver joiners m o) (at_members k g own x joiners o) (handed a (call_of a g) own o) m v w out sits made refl refl (own_handed a g own o)

  pub deliver_own_told : (z : Sizes) (a k g : ℕ) (own : Option CallId) (x : V) (joiners : ℕ) (m : CallId) (v w : View V) (out : List ℕ) → SitsWith z a v (stage.Settling k g own x (settle.DeliverOwn joiners m)) out → Made z v w (turn.Step a ∷ [])
      → Goes z a v w stage.Free (event.Handed a (call_of a g) ∷ []) 0
  deliver_own_told z a k g own x joiners m v w out sits made =
      fill_told z a k g own x joiners (settle.DeliverOwn joiners m) stage.Free (event.Handed a (call_of a g) ∷ []) m v w out sits made refl refl (cond-true _ _ _ (eq-eqb a a refl))

  pub deliver_lists : (z : Sizes) (a k g : ℕ) (own : Option CallId) (x : V) (joiners : ℕ) (m : CallId) (o : Option ℕ) (v w : View V) (out : List ℕ) → SitsWith z a v (stage.Settling k g own x (settle.Deliver joiners m o)) out → Made z v w (turn.Step a ∷ [])
      → (n : CallId) (l : List CallId) → IsListed (world_of z v.known.turns) k (call_of a g) (Some m.caller) (n ∷ l) → IsListed (world_of z w.known.turns) k (call_of a g) o l
  deliver_lists z a k g own x joiners m o v w out sits made n l =
      let p : Stage V = stage.Settling k g own x (settle.Deliver joiners m o) in
      let to : Stage V = at_members k g own x joiners o in
      let w₀ : World V = world_of z made.before in
      let u : World V = with_stage (delivered w₀ m (letter_of a k g x joiners)) a to in
      let alone = settling_alone k g own x (settle.Deliver joiners m o) in
      let at : w₀.stages a ≡ p = stands z a v p made.before sits alone made.comes in
      let ran = step_ran (setting_of z) (history_of z made.before) w₀ a p sits.caller tt at in
      let good : Good (history_of z made.before) w₀ a p = subst (λ (q : Stage V). Good (history_of z made.before) w₀ a q) at ((always (setting_of z) made.before made.comes.schedule).callers a).good in
      lists_by z a k g v w p out [] (turn.Step a ∷ []) (Some m.caller) o (n ∷ l) l sits alone made
      (λ is. subst (λ (u : World V). IsListed u k (call_of a g) o l) (sym ran.world)
      (let off = off_ticketless w₀ k a (call_of a g) (Some m.caller) (n ∷ l) (subst NoTicket (sym at) (no_ticket k g own x (settle.Deliver joiners m o))) is in
      listed_off w₀ u k a m.caller (call_of a g) o l refl (λ b other. put_else w₀.stages a to b other) (λ b other. put_else w₀.calls m.caller (word.Full m.generation) b other) off.1 (off_head w₀ k m.caller (call_of a g) n l is)
      (subst (λ (q : Option ℕ). IsListed w₀ k (call_of a g) q l) (ap w₀.nexts (sym is.0) ∙ sym good.3) is.2)))

  -- the cell that was taken out is the one that the seat carries
  pub taken_out : (fits : FitOf V) (z : Sizes) (m n : ℕ) (x : Word) (turns : ℕ → List (Turn V)) (me new : Me (Option (Letter V)) (View V)) → Handled fits x turns (λ _. take_one m) z me n new → me.1 ≡ [] → IsOut new.1 m
  taken_out fits z m n x turns me new found none = let y : Option (Letter V) = (world_of z found.made.before).cells m in (y, found.carries.0 ∙ ap (λ (l : List (ℕ × Option (Letter V))). (m, y) ∷ l) none)

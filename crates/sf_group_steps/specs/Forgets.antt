-- where a Forget begins, of a place's key or of one call, and how its attempts end
use Rattle.std.specs.Prelude.{◌≡◌, ℕ, ◌<◌, Bool, true, false, List, [], ◌∷◌, ◌⊎◌, Option, None, Some, if◌then◌else◌}
use Rattle.sf_steps_laws.specs.declared.operation.Stage.{Stage}
use Rattle.sf_steps_laws.specs.declared.operation.Stage.TheVariants as stage
use Rattle.sf_steps_laws.specs.declared.operation.ForgetStep.TheVariants as forget
use Rattle.sf_steps_laws.specs.declared.turn.Turn.{Turn}
use Rattle.sf_steps_laws.specs.declared.turn.Turn.TheVariants as turn
use Rattle.sf_steps_laws.specs.declared.operation.Op.{Op}
use Rattle.sf_steps_laws.specs.declared.operation.Op.TheVariants as op
use Rattle.sf_steps_laws.specs.World.{key_of, same_key, open_in, is_forgot_in}
use Rattle.sf_steps_laws.specs.Turns.{misses, peek_missed}
use Rattle.sf_steps_laws.specs.Events.{closes, clears, forget_one, named_by}
use Rattle.sf_group_steps.specs.declared.forgetting.ForgetAttempt.{ForgetAttempt}
use Rattle.sf_group_steps.specs.declared.forgetting.ForgetAttempt.TheVariants.{Closed, Cleared, Missed, Lost}
use Rattle.sf_group_rows.specs.declared.sizes.Sizes.{Sizes}
use Rattle.sf_group_steps.specs.declared.view.View.{View}
use Rattle.sf_group_steps.specs.Words.{key, call}
use Rattle.sf_history.specs.declared.call.CallId.{CallId}
use Rattle.sf_history.specs.declared.event.Event.{Event}
use Rattle.sf_history.specs.declared.event.Event.TheVariants as event
use Rattle.sf_history.specs.declared.event.Hit.TheVariants as hit
use Rattle.sf_words.specs.KeyWord.{key_code}
use Rattle.sf_words.specs.declared.key_word.KeyState.{KeyState}
use Rattle.sf_words.specs.declared.call_word.CallState.{CallState}
use Rattle.sf_words.specs.CallWord.{call_code}
use Rattle.sf_group_steps.specs.Stands.{Sits, Goes}
use Rattle.sf_group_steps.specs.Changes.{Loses, Tries}

-- the call to which a Forget goes on from its look: the one that the key word names, and for a Forget of one call that alone
abbrev pub called_by : Option CallId → KeyState → Option CallId
called_by None v = named_by v
called_by (Some c) v = if same_key v (key_of c) then Some c else None

-- a Forget may be of this call
abbrev pub IsMeant : Option CallId → CallId → Type 0
IsMeant None c = Unit {0}
IsMeant (Some d) c = d ≡ c

module _ {V : Type 0} where
  -- where a caller stands whose Forget's exchange failed
  abbrev pub lost_forget : ℕ → Option CallId → Bool → Stage V
  lost_forget k target false = stage.Forgetting k target (forget.Look true)
  lost_forget k target true = stage.Free

  -- where a Forget begins, or looks again after a failed exchange
  abbrev pub MayForget : Sizes → ℕ → ℕ → Option CallId → View V → Type 0
  MayForget z a k target v = Sits z a v stage.Free ⊎ Sits z a v (stage.Forgetting k target (forget.Look true))

  abbrev pub forget_op : ℕ → Option CallId → Op V
  forget_op k None = op.Forget k
  forget_op k (Some c) = op.ForgetCall k c

  abbrev pub forget_turns : Stage V → ℕ → ℕ → Option CallId → List (Turn V)
  forget_turns stage.Free a k target = turn.Start a (forget_op k target) ∷ turn.Step a ∷ []
  forget_turns _ a k target = turn.Step a ∷ []

  -- what a Forget adds that finds no call to close or to clear
  abbrev pub passes : ℕ → ℕ → Option CallId → Event ℕ V
  passes a k None = event.Forget a k None
  passes a k (Some c) = event.ForgetCall a k c hit.Missed

  -- where a Forget stands after its peek, which found this word, and what that adds
  abbrev pub peek_stage : ℕ → Option CallId → CallId → CallState → Stage V
  peek_stage k target c x = peek_missed k target c (open_in c.generation x) (misses target (is_forgot_in c.generation x))

  abbrev pub peek_adds : ℕ → ℕ → Option CallId → CallId → CallState → List (Event ℕ V)
  peek_adds a k target c x = forget_one (event.ForgetCall a k c hit.Missed) (misses target (is_forgot_in c.generation x))

  -- how an attempt of a Forget ends
  abbrev pub HasForgot : Sizes → ℕ → ℕ → Option CallId → Bool → View V → View V → ForgetAttempt → Type 0
  HasForgot z a k target last v w (Closed c) = IsMeant target c × Goes z a v w stage.Free (closes a k target c ∷ []) 0
  HasForgot z a k target last v w (Cleared c) = IsMeant target c × Goes z a v w stage.Free (clears a k target c ∷ []) 0
  HasForgot z a k target last v w Missed = Goes z a v w stage.Free (passes a k target ∷ []) 0
  HasForgot z a k target last v w Lost = Tries z a k 1 v w (lost_forget k target last)

  -- the same, where the key word said that it names this call, or the call word said so much
  abbrev pub HasCleared : Sizes → ℕ → ℕ → Option CallId → CallId → Bool → View V → View V → ForgetAttempt → Type 0
  HasCleared z a k target c last v w (Closed d) = ⊥
  HasCleared z a k target c last v w (Cleared d) = (d ≡ c) × Goes z a v w stage.Free (clears a k target d ∷ []) 0
  HasCleared z a k target c last v w Missed = ⊥
  HasCleared z a k target c last v w Lost = Loses z a (key k) (key_code (key_of c)) v w (lost_forget k target last)

  abbrev pub HasClosed : Sizes → ℕ → ℕ → Option CallId → CallId → Bool → CallState → View V → View V → ForgetAttempt → Type 0
  HasClosed z a k target c last seen v w (Closed d) = (d ≡ c) × Goes z a v w stage.Free (closes a k target d ∷ []) 0
  HasClosed z a k target c last seen v w (Cleared d) = ⊥
  HasClosed z a k target c last seen v w Missed = ⊥
  HasClosed z a k target c last seen v w Lost = Loses z a (call c.caller) (call_code seen) v w (lost_forget k target last)

  -- while a Forget tries
  pub record Forgetting (z : Sizes) (a k : ℕ) (target : Option CallId) (tries failed : ℕ) (v w : View V) : Type 0 where
    pub at : Stage V
    pub done : Tries z a k failed v w at
    pub may : failed < tries → MayForget z a k target w
    pub free : failed ≡ tries → at ≡ stage.Free

  abbrev pub HasForgottenOften : Sizes → ℕ → ℕ → Option CallId → ℕ → View V → View V → ForgetAttempt → Type 0
  HasForgottenOften z a k target tries v w (Closed c) = IsMeant target c × Goes z a v w stage.Free (closes a k target c ∷ []) 0
  HasForgottenOften z a k target tries v w (Cleared c) = IsMeant target c × Goes z a v w stage.Free (clears a k target c ∷ []) 0
  HasForgottenOften z a k target tries v w Missed = Goes z a v w stage.Free (passes a k target ∷ []) 0
  HasForgottenOften z a k target tries v w Lost = Tries z a k tries v w stage.Free

-- how a question goes: whether a call is its place's current one
use Rattle.std.specs.Prelude.{◌≡◌, ℕ, Bool, List, [], ◌∷◌, ◌++◌, Some, nat_eq}
use Rattle.sf_history.specs.declared.call.CallId.{CallId}
use Rattle.sf_history.specs.History.{current_call}
use Rattle.sf_steps_laws.specs.declared.operation.Op.TheVariants as op
use Rattle.sf_steps_laws.specs.declared.operation.Stage.TheVariants as stage
use Rattle.sf_steps_laws.specs.declared.operation.CurrentStep.TheVariants as current
use Rattle.sf_steps_laws.specs.declared.turn.Turn.{Turn}
use Rattle.sf_steps_laws.specs.declared.turn.Turn.TheVariants as turn
use Rattle.sf_steps_laws.specs.World.{is_forgot_in}
use Rattle.sf_steps_laws.specs.Turns.{current_peeked}
use Rattle.sf_steps_laws.specs.Events.{current_answer}
use Rattle.sf_group_rows.specs.declared.sizes.Sizes.{Sizes}
use Rattle.sf_group_steps.specs.declared.view.View.{View}
use Rattle.sf_group_steps.specs.View.{world_of, history_of}
use Rattle.sf_group_steps.specs.Stands.{Goes}
use Rattle.sf_group_steps.specs.Hears.{BeginsWith}

module _ {V : Type 0} where
  -- the peek starts the question
  abbrev pub question_turns : ℕ → ℕ → CallId → List (Turn V)
  question_turns a k c = turn.Start a (op.Current k c) ∷ turn.Step a ∷ []

  -- the look starts the question which call the key word names
  abbrev pub named_turns : ℕ → ℕ → List (Turn V)
  named_turns a k = turn.Start a (op.Named k) ∷ turn.Step a ∷ []

  -- the seat's last turn was the question's peek, which found that a Forget had closed the call, or not
  pub record HasPeeked (z : Sizes) (a k : ℕ) (c : CallId) (v w : View V) (forgot : Bool) : Type 0 where
    pub goes : Goes z a v w (current_peeked k c forgot) [] 0
    pub before : List (Turn V)
    pub begins : BeginsWith before v.known.turns
    pub peeked : w.known.turns ≡ before ++ turn.Step a ∷ []
    pub asks : (world_of z before).stages a ≡ stage.Questioning k c current.Peek
    pub found : is_forgot_in c.generation ((world_of z before).calls c.caller) ≡ forgot

  -- the seat's last turn was the question's look, which answered so
  pub record HasLooked (z : Sizes) (a k : ℕ) (c : CallId) (v w : View V) (answer : Bool) : Type 0 where
    pub goes : Goes z a v w stage.Free [] 0
    pub before : List (Turn V)
    pub begins : BeginsWith before v.known.turns
    pub looked : w.known.turns ≡ before ++ turn.Step a ∷ []
    pub asks : (world_of z before).stages a ≡ stage.Questioning k c current.Look
    pub answered : current_answer (world_of z before) k c current.Look ≡ Some answer

  -- the call was the place's current one at a moment after what the seat knew
  pub record WasCurrent (z : Sizes) (k : ℕ) (c : CallId) (v w : View V) : Type 0 where
    pub moment : List (Turn V)
    pub begins : BeginsWith moment v.known.turns
    pub within : BeginsWith w.known.turns moment
    pub is : current_call nat_eq (history_of z moment) k ≡ Some c

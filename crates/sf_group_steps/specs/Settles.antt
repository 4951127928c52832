-- where a leader stands that settles, and how its attempts end
use Rattle.std.specs.Prelude.{◌≡◌, ℕ, ◌≤◌, List, [], ◌∷◌, ◌⊎◌, Option, Some, None}
use Rattle.sf_history.specs.declared.call.CallId.{CallId}
use Rattle.sf_history.specs.declared.event.Event.{Event}
use Rattle.sf_words.specs.declared.call_word.CallState.{CallState}
use Rattle.sf_words.specs.declared.call_word.CallState.TheVariants as word
use Rattle.sf_steps_laws.specs.declared.operation.Op.TheVariants as op
use Rattle.sf_steps_laws.specs.declared.operation.Stage.{Stage}
use Rattle.sf_steps_laws.specs.declared.operation.Stage.TheVariants as stage
use Rattle.sf_steps_laws.specs.declared.operation.SettleStep.TheVariants as settle
use Rattle.sf_steps_laws.specs.declared.turn.Turn.{Turn}
use Rattle.sf_steps_laws.specs.declared.turn.Turn.TheVariants as turn
use Rattle.sf_steps_laws.specs.Turns.{after_own_peek, at_count}
use Rattle.sf_steps_laws.specs.Events.{settled}
use Rattle.sf_steps_laws.specs.Waiting.{list_top}
use Rattle.sf_steps_laws.specs.Closes.{failed_closes}
use Rattle.sf_group_rows.specs.declared.sizes.Sizes.{Sizes}
use Rattle.sf_group_steps.specs.declared.view.View.{View}
use Rattle.sf_group_steps.specs.View.{world_of}
use Rattle.sf_group_steps.specs.Stands.{Sits, Goes}

-- a leader's word before its settle: open or forgotten, of this generation
abbrev pub IsLeadersWord : ℕ → CallState → Type 0
IsLeadersWord g (word.Open s) = s.generation ≡ g
IsLeadersWord g (word.Forgot s) = s.generation ≡ g
IsLeadersWord g _ = ⊥

-- the call of this caller and generation
abbrev pub call_of : ℕ → ℕ → CallId
call_of a g = record { caller = a; generation = g }

-- nobody joined a call whose list is empty
abbrev pub IsNumber : Option ℕ → ℕ → Type 0
IsNumber None n = n ≡ 0
IsNumber (Some m) n = Unit {0}

-- a list that is not empty has members
abbrev pub IsJoined : Option ℕ → ℕ → Type 0
IsJoined None n = n ≡ 0
IsJoined (Some m) n = 1 ≤ n

module _ {V : Type 0} where
  -- a leader that settles, or goes on to: it is to look at its word
  abbrev pub MaySettle : Sizes → ℕ → ℕ → ℕ → Option CallId → V → View V → Type 0
  MaySettle z a k g own x v = Sits z a v (stage.Leading k g own) ⊎ Sits z a v (stage.Settling k g own x settle.Peek)

  abbrev pub settle_turns : Stage V → ℕ → V → List (Turn V)
  settle_turns (stage.Leading k g own) a x = turn.Start a (op.Settle x) ∷ turn.Step a ∷ []
  settle_turns _ a x = turn.Step a ∷ []

  -- so many of its closes failed
  pub record Fails (z : Sizes) (a k g n : ℕ) (own : Option CallId) (x : V) (v w : View V) : Type 0 where
    pub at : Stage V
    pub goes : Goes z a v w at [] 0
    pub may : MaySettle z a k g own x w
    pub count : n ≤ failed_closes (world_of z v.known.turns) a g goes.turns

  -- what a peek at the own word adds that found it so: a forgotten call is settled, and so many joined it
  abbrev pub peeked : ℕ → CallId → Option CallId → V → CallState → ℕ → List (Event ℕ V)
  peeked a c own x (word.Forgot s) joiners = settled a c own x joiners s.top
  peeked a c own x _ joiners = []

  -- after a peek at the own word. How many joined a call that it settles, the leader does not know yet
  pub record HasPeeked (z : Sizes) (a k g : ℕ) (own : Option CallId) (x : V) (v w : View V) (r : CallState) : Type 0 where
    pub joiners : ℕ
    pub number : IsNumber (list_top r) joiners
    pub goes : Goes z a v w (stage.Settling k g own x (after_own_peek r)) (peeked a (call_of a g) own x r joiners) 0

  -- the call is settled, and its leader goes on to count the list from this top on
  pub record HasSettled (z : Sizes) (a k g : ℕ) (own : Option CallId) (x : V) (v w : View V) (top : Option ℕ) : Type 0 where
    pub joiners : ℕ
    pub number : IsNumber top joiners
    pub goes : Goes z a v w (at_count k g own x top) (settled a (call_of a g) own x joiners top) 0

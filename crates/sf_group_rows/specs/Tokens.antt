-- what contracts see of groups, tokens, notes and letters
use Rattle.std.specs.Prelude.{ℕ, List, Option}
use Rattle.atomic_table.specs.Seated.{TableId}
use Rattle.sf_history.specs.declared.call.CallId.{CallId}
use Rattle.sf_history.specs.declared.event.Event.{Event}
use Rattle.sf_steps_laws.specs.declared.turn.Turn.{Turn}
use Rattle.sf_group_rows.specs.declared.sizes.Sizes.{Sizes}

-- which group: its table, and how many places and callers it has, with their first generation
pub record GroupValue : Type 0 where
  pub table : TableId
  pub sizes : Sizes

-- What a token's seat has seen is its list of events. The turns are those that the seat knows, in a group whose words
-- change by turns, and else none. Only the refusal as busy and the bounds of tries name them.
pub record CallerValue (V : Type 0) : Type 0 where
  pub group : GroupValue
  pub number : ℕ
  pub seen : List (Event ℕ V)
  pub turns : List (Turn V)

pub record FlightValue (V : Type 0) : Type 0 where
  pub group : GroupValue
  pub number : ℕ
  pub seen : List (Event ℕ V)
  pub turns : List (Turn V)
  pub place : ℕ
  pub call : CallId
  pub own : Option CallId

-- the value is what its call was settled with
pub record SettledValue (V : Type 0) : Type 0 where
  pub group : GroupValue
  pub number : ℕ
  pub seen : List (Event ℕ V)
  pub turns : List (Turn V)
  pub place : ℕ
  pub call : CallId
  pub value : Option V
  pub joiners : ℕ

pub record TicketValue (V : Type 0) : Type 0 where
  pub group : GroupValue
  pub number : ℕ
  pub seen : List (Event ℕ V)
  pub turns : List (Turn V)
  pub place : ℕ
  pub call : CallId
  pub member : CallId

-- what a note shows
pub record NoteValue (V : Type 0) : Type 0 where
  pub group : GroupValue
  pub seen : List (Event ℕ V)

-- a letter with what its note shows
pub record LetterValue (V : Type 0) : Type 0 where
  pub group : GroupValue
  pub seen : List (Event ℕ V)
  pub place : ℕ
  pub call : CallId
  pub value : V
  pub joiners : ℕ

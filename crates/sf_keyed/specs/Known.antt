-- What clauses see of a keyed group and of the tokens of its callers.
use Rattle.std.specs.Prelude.{◌≡◌, ℕ, nat_eq, true, List, None}
use Rattle.sf_history.specs.History.{open_call}
use Rattle.sf_history.specs.Legal.{IsLegal}
use Rattle.atomic_table.specs.Seated.{TableId}
use Rattle.sf_keyed_tells.specs.Tells.{KeyedEvent}
use Rattle.sf_keyed_words.specs.declared.rule.Gone.{Gone}
use Rattle.sf_keyed_words.specs.declared.rule.KeyedSizes.{KeyedSizes}
use Rattle.sf_keyed_words.specs.Rule.{is_gone}

-- which group
pub record GroupId : Type 0 where
  pub table : TableId
  pub sizes : KeyedSizes

-- What a caller has met, which causes of refusals are said of: how many exchanges it has lost, each since a word was changed by others between
-- its load of it and the exchange; the top word of the slot that it walked from last; how many of the calls were open that this walk looked at, at the top
-- and at 16 side words; and the state word that it looked at last, and where a free cell's lay
pub record Met : Type 0 where
  pub lost : ℕ
  pub top : ℕ
  pub opened : ℕ
  pub state : ℕ
  pub place : ℕ

-- a caller: the number by which its Forgets are; what it has seen: a beginning of the group's one history; its walks over sealed slots; its spare cell, as the call that would be led there next, or 0; and what it has met
pub record FrontState : Type 0 where
  pub group : GroupId
  pub number : ℕ
  pub seen : List KeyedEvent
  pub gone : List Gone
  pub spare : ℕ
  pub met : Met

-- the caller knows that the name is gone: it has no open call in what the caller has seen, which is legal, and never has one again
pub record IsGone (f : FrontState) (k : ℕ) : Type 0 where
  pub known : is_gone f.group.sizes f.gone k ≡ true
  pub none : open_call nat_eq f.seen k ≡ None
  pub legal : IsLegal nat_eq f.seen

-- a call that is led, or held
pub record FlightState : Type 0 where
  pub group : GroupId
  pub call : ℕ

-- what somebody had seen
pub record NoteState : Type 0 where
  pub group : GroupId
  pub seen : List KeyedEvent

-- what a get counts, by what it added to the history
use Rattle.std.specs.Prelude.{◌≡◌, ℕ, ◌+◌, Bool, true, false, cond, List, ◌++◌, IsOk}
use Rattle.std.specs.List.{list_any, sum_by}
use Rattle.sf_history.specs.declared.event.Event.{Event}
use Rattle.sf_history.specs.declared.event.Event.TheVariants.{Lead, Enter, Forget, ForgetCall, Settle, Handed}
use Rattle.sf_history.specs.History.{own_events}
use Rattle.sf_group_rows.specs.Seen.{StartsWith}
use Rattle.sf_fill_values.specs.FillValue.{Filled}
use Rattle.sf_fill_values.specs.Answers.{GetAnswer}
use Rattle.sf_fill.specs.GetterValue.{GetterValue}
use Rattle.sf_fill_store.specs.Standings.{number_of, seen_of}

module _ {V : Type 0} where
  -- the event asks: it leads a call, or joins one
  abbrev pub is_asking : Event ℕ V → Bool
  is_asking (Lead by key call own) = true
  is_asking (Enter by key call member) = true
  is_asking (Forget by key closed) = false
  is_asking (ForgetCall by key call hit) = false
  is_asking (Settle by call result joiners) = false
  is_asking (Handed by call) = false

  abbrev pub has_asking : List (Event ℕ V) → Bool
  has_asking added = list_any is_asking added

  -- how many of the events ask
  abbrev pub askings_in : List (Event ℕ V) → ℕ
  askings_in added = sum_by (λ e. cond (is_asking e) 1 0) added

  -- a caller that stays the same has seen more, in which it made these events
  pub record HasMade (a b : ℕ) (old new added : List (Event ℕ V)) : Type 0 where
    pub number : b ≡ a
    pub begins : StartsWith new old
    pub own : own_events a new ≡ own_events a old ++ added

module _ {L : Type 0} where
  -- Gets rises by one; Loads rises by one where it asked; where it answers a view and did not ask, CacheHits rises by one and Loads stays.
  pub record IsCounted (old new : GetterValue L) (answer : GetAnswer) : Type 0 where
    pub added : List (Event ℕ Filled)
    pub made : HasMade (number_of old.standing) (number_of new.standing) (seen_of old.standing) (seen_of new.standing) added
    pub gets : new.counted.gets ≡ old.counted.gets + 1
    pub loads : has_asking added ≡ true → new.counted.loads ≡ old.counted.loads + 1
    pub hits : has_asking added ≡ false → IsOk answer → (new.counted.cache_hits ≡ old.counted.cache_hits + 1) × (new.counted.loads ≡ old.counted.loads)

-- letters that a fill keeps
use Rattle.std.specs.Prelude.{◌≡◌, ℕ, ◌⊎◌, Option, Some, None, Result, Ok, Err}
use Rattle.sf_history.specs.declared.call.CallId.{CallId}
use Rattle.sf_history.specs.declared.event.Event.TheVariants.{Settle}
use Rattle.sf_group_rows.specs.Tokens.{GroupValue, CallerValue, FlightValue, LetterValue}
use Rattle.sf_group_rows.specs.Seen.{Stands}
use Rattle.sf_group_rows.specs.Same.{HasNothing}
use Rattle.sf_group_rows.specs.Finishes.{FitsLetter}
use Rattle.sf_group_rows.specs.Notes.{HasLent}
use Rattle.sf_group_rows.specs.Currents.{WasCurrent}
use Rattle.sf_group_rows.specs.Afters.{FollowsCall}
use Rattle.sf_fill_values.specs.FillValue.{Filled, FitsFill}

-- the list that its note shows has the Settle of its call, with its value and number of joiners
abbrev pub IsSettled : {V : Type 0} → LetterValue V → Type 0
IsSettled l = Stands (Settle l.call.caller l.call l.value l.joiners) l.seen

-- what a look finds: a letter of the group and the place, whose call was settled so, with a value that fits
pub record IsKeptLetter (g : GroupValue) (place : ℕ) (l : LetterValue Filled) : Type 0 where
  pub group : l.group ≡ g
  pub place_is : l.place ≡ place
  pub settled : IsSettled l
  pub fits : FitsLetter FitsFill l

-- a letter that a cache has for the place, whose call was current when the caller asked, which has then seen all that it showed
pub record IsCurrentLetter (c : CallerValue Filled) (place : ℕ) (l : LetterValue Filled) (d : CallerValue Filled) : Type 0 where
  pub kept : IsKeptLetter c.group place l
  pub nothing : HasNothing c d
  pub current : WasCurrent place l.call c.seen l.seen d.seen

-- the caller as it was, or after questions that made nothing
abbrev pub HasOnlyLooked : CallerValue Filled → CallerValue Filled → Type 0
HasOnlyLooked c d = (d ≡ c) ⊎ HasNothing c d

module _ {E : Type 0} where
  -- a copy of a letter that was current; one whose copy was refused; or none, and the caller may have seen more
  abbrev pub HasLooked : CallerValue Filled → ℕ → Option (Result (LetterValue Filled) E) → CallerValue Filled → Type 0
  HasLooked c place (Some (Ok m)) d = (l : LetterValue Filled) × IsCurrentLetter c place l d × HasLent l m
  HasLooked c place (Some (Err e)) d = (l : LetterValue Filled) × IsCurrentLetter c place l d
  HasLooked c place None d = HasOnlyLooked c d

  -- the same after a look that found none
  abbrev pub HasLookedOn : CallerValue Filled → ℕ → Option (Result (LetterValue Filled) E) → CallerValue Filled → Type 0
  HasLookedOn c place found d = (u : CallerValue Filled) × HasOnlyLooked c u × HasLooked u place found d

  -- a copy of a letter that a cache has for the place, of this call
  abbrev pub IsCopyOf : GroupValue → ℕ → CallId → Result (LetterValue Filled) E → Type 0
  IsCopyOf g place call (Ok m) = IsKeptLetter g place m × (m.call ≡ call)
  IsCopyOf g place call (Err e) = (l : LetterValue Filled) × IsKeptLetter g place l × (l.call ≡ call)

-- a letter that a cache has for the flight's place, of the call that the flight's follows
pub record IsFollowed (f : FlightValue Filled) (l : LetterValue Filled) : Type 0 where
  pub kept : IsKeptLetter f.group f.place l
  pub follows : FollowsCall f (Some l.call)

module _ {E : Type 0} where
  abbrev pub CopiesFollowed : FlightValue Filled → Result (LetterValue Filled) E → Type 0
  CopiesFollowed f (Ok m) = IsFollowed f m
  CopiesFollowed f (Err e) = (l : LetterValue Filled) × IsFollowed f l

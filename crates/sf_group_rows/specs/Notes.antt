-- how calls end that pass on what somebody has seen
use Rattle.std.specs.Prelude.{◌≡◌, ℕ, List}
use Rattle.sf_history.specs.declared.event.Event.{Event}
use Rattle.sf_group_rows.specs.Tokens.{CallerValue, FlightValue, NoteValue, LetterValue}
use Rattle.sf_group_rows.specs.Seen.{StartsWith}
use Rattle.sf_group_rows.specs.Fitting.{FitOf}
use Rattle.sf_group_rows.specs.Same.{HasNothing, IsSameFlight}
use Rattle.sf_group_rows.specs.Finishes.{FitsLetter}

module _ {V : Type 0} where
  -- what a caller learns from a list that was shown to it
  abbrev pub HasLearnt : CallerValue V → List (Event ℕ V) → CallerValue V → Type 0
  HasLearnt c shown d = HasNothing c d × StartsWith d.seen shown

  -- the same of a leader
  abbrev pub HasLearntLeading : FlightValue V → List (Event ℕ V) → FlightValue V → Type 0
  HasLearntLeading f shown h = IsSameFlight f h × StartsWith h.seen shown

  -- a new note, and the caller that tells it, which stays as it was
  pub record HasTold (c d : CallerValue V) (n : NoteValue V) : Type 0 where
    pub same : d ≡ c
    pub nothing : HasNothing c d
    pub group : n.group ≡ c.group
    pub shown : n.seen ≡ d.seen

  -- a note that was lent, or another one of it
  abbrev pub HasGrown : NoteValue V → NoteValue V → Type 0
  HasGrown n m = (m.group ≡ n.group) × StartsWith m.seen n.seen

  -- each of the two has seen what either had
  abbrev pub HasMet : CallerValue V → CallerValue V → CallerValue V → CallerValue V → Type 0
  HasMet a b c d = HasLearnt a b.seen c × HasLearnt b a.seen d

  -- a letter that was lent, or a copy of it
  pub record HasLent (l m : LetterValue V) : Type 0 where
    pub group : m.group ≡ l.group
    pub place : m.place ≡ l.place
    pub call : m.call ≡ l.call
    pub value : m.value ≡ l.value
    pub count : m.joiners ≡ l.joiners
    pub shows : StartsWith m.seen l.seen

  abbrev pub HasCopied : FitOf V → LetterValue V → LetterValue V → LetterValue V → Type 0
  HasCopied fits l m n = HasLent l m × HasLent l n × FitsLetter fits n

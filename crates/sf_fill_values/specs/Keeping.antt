-- what becomes of the letters that a fill's two caches keep
use Rattle.std.specs.Prelude.{◌≡◌, ◌≢◌, ◌⊎◌, ℕ, ℤ, pos, ◌≤ℤ◌, ◌<ℤ◌, nat_eq, cond, List, Option, Some, None, Result, Ok, Err, IfOk, IsSome}
use Rattle.sf_fill_caches.specs.declared.caches.Which.{Which}
use Rattle.sf_fill_caches.specs.declared.caches.Which.TheVariants.{Main, Hot}
use Rattle.sf_history.specs.History.{current_call}
use Rattle.sf_fill_caches.specs.Looks.{item_at, looked}
use Rattle.sf_fill_caches.specs.Trimming.{CachesValue, entries_of, in_one, removed}
use Rattle.sf_group_rows.specs.Tokens.{CallerValue, FlightValue, LetterValue}
use Rattle.sf_group_rows.specs.Notes.{HasLent}
use Rattle.sf_history.specs.declared.call.CallId.{CallId}
use Rattle.sf_fill_keys.specs.declared.spot.Spot.{Spot}
use Rattle.sf_loaders.specs.LoadPath.{LoadAnswer}
use Rattle.sf_loaders.specs.declared.faults.LocalFault.{LocalFault}
use Rattle.sf_loaders.specs.declared.counts.Source.{Source}
use Rattle.sf_loaders.specs.declared.counts.Source.TheVariants.{Peer, Local}
use Rattle.sf_fill_values.specs.declared.second.InCache.{InCache}
use Rattle.sf_fill_values.specs.declared.second.Missed.{Missed}
use Rattle.sf_fill_values.specs.FillValue.{Filled}
use Rattle.sf_fill_values.specs.Settled.{CopiesFollowed, IsCurrentLetter}

abbrev pub LetterCaches : Type 0
LetterCaches = CachesValue (LetterValue Filled)

-- a cache has a letter of the place, and it is such a one
abbrev pub HasSuch : (LetterValue Filled → Type 0) → Option (LetterValue Filled) → Type 0
HasSuch such None = ⊥
HasSuch such (Some letter) = such letter

abbrev pub Has : (LetterValue Filled → Type 0) → ℕ → Which → LetterCaches → Type 0
Has such place which caches = HasSuch such (item_at place (entries_of which caches))

-- the place's entry left the cache where its letter was such a one, and else all stayed
abbrev pub Drops : (LetterValue Filled → Type 0) → ℕ → Which → LetterCaches → LetterCaches → Type 0
Drops such place which old new =
    (Has such place which old → new ≡ removed which place old) × ((Has such place which old → ⊥) → new ≡ old)

-- so of main, and then so of hot
abbrev pub DropsOfBoth : (LetterValue Filled → Type 0) → ℕ → LetterCaches → LetterCaches → Type 0
DropsOfBoth such place old new =
    (middle : LetterCaches) × Drops such place Main old middle × Drops such place Hot middle new

-- the place's entry, of this letter, went in front; what its letter's note shows may have grown
pub record Promotes (place : ℕ) (which : Which) (letter : LetterValue Filled) (old new : LetterCaches) : Type 0 where
  pub was : item_at place (entries_of which old) ≡ Some letter
  pub then : LetterValue Filled
  pub lent : HasLent letter then
  pub entries : new ≡ in_one (looked place then) which old

module _ (such : LetterValue Filled → Type 0) (place : ℕ) where
  -- the cache has no letter of the place, and all stayed; or it has one that is not such, whose entry went in front
  abbrev pub ServesNone : Which → LetterCaches → LetterCaches → Type 0
  ServesNone which old new =
      ((item_at place (entries_of which old) ≡ None) × (new ≡ old))
      ⊎ ((l : LetterValue Filled) × (such l → ⊥) × Promotes place which l old new)

  -- the entry of such a letter left the cache, which is of no current call by what the caller has then seen
  pub record DropsStale (which : Which) (d : CallerValue Filled) (old new : LetterCaches) : Type 0 where
    pub letter : LetterValue Filled
    pub was : item_at place (entries_of which old) ≡ Some letter
    pub is_such : such letter
    pub stale : current_call nat_eq d.seen letter.place ≢ Some letter.call
    pub left : new ≡ removed which place old

  module _ {E : Type 0} where
    -- a copy comes just where the cache has such a letter of the place, whose entry goes in front
    abbrev pub Serves : Which → LetterCaches → Option (Result (LetterValue Filled) E) → LetterCaches → Type 0
    Serves which old (Some found) new =
        (l : LetterValue Filled) × such l × Promotes place which l old new × IfOk found (HasLent l)
    Serves which old None new = ServesNone which old new

    -- a copy comes just where the cache has such a letter that was current while the caller asked; one that was not leaves
    abbrev pub ServesCurrent : Which → CallerValue Filled → CallerValue Filled → LetterCaches → Option (Result (LetterValue Filled) E) → LetterCaches → Type 0
    ServesCurrent which c d old (Some found) new =
        (l : LetterValue Filled) × such l × IsCurrentLetter c place l d × Promotes place which l old new × IfOk found (HasLent l)
    ServesCurrent which c d old None new = ServesNone which old new ⊎ DropsStale which d old new

    -- main serves, or else hot
    abbrev pub ServesEither : CallerValue Filled → CallerValue Filled → LetterCaches → Option (Result (LetterValue Filled) E) → LetterCaches → Type 0
    ServesEither c d old found new =
        (IsSome found × ServesCurrent Main c d old found new)
        ⊎ ((u : CallerValue Filled) × (middle : LetterCaches) × ServesCurrent Main c u old None middle × ServesCurrent Hot u d middle found new)

  -- main's copy, or else hot's; or neither has such a letter
  abbrev pub LooksAgain : LetterCaches → Result (InCache Filled) Missed → LetterCaches → Type 0
  LooksAgain old (Ok found) new =
      ((found.which ≡ Main) × Serves Main old (Some found.copy) new)
      ⊎ ((found.which ≡ Hot) × ((middle : LetterCaches) × ServesNone Main old middle × Serves Hot middle (Some found.copy) new))
  LooksAgain old (Err missed) new = (middle : LetterCaches) × ServesNone Main old middle × ServesNone Hot middle new

-- what a leader settles with that has found this: the value, with its root; or want of memory, where the copy was refused it
abbrev pub taken_over : {E : Type 0} → Spot → CallId → Result (LetterValue Filled) E → Filled
taken_over p call (Ok copy) = copy.value
taken_over p call (Err refusal) = record { spot = p; root = call; result = Err LocalFault.Memory }

-- it goes where it was found; and want of memory nowhere
abbrev pub cache_by : {E : Type 0} → Result (LetterValue Filled) E → Which → Option Which
cache_by (Ok copy) which = Some which
cache_by (Err refusal) which = None

abbrev pub cache_of : InCache Filled → Option Which
cache_of found = cache_by found.copy found.which

-- a leader settles with what a cache had of the call that its own follows, and it goes there
pub record TakenOver (p : Spot) (f : FlightValue Filled) (v : Filled) (which : Option Which) : Type 0 where
  pub found : InCache Filled
  pub follows : CopiesFollowed f found.copy
  pub value : v ≡ taken_over p f.call found.copy
  pub goes : which ≡ cache_of found

-- one of ten draws puts a peer's value into hot
abbrev pub hot_by : ℕ → Option Which
hot_by draw = cond (nat_eq draw 0) (Some Hot) None

module _ {L : Type 0} (gives : L → ℕ → L → Type 0) where
  -- a local value goes into main, and nothing is drawn; a peer's by one draw
  abbrev pub GoesInto : Source → L → L → Option Which → Type 0
  GoesInto Local old new which = (which ≡ Some Main) × (new ≡ old)
  GoesInto Peer old new which = (draw : ℕ) × gives old draw new × (which ≡ hot_by draw)

  -- where the limit keeps nothing, it goes nowhere, and nothing is drawn
  abbrev pub GoesWithin : ℤ → Source → L → L → Option Which → Type 0
  GoesWithin limit source old new which =
      (limit ≤ℤ pos 0 → (which ≡ None) × (new ≡ old)) × (pos 0 <ℤ limit → GoesInto source old new which)

  -- so of what a run gave; and a fault goes nowhere
  abbrev pub AnswerGoesWithin : ℤ → Result (List ℕ × Source) LocalFault → L → L → Option Which → Type 0
  AnswerGoesWithin limit (Ok found) old new which = GoesWithin limit found.1 old new which
  AnswerGoesWithin limit (Err fault) old new which = (which ≡ None) × (new ≡ old)

  -- so of what the loaders gave for the run of the call
  pub record LoadsInto (path : CallId → L → LoadAnswer → L → Type 0) (limit : ℤ) (call : CallId) (old new : L) (which : Option Which) : Type 0 where
    pub outcome : LoadAnswer
    pub after : L
    pub asked : path call old outcome after
    pub goes : AnswerGoesWithin limit outcome.0 after new which

  -- so of what a leader settles with
  abbrev pub SourceGoesInto : (CallId → L → LoadAnswer → L → Type 0) → ℤ → Spot → FlightValue Filled → L → L → Filled → Option Which → Type 0
  SourceGoesInto path limit p f old new v which = LoadsInto path limit f.call old new which ⊎ TakenOver p f v which

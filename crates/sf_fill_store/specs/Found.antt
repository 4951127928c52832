-- what a get of a free caller comes to
use Rattle.std.specs.Prelude.{◌≡◌, ℕ, zero, suc, ℤ, pos, ◌≤ℤ◌, ◌<ℤ◌, ◌⊎◌, List, Result, Ok, Err}
use Rattle.sf_history.specs.declared.call.CallId.{CallId}
use Rattle.sf_group_rows.specs.declared.outcomes.Finished.{Finished}
use Rattle.sf_group_rows.specs.declared.outcomes.Finished.TheVariants.{Done, Held}
use Rattle.sf_group_rows.specs.Tokens.{CallerValue, FlightValue, SettledValue, TicketValue, LetterValue}
use Rattle.sf_group_rows.specs.Same.{HasNothing, IsSameFlight}
use Rattle.sf_group_rows.specs.Begins.{HasLed, HasJoined, IsRefusedSpent}
use Rattle.sf_group_rows.specs.Finishes.{IsDone, IsHeld, IsReady}
use Rattle.sf_group_rows.specs.Notes.{HasLent}
use Rattle.sf_fill_keys.specs.declared.spot.Spot.{Spot}
use Rattle.sf_fill_keys.specs.Spaces.{SpaceId}
use Rattle.sf_fill_keys.specs.Spots.{IsInSpace, IsOther, spot_place}
use Rattle.sf_loaders.specs.LoadPath.{LoadAnswer}
use Rattle.sf_loaders.specs.declared.counts.Source.{Source}
use Rattle.sf_loaders.specs.declared.counts.Source.TheVariants.{Peer, Local}
use Rattle.sf_loaders.specs.declared.faults.LocalFault.{LocalFault}
use Rattle.sf_fill_store.specs.declared.ask.FillAsked.{FillAsked}
use Rattle.sf_fill_store.specs.declared.ask.FillAsked.TheVariants as asked
use Rattle.sf_fill_counters.specs.declared.totals.GetCounts.{GetCounts}
use Rattle.sf_fill_counters.specs.GetCounts.{load_counts, second_look_counts}
use Rattle.sf_fill_values.specs.FillValue.{Filled, FitsFill}
use Rattle.sf_fill_values.specs.Settled.{HasOnlyLooked, IsCurrentLetter, IsFollowed}

-- what a get of a free caller comes to: a cache's letter, or one whose copy was refused memory; or what an asking comes to
pub data Found : Type 0 where
  FromCache : CallerValue Filled → LetterValue Filled → Found
  Uncopied : CallerValue Filled → Found
  Unmade : CallerValue Filled → Found
  Spent : CallerValue Filled → Found
  Joined : CallerValue Filled → LetterValue Filled → Found
  Led : Finished (CallerValue Filled) (LetterValue Filled) (SettledValue Filled) → GetCounts → Found

abbrev pub found_by : FillAsked Filled → Found
found_by (asked.Unmade c) = Unmade c
found_by (asked.Spent c) = Spent c
found_by (asked.Joined c l) = Joined c l
found_by (asked.Led finished n) = Led finished n

-- the bytes without who gave them
abbrev pub bytes_in : Result (List ℕ × Source) LocalFault → Result (List ℕ) LocalFault
bytes_in (Ok found) = Ok found.0
bytes_in (Err fault) = Err fault

-- a cache had the value, with its root, of the call that the flight's follows; or had one for which memory was refused
abbrev pub IsFromCache : Spot → FlightValue Filled → Filled → Type 0
IsFromCache p f v =
    ((l : LetterValue Filled) × IsFollowed f l × (v ≡ l.value))
    ⊎ ((l : LetterValue Filled) × IsFollowed f l × (v ≡ record { spot = p; root = f.call; result = Err LocalFault.Memory }))

-- the leader settled its call with the value; its caller and its letter's note may know more by now
abbrev pub HasSettled : FlightValue Filled → Filled → Finished (CallerValue Filled) (LetterValue Filled) (SettledValue Filled) → Type 0
HasSettled f v (Done c m) = (d : CallerValue Filled) × (l : LetterValue Filled) × IsDone FitsFill f v d l × HasNothing d c × HasLent l m
HasSettled f v (Held s) = IsHeld f v s

-- a draw, whatever it gave, where the limit keeps something, and else none
abbrev pub DrawsWithin : {L : Type 0} → ℤ → (L → ℕ → L → Type 0) → L → L → Type 0
DrawsWithin limit gives old new =
    (limit ≤ℤ pos 0 → new ≡ old) × (pos 0 <ℤ limit → (draw : ℕ) × gives old draw new)

module _ {L : Type 0} (draws : L → L → Type 0) where
  -- there are draws just where a peer gave the value
  abbrev pub DrawsFor : Source → L → L → Type 0
  DrawsFor Peer old new = draws old new
  DrawsFor Local old new = new ≡ old

  abbrev pub HasDrawn : Result (List ℕ × Source) LocalFault → L → L → Type 0
  HasDrawn (Ok found) old new = DrawsFor found.1 old new
  HasDrawn (Err fault) old new = new ≡ old

module _ {L : Type 0} (path : CallId → L → LoadAnswer → L → Type 0) (draws : L → L → Type 0) where
  -- the loaders gave the value for the run of the call, and then there were draws where a peer gave it
  pub record IsLoaded (p : Spot) (call : CallId) (old new : L) (v : Filled) (n : GetCounts) : Type 0 where
    pub outcome : LoadAnswer
    pub after : L
    pub asked : path call old outcome after
    pub value : v ≡ record { spot = p; root = call; result = bytes_in outcome.0 }
    pub counts : n ≡ load_counts outcome.1
    pub drawn : HasDrawn draws outcome.0 after new

  -- a cache had it, and no loader was asked
  pub record IsSecondLook (p : Spot) (f : FlightValue Filled) (old new : L) (v : Filled) (n : GetCounts) : Type 0 where
    pub value : IsFromCache p f v
    pub counts : n ≡ second_look_counts
    pub unasked : new ≡ old

  abbrev pub IsSource : Spot → FlightValue Filled → L → L → Filled → GetCounts → Type 0
  IsSource p f old new v n = IsLoaded p f.call old new v n ⊎ IsSecondLook p f old new v n

  -- the leader of the call may have learnt what a cached letter shows, and settled the call with a value of that source
  pub record HasRunFrom (p : Spot) (flight : FlightValue Filled) (old new : L) (finished : Finished (CallerValue Filled) (LetterValue Filled) (SettledValue Filled)) (n : GetCounts) : Type 0 where
    pub ready : FlightValue Filled
    pub value : Filled
    pub learnt : IsSameFlight flight ready
    pub source : IsSource p flight old new value n
    pub settled : HasSettled ready value finished

  -- the caller led the place's next call, and ran it so
  pub record HasRun (p : Spot) (c : CallerValue Filled) (old new : L) (finished : Finished (CallerValue Filled) (LetterValue Filled) (SettledValue Filled)) (n : GetCounts) : Type 0 where
    pub flight : FlightValue Filled
    pub led : HasLed c (spot_place p) flight
    pub run : HasRunFrom p flight old new finished n

-- a letter where all are handed out
abbrev pub IfDone : (LetterValue Filled → Type 0) → Finished (CallerValue Filled) (LetterValue Filled) (SettledValue Filled) → Type 0
IfDone holds (Done c l) = holds l
IfDone holds (Held s) = Unit {0}

-- an asking that joined the call of another key of the place, and waited for its letter
pub record IsMiss (s : SpaceId) (key : List ℕ) (k : ℕ) (c d : CallerValue Filled) : Type 0 where
  pub ticket : TicketValue Filled
  pub letter : LetterValue Filled
  pub joined : HasJoined c k ticket
  pub ready : IsReady FitsFill ticket d letter
  pub space : IsInSpace s letter.value.spot
  pub other : IsOther letter.value.spot key

-- so many of these in turn; a directory has none
abbrev pub HasMissed : SpaceId → List ℕ → ℕ → ℕ → CallerValue Filled → CallerValue Filled → Type 0
HasMissed s key k zero c d = d ≡ c
HasMissed s key k (suc n) c d = (u : CallerValue Filled) × HasMissed s key k n c u × IsMiss s key k u d

-- after any number of these
abbrev pub AfterMisses : SpaceId → List ℕ → ℕ → CallerValue Filled → (CallerValue Filled → Type 0) → Type 0
AfterMisses s key k c then = (n : ℕ) × (u : CallerValue Filled) × HasMissed s key k n c u × then u

module _ (s : SpaceId) (key : List ℕ) {L : Type 0} (path : CallId → L → LoadAnswer → L → Type 0) (draws : L → L → Type 0) where
  -- a cache had a current letter; memory for the key was refused; a joiner has the open call's letter; who has no generation left
  -- did nothing more
  abbrev pub HasFoundFrom : Spot → CallerValue Filled → L → L → Found → Type 0
  HasFoundFrom p c old new (FromCache d m) = (new ≡ old) × ((l : LetterValue Filled) × IsCurrentLetter c (spot_place p) l d × HasLent l m)
  HasFoundFrom p c old new (Uncopied d) = (new ≡ old) × ((l : LetterValue Filled) × IsCurrentLetter c (spot_place p) l d)
  HasFoundFrom p c old new (Unmade d) = (d ≡ c) × (new ≡ old)
  HasFoundFrom p c old new (Spent d) = AfterMisses s key (spot_place p) c (λ u. IsRefusedSpent u d × (new ≡ old))
  HasFoundFrom p c old new (Joined d l) = AfterMisses s key (spot_place p) c (λ u. (new ≡ old) × ((t : TicketValue Filled) × HasJoined u (spot_place p) t × IsReady FitsFill t d l))
  HasFoundFrom p c old new (Led finished n) = AfterMisses s key (spot_place p) c (λ u. HasRun path draws p u old new finished n)

  -- the same once the caller has looked for letters, by which it may have seen more
  abbrev pub HasFound : Spot → CallerValue Filled → L → L → Found → Type 0
  HasFound p c old new found = (u : CallerValue Filled) × HasOnlyLooked c u × HasFoundFrom p u old new found

-- how calls end by which letters come: finish, go_on and poll
use Rattle.std.specs.Prelude.{◌≡◌, ◌≢◌, ◌≤◌, ℕ, ◌⊎◌, false, [], ◌∷◌, Some, None}
use Rattle.sf_history.specs.declared.call.CallId.{CallId}
use Rattle.sf_history.specs.declared.event.Event.TheVariants as event
use Rattle.sf_history.specs.History.{is_handed}
use Rattle.sf_group_rows.specs.declared.outcomes.Finished.{Finished}
use Rattle.sf_group_rows.specs.declared.outcomes.Finished.TheVariants.{Done, Held}
use Rattle.sf_group_rows.specs.declared.outcomes.Polled.{Polled}
use Rattle.sf_group_rows.specs.declared.outcomes.Polled.TheVariants.{Ready, Pending}
use Rattle.sf_group_rows.specs.Tokens.{GroupValue, CallerValue, FlightValue, SettledValue, TicketValue, LetterValue}
use Rattle.sf_group_rows.specs.Seen.{StartsWith, Stands, Adds}
use Rattle.sf_group_rows.specs.Fitting.{FitOf}

module _ {V : Type 0} where
  -- the letter is this one, and the list that its note shows has the call's Settle
  pub record IsLetter (g : GroupValue) (k : ℕ) (c : CallId) (v : V) (joiners : ℕ) (l : LetterValue V) : Type 0 where
    pub group : l.group ≡ g
    pub place : l.place ≡ k
    pub call : l.call ≡ c
    pub value : l.value ≡ v
    pub count : l.joiners ≡ joiners
    pub settled : Stands (event.Settle c.caller c v joiners) l.seen

  -- the value fits with what the letter's note shows
  abbrev pub FitsLetter : FitOf V → LetterValue V → Type 0
  FitsLetter fits l = fits l.place l.call l.value l.seen

  -- the leader settled its call with the value, and handed all letters out
  pub record IsDone (fits : FitOf V) (f : FlightValue V) (v : V) (c : CallerValue V) (l : LetterValue V) : Type 0 where
    pub group : c.group ≡ f.group
    pub number : c.number ≡ f.number
    pub adds : Adds f.group f.number f.seen c.seen (event.Settle f.number f.call v l.joiners ∷ event.Handed f.number f.call ∷ []) 0
    pub letter : IsLetter f.group f.place f.call v l.joiners l
    pub shows : StartsWith c.seen l.seen
    pub fitting : FitsLetter fits l

  -- the leader settled its call with the value, and owes letters, as somebody joined or the call has an own channel
  pub record IsHeld (f : FlightValue V) (v : V) (s : SettledValue V) : Type 0 where
    pub group : s.group ≡ f.group
    pub number : s.number ≡ f.number
    pub place : s.place ≡ f.place
    pub call : s.call ≡ f.call
    pub value : s.value ≡ Some v
    pub adds : Adds f.group f.number f.seen s.seen (event.Settle f.number f.call v s.joiners ∷ []) 0
    pub owed : (1 ≤ s.joiners) ⊎ (f.own ≢ None)

  -- how a finish ends, where values fit so
  abbrev pub HasFinished : FitOf V → FlightValue V → V → Finished (CallerValue V) (LetterValue V) (SettledValue V) → Type 0
  HasFinished fits f v (Done c l) = IsDone fits f v c l
  HasFinished fits f v (Held s) = IsHeld f v s

  -- the leader handed the letters out that it owed
  pub record IsDoneAtLast (fits : FitOf V) (s : SettledValue V) (c : CallerValue V) (l : LetterValue V) : Type 0 where
    pub group : c.group ≡ s.group
    pub number : c.number ≡ s.number
    pub value : s.value ≡ Some l.value
    pub adds : Adds s.group s.number s.seen c.seen (event.Handed s.number s.call ∷ []) 0
    pub letter : IsLetter s.group s.place s.call l.value s.joiners l
    pub shows : StartsWith c.seen l.seen
    pub fitting : FitsLetter fits l

  -- the leader owes letters still
  pub record IsHeldStill (s t : SettledValue V) : Type 0 where
    pub group : t.group ≡ s.group
    pub number : t.number ≡ s.number
    pub place : t.place ≡ s.place
    pub call : t.call ≡ s.call
    pub value : t.value ≡ s.value
    pub count : t.joiners ≡ s.joiners
    pub adds : Adds s.group s.number s.seen t.seen [] 0

  -- how an unfinished delivery goes on
  abbrev pub HasGoneOn : FitOf V → SettledValue V → Finished (CallerValue V) (LetterValue V) (SettledValue V) → Type 0
  HasGoneOn fits s (Done c l) = IsDoneAtLast fits s c l
  HasGoneOn fits s (Held t) = IsHeldStill s t

  -- the caller has the letter that its ticket waited for
  pub record IsReady (fits : FitOf V) (t : TicketValue V) (c : CallerValue V) (l : LetterValue V) : Type 0 where
    pub group : c.group ≡ t.group
    pub number : c.number ≡ t.number
    pub adds : Adds t.group t.number t.seen c.seen [] 0
    pub letter : IsLetter t.group t.place t.call l.value l.joiners l
    pub shows : StartsWith c.seen l.seen
    pub fitting : FitsLetter fits l

  -- the call's letters are not handed out yet
  pub record IsPending (t u : TicketValue V) : Type 0 where
    pub group : u.group ≡ t.group
    pub number : u.number ≡ t.number
    pub place : u.place ≡ t.place
    pub call : u.call ≡ t.call
    pub member : u.member ≡ t.member
    pub adds : Adds t.group t.number t.seen u.seen [] 0
    pub unhanded : is_handed u.seen t.call ≡ false

  -- how a poll ends
  abbrev pub HasPolled : FitOf V → TicketValue V → Polled (CallerValue V) (LetterValue V) (TicketValue V) → Type 0
  HasPolled fits t (Ready c l) = IsReady fits t c l
  HasPolled fits t (Pending u) = IsPending t u

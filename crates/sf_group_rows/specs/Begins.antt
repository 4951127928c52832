-- how askings end: begin and begin_chan, and their refusals
use Rattle.std.specs.Prelude.{◌≡◌, ℕ, ◌⊎◌, [], ◌∷◌, Some, None}
use Rattle.sf_history.specs.declared.event.Event.TheVariants as event
use Rattle.sf_group_rows.specs.declared.outcomes.Begun.{Begun}
use Rattle.sf_group_rows.specs.declared.outcomes.Begun.TheVariants.{Lead, Join}
use Rattle.sf_group_rows.specs.declared.outcomes.ChanBegun.{ChanBegun}
use Rattle.sf_group_rows.specs.declared.outcomes.ChanBegun.TheVariants.{Led, Joined}
use Rattle.sf_group_rows.specs.Tokens.{CallerValue, FlightValue, TicketValue}
use Rattle.sf_group_rows.specs.Seen.{StartsWith, Stands, Adds}
use Rattle.sf_group_rows.specs.Same.{IsUnspent, IsSpent, call_of, HasNothing}

module _ {V : Type 0} where
  -- the caller leads a new call of the place
  pub record HasLed (c : CallerValue V) (k : ℕ) (f : FlightValue V) : Type 0 where
    pub unspent : IsUnspent c
    pub group : f.group ≡ c.group
    pub number : f.number ≡ c.number
    pub place : f.place ≡ k
    pub call : f.call ≡ call_of c
    pub own : f.own ≡ None
    pub adds : Adds c.group c.number c.seen f.seen (event.Lead c.number k (call_of c) None ∷ []) 1

  -- the caller waits for the letter of the place's open call, as a new member of it
  pub record HasJoined (c : CallerValue V) (k : ℕ) (t : TicketValue V) : Type 0 where
    pub unspent : IsUnspent c
    pub group : t.group ≡ c.group
    pub number : t.number ≡ c.number
    pub place : t.place ≡ k
    pub member : t.member ≡ call_of c
    pub adds : Adds c.group c.number c.seen t.seen (event.Enter c.number k t.call (call_of c) ∷ []) 1

  -- how an asking ends
  abbrev pub HasBegun : CallerValue V → ℕ → Begun (FlightValue V) (TicketValue V) → Type 0
  HasBegun c k (Lead f) = HasLed c k f
  HasBegun c k (Join t) = HasJoined c k t

  -- the first leads a new call, of which the second holds the own channel; both have then seen what either had
  pub record HasLedChan (a b : CallerValue V) (k : ℕ) (f : FlightValue V) (t : TicketValue V) : Type 0 where
    pub unspent : IsUnspent a
    pub second_unspent : IsUnspent b
    pub group : f.group ≡ a.group
    pub number : f.number ≡ a.number
    pub place : f.place ≡ k
    pub call : f.call ≡ call_of a
    pub own : f.own ≡ Some (call_of b)
    pub second_group : t.group ≡ b.group
    pub second_number : t.number ≡ b.number
    pub second_place : t.place ≡ k
    pub second_call : t.call ≡ f.call
    pub member : t.member ≡ call_of b
    pub adds : Adds a.group a.number a.seen f.seen (event.Lead a.number k (call_of a) (Some (call_of b)) ∷ []) 1
    pub second_adds : Adds b.group b.number b.seen t.seen [] 1
    pub stands : Stands (event.Lead a.number k (call_of a) (Some (call_of b))) t.seen
    pub begins : StartsWith f.seen b.seen
    pub second_begins : StartsWith t.seen a.seen

  -- the second waits for the letter of the place's open call, and the first stays free; both have then seen what either had
  pub record HasJoinedChan (a b : CallerValue V) (k : ℕ) (t : TicketValue V) (d : CallerValue V) : Type 0 where
    pub unspent : IsUnspent a
    pub second_unspent : IsUnspent b
    pub group : d.group ≡ a.group
    pub number : d.number ≡ a.number
    pub second_group : t.group ≡ b.group
    pub second_number : t.number ≡ b.number
    pub second_place : t.place ≡ k
    pub member : t.member ≡ call_of b
    pub adds : Adds a.group a.number a.seen d.seen [] 0
    pub second_adds : Adds b.group b.number b.seen t.seen (event.Enter b.number k t.call (call_of b) ∷ []) 1
    pub stands : Stands (event.Enter b.number k t.call (call_of b)) d.seen
    pub begins : StartsWith d.seen b.seen
    pub second_begins : StartsWith t.seen a.seen

  -- how an asking with a second caller ends
  abbrev pub HasChanBegun : CallerValue V → CallerValue V → ℕ → ChanBegun (FlightValue V) (TicketValue V) (CallerValue V) → Type 0
  HasChanBegun a b k (Led f t) = HasLedChan a b k f t
  HasChanBegun a b k (Joined t d) = HasJoinedChan a b k t d

  -- refused as spent: the caller has no generation left, and comes back as it was
  pub record IsRefusedSpent (c d : CallerValue V) : Type 0 where
    pub spent : IsSpent c
    pub same : d ≡ c
    pub nothing : HasNothing c d

  -- the same of two, of which one has no generation left
  pub record AreRefusedSpent (a b c d : CallerValue V) : Type 0 where
    pub spent : IsSpent a ⊎ IsSpent b
    pub same : c ≡ a
    pub second_same : d ≡ b
    pub nothing : HasNothing a c
    pub second_nothing : HasNothing b d

  -- Refused as busy after so many tries, of which n failed: the caller has a generation left, and made nothing. A group
  -- with such calls says besides whose changes each failure was.
  pub record IsRefusedBusy (c : CallerValue V) (tries n : ℕ) (d : CallerValue V) : Type 0 where
    pub unspent : IsUnspent c
    pub nothing : HasNothing c d
    pub failed : n ≡ tries

  -- the same of two, which have then seen what either had
  pub record AreRefusedBusy (a b : CallerValue V) (tries n : ℕ) (c d : CallerValue V) : Type 0 where
    pub unspent : IsUnspent a
    pub second_unspent : IsUnspent b
    pub nothing : HasNothing a c
    pub second_nothing : HasNothing b d
    pub begins : StartsWith c.seen b.seen
    pub second_begins : StartsWith d.seen a.seen
    pub failed : n ≡ tries

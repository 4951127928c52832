-- callers, flights and tickets that stay what they are, while they may see more
use Rattle.std.specs.Prelude.{◌≡◌, ℕ, ◌<◌, ◌≤◌, []}
use Rattle.sf_history.specs.declared.call.CallId.{CallId}
use Rattle.sf_group_rows.specs.declared.limits.TheConstants.{GREATEST_GENERATION}
use Rattle.sf_group_rows.specs.Tokens.{GroupValue, CallerValue, FlightValue, TicketValue}
use Rattle.sf_group_rows.specs.Seen.{next_of, next_call, Grows, Adds}

abbrev pub IsPlaceOf : GroupValue → ℕ → Type 0
IsPlaceOf g k = (0 < k) × (k ≤ g.sizes.places)

module _ {V : Type 0} where
  -- the caller has a generation left, or has not
  abbrev pub IsUnspent : CallerValue V → Type 0
  IsUnspent c = next_of c.group c.number c.seen ≤ GREATEST_GENERATION

  abbrev pub IsSpent : CallerValue V → Type 0
  IsSpent c = GREATEST_GENERATION < next_of c.group c.number c.seen

  -- the call that the caller leads next, or the member that it is next
  abbrev pub call_of : CallerValue V → CallId
  call_of c = next_call c.group c.number c.seen

  -- the same caller, which made nothing; it may have seen more
  pub record HasNothing (c d : CallerValue V) : Type 0 where
    pub group : d.group ≡ c.group
    pub number : d.number ≡ c.number
    pub adds : Adds c.group c.number c.seen d.seen [] 0

  -- the same of a caller that made no step, too
  pub record IsStill (c d : CallerValue V) : Type 0 where
    pub group : d.group ≡ c.group
    pub number : d.number ≡ c.number
    pub grows : Grows c.group c.number c.seen d.seen [] 0

  -- the same flight, whose leader may have seen more
  pub record IsSameFlight (f h : FlightValue V) : Type 0 where
    pub group : h.group ≡ f.group
    pub number : h.number ≡ f.number
    pub place : h.place ≡ f.place
    pub call : h.call ≡ f.call
    pub own : h.own ≡ f.own
    pub adds : Adds f.group f.number f.seen h.seen [] 0

  -- the same ticket, whose holder may have seen more
  pub record IsStillTicket (t u : TicketValue V) : Type 0 where
    pub group : u.group ≡ t.group
    pub number : u.number ≡ t.number
    pub place : u.place ≡ t.place
    pub call : u.call ≡ t.call
    pub member : u.member ≡ t.member
    pub grows : Grows t.group t.number t.seen u.seen [] 0

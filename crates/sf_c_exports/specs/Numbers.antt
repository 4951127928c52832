-- The number that an export answers for each end of a call, and what it writes.
use Rattle.std.specs.Prelude.{ℕ, ◌≡◌, List, ◌<◌, ◌≤◌, ◌%◌, ◌/◌}
use Rattle.sf_keyed.specs.declared.group.Audience.{Audience}
use Rattle.sf_keyed.specs.declared.group.Ended.{Ended}
use Rattle.sf_keyed.specs.declared.group.Ended.TheVariants as ended
use Rattle.sf_keyed_chain.specs.Went.{HasForgotten, HasForgottenCall}
use Rattle.sf_keyed_chain.specs.declared.chain.Forgotten.{Forgotten}
use Rattle.sf_keyed_chain.specs.declared.chain.Forgotten.TheVariants as forgotten
use Rattle.sf_keyed_chain.specs.declared.chain.Stamp.{Stamp}
use Rattle.sf_c_calls.specs.Rows.{AskingState, HasAnswered, HasLeftCall, HasLookedAt, HasSettledCall, IsNameOf, SessionState, call_of}
use Rattle.sf_c_calls.specs.declared.session.Id.{Id}
use Rattle.sf_c_calls.specs.declared.session.Answered.{Answered}
use Rattle.sf_c_calls.specs.declared.session.Answered.TheVariants as answered
use Rattle.sf_c_calls.specs.declared.session.Settling.{Settling}
use Rattle.sf_c_calls.specs.declared.session.Settling.TheVariants as settling
use Rattle.sf_c_calls.specs.declared.session.Looking.{Looking}
use Rattle.sf_c_calls.specs.declared.session.Looking.TheVariants as looking
use Rattle.sf_c_calls.specs.declared.session.Leaving.{Leaving}
use Rattle.sf_c_calls.specs.declared.session.Leaving.TheVariants as leaving
use Rattle.sf_c_exports.specs.declared.codes.TheConstants.{DONE, LED, JOINED, ALONE, TOLD, LAST, PENDING, NOTHING, CLEARED, FULL, CROWDED, BUSY, WRONG_STATE}

-- the number of cells that a first table may have
abbrev pub IsSize : ℕ → Type 0
IsSize cells = (0 < cells) × (cells ≤ 1048576)

-- an asking: its number, and the name and stamp that are written where the key's call is led or joined
abbrev pub Answers : Answered → ℕ → Id → Id → Stamp → Stamp → Type 0
Answers (answered.Led id stamp) n i j p q = (n ≡ LED) × (j ≡ id) × (q ≡ stamp)
Answers (answered.Joined id) n i j p q = (n ≡ JOINED) × (j ≡ id) × (q ≡ p)
Answers answered.Full n i j p q = (n ≡ FULL) × (j ≡ i) × (q ≡ p)
Answers answered.Crowded n i j p q = (n ≡ CROWDED) × (j ≡ i) × (q ≡ p)
Answers answered.Busy n i j p q = (n ≡ BUSY) × (j ≡ i) × (q ≡ p)
Answers answered.Wrong n i j p q = (n ≡ WRONG_STATE) × (j ≡ i) × (q ≡ p)

pub record HasAsked (s t : SessionState) (a b : AskingState) (key : List ℕ) (tries n : ℕ) (i j : Id) (p q : Stamp) : Type 0 where
  pub name : ℕ
  pub name_is : IsNameOf s.names key name
  pub ends : Answered
  pub answered : HasAnswered s t name tries a.token b.token ends
  pub number : Answers ends n i j p q

abbrev pub Settles : Settling → ℕ → Audience → Audience → Type 0
Settles settling.Alone n x y = (n ≡ ALONE) × (y ≡ x)
Settles (settling.Told on) n x y = (n ≡ TOLD) × (y ≡ on)
Settles settling.Wrong n x y = (n ≡ WRONG_STATE) × (y ≡ x)

pub record HasSettled (s t : SessionState) (a b : AskingState) (value n : ℕ) (x y : Audience) : Type 0 where
  pub ends : Settling
  pub settled : HasSettledCall s t value a.token b.token ends
  pub number : Settles ends n x y

abbrev pub Looks : Looking → ℕ → ℕ → ℕ → Type 0
Looks (looking.Settled value) n x y = (n ≡ DONE) × (y ≡ value)
Looks looking.Pending n x y = (n ≡ PENDING) × (y ≡ x)
Looks looking.Wrong n x y = (n ≡ WRONG_STATE) × (y ≡ x)

pub record HasLooked (s t : SessionState) (a : AskingState) (n x y : ℕ) : Type 0 where
  pub ends : Looking
  pub looked : HasLookedAt s t a.token ends
  pub number : Looks ends n x y

abbrev pub Leaves : Leaving → ℕ → ℕ → ℕ → Type 0
Leaves (leaving.Last value) n x y = (n ≡ LAST) × (y ≡ value)
Leaves leaving.Left n x y = (n ≡ DONE) × (y ≡ x)
Leaves leaving.Wrong n x y = (n ≡ WRONG_STATE) × (y ≡ x)

pub record HasLeft (s t : SessionState) (a b : AskingState) (n x y : ℕ) : Type 0 where
  pub ends : Leaving
  pub left : HasLeftCall s t a.token b.token ends
  pub number : Leaves ends n x y

-- a Forget: its number, and the name that is written of the call which it closed
abbrev pub Forgets : Forgotten → ℕ → Id → Id → Type 0
Forgets (forgotten.Closed table call) n i j = (n ≡ DONE) × (j ≡ record { table = table % 4294967296; cell = call % 1048576; generation = call / 1048576 })
Forgets (forgotten.Nothing table) n i j = (n ≡ NOTHING) × (j ≡ i)
Forgets forgotten.Behind n i j = (n ≡ BUSY) × (j ≡ i)
Forgets forgotten.Busy n i j = (n ≡ BUSY) × (j ≡ i)

pub record HasForgot (s t : SessionState) (key : List ℕ) (tries n : ℕ) (i j : Id) : Type 0 where
  pub name : ℕ
  pub name_is : IsNameOf s.names key name
  pub ends : Forgotten
  pub forgotten : HasForgotten name tries s.sights t.sights ends
  pub number : Forgets ends n i j

abbrev pub Ends : Ended → ℕ → Type 0
Ends ended.Closed n = n ≡ DONE
Ends ended.Gone n = n ≡ CLEARED
Ends ended.Busy n = n ≡ BUSY

pub record HasForgotCall (s t : SessionState) (key : List ℕ) (id : Id) (stamp : Stamp) (tries n : ℕ) : Type 0 where
  pub name : ℕ
  pub name_is : IsNameOf s.names key name
  pub ends : Ended
  pub forgotten : HasForgottenCall name (call_of id) stamp tries s.sights t.sights ends
  pub number : Ends ends n

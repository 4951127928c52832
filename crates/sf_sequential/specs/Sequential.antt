-- the sequential group: what each command replies and adds
use Rattle.std.specs.Prelude.{◌≡◌, ℕ, ◌<◌, ◌≤◌, ◌==◌, Bool, true, false, ◌||◌, not, [], ◌∷◌, if◌then◌else◌, Option, Some, None, Result, Ok, Err}
use Rattle.sf_history.specs.declared.call.CallId.{CallId}
use Rattle.sf_history.specs.declared.event.Event.TheVariants.{Lead, Enter, Forget, ForgetCall, Settle, Handed}
use Rattle.sf_history.specs.declared.event.Hit.{Hit}
use Rattle.sf_history.specs.declared.event.Hit.TheVariants.{Closed, Cleared, Missed}
use Rattle.sf_sequential.specs.declared.refusal.ModelRefusal.{ModelRefusal}
use Rattle.sf_sequential.specs.declared.refusal.ModelRefusal.TheVariants.{NotFree, NotLeading, NothingAsked, Spent, Memory}
use Rattle.sf_sequential.specs.declared.command.Asked.{Asked}
use Rattle.sf_sequential.specs.declared.command.Asked.TheVariants as asked
use Rattle.sf_sequential.specs.declared.command.ChanAsked.{ChanAsked}
use Rattle.sf_sequential.specs.declared.command.ChanAsked.TheVariants as chan_asked
use Rattle.sf_history.specs.declared.event.Forgotten.{Forgotten}
use Rattle.sf_history.specs.declared.event.Forgotten.TheVariants as forgotten
use Rattle.sf_sequential.specs.declared.command.Taken.{Taken}
use Rattle.sf_sequential.specs.declared.command.Taken.TheVariants as taken
use Rattle.sf_sequential.specs.declared.command.Command.{Command}
use Rattle.sf_sequential.specs.declared.command.Command.TheVariants as command
use Rattle.sf_sequential.specs.declared.ticket.Ticket.{Ticket}
use Rattle.sf_history.specs.History.{holds_call, open_call, current_call, joined, is_handed, answer_of}
use Rattle.sf_sequential.specs.State.{GroupState, is_free, is_spent, next_id, led_call, held_ticket, with_events, with_taken}

-- the letter of a call that has this answer
abbrev pub letter_of : {V : Type 0} → CallId → Option (V × ℕ) → Taken V
letter_of c None = taken.Pending c
letter_of c (Some answer) = taken.Got c answer.0 answer.1

abbrev pub forgotten_as : Option CallId → Forgotten
forgotten_as None = forgotten.Idle
forgotten_as (Some c) = forgotten.Closed c

-- what a Forget of one call finds: it open, else current, else neither
abbrev pub found_as : Bool → Bool → Hit
found_as true is_current = Closed
found_as false true = Cleared
found_as false false = Missed

abbrev pub hit_of : Option CallId → Option CallId → CallId → Hit
hit_of opened current c = found_as (holds_call opened c) (holds_call current c)

-- a reply of the group, with the state that the call leaves
abbrev pub replied : {A B S : Type 0} → (A → B) → Result (A × S) ModelRefusal → Result (B × S) ModelRefusal
replied f (Ok r) = Ok (f r.0, r.1)
replied f (Err e) = Err e

-- what an error may be: the call's refusal, or want of memory where it would be obeyed
abbrev pub IsRefusal : {R : Type 0} → Result R ModelRefusal → ModelRefusal → Type 0
IsRefusal (Ok r) e = e ≡ Memory
IsRefusal (Err f) e = e ≡ f

module _ {K V : Type 0} where
  -- an asking that is not refused leads where the key has no open call, and else enters the open one
  abbrev pub asks : GroupState K V → ℕ → K → Option CallId → Asked × GroupState K V
  asks g a k None = (asked.Lead (next_id g a), with_events g (Lead a k (next_id g a) None ∷ []))
  asks g a k (Some c) = (asked.Join c, with_events g (Enter a k c (next_id g a) ∷ []))

  abbrev pub ask_of : (K → K → Bool) → GroupState K V → ℕ → K → Result (Asked × GroupState K V) ModelRefusal
  ask_of eq g a k =
      if is_free g a then (if is_spent g a then Err (Spent a) else Ok (asks g a k (open_call eq g.history k)))
      else Err (NotFree a)

  -- with a channel the second is the own channel of a new call, or enters the open one; then the caller stays free
  abbrev pub asks_chan : GroupState K V → ℕ → ℕ → K → Option CallId → ChanAsked × GroupState K V
  asks_chan g a b k None = (chan_asked.Led (next_id g a) (next_id g b), with_events g (Lead a k (next_id g a) (Some (next_id g b)) ∷ []))
  asks_chan g a b k (Some c) = (chan_asked.Joined c, with_events g (Enter b k c (next_id g b) ∷ []))

  -- the two may ask with a channel: other callers, each free and not spent
  pub record MayAskChan (g : GroupState K V) (a b : ℕ) : Type 0 where
    pub free : is_free g a ≡ true
    pub second : ((b == a) || not (is_free g b)) ≡ false
    pub unspent : is_spent g a ≡ false
    pub second_unspent : is_spent g b ≡ false

  -- refused: the caller not free, its second not free or the caller itself, the caller spent, its second spent
  abbrev pub ask_chan_of : (K → K → Bool) → GroupState K V → ℕ → ℕ → K → Result (ChanAsked × GroupState K V) ModelRefusal
  ask_chan_of eq g a b k =
      if is_free g a then
      (if (b == a) || not (is_free g b) then Err (NotFree b)
      else (if is_spent g a then Err (Spent a)
      else (if is_spent g b then Err (Spent b)
      else Ok (asks_chan g a b k (open_call eq g.history k)))))
      else Err (NotFree a)

  -- the leader settles its call with the number of those who joined it, and hands out all its letters
  abbrev pub settles_call : GroupState K V → ℕ → V → Option CallId → Result ((CallId × ℕ) × GroupState K V) ModelRefusal
  settles_call g a v None = Err (NotLeading a)
  settles_call g a v (Some c) = Ok ((c, joined g.history c), with_events g (Settle a c v (joined g.history c) ∷ Handed a c ∷ []))

  abbrev pub settle_of : GroupState K V → ℕ → V → Result ((CallId × ℕ) × GroupState K V) ModelRefusal
  settle_of g a v = settles_call g a v (led_call g.history a)

  -- a Forget closes the key's open call, if it has one
  abbrev pub forget_of : (K → K → Bool) → GroupState K V → ℕ → K → Result (Forgotten × GroupState K V) ModelRefusal
  forget_of eq g a k =
      if is_free g a then Ok (forgotten_as (open_call eq g.history k), with_events g (Forget a k (open_call eq g.history k) ∷ []))
      else Err (NotFree a)

  -- a Forget of one call closes it where it is the key's open one, and else ends it where it is the current one
  abbrev pub forget_call_of : (K → K → Bool) → GroupState K V → ℕ → K → CallId → Result (Hit × GroupState K V) ModelRefusal
  forget_call_of eq g a k c =
      if is_free g a then Ok (hit_of (open_call eq g.history k) (current_call eq g.history k) c, with_events g (ForgetCall a k c (hit_of (open_call eq g.history k) (current_call eq g.history k) c) ∷ []))
      else Err (NotFree a)

  -- the ticket's letter is taken where it has been handed out
  abbrev pub takes : GroupState K V → ℕ → Option Ticket → Result (Taken V × GroupState K V) ModelRefusal
  takes g a None = Err (NothingAsked a)
  takes g a (Some t) =
      if is_handed g.history t.call then Ok (letter_of t.call (answer_of g.history t.call), with_taken g t.member)
      else Ok (taken.Pending t.call, g)

  abbrev pub take_of : GroupState K V → ℕ → Result (Taken V × GroupState K V) ModelRefusal
  take_of g a = takes g a (held_ticket g a)

  -- whether the call is the key's current one
  abbrev pub is_current_of : (K → K → Bool) → GroupState K V → K → CallId → Bool
  is_current_of eq g k c = holds_call (current_call eq g.history k) c

  -- the callers that the command names are among so many
  abbrev pub IsCommandOf : ℕ → Command K V → Type 0
  IsCommandOf callers (command.Ask a k) = (0 < a) × (a ≤ callers)
  IsCommandOf callers (command.AskChan a b k) = ((0 < a) × (a ≤ callers)) × ((0 < b) × (b ≤ callers))
  IsCommandOf callers (command.Settle a v) = (0 < a) × (a ≤ callers)
  IsCommandOf callers (command.Forget a k) = (0 < a) × (a ≤ callers)
  IsCommandOf callers (command.ForgetCall a k c) = (0 < a) × (a ≤ callers)
  IsCommandOf callers (command.Take a) = (0 < a) × (a ≤ callers)
  IsCommandOf callers (command.IsCurrent k c) = Unit {0}

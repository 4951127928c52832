-- what calls over words say beside the table of calls: whose changes each failed try was, and how often a call tried
use Rattle.std.specs.Prelude.{◌≡◌, ◌≤◌, ◌+◌, ℕ, List, ◌++◌, None}
use Rattle.sf_group_rows.specs.declared.outcomes.NotBegun.{NotBegun}
use Rattle.sf_group_rows.specs.declared.outcomes.NotBegun.TheVariants.{Busy, Spent}
use Rattle.sf_group_rows.specs.declared.outcomes.Begun.{Begun}
use Rattle.sf_group_rows.specs.declared.outcomes.Begun.TheVariants.{Lead, Join}
use Rattle.sf_group_rows.specs.declared.outcomes.ChanBegun.{ChanBegun}
use Rattle.sf_group_rows.specs.declared.outcomes.ChanBegun.TheVariants.{Led, Joined}
use Rattle.sf_group_rows.specs.declared.outcomes.Finished.{Finished}
use Rattle.sf_group_rows.specs.declared.outcomes.Finished.TheVariants.{Done, Held}
use Rattle.sf_group_rows.specs.Tokens.{CallerValue, FlightValue, SettledValue, TicketValue, LetterValue}
use Rattle.sf_group_rows.specs.Same.{HasNothing}
use Rattle.sf_group_rows.specs.Begins.{IsRefusedSpent, AreRefusedSpent, IsRefusedBusy, AreRefusedBusy}
use Rattle.sf_steps_laws.specs.declared.turn.Turn.{Turn}
use Rattle.sf_steps_laws.specs.Closes.{closes}
use Rattle.sf_steps_laws.specs.Schedules.{IsSchedule}
use Rattle.sf_group_steps.specs.View.{setting_of, world_of}
use Rattle.sf_group_steps.specs.Changes.{HasChanged}
use Rattle.sf_group_steps.specs.Exchanges.{TriesAtMost, TriesJust}
use Rattle.sf_group_chans.specs.Changes.{HaveChanged}

module _ {V : Type 0} where
  -- beyond what the caller knew it knows so many turns of others that changed the place's key word, or a call word that it tried
  abbrev pub HasSeenChanges : CallerValue V → ℕ → ℕ → CallerValue V → Type 0
  HasSeenChanges c k n d = HasChanged c.group.sizes c.number k n c.turns d.turns

  -- beyond what the caller knew, so many turns are exchanges of it; or at most so many
  abbrev pub HasTriedJust : CallerValue V → ℕ → List (Turn V) → Type 0
  HasTriedJust c n turns = TriesJust c.group.sizes c.number n c.turns turns

  abbrev pub HasTriedAtMost : CallerValue V → ℕ → List (Turn V) → Type 0
  HasTriedAtMost c n turns = TriesAtMost c.group.sizes c.number n c.turns turns

  -- how often an asking tried that was not refused
  abbrev pub HasTriedToBegin : CallerValue V → ℕ → Begun (FlightValue V) (TicketValue V) → Type 0
  HasTriedToBegin c tries (Lead f) = HasTriedAtMost c tries f.turns
  HasTriedToBegin c tries (Join t) = HasTriedAtMost c tries t.turns

  -- the same of an asking with a second, which makes no exchange
  abbrev pub HaveTriedToBegin : CallerValue V → CallerValue V → ℕ → ChanBegun (FlightValue V) (TicketValue V) (CallerValue V) → Type 0
  HaveTriedToBegin a b tries (Led f t) = HasTriedAtMost a tries f.turns × HasTriedAtMost b 0 t.turns
  HaveTriedToBegin a b tries (Joined t d) = HasTriedAtMost a tries d.turns × HasTriedAtMost b 0 t.turns

  -- how a refused asking ends: so many tries were made and failed, each by another's change; or no generation was left
  abbrev pub HasNotBegun : CallerValue V → ℕ → ℕ → NotBegun (CallerValue V) → Type 0
  HasNotBegun c k tries (Busy n d) = IsRefusedBusy c tries n d × HasSeenChanges c k n d × HasTriedJust c n d.turns
  HasNotBegun c k tries (Spent d) = IsRefusedSpent c d

  -- the two know the same turns then; beyond those that both had known, so many are by neither of the two and changed the place's key word, or a call word that the first tried. The first made so many exchanges, and the second none
  pub record HaveSeenChanges (a b : CallerValue V) (k n : ℕ) (c d : CallerValue V) : Type 0 where
    pub together : d.turns ≡ c.turns
    pub changes : HaveChanged a.group.sizes a.number b.number k n a.turns b.turns c.turns
    pub tried : HasTriedJust a n c.turns
    pub second : HasTriedAtMost b 0 d.turns

  -- the same of an asking with a second
  abbrev pub HasNotBegunChan : CallerValue V → CallerValue V → ℕ → ℕ → NotBegun (CallerValue V × CallerValue V) → Type 0
  HasNotBegunChan a b k tries (Busy n d) = AreRefusedBusy a b tries n (d.0) (d.1) × HaveSeenChanges a b k n (d.0) (d.1)
  HasNotBegunChan a b k tries (Spent d) = AreRefusedSpent a b (d.0) (d.1)

  -- how a refused Forget ends: so many tries were made and failed, each by another's change
  pub record HasNotForgotten (c : CallerValue V) (k tries : ℕ) (d : CallerValue V) (n : ℕ) : Type 0 where
    pub nothing : HasNothing c d
    pub failed : n ≡ tries
    pub changes : HasSeenChanges c k n d
    pub tried : HasTriedJust c n d.turns

  -- beyond what the leader knew, at most one more turn than there are callers is an exchange of it to close its call
  abbrev pub ClosesSeldom : FlightValue V → List (Turn V) → Type 0
  ClosesSeldom f turns = (more : List (Turn V)) × (turns ≡ f.turns ++ more)
      × (closes (world_of f.group.sizes f.turns) f.number f.call.generation more ≤ f.group.sizes.callers + 1)

  abbrev pub HasClosed : FlightValue V → Finished (CallerValue V) (LetterValue V) (SettledValue V) → Type 0
  HasClosed f (Done c l) = ClosesSeldom f c.turns
  HasClosed f (Held s) = ClosesSeldom f s.turns

  -- a settle that hands no letter to another is done where none is owed
  abbrev pub HasOwedNone : FlightValue V → Finished (CallerValue V) (LetterValue V) (SettledValue V) → Type 0
  HasOwedNone f (Done c l) = (l.joiners ≡ 0) × (f.own ≡ None)
  HasOwedNone f (Held s) = Unit {0}

  -- who goes on with a delivery knows more of the schedule then
  abbrev pub KnowsSince : SettledValue V → List (Turn V) → Type 0
  KnowsSince s turns = (more : List (Turn V)) × (turns ≡ s.turns ++ more) × IsSchedule (setting_of s.group.sizes) turns

  abbrev pub HasKnown : SettledValue V → Finished (CallerValue V) (LetterValue V) (SettledValue V) → Type 0
  HasKnown s (Done c l) = KnowsSince s c.turns
  HasKnown s (Held t) = KnowsSince s t.turns

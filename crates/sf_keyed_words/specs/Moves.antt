-- What moves between seats: a flight, a ticket, and what is seen.
use Rattle.std.specs.Prelude.{◌≡◌, nat_eq, false}
use Rattle.sf_history.specs.Legal.{IsLegal}
use Rattle.sf_keyed_words.specs.declared.rule.View.{View}
use Rattle.sf_keyed_words.specs.Rule.{first_view, note_of, IsPrefix}
use Rattle.sf_keyed_words.specs.Plays.{GoneHasNoCall}

-- a view without the call that it leads, and one of that call alone
abbrev pub without_flight : View → View
without_flight v = record v { leads = 0; stored = false }

abbrev pub flight_of : View → View
flight_of v = record (note_of v) { leads = v.leads; stored = v.stored; value = v.value }

-- the same of the call that it is a holder of
abbrev pub without_ticket : View → View
without_ticket v = record v { ticket = 0; done = false }

abbrev pub ticket_of : View → View
ticket_of v = record (note_of v) { ticket = v.ticket; done = v.done }

-- a view that hears what another has seen, and takes over its call
abbrev pub with_note : View → View → View
with_note v w = record v { heard = w.seen }

abbrev pub with_flight : View → View → View
with_flight v w = record v { leads = w.leads; stored = w.stored; value = w.value; heard = w.seen }

abbrev pub with_ticket : View → View → View
with_ticket v w = record v { ticket = w.ticket; done = w.done; heard = w.seen }

-- and what is left of the other
abbrev pub spent : View
spent = first_view (record { tops = 0; sides = 0; cells = 0; low_seed = 0; high_seed = 0 })

-- the seat has seen all that it had heard
pub record has_heard (v w : View) : Type 0 where
  pub view : w ≡ record v { seen = w.seen }
  pub seen : IsPrefix v.seen w.seen
  pub heard : IsPrefix v.heard w.seen
  pub legal : IsLegal nat_eq w.seen
  pub gone : GoneHasNoCall w

-- a new seat has seen all that has happened
pub record has_entered (v w : View) : Type 0 where
  pub view : w ≡ record v { seen = w.seen }
  pub legal : IsLegal nat_eq w.seen

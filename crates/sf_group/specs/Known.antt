-- what contracts see of groups, tokens, notes and letters with these seats
use Rattle.std.specs.Prelude.{◌≡◌, ℕ, ◌-◌, ◌≤◌, [], Option, Some}
use Rattle.atomic_table.specs.Seated.{TableId}
use Rattle.sf_history.specs.declared.call.CallId.{CallId}
use Rattle.sf_group_rows.specs.declared.sizes.Sizes.{Sizes}
use Rattle.sf_group_rows.specs.Tokens.{GroupValue, CallerValue, FlightValue, SettledValue, TicketValue, NoteValue, LetterValue}
use Rattle.sf_group_steps.specs.declared.view.View.{View}
use Rattle.sf_group_steps.specs.View.{sizes_of, history_of}

abbrev pub IsPlaceIn : Sizes → ℕ → Type 0
IsPlaceIn z k = (1 ≤ k) × (k ≤ z.places)

-- the call of a caller's last asking, which used the generation before this one
abbrev pub call_before : ℕ → ℕ → CallId
call_before a next = record { caller = a; generation = next - 1 }

module _ {V : Type 0} where
  -- the seat is a note's: it stands for nobody
  pub record IsNote (v : View V) : Type 0 where
    pub sizes : v.sizes ≡ Some (sizes_of v)
    pub callers : v.known.callers ≡ []
    pub told : v.told ≡ []
    pub cells : v.cells ≡ []

  abbrev pub group_of : TableId → View V → GroupValue
  group_of t v = record { table = t; sizes = sizes_of v }

  abbrev pub caller_of : TableId → View V → ℕ → CallerValue V
  caller_of t v a = record { group = group_of t v; number = a; seen = history_of (sizes_of v) v.known.turns; turns = v.known.turns }

  abbrev pub flight_of : TableId → View V → ℕ → ℕ → CallId → Option CallId → FlightValue V
  flight_of t v a k c own = record { group = group_of t v; number = a; seen = history_of (sizes_of v) v.known.turns; turns = v.known.turns; place = k; call = c; own = own }

  abbrev pub settled_of : TableId → View V → ℕ → ℕ → CallId → V → ℕ → SettledValue V
  settled_of t v a k c x joiners = record { group = group_of t v; number = a; seen = history_of (sizes_of v) v.known.turns; turns = v.known.turns; place = k; call = c; value = Some x; joiners = joiners }

  abbrev pub ticket_of : TableId → View V → ℕ → ℕ → CallId → CallId → TicketValue V
  ticket_of t v a k c m = record { group = group_of t v; number = a; seen = history_of (sizes_of v) v.known.turns; turns = v.known.turns; place = k; call = c; member = m }

  abbrev pub note_value : TableId → View V → NoteValue V
  note_value t v = record { group = group_of t v; seen = history_of (sizes_of v) v.known.turns }

  abbrev pub letter_of : TableId → View V → ℕ → CallId → V → ℕ → LetterValue V
  letter_of t v k c x joiners = record { group = group_of t v; seen = history_of (sizes_of v) v.known.turns; place = k; call = c; value = x; joiners = joiners }

-- what an index keeps of a history: a row for each call, member and own channel that a Lead or Enter named, and the current call of each key
use Rattle.std.specs.Prelude.{ℕ, ◌+◌, ◌==◌, ◌&&◌, Bool, true, false, if◌then◌else◌, List, Option, Some, None, is_some, option_map, fold}
use Rattle.sf_history.specs.declared.call.CallId.{CallId}
use Rattle.sf_history.specs.declared.event.Event.{Event}
use Rattle.sf_history.specs.declared.event.Event.TheVariants.{Lead, Enter, Forget, ForgetCall, Settle, Handed}
use Rattle.sf_history.specs.Calls.{same_call}
use Rattle.sf_history.specs.History.{holds_call}
use Rattle.sf_sequential.specs.Noted.{without}
use Rattle.sf_replay_check.specs.Checker.{Known}
use Rattle.sf_replay_check.specs.declared.row.Row.{Row}
use Rattle.sf_replay_check.specs.declared.row.Mark.{Mark}
use Rattle.sf_replay_check.specs.declared.row.Mark.TheVariants.{Joined, Settled, Handing}

-- the row of a name of which nothing more is known, and that of a call that was led
abbrev pub new_row : Bool → Row
new_row led = record { led = led; joiners = 0; settled = false; handed = false }

abbrev pub marked : Mark → Row → Row
marked Joined r = record { led = r.led; joiners = r.joiners + 1; settled = r.settled; handed = r.handed }
marked Settled r = record { led = r.led; joiners = r.joiners; settled = true; handed = r.handed }
marked Handing r = record { led = r.led; joiners = r.joiners; settled = r.settled; handed = true }

-- what an event leaves of a name's row
abbrev pub row_after : {K V : Type 0} → CallId → Option Row → Event K V → Option Row
row_after c found (Lead by key call own) = if same_call call c then Some (new_row true) else (if holds_call own c then Some (new_row false) else found)
row_after c found (Enter by key call member) = if same_call member c then Some (new_row false) else (if same_call call c then option_map (marked Joined) found else found)
row_after c found (Forget by key closed) = found
row_after c found (ForgetCall by key call hit) = found
row_after c found (Settle by call result joiners) = if same_call call c then option_map (marked Settled) found else found
row_after c found (Handed by call) = if same_call call c then option_map (marked Handing) found else found

abbrev pub row_of : {K V : Type 0} → List (Event K V) → CallId → Option Row
row_of h c = fold (row_after c) None h

abbrev pub was_begun : Option Row → Bool
was_begun None = false
was_begun (Some r) = r.led

abbrev pub joiners_in : Option Row → ℕ
joiners_in None = 0
joiners_in (Some r) = r.joiners

abbrev pub was_settled : Option Row → Bool
was_settled None = false
was_settled (Some r) = r.settled

abbrev pub was_handed : Option Row → Bool
was_handed None = false
was_handed (Some r) = r.handed

-- an index as it is seen: the row of each name, and the current call of each key
pub record Noted (K : Type 0) : Type 0 where
  pub row : CallId → Option Row
  pub current : K → Option CallId

-- what an index knows of the events that it has noted
abbrev pub known_of : {K : Type 0} → Noted K → Known K
known_of n =
    record {
      named = λ c. is_some (n.row c);
      begun = λ c. was_begun (n.row c);
      led = λ a c. (c.caller == a) && was_begun (n.row c);
      settled = λ c. was_settled (n.row c);
      joined = λ c. joiners_in (n.row c);
      handed = λ c. was_handed (n.row c);
      unsettled = λ k. without (λ c. was_settled (n.row c)) (n.current k);
      current = n.current;
    }

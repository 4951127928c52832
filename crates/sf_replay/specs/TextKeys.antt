-- histories over places, with texts as keys
use Rattle.std.specs.Prelude.{ℕ, List, decimal, map}
use Rattle.sf_history.specs.declared.event.Event.{Event}
use Rattle.sf_history.specs.declared.event.Event.TheVariants.{Lead, Enter, Forget, ForgetCall, Settle, Handed}

module _ {V : Type 0} where
  -- the key of a place is its number in decimals
  abbrev pub with_text_key : Event ℕ V → Event (List ℕ) V
  with_text_key (Lead by place call own) = Lead by (decimal place) call own
  with_text_key (Enter by place call member) = Enter by (decimal place) call member
  with_text_key (Forget by place closed) = Forget by (decimal place) closed
  with_text_key (ForgetCall by place call hit) = ForgetCall by (decimal place) call hit
  with_text_key (Settle by call result joiners) = Settle by call result joiners
  with_text_key (Handed by call) = Handed by call

  abbrev pub with_text_keys : List (Event ℕ V) → List (Event (List ℕ) V)
  with_text_keys events = map with_text_key events

-- what a merged history holds, and the order in which it stands
use Rattle.std.specs.Prelude.{ℕ, Bool, true, false, List, [], ◌∷◌, Option, Some, None, if◌then◌else◌, count_by, option_map}
use Rattle.std.specs.List.{filter_map, flat_map}
use Rattle.std.specs.Global.{Vec}
use Rattle.std.specs.Option.{option_or}
use Rattle.std.specs.Ordering.{is_lt, nat_cmp, bool_cmp, ordering_then}
use Rattle.std.specs.declared.cmp.Ordering.{Ordering}
use Rattle.sf_history.specs.declared.call.CallId.{CallId}
use Rattle.sf_history.specs.declared.event.Event.{Event}
use Rattle.sf_history.specs.declared.event.Event.TheVariants.{Lead, Enter, Forget, ForgetCall, Settle, Handed}
use Rattle.sf_history.specs.declared.event.Hit.TheVariants.{Closed, Cleared, Missed}
use Rattle.sf_history.specs.Calls.{same_call}
use Rattle.sf_replay.specs.declared.merging.Part.{Part}
use Rattle.sf_replay.specs.declared.merging.Part.TheVariants.{Lead as LeadPart, Enter as EnterPart, Forget as ForgetPart, Settle as SettlePart, Handed as HandedPart, Cleared as ClearedPart}
use Rattle.sf_replay.specs.declared.merging.Standing.{Standing}

-- the events of all logs, one log after the other
abbrev pub events_of_logs : {K V : Type 0} → List (Vec (Event K V)) → List (Event K V)
events_of_logs logs = flat_map (λ log. log.items) logs

-- the place of a part among those of its call
abbrev pub part_number : Part → ℕ
part_number LeadPart = 0
part_number EnterPart = 1
part_number ForgetPart = 2
part_number SettlePart = 3
part_number HandedPart = 4
part_number ClearedPart = 5

-- how two standings compare: by their fields, in their order
abbrev pub standing_cmp : Standing → Standing → Ordering
standing_cmp a b =
    ordering_then (bool_cmp a.unled b.unled)
    (ordering_then (nat_cmp a.key b.key)
    (ordering_then (bool_cmp a.of_call b.of_call)
    (ordering_then (nat_cmp a.caller b.caller)
    (ordering_then (nat_cmp a.generation b.generation)
    (ordering_then (nat_cmp (part_number a.part) (part_number b.part))
    (ordering_then (nat_cmp a.member_caller b.member_caller) (nat_cmp a.member_generation b.member_generation)))))))

-- where an event stands that is of no call, or of one that nobody led
abbrev pub idle_standing : Bool → ℕ → ℕ → Standing
idle_standing unled key by =
    record { unled = unled; key = key; of_call = false; caller = by; generation = 0; part = LeadPart; member_caller = 0; member_generation = 0 }

-- where a part of a call stands whose key has this place; the member is that of an enter
abbrev pub part_standing : Option ℕ → ℕ → CallId → Part → CallId → Standing
part_standing None by call part member = idle_standing true 0 by
part_standing (Some key) by call part member =
    record {
      unled = false;
      key = key;
      of_call = true;
      caller = call.caller;
      generation = call.generation;
      part = part;
      member_caller = member.caller;
      member_generation = member.generation;
    }

module _ {K V : Type 0} where
  -- the key of a lead, or of a forget that closed nothing or missed its call
  abbrev pub own_key : Event K V → Option K
  own_key (Lead by key call own) = Some key
  own_key (Enter by key call member) = None
  own_key (Forget by key None) = Some key
  own_key (Forget by key (Some call)) = None
  own_key (ForgetCall by key call Closed) = None
  own_key (ForgetCall by key call Cleared) = None
  own_key (ForgetCall by key call Missed) = Some key
  own_key (Settle by call result joiners) = None
  own_key (Handed by call) = None

  -- the key of the call, where the event leads it
  abbrev pub led_key : CallId → Event K V → Option K
  led_key c (Lead by key call own) = if same_call call c then Some key else None
  led_key c (Enter by key call member) = None
  led_key c (Forget by key closed) = None
  led_key c (ForgetCall by key call hit) = None
  led_key c (Settle by call result joiners) = None
  led_key c (Handed by call) = None

  -- the key of a call: that of its first lead
  abbrev pub key_of_call : List (Event K V) → CallId → Option K
  key_of_call [] c = None
  key_of_call (e ∷ es) c = option_or (led_key c e) (key_of_call es c)

  -- where an event stands, by the places of keys and of the keys of calls
  abbrev pub standing_by : (K → ℕ) → (CallId → Option ℕ) → Event K V → Standing
  standing_by place calls (Lead by key call own) = part_standing (calls call) by call LeadPart call
  standing_by place calls (Enter by key call member) = part_standing (calls call) by call EnterPart member
  standing_by place calls (Forget by key None) = idle_standing false (place key) by
  standing_by place calls (Forget by key (Some call)) = part_standing (calls call) by call ForgetPart call
  standing_by place calls (ForgetCall by key call Closed) = part_standing (calls call) by call ForgetPart call
  standing_by place calls (ForgetCall by key call Cleared) = part_standing (calls call) by call ClearedPart call
  standing_by place calls (ForgetCall by key call Missed) = idle_standing false (place key) by
  standing_by place calls (Settle by call result joiners) = part_standing (calls call) by call SettlePart call
  standing_by place calls (Handed by call) = part_standing (calls call) by call HandedPart call

-- the place of a key among others: how many come before it
abbrev pub place_among : {K : Type 0} → (K → K → Ordering) → List K → K → ℕ
place_among cmp keys k = count_by (λ other. is_lt (cmp other k)) keys

module _ {K V : Type 0} where
  -- where an event stands in a merged history of these events
  abbrev pub standing_of : (K → K → Ordering) → List (Event K V) → Event K V → Standing
  standing_of cmp es =
      let place = place_among cmp (filter_map own_key es) in
      standing_by place (λ c. option_map place (key_of_call es c))

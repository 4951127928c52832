-- one record: the event that a JSON object says, in its format
use Rattle.std.specs.Prelude.{ℕ, ◌+◌, ◌==◌, max, Bool, true, false, ◌&&◌, nat_lt, nat_le, List, length, if◌then◌else◌, Option, Some, None, is_some, option_map, option_and_then, Result, Ok, Err, codes}
use Rattle.std.specs.Option.{option_map_or}
use Rattle.serde_json.specs.Data.{Data, Items, no_items, item}
use Rattle.serde_json.specs.Find.{get, as_null, as_bool, as_number, as_u64, as_str, as_array, as_object}
use Rattle.serde_json.specs.Events.{members_len}
use Rattle.sf_history.specs.declared.call.CallId.{CallId}
use Rattle.sf_history.specs.declared.event.Event.{Event}
use Rattle.sf_history.specs.declared.event.Event.TheVariants.{Lead, Enter, Forget, ForgetCall, Settle, Handed}
use Rattle.sf_history.specs.declared.event.Hit.{Hit}
use Rattle.sf_history.specs.declared.event.Hit.TheVariants.{Closed, Cleared, Missed}
use Rattle.sf_replay.specs.declared.record.Interval.{Interval}
use Rattle.sf_text.specs.Texts.{same_text}
use Rattle.sf_words.specs.declared.limits.TheConstants.{LARGEST_CALLER, LARGEST_GENERATION}

-- an event whose key is a text, settled with a text or with an error's
abbrev pub TextEvent : Type 0
TextEvent = Event (List ℕ) (Result (List ℕ) (List ℕ))

-- ---- what the names of an object hold

-- a whole number, 1 to the most
abbrev pub in_range : ℕ → ℕ → Option ℕ
in_range most n = if nat_lt 0 n && nat_le n most then Some n else None

abbrev pub number_in : ℕ → Data → Option ℕ
number_in most d = option_and_then (in_range most) (option_and_then as_u64 (as_number d))

-- a whole number, 0 to the most
abbrev pub up_to : ℕ → ℕ → Option ℕ
up_to most n = if nat_le n most then Some n else None

-- how many joined, 0 to 4,294,967,295
abbrev pub count_in : Data → Option ℕ
count_in d = option_and_then (up_to 4294967295) (option_and_then as_u64 (as_number d))

abbrev pub caller_in : Data → Option ℕ
caller_in d = number_in LARGEST_CALLER d

-- a call or a member is the array of its caller and its generation
abbrev pub call_from : Option ℕ → Option ℕ → Option CallId
call_from None generation = None
call_from (Some caller) None = None
call_from (Some caller) (Some generation) = Some (record { caller = caller; generation = generation })

abbrev pub call_of_items : Items → Option CallId
call_of_items no_items = None
call_of_items (item a no_items) = None
call_of_items (item a (item b no_items)) = call_from (number_in LARGEST_CALLER a) (number_in LARGEST_GENERATION b)
call_of_items (item a (item b (item c more))) = None

abbrev pub call_in : Data → Option CallId
call_in d = option_and_then call_of_items (as_array d)

-- null, or a call or member
abbrev pub option_in : Data → Option (Option CallId)
option_in d = if is_some (as_null d) then Some None else option_map Some (call_in d)

-- a key has at most 250 bytes
abbrev pub short : List ℕ → Option (List ℕ)
short text = if nat_le (length text) 250 then Some text else None

abbrev pub key_in : Data → Option (List ℕ)
key_in d = option_and_then short (as_str d)

-- what a Forget of one call found
abbrev pub hit_from : List ℕ → Option Hit
hit_from text =
    if same_text text (codes "closed") then Some Closed
    else (if same_text text (codes "cleared") then Some Cleared
    else (if same_text text (codes "missed") then Some Missed
    else None))

abbrev pub hit_in : Data → Option Hit
hit_in d = option_and_then hit_from (as_str d)

-- what an object holds at a name
abbrev pub field : {A : Type 0} → List ℕ → (Data → Option A) → Data → Option A
field name value d = option_and_then value (get name d)

-- a whole number in 64 bits
abbrev pub whole_in : Data → Option ℕ
whole_in d = option_and_then as_u64 (as_number d)

-- a time is the array of two readings of a clock, of which the second is not before the first
abbrev pub interval_from : Option ℕ → Option ℕ → Option Interval
interval_from None to = None
interval_from (Some from) None = None
interval_from (Some from) (Some to) = if nat_le from to then Some (record { from = from; to = to }) else None

abbrev pub interval_of_items : Items → Option Interval
interval_of_items no_items = None
interval_of_items (item a no_items) = None
interval_of_items (item a (item b no_items)) = interval_from (whole_in a) (whole_in b)
interval_of_items (item a (item b (item c more))) = None

abbrev pub interval_in : Data → Option Interval
interval_in d = option_and_then interval_of_items (as_array d)

-- the time that may stand at a name: none, or what must be an interval
abbrev pub time_from : Option Data → Option (Option Interval)
time_from None = Some None
time_from (Some d) = option_map Some (interval_in d)

-- the formats before the fourth have no times
abbrev pub time_in : ℕ → Data → Option (Option Interval)
time_in format d = if nat_lt format 4 then Some None else time_from (get (codes "at") d)

-- how many names the time of a record adds
abbrev pub names_of_time : Option Interval → ℕ
names_of_time None = 0
names_of_time (Some time) = 1

-- an object of so many names; an object has each name once
abbrev pub has_names : ℕ → Data → Bool
has_names n d = option_map_or (λ names. members_len names == n) (as_object d) false

-- ---- the events: each has the names of its kind and no other

abbrev pub lead_from : Option ℕ → Option (List ℕ) → Option CallId → Option (Option CallId) → Option TextEvent
lead_from None key call own = None
lead_from (Some by) None call own = None
lead_from (Some by) (Some key) None own = None
lead_from (Some by) (Some key) (Some call) None = None
lead_from (Some by) (Some key) (Some call) (Some own) = Some (Lead by key call own)

abbrev pub enter_from : Option ℕ → Option (List ℕ) → Option CallId → Option CallId → Option TextEvent
enter_from None key call member = None
enter_from (Some by) None call member = None
enter_from (Some by) (Some key) None member = None
enter_from (Some by) (Some key) (Some call) None = None
enter_from (Some by) (Some key) (Some call) (Some member) = Some (Enter by key call member)

abbrev pub forget_from : Option ℕ → Option (List ℕ) → Option (Option CallId) → Option TextEvent
forget_from None key closed = None
forget_from (Some by) None closed = None
forget_from (Some by) (Some key) None = None
forget_from (Some by) (Some key) (Some closed) = Some (Forget by key closed)

abbrev pub forget_call_from : Option ℕ → Option (List ℕ) → Option CallId → Option Hit → Option TextEvent
forget_call_from None key call hit = None
forget_call_from (Some by) None call hit = None
forget_call_from (Some by) (Some key) None hit = None
forget_call_from (Some by) (Some key) (Some call) None = None
forget_call_from (Some by) (Some key) (Some call) (Some hit) = Some (ForgetCall by key call hit)

-- the number of joiners goes by the call
abbrev pub settle_from : Option ℕ → Option CallId → Option (Result (List ℕ) (List ℕ)) → (CallId → Option ℕ) → Option TextEvent
settle_from None call result joiners = None
settle_from (Some by) None result joiners = None
settle_from (Some by) (Some call) None joiners = None
settle_from (Some by) (Some call) (Some result) joiners = option_map (Settle by call result) (joiners call)

abbrev pub handed_from : Option ℕ → Option CallId → Option TextEvent
handed_from None call = None
handed_from (Some by) None = None
handed_from (Some by) (Some call) = Some (Handed by call)

-- a text at the name `ok`, or else one at the name `err`
abbrev pub result_from : Option (List ℕ) → Option (List ℕ) → Option (Result (List ℕ) (List ℕ))
result_from (Some value) error = Some (Ok value)
result_from None None = None
result_from None (Some error) = Some (Err error)

abbrev pub result_in : Data → Option (Result (List ℕ) (List ℕ))
result_in d = result_from (field (codes "ok") as_str d) (field (codes "err") as_str d)

-- the number that the first format's mark stands for: none, or those who entered before, and at least one
abbrev pub count_of_mark : ℕ → Bool → Option ℕ
count_of_mark entered false = Some 0
count_of_mark entered true = up_to 4294967295 (max entered 1)

-- how many joined a call that so many entered in the lines before: format 1 has a mark, and each later format the number
abbrev pub joiners_in : ℕ → ℕ → Data → Option ℕ
joiners_in format entered d =
    if format == 1 then option_and_then (count_of_mark entered) (field (codes "shared") as_bool d)
    else field (codes "joiners") count_in d

-- beside `e` and `by` the names k, c, own; k, c, m; k, closed; k, c, hit; c, ok or err, shared or joiners; c; and so many more
unfoldable pub lead_in : ℕ → Data → Option TextEvent
lead_in more d = if has_names (5 + more) d then lead_from (field (codes "by") caller_in d) (field (codes "k") key_in d) (field (codes "c") call_in d) (field (codes "own") option_in d) else None

unfoldable pub enter_in : ℕ → Data → Option TextEvent
enter_in more d = if has_names (5 + more) d then enter_from (field (codes "by") caller_in d) (field (codes "k") key_in d) (field (codes "c") call_in d) (field (codes "m") call_in d) else None

unfoldable pub forget_in : ℕ → Data → Option TextEvent
forget_in more d = if has_names (4 + more) d then forget_from (field (codes "by") caller_in d) (field (codes "k") key_in d) (field (codes "closed") option_in d) else None

unfoldable pub forget_call_in : ℕ → Data → Option TextEvent
forget_call_in more d = if has_names (5 + more) d then forget_call_from (field (codes "by") caller_in d) (field (codes "k") key_in d) (field (codes "c") call_in d) (field (codes "hit") hit_in d) else None

unfoldable pub settle_in : ℕ → ℕ → (CallId → ℕ) → Data → Option TextEvent
settle_in more format entered d =
    if has_names (5 + more) d then settle_from (field (codes "by") caller_in d) (field (codes "c") call_in d) (result_in d) (λ call. joiners_in format (entered call) d) else None

unfoldable pub handed_in : ℕ → Data → Option TextEvent
handed_in more d = if has_names (3 + more) d then handed_from (field (codes "by") caller_in d) (field (codes "c") call_in d) else None

-- the formats before the third have no Forget of one call
abbrev pub forget_call_of : ℕ → ℕ → Data → Option TextEvent
forget_call_of more format d = if nat_lt format 3 then None else forget_call_in more d

-- the event of this kind with so many names more, where so many entered each call in the lines before
unfoldable pub event_of_kind : ℕ → ℕ → (CallId → ℕ) → List ℕ → Data → Option TextEvent
event_of_kind more format entered kind d =
    if same_text kind (codes "lead") then lead_in more d
    else (if same_text kind (codes "enter") then enter_in more d
    else (if same_text kind (codes "forget") then forget_in more d
    else (if same_text kind (codes "forgetcall") then forget_call_of more format d
    else (if same_text kind (codes "settle") then settle_in more format entered d
    else (if same_text kind (codes "handed") then handed_in more d
    else None)))))

-- the event with its time, which may be none
unfoldable pub timed_event_in : ℕ → (CallId → ℕ) → Data → Option Interval → Option TextEvent
timed_event_in format entered d time =
    option_and_then (λ kind. event_of_kind (names_of_time time) format entered kind d) (field (codes "e") as_str d)

unfoldable pub event_in : ℕ → (CallId → ℕ) → Data → Option TextEvent
event_in format entered d = option_and_then (timed_event_in format entered d) (time_in format d)

-- the format without times that is written, and the one with times
abbrev pub plain_format : ℕ
plain_format = 3

abbrev pub timed_format : ℕ
timed_format = 4

-- the number of a format without times: an object with the one name `format`
abbrev pub plain_format_in : Data → Option ℕ
plain_format_in d = field (codes "format") (number_in plain_format) d

-- the number of the format with times
abbrev pub timed_number : ℕ → Option ℕ
timed_number n = if n == timed_format then Some n else None

-- how many events were lost, beside the number of the format with times
abbrev pub lost_in : Data → Option ℕ
lost_in d = field (codes "lost") whole_in d

abbrev pub timed_format_in : Data → Option ℕ
timed_format_in d = option_and_then (λ lost. option_and_then timed_number (field (codes "format") whole_in d)) (lost_in d)

-- the number of a format: an object with the name `format`, and in the format with times the name `lost` too
unfoldable pub format_in : Data → Option ℕ
format_in d = if has_names 1 d then plain_format_in d else (if has_names 2 d then timed_format_in d else None)

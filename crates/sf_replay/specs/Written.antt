-- what is written: the format, then one record an event, each line ended
use Rattle.std.specs.Prelude.{ℕ, ◌≤◌, List, [], ◌∷◌, ◌++◌, length, Option, Some, None, Result, Ok, Err, codes, decimal}
use Rattle.json.specs.Print.{quoted}
use Rattle.sf_history.specs.declared.call.CallId.{CallId}
use Rattle.sf_history.specs.declared.event.Event.TheVariants.{Lead, Enter, Forget, ForgetCall, Settle, Handed}
use Rattle.sf_history.specs.Hits.{hit_text}
use Rattle.sf_replay.specs.declared.record.Interval.{Interval}
use Rattle.sf_replay.specs.Record.{TextEvent}

-- a call or a member, as in `[1,2]`
abbrev pub call_json : CallId → List ℕ
call_json c = codes "[" ++ (decimal c.caller ++ (codes "," ++ (decimal c.generation ++ codes "]")))

abbrev pub option_json : Option CallId → List ℕ
option_json None = codes "null"
option_json (Some c) = call_json c

-- what a call is settled with, after its name
abbrev pub result_json : Result (List ℕ) (List ℕ) → List ℕ
result_json (Ok value) = codes "\"ok\":" ++ quoted value
result_json (Err error) = codes "\"err\":" ++ quoted error

-- a record, with what stands at its end
unfoldable pub record_with : List ℕ → TextEvent → List ℕ
record_with end (Lead by key call own) =
    codes "{\"e\":\"lead\",\"by\":" ++ (decimal by ++ (codes ",\"k\":" ++ (quoted key ++ (codes ",\"c\":" ++ (call_json call ++ (codes ",\"own\":" ++ (option_json own ++ end)))))))
record_with end (Enter by key call member) =
    codes "{\"e\":\"enter\",\"by\":" ++ (decimal by ++ (codes ",\"k\":" ++ (quoted key ++ (codes ",\"c\":" ++ (call_json call ++ (codes ",\"m\":" ++ (call_json member ++ end)))))))
record_with end (Forget by key closed) =
    codes "{\"e\":\"forget\",\"by\":" ++ (decimal by ++ (codes ",\"k\":" ++ (quoted key ++ (codes ",\"closed\":" ++ (option_json closed ++ end)))))
record_with end (ForgetCall by key call hit) =
    codes "{\"e\":\"forgetcall\",\"by\":" ++ (decimal by ++ (codes ",\"k\":" ++ (quoted key ++ (codes ",\"c\":" ++ (call_json call ++ (codes ",\"hit\":\"" ++ (hit_text hit ++ (codes "\"" ++ end))))))))
record_with end (Settle by call result joiners) =
    codes "{\"e\":\"settle\",\"by\":" ++ (decimal by ++ (codes ",\"c\":" ++ (call_json call ++ (codes "," ++ (result_json result ++ (codes ",\"joiners\":" ++ (decimal joiners ++ end)))))))
record_with end (Handed by call) =
    codes "{\"e\":\"handed\",\"by\":" ++ (decimal by ++ (codes ",\"c\":" ++ (call_json call ++ end)))

abbrev pub record_text : TextEvent → List ℕ
record_text event = record_with (codes "}") event

-- these records, each line ended
abbrev pub records_text : List TextEvent → List ℕ
records_text [] = []
records_text (event ∷ events) = record_text event ++ (codes "\n" ++ records_text events)

unfoldable pub history_text : List TextEvent → List ℕ
history_text h = codes "{\"format\":3}\n" ++ records_text h

-- the end of a record that may have a time
abbrev pub time_end : Option Interval → List ℕ
time_end None = codes "}"
time_end (Some time) = codes ",\"at\":[" ++ (decimal time.from ++ (codes "," ++ (decimal time.to ++ codes "]}")))

-- records with their times, each line ended; one without a time where none is left
abbrev pub timed_records : List TextEvent → List (Option Interval) → List ℕ
timed_records [] times = []
timed_records (event ∷ events) [] = record_with (time_end None) event ++ (codes "\n" ++ timed_records events [])
timed_records (event ∷ events) (time ∷ times) = record_with (time_end time) event ++ (codes "\n" ++ timed_records events times)

-- a recording in the format with times: how many events were lost, then the records
unfoldable pub recording_text : ℕ → List TextEvent → List (Option Interval) → List ℕ
recording_text lost events times = codes "{\"format\":4,\"lost\":" ++ (decimal lost ++ (codes "}\n" ++ timed_records events times))

-- an event holds a number of joiners in 32 bits
abbrev pub HasCount : TextEvent → Type 0
HasCount (Lead by key call own) = Unit {0}
HasCount (Enter by key call member) = Unit {0}
HasCount (Forget by key closed) = Unit {0}
HasCount (ForgetCall by key call hit) = Unit {0}
HasCount (Settle by call result joiners) = joiners ≤ 4294967295
HasCount (Handed by call) = Unit {0}

-- records hold keys of at most 250 bytes
abbrev pub HasShortKey : TextEvent → Type 0
HasShortKey (Lead by key call own) = length key ≤ 250
HasShortKey (Enter by key call member) = length key ≤ 250
HasShortKey (Forget by key closed) = length key ≤ 250
HasShortKey (ForgetCall by key call hit) = length key ≤ 250
HasShortKey (Settle by call result joiners) = Unit {0}
HasShortKey (Handed by call) = Unit {0}

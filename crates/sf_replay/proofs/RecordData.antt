-- the data that a record's JSON is, and the event that it reads as
use Rattle.std.proofs.Common.{◌≡◌, ℕ, ◌^◌, ◌<◌, ◌≤◌, List, length, Option, Some, None, Result, Ok, Err, IfSome, codes, decimal, refl, ◌∙◌, ap, arith, option_and_then, option_map}
use Rattle.std.proofs.lemmas.Bool.{cond-true, and_from, lt-ltb, le-leb}
use Rattle.json.specs.Json as json
use Rattle.json.specs.Tree.{HasNumbers, depth}
use Rattle.json.proofs.Printed.Decimals.{IsNumber-decimal}
use Rattle.serde_json.specs.Data.{Data, number, unsigned, string, null, array, item, no_items, object, Members, no_members, put}
use Rattle.serde_json.specs.Read.{of_json, max_depth}
use Rattle.serde_json.proofs.Numbers.{number_of-decimal}
use Rattle.sf_history.specs.declared.call.CallId.{CallId}
use Rattle.sf_history.specs.declared.event.Event.TheVariants.{Lead, Enter, Forget, ForgetCall, Settle, Handed}
use Rattle.sf_history.specs.declared.event.Hit.TheVariants.{Closed, Cleared, Missed}
use Rattle.sf_history.specs.Hits.{hit_text}
use Rattle.sf_history.specs.Limits.{IsCallerNumber, IsCallWithin, IsWithinLimits}
use Rattle.sf_replay.specs.Record.{TextEvent, in_range, up_to, short, call_from, plain_format, lead_in, enter_in, forget_in, forget_call_in, settle_in, handed_in, event_of_kind, timed_event_in, event_in}
use Rattle.sf_replay.specs.Written.{HasCount, HasShortKey}
use Rattle.sf_replay.proofs.RecordJson.{call_of, option_of, json_of_event}
use Rattle.sf_words.specs.declared.limits.TheConstants.{LARGEST_CALLER, LARGEST_GENERATION}

-- ---- the JSON as data

of_number : (n : ℕ) → n < 2 ^ 64 → of_json (json.number (decimal n)) ≡ Some (number (unsigned n))
of_number n small = ap (option_map number) (number_of-decimal n small)

abbrev call_data : CallId → Data
call_data c = array (item (number (unsigned c.caller)) (item (number (unsigned c.generation)) no_items))

of_call : (c : CallId) → IsCallWithin c → of_json (call_of c) ≡ Some (call_data c)
of_call c within =
    let caller : c.caller < 2 ^ 64 = omega (arith, within.0.1) in
    let generation : c.generation < 2 ^ 64 = omega (arith, within.2) in
    rw (number_of-decimal c.caller caller, number_of-decimal c.generation generation) refl

abbrev option_data : Option CallId → Data
option_data None = null
option_data (Some c) = call_data c

of_option : (o : Option CallId) → IfSome o IsCallWithin → of_json (option_of o) ≡ Some (option_data o)
of_option None within = refl
of_option (Some c) within = of_call c within

-- the names that each record has
abbrev begun_data : List ℕ → ℕ → Members
begun_data kind by = put (codes "by") (number (unsigned by)) (put (codes "e") (string kind) no_members)

abbrev result_data : Result (List ℕ) (List ℕ) → Members → Members
result_data (Ok value) found = put (codes "ok") (string value) found
result_data (Err error) found = put (codes "err") (string error) found

-- ---- what the data reads as

range_is : (max n : ℕ) → 0 < n → n ≤ max → in_range max n ≡ Some n
range_is max n some within = cond-true _ (Some n) None (and_from _ _ (lt-ltb 0 n some) (le-leb n max within))

up_is : (n : ℕ) → n ≤ 4294967295 → up_to 4294967295 n ≡ Some n
up_is n within = cond-true _ (Some n) None (le-leb n 4294967295 within)

short_is : (key : List ℕ) → length key ≤ 250 → short key ≡ Some key
short_is key within = cond-true _ (Some key) None (le-leb (length key) 250 within)

call_is : (c : CallId) → IsCallWithin c → call_from (in_range LARGEST_CALLER c.caller) (in_range LARGEST_GENERATION c.generation) ≡ Some c
call_is c within = rw (range_is LARGEST_CALLER c.caller within.0.0 within.0.1, range_is LARGEST_GENERATION c.generation within.1 within.2) refl

small : (n : ℕ) → IsCallerNumber n → n < 2 ^ 64
small n within = omega (arith, within.1)

-- what the record of each kind is, and that it reads as its event
abbrev event_data : TextEvent → Data
event_data (Lead by key call own) = object (put (codes "own") (option_data own) (put (codes "c") (call_data call) (put (codes "k") (string key) (begun_data (codes "lead") by))))
event_data (Enter by key call member) = object (put (codes "m") (call_data member) (put (codes "c") (call_data call) (put (codes "k") (string key) (begun_data (codes "enter") by))))
event_data (Forget by key closed) = object (put (codes "closed") (option_data closed) (put (codes "k") (string key) (begun_data (codes "forget") by)))
event_data (ForgetCall by key call hit) = object (put (codes "hit") (string (hit_text hit)) (put (codes "c") (call_data call) (put (codes "k") (string key) (begun_data (codes "forgetcall") by))))
event_data (Settle by call result joiners) = object (put (codes "joiners") (number (unsigned joiners)) (result_data result (put (codes "c") (call_data call) (begun_data (codes "settle") by))))
event_data (Handed by call) = object (put (codes "c") (call_data call) (begun_data (codes "handed") by))

event_is : (e : TextEvent) → IsWithinLimits e → HasCount e → of_json (json_of_event e) ≡ Some (event_data e)
event_is (Lead by key call own) within count =
    rw (of_number by (small by within.0), of_call call within.1, of_option own within.2) refl
event_is (Enter by key call member) within count =
    rw (of_number by (small by within.0), of_call call within.1, of_call member within.2) refl
event_is (Forget by key closed) within count =
    rw (of_number by (small by within.0), of_option closed within.1) refl
event_is (ForgetCall by key call hit) within count =
    rw (of_number by (small by within.0), of_call call within.1) refl
event_is (Settle by call (Ok value) joiners) within count = rw (of_number by (small by within.0), of_call call within.1, of_number joiners (omega (arith, count))) refl
event_is (Settle by call (Err error) joiners) within count = rw (of_number by (small by within.0), of_call call within.1, of_number joiners (omega (arith, count))) refl
event_is (Handed by call) within count = rw (of_number by (small by within.0), of_call call within.1) refl

data_reads : (entered : CallId → ℕ) (e : TextEvent) → IsWithinLimits e → HasCount e → HasShortKey e → event_in plain_format entered (event_data e) ≡ Some e
unfolding event_in timed_event_in event_of_kind lead_in enter_in forget_in forget_call_in settle_in handed_in
data_reads entered (Lead by key call None) within count short = rw (range_is LARGEST_CALLER by within.0.0 within.0.1, short_is key short, call_is call within.1) refl
data_reads entered (Lead by key call (Some own)) within count short = rw (range_is LARGEST_CALLER by within.0.0 within.0.1, short_is key short, call_is call within.1, call_is own within.2) refl
data_reads entered (Enter by key call member) within count short = rw (range_is LARGEST_CALLER by within.0.0 within.0.1, short_is key short, call_is call within.1, call_is member within.2) refl
data_reads entered (Forget by key None) within count short = rw (range_is LARGEST_CALLER by within.0.0 within.0.1, short_is key short) refl
data_reads entered (Forget by key (Some closed)) within count short = rw (range_is LARGEST_CALLER by within.0.0 within.0.1, short_is key short, call_is closed within.1) refl
data_reads entered (ForgetCall by key call Closed) within count short = rw (range_is LARGEST_CALLER by within.0.0 within.0.1, short_is key short, call_is call within.1) refl
data_reads entered (ForgetCall by key call Cleared) within count short = rw (range_is LARGEST_CALLER by within.0.0 within.0.1, short_is key short, call_is call within.1) refl
data_reads entered (ForgetCall by key call Missed) within count short = rw (range_is LARGEST_CALLER by within.0.0 within.0.1, short_is key short, call_is call within.1) refl
data_reads entered (Settle by call (Ok value) joiners) within count short = rw (range_is LARGEST_CALLER by within.0.0 within.0.1, call_is call within.1, up_is joiners count) refl
data_reads entered (Settle by call (Err error) joiners) within count short = rw (range_is LARGEST_CALLER by within.0.0 within.0.1, call_is call within.1, up_is joiners count) refl
data_reads entered (Handed by call) within count short = rw (range_is LARGEST_CALLER by within.0.0 within.0.1, call_is call within.1) refl

pub event_reads : (entered : CallId → ℕ) (e : TextEvent) → IsWithinLimits e → HasCount e → HasShortKey e → option_and_then (event_in plain_format entered) (of_json (json_of_event e)) ≡ Some e
event_reads entered e within count short = ap (option_and_then (event_in plain_format entered)) (event_is e within count) ∙ data_reads entered e within count short

-- ---- its numbers are numbers, and it nests no deeper than two

call_numbers : (c : CallId) → IsCallWithin c → HasNumbers (call_of c)
call_numbers c within = (IsNumber-decimal c.caller (small c.caller within.0), (IsNumber-decimal c.generation (omega (arith, within.2)), tt))

option_numbers : (o : Option CallId) → IfSome o IsCallWithin → HasNumbers (option_of o)
option_numbers None within = tt
option_numbers (Some c) within = call_numbers c within

pub event_numbers : (e : TextEvent) → IsWithinLimits e → HasCount e → HasNumbers (json_of_event e)
event_numbers (Lead by key call own) within count = (tt, (IsNumber-decimal by (small by within.0), (tt, (call_numbers call within.1, (option_numbers own within.2, tt)))))
event_numbers (Enter by key call member) within count = (tt, (IsNumber-decimal by (small by within.0), (tt, (call_numbers call within.1, (call_numbers member within.2, tt)))))
event_numbers (Forget by key closed) within count = (tt, (IsNumber-decimal by (small by within.0), (tt, (option_numbers closed within.1, tt))))
event_numbers (ForgetCall by key call hit) within count = (tt, (IsNumber-decimal by (small by within.0), (tt, (call_numbers call within.1, (tt, tt)))))
event_numbers (Settle by call (Ok value) joiners) within count = (tt, (IsNumber-decimal by (small by within.0), (call_numbers call within.1, (tt, (IsNumber-decimal joiners (omega (arith, count)), tt)))))
event_numbers (Settle by call (Err error) joiners) within count = (tt, (IsNumber-decimal by (small by within.0), (call_numbers call within.1, (tt, (IsNumber-decimal joiners (omega (arith, count)), tt)))))
event_numbers (Handed by call) within count = (tt, (IsNumber-decimal by (small by within.0), (call_numbers call within.1, tt)))

pub event_shallow : (e : TextEvent) → depth (json_of_event e) ≤ max_depth
event_shallow (Lead by key call None) = omega arith
event_shallow (Lead by key call (Some own)) = omega arith
event_shallow (Enter by key call member) = omega arith
event_shallow (Forget by key None) = omega arith
event_shallow (Forget by key (Some closed)) = omega arith
event_shallow (ForgetCall by key call hit) = omega arith
event_shallow (Settle by call (Ok value) joiners) = omega arith
event_shallow (Settle by call (Err error) joiners) = omega arith
event_shallow (Handed by call) = omega arith

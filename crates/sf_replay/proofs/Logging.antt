-- what the loop that reads logs keeps
use Rattle.std.proofs.Common.{◌≡◌, ◌∙◌, ℕ, ◌+◌, ◌<◌, ◌≤◌, cond, List, [], ◌∷◌, length, get_or, drop, Option, Some, None, Err, sym, ap, arith, option_and_then}
use Rattle.std.proofs.lemmas.List.{drop_more, length-append}
use Rattle.std.proofs.lemmas.List.Sums.{sum_by_push}
use Rattle.sf_history.specs.declared.call.CallId.{CallId}
use Rattle.sf_history.specs.History.{enters, joined}
use Rattle.sf_replay.specs.declared.entered.Entered.{Entered}
use Rattle.sf_replay.specs.declared.record.Interval.{Interval}
use Rattle.sf_replay.specs.Entered.{entered_in}
use Rattle.sf_replay.specs.Record.{TextEvent, event_in}
use Rattle.sf_replay.specs.RecordText.{json_of, format_of, record_of, time_of, lost_of_line}
use Rattle.sf_replay.proofs.Counts.{event_same}
use Rattle.sf_replay.specs.Logs.{Read, with_event, with_lost, then_read, or_format, logs_of}

-- what is left to read goes on to what all lines say, and each call has its count
pub record IsLogging (all : List (List ℕ)) (start : Read) (first : ℕ) (i format : ℕ) (read : Read) (entered : Entered) : Type 0 where
  pub whole : logs_of (i + 2) format read (drop i all) ≡ logs_of 2 first start all
  pub counts : (c : CallId) → entered_in entered c ≡ joined read.events c
  pub few : length read.events ≤ i
  pub paired : length read.times ≡ length read.events

line_next : (all : List (List ℕ)) (i format : ℕ) (read : Read) → i < length all → logs_of (i + 2) format read (drop i all) ≡ logs_of (i + 2) format read (get_or all i [] ∷ drop (i + 1) all)
line_next all i format read within = ap (logs_of (i + 2) format read) (drop_more all i [] within)

next_number : (i format : ℕ) (read : Read) (lines : List (List ℕ)) → logs_of (i + 2 + 1) format read lines ≡ logs_of (i + 1 + 2) format read lines
next_number i format read lines = ap (λ n. logs_of n format read lines) (omega arith)

-- a line that names a format begins a log
pub logging_format : (all : List (List ℕ)) (start : Read) (first i format next more : ℕ) (read : Read) (entered : Entered) → i < length all → format_of (get_or all i []) ≡ Some next → more ≡ lost_of_line (get_or all i [])
    → IsLogging all start first i format read entered → IsLogging all start first (i + 1) next (with_lost read more) entered
logging_format all start first i format next more read entered within is lost before =
    let line = get_or all i [] in
    let rest = drop (i + 1) all in
    let here = line_next all i format read within
    ∙ ap (λ o. or_format o (then_read (i + 2) (record_of format read.events line) (λ event. logs_of (i + 2 + 1) format (with_event read event (time_of format line)) rest)) (λ n. logs_of (i + 2 + 1) n (with_lost read (lost_of_line line)) rest)) is
    ∙ next_number i next (with_lost read (lost_of_line line)) rest ∙ ap (λ l. logs_of (i + 1 + 2) next (with_lost read l) rest) (sym lost) in
    record { whole = sym here ∙ before.whole; counts = before.counts; few = omega (arith, before.few); paired = before.paired }

record_here : (all : List (List ℕ)) (i format : ℕ) (read : Read) (found : Option TextEvent) → i < length all → format_of (get_or all i []) ≡ None → record_of format read.events (get_or all i []) ≡ found
    → logs_of (i + 2) format read (drop i all) ≡ then_read (i + 2) found (λ event. logs_of (i + 2 + 1) format (with_event read event (time_of format (get_or all i []))) (drop (i + 1) all))
record_here all i format read found within none is =
    let line = get_or all i [] in
    let rest = drop (i + 1) all in
    line_next all i format read within
    ∙ ap (λ o. or_format o (then_read (i + 2) (record_of format read.events line) (λ event. logs_of (i + 2 + 1) format (with_event read event (time_of format line)) rest)) (λ n. logs_of (i + 2 + 1) n (with_lost read (lost_of_line line)) rest)) none
    ∙ ap (λ o. then_read (i + 2) o (λ event. logs_of (i + 2 + 1) format (with_event read event (time_of format line)) rest)) is

-- any other line is a record
pub logging_record : (all : List (List ℕ)) (start : Read) (first i format : ℕ) (read : Read) (entered new : Entered) (event : TextEvent) (time : Option Interval) → i < length all → format_of (get_or all i []) ≡ None
    → record_of format read.events (get_or all i []) ≡ Some event → time ≡ time_of format (get_or all i []) → ((c : CallId) → entered_in new c ≡ entered_in entered c + cond (enters c event) 1 0)
    → IsLogging all start first i format read entered → IsLogging all start first (i + 1) format (with_event read event time) new
logging_record all start first i format read entered new event time within none is at noted before =
    let rest = drop (i + 1) all in
    let here = record_here all i format read (Some event) within none is ∙ next_number i format (with_event read event (time_of format (get_or all i []))) rest
    ∙ ap (λ t. logs_of (i + 1 + 2) format (with_event read event t) rest) (sym at) in
    record {
      whole = sym here ∙ before.whole;
      counts = λ c. noted c ∙ ap (λ n. n + cond (enters c event) 1 0) (before.counts c) ∙ sym (sum_by_push (λ x. cond (enters c x) 1 0) read.events event);
      few = omega (arith, before.few, length-append read.events (event ∷ []));
      paired = omega (arith, before.paired, length-append read.events (event ∷ []), length-append read.times (time ∷ []));
    }

-- or the least bad line
pub logging_bad : (all : List (List ℕ)) (start : Read) (first i format : ℕ) (read : Read) (entered : Entered) → i < length all → format_of (get_or all i []) ≡ None → record_of format read.events (get_or all i []) ≡ None
    → IsLogging all start first i format read entered → logs_of 2 first start all ≡ Err (i + 2)
logging_bad all start first i format read entered within none is before = sym before.whole ∙ record_here all i format read None within none is

-- what a line is read as, by the counts
pub logged_record_of : (format : ℕ) (events : List TextEvent) (entered : Entered) → ((c : CallId) → entered_in entered c ≡ joined events c) → (line : List ℕ)
    → option_and_then (event_in format (entered_in entered)) (json_of line) ≡ record_of format events line
logged_record_of format events entered counts line = λ j. option_and_then (λ d. event_same format (entered_in entered) (joined events) (λ first. counts) d j) (json_of line)

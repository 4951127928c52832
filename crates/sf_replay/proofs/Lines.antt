-- lines of a text
use Rattle.std.proofs.Common.{◌≡◌, cond, Option, option_and_then, ℕ, ◌-◌, map, Bor, zero, suc, ◌+◌, ◌==◌, ◌<◌, false, List, [], ◌∷◌, ◌++◌, length, take, drop, get_or, Ok, Err, ◌≤◌, Some, None, inl, inr, refl, sym, ◌∙◌, ap, subst, arith, eq-eqb, IsUtf8}
use Rattle.std.proofs.lemmas.Bool.{cond-true, cond-false, cases_Bool}
use Rattle.std.proofs.lemmas.Str.{is_utf8-from_IsUtf8, IsUtf8-from_is_utf8}
use Rattle.std.proofs.lemmas.List.Sums.{sum_by_push, count_by-le-length}
use Rattle.std.proofs.lemmas.List.{length-append, drop_more, drop_all, get_or-map, length-map, take-map, take_more, take_all, map_push}
use Rattle.std.specs.Str.{is_utf8}
use Rattle.serde_json.specs.Data.{Data}
use Rattle.serde_json.specs.Read.{read}
use Rattle.sf_history.specs.declared.call.CallId.{CallId}
use Rattle.sf_history.specs.History.{enters, joined}
use Rattle.sf_replay.specs.declared.entered.Entered.{Entered}
use Rattle.sf_replay.specs.Entered.{entered_in}
use Rattle.sf_replay.specs.Record.{TextEvent, event_in}
use Rattle.sf_replay.specs.declared.record.Interval.{Interval}
use Rattle.sf_replay.specs.RecordText.{time_of, json_of, record_of, without_empty_last, then_events, events_of}
use Rattle.sf_replay.proofs.Counts.{event_same}

-- the JSON value of a line that is text, and of one that is none
pub json_read : (line : List ℕ) (d : Data) → IsUtf8 line → read line ≡ Some d → json_of line ≡ Some d
unfolding json_of
json_read line d text is = cond-true (is_utf8 line) (read line) None (is_utf8-from_IsUtf8 line text) ∙ is

pub json_none : (line : List ℕ) → (IsUtf8 line → read line ≡ None) → json_of line ≡ None
unfolding json_of
json_none line none =
    elim (cases_Bool (is_utf8 line)) [
      | inl is ↦ cond-true (is_utf8 line) (read line) None is ∙ none (IsUtf8-from_is_utf8 line is)
      | inr isnt ↦ cond-false (is_utf8 line) (read line) None isnt
    ]

-- an empty last part goes, and any other stays
pub empty_last : (ls : List (List ℕ)) (n : ℕ) (d : List ℕ) → length ls ≡ n + 1 → length (get_or ls n d) ≡ 0 → without_empty_last ls ≡ take n ls
empty_last [] n d counted empty = absurd (omega arith)
empty_last (x ∷ []) zero d counted empty = cond-true (length x == 0) [] (x ∷ []) (eq-eqb (length x) 0 empty)
empty_last (x ∷ []) (suc n) d counted empty = absurd (omega arith)
empty_last (x ∷ y ∷ more) zero d counted empty = absurd (omega arith)
empty_last (x ∷ y ∷ more) (suc n) d counted empty = ap (λ z. x ∷ z) (empty_last (y ∷ more) n d (omega arith) empty)

pub kept_last : (ls : List (List ℕ)) (n : ℕ) (d : List ℕ) → length ls ≡ n + 1 → (length (get_or ls n d) == 0) ≡ false → without_empty_last ls ≡ ls
kept_last [] n d counted full = absurd (omega arith)
kept_last (x ∷ []) zero d counted full = cond-false (length x == 0) [] (x ∷ []) full
kept_last (x ∷ []) (suc n) d counted full = absurd (omega arith)
kept_last (x ∷ y ∷ more) zero d counted full = absurd (omega arith)
kept_last (x ∷ y ∷ more) (suc n) d counted full = ap (λ z. x ∷ z) (kept_last (y ∷ more) n d (omega arith) full)

-- what the loop that reads keeps: the events so far go on to those of all lines, and calls have the counts that their format asks for
pub record IsRead (format : ℕ) (lines : List (List ℕ)) (i : ℕ) (events : List TextEvent) (entered : Entered) : Type 0 where
  pub whole : events_of format events (drop i lines) ≡ events_of format [] lines
  pub length_is : length events ≡ i
  pub counts : format ≡ 1 → (c : CallId) → entered_in entered c ≡ joined events c

pub read_none : (format : ℕ) (lines : List (List ℕ)) (events : List TextEvent) (entered : Entered) → events ≡ [] → ((c : CallId) → entered_in entered c ≡ 0) → IsRead format lines 0 events entered
read_none format lines events entered is none =
    subst (λ z. IsRead format lines 0 z entered) (sym is) (record { whole = refl; length_is = refl; counts = λ first. none })

-- there is room for one more entry
pub entries_few : (format : ℕ) (lines : List (List ℕ)) (i : ℕ) (events : List TextEvent) (entered : Entered) → IsRead format lines i events entered → format ≡ 1 → (c : CallId) → entered_in entered c ≤ i
entries_few format lines i events entered before first c = omega (arith, before.counts first c, count_by-le-length (enters c) events, before.length_is)

-- what a line is read as
pub recorded : (format : ℕ) (lines : List (List ℕ)) (i : ℕ) (events : List TextEvent) (entered : Entered) (line : List ℕ) → IsRead format lines i events entered
    → option_and_then (event_in format (entered_in entered)) (json_of line) ≡ record_of format events line
recorded format lines i events entered line before = λ j. option_and_then (λ d. event_same format (entered_in entered) (joined events) before.counts d j) (json_of line)

here_read : (format i : ℕ) (lines : List (List ℕ)) (events : List TextEvent) (found : Option TextEvent) → i < length lines → record_of format events (get_or lines i []) ≡ found
    → events_of format events (drop i lines) ≡ then_events (length events + 2) found (λ e. events_of format (events ++ e ∷ []) (drop (i + 1) lines))
here_read format i lines events found within is =
    ap (events_of format events) (drop_more lines i [] within) ∙ ap (λ o. then_events (length events + 2) o (λ e. events_of format (events ++ e ∷ []) (drop (i + 1) lines))) is

-- one more line is read; the first format notes its entry
pub read_more : (format : ℕ) (lines : List (List ℕ)) (i : ℕ) (events : List TextEvent) (entered new : Entered) (e : TextEvent) → i < length lines → record_of format events (get_or lines i []) ≡ Some e
    → (format ≡ 1 → (c : CallId) → entered_in new c ≡ entered_in entered c + cond (enters c e) 1 0) → IsRead format lines i events entered → IsRead format lines (i + 1) (events ++ e ∷ []) new
read_more format lines i events entered new e within is noted before =
    record {
      whole = sym (here_read format i lines events (Some e) within is) ∙ before.whole;
      length_is = length-append events (e ∷ []) ∙ ap (λ n. n + 1) before.length_is;
      counts = λ first c. noted first c ∙ ap (λ n. n + cond (enters c e) 1 0) (before.counts first c) ∙ sym (sum_by_push (λ x. cond (enters c x) 1 0) events e);
    }

-- a line that is no record is the least one
pub read_bad : (format : ℕ) (lines : List (List ℕ)) (i : ℕ) (events : List TextEvent) (entered : Entered) → i < length lines → record_of format events (get_or lines i []) ≡ None
    → IsRead format lines i events entered → events_of format [] lines ≡ Err (i + 2)
read_bad format lines i events entered within is before = sym before.whole ∙ here_read format i lines events None within is ∙ ap (λ n. Err (n + 2)) before.length_is

-- all lines are read
pub read_all : (format : ℕ) (lines : List (List ℕ)) (i : ℕ) (events : List TextEvent) (entered : Entered) → length lines ≤ i → IsRead format lines i events entered → events_of format [] lines ≡ Ok events
read_all format lines i events entered past before = sym before.whole ∙ ap (events_of format events) (drop_all i lines past)

-- what the loop keeps of the times
pub record IsReading (format : ℕ) (lines : List (List ℕ)) (i : ℕ) (events : List TextEvent) (entered : Entered) (times : List (Option Interval)) : Type 0 where
  pub read : IsRead format lines i events entered
  pub timed : times ≡ map (time_of format) (take i lines)

pub times_more : (format i : ℕ) (lines : List (List ℕ)) (times : List (Option Interval)) (time : Option Interval) → i < length lines → time ≡ time_of format (get_or lines i []) → times ≡ map (time_of format) (take i lines)
    → times ++ time ∷ [] ≡ map (time_of format) (take (i + 1) lines)
times_more format i lines times time within is before =
    (λ j. before j ++ is j ∷ []) ∙ sym (map_push (time_of format) (take i lines) (get_or lines i [])) ∙ sym (ap (map (time_of format)) (take_more lines i [] within))

pub no_times : (format : ℕ) (lines : List (List ℕ)) (times : List (Option Interval)) → times ≡ [] → times ≡ map (time_of format) (take 0 lines)
no_times format lines times is = is

pub times_all : (format i : ℕ) (lines : List (List ℕ)) (times : List (Option Interval)) → length lines ≤ i → times ≡ map (time_of format) (take i lines) → times ≡ map (time_of format) lines
times_all format i lines times past is = is ∙ ap (map (time_of format)) (take_all i lines past)

-- what is lent
abbrev pub shown : List (Bor (List ℕ)) → List (List ℕ)
shown = map (λ (line : Bor (List ℕ)). line.now)

shown_last : (ls : List (Bor (List ℕ))) (last : Bor (List ℕ)) → 0 < length ls → last ≡ get_or ls (length ls - 1) last → get_or (shown ls) (length ls - 1) last.now ≡ last.now
shown_last ls last some is = get_or-map (λ (line : Bor (List ℕ)). line.now) ls (length ls - 1) last last.now (omega arith) ∙ ap (λ (line : Bor (List ℕ)). line.now) (sym is)

shown_counted : (ls : List (Bor (List ℕ))) → 0 < length ls → length (shown ls) ≡ (length ls - 1) + 1
shown_counted ls some = omega (arith, length-map ls (λ (line : Bor (List ℕ)). line.now))

-- the same two facts of lines that are lent
pub empty_shown : (ls new : List (Bor (List ℕ))) (last : Bor (List ℕ)) → 0 < length ls → last ≡ get_or ls (length ls - 1) last → length last.now ≡ 0 → new ≡ take (length ls - 1) ls
    → shown new ≡ without_empty_last (shown ls)
empty_shown ls new last some is empty left =
    ap shown left ∙ sym (take-map (λ (line : Bor (List ℕ)). line.now) (length ls - 1) ls)
    ∙ sym (empty_last (shown ls) (length ls - 1) last.now (shown_counted ls some) (ap length (shown_last ls last some is) ∙ empty))

pub kept_shown : (ls : List (Bor (List ℕ))) (last : Bor (List ℕ)) → 0 < length ls → last ≡ get_or ls (length ls - 1) last → (length last.now == 0) ≡ false → shown ls ≡ without_empty_last (shown ls)
kept_shown ls last some is full =
    sym (kept_last (shown ls) (length ls - 1) last.now (shown_counted ls some) (ap (λ line. length line == 0) (shown_last ls last some is) ∙ full))

-- a line that is lent, among those shown
pub shown_at : (ls : List (Bor (List ℕ))) (i : ℕ) (d : Bor (List ℕ)) → i < length ls → get_or (shown ls) i [] ≡ (get_or ls i d).now
shown_at ls i d within = get_or-map (λ (line : Bor (List ℕ)). line.now) ls i d [] within

pub shown_within : (ls : List (Bor (List ℕ))) (i : ℕ) → i < length ls → i < length (shown ls)
shown_within ls i within = omega (arith, length-map ls (λ (line : Bor (List ℕ)). line.now))

pub shown_past : (ls : List (Bor (List ℕ))) (i : ℕ) → length ls ≤ i → length (shown ls) ≤ i
shown_past ls i past = omega (arith, length-map ls (λ (line : Bor (List ℕ)). line.now))

use Rattle.std.proofs.Common.{rules, ◌∙◌, sym, ap, option_map}
use Rattle.sf_replay.specs.RecordText.{record_of, format_of, time_of, lost_of_line}
use Rattle.sf_replay.specs.Logs.{Read, nothing_read, with_lost}
use Rattle.sf_replay.proofs.Lines.{shown, shown_at, shown_within}
use Rattle.sf_replay.proofs.Logging.{logged_record_of, logging_format, logging_record, logging_bad}
use Rattle.sf_replay.proofs.logs.logs_after.Goals as goal

pub loop-i-preserved-in-Some : goal.loop-i-preserved-in-Some
loop-i-preserved-in-Some c =
    let lines = shown c.args.lines.now in
    let line = shown_at c.args.lines.now c.loop-i.i _ c.loop-i-test.true in
    let read : Read = record { events = c.loop-i.events.items; times = c.loop-i.times.items; lost = c.loop-i.lost } in
    let found = ap format_of line ∙ sym c.in_ok-next.ensures.format ∙ ap (option_map (λ h. h.0)) c.in-Some.is in
    let lost = rw c.in-Some.is at c.in_ok-next.ensures.lost in
    let went = logging_format lines (with_lost nothing_read c.args.said) c.args.first c.loop-i.i c.loop-i.format c.in-Some.next c.in-Some.more read c.loop-i.entered (shown_within c.args.lines.now c.loop-i.i c.loop-i-test.true) found
    (lost ∙ ap lost_of_line (sym line)) c.loop-i.invariant in
    rw c.saturating_add-lost.ensures went

pub returns-in_default-2-clause-bad : goal.returns-in_default-2-clause-bad
returns-in_default-2-clause-bad c =
    let lines = shown c.args.lines.now in
    let line = shown_at c.args.lines.now c.loop-i.i _ c.loop-i-test.true in
    let read : Read = record { events = c.loop-i.events.items; times = c.loop-i.times.items; lost = c.loop-i.lost } in
    let none = ap format_of line ∙ sym c.in_ok-next.ensures.format ∙ ap (option_map (λ h. h.0)) c.in_default.is in
    let found = sym c.in_ok-event.ensures.event ∙ ap (option_map (λ r. r.0)) c.in_default-2.is in
    let here = ap (record_of c.loop-i.format read.events) line ∙ sym (logged_record_of c.loop-i.format read.events c.loop-i.entered c.loop-i.invariant.counts _) ∙ found in
    logging_bad lines (with_lost nothing_read c.args.said) c.args.first c.loop-i.i c.loop-i.format read c.loop-i.entered (shown_within c.args.lines.now c.loop-i.i c.loop-i-test.true) none here c.loop-i.invariant

pub loop-i-preserved : goal.loop-i-preserved
loop-i-preserved c =
    let lines = shown c.args.lines.now in
    let line = shown_at c.args.lines.now c.loop-i.i _ c.loop-i-test.true in
    let read : Read = record { events = c.loop-i.events.items; times = c.loop-i.times.items; lost = c.loop-i.lost } in
    let none = ap format_of line ∙ sym c.in_ok-next.ensures.format ∙ ap (option_map (λ h. h.0)) c.in_default.is in
    let found = sym c.in_ok-event.ensures.event ∙ ap (option_map (λ r. r.0)) c.in-Some-2.is in
    let here = ap (record_of c.loop-i.format read.events) line ∙ sym (logged_record_of c.loop-i.format read.events c.loop-i.entered c.loop-i.invariant.counts _) ∙ found in
    let time = rw c.in-Some-2.is at c.in_ok-event.ensures.time in
    let went = logging_record lines (with_lost nothing_read c.args.said) c.args.first c.loop-i.i c.loop-i.format read c.loop-i.entered c.note.new.self c.in-Some-2.event c.in-Some-2.time
    (shown_within c.args.lines.now c.loop-i.i c.loop-i-test.true) none here (time ∙ ap (time_of c.loop-i.format) (sym line)) (c.in_ok-note.ensures (search rules)) c.loop-i.invariant in
    rw (c.in_ok-push.ensures.items, c.in_ok-push-2.ensures.items) went

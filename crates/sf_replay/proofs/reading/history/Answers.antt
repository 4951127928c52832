use Rattle.std.proofs.Common.{◌∙◌, Ok, sym, ap, arith, option_map}
use Rattle.sf_replay.specs.RecordText.{record_of, time_of}
use Rattle.sf_replay.proofs.Lines.{shown, shown_at, shown_within, shown_past, entries_few, recorded, read_none, read_more, read_bad, read_all, no_times, times_more, times_all}
use Rattle.sf_replay.proofs.reading.history.Goals as goal

pub loop-i-init : goal.loop-i-init
loop-i-init c =
    record {
      read = read_none c.args.format (shown c.args.lines.now) c.new-events.result.items c.new-entered.result c.new-events.ensures.items c.new-entered.ensures;
      timed = no_times c.args.format (shown c.args.lines.now) c.new-times.result.items c.new-times.ensures.items;
    }

pub returns-in_default-clause-bad : goal.returns-in_default-clause-bad
returns-in_default-clause-bad c =
    let lines = shown c.args.lines.now in
    let events = c.loop-i.events.items in
    let found = sym c.in_ok-event.ensures.event ∙ ap (option_map (λ r. r.0)) c.in_default.is in
    let here = ap (record_of c.args.format events) (shown_at c.args.lines.now c.loop-i.i _ c.loop-i-test.true)
    ∙ sym (recorded c.args.format lines c.loop-i.i events c.loop-i.entered _ c.loop-i.invariant.read) ∙ found in
    read_bad c.args.format lines c.loop-i.i events c.loop-i.entered (shown_within c.args.lines.now c.loop-i.i c.loop-i-test.true) here c.loop-i.invariant.read

pub note-requires : goal.note-requires
note-requires c =
    record { room = λ first id. omega (arith, entries_few c.args.format (shown c.args.lines.now) c.loop-i.i c.loop-i.events.items c.loop-i.entered c.loop-i.invariant.read first id, c.loop-i-test.true) }

pub loop-i-preserved : goal.loop-i-preserved
loop-i-preserved c =
    let lines = shown c.args.lines.now in
    let events = c.loop-i.events.items in
    let within = shown_within c.args.lines.now c.loop-i.i c.loop-i-test.true in
    let line = shown_at c.args.lines.now c.loop-i.i _ c.loop-i-test.true in
    let found = sym c.in_ok-event.ensures.event ∙ ap (option_map (λ r. r.0)) c.in-Some.is in
    let here = ap (record_of c.args.format events) line ∙ sym (recorded c.args.format lines c.loop-i.i events c.loop-i.entered _ c.loop-i.invariant.read) ∙ found in
    let time = rw c.in-Some.is at c.in_ok-event.ensures.time in
    record {
      read = rw c.in_ok-push.ensures.items
          (read_more c.args.format lines c.loop-i.i events c.loop-i.entered c.note.new.self c.in-Some.event within here c.in_ok-note.ensures c.loop-i.invariant.read);
      timed = c.in_ok-push-2.ensures.items
          ∙ times_more c.args.format c.loop-i.i lines c.loop-i.times.items c.in-Some.time within (time ∙ ap (time_of c.args.format) (sym line)) c.loop-i.invariant.timed;
    }

pub returns-clause-ok : goal.returns-clause-ok
returns-clause-ok c =
    read_all c.args.format (shown c.args.lines.now) c.loop-i.i c.loop-i.events.items c.loop-i.entered (shown_past c.args.lines.now c.loop-i.i c.loop-i-test.false) c.loop-i.invariant.read
    ∙ ap Ok (sym c.from_vec.ensures)

pub returns-clause-times : goal.returns-clause-times
returns-clause-times c = times_all c.args.format c.loop-i.i (shown c.args.lines.now) c.loop-i.times.items (shown_past c.args.lines.now c.loop-i.i c.loop-i-test.false) c.loop-i.invariant.timed

use Rattle.std.proofs.Common.{◌≡◌, ◌++◌, ◌∙◌, Ok, All, ap, subst, codes, string_bytes}
use Rattle.sf_history.specs.Limits.{IsWithinLimits}
use Rattle.sf_replay.specs.RecordText.{history_of}
use Rattle.sf_replay.specs.Written.{HasShortKey}
use Rattle.sf_replay.proofs.RoundTrip.{written_more, written_all}
use Rattle.sf_replay.proofs.writing.write.Goals as goal

pub loop-event-preserved : goal.loop-event-preserved
loop-event-preserved c =
    let added = c.in_ok-push_str-2.ensures.bytes ∙ ap (λ text. text ++ codes "\n") c.in_ok-push_str.ensures.bytes in
    written_more c.events-event-items.result.now c.loop-event.event-index c.event-item.result (string_bytes c.loop-event.text) c.as_str.result.now _
    c.loop-event-test.true c.event-item.is (c.as_str.ensures.value ∙ c.in_ok-record.ensures.text) c.as_str.utf8 c.in_ok-record.ensures.counted added c.loop-event.invariant

pub returns-clause-reads_back : goal.returns-clause-reads_back
returns-clause-reads_back c =
    subst (λ h. All IsWithinLimits h → All HasShortKey h → history_of (string_bytes c.loop-event.text) ≡ Ok h) c.events-event-items.ensures
    (written_all c.events-event-items.result.now c.loop-event.event-index (string_bytes c.loop-event.text) c.loop-event-test.false c.loop-event.invariant).1

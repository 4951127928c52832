-- an engine writes the text that answers its input, or the line of a refusal
use Rattle.std.proofs.Common.{string_bytes}
use Rattle.sf_model.specs.RefusalText as script_text
use Rattle.sf_replay.specs.RecordText as record_text
use Rattle.sf_cli_engines.specs.Merging.{IsMergedText, IsMergeRefused}
use Rattle.sf_cli_engines.specs.Engines.{IsScriptRefused}
use Rattle.sf_cli_engines.specs.Playing.{IsTraceText, HasPicture}
use Rattle.sf_cli_engines.specs.Recording.{IsScriptRecords, IsScheduleRecords}
use Rattle.sf_cli_engines.proofs.Answered.{answer_written, answer_part, schedule_part, script_refused, merge_refused}
use Rattle.sf_cli_engines.proofs.engine.Engine.answer.Goals as goal

pub returns-in-Run-true-clause-written : goal.returns-in-Run-true-clause-written
returns-in-Run-true-clause-written g c =
    let refused = script_refused c.args.input.now c.script_records.result c.script_records.ensures.refused in
    rw (c.in-Run-true.is, c.in-Run-true.history-test)
    (answer_written string_bytes script_text.refusal_text (IsScriptRecords c.args.input.now) (IsScriptRefused c.args.input.now)
    c.script_records.result c.write_answer.result _ _ c.script_records.ensures.obeyed refused c.write_answer.ensures.answered c.write_answer.ensures.refused)

pub returns-in-Run-true-clause-part : goal.returns-in-Run-true-clause-part
returns-in-Run-true-clause-part g c =
    let refused = script_refused c.args.input.now c.script_records.result c.script_records.ensures.refused in
    rw (c.in-Run-true.is, c.in-Run-true.history-test)
    (answer_part string_bytes script_text.refusal_text (IsScriptRecords c.args.input.now) (IsScriptRefused c.args.input.now)
    c.script_records.result _ _ c.script_records.ensures.obeyed refused c.write_answer.ensures.answered_part c.write_answer.ensures.refused_part)

pub returns-in-Lines-clause-part : goal.returns-in-Lines-clause-part
returns-in-Lines-clause-part g c =
    let wrote = c.write_answer-in-Lines.ensures in
    rw (c.in-Steps.is, c.in-Lines.is)
    (schedule_part string_bytes (IsTraceText c.args.input.now) c.args.input.now c.traced.result _ _
    c.traced.ensures.played c.traced.ensures.refused wrote.answered_part wrote.refused_part)

pub returns-in-History-clause-part : goal.returns-in-History-clause-part
returns-in-History-clause-part g c =
    let wrote = c.write_answer-in-History.ensures in
    rw (c.in-Steps.is, c.in-History.is)
    (schedule_part string_bytes (IsScheduleRecords c.args.input.now) c.args.input.now c.schedule_records.result _ _
    c.schedule_records.ensures.played c.schedule_records.ensures.refused wrote.answered_part wrote.refused_part)

pub returns-in-Picture-clause-part : goal.returns-in-Picture-clause-part
returns-in-Picture-clause-part g c =
    let wrote = c.write_answer-in-Picture.ensures in
    rw (c.in-Steps.is, c.in-Picture.is)
    (schedule_part string_bytes (λ text. HasPicture c.args.input.now) c.args.input.now c.drawn.result _ _
    c.drawn.ensures.played c.drawn.ensures.refused wrote.answered_part wrote.refused_part)

pub returns-in-Check-clause-written : goal.returns-in-Check-clause-written
returns-in-Check-clause-written g c = rw c.in-Check.is c.check_as.ensures.written

pub returns-in-CheckLogs-clause-part : goal.returns-in-CheckLogs-clause-part
returns-in-CheckLogs-clause-part g c = rw c.in-CheckLogs.is c.check_logs.ensures.part

pub returns-in-CheckLogs-clause-written : goal.returns-in-CheckLogs-clause-written
returns-in-CheckLogs-clause-written g c = rw c.in-CheckLogs.is c.check_logs.ensures.written

pub returns-in-Merge-clause-written : goal.returns-in-Merge-clause-written
returns-in-Merge-clause-written g c =
    let refused = merge_refused c.args.input.now c.merged.result c.merged.ensures.refused in
    rw c.in-Merge.is
    (answer_written string_bytes record_text.refusal_text (IsMergedText c.args.input.now) (IsMergeRefused c.args.input.now)
    c.merged.result c.write_answer-in-Merge.result _ _ c.merged.ensures.merged refused c.write_answer-in-Merge.ensures.answered c.write_answer-in-Merge.ensures.refused)

pub returns-in-Merge-clause-part : goal.returns-in-Merge-clause-part
returns-in-Merge-clause-part g c =
    let refused = merge_refused c.args.input.now c.merged.result c.merged.ensures.refused in
    rw c.in-Merge.is
    (answer_part string_bytes record_text.refusal_text (IsMergedText c.args.input.now) (IsMergeRefused c.args.input.now)
    c.merged.result _ _ c.merged.ensures.merged refused c.write_answer-in-Merge.ensures.answered_part c.write_answer-in-Merge.ensures.refused_part)

-- each event that is read has a time, or none
use Rattle.std.proofs.Common.{◌∙◌, length, ap}
use Rattle.sf_cli_engines.proofs.ReadTimes.{times_count}
use Rattle.sf_cli_engines.proofs.timing.judge_times.Goals as goal

pub judge_in_time-requires : goal.judge_in_time-requires
judge_in_time-requires c =
    let counted = times_count c.args.input.now c.in-Ok.recording.history c.in-Ok.ensures.ok in
    record { times = ap length (c.as_slice.ensures.value ∙ c.in-Ok.ensures.times) ∙ counted }

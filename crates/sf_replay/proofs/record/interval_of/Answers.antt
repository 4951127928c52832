use Rattle.std.proofs.Common.{◌<◌, ◌≤◌, length, subst}
use Rattle.sf_replay.proofs.Records.{no_time, short_times, long_times}
use Rattle.sf_replay.proofs.record.interval_of.Goals as goal

pub returns-in_default : goal.returns-in_default
returns-in_default c =
    no_time _ _ c.in_ok-as_array.ensures (short_times c.in_ok-as_array.field-0.now.items (subst (λ vs. length vs < 2) c.as_slice.ensures.value c.in_default.len_below))

pub returns-in_default-2 : goal.returns-in_default-2
returns-in_default-2 c =
    no_time _ _ c.in_ok-as_array.ensures (long_times c.in_ok-as_array.field-0.now.items (subst (λ vs. 3 ≤ length vs) c.as_slice.ensures.value c.in_default.len_at_least))

-- how counts of entries are looked up
use Rattle.std.specs.Prelude.{ℕ, Option, Some, None}
use Rattle.std.specs.Ordering.{nat_cmp, ordering_then}
use Rattle.std.specs.declared.cmp.Ordering.{Ordering}
use Rattle.std.specs.BTreeMap.{get_by}
use Rattle.sf_history.specs.declared.call.CallId.{CallId}
use Rattle.sf_replay.specs.declared.entered.Entered.{Entered}

-- how a call compares to the pair of its caller and its generation
abbrev pub compare_call : CallId → ℕ × ℕ → Ordering
compare_call c other = ordering_then (nat_cmp c.caller other.0) (nat_cmp c.generation other.1)

-- a call that has no count was not entered
abbrev pub count_or_none : Option ℕ → ℕ
count_or_none None = 0
count_or_none (Some count) = count

abbrev pub entered_in : Entered → CallId → ℕ
entered_in e c = count_or_none (get_by (compare_call c) e.counts)

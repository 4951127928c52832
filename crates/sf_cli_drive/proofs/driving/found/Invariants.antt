-- what the parts so far come to
use Rattle.std.specs.Prelude.{◌≡◌, ◌*◌, ◌^◌, ◌≤◌, ◌++◌, true, length, All}
use Rattle.std.specs.List.{flat_map, sum_by}
use Rattle.std.specs.Vec.Iter.{into_iter_items, into_iter_len}
use Rattle.sf_replay.specs.Merged.{events_of_logs}
use Rattle.sf_cli_drive.proofs.driving.found.Given as goal

abbrev pub invariant-loop-part : goal.invariant-loop-part
invariant-loop-part l = record {
  parts : l.yielded ++ into_iter_items l.part-iterator ≡ l.fn.parts.items;
  rest : into_iter_len l.part-iterator ≡ length (into_iter_items l.part-iterator);
  answers : l.answers ≡ sum_by (λ part. part.answers) l.yielded;
  few : l.answers ≤ length l.yielded * 2 ^ 32;
  settled : All (λ part. part.settled ≡ true) l.yielded;
  logs : events_of_logs l.logs.items ≡ flat_map (λ part. part.log.items) l.yielded;
}

-- the turns so far
use Rattle.std.specs.Prelude.{◌+◌, ◌^◌, ◌<◌, ◌≤◌}
use Rattle.sf_cli_drive.specs.Jobs.{HasTakenTurns}
use Rattle.sf_cli_drive.proofs.jobs.Crew.get_all.Given as goal

abbrev pub invariant-loop-turn : goal.invariant-loop-turn
invariant-loop-turn g l = record {
  turns : l.fn.getter.counted.gets + l.fn.self.line.gets < 2 ^ 64 → HasTakenTurns g.N.Naming.space l.line.keys l.thread l.turn l.fn.getter l.getter l.answers;
  few : l.answers ≤ l.turn;
}

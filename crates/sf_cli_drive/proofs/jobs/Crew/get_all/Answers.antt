use Rattle.std.proofs.Common.{ℕ, subst, arith}
use Rattle.sf_cli_drive.specs.Jobs.{HasTakenTurns}
use Rattle.sf_cli_drive.proofs.Turning.{turns_count, turns_on, right_counts, right_is_one, job_counts, job_logs}
use Rattle.sf_cli_drive.proofs.jobs.Crew.get_all.Goals as goal

pub loop-turn-preserved : goal.loop-turn-preserved
loop-turn-preserved g c =
    let line = c.args.self.now.line in let at = c.loop-turn in let right = c.take_turn-is_right.result in
    record {
      turns = λ few.
          let was = turns_count g.N.Naming.space line.keys c.args.thread at.turn c.args.getter.now at.getter at.answers (at.invariant.turns few) in
          turns_on g.N.Naming.space line.keys c.args.thread at.turn _ c.args.getter.now at.getter c.take_turn-is_right.new.getter at.answers _ right (omega arith) (at.invariant.turns few)
          (c.take_turn-is_right.ensures (omega (arith, was, few, c.loop-turn-test.true))) (right_counts at.answers right);
      few = omega (arith, at.invariant.few, right_is_one right);
    }

pub returns-clause-job : goal.returns-clause-job
returns-clause-job g c few =
    let line = c.args.self.now.line in let at = c.loop-turn in
    record {
      turned = at.getter;
      turns = subst (λ (n : ℕ). HasTakenTurns g.N.Naming.space line.keys c.args.thread n c.args.getter.now at.getter at.answers) (omega (arith, c.loop-turn-test.false, at.auto.turn-end)) (at.invariant.turns few);
      done = c.settle_up_often-settled.new.getter;
      settled = c.settle_up_often-settled.ensures;
      log = c.take_log-log.ensures.events;
      emptied = c.take_log-log.ensures.emptied;
    }

pub returns-clause-counted : goal.returns-clause-counted
returns-clause-counted g c few = job_counts g.N.Naming.space _ _ _ _ _ _ (returns-clause-job g c few)

pub returns-clause-logged : goal.returns-clause-logged
returns-clause-logged g c few = job_logs g.N.Naming.space _ _ _ _ _ _ (returns-clause-job g c few)

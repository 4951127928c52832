-- each way to judge writes what it says
use Rattle.sf_cli_engines.proofs.engines.check_as.Goals as goal

pub returns-in-AsItStands-clause-written : goal.returns-in-AsItStands-clause-written
returns-in-AsItStands-clause-written g c = rw c.in-AsItStands.is c.check.ensures.written

pub returns-in-EachKey-clause-written : goal.returns-in-EachKey-clause-written
returns-in-EachKey-clause-written g c = rw c.in-EachKey.is c.check-in-EachKey.ensures.written

pub returns-in-InTime-clause-written : goal.returns-in-InTime-clause-written
returns-in-InTime-clause-written g c = rw c.in-InTime.is c.check_in_time.ensures.written

pub returns-in-EachKeyInTime-clause-written : goal.returns-in-EachKeyInTime-clause-written
returns-in-EachKeyInTime-clause-written g c = rw c.in-EachKeyInTime.is c.check_in_time-in-EachKeyInTime.ensures.written

pub returns-in-Drawn-clause-written : goal.returns-in-Drawn-clause-written
returns-in-Drawn-clause-written g c = rw c.in-Drawn.is c.draw_in_time.ensures.written

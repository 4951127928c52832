use Rattle.sf_replay_check.proofs.faults.first_cause.Goals as goal

pub returns-in-Lead : goal.returns-in-Lead
returns-in-Lead g c = rw c.in-Lead.is c.lead_cause.ensures

pub returns-in-Enter : goal.returns-in-Enter
returns-in-Enter g c = rw c.in-Enter.is c.enter_cause.ensures

pub returns-in-ForgetCall : goal.returns-in-ForgetCall
returns-in-ForgetCall g c = rw c.in-ForgetCall.is c.forget_call_cause.ensures

pub returns-in-Settle : goal.returns-in-Settle
returns-in-Settle g c = rw c.in-Settle.is c.settle_cause.ensures

pub returns-in-Handed : goal.returns-in-Handed
returns-in-Handed g c = rw c.in-Handed.is c.handed_cause.ensures

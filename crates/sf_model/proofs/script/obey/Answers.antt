-- a refused asking is a refused command, and the line of an asking with a channel comes last
use Rattle.std.proofs.Common.{rules, ◌≡◌, Err}
use Rattle.sf_model.specs.ScriptText.{line_of, asked_text, chan_asked_text}
use Rattle.sf_model.proofs.Refused.{refused_line, obeyed_line}
use Rattle.sf_model.proofs.script.obey.Goals as goal

pub returns-in_err-asked-in-Ask-clause-refused : goal.returns-in_err-asked-in-Ask-clause-refused
unfolding line_of
returns-in_err-asked-in-Ask-clause-refused c =
    let failed : c.from_residual-in_err-asked-in-Ask.result ≡ Err c.in_err-asked-in-Ask.field-0.0 = search rules in
    rw (failed, c.in-Ask.is) (refused_line (asked_text c.in-Ask.caller) _ _ c.in_err-asked-in-Ask.ensures.refused)

pub returns-in_err-asked-in-AskChan-clause-refused :
    goal.returns-in_err-asked-in-AskChan-clause-refused
unfolding line_of
returns-in_err-asked-in-AskChan-clause-refused c =
    let failed : c.from_residual-in_err-asked-in-AskChan.result ≡ Err c.in_err-asked-in-AskChan.field-0.0 = search rules in
    rw (failed, c.in-AskChan.is) (refused_line (chan_asked_text c.in-AskChan.caller c.in-AskChan.second) _ _ c.in_err-asked-in-AskChan.ensures.refused)

pub returns-in_ok-write_chan_asked-in-AskChan-clause-ok :
    goal.returns-in_ok-write_chan_asked-in-AskChan-clause-ok
unfolding line_of
returns-in_ok-write_chan_asked-in-AskChan-clause-ok c =
    rw c.in-AskChan.is
    (obeyed_line _ _ (chan_asked_text c.in-AskChan.caller c.in-AskChan.second) _ c.in_ok-asked-in-AskChan.asked _ (search rules) (search rules))

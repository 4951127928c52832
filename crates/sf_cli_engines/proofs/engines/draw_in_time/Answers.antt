-- a beginning of the picture, or of the one line, is written
use Rattle.std.proofs.Common.{ℕ, List, ◌++◌, refl, sym, subst, codes}
use Rattle.sf_cli_engines.specs.Drawing.{IsShownAs}
use Rattle.sf_cli_engines.specs.Timing.{timed_text, timed_ending_of}
use Rattle.sf_cli_engines.proofs.engines.draw_in_time.Goals as goal

pub returns-in_err-write_all-in-Picture-clause-part : goal.returns-in_err-write_all-in-Picture-clause-part
returns-in_err-write_all-in-Picture-clause-part g c =
    let drawn = c.in-Picture in
    let shown = subst (λ (t : List ℕ). IsShownAs drawn.checked t) (sym c.as_str.ensures.value) drawn.ensures.1 in
    (c.as_str.result.now, (timed_ending_of drawn.checked, (drawn.checked, drawn.ensures.0, refl, shown)), c.write_all.ensures.part)

pub returns-in_err-write_line-in-Line-clause-part : goal.returns-in_err-write_line-in-Line-clause-part
returns-in_err-write_line-in-Line-clause-part g c =
    let drawn = c.in-Line in
    (timed_text drawn.checked ++ codes "\n", (timed_ending_of drawn.checked, (drawn.checked, drawn.ensures.0, refl, drawn.ensures.1)), c.write_line.ensures.part)

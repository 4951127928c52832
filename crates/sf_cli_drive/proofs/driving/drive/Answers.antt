-- what is written of a text that a drive says
use Rattle.std.proofs.Common.{◌∙◌, codes, inl, inr, refl}
use Rattle.sf_cli_drive.proofs.driving.drive.Goals as goal

pub returns-in_err-write_all-in-Ok-clause-part : goal.returns-in_err-write_all-in-Ok-clause-part
returns-in_err-write_all-in-Ok-clause-part g c =
    let found = c.in-Ok.ensures in
    (_, inr (found.0, found.1, found.2, c.as_str.ensures.value ∙ found.4), c.write_all.ensures.part)

pub returns-in_ok-write_all-in-Ok-clause-part : goal.returns-in_ok-write_all-in-Ok-clause-part
returns-in_ok-write_all-in-Ok-clause-part g c =
    let found = c.in-Ok.ensures in
    (_, inr (found.0, found.1, found.2, c.as_str.ensures.value ∙ found.4), c.write_all.ensures.part)

pub returns-in_err-write_all-in-Err-clause-part : goal.returns-in_err-write_all-in-Err-clause-part
returns-in_err-write_all-in-Err-clause-part g c = (codes "out of memory\n", inl refl, c.write_all-in-Err.ensures.part)

pub returns-in_ok-write_all-in-Err-clause-part : goal.returns-in_ok-write_all-in-Err-clause-part
returns-in_ok-write_all-in-Err-clause-part g c = (codes "out of memory\n", inl refl, c.write_all-in-Err.ensures.part)

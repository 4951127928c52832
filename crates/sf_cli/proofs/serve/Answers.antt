use Rattle.std.proofs.Common.{Err, refl}
use Rattle.sf_cli.specs.declared.usage.Mistake.TheVariants.{NoText}
use Rattle.sf_cli.specs.declared.usage.Usage.TheVariants.{Mistake}
use Rattle.sf_cli.proofs.serve.Goals as goal

pub returns-in-Err : goal.returns-in-Err
returns-in-Err g c = (Err (Mistake NoText), (c.misused.ensures, refl))

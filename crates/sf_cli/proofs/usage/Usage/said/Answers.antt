-- want of memory may be said of any answer
use Rattle.std.proofs.Common.{inl}
use Rattle.clap.specs.declared.error.kind.ErrorKind.{ErrorKind}
use Rattle.sf_cli.specs.Usage.{IsUsageOf, IsWantOfMemory}
use Rattle.sf_cli.specs.declared.usage.Mistake.TheVariants.{Said, Elsewhere, NotTaken, NoText}
use Rattle.sf_cli.specs.declared.usage.Usage.{Usage}
use Rattle.sf_cli.specs.declared.usage.Usage.TheVariants.{Help, Mistake}
use Rattle.sf_cli.proofs.usage.Usage.said.Goals as goal

wanting : (kind : ErrorKind) (usage : Usage) → IsWantOfMemory usage → IsUsageOf kind usage
wanting kind (Mistake (Said error)) want = inl want
wanting kind (Mistake Elsewhere) want = absurd want
wanting kind (Mistake NotTaken) want = absurd want
wanting kind (Mistake NoText) want = absurd want
wanting kind (Help text) want = absurd want

pub returns : goal.returns
returns c = wanting _ _ c.from.ensures

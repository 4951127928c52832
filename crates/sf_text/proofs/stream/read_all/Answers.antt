-- one read more
use Rattle.std.proofs.Common.{rules}
use Rattle.sf_text.proofs.Streams.{read_goes_on}
use Rattle.sf_text.proofs.stream.read_all.Goals as goal

pub reads-preserved : goal.reads-preserved
reads-preserved g c = read_goes_on _ _ _ _ _ _ c.reads.invariant c.in-Ok.ensures.bytes.0 (search rules)

use Rattle.std.proofs.Common.{rules}
use Rattle.sf_sequential.proofs.walk.enters_call.Goals as goal

-- Named, so that a wrong body is refused at once: a search that has no answer tries more.
pub returns-in-Enter : goal.returns-in-Enter
returns-in-Enter g c = search rules

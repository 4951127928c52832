use Rattle.std.proofs.Common.{rules, append-nil}
use Rattle.std.specs.Fmt.{padded}
use Rattle.sf_pictures.proofs.svg.escaping.push_first.Goals as goal

pub returns : goal.returns
unfolding padded
returns c = search (rules, append-nil)

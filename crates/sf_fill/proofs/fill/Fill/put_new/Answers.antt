use Rattle.std.proofs.Common.{rules}
use Rattle.sf_fill.proofs.Given.{gets_given}
use Rattle.sf_fill.proofs.fill.Fill.put_new.Goals as goal

pub returns : goal.returns
returns g c =
    gets_given c.args.key.now c.args.bytes _ g.N.Naming.space _ _ _ _ c.getter.view_is _ _ c.new-given.ensures _ c.match-answer.put (search rules) (search rules) c.get_with-answer.ensures.got c.get_with-answer.ensures.fresh
    c.get_with-answer.ensures.counted

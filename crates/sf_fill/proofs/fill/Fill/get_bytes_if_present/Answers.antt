use Rattle.std.proofs.Common.{rules}
use Rattle.sf_fill.proofs.Bytes.{getter_brings, getter_lacks}
use Rattle.sf_fill.proofs.fill.Fill.get_bytes_if_present.Goals as goal

pub returns-clause-bytes : goal.returns-clause-bytes
returns-clause-bytes g c = getter_brings _ g.N.Naming.space c.args.key.now _ _ _ c.getter.view_is _ _ c.bytes_at_hand.ensures.bytes

pub returns-clause-absent : goal.returns-clause-absent
returns-clause-absent g c = getter_lacks _ g.N.Naming.space c.args.key.now _ _ _ c.getter.view_is _ c.bytes_at_hand.ensures.absent

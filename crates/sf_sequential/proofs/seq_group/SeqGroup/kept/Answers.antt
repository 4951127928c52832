use Rattle.sf_sequential.proofs.seq_group.SeqGroup.kept.Goals as goal

pub returns : goal.returns
returns g c = rw (← c.self.view_is) c.self.invariant

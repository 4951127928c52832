-- the key's open call, from its current one
use Rattle.std.proofs.Common.{sym, ◌∙◌}
use Rattle.sf_sequential.specs.Noted.{without}
use Rattle.sf_sequential.proofs.OpenByCurrent.{open_by_current}
use Rattle.sf_sequential.proofs.seq_group.SeqGroup.open_by.Goals as goal

pub returns-in-Some : goal.returns-in-Some
returns-in-Some g c =
    let told = rw c.in-Some.is at c.requires in
    c.open.ensures ∙ (λ i. without (λ d. told.settles d i) (told.currents c.args.key.now i)) ∙ sym (open_by_current g.K.PartialEq.eq g.met.K.Eq.laws c.args.key.now c.args.self.now.history c.kept.ensures.legal)

use Rattle.std.proofs.Common.{rules, refl}
use Rattle.sf_fill_values.proofs.Looks.{questioned_view}
use Rattle.sf_fill_values.proofs.view.View.is_current.Goals as goal

pub returns : goal.returns
returns g c =
    questioned_view _ _ c.self.view_is c.args.caller.now c.learn.new.caller c.is_still_current.new.caller _ c.is_still_current.result c.learn.ensures.learnt c.is_still_current.ensures.nothing (search rules)
    (record { group = c.learn.ensures.note.0; place = refl; call = refl; value = refl; count = refl; shows = c.learn.ensures.note.1 })

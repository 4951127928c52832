use Rattle.std.proofs.Common.{rules, inl, refl}
use Rattle.sf_fill_values.proofs.Looks.{looked_on_lent}
use Rattle.sf_fill.proofs.fill.Fill.look_in_caches.Goals.{in-Ok, in_default}
use Rattle.sf_fill.proofs.fill.Fill.look_in_caches.Goals as goal

pub returns-clause-looked : goal.returns-clause-looked
returns-clause-looked g c =
    elim c.match-found.branch [
      | in-Ok w ↦ rw w.found-is (looked_on_lent _ c.args.caller.now c.args.caller.now c.look.new.caller _ c.in_ok-found.found w.in-Ok.letter w.keep.new.letter (search rules) (inl refl) c.in_ok-found.ensures.looked w.keep.ensures)
      | in_default w ↦ rw w.found-is c.in_ok-found.ensures.looked
    ]

use Rattle.std.proofs.Common.{◌≡◌, ◌<◌, Some, length, map, get_or, sym, ◌∙◌, ap, subst, rules}
use Rattle.std.specs.List.{slice_get}
use Rattle.std.proofs.lemmas.List.{get_or-map, length-map}
use Rattle.std.proofs.lemmas.Option.{slice_get-get_or}
use Rattle.once_cell.specs.Once.{cell_name}
use Rattle.sf_keyed_chain.proofs.chain.KeyedChain.grow.Goals as goal

pub know-requires-clause-note : goal.know-requires-clause-note
know-requires-clause-note c =
    let links = c.self.inside.links.items in
    let at = length c.learn.new.me in
    let here : c.args.self.now ≡ map cell_name links = search rules in
    let room : at < length links = search rules in
    let cell : c.set_as-set.new.note.cell ≡ get_or (map cell_name links) at 0 = search (rules, get_or-map) in
    let space : at < length (map cell_name links) = search (rules, length-map, room) in
    subst (λ l. slice_get l at ≡ Some c.set_as-set.new.note.cell) (sym here) (slice_get-get_or (map cell_name links) at 0 space ∙ ap Some (sym cell))

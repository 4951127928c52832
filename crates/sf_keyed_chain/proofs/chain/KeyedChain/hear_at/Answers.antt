use Rattle.std.proofs.Common.{◌≡◌, Some, set, subst}
use Rattle.std.specs.List.{slice_get}
use Rattle.sf_keyed_chain.specs.Chains.{Sight}
use Rattle.sf_keyed_chain.specs.Notes.{HasHeard, ToldState}
use Rattle.sf_keyed_chain.proofs.Sights.{all_both, heard_in, of_in, told_at}
use Rattle.sf_keyed_chain.proofs.chain.KeyedChain.hear_at.Goals as goal

pub returns-clause-of : goal.returns-clause-of
returns-clause-of c =
    of_in c.args.self.now c.args.at c.meet.new.me c.me.inside.parts.items c.index_mut.result.now c.hear.new.self c.me.view_is c.meet.ensures.known c.index_mut.ensures.value c.meet.ensures.of c.hear.ensures.heard.later

pub returns-clause-heard : goal.returns-clause-heard
returns-clause-heard c =
    all_both c.args.me.now c.meet.new.me _ c.meet.ensures.heard
    (heard_in c.args.at c.meet.new.me c.me.inside.parts.items c.index_mut.result.now c.hear.new.self c.me.view_is c.meet.ensures.known c.index_mut.ensures.value c.hear.ensures.heard)

pub returns-clause-told : goal.returns-clause-told
returns-clause-told c =
    subst (λ (t : ToldState). (s : Sight) → slice_get (set c.me.inside.parts.items c.args.at c.hear.new.self) c.args.at ≡ Some s → HasHeard t s) c.table_note-note.ensures.same
    (told_at c.table_note-note.new.self c.args.at c.meet.new.me c.me.inside.parts.items c.hear.new.self c.me.view_is c.meet.ensures.known c.hear.ensures.told)

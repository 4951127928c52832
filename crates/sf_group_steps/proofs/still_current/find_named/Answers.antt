use Rattle.std.proofs.Common.{Bool, sym, subst}
use Rattle.sf_words.specs.declared.key_word.KeyState.{KeyState}
use Rattle.sf_group_steps.specs.Words.{key}
use Rattle.sf_group_steps.specs.StillCurrents.{HasFoundNamed}
use Rattle.sf_group_steps.proofs.HearSteps.{still_move}
use Rattle.sf_group_steps.proofs.StillSteps.{found_named}
use Rattle.sf_group_steps.proofs.still_current.find_named.Goals as goal

pub load_turns-found-requires-clause-moves : goal.load_turns-found-requires-clause-moves
load_turns-found-requires-clause-moves g c = still_move c.args.words.now.key c.args.seat.now.me.0 (key c.args.place) c.requires.cells

pub returns-clause-found : goal.returns-clause-found
returns-clause-found g c =
    let v = c.args.seat.now.me.0 in
    let found = c.load_turns-found.ensures.told.0 c.args.sizes c.requires.sizes.1 in
    let told = found_named c.args.sizes c.args.place c.args.called c.load_turns-found.result v c.load_turns-found.new.seat.me.0 c.state.result found
    (λ (y : KeyState) lawful code. let one = c.unpack_key.ensures.inverse y lawful.0 code in let is = c.in-Some.is in let same = c.state.ensures.same in cc) in
    subst (λ (b : Bool). HasFoundNamed c.args.sizes c.args.place c.args.called v c.load_turns-found.new.seat.me.0 b) (sym c.names.ensures) told

use Rattle.std.proofs.Common.{◌≡◌, ◌∙◌, false, true, sym, subst, [], ◌∷◌}
use Rattle.sf_group_rows.specs.declared.sizes.Sizes.{Sizes}
use Rattle.sf_steps_laws.specs.declared.operation.Op.TheVariants.{Poll}
use Rattle.sf_steps_laws.specs.declared.turn.Turn.TheVariants.{Start, Step}
use Rattle.sf_words.specs.declared.call_word.CallState.{CallState}
use Rattle.sf_group_steps.specs.Words.{call}
use Rattle.sf_group_steps.specs.Collects.{collects}
use Rattle.sf_group_steps.specs.Plays.{MovesCell}
use Rattle.sf_group_steps.proofs.CollectSteps.{collect_move, collect_told, collected_full, collected_waits}
use Rattle.sf_group_steps.proofs.polling.look_in.Goals as goal

pub load_cell-found-requires-clause-moves : goal.load_cell-found-requires-clause-moves
load_cell-found-requires-clause-moves g c =
    let r = c.args.actor in
    subst (λ (z : Sizes). MovesCell g.V.Fit.fits z c.args.seat.now.me (call r.number) (λ n. n) (λ _. Start r.number Poll ∷ Step r.number ∷ []) (collects r.number c.args.generation)) c.requires.sizes
    (collect_move g.V.Fit.fits r.sizes r.number r.place c.args.generation c.args.called c.args.seat.now.me c.requires.holds)

pub unreachable-requires : goal.unreachable-requires
unreachable-requires g c =
    let found = c.load_cell-found.ensures.told c.args.actor.sizes c.requires.holds.sizes in
    let lawful = found.made.comes.lawful.calls c.args.actor.number in
    let one = c.unpack_call.ensures.inverse _ lawful.0 (sym found.found) in
    c.in_default.not-Some _ one

pub returns-in-Full-clause-full : goal.returns-in-Full-clause-full
returns-in-Full-clause-full g c = λ yes.
    let r = c.args.actor in
    let told = c.load_cell-found.ensures.told r.sizes c.requires.holds.sizes in
    let all = collect_told g.V.Fit.fits r.sizes r.number r.place c.args.generation c.load_cell-found.result c.args.called c.state.result c.args.seat.now.me c.load_cell-found.new.seat.me c.requires.holds c.requires.none told
    (λ (y : CallState) lawful code. let one = c.unpack_call.ensures.inverse y lawful.0 code in let is = c.in-Some.is in let same = c.state.ensures.same in cc) in
    (collected_full g.V.Fit.fits r.sizes r.number r.place c.args.generation c.in-Full.generation c.args.called c.args.seat.now.me c.load_cell-found.new.seat.me c.state.result all c.in-Full.is).0

pub returns-in-Full-clause-found : goal.returns-in-Full-clause-found
returns-in-Full-clause-found g c = λ yes.
    let r = c.args.actor in
    let told = c.load_cell-found.ensures.told r.sizes c.requires.holds.sizes in
    let all = collect_told g.V.Fit.fits r.sizes r.number r.place c.args.generation c.load_cell-found.result c.args.called c.state.result c.args.seat.now.me c.load_cell-found.new.seat.me c.requires.holds c.requires.none told
    (λ (y : CallState) lawful code. let one = c.unpack_call.ensures.inverse y lawful.0 code in let is = c.in-Some.is in let same = c.state.ensures.same in cc) in
    (collected_full g.V.Fit.fits r.sizes r.number r.place c.args.generation c.in-Full.generation c.args.called c.args.seat.now.me c.load_cell-found.new.seat.me c.state.result all c.in-Full.is).1

pub returns-in_default-matches : goal.returns-in_default-matches
returns-in_default-matches g c =
    let r = c.args.actor in
    let told = c.load_cell-found.ensures.told r.sizes c.requires.holds.sizes in
    let all = collect_told g.V.Fit.fits r.sizes r.number r.place c.args.generation c.load_cell-found.result c.args.called c.state.result c.args.seat.now.me c.load_cell-found.new.seat.me c.requires.holds c.requires.none told
    (λ (y : CallState) lawful code. let one = c.unpack_call.ensures.inverse y lawful.0 code in let is = c.in-Some.is in let same = c.state.ensures.same in cc) in
    let both = collected_waits g.V.Fit.fits r.sizes r.number r.place c.args.generation c.args.called c.args.seat.now.me c.load_cell-found.new.seat.me c.state.result all c.in_default-matches.not-Full in
    record {
      own = c.load_cell-found.ensures.own;
      full = λ yes. absurd (let no : false ≡ true = yes in cc);
      found = λ yes. absurd (let no : false ≡ true = yes in cc);
      waits = λ no. both.0;
      unhanded = λ no. (both.1 ∙ c.requires.none, both.2);
    }

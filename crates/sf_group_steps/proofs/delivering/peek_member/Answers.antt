use Rattle.std.proofs.Common.{subst, sym, ◌∙◌, [], ◌∷◌}
use Rattle.sf_steps_laws.specs.declared.turn.Turn.TheVariants.{Step}
use Rattle.sf_steps_laws.specs.declared.operation.Stage.TheVariants.{Settling}
use Rattle.sf_words.specs.CallWord.{IsCallState}
use Rattle.sf_words.specs.declared.call_word.CallState.{CallState}
use Rattle.sf_group_rows.specs.declared.sizes.Sizes.{Sizes}
use Rattle.sf_group_steps.specs.Words.{call}
use Rattle.sf_group_steps.specs.Cells.{take_one}
use Rattle.sf_group_steps.specs.Plays.{MovesCell}
use Rattle.sf_group_steps.specs.Stands.{GoesWith}
use Rattle.sf_group_steps.proofs.HandSteps.{member_step, member_move, member_told, member_lists, taken_out}
use Rattle.sf_group_steps.proofs.delivering.peek_member.Goals as goal

pub load_cell-found-requires-clause-moves : goal.load_cell-found-requires-clause-moves
load_cell-found-requires-clause-moves g c =
    let r = c.args.actor in
    let d = c.args.delivery in
    let settles = c.requires.settles in
    subst (λ (z : Sizes). MovesCell g.V.Fit.fits z c.args.seat.now.me (call c.args.member) (λ n. n) (λ _. Step r.number ∷ []) (λ _. take_one c.args.member)) c.requires.sizes
    (member_move g.V.Fit.fits r.sizes r.number r.place d.generation c.args.member d.own c.args.value.now d.joiners c.args.next c.args.seat.now.me c.requires.settles c.requires.member)

pub unreachable-requires : goal.unreachable-requires
unreachable-requires g c =
    let found = c.load_cell-found.ensures.told c.args.actor.sizes c.requires.settles.sizes in
    let lawful = found.made.comes.lawful.calls c.args.member in
    let one = c.unpack_call.ensures.inverse _ lawful.0 (sym found.found) in
    c.in_default.not-Some _ one

pub unreachable-requires-in_default-state : goal.unreachable-requires-in_default-state
unreachable-requires-in_default-state g c =
    let r = c.args.actor in
    let d = c.args.delivery in
    let settles = c.requires.settles in
    let found = c.load_cell-found.ensures.told r.sizes c.requires.settles.sizes in
    let both = member_told g.V.Fit.fits r.sizes r.number r.place d.generation c.args.member c.load_cell-found.result d.own c.args.value.now d.joiners c.args.next c.state.result c.args.seat.now.me c.load_cell-found.new.seat.me settles found
    (λ (y : CallState) lawful code. let one = c.unpack_call.ensures.inverse y lawful.0 code in let is = c.in-Some.is in let same = c.state.ensures.same in cc) in
    c.in_default-state.not-Listed both.1.0 both.1.1

pub returns-clause-own : goal.returns-clause-own
returns-clause-own g c =
    let found = c.load_cell-found.ensures.told c.args.actor.sizes c.requires.settles.sizes in
    (c.load_cell-found.ensures.own, taken_out g.V.Fit.fits c.args.actor.sizes c.args.member c.load_cell-found.result (call c.args.member) (λ _. Step c.args.actor.number ∷ []) c.args.seat.now.me c.load_cell-found.new.seat.me found c.requires.none)

pub returns-clause-told : goal.returns-clause-told
returns-clause-told g c =
    let r = c.args.actor in
    let d = c.args.delivery in
    let settles = c.requires.settles in
    let found = c.load_cell-found.ensures.told r.sizes c.requires.settles.sizes in
    let both = member_told g.V.Fit.fits r.sizes r.number r.place d.generation c.args.member c.load_cell-found.result d.own c.args.value.now d.joiners c.args.next c.state.result c.args.seat.now.me c.load_cell-found.new.seat.me settles found
    (λ (y : CallState) lawful code. let one = c.unpack_call.ensures.inverse y lawful.0 code in let is = c.in-Some.is in let same = c.state.ensures.same in cc) in
    subst (λ (q : CallState). GoesWith r.sizes r.number c.args.seat.now.me.0 c.load_cell-found.new.seat.me.0 (Settling r.place d.generation d.own c.args.value.now (member_step d.joiners c.args.member c.args.next q)) [] 0 (c.args.member ∷ [])) c.in-Listed.is both.0

pub returns-clause-lists : goal.returns-clause-lists
returns-clause-lists g c =
    let r = c.args.actor in
    let d = c.args.delivery in
    let settles = c.requires.settles in
    let found = c.load_cell-found.ensures.told r.sizes c.requires.settles.sizes in
    member_lists g.V.Fit.fits r.sizes r.number r.place d.generation c.args.member c.load_cell-found.result d.own c.args.value.now d.joiners c.args.next c.args.seat.now.me c.load_cell-found.new.seat.me settles found

pub returns-clause-generation : goal.returns-clause-generation
returns-clause-generation g c = let is = c.in-Listed.is in let range = c.state.ensures.range in let same = c.state.ensures.same in subst IsCallState (sym same ∙ is) range

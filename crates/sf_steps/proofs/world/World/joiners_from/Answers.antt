use Rattle.std.proofs.Common.{◌≡◌, ◌<◌, ℕ, Option, ap, ◌∙◌, arith}
use Rattle.sf_steps_laws.specs.World.{count}
use Rattle.sf_steps.specs.Running.{world_of}
use Rattle.sf_steps.proofs.Worlds.{count_none, walk_goes}
use Rattle.sf_steps.proofs.world.World.joiners_from.Goals as goal

pub loop-seen-init : goal.loop-seen-init
loop-seen-init g c = record { left = c.args.self.now.callers; parts = omega arith; number = omega arith; few = omega arith }

pub returns-in_default : goal.returns-in_default
returns-in_default g c =
    let was = c.loop-seen.invariant in
    let number = was.number in
    let nobody : count c.loop-seen.next was.left (world_of c.args.self.now).nexts ≡ 0 = ap (λ (t : Option ℕ). count t was.left (world_of c.args.self.now).nexts) c.in_default.is in
    omega (arith, number, nobody)

pub overflow_add-joiners : goal.overflow_add-joiners
overflow_add-joiners g c =
    let few = c.loop-seen.invariant.few in
    let below = c.loop-seen-test.true in
    let fits = c.callers-seen-end.type_inv in
    omega (arith, few, below, fits)

pub loop-seen-preserved : goal.loop-seen-preserved
loop-seen-preserved g c =
    let was = c.loop-seen.invariant in
    let few = was.few in
    let size = c.callers-seen-end.ensures in
    let test = c.loop-seen-test.true in
    let below : c.loop-seen.seen < c.args.self.now.callers = omega (arith, size, test) in
    let goes = walk_goes (world_of c.args.self.now).nexts c.args.self.now.callers c.loop-seen.seen c.loop-seen.joiners (count c.args.top c.args.self.now.callers (world_of c.args.self.now).nexts) c.in-Some.member c.loop-seen.next c.next-next.result
    below c.in-Some.is c.next-next.ensures.same was.left was.parts was.number in
    record { left = goes.0; parts = goes.1; number = goes.2; few = omega (arith, few) }

pub returns : goal.returns
returns g c =
    let was = c.loop-seen.invariant in
    let parts = was.parts in
    let number = was.number in
    let size = c.callers-seen-end.ensures in
    let end = c.loop-seen-test.false in
    let last : was.left ≡ 0 = omega (arith, parts, size, end) in
    let nobody : count c.loop-seen.next was.left (world_of c.args.self.now).nexts ≡ 0 = ap (λ (n : ℕ). count c.loop-seen.next n (world_of c.args.self.now).nexts) last ∙ count_none c.loop-seen.next (world_of c.args.self.now).nexts in
    omega (arith, number, nobody)

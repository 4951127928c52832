use Rattle.std.proofs.Common.{◌<◌, sym, ◌∙◌, subst, arith}
use mathlib.Core.Logic.{dite}
use native.Mathlib.Decide.{ℕ_discrete}
use Rattle.sf_keyed_words.specs.Rule.{slot_of}
use Rattle.sf_keyed.specs.Known.{GroupId}
use Rattle.sf_keyed_chain.proofs.Later.{knows_same, on_both, on_sees, on_stays, part_kept}
use Rattle.sf_keyed_chain.proofs.front.Part.sweep.Goals as goal

pub invariant_of-self-then-self-slots : goal.invariant_of-self-then-self-slots
invariant_of-self-then-self-slots c =
    let i = c.loop.invariant in
    let le = c.if-self-slots.true in (
      i.1,
      i.4,
      λ _ k. i.4 k (let lt = subst (λ (g : GroupId). slot_of g.sizes k < c.slots.result) i.2 (c.slots.ensures.within k) in omega (arith, lt, le)),
    )

pub invariant_of-self-in-Open : goal.invariant_of-self-in-Open
invariant_of-self-in-Open c =
    let p = c.loop.self-inside in
    let i = c.loop.invariant in
    part_kept p.note.known p.front c.sweep.new.me p.known p.known p.swept p.done (on_stays p.front c.sweep.new.me c.in-Open.ensures) (knows_same p.known) i.1 i.4 i.5

pub invariant_of-self-in-Busy : goal.invariant_of-self-in-Busy
invariant_of-self-in-Busy c =
    let p = c.loop.self-inside in
    let i = c.loop.invariant in
    part_kept p.note.known p.front c.sweep.new.me p.known p.known p.swept p.done (on_stays p.front c.sweep.new.me c.in-Busy.ensures.0) (knows_same p.known) i.1 i.4 i.5

pub loop-preserved : goal.loop-preserved
loop-preserved c =
    let p = c.loop.self-inside in
    let i = c.loop.invariant in
    let quiet = c.in-Quiet.ensures in
    let on = on_sees p.front c.sweep.new.me quiet.0 in
    let kept = part_kept p.note.known p.front c.sweep.new.me p.known p.known p.swept p.done on (knows_same p.known) i.1 i.4 i.5 in (
      i.0,
      kept.0,
      i.2 ∙ sym on.group,
      i.3,
      λ k below. dite (ℕ_discrete (slot_of c.sweep.new.me.group.sizes k) p.swept) (λ same. quiet.1 k same) (λ apart. kept.1 k (omega (arith, below, apart))),
      kept.2,
      on_both c.args.self.now.front p.front c.sweep.new.me i.6 on,
      quiet.2 ∙ i.7,
    )

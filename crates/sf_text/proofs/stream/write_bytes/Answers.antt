-- one write more, and what is written where one fails
use Rattle.std.proofs.Common.{ℕ, List, ◌++◌, ◌≤◌, ◌∙◌, ap, length, take, drop, sym, arith, subst}
use Rattle.std.proofs.Math.Seq.{take-add}
use Rattle.std.proofs.lemmas.List.{take-append-drop, length-drop, take_rest}
use Rattle.sf_text.proofs.Streams.{appends_on, keeps_on, part_of}
use Rattle.sf_text.proofs.stream.write_bytes.Goals as goal

pub loop-at-preserved : goal.loop-at-preserved
loop-at-preserved g c =
    let answer : List ℕ = c.args.answer.now in
    let rest = take_rest answer c.loop-at.at in
    let within = length-drop c.loop-at.at answer in
    let bound = subst (λ (z : List ℕ). c.in-Ok.n ≤ length z) rest c.in-Ok.ensures.bound in (
      omega (arith, c.loop-at.invariant.0, bound, within),
      appends_on (g.W.Write.contents c.args.writer.now) (g.W.Write.contents c.loop-at.writer) (g.W.Write.contents c.write.new.self) _ _ _ c.loop-at.invariant.1 c.in-Ok.ensures.bytes
          (take-add c.loop-at.at c.in-Ok.n answer ∙ ap (λ (z : List ℕ). take c.loop-at.at answer ++ take c.in-Ok.n z) (sym rest)),
    )

pub returns-in_default-clause-part : goal.returns-in_default-clause-part
returns-in_default-clause-part g c =
    part_of (g.W.Write.contents c.args.writer.now) (g.W.Write.contents c.loop-at.writer) (g.W.Write.contents c.write.new.self) c.loop-at.at c.in-Ok.n c.args.answer.now _ c.loop-at.invariant.1 c.in-Ok.ensures.bytes c.if-n-gt0.false

pub returns-in_default-2-clause-part : goal.returns-in_default-2-clause-part
returns-in_default-2-clause-part g c = (
  take c.loop-at.at c.args.answer.now,
  drop c.loop-at.at c.args.answer.now,
  sym (take-append-drop c.loop-at.at c.args.answer.now),
  keeps_on (g.W.Write.contents c.args.writer.now) (g.W.Write.contents c.loop-at.writer) (g.W.Write.contents c.write.new.self) _ c.loop-at.invariant.1 c.in_default.ensures.bytes,
)

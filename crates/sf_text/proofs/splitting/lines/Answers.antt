-- the parts before the last are lines without their carriage returns, and the last is one if it is not empty
use Rattle.std.proofs.Common.{◌≡◌, ◌==◌, true, false, [], ◌∷◌, ◌++◌, length, map, sym, ◌∙◌, ap}
use Rattle.std.proofs.lemmas.List.{map-append, take_all}
use Rattle.std.specs.Str.Lines.{strip_carriage_return}
use Rattle.sf_text.proofs.LineParts.{lines_ended, lines_with_last}
use Rattle.sf_text.proofs.splitting.lines.Goals as goal
use Rattle.sf_text.proofs.splitting.lines.Goals.{then-not-is_empty+in_ok-push-2, else-not-is_empty}

pub returns : goal.returns
returns c =
    let ended = c.in-Some.ended.now in
    let whole = take_all c.loop-part.part-index ended c.loop-part-test.false in
    let so_far = c.loop-part.invariant ∙ ap (map (λ x. strip_carriage_return x.now)) whole in
    let are = sym c.as_slice.ensures.value ∙ c.in-Some.ensures.cases.0 in
    elim c.if-not-is_empty.branch [
      | then-not-is_empty+in_ok-push-2 w ↦
          let some : (length c.in-Some.last.now.now == 0) ≡ false = sym c.is_empty.ensures ∙ w.if-not-is_empty.true in
          lines_with_last (λ x. x.now) ended c.in-Some.last.now _ c.args.input.now _ are c.in_ok-parts.ensures some
          (ap (λ v. map (λ x. x.now) v.items) w.lines-is ∙ ap (map (λ x. x.now)) w.in_ok-push-2.ensures.items ∙ map-append (λ x. x.now) c.loop-part.lines.items _
          ∙ ap (λ z. z ++ c.in-Some.last.now.now ∷ []) so_far)
      | else-not-is_empty w ↦
          let none : (length c.in-Some.last.now.now == 0) ≡ true = sym c.is_empty.ensures ∙ w.if-not-is_empty.false in
          lines_ended (λ x. x.now) ended c.in-Some.last.now _ c.args.input.now _ are c.in_ok-parts.ensures none
          (ap (λ v. map (λ x. x.now) v.items) w.lines-is ∙ so_far)
    ]

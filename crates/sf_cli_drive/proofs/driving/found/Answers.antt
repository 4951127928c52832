use Rattle.std.proofs.Common.{◌≡◌, true, length, append_assoc, ◌+◌, ◌++◌, ◌∷◌, [], List, rules, arith, ap, sym, ◌∙◌, length-append}
use Rattle.std.specs.List.{flat_map}
use Rattle.std.specs.Global.{Vec}
use Rattle.std.specs.Vec.Iter.{into_iter_items}
use Rattle.std.proofs.lemmas.Grind.{flat_map-append}
use Rattle.std.proofs.lemmas.List.Elements.{All-push}
use Rattle.std.proofs.lemmas.List.Sums.{sum_by_push}
use Rattle.sf_cli_drive.specs.declared.jobs.ThreadEnd.{ThreadEnd}
use Rattle.sf_cli_drive.specs.Found.{DriveEvent}
use Rattle.sf_cli_drive.proofs.driving.found.Goals as goal

pub loop-part-preserved : goal.loop-part-preserved
loop-part-preserved c =
    let was = c.loop-part.invariant in let part = c.in-Some.part in let yielded = c.loop-part.yielded in
    let steps : into_iter_items c.loop-part.part-iterator ≡ part ∷ into_iter_items c.next.new.self = c.in-Some.ensures.steps.0 in
    record {
      parts = append_assoc yielded (part ∷ []) (into_iter_items c.next.new.self) ∙ (ap (λ (es : List ThreadEnd). yielded ++ es) (sym steps) ∙ was.parts);
      rest = omega (arith, was.rest, ap (λ (es : List ThreadEnd). length es) steps, c.in-Some.ensures.steps.1);
      answers = ap (λ n. n + part.answers) was.answers ∙ sym (sum_by_push (λ (p : ThreadEnd). p.answers) yielded part);
      few = search (arith, was.few, length-append yielded (part ∷ []));
      settled = All-push (λ (p : ThreadEnd). p.settled ≡ true) yielded part was.settled (search rules);
      logs = ap (λ (logs : List (Vec DriveEvent)). flat_map (λ log. log.items) logs) c.in_ok-push.ensures.items
          ∙ (flat_map-append (λ (log : Vec DriveEvent). log.items) c.loop-part.logs.items (part.log ∷ [])
          ∙ (ap (λ (es : List DriveEvent). es ++ (part.log.items ++ [])) was.logs
          ∙ sym (flat_map-append (λ (p : ThreadEnd). p.log.items) yielded (part ∷ []))));
    }

use Rattle.std.proofs.Common.{◌≡◌, [], ◌∷◌, ◌++◌, length, ap, ◌∙◌, sym, subst, append_assoc, arith, rules, vec_len, All}
use Rattle.std.proofs.lemmas.List.Elements.{All-head, All-tail}
use Rattle.std.specs.Vec.Iter.{into_iter_items}
use Rattle.sf_wait.proofs.Pairs.{nothing_left, whole}
use Rattle.sf_wait.proofs.serving.start_all.Goals as goal

pub loop-job-init : goal.loop-job-init
loop-job-init g c =
    let w = c.parts-jobs.ensures in let long : vec_len c.parts-jobs.result.2 ≡ length c.parts-jobs.result.2.items = search rules in record {
      started = sym w.jobs ∙ ap (λ l. l ++ into_iter_items c.parts-jobs.result.1) (sym (nothing_left c.parts-jobs.result.2.items (sym long ∙ w.room.none)));
      counted = w.room.counted;
      few = omega (arith, w.room.few);
      room = omega (arith, w.room.none, w.room.enough);
      own = w.room.own;
    }

pub start-requires-after_bounds : goal.start-requires-after_bounds
start-requires-after_bounds g c κs within =
    All-head (λ j. j.flight.group ≡ c.parts-jobs.result.0.now) c.in-Some.job (into_iter_items c.next.new.self)
    (subst (λ l. All (λ j. j.flight.group ≡ c.parts-jobs.result.0.now) l) c.in-Some.ensures.items c.loop-job.invariant.own)

pub loop-job-preserved : goal.loop-job-preserved
loop-job-preserved g c =
    let was = c.loop-job.invariant in let next = c.in-Some.ensures in let pushed = c.push_reserved.ensures in record {
      started = was.started ∙ ap (λ l. c.loop-job.started.items ++ l) next.items ∙ sym (append_assoc c.loop-job.started.items (c.in-Some.job ∷ []) (into_iter_items c.next.new.self))
          ∙ ap (λ l. l ++ into_iter_items c.next.new.self) (ap (λ j. c.loop-job.started.items ++ j ∷ []) (sym c.start.ensures) ∙ sym pushed.items);
      counted = omega (arith, was.counted, next.len, ap length next.items);
      few = omega (arith, was.few, next.len);
      room = omega (arith, was.room, next.len, pushed.len, pushed.capacity);
      own = All-tail (λ j. j.flight.group ≡ c.parts-jobs.result.0.now) c.in-Some.job (into_iter_items c.next.new.self) (subst (λ l. All (λ j. j.flight.group ≡ c.parts-jobs.result.0.now) l) next.items was.own);
    }

pub returns : goal.returns
returns g c =
    let was = c.loop-job.invariant in
    sym (whole c.args.waiting c.loop-job.started.items (into_iter_items c.loop-job.jobs) was.started (sym was.counted ∙ search (rules, c.in_default.ensures)))

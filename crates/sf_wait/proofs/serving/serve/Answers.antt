use Rattle.std.proofs.Common.{◌≡◌, length, ap, ◌∙◌, sym, arith, rules, subst, vec_len, All}
use Rattle.sf_wait.specs.Served.{HasServed, ArePaired}
use Rattle.sf_wait.proofs.serving.serve.Goals as goal

pub invariant_of-waiting : goal.invariant_of-waiting
invariant_of-waiting g c =
    let it = c.into_iter.ensures in let room = c.in-Ok.ensures in
    let given : vec_len c.args.jobs ≡ length c.args.jobs.items = search rules in
    record {
      own = subst (λ l. All (λ j. j.flight.group ≡ c.args.group.now) l) (sym it.rest) c.requires.own;
      counted = it.len ∙ given ∙ ap (λ l. length l) (sym it.rest);
      few = omega (arith, it.len, c.requires.number.1);
      none = room.len;
      enough = omega (arith, it.len, room.capacity);
    }

pub join_all-requires : goal.join_all-requires
join_all-requires g c =
    let list = c.in-Ok-with_capacity.ensures in let started = c.serve_beside-started.result in
    let jobs : length started.items ≡ length c.args.jobs.items = ap (λ l. length l) (c.serve_beside-started.ensures ∙ c.into_iter.ensures.rest) in
    let long : vec_len started ≡ length started.items = search rules in
    let given : vec_len c.args.jobs ≡ length c.args.jobs.items = search rules in
    record { room = (list.items, list.len, omega (arith, list.capacity, jobs, long, given)) }

pub returns-clause-served : goal.returns-clause-served
returns-clause-served g c =
    subst (λ l. ArePaired (HasServed g.V.Fit.fits g.W.Work.answers) l c.join_all.result.items) (c.serve_beside-started.ensures ∙ c.into_iter.ensures.rest) c.join_all.ensures

use Rattle.std.proofs.Common.{rules, ◌≡◌, ◌<◌, ◌-◌, ap, sym, ◌∙◌, subst, length, arith, slice_index_or}
use Rattle.std.specs.List.{zip}
use denote.Param.Send.{sendable}
use Rattle.sf_fill_open.specs.Opened.{EachThread, IsNewGetter, without_loaders}
use Rattle.sf_fill_open.proofs.Handing.{as_many, as_many_back, job_at, job_of, taken_back, taken_side_by_side}
use Rattle.sf_fill_open.proofs.Parting.{each_part}
use Rattle.sf_fill_open.proofs.team.work_and_finish.Goals as goal

pub map_vec-requires-after_bounds : goal.map_vec-requires-after_bounds
map_vec-requires-after_bounds g c κs within = λ i job below is. (
  (let of = job_of (λ j. (j.index, j.getter)) c.in_ok-jobs.jobs.items c.args.getters.items c.in_ok-jobs.ensures.jobs (IsNewGetter g.N.Naming.group (g.T.Team.room c.args.team.now)) i job below is c.requires.new in
      let same = ap (λ j. j.team.now) is ∙ c.in_ok-jobs.ensures.team i job below in (
        subst (λ t. g.T.Team.wants t g.N.Naming.getters g.O.Origin.loaded) (sym same) c.requires.wants,
        subst (λ t. IsNewGetter g.N.Naming.group (g.T.Team.room t) job.getter) (sym same) of.0,
        omega (arith, of.1, c.requires.getters),
      )),
  search (rules, sendable),
)

pub finish-requires-clause-given : goal.finish-requires-clause-given
finish-requires-clause-given g c =
    let back = c.take_back-getters in let ended = c.in-Ok-map_vec.ended.items in
    taken_back (λ e. (e.getter, e.part)) (λ at. g.T.Team.gives c.args.team.now g.N.Naming.space g.N.Naming.group at.0 (without_loaders at.1.0) at.1.1) ended (zip back.result.0.items back.result.1.items)
    (taken_side_by_side (λ e. e.getter) (λ e. e.part) ended back.result.0.items back.result.1.items back.ensures.getters back.ensures.parts)
    (λ i d below.
    let few : i < length c.in_ok-jobs.jobs.items = omega (arith, below, c.in-Ok-map_vec.ensures.len) in
    let did = (c.in-Ok-map_vec.ensures.each i d few).1 in
    let at = job_at (λ j. (j.index, j.getter)) c.in_ok-jobs.jobs.items c.args.getters.items c.in_ok-jobs.ensures.jobs i did.job few in
    let many = as_many (λ j. (j.index, j.getter)) c.in_ok-jobs.jobs.items c.args.getters.items c.in_ok-jobs.ensures.jobs in
    let end = slice_index_or ended i d in
    let index : did.job.index ≡ length ended - 1 - i = ap (λ j. j.index) did.job_read ∙ (ap (λ p. p.0) at ∙ omega (arith, many, c.in-Ok-map_vec.ensures.len)) in
    let team = ap (λ j. j.team.now) did.job_read ∙ c.in_ok-jobs.ensures.team i did.job few in
    subst (λ t. g.T.Team.gives t g.N.Naming.space g.N.Naming.group (length ended - 1 - i) (without_loaders end.getter) end.part) team
    (subst (λ n. g.T.Team.gives did.job.team.now g.N.Naming.space g.N.Naming.group n (without_loaders end.getter) end.part) index did.call.met))

pub take_back-getters-requires-clause-getters : goal.take_back-getters-requires-clause-getters
take_back-getters-requires-clause-getters g c = (
  c.in_ok-jobs.ensures.getters.0,
  omega (arith, c.in_ok-jobs.ensures.getters.1, c.in-Ok-map_vec.ensures.len, as_many (λ j. (j.index, j.getter)) c.in_ok-jobs.jobs.items c.args.getters.items c.in_ok-jobs.ensures.jobs),
)

pub take_back-getters-requires-clause-parts : goal.take_back-getters-requires-clause-parts
take_back-getters-requires-clause-parts g c = (
  c.in-Ok.ensures.len,
  omega (arith, c.in-Ok.ensures.capacity, c.len.ensures, c.in-Ok-map_vec.ensures.len, as_many (λ j. (j.index, j.getter)) c.in_ok-jobs.jobs.items c.args.getters.items c.in_ok-jobs.ensures.jobs),
)

pub finish-requires-clause-getters : goal.finish-requires-clause-getters
finish-requires-clause-getters g c = omega (
  arith,
  c.requires.getters,
  c.in-Ok-map_vec.ensures.len,
  as_many (λ j. (j.index, j.getter)) c.in_ok-jobs.jobs.items c.args.getters.items c.in_ok-jobs.ensures.jobs,
  as_many_back (λ e. e.getter) c.in-Ok-map_vec.ended.items c.take_back-getters.result.0.items c.take_back-getters.ensures.getters,
)

pub finish-requires-clause-parts : goal.finish-requires-clause-parts
finish-requires-clause-parts g c = omega (
  arith,
  c.requires.getters,
  c.in-Ok-map_vec.ensures.len,
  as_many (λ j. (j.index, j.getter)) c.in_ok-jobs.jobs.items c.args.getters.items c.in_ok-jobs.ensures.jobs,
  as_many_back (λ e. e.part) c.in-Ok-map_vec.ended.items c.take_back-getters.result.1.items c.take_back-getters.ensures.parts,
)

pub returns : goal.returns
returns g c =
    let back = c.take_back-getters in let ended = c.in-Ok-map_vec.ended.items in
    let getters = back.result.0.items in let parts = back.result.1.items in
    let all : length getters ≡ g.N.Naming.getters = omega (
      arith,
      c.requires.getters,
      c.in-Ok-map_vec.ensures.len,
      as_many (λ j. (j.index, j.getter)) c.in_ok-jobs.jobs.items c.args.getters.items c.in_ok-jobs.ensures.jobs,
      as_many_back (λ e. e.getter) c.in-Ok-map_vec.ended.items c.take_back-getters.result.0.items c.take_back-getters.ensures.getters,
    ) in
    let each : length parts ≡ g.N.Naming.getters = omega (
      arith,
      c.requires.getters,
      c.in-Ok-map_vec.ensures.len,
      as_many (λ j. (j.index, j.getter)) c.in_ok-jobs.jobs.items c.args.getters.items c.in_ok-jobs.ensures.jobs,
      as_many_back (λ e. e.part) c.in-Ok-map_vec.ended.items c.take_back-getters.result.1.items c.take_back-getters.ensures.parts,
    ) in
    let gives = g.T.Team.gives c.args.team.now g.N.Naming.space g.N.Naming.group in
    let given : EachThread gives getters parts =
    taken_back (λ e. (e.getter, e.part)) (λ at. g.T.Team.gives c.args.team.now g.N.Naming.space g.N.Naming.group at.0 (without_loaders at.1.0) at.1.1) ended (zip back.result.0.items back.result.1.items)
    (taken_side_by_side (λ e. e.getter) (λ e. e.part) ended back.result.0.items back.result.1.items back.ensures.getters back.ensures.parts)
    (λ i d below.
    let few : i < length c.in_ok-jobs.jobs.items = omega (arith, below, c.in-Ok-map_vec.ensures.len) in
    let did = (c.in-Ok-map_vec.ensures.each i d few).1 in
    let at = job_at (λ j. (j.index, j.getter)) c.in_ok-jobs.jobs.items c.args.getters.items c.in_ok-jobs.ensures.jobs i did.job few in
    let many = as_many (λ j. (j.index, j.getter)) c.in_ok-jobs.jobs.items c.args.getters.items c.in_ok-jobs.ensures.jobs in
    let end = slice_index_or ended i d in
    let index : did.job.index ≡ length ended - 1 - i = ap (λ j. j.index) did.job_read ∙ (ap (λ p. p.0) at ∙ omega (arith, many, c.in-Ok-map_vec.ensures.len)) in
    let team = ap (λ j. j.team.now) did.job_read ∙ c.in_ok-jobs.ensures.team i did.job few in
    subst (λ t. g.T.Team.gives t g.N.Naming.space g.N.Naming.group (length ended - 1 - i) (without_loaders end.getter) end.part) team
    (subst (λ n. g.T.Team.gives did.job.team.now g.N.Naming.space g.N.Naming.group n (without_loaders end.getter) end.part) index did.call.met)) in
    (g.N.Naming.space, g.N.Naming.group, parts, each, each_part gives getters parts (all ∙ sym each) given, c.finish.ensures)

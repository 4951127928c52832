use Rattle.std.proofs.Common.{◌≡◌, ◌+◌, ap, ◌∙◌, arith, vec_len}
use Rattle.sf_fill_keys.specs.Spaces.{IsDeskOf}
use Rattle.sf_group_rows.specs.Tokens.{CallerValue}
use Rattle.sf_fill_store.specs.declared.standing.Standing.TheVariants.{Free}
use Rattle.sf_fill_values.specs.FillValue.{Filled}
use Rattle.sf_fill.specs.GetterValue.{GetterValue}
use Rattle.sf_fill_counters.specs.Ledgers.{Tally, nothing_counted}
use Rattle.sf_fill_store.specs.Logs.{LogValue, empty_log}
use Rattle.sf_fill.proofs.Dealt.{dealt_more}
use Rattle.sf_fill.proofs.Popped.{popped, last_is}
use Rattle.sf_fill.proofs.parts.getters_of.Goals as goal

pub invariant_of-seat : goal.invariant_of-seat
invariant_of-seat g c =
    let desk = popped (IsDeskOf g.N.Naming.space) c.deal.desks.items c.pop.new.self.items c.pop.result c.in-Some.desk c.pop.ensures.items c.in-Some.is c.deal.invariant.desks in
    let caller = popped (λ (k : CallerValue Filled). k.group ≡ g.N.Naming.group) c.deal.callers.items c.pop-in-Some.new.self.items c.pop-in-Some.result c.in-Some-pop.caller c.pop-in-Some.ensures.items c.in-Some-pop.is c.deal.invariant.callers.1 in
    (desk.0, tt, caller.0)

pub deal-preserved : goal.deal-preserved
deal-preserved g c =
    let inv = c.deal.invariant in
    let desk = popped (IsDeskOf g.N.Naming.space) c.deal.desks.items c.pop.new.self.items c.pop.result c.in-Some.desk c.pop.ensures.items c.in-Some.is inv.desks in
    let caller = popped (λ (k : CallerValue Filled). k.group ≡ g.N.Naming.group) c.deal.callers.items c.pop-in-Some.new.self.items c.pop-in-Some.result c.in-Some-pop.caller c.pop-in-Some.ensures.items c.in-Some-pop.is inv.callers.1 in
    let d : vec_len c.pop.new.self + 1 ≡ vec_len c.deal.desks = rw c.in-Some.is at c.pop.ensures.cases in
    let k : vec_len c.pop-in-Some.new.self + 1 ≡ vec_len c.deal.callers = rw c.in-Some-pop.is at c.pop-in-Some.ensures.cases in
    let l : vec_len c.pop-in-Some-2.new.self + 1 ≡ vec_len c.deal.loaders = rw c.in-Some-pop-2.is at c.pop-in-Some-2.ensures.cases in
    let o : vec_len c.pop-in-Some-3.new.self + 1 ≡ vec_len c.deal.logs = rw c.in-Some-pop-3.is at c.pop-in-Some-3.ensures.cases in
    let callers : vec_len c.pop-in-Some.new.self ≡ vec_len c.pop.new.self = omega (arith, d, k, inv.callers.0) in
    let loaders : vec_len c.pop-in-Some-2.new.self ≡ vec_len c.pop.new.self = omega (arith, d, l, inv.loaders) in
    let room = c.args.sizes.log in
    let logs = popped (λ (x : LogValue). x ≡ empty_log room) c.deal.logs.items c.pop-in-Some-3.new.self.items c.pop-in-Some-3.result c.in-Some-pop-3.log c.pop-in-Some-3.ensures.items c.in-Some-pop-3.is inv.logs.1 in
    let made = dealt_more room c.deal.desks.items c.pop.new.self.items c.deal.callers.items c.pop-in-Some.new.self.items c.deal.loaders.items c.pop-in-Some-2.new.self.items
    c.deal.getters.items c.push_reserved.new.self.items c.in-Some.desk c.in-Some-pop.caller c.in-Some-pop-2.loaders _
    (last_is _ _ _ _ c.pop.ensures.items c.in-Some.is) (last_is _ _ _ _ c.pop-in-Some.ensures.items c.in-Some-pop.is) (last_is _ _ _ _ c.pop-in-Some-2.ensures.items c.in-Some-pop-2.is)
    (omega (arith, callers, c.pop.new.self.ok.0, c.pop-in-Some.new.self.ok.0)) (omega (arith, loaders, c.pop.new.self.ok.0, c.pop-in-Some-2.new.self.ok.0))
    c.push_reserved.ensures.items
    (ap (λ (t : Tally). let v : GetterValue g.row.L.Denot = record { desk = c.in-Some.desk; standing = Free c.in-Some-pop.caller; loaders = c.in-Some-pop-2.loaders; counted = t.counted; log = c.in-Some-pop-3.log } in v) c.deal-in-Some.ensures.tallies
    ∙ ap (λ (x : LogValue). let v : GetterValue g.row.L.Denot = record { desk = c.in-Some.desk; standing = Free c.in-Some-pop.caller; loaders = c.in-Some-pop-2.loaders; counted = nothing_counted; log = x } in v) logs.0) in
    record {
      callers = (callers, caller.1);
      desks = desk.1;
      loaders = loaders;
      logs = (omega (arith, d, o, inv.logs.0), logs.1);
      room = omega (arith, d, inv.room, c.push_reserved.ensures.len, c.push_reserved.ensures.capacity);
      count = omega (arith, d, inv.count, c.push_reserved.ensures.len);
      parts = (omega (arith, d, inv.parts.0, c.deal-in-Some.ensures.parts.0), c.deal-in-Some.ensures.parts.1);
      made = made ∙ inv.made;
    }

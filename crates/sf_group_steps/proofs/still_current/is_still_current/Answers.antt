use Rattle.std.proofs.Common.{Bool, subst, arith}
use Rattle.sf_group_steps.specs.StillCurrents.{HasFoundForgot, HasFoundNamed}
use Rattle.sf_group_steps.proofs.StillSteps.{stays_still, stays_once, stays_after, still_right, still_forgot, still_unnamed, current_caller}
use Rattle.sf_group_steps.proofs.still_current.is_still_current.Goals as goal
use Rattle.sf_group_steps.proofs.still_current.is_still_current.Goals.{then-called-lt1-via-then-called-lt1, then-called-lt1-via-else-called-lt1+then-called-sizes}

pub returns-then-called-lt1-clause-stays : goal.returns-then-called-lt1-clause-stays
returns-then-called-lt1-clause-stays g c = stays_still c.args.sizes c.args.seat.now.me.0

pub returns-then-called-lt1-clause-outdated : goal.returns-then-called-lt1-clause-outdated
returns-then-called-lt1-clause-outdated g c = λ no is.
    let one = current_caller c.args.sizes c.args.place c.args.called c.args.seat.now.me.0.known.turns c.requires.schedule is in
    let least = one.0 in
    let most = one.1 in
    elim c.then-called-lt1.branch [
      | then-called-lt1-via-then-called-lt1 w ↦ let low = w.if-called-lt1.true in omega (arith, least, low)
      | then-called-lt1-via-else-called-lt1+then-called-sizes w ↦ let high = w.if-called-sizes.true in omega (arith, most, high)
    ]

pub returns-then-find_forgot-clause-stays : goal.returns-then-find_forgot-clause-stays
returns-then-find_forgot-clause-stays g c = stays_once c.args.sizes c.args.seat.now.me.0 c.find_forgot.new.seat.me.0 c.find_forgot.ensures.found.made

pub returns-then-find_forgot-clause-outdated : goal.returns-then-find_forgot-clause-outdated
returns-then-find_forgot-clause-outdated g c = λ no.
    let v = c.args.seat.now.me.0 in
    still_forgot c.args.sizes c.args.place c.args.called v c.find_forgot.new.seat.me.0
    (subst (λ (b : Bool). HasFoundForgot c.args.sizes c.args.called v c.find_forgot.new.seat.me.0 b) c.if-find_forgot.true c.find_forgot.ensures.found)

pub returns-clause-stays : goal.returns-clause-stays
returns-clause-stays g c = stays_after c.args.sizes c.args.seat.now.me.0 c.find_forgot.new.seat.me.0 c.find_named.new.seat.me.0 c.find_forgot.ensures.found.made c.find_named.ensures.found.made

pub returns-clause-right : goal.returns-clause-right
returns-clause-right g c = λ yes.
    let v = c.args.seat.now.me.0 in
    let u = c.find_forgot.new.seat.me.0 in
    still_right c.args.sizes c.args.place c.args.called v u c.find_named.new.seat.me.0
    (subst (λ (b : Bool). HasFoundForgot c.args.sizes c.args.called v u b) c.if-find_forgot.false c.find_forgot.ensures.found)
    (subst (λ (b : Bool). HasFoundNamed c.args.sizes c.args.place c.args.called u c.find_named.new.seat.me.0 b) yes c.find_named.ensures.found)

pub returns-clause-outdated : goal.returns-clause-outdated
returns-clause-outdated g c = λ no.
    let u = c.find_forgot.new.seat.me.0 in
    still_unnamed c.args.sizes c.args.place c.args.called u c.find_named.new.seat.me.0
    (subst (λ (b : Bool). HasFoundNamed c.args.sizes c.args.place c.args.called u c.find_named.new.seat.me.0 b) no c.find_named.ensures.found)

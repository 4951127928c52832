use Rattle.std.proofs.Common.{◌≡◌, ◌≢◌, ◌+◌, ◌%◌, sym, ◌∙◌, ap, subst, arith}
use Rattle.std.proofs.lemmas.Bool.{true≢false}
use Rattle.sf_keyed.specs.declared.group.Claim.TheVariants.{Ready}
use Rattle.sf_keyed_chain.specs.Went.{HasClaimed}
use Rattle.sf_keyed_chain.proofs.Sights.{all_on}
use Rattle.sf_c_calls.proofs.Found.{claim_on, same_on, searched_more, searched_none}
use Rattle.sf_c_calls.proofs.session.claim.Goals as goal

pub returns-then-eq-clause-on : goal.returns-then-eq-clause-on
returns-then-eq-clause-on c = all_on c.args.me.now c.loop.me c.claim.new.me c.loop.invariant.1 (claim_on c.loop.cell c.loop.me c.claim.new.me c.claim.result c.claim.ensures.claimed)

pub loop-init : goal.loop-init
loop-init c =
    let fits = c.requires.fits in
    let begins : c.args.cell.now ≡ (c.args.cell.now + 0) % 18446744073709551616 = omega (arith, fits) in
    (c.requires.of, same_on c.args.me.now, searched_none c.args.cell.now c.args.me.now, begins)

pub loop-preserved : goal.loop-preserved
loop-preserved c =
    let i = c.loop.invariant in
    let isnt : c.claim.result ≢ Ready = λ is. true≢false (sym (c.eq.ensures ∙ ap (λ x. denote.Enum.Bare.sameb Rattle.sf_keyed.specs.contracts.group.Claim.the_type x Ready) is) ∙ c.if-eq.false) in
    let at = i.3 in (
      c.claim.ensures.of,
      all_on c.args.me.now c.loop.me c.claim.new.me i.1 (claim_on c.loop.cell c.loop.me c.claim.new.me c.claim.result c.claim.ensures.claimed),
      searched_more c.loop.counter c.args.cell.now c.args.me.now c.loop.me c.claim.new.me c.claim.result i.2 isnt (subst (λ n. HasClaimed n c.loop.me c.claim.new.me c.claim.result) at c.claim.ensures.claimed),
      omega (arith, at),
    )

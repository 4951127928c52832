use Rattle.std.proofs.Common.{◌≡◌, ◌⊎◌, ◌<◌, ◌+◌, length, inr, sym, ◌∙◌, ap, subst}
use Rattle.std.proofs.lemmas.Bool.{true≢false}
use Rattle.sf_keyed.specs.declared.group.Refusal.TheVariants.{NoCell}
use Rattle.sf_keyed_chain.specs.Chains.{AllGoOn}
use Rattle.sf_keyed_chain.proofs.Sights.{all_on, heard_on}
use Rattle.sf_c_calls.specs.Rows.{HasSearched, HasSpare}
use Rattle.sf_c_calls.proofs.Found.{false_is, longer, on_false, on_true, same_on}
use Rattle.sf_c_calls.proofs.session.makes_room.Goals as goal
use Rattle.sf_c_calls.proofs.session.makes_room.Goals.{else-eq-via-then-eq+else-claim, else-eq-via-else-eq}

went_on : (c : goal.After-learn) → AllGoOn c.args.me.now c.else-eq.me
went_on c = elim c.else-eq.branch [
  | else-eq-via-then-eq+else-claim w ↦ subst (AllGoOn c.args.me.now) (sym w.me-is) w.claim.ensures.on
  | else-eq-via-else-eq w ↦ subst (AllGoOn c.args.me.now) (sym w.me-is) (same_on c.args.me.now)
]

pub returns-then-eq-2-clause-on : goal.returns-then-eq-2-clause-on
returns-then-eq-2-clause-on c = all_on c.args.me.now c.else-eq.me c.learn.new.me (went_on c) (heard_on c.else-eq.me c.learn.new.me c.learn.ensures.heard)

pub returns-then-eq-2-clause-more : goal.returns-then-eq-2-clause-more
returns-then-eq-2-clause-more c =
    on_true c.learn.result (length c.learn.new.me ≡ length c.else-eq.me + 1) (((c.args.why ≡ NoCell) × HasSpare c.learn.new.me) ⊎ (length c.args.me.now < length c.learn.new.me)) c.learn.ensures.there
    (λ one. inr (longer c.args.me.now c.else-eq.me c.learn.new.me (went_on c) one))

pub returns-then-eq-2-clause-none : goal.returns-then-eq-2-clause-none
returns-then-eq-2-clause-none c =
    on_false c.learn.result (c.learn.new.me ≡ c.else-eq.me) (c.args.why ≡ NoCell → HasSearched 64 c.args.cell.now c.args.me.now c.learn.new.me) c.learn.ensures.none
    (λ same none. elim c.else-eq.branch [
      | else-eq-via-then-eq+else-claim w ↦ subst (HasSearched 64 c.args.cell.now c.args.me.now) (sym (same ∙ w.me-is)) (false_is w.claim.result (HasSearched 64 c.args.cell.now c.args.me.now w.claim.new.me) w.if-claim.false w.claim.ensures.searched)
      | else-eq-via-else-eq w ↦ absurd (true≢false (sym (c.eq.ensures ∙ ap (λ x. denote.Enum.Bare.sameb Rattle.sf_keyed.specs.contracts.group.Refusal.the_type x NoCell) none) ∙ w.if-eq.false))
    ])

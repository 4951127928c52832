-- the checker's walk: what it keeps, and what it answers
use Rattle.std.proofs.Common.{◌≡◌, ◌↔◌, ℕ, ◌+◌, ◌<◌, Bool, List, [], ◌∷◌, ◌++◌, length, take, drop, get_or, Some, None, refl, sym, ◌∙◌, ap, subst, arith}
use Rattle.std.proofs.lemmas.List.{take_more, drop_more, take-append-drop, length-take-le}
use Rattle.sf_history.specs.declared.event.Event.{Event}
use Rattle.sf_history.specs.Legal.{IsLegal}
use Rattle.sf_history.proofs.LegalHistories.{legal_push}
use Rattle.sf_replay_check.specs.declared.cause.Cause.{Cause}
use Rattle.sf_replay_check.specs.declared.checking.Verdict.{Verdict}
use Rattle.sf_replay_check.specs.declared.checking.Verdict.TheVariants.{Legal, Illegal}
use Rattle.sf_replay_check.specs.Checker.{first_cause, IsFirstFault, IsVerdictOf}
use Rattle.sf_replay_check.proofs.Causes.{may_follow, no_cause}

module _ {K V : Type 0} where
  -- the walk goes on past an event that has no cause
  pub legal_more : (eq : K → K → Bool) (h : List (Event K V)) (i : ℕ) (e : Event K V) → i < length h → e ≡ get_or h i e → IsLegal eq (take i h) → None ≡ first_cause eq (take i h) e → IsLegal eq (take (i + 1) h)
  legal_more eq h i e within is legal none =
      let pushed = legal_push eq (take i h) e legal (may_follow eq (take i h) e (sym none)) in
      subst (IsLegal eq) (ap (λ (z : Event K V). take i h ++ z ∷ []) is ∙ sym (take_more h i e within)) pushed

  -- it stops at the first one that has a cause
  pub fault_here : (eq : K → K → Bool) (h : List (Event K V)) (i : ℕ) (e : Event K V) (cause : Cause) → i < length h → e ≡ get_or h i e → IsLegal eq (take i h) → Some cause ≡ first_cause eq (take i h) e
      → IsFirstFault eq h (i + 1) cause
  fault_here eq h i e cause within is legal found =
      record {
        before = take i h;
        event = e;
        after = drop (i + 1) h;
        stands = sym (take-append-drop i h) ∙ ap (λ z. take i h ++ z) (drop_more h i e within ∙ ap (λ (z : Event K V). z ∷ drop (i + 1) h) (sym is));
        counted = omega (arith, length-take-le i h (omega (arith, within)));
        legal = legal;
        found = sym found;
      }

  -- a history with a fault is not legal
  pub fault_illegal : (eq : K → K → Bool) (h : List (Event K V)) (index : ℕ) (cause : Cause) → IsFirstFault eq h index cause → IsLegal eq h → ⊥
  fault_illegal eq h index cause fault legal =
      let none = no_cause eq fault.before fault.event (legal fault.before fault.after fault.event fault.stands) in
      let found = fault.found in
      cc

  -- a verdict is Legal exactly where the history is legal
  pub legal_verdict : (eq : K → K → Bool) (h : List (Event K V)) (v : Verdict) → IsVerdictOf eq h v → (v ≡ Legal) ↔ IsLegal eq h
  legal_verdict eq h Legal is = (λ same. is, λ legal. refl)
  legal_verdict eq h (Illegal index cause) is = (λ same. cc, λ legal. absurd (fault_illegal eq h index cause is legal))

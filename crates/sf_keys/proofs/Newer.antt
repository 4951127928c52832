-- a call that is current after all that had been seen was led after each Forget of the place that had been seen
use Rattle.std.proofs.Common.{◌≡◌, ℕ, nat_eq, true, false, List, ◌∷◌, ◌++◌, Some, sym, ap, ◌∙◌, append_assoc}
use Rattle.std.proofs.lemmas.Bool.{or_left, or_right}
use Rattle.std.proofs.lemmas.List.Folds.{list_any-append}
use Rattle.std.specs.List.{list_any}
use Rattle.sf_history.specs.declared.call.CallId.{CallId}
use Rattle.sf_history.specs.declared.event.Event.{Event}
use Rattle.sf_history.specs.declared.event.Event.TheVariants.{Lead}
use Rattle.sf_history.specs.History.{current_call}
use Rattle.sf_history.specs.Legal.{IsLegal}
use Rattle.sf_group_rows.specs.Seen.{StartsWith}
use Rattle.sf_group_rows.specs.Unforgotten.{forgets}
use Rattle.sf_group_rows.proofs.Moments.{current_unforgotten, led_once, legal_before}
use Rattle.sf_keys.specs.Answers.{IsNewer}

module _ {V : Type 0} where
  pub newer : (old moment h : List (Event ℕ V)) (k : ℕ) (c : CallId) → IsLegal nat_eq h → StartsWith h moment → StartsWith moment old → current_call nat_eq moment k ≡ Some c → IsNewer k c old
  newer old moment h k c legal within begins current p q r s e a j own is_forget forgot led =
      let u = current_unforgotten moment k c current in
      let there : moment ≡ r ++ Lead a j c own ∷ (s ++ e ∷ (q ++ begins.0)) =
      begins.1 ∙ (ap (λ l. l ++ begins.0) (forgot ∙ ap (λ l. l ++ e ∷ q) led)
      ∙ (append_assoc (r ++ Lead a j c own ∷ s) (e ∷ q) begins.0 ∙ append_assoc r (Lead a j c own ∷ s) (e ∷ (q ++ begins.0)))) in
      let same = led_once moment r (s ++ e ∷ (q ++ begins.0)) u.before u.after a j u.by k c own u.own (legal_before h moment legal within) there u.led in
      let some : list_any (forgets k) (s ++ e ∷ (q ++ begins.0)) ≡ true =
      list_any-append (forgets k) s (e ∷ (q ++ begins.0)) ∙ or_right (list_any (forgets k) s) _ (or_left (forgets k e) _ is_forget) in
      let clash : true ≡ false = sym some ∙ (ap (list_any (forgets k)) same.2 ∙ u.since) in
      cc

-- logs of what was added in several steps
use Rattle.std.proofs.Common.{◌≡◌, ℕ, List, [], ◌∷◌, ◌++◌, refl, sym, ap, ◌∙◌, append_assoc}
use Rattle.std.proofs.lemmas.List.{append-nil, append_cancel_left}
use Rattle.sf_history.specs.declared.event.Event.{Event}
use Rattle.sf_history.specs.History.{own_events}
use Rattle.sf_fill_store.specs.Logs.{LogValue, logged_one, without_result, logged_by, HasLogged}

module _ {V : Type 0} where
  pub logged_append : (log : LogValue) (x y : List (Event ℕ V)) → logged_by (logged_by log x) y ≡ logged_by log (x ++ y)
  logged_append log [] y = refl
  logged_append log (e ∷ x) y = logged_append (logged_one log (without_result e)) x y

  pub logs_none : (a : ℕ) (seen : List (Event ℕ V)) (log : LogValue) → HasLogged a seen seen log log
  logs_none a seen log = record { added = []; own = sym (append-nil (own_events a seen)); logged = refl }

  pub logs_again : (a : ℕ) (p q r : List (Event ℕ V)) (log then after : LogValue) → HasLogged a p q log then → HasLogged a q r then after → HasLogged a p r log after
  logs_again a p q r log then after first second = record {
    added = first.added ++ second.added;
    own = second.own ∙ (ap (λ l. l ++ second.added) first.own ∙ append_assoc (own_events a p) first.added second.added);
    logged = second.logged ∙ (ap (λ l. logged_by l second.added) first.logged ∙ logged_append log first.added second.added);
  }

  -- whoever knows what was added knows what was logged
  pub logs_these : (a : ℕ) (p q x : List (Event ℕ V)) (log after : LogValue) → HasLogged a p q log after → own_events a q ≡ own_events a p ++ x → after ≡ logged_by log x
  logs_these a p q x log after h own = h.logged ∙ ap (λ l. logged_by log l) (append_cancel_left (own_events a p) h.added x (sym h.own ∙ own))

  -- the log's events, and what was added, are the same list
  pub logs_added : (a : ℕ) (p q x : List (Event ℕ V)) (log after : LogValue) → own_events a q ≡ own_events a p ++ x → after ≡ logged_by log x → HasLogged a p q log after
  logs_added a p q x log after own logged = record { added = x; own = own; logged = logged }

  -- a step that adds nothing logs nothing
  pub logs_still : (a : ℕ) (p q : List (Event ℕ V)) (log : LogValue) → own_events a q ≡ own_events a p ++ [] → HasLogged a p q log log
  logs_still a p q log own = record { added = []; own = own; logged = refl }

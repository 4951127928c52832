-- calls one after another add what both add
use Rattle.std.proofs.Common.{◌≡◌, ℕ, ◌+◌, List, [], ◌++◌, refl, sym, ap, ◌∙◌, subst, append_assoc, arith}
use Rattle.std.proofs.lemmas.List.{append-nil}
use Rattle.sf_history.specs.declared.event.Event.{Event}
use Rattle.sf_group_rows.specs.Tokens.{GroupValue, CallerValue}
use Rattle.sf_group_rows.specs.Seen.{StartsWith, IsLawful, Grows, Adds}
use Rattle.sf_history.specs.History.{own_events}
use Rattle.sf_group_rows.specs.Same.{HasNothing, IsStill}

module _ {V : Type 0} where
  pub starts_again : (p q r : List (Event ℕ V)) → StartsWith q p → StartsWith r q → StartsWith r p
  starts_again p q r first second = (first.0 ++ second.0, second.1 ∙ (ap (λ l. l ++ second.0) first.1 ∙ append_assoc p (first.0) (second.0)))

  pub grows_again : (g : GroupValue) (a : ℕ) (p q r x y : List (Event ℕ V)) (m n : ℕ) → Grows g a p q x m → Grows g a q r y n → Grows g a p r (x ++ y) (m + n)
  grows_again g a p q r x y m n first second = record {
    begins = starts_again p q r first.begins second.begins;
    own = second.own ∙ (ap (λ l. l ++ y) first.own ∙ append_assoc (own_events a p) x y);
    next = let one = first.next in let two = second.next in omega (arith, one, two);
  }

  pub grows_none : (g : GroupValue) (a : ℕ) (p : List (Event ℕ V)) → Grows g a p p [] 0
  grows_none g a p = record { begins = ([], sym (append-nil p)); own = sym (append-nil (own_events a p)); next = omega arith }

  pub adds_again : (g : GroupValue) (a : ℕ) (p q r x y : List (Event ℕ V)) (m n : ℕ) → Adds g a p q x m → Adds g a q r y n → Adds g a p r (x ++ y) (m + n)
  adds_again g a p q r x y m n first second = record { grows = grows_again g a p q r x y m n first.grows second.grows; lawful = second.lawful }

  -- lawful is a fact of the list that is known last
  pub adds_after : (g : GroupValue) (a : ℕ) (p q r x y : List (Event ℕ V)) (m n : ℕ) → Grows g a p q x m → Adds g a q r y n → Adds g a p r (x ++ y) (m + n)
  adds_after g a p q r x y m n first second = record { grows = grows_again g a p q r x y m n first second.grows; lawful = second.lawful }

  -- nothing is added to a list that is lawful
  pub nothing_added : (c : CallerValue V) → IsLawful c.group.sizes c.seen → HasNothing c c
  nothing_added c lawful = record { group = refl; number = refl; adds = record { grows = grows_none c.group c.number c.seen; lawful = lawful } }

  pub still : (c : CallerValue V) → IsStill c c
  still c = record { group = refl; number = refl; grows = grows_none c.group c.number c.seen }

  -- a caller of this group and number
  pub same_caller : (c d : CallerValue V) → d.group ≡ c.group → d.number ≡ c.number → d ≡ record { group = c.group; number = c.number; seen = d.seen; turns = d.turns }
  same_caller c d group number = ap (λ g. of g d.number) group ∙ ap (λ a. of c.group a) number
    where
      of : GroupValue → ℕ → CallerValue V
      of g a = record { group = g; number = a; seen = d.seen; turns = d.turns }

  pub still_after : (c d e : CallerValue V) → IsStill c d → HasNothing d e → IsStill c e
  still_after c d e s n =
      let moved = subst (λ (x : CallerValue V). HasNothing x e) (same_caller c d s.group s.number) n in
      record { group = moved.group; number = moved.number; grows = grows_again c.group c.number c.seen d.seen e.seen [] [] 0 0 s.grows moved.adds.grows }

  pub nothing_after : (c d e : CallerValue V) → IsStill c d → HasNothing d e → HasNothing c e
  nothing_after c d e s n =
      let moved = subst (λ (x : CallerValue V). HasNothing x e) (same_caller c d s.group s.number) n in
      record { group = moved.group; number = moved.number; adds = adds_after c.group c.number c.seen d.seen e.seen [] [] 0 0 s.grows moved.adds }

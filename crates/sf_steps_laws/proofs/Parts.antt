-- schedules in parts
use Rattle.std.proofs.Common.{◌≡◌, ℕ, ◌+◌, List, [], ◌∷◌, ◌++◌, sym, subst, append_assoc, arith}
use Rattle.std.proofs.lemmas.List.{append-nil}
use Rattle.sf_history.specs.declared.event.Event.{Event}
use Rattle.sf_steps_laws.specs.declared.turn.Turn.{Turn}
use Rattle.sf_steps_laws.specs.World.{World}
use Rattle.sf_steps_laws.specs.Turns.{turned, run}
use Rattle.sf_steps_laws.specs.Events.{turn_events, adds}
use Rattle.sf_steps_laws.specs.Schedules.{Setting, IsScheduleFrom}
use Rattle.sf_steps_laws.specs.Closes.{failed_closes}
use Rattle.sf_steps_laws.specs.Laws.{FailedClosesAdd}

module _ {V : Type 0} where
  -- a schedule goes on
  pub schedule_append : (z : Setting) (p q : List (Turn V)) (h : List (Event ℕ V)) (w : World V) → IsScheduleFrom z h w p → IsScheduleFrom z (h ++ adds w p) (run w p) q → IsScheduleFrom z h w (p ++ q)
  schedule_append z [] q h w first then = subst (λ (es : List (Event ℕ V)). IsScheduleFrom z es w q) (append-nil h) then
  schedule_append z (t ∷ p) q h w first then = (
    first.0,
    schedule_append z p q (h ++ turn_events w t) (turned w t) first.1 (subst (λ (es : List (Event ℕ V)). IsScheduleFrom z es (run (turned w t) p) q) (sym (append_assoc h (turn_events w t) (adds (turned w t) p))) then),
  )

  pub failed_closes_add : FailedClosesAdd V
  failed_closes_add w a g [] q = omega arith
  failed_closes_add w a g (t ∷ p) q = let rest : failed_closes (turned w t) a g (p ++ q) ≡ failed_closes (turned w t) a g p + failed_closes (run (turned w t) p) a g q = failed_closes_add (turned w t) a g p q in omega arith

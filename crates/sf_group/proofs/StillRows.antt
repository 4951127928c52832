-- the rows of the question whether a call of any numbers is its place's current one
use Rattle.std.proofs.Common.{◌≡◌, ◌≢◌, ℕ, Bool, [], Option, refl, sym, ◌∙◌, subst}
use Rattle.std.specs.Prelude.{nat_eq, IsTrue, IsFalse, Some, None}
use Rattle.atomic_table.specs.Seated.{TableId}
use Rattle.sf_history.specs.declared.call.CallId.{CallId}
use Rattle.sf_history.specs.History.{current_call}
use Rattle.sf_steps_laws.specs.declared.operation.Stage.{Stage}
use Rattle.sf_steps_laws.specs.declared.operation.Stage.TheVariants as stage
use Rattle.sf_steps_laws.specs.Turns.{at_members}
use Rattle.sf_group_rows.specs.declared.sizes.Sizes.{Sizes}
use Rattle.sf_group_rows.specs.Same.{IsSameFlight, IsStillTicket}
use Rattle.sf_group_rows.specs.Currents.{WasCurrent, IsStillSaid}
use Rattle.sf_group_steps.specs.declared.view.View.{View}
use Rattle.sf_group_steps.specs.View.{sizes_of, history_of}
use Rattle.sf_group_steps.specs.Stands.{Sits, Goes}
use Rattle.sf_group_steps.specs.StillCurrents.{Stays}
use Rattle.sf_group.specs.Known.{flight_of, ticket_of}
use Rattle.sf_group.proofs.Rows.{sizes_are, group_is, added}

module _ {V : Type 0} where
  -- what the question says, by what the seats know
  pub still_said : (z : Sizes) (a k : ℕ) (c : CallId) (p : Stage V) (answer : Bool) (v w : View V) → sizes_of v ≡ z → Sits (sizes_of v) a w p
      → (IsTrue answer → WasCurrent k c (history_of z v.known.turns) (history_of z v.known.turns) (history_of z w.known.turns))
      → (IsFalse answer → current_call nat_eq (history_of z w.known.turns) k ≢ Some c)
      → IsStillSaid k c answer (history_of (sizes_of v) v.known.turns) (history_of (sizes_of w) w.known.turns)
  still_said z a k c p answer v w same sits right outdated =
      subst (λ (y : Sizes). IsStillSaid k c answer (history_of (sizes_of v) v.known.turns) (history_of y w.known.turns)) (sym (sizes_are (sizes_of v) a w p sits ∙ same))
      (subst (λ (y : Sizes). IsStillSaid k c answer (history_of y v.known.turns) (history_of z w.known.turns)) (sym same) (record { right = right; outdated = outdated }))

  still_goes : (z : Sizes) (a : ℕ) (p : Stage V) (v w : View V) → ((c : ℕ) → p ≢ stage.Seconding c) → sizes_of v ≡ z → Stays z v w → Sits (sizes_of v) a v p → Goes (sizes_of v) a v w p [] 0
  still_goes z a p v w alone same stays sits = subst (λ (y : Sizes). Stays y v w) (sym same) stays a p alone sits

  -- each token stands where it stood
  pub free_stays : (z : Sizes) (a : ℕ) (v w : View V) → sizes_of v ≡ z → Stays z v w → Sits (sizes_of v) a v stage.Free → Goes (sizes_of v) a v w stage.Free [] 0
  free_stays z a v w same stays sits = still_goes z a stage.Free v w (λ c is. cc) same stays sits

  pub leading_stays : (z : Sizes) (a k g : ℕ) (own : Option CallId) (v w : View V) → sizes_of v ≡ z → Stays z v w → Sits (sizes_of v) a v (stage.Leading k g own) → Goes (sizes_of v) a v w (stage.Leading k g own) [] 0
  leading_stays z a k g own v w same stays sits = still_goes z a (stage.Leading k g own) v w (λ c is. cc) same stays sits

  pub holding_stays : (z : Sizes) (a k g : ℕ) (d : CallId) (v w : View V) → sizes_of v ≡ z → Stays z v w → Sits (sizes_of v) a v (stage.Holding k g d) → Goes (sizes_of v) a v w (stage.Holding k g d) [] 0
  holding_stays z a k g d v w same stays sits = still_goes z a (stage.Holding k g d) v w (λ c is. cc) same stays sits

  members_second_none : (k g : ℕ) (own : Option CallId) (x : V) (joiners : ℕ) (top : Option ℕ) → (c : ℕ) → at_members k g own x joiners top ≢ stage.Seconding c
  members_second_none k g None x joiners None c is = cc
  members_second_none k g (Some m) x joiners None c is = cc
  members_second_none k g own x joiners (Some m) c is = cc

  pub owing_stays : (z : Sizes) (a k g : ℕ) (own : Option CallId) (x : V) (joiners : ℕ) (top : Option ℕ) (v w : View V) → sizes_of v ≡ z → Stays z v w → Sits (sizes_of v) a v (at_members k g own x joiners top)
      → Goes (sizes_of v) a v w (at_members k g own x joiners top) [] 0
  owing_stays z a k g own x joiners top v w same stays sits = still_goes z a (at_members k g own x joiners top) v w (members_second_none k g own x joiners top) same stays sits

  pub same_flight : (t t' : TableId) (a g k : ℕ) (c : CallId) (own : Option CallId) (v w : View V) → t' ≡ t → Goes (sizes_of v) a v w (stage.Leading k g own) [] 0 → IsSameFlight (flight_of t v a k c own) (flight_of t' w a k c own)
  same_flight t t' a g k c own v w table goes =
      record { group = group_is t t' v w a (stage.Leading k g own) table goes.sits; number = refl; place = refl; call = refl; own = refl; adds = added t a 0 v w (stage.Leading k g own) [] goes }

  pub still_ticket : (t t' : TableId) (a k g : ℕ) (c m : CallId) (v w : View V) → t' ≡ t → Goes (sizes_of v) a v w (stage.Holding k g c) [] 0 → IsStillTicket (ticket_of t v a k c m) (ticket_of t' w a k c m)
  still_ticket t t' a k g c m v w table goes =
      record { group = group_is t t' v w a (stage.Holding k g c) table goes.sits; number = refl; place = refl; call = refl; member = refl; grows = (added t a 0 v w (stage.Holding k g c) [] goes).grows }

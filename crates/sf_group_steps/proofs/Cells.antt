-- nobody else has a cell for itself
use Rattle.std.proofs.Common.{◌≡◌, ℕ, zero, suc, ◌<◌, List, [], ◌∷◌, ◌++◌, length, refl, sym, ap, ◌∙◌, subst, Option, None, Some, inl, inr, ◌⊎◌, arith}
use mathlib.Core.Option.{some, some-ne-none}
use lib.ListN.{get_elem?}
use Rattle.sf_history.specs.declared.call.CallId.{CallId}
use Rattle.sf_history.specs.declared.event.Event.{Event}
use Rattle.sf_steps_laws.specs.declared.letter.Letter.{Letter}
use Rattle.sf_steps_laws.specs.declared.operation.Stage.{Stage}
use Rattle.sf_steps_laws.specs.declared.operation.Stage.TheVariants as stage
use Rattle.sf_steps_laws.specs.declared.operation.SettleStep.{SettleStep}
use Rattle.sf_steps_laws.specs.declared.operation.SettleStep.TheVariants as settle
use Rattle.sf_steps_laws.specs.declared.turn.Turn.{Turn}
use Rattle.sf_steps_laws.specs.World.{World}
use Rattle.sf_steps_laws.specs.Delivered.{delivers}
use Rattle.sf_steps_laws.specs.Schedules.{IsSchedule}
use Rattle.sf_steps_laws.proofs.Letters.{deliver_right}
use Rattle.sf_steps_laws.proofs.Named.{IsAlone}
use Rattle.sf_steps_laws.proofs.RightAnswers.{always}
use Rattle.sf_group_rows.specs.declared.sizes.Sizes.{Sizes}
use Rattle.sf_group_rows.specs.Fitting.{FitOf}
use Rattle.sf_group_steps.specs.View.{Has, setting_of, world_of, history_of}
use Rattle.sf_group_steps.specs.Cells.{Serves, Handling, FitsCell, Lasts}

pub no_cell : (l : List ℕ) (k : ℕ) → l ≡ [] → Has l k → ⊥
no_cell l k none g = subst (λ q. Has q k) none g

pub at_below : {A : Type 0} (l : List A) (i : ℕ) (a : A) → get_elem? l i ≡ some a → i < length l
at_below [] i a e = absurd (some-ne-none a (sym e))
at_below (x ∷ xs) zero a e = omega arith
at_below (x ∷ xs) (suc i) a e = let rest = at_below xs i a e in omega (arith, rest)

module _ {V : Type 0} where
  -- what fits goes on to fit
  pub fits_on : (fits : FitOf V) → Lasts fits → (h more : List (Event ℕ V)) (y : Option (Letter V)) → FitsCell fits h y → FitsCell fits (h ++ more) y
  fits_on fits lasts h more None f = tt
  fits_on fits lasts h more (Some l) f = lasts l.place l.call l.value h more f

  -- a caller that has a cell for itself is no second
  pub handling_alone : (p : Stage V) (a k : ℕ) → Handling p a k → IsAlone p
  handling_alone stage.Free a k h c e = cc
  handling_alone (stage.Settling place g own v step) a k h c e = cc
  handling_alone (stage.Leading place g own) a k h c e = absurd h
  handling_alone (stage.Holding place g d) a k h c e = absurd h
  handling_alone (stage.Polling place g d) a k h c e = absurd h
  handling_alone (stage.Seconding first) a k h c e = absurd h
  handling_alone (stage.Asking place s step) a k h c e = absurd h
  handling_alone (stage.Forgetting place target step) a k h c e = absurd h
  handling_alone (stage.Naming place) a k h c e = absurd h
  handling_alone (stage.Questioning place d step) a k h c e = absurd h

  -- the member to which a caller delivers holds a ticket of the caller's call
  abbrev pub WaitsFor : World V → ℕ → ℕ → Type 0
  WaitsFor w a k = (place g i : ℕ) × ((w.stages k ≡ stage.Holding place g (record { caller = a; generation = i })) ⊎ (w.stages k ≡ stage.Polling place g (record { caller = a; generation = i })))

  serves_waits : (z : Sizes) (s : List (Turn V)) (a k place g : ℕ) (own : Option CallId) (v : V) (step : SettleStep) → IsSchedule (setting_of z) s → (world_of z s).stages a ≡ stage.Settling place g own v step → Serves step k → WaitsFor (world_of z s) a k
  serves_waits z s a k place g own v step is at serves = go step at serves
    where
      right : (q : SettleStep) (m : CallId) (joiners : ℕ) → (world_of z s).stages a ≡ stage.Settling place g own v q
          → delivers a (stage.Settling place g own v q) ≡ Some (m, record { place = place; call = record { caller = a; generation = g }; value = v; joiners = joiners }) → m.caller ≡ k → WaitsFor (world_of z s) a k
      right q m joiners here said one =
          let r = deliver_right z.first (history_of z s) (world_of z s) a (stage.Settling place g own v q) (m, record { place = place; call = record { caller = a; generation = g }; value = v; joiners = joiners }) here (always (setting_of z) s is) said in
          subst (λ j. WaitsFor (world_of z s) a j) one (place, m.generation, g, r.0.ticket)

      go : (q : SettleStep) → (world_of z s).stages a ≡ stage.Settling place g own v q → Serves q k → WaitsFor (world_of z s) a k
      go (settle.Deliver joiners m next) here one = right (settle.Deliver joiners m next) m joiners here refl one
      go (settle.DeliverOwn joiners m) here one = right (settle.DeliverOwn joiners m) m joiners here refl one
      go settle.Peek here one = absurd one
      go (settle.Close seen) here one = absurd one
      go (settle.Clear top) here one = absurd one
      go (settle.Count n m top) here one = absurd one
      go (settle.Follow joiners m) here one = absurd one
      go (settle.PeekMember joiners m next) here one = absurd one
      go (settle.PeekOwn joiners) here one = absurd one

  -- who leads the call of which a caller holds a ticket
  abbrev leader_of : Stage V → ℕ
  leader_of (stage.Holding place g c) = c.caller
  leader_of (stage.Polling place g c) = c.caller
  leader_of _ = 0

  -- one caller at most has a cell for itself
  pub one_handles : (z : Sizes) (s : List (Turn V)) (a b k : ℕ) → IsSchedule (setting_of z) s → Handling ((world_of z s).stages a) a k → Handling ((world_of z s).stages b) b k → a ≡ b
  one_handles z s a b k is h l = elim (role a h) [
    | inl mine ↦ elim (role b l) [
      | inl theirs ↦ mine.0 ∙ sym theirs.0
      | inr theirs ↦ absurd (ticket_free b theirs (ap (λ j. (world_of z s).stages j) (sym mine.0) ∙ mine.1))
    ]
    | inr mine ↦ elim (role b l) [
      | inl theirs ↦ absurd (ticket_free a mine (ap (λ j. (world_of z s).stages j) (sym theirs.0) ∙ theirs.1))
      | inr theirs ↦ one_leader mine theirs
    ]
  ]
    where
      role : (c : ℕ) → Handling ((world_of z s).stages c) c k → ((c ≡ k) × ((world_of z s).stages c ≡ stage.Free)) ⊎ WaitsFor (world_of z s) c k
      role c g = go ((world_of z s).stages c) refl g
        where
          go : (p : Stage V) → (world_of z s).stages c ≡ p → Handling p c k → ((c ≡ k) × ((world_of z s).stages c ≡ stage.Free)) ⊎ WaitsFor (world_of z s) c k
          go stage.Free at g = inl (g, at)
          go (stage.Settling place i own v step) at g = inr (serves_waits z s c k place i own v step is at g)
          go (stage.Leading place i own) at g = absurd g
          go (stage.Holding place i d) at g = absurd g
          go (stage.Polling place i d) at g = absurd g
          go (stage.Seconding first) at g = absurd g
          go (stage.Asking place t step) at g = absurd g
          go (stage.Forgetting place target step) at g = absurd g
          go (stage.Naming place) at g = absurd g
          go (stage.Questioning place d step) at g = absurd g

      ticket_free : (c : ℕ) → WaitsFor (world_of z s) c k → (world_of z s).stages k ≡ stage.Free → ⊥
      ticket_free c waits free = elim waits.3 [
        | inl at ↦ let clash = sym at ∙ free in cc
        | inr at ↦ let clash = sym at ∙ free in cc
      ]

      one_leader : WaitsFor (world_of z s) a k → WaitsFor (world_of z s) b k → a ≡ b
      one_leader x y = elim x.3 [
        | inl p ↦ elim y.3 [
          | inl q ↦ ap leader_of (sym p ∙ q)
          | inr q ↦ ap leader_of (sym p ∙ q)
        ]
        | inr p ↦ elim y.3 [
          | inl q ↦ ap leader_of (sym p ∙ q)
          | inr q ↦ ap leader_of (sym p ∙ q)
        ]
      ]

-- where two askers stand whose seats are joined into one, and how steps take them on
use Rattle.std.specs.Prelude.{◌≡◌, ◌≢◌, ◌≤◌, ℕ, true, false, Bool, List, [], ◌∷◌, ◌⊎◌, Some}
use Rattle.sf_history.specs.declared.call.CallId.{CallId}
use Rattle.sf_history.specs.declared.event.Event.{Event}
use Rattle.sf_steps_laws.specs.declared.operation.Op.TheVariants as op
use Rattle.sf_steps_laws.specs.declared.operation.Stage.{Stage}
use Rattle.sf_steps_laws.specs.declared.operation.Stage.TheVariants as stage
use Rattle.sf_steps_laws.specs.declared.operation.AskStep.{AskStep}
use Rattle.sf_steps_laws.specs.declared.operation.AskStep.TheVariants as ask
use Rattle.sf_steps_laws.specs.declared.turn.Turn.{Turn}
use Rattle.sf_steps_laws.specs.declared.turn.Turn.TheVariants as turn
use Rattle.sf_steps_laws.specs.Schedules.{IsPlace}
use Rattle.sf_group_steps.specs.declared.view.View.{View}
use Rattle.sf_group_steps.specs.View.{setting_of, claim}
use Rattle.sf_group_steps.specs.Stands.{Sits, next_in, Goes}
use Rattle.sf_group_chans.specs.declared.askers.Askers.{Askers}
use Rattle.sf_words.specs.declared.limits.TheConstants.{LARGEST_CALLER, LARGEST_GENERATION}

-- the call that the caller leads next, and the member that the second is next
abbrev pub call_of : Askers → CallId
call_of c = record { caller = c.number; generation = c.generation }

abbrev pub member_of : Askers → CallId
member_of c = record { caller = c.second; generation = c.second_generation }

-- who may ask
pub record AreAskers (c : Askers) : Type 0 where
  pub place : IsPlace (setting_of c.sizes) c.place
  pub callers : c.sizes.callers ≤ LARGEST_CALLER
  pub generation : (1 ≤ c.generation) × (c.generation ≤ LARGEST_GENERATION)
  pub second_generation : (1 ≤ c.second_generation) × (c.second_generation ≤ LARGEST_GENERATION)

module _ {V : Type 0} where
  -- what the seat knows, as a seat of this caller alone
  abbrev pub alone : ℕ → View V → View V
  alone a v = record { sizes = v.sizes; known = claim (a ∷ []) v.known.turns; told = []; cells = [] }

  -- the seat is that of both, which are at these stages
  pub record SitBoth (c : Askers) (v : View V) (p q : Stage V) : Type 0 where
    pub callers : v.known.callers ≡ c.number ∷ c.second ∷ []
    pub told : v.told ≡ []
    pub cells : v.cells ≡ []
    pub first : Sits c.sizes c.number (alone c.number v) p
    pub second : Sits c.sizes c.second (alone c.second v) q

  -- neither has used its next generation
  pub record Ask (c : Askers) (v : View V) (p q : Stage V) : Type 0 where
    pub sit : SitBoth c v p q
    pub apart : c.second ≢ c.number
    pub next : next_in c.sizes v c.number ≡ c.generation
    pub second_next : next_in c.sizes v c.second ≡ c.second_generation

  -- the caller's next step of the asking is this
  abbrev pub AskAt : Askers → View V → AskStep → Type 0
  AskAt c v step = Ask c v (stage.Asking c.place (Some c.second) step) (stage.Seconding c.number)

  -- the two went on to these stages: they added these events, and used so many generations
  pub record GoBoth (c : Askers) (v w : View V) (p q : Stage V) (x y : List (Event ℕ V)) (m n : ℕ) : Type 0 where
    pub callers : w.known.callers ≡ c.number ∷ c.second ∷ []
    pub told : w.told ≡ []
    pub cells : w.cells ≡ []
    pub first : Goes c.sizes c.number (alone c.number v) (alone c.number w) p x m
    pub second : Goes c.sizes c.second (alone c.second v) (alone c.second w) q y n

  -- where an asking begins, or looks again after a failed exchange
  abbrev pub MayLook : Askers → View V → Type 0
  MayLook c v = Ask c v stage.Free stage.Free ⊎ AskAt c v (ask.Look true)

  -- its first look starts it
  abbrev pub look_turns : Stage V → Askers → List (Turn V)
  look_turns stage.Free c = turn.Start c.number (op.Chan c.second c.place) ∷ turn.Step c.number ∷ []
  look_turns _ c = turn.Step c.number ∷ []

  -- where the two stand whose exchange failed: they look again, or they left
  abbrev pub lost_first : Askers → Bool → Stage V
  lost_first c false = stage.Asking c.place (Some c.second) (ask.Look true)
  lost_first c true = stage.Free

  abbrev pub lost_second : Askers → Bool → Stage V
  lost_second c false = stage.Seconding c.number
  lost_second c true = stage.Free

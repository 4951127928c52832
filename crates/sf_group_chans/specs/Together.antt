-- how an asking of two ends, by what each had known and what each knows then
use Rattle.std.specs.Prelude.{◌≡◌, ℕ, List, [], ◌∷◌, Some}
use Rattle.sf_history.specs.declared.event.Event.{Event}
use Rattle.sf_history.specs.declared.event.Event.TheVariants as event
use Rattle.sf_steps_laws.specs.declared.operation.Stage.{Stage}
use Rattle.sf_steps_laws.specs.declared.operation.Stage.TheVariants as stage
use Rattle.sf_group_steps.specs.declared.view.View.{View}
use Rattle.sf_group_steps.specs.declared.asking.AskAttempt.{AskAttempt}
use Rattle.sf_group_steps.specs.declared.asking.AskAttempt.TheVariants.{Led, Joined, Lost}
use Rattle.sf_group_steps.specs.Stands.{Goes}
use Rattle.sf_group_steps.specs.Attempts.{IsAfter}
use Rattle.sf_group_chans.specs.declared.askers.Askers.{Askers}
use Rattle.sf_group_chans.specs.Both.{call_of, member_of}
use Rattle.sf_group_chans.specs.Changes.{HaveChanged}

module _ {V : Type 0} where
  -- each went on to its stage, and both know the same
  pub record GoTogether (c : Askers) (v w v' w' : View V) (p q : Stage V) (x y : List (Event ℕ V)) (m n : ℕ) : Type 0 where
    pub first : Goes c.sizes c.number v v' p x m
    pub second : Goes c.sizes c.second w w' q y n
    pub turns : w'.known.turns ≡ v'.known.turns

  abbrev pub HasAsked : Askers → ℕ → View V → View V → View V → View V → AskAttempt → Type 0
  HasAsked c tries v w v' w' (Led after) = GoTogether c v w v' w' (stage.Leading c.place c.generation (Some (member_of c))) (stage.Holding c.place c.second_generation (call_of c)) (event.Lead c.number c.place (call_of c) (Some (member_of c)) ∷ []) [] 1 1
      × IsAfter c.sizes c.place v' (event.Lead c.number c.place (call_of c) (Some (member_of c))) after
  HasAsked c tries v w v' w' (Joined d) = GoTogether c v w v' w' stage.Free (stage.Holding c.place c.second_generation d) [] (event.Enter c.second c.place d (member_of c) ∷ []) 0 1
  HasAsked c tries v w v' w' Lost = GoTogether c v w v' w' stage.Free stage.Free [] [] 0 0 × HaveChanged c.sizes c.number c.second c.place tries v.known.turns w.known.turns v'.known.turns

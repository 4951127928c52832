-- what a seat knows that took in what another knows
use Rattle.std.specs.Prelude.{◌≡◌, List, [], ◌++◌}
use Rattle.sf_steps_laws.specs.declared.turn.Turn.{Turn}
use Rattle.sf_group_rows.specs.declared.sizes.Sizes.{Sizes}
use Rattle.sf_group_steps.specs.declared.view.View.{View}
use Rattle.sf_group_steps.specs.Plays.{Made}

module _ {V : Type 0} where
  -- the turns begin with those
  abbrev pub BeginsWith : List (Turn V) → List (Turn V) → Type 0
  BeginsWith turns first = (rest : List (Turn V)) × (turns ≡ first ++ rest)

  -- the seat knows what others did, and all turns that were shown; it made none
  pub record HasHeard (z : Sizes) (v : View V) (shown : List (Turn V)) (w : View V) : Type 0 where
    pub made : Made z v w []
    pub begins : BeginsWith w.known.turns shown

-- how a question goes that is no operation: whether a call is its place's current one
use Rattle.std.specs.Prelude.{◌≡◌, ◌≢◌, ℕ, Bool, []}
use Rattle.sf_history.specs.declared.call.CallId.{CallId}
use Rattle.sf_steps_laws.specs.declared.operation.Stage.{Stage}
use Rattle.sf_steps_laws.specs.declared.operation.Stage.TheVariants as stage
use Rattle.sf_steps_laws.specs.World.{key_of, same_key, is_forgot_in}
use Rattle.sf_group_rows.specs.declared.sizes.Sizes.{Sizes}
use Rattle.sf_group_steps.specs.declared.view.View.{View}
use Rattle.sf_group_steps.specs.View.{world_of}
use Rattle.sf_group_steps.specs.Plays.{Made}
use Rattle.sf_group_steps.specs.Stands.{Sits, Goes}

module _ {V : Type 0} where
  -- the seat knows all that happened then, and whether a Forget had closed the call; or whether the place's key word named the call
  pub record HasFoundForgot (z : Sizes) (c : CallId) (v w : View V) (forgot : Bool) : Type 0 where
    pub made : Made z v w []
    pub found : is_forgot_in c.generation ((world_of z w.known.turns).calls c.caller) ≡ forgot

  pub record HasFoundNamed (z : Sizes) (k : ℕ) (c : CallId) (v w : View V) (named : Bool) : Type 0 where
    pub made : Made z v w []
    pub found : same_key ((world_of z w.known.turns).keys k) (key_of c) ≡ named

  -- a caller of the seat that waits for no first one of a pair stands where it stood
  abbrev pub Stays : Sizes → View V → View V → Type 0
  Stays z v w = (a : ℕ) → (p : Stage V) → ((c : ℕ) → p ≢ stage.Seconding c) → Sits z a v p → Goes z a v w p [] 0

-- the seat that stands for the callers that are not dealt out yet
use Rattle.std.specs.Prelude.{◌≡◌, ℕ, ◌+◌, ◌-◌, [], Some}
use Rattle.std.specs.List.{range_with_len}
use Rattle.sf_group_rows.specs.declared.sizes.Sizes.{Sizes}
use Rattle.sf_group_steps.specs.declared.view.View.{View}

module _ {V : Type 0} where
  -- the seat that stands for the callers from this one on, which know nothing
  pub record IsDealing (number : ℕ) (z : Sizes) (v : View V) : Type 0 where
    pub sizes : v.sizes ≡ Some z
    pub callers : v.known.callers ≡ range_with_len number (z.callers + 1 - number)
    pub turns : v.known.turns ≡ []
    pub told : v.told ≡ []
    pub cells : v.cells ≡ []

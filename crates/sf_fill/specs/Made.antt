-- how a fill is made
use Rattle.std.specs.Prelude.{◌≡◌, ℕ, ◌≤◌, List, [], ◌∷◌, All, vec_len}
use Rattle.sf_words.specs.declared.limits.TheConstants.{LARGEST_PLACE, LARGEST_CALLER}
use Rattle.sf_group_rows.specs.Tokens.{GroupValue, CallerValue}
use Rattle.sf_fill_keys.specs.declared.key_space.KeyDesk.{KeyDesk}
use Rattle.sf_fill_keys.specs.Spaces.{SpaceId, AreDesksOf, places_in}
use Rattle.sf_fill.specs.declared.parts.FillParts.{FillParts}
use Rattle.sf_fill_counters.specs.Names.{LedgerNames}
use Rattle.sf_fill_counters.specs.Totals.{AreNamed}
use Rattle.sf_fill_values.specs.FillValue.{Filled}
use Rattle.sf_fill.specs.GetterValue.{GetterValue, new_getter}

module _ {L : Type 0} where
  -- the getters of these desks, callers and loaders, in their order, each with room to log so many events
  abbrev pub new_getters : ℕ → List KeyDesk → List (CallerValue Filled) → List L → List (GetterValue L)
  new_getters room [] callers loaders = []
  new_getters room (d ∷ desks) [] loaders = []
  new_getters room (d ∷ desks) (c ∷ callers) [] = []
  new_getters room (d ∷ desks) (c ∷ callers) (l ∷ loaders) = new_getter room d c l ∷ new_getters room desks callers loaders

-- each caller is of the group
abbrev pub AreOfGroup : GroupValue → List (CallerValue Filled) → Type 0
AreOfGroup g callers = All (λ (c : CallerValue Filled). c.group ≡ g) callers

-- the parts of a fill over this key space, with this group, so many getters, and ledgers of these names
pub record AreParts {D O L : Type 0} (s : SpaceId) (g : GroupValue) (n : ℕ) (names : LedgerNames) (p : FillParts D O L) : Type 0 where
  pub few : (1 ≤ n) × (n ≤ LARGEST_CALLER)
  pub places : places_in s ≤ LARGEST_PLACE
  pub group : (p.group ≡ g) × (g.sizes.places ≡ places_in s)
  pub desks : (vec_len p.desks ≡ n) × AreDesksOf s p.desks.items
  pub callers : (vec_len p.callers ≡ n) × AreOfGroup g p.callers.items
  pub loaders : vec_len p.loaders ≡ n
  pub ledgers : AreNamed names n p.ledgers

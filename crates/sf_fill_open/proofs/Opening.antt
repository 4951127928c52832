-- new getters are new
use Rattle.std.proofs.Common.{◌≡◌, ℕ, List, [], ◌∷◌, All, refl, sym, subst}
use Rattle.std.proofs.lemmas.List.Elements.{All-nil, All-cons, All-head, All-tail}
use Rattle.sf_group_rows.specs.Tokens.{GroupValue, CallerValue}
use Rattle.sf_group_rows.specs.Making.{IsNewCaller}
use Rattle.sf_fill_keys.specs.declared.key_space.KeyDesk.{KeyDesk}
use Rattle.sf_fill_values.specs.FillValue.{Filled}
use Rattle.sf_fill.specs.GetterValue.{GetterValue, new_getter}
use Rattle.sf_fill.specs.Made.{new_getters}
use Rattle.sf_fill_open.specs.Opened.{IsNewGetter}

module _ {L : Type 0} where
  new_are : (room : ℕ) (g : GroupValue) (desks : List KeyDesk) (callers : List (CallerValue Filled)) (loaders : List L) → All (IsNewCaller g) callers → All (IsNewGetter g room) (new_getters room desks callers loaders)
  new_are room g [] callers loaders all = All-nil (IsNewGetter g room)
  new_are room g (d ∷ desks) [] loaders all = All-nil (IsNewGetter g room)
  new_are room g (d ∷ desks) (c ∷ callers) [] all = All-nil (IsNewGetter g room)
  new_are room g (d ∷ desks) (c ∷ callers) (l ∷ loaders) all =
      All-cons (IsNewGetter g room) (new_getter room d c l) (new_getters room desks callers loaders)
      (record { caller = c; fresh = All-head (IsNewCaller g) c callers all; free = refl; counted = refl; unlogged = refl })
      (new_are room g desks callers loaders (All-tail (IsNewCaller g) c callers all))

  pub opened : (room log : ℕ) (g : GroupValue) (desks : List KeyDesk) (callers : List (CallerValue Filled)) (loaders : List L) (made : List (GetterValue L)) → made ≡ new_getters log desks callers loaders → log ≡ room
      → All (IsNewCaller g) callers → All (IsNewGetter g room) made
  opened room log g desks callers loaders made is states all =
      subst (λ (xs : List (GetterValue L)). All (IsNewGetter g room) xs) (sym is) (subst (λ (n : ℕ). All (IsNewGetter g n) (new_getters log desks callers loaders)) states (new_are log g desks callers loaders all))

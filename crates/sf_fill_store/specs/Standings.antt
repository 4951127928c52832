-- where a getter's caller stands: it is free, or owes letters
use Rattle.std.specs.Prelude.{◌≡◌, ℕ, Bool, true, false, List, Option, Some, None}
use Rattle.sf_history.specs.declared.event.Event.{Event}
use Rattle.sf_group_rows.specs.Tokens.{GroupValue, CallerValue}
use Rattle.sf_fill_store.specs.declared.standing.Standing.{Standing}
use Rattle.sf_fill_store.specs.declared.standing.Standing.TheVariants.{Free, Owing}

module _ {V : Type 0} where
  abbrev pub number_of : Standing V → ℕ
  number_of (Free caller) = caller.number
  number_of (Owing settled) = settled.number

  abbrev pub seen_of : Standing V → List (Event ℕ V)
  seen_of (Free caller) = caller.seen
  seen_of (Owing settled) = settled.seen

  abbrev pub group_of : Standing V → GroupValue
  group_of (Free caller) = caller.group
  group_of (Owing settled) = settled.group

  abbrev pub IsOfGroup : GroupValue → Standing V → Type 0
  IsOfGroup g (Free caller) = caller.group ≡ g
  IsOfGroup g (Owing settled) = settled.group ≡ g

  abbrev pub free_caller : Standing V → Option (CallerValue V)
  free_caller (Free caller) = Some caller
  free_caller (Owing settled) = None

  abbrev pub is_owing : Standing V → Bool
  is_owing (Free caller) = false
  is_owing (Owing settled) = true

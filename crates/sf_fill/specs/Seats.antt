-- where the caller of a getter is kept
use Rattle.std.specs.Prelude.{Bool, true, false, [], Option, Some, None}
use Rattle.sf_group_rows.specs.Tokens.{CallerValue}
use Rattle.sf_fill_counters.specs.Nowhere.{no_group}
use Rattle.sf_fill_store.specs.declared.standing.Standing.{Standing}
use Rattle.sf_fill_store.specs.declared.standing.Standing.TheVariants.{Free, Owing}
use Rattle.sf_fill_values.specs.FillValue.{Filled}
use Rattle.sf_fill.specs.declared.chair.Chair.{Chair}
use Rattle.sf_fill.specs.declared.chair.Chair.TheVariants as chair

-- Where the caller stands. No contract sees a getter whose caller is away, so what is said of that one is never used.
abbrev pub standing_in : Chair Filled → Standing Filled
standing_in (chair.Free c) = Free c
standing_in (chair.Owing s) = Owing s
standing_in chair.Away = Free (record { group = no_group; number = 0; seen = []; turns = [] })

module _ {V : Type 0} where
  -- it is not away
  abbrev pub IsHere : Chair V → Type 0
  IsHere (chair.Free c) = Unit {0}
  IsHere (chair.Owing s) = Unit {0}
  IsHere chair.Away = ⊥

  -- it is here and free
  abbrev pub IsFreeHere : Chair V → Type 0
  IsFreeHere (chair.Free c) = Unit {0}
  IsFreeHere (chair.Owing s) = ⊥
  IsFreeHere chair.Away = ⊥

  -- letters are owed
  abbrev pub owes_in : Chair V → Bool
  owes_in (chair.Free c) = false
  owes_in (chair.Owing s) = true
  owes_in chair.Away = false

  -- the caller, if it is here and free
  abbrev pub caller_in : Chair V → Option (CallerValue V)
  caller_in (chair.Free c) = Some c
  caller_in (chair.Owing s) = None
  caller_in chair.Away = None

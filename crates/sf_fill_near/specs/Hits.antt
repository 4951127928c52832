-- a letter that a look at the near letters found
use Rattle.std.specs.Prelude.{◌≡◌, ℕ, List}
use Rattle.sf_group_rows.specs.Notes.{HasLent}
use Rattle.sf_group_rows.specs.Tokens.{CallerValue, LetterValue}
use Rattle.sf_fill_keys.specs.Spots.{MayBe}
use Rattle.sf_fill_values.specs.FillValue.{Filled}
use Rattle.sf_fill_values.specs.Settled.{IsCurrentLetter}

-- the letter was current when the caller asked, and may be of the key; its note may show more since
pub record IsHit (c : CallerValue Filled) (place : ℕ) (key : List ℕ) (d : CallerValue Filled) (l : LetterValue Filled) : Type 0 where
  pub was : LetterValue Filled
  pub current : IsCurrentLetter c place was d
  pub lent : HasLent was l
  pub at : l.place ≡ place
  pub of_key : MayBe l.value.spot key

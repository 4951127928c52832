-- known bytes, as a load path
use Rattle.std.specs.Prelude.{◌≡◌, ℕ, List, Option, Some, None, Result, Ok, Err, codes, MatchOption}
use Rattle.sf_history.specs.declared.call.CallId.{CallId}
use Rattle.sf_loaders.specs.declared.faults.LocalFault.TheVariants.{Failed}
use Rattle.sf_loaders.specs.LoadPath.{LoadAnswer, from_local}

-- a key, and its bytes until they are given
pub record KnownBytes : Type 0 where
  pub key : List ℕ
  pub bytes : Option (List ℕ)

-- a run of the key's path is given the bytes, if they are there still
abbrev pub GivesKnown : List ℕ → CallId → KnownBytes → LoadAnswer → KnownBytes → Type 0
GivesKnown key call old answer new = key ≡ old.key → (bytes : List ℕ) → old.bytes ≡ Some bytes → (answer ≡ from_local 0 (Ok bytes)) × (new ≡ record old { bytes = None })

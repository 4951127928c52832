-- how puts of known bytes end
use Rattle.std.specs.Prelude.{◌≡◌, ℕ, ◌-◌, ◌<◌, ◌^◌, List, Some, Result, Ok, Err}
use Rattle.sf_group_rows.specs.Tokens.{LetterValue}
use Rattle.sf_loaders.specs.Given.{KnownBytes}
use Rattle.sf_fill_keys.specs.Spaces.{SpaceId}
use Rattle.sf_fill_values.specs.declared.fault.GetRefusal.TheVariants as refused
use Rattle.sf_fill_values.specs.declared.fault.LoadFault.{LoadFault}
use Rattle.sf_fill_values.specs.declared.fault.LoadFault.TheVariants as fault
use Rattle.sf_fill.specs.declared.put.Put.{Put}
use Rattle.sf_fill.specs.declared.put.Put.TheVariants.{Settled, Met}
use Rattle.sf_fill_store.specs.declared.forget.Forgot.{Forgot}
use Rattle.sf_fill.specs.Counted.{IsCounted}
use Rattle.sf_fill_values.specs.FillValue.{Filled}
use Rattle.sf_fill.specs.Fresh.{IsFreshGet, IsReloading}
use Rattle.sf_fill_values.specs.Answers.{GetAnswer}
use Rattle.sf_fill.specs.GetterValue.{GetterValue, with_loaders}

abbrev pub PutAnswer : Type 0
PutAnswer = Result (Put (LetterValue Filled)) LoadFault

-- the letter that a put answers, or its fault, as of a get
abbrev pub got_by : PutAnswer → GetAnswer
got_by (Ok (Settled l)) = Ok l
got_by (Ok (Met l)) = Ok l
got_by (Err fault) = Err fault

-- where a call was settled by the put, its letter has the bytes, of the call's own run
abbrev pub HasBytes : List ℕ → PutAnswer → Type 0
HasBytes bytes (Ok (Settled l)) = (l.value.result ≡ Ok bytes) × (l.value.root ≡ l.call)
HasBytes bytes (Ok (Met l)) = Unit {0}
HasBytes bytes (Err fault) = Unit {0}

module _ {L : Type 0} (space : SpaceId) (key bytes : List ℕ) where
  -- a get whose loaders give the bytes; the getter's own are not asked
  pub record GetsGiven (old new : GetterValue L) (answer : PutAnswer) : Type 0 where
    pub left : KnownBytes
    pub fresh : IsFreshGet space key (with_loaders old (record { key = key; bytes = Some bytes })) (with_loaders new left) (got_by answer)
    pub counted : IsCounted (with_loaders old (record { key = key; bytes = Some bytes })) (with_loaders new left) (got_by answer)
    pub given : HasBytes bytes answer
    pub unasked : new.loaders ≡ old.loaders

  -- after a reload of the key; where that is refused, so is the put
  abbrev pub PutsAfter : Result Forgot LoadFault → GetterValue L → GetterValue L → PutAnswer → Type 0
  PutsAfter (Ok came_to) middle new answer = GetsGiven middle new answer
  PutsAfter (Err refused) middle new answer = (new ≡ middle) × (answer ≡ Err refused)

  pub record PutsReloaded (old new : GetterValue L) (answer : PutAnswer) : Type 0 where
    pub middle : GetterValue L
    pub came_to : Result Forgot LoadFault
    pub reloaded : IsReloading space key old middle came_to
    pub then : PutsAfter came_to middle new answer

  -- a getter whose Gets stand at the greatest `u64` puts nothing
  pub record HasPut (old new : GetterValue L) (answer : PutAnswer) : Type 0 where
    pub full : old.counted.gets ≡ 2 ^ 64 - 1 → (new ≡ old) × (answer ≡ Err (fault.Refused refused.Spent))
    pub puts : old.counted.gets < 2 ^ 64 - 1 → PutsReloaded old new answer

-- what a look for a key at hand finds, and what its finds give
use Rattle.std.specs.Prelude.{◌≡◌, ℕ, List, Some, Result, Ok, Err, IfOk}
use Rattle.std.specs.declared.alloc.AllocError.{AllocError}
use Rattle.sf_group_rows.specs.Notes.{HasLent}
use Rattle.sf_group_rows.specs.Tokens.{CallerValue, LetterValue}
use Rattle.sf_history.specs.declared.call.CallId.{CallId}
use Rattle.sf_fill_keys.specs.Spots.{MayBe, spot_key}
use Rattle.sf_fill_values.specs.declared.fault.LoadFault.{LoadFault}
use Rattle.sf_fill_values.specs.Answers.{GetAnswer, IsLoadedFor}
use Rattle.sf_fill_values.specs.FillValue.{Filled}
use Rattle.sf_fill_values.specs.Settled.{HasLookedOn, IsCurrentLetter}
use Rattle.sf_fill.specs.declared.hit.Hit.{Hit}
use Rattle.sf_fill.specs.declared.hit.Hit.TheVariants.{Near, Far}
use Rattle.sf_fill.specs.Bytes.{bytes_in}
use Rattle.sf_fill.specs.Hits.{hit_answer}

module _ {D N O : Type 0} where
  -- the caller looked at the place, and found this, which was current when it asked
  abbrev pub HasFoundHit : CallerValue Filled → ℕ → CallerValue Filled → Hit D N O → Type 0
  HasFoundHit c place d (Near m) = (l : LetterValue Filled) × IsCurrentLetter c place l d × HasLent l m.now
  HasFoundHit c place d (Far found) = HasLookedOn c place (Some found) d

  -- it is of the place, and may be of the key
  abbrev pub IsHitFor : ℕ → List ℕ → Hit D N O → Type 0
  IsHitFor place key (Near m) = (m.now.place ≡ place) × MayBe m.now.value.spot key
  IsHitFor place key (Far found) = IfOk found (λ (l : LetterValue Filled). (l.place ≡ place) × MayBe l.value.spot key)

  -- what it answers: a near letter as it is, or want of memory; a cache's letter by its value, or want of memory
  abbrev pub ShowsHit : Hit D N O → GetAnswer → Type 0
  ShowsHit (Near m) answer = (found : Result (LetterValue Filled) AllocError) × IfOk found (HasLent m.now) × (answer ≡ hit_answer found)
  ShowsHit (Far found) answer = answer ≡ hit_answer found

  -- the bytes alone of that
  pub record ShowsBytes (stated : List ℕ → CallId → List ℕ → Type 0) (key : List ℕ) (hit : Hit D N O) (bytes : Result (List ℕ) LoadFault) : Type 0 where
    pub answer : GetAnswer
    pub shown : ShowsHit hit answer
    pub bytes_are : bytes ≡ bytes_in answer
    pub keyed : IfOk answer (λ (l : LetterValue Filled). spot_key l.value.spot ≡ key)
    pub loaded : IfOk answer (IsLoadedFor stated key)

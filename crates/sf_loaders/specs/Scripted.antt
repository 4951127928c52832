-- what the scripted loaders answer, and how often they were asked
use Rattle.std.specs.Prelude.{◌≡◌, ℕ, ◌+◌, ◌-◌, ◌%◌, ◌^◌, ◌⊎◌, min, List, length, get_or, Option, Result, Ok, Err}
use Rattle.sf_loaders.specs.declared.faults.PeerFault.{PeerFault}
use Rattle.sf_loaders.specs.declared.faults.PeerFault.TheVariants as peer
use Rattle.sf_loaders.specs.declared.faults.LocalFault.{LocalFault}
use Rattle.sf_loaders.specs.declared.faults.LocalFault.TheVariants as local
use Rattle.sf_loaders.specs.declared.scripted.Answer.{Answer}
use Rattle.sf_loaders.specs.declared.scripted.Answer.TheVariants.{Value, Failed, Memory}
use Rattle.sf_loaders.specs.declared.scripted.FixedPicker.{FixedPicker}

-- one more, short of the greatest `u64`
abbrev pub one_more : ℕ → ℕ
one_more n = min (n + 1) (2 ^ 64 - 1)

-- the picker names its peer, and was asked once more
abbrev pub NamesItsPeer : FixedPicker → Option ℕ → FixedPicker → Type 0
NamesItsPeer old picked new = (picked ≡ old.peer) × (new ≡ record old { asked = one_more old.asked })

-- a script, and how often it was asked
pub record Played : Type 0 where
  pub answers : List Answer
  pub asked : ℕ

-- the answer whose turn it is: after the last one the first one again
abbrev pub answer_of : Played → Answer
answer_of script = get_or script.answers (script.asked % length script.answers) Memory

-- the copy is the answer, or was refused
abbrev pub IsAgain : Answer → Answer → Type 0
IsAgain answer copy = (copy ≡ answer) ⊎ (copy ≡ Memory)

-- the script gives the answer whose turn it is, and was asked once more
pub record Plays (old : Played) (answer : Answer) (new : Played) : Type 0 where
  pub answered : IsAgain (answer_of old) answer
  pub counted : new ≡ record old { asked = one_more old.asked }

-- an answer as a peer gives it
abbrev pub as_fetched : Answer → Result (List ℕ) PeerFault
as_fetched (Value value) = Ok value
as_fetched (Failed text) = Err (peer.Failed text)
as_fetched Memory = Err peer.Memory

-- an answer as a local getter gives it
abbrev pub as_loaded : Answer → Result (List ℕ) LocalFault
as_loaded (Value value) = Ok value
as_loaded (Failed text) = Err (local.Failed text)
as_loaded Memory = Err local.Memory

-- the script as a peer
pub record PlaysAsPeer (old : Played) (result : Result (List ℕ) PeerFault) (new : Played) : Type 0 where
  pub answer : Answer
  pub played : Plays old answer new
  pub given : result ≡ as_fetched answer

-- the script as a local getter
pub record PlaysAsLocal (old : Played) (result : Result (List ℕ) LocalFault) (new : Played) : Type 0 where
  pub answer : Answer
  pub played : Plays old answer new
  pub given : result ≡ as_loaded answer

-- what a drive's origin states of its values, and what its loaders answer
use Rattle.std.specs.Prelude.{◌≡◌, ℕ, ◌+◌, ◌-◌, ◌%◌, ◌^◌, ◌==◌, ◌⊎◌, Bool, true, false, if◌then◌else◌, List, ◌++◌, length, slice_get, Option, Some, None, Result, Ok, Err, codes}
use Rattle.sf_history.specs.declared.call.CallId.{CallId}
use Rattle.sf_loaders.specs.declared.faults.PeerFault.{PeerFault}
use Rattle.sf_loaders.specs.declared.faults.PeerFault.TheVariants as peer
use Rattle.sf_loaders.specs.declared.faults.LocalFault.{LocalFault}
use Rattle.sf_loaders.specs.declared.faults.LocalFault.TheVariants as local

-- the value of a key
abbrev pub value_of : List ℕ → List ℕ
value_of key = codes "v:" ++ key

-- an origin states nothing but these values
abbrev pub StatesValues : (List ℕ → CallId → List ℕ → Type 0) → Type 0
StatesValues loaded = (key : List ℕ) (call : CallId) (bytes : List ℕ) → loaded key call bytes → bytes ≡ value_of key

-- peer 0 owns a key that ends in an odd digit, and nobody another one
abbrev pub owner_by : Option ℕ → Option ℕ
owner_by None = None
owner_by (Some digit) = if digit % 2 == 1 then Some 0 else None

abbrev pub owner_of : List ℕ → Option ℕ
owner_of key = owner_by (slice_get key (length key - 1))

-- the key's value, or a refusal of memory
abbrev pub IsFetched : Bool → List ℕ → Result (List ℕ) PeerFault → Type 0
IsFetched true key answer = answer ≡ Err (peer.Failed (codes "each third fetch fails"))
IsFetched false key answer = (answer ≡ Ok (value_of key)) ⊎ (answer ≡ Err peer.Memory)

-- the third fetch of a peer fails, the sixth, and so on
pub record IsFetchOf (old : ℕ) (key : List ℕ) (answer : Result (List ℕ) PeerFault) (new : ℕ) : Type 0 where
  pub counted : new ≡ (old + 1) % 2 ^ 64
  pub answered : IsFetched (new % 3 == 0) key answer

-- a local getter never fails, but where memory is refused
abbrev pub IsLoadFor : List ℕ → Result (List ℕ) LocalFault → Type 0
IsLoadFor key answer = (answer ≡ Ok (value_of key)) ⊎ (answer ≡ Err local.Memory)

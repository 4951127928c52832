-- the load path of a cache fill, by cases
use Rattle.std.specs.Prelude.{◌≡◌, ℕ, ◌≤◌, List, Option, Some, Result, Ok, Err, MatchOption, MatchResult}
use Rattle.sf_history.specs.declared.call.CallId.{CallId}
use Rattle.sf_loaders.specs.declared.counts.Counts.{Counts}
use Rattle.sf_loaders.specs.declared.counts.Source.{Source}
use Rattle.sf_loaders.specs.declared.counts.Source.TheVariants.{Peer, Local}
use Rattle.sf_loaders.specs.declared.faults.PeerFault.{PeerFault}
use Rattle.sf_loaders.specs.declared.faults.LocalFault.{LocalFault}
use Rattle.sf_loaders.specs.declared.load_path.Loaders.{Loaders}

-- what a run answers: a value and who gave it, or the local getter's fault, beside what it counts
abbrev pub LoadAnswer : Type 0
LoadAnswer = Result (List ℕ × Source) LocalFault × Counts

-- what every run counts: one load that is no duplicate
abbrev pub one_load : Counts
one_load = record { loads_deduped = 1; peer_loads = 0; peer_errors = 0; local_loads = 0; local_load_errors = 0 }

-- the peer's value is the result
abbrev pub from_peer : List ℕ → LoadAnswer
from_peer value = (Ok (value, Peer), record one_load { peer_loads = 1 })

-- the local getter's answer is the result, after so many faults of a peer
abbrev pub from_local : ℕ → Result (List ℕ) LocalFault → LoadAnswer
from_local faults (Ok value) = (Ok (value, Local), record one_load { peer_errors = faults; local_loads = 1 })
from_local faults (Err fault) = (Err fault, record one_load { peer_errors = faults; local_load_errors = 1 })

-- no counter rises by more than one, and each run is one load that is no duplicate
pub record IsOfOneRun (counts : Counts) : Type 0 where
  pub loads_deduped : counts.loads_deduped ≡ 1
  pub peer_loads : counts.peer_loads ≤ 1
  pub peer_errors : counts.peer_errors ≤ 1
  pub local_loads : counts.local_loads ≤ 1
  pub local_load_errors : counts.local_load_errors ≤ 1

module _ {P F L C : Type 0}
    (pick_gives : P → List ℕ → Option ℕ → P → Type 0)
    (fetch_gives : F → ℕ → List ℕ → CallId → Result (List ℕ) PeerFault → F → Type 0)
    (load_gives : L → List ℕ → CallId → Result (List ℕ) LocalFault → L → Type 0)
    (key : List ℕ) (call : CallId) (old : Loaders P F L C) (outcome : LoadAnswer) (new : Loaders P F L C) where
  -- the local getter is asked once, and its answer is the result
  pub record AsksLocal (faults : ℕ) : Type 0 where
    pub answer : Result (List ℕ) LocalFault
    pub asked : load_gives old.local key call answer new.local
    pub result : outcome ≡ from_local faults answer

  -- the peer is asked once: its value is the result, and its fault is kept, and after it the rest is as without a peer
  pub record AsksPeer (peer : ℕ) : Type 0 where
    pub answer : Result (List ℕ) PeerFault
    pub asked : fetch_gives old.peer peer key call answer new.peer
    pub rest : MatchResult answer
        (λ value. (outcome ≡ from_peer value) × (new.local ≡ old.local) × (new.peer_fault ≡ old.peer_fault))
        (λ fault. AsksLocal 1 × (new.peer_fault ≡ Some fault))

  -- the load path: the picker is asked once; where it names no peer, none is asked
  pub record IsLoadOf : Type 0 where
    pub picked : Option ℕ
    pub asked : pick_gives old.picker key picked new.picker
    pub rest : MatchOption picked
        ((new.peer ≡ old.peer) × (new.peer_fault ≡ old.peer_fault) × AsksLocal 0)
        AsksPeer

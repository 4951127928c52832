use Rattle.std.proofs.Common.{◌≡◌, ◌<◌, ℕ, Some}
use Rattle.std.specs.List.{slice_get}
use Rattle.std.specs.Prelude.{vec_len}
use Rattle.sf_keyed_chain.specs.Chains.{Sight}
use Rattle.sf_keyed_chain.specs.Notes.{told_of}
use Rattle.sf_keyed_chain.proofs.chain.KeyedChain.tell.Given as goal

-- what was seen of the tables before this one is told
abbrev pub invariant-loop-at : goal.invariant-loop-at
invariant-loop-at l = (l.me ≡ l.fn.me) × (vec_len l.parts ≡ l.at) × ((i : ℕ) (s : Sight) → i < l.at → slice_get l.fn.me i ≡ Some s → slice_get l.parts.items i ≡ Some (told_of s))

-- what the loaders' faults print: the text of a failure, and one line for want of memory
use Rattle.std.specs.Prelude.{ℕ, List, codes}
use Rattle.sf_loaders.specs.declared.faults.PeerFault.{PeerFault}
use Rattle.sf_loaders.specs.declared.faults.PeerFault.TheVariants as peer
use Rattle.sf_loaders.specs.declared.faults.LocalFault.{LocalFault}
use Rattle.sf_loaders.specs.declared.faults.LocalFault.TheVariants as local

abbrev pub memory_text : List ℕ
memory_text = codes "out of memory"

abbrev pub peer_text : PeerFault → List ℕ
peer_text (peer.Failed text) = text
peer_text peer.Memory = memory_text

abbrev pub local_text : LocalFault → List ℕ
local_text (local.Failed text) = text
local_text local.Memory = memory_text

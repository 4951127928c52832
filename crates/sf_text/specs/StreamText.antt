-- what is said where a stream fails, and what is written until it does
use Rattle.std.specs.Prelude.{◌≡◌, ℕ, List, Option, ◌++◌, codes}
use Rattle.std.specs.Io.KnownBytes.{Appends}
use Rattle.sf_text.specs.declared.stream.StreamFault.{StreamFault}
use Rattle.sf_text.specs.declared.stream.StreamFault.TheVariants.{CannotRead, CannotWrite}

abbrev pub fault_text : StreamFault → List ℕ
fault_text CannotRead = codes "cannot read"
fault_text CannotWrite = codes "cannot write"

-- what is written is a beginning of the answer
abbrev pub AppendsPart : Option (List ℕ) → Option (List ℕ) → List ℕ → Type 0
AppendsPart old new answer = (written : List ℕ) × (rest : List ℕ) × (answer ≡ written ++ rest) × Appends old new written

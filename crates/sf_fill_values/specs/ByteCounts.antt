-- how large a value is
use Rattle.std.specs.Prelude.{ℕ, List, length, Option, Some, None, Result, Ok, Err}
use Rattle.sf_loaders.specs.declared.faults.LocalFault.{LocalFault}

-- its bytes, where it has some
abbrev pub count_of : Result (List ℕ) LocalFault → Option ℕ
count_of (Ok bytes) = Some (length bytes)
count_of (Err fault) = None

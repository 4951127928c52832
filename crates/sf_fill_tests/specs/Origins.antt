-- origins of which all bytes are
use Rattle.std.specs.Prelude.{ℕ, List}
use Rattle.sf_history.specs.declared.call.CallId.{CallId}

-- whatever bytes a run is said to have loaded for a key, the origin states them
abbrev pub IsOpenOrigin : (List ℕ → CallId → List ℕ → Type 0) → Type 0
IsOpenOrigin loaded = (key : List ℕ) (call : CallId) (bytes : List ℕ) → loaded key call bytes

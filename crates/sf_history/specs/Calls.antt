-- calls and members: what prints one, and when two are the same
use Rattle.std.specs.Prelude.{ℕ, Bool, List, ◌++◌, ◌==◌, ◌&&◌, codes, decimal}
use Rattle.sf_history.specs.declared.call.CallId.{CallId}

-- `caller.generation`, as in `1.1`
abbrev pub call_text : CallId → List ℕ
call_text c = decimal c.caller ++ (codes "." ++ decimal c.generation)

-- the two are one call
abbrev pub same_call : CallId → CallId → Bool
same_call c d = (c.caller == d.caller) && (c.generation == d.generation)

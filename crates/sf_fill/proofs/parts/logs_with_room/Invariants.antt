use Rattle.std.specs.Prelude.{◌≡◌, vec_len, All}
use Rattle.sf_fill_store.specs.Logs.{empty_log}
use Rattle.sf_fill.proofs.parts.logs_with_room.Given as goal

abbrev pub invariant-loop-index : goal.invariant-loop-index
invariant-loop-index l = (vec_len l.logs ≡ l.index) × All (λ log. log ≡ empty_log l.fn.room) l.logs.items

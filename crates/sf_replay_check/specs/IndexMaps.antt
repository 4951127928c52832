-- how an index's maps are looked up
use Rattle.std.specs.Prelude.{ℕ}
use Rattle.std.specs.Ordering.{nat_cmp, ordering_then}
use Rattle.std.specs.declared.cmp.Ordering.{Ordering}
use Rattle.std.specs.BTreeMap.{get_by}
use Rattle.sf_history.specs.declared.call.CallId.{CallId}
use Rattle.sf_replay_check.specs.declared.index.Index.{Index}
use Rattle.sf_replay_check.specs.Index.{Noted}

-- how a name compares to the pair of its caller and its generation
abbrev pub compare_name : CallId → ℕ × ℕ → Ordering
compare_name c other = ordering_then (nat_cmp c.caller other.0) (nat_cmp c.generation other.1)

-- an index as it is seen, through its maps
abbrev pub noted_in : {K : Type 0} → (K → K → Ordering) → Index K → Noted K
noted_in cmp i = record { row = λ c. get_by (compare_name c) i.rows; current = λ k. get_by (λ other. cmp k other.now) i.current }

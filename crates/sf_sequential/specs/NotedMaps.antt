-- how an index's maps are looked up, and what an index tells of a group
use Rattle.std.specs.Prelude.{ℕ, Bool, IfSome}
use Rattle.std.specs.Ordering.{nat_cmp, ordering_then}
use Rattle.std.specs.declared.cmp.Ordering.{Ordering}
use Rattle.std.specs.BTreeMap.{get_by}
use Rattle.sf_history.specs.declared.call.CallId.{CallId}
use Rattle.sf_sequential.specs.declared.index.Index.{Index}
use Rattle.sf_sequential.specs.declared.index.Maps.{Maps}
use Rattle.sf_sequential.specs.Noted.{Noted, Tells, caller_row, call_row}
use Rattle.sf_sequential.specs.State.{GroupState}

-- how a call compares to the pair of its caller and its generation
abbrev pub compare_name : CallId → ℕ × ℕ → Ordering
compare_name c other = ordering_then (nat_cmp c.caller other.0) (nat_cmp c.generation other.1)

-- an index's maps as they are seen
abbrev pub noted_in : {K : Type 0} → (K → K → Ordering) → Maps K → Noted K
noted_in cmp m =
    record {
      current = λ k. get_by (λ other. cmp k other.now) m.current;
      caller = λ a. caller_row (get_by (nat_cmp a) m.callers);
      call = λ c. call_row (get_by (compare_name c) m.calls);
    }

-- an index that has its maps tells of the group; one without them tells nothing
abbrev pub IsTold : {K V : Type 0} → (K → K → Ordering) → (K → K → Bool) → GroupState K V → Index K → Type 0
IsTold cmp eq g index = IfSome index.maps (λ m. Tells eq g (noted_in cmp m))

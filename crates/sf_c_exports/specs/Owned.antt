-- What a handle owns: a session, or a call, on the heap and the right to free its block, or nothing.
use mathlib.Core.Bool.{Bool, true, false}
use mathlib.Core.List.{[]}
use base.Fml.{Fml, ftrue}
use base.Stored.{Coded}
use denote.RawPtr.{Ptr}
use Rattle.std.specs.Box.Ownership.{box_owns}
use Rattle.std.specs.Global.{Global}
use Rattle.std_heap.specs.contracts.GlobalAllocator.TheImpl.{ghosts}
use Rattle.sf_c_calls.specs.contracts.session.Session.{the_row}
use Rattle.sf_c_calls.specs.contracts.asking.Asking as Asking
use Rattle.sf_c_calls.specs.declared.asking.Token.TheVariants.{Idle}

abbrev pub Held : Type 0
Held = the_row.Denot

abbrev pub state_owns : Bool → Global → Ptr → the_row.Denot → Fml
state_owns true alloc p s = box_owns (ghosts.dealloc_token alloc) the_row p s
state_owns false alloc p s = ftrue

abbrev pub state_coded : Coded the_row.Denot
state_coded = the_row.coded

-- what an empty handle is said to have held
abbrev pub no_state : the_row.Denot
no_state = record { cells = []; names = record { seed0 = 0; seed1 = 0 }; sights = [] }

abbrev pub HeldCall : Type 0
HeldCall = Asking.the_row.Denot

abbrev pub call_owns : Bool → Global → Ptr → Asking.the_row.Denot → Fml
call_owns true alloc p s = box_owns (ghosts.dealloc_token alloc) Asking.the_row p s
call_owns false alloc p s = ftrue

abbrev pub call_coded : Coded Asking.the_row.Denot
call_coded = Asking.the_row.coded

abbrev pub no_call : Asking.the_row.Denot
no_call = record { cells = []; names = record { seed0 = 0; seed1 = 0 }; token = Idle }

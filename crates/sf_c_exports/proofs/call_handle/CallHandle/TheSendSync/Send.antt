use mathlib.Core.Bool.{Bool, true, false}
use mir.Raw.{raw}
use denote.Memory.{lone}
use denote.RawPtr.{Ptr}
use base.Shift.{Keyless}
use denote.Struct.Struct.{exits_of}
use denote.Struct.Owning.{shape, fields, to}
use denote.Param.Send.{IsSend, AllSend, owning_send, struct_send, sendable}
use Rattle.std.proofs.Crossing as heap
use Rattle.std.specs.Global.{Global}
use Rattle.std_alloc.proofs.SendSync.{quiet, lies}
use Rattle.std_heap.proofs.Global.TheSendSync as handle
use Rattle.sf_c_exports.specs.Owned.{call_owns}
use Rattle.sf_c_calls.specs.contracts.asking.Asking as State
use Rattle.sf_c_calls.proofs.asking.Asking.TheSendSync.{the_send as call}
use Rattle.sf_c_exports.specs.contracts.call_handle.CallHandle.{the_row, the_type}

-- what a handle owns is a call, which may go to another thread, and the right to free its block; or nothing
held : (b : Bool) (alloc : Global) (p : Ptr) (s : State.the_row.Denot) → Keyless (call_owns b alloc p s)
held true alloc p s = (lies State.the_row call p s, heap.frees.frees alloc (raw (lone State.the_row.mir)) p)
held false alloc p s = tt

pub send : IsSend the_row
send =
    let all : AllSend (fields the_type) = (search sendable, (handle.the_field_send, tt)) in
    owning_send the_type all (λ d. held d.full d.alloc d.at d.call)
    (λ k. quiet (to the_type) (exits_of k (fields the_type)) ((struct_send (shape the_type) all).leaving k))

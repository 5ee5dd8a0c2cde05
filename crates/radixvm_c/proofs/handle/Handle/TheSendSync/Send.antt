-- A handle owns what lies behind its pointer, which may go to another thread.
use mir.Raw.{raw}
use base.Shift.{Keyless}
use denote.Memory.{lone}
use denote.RawPtr.{Ptr}
use denote.Struct.Struct.{exits_of}
use denote.Struct.Owning.{shape, fields, to}
use denote.Param.Send.{IsSend, AllSend, owning_send, struct_send, sendable}
use Rattle.std.specs.Prelude.{Option, None, Some}
use Rattle.std.specs.declared.alloc.Global.{Global}
use Rattle.std.proofs.Crossing as heap
use Rattle.std_alloc.proofs.SendSync.{quiet, lies}
use Rattle.std_heap.proofs.Global.TheSendSync as handle
use Rattle.radixvm_c.specs.Behind.{held_at}
use Rattle.coded.specs.declared.held.AnyMachine.{AnyMachine}
use Rattle.radixvm_c.proofs.Values.{R}
use Rattle.radixvm_c.proofs.Sent.{home}
use Rattle.radixvm_c.specs.contracts.handle.Handle.{the_row, the_type}

crosses : (a : Global) (p : Ptr) (v : Option AnyMachine) → Keyless (held_at a p v)
crosses a p None = tt
crosses a p (Some x) = (lies R home p x, heap.frees.frees a (raw (lone R.mir)) p)

pub send : IsSend the_row
send =
    let all : AllSend (fields the_type) = (search sendable, (handle.the_field_send, tt)) in
    owning_send the_type all (λ d. crosses d.alloc d.at d.value)
    (λ k. quiet (to the_type) (exits_of k (fields the_type)) ((struct_send (shape the_type) all).leaving k))

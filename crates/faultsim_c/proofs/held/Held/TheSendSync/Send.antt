-- The contents may cross threads: the allocator may, and so may a handle's contents and the right
-- to free their box.
use mir.Raw.{raw}
use base.Shift.{Keyless}
use denote.{Memory.lone, RawPtr.Ptr, Struct.Struct.exits_of, Struct.Owning.{shape, fields, to}}
use denote.Param.Send.{IsSend, AllSend, owning_send, struct_send, sendable}
use Rattle.std.specs.{Prelude.{Option, Some, None}, Global.Global}
use Rattle.std.proofs.Crossing as heap
use Rattle.std_alloc.proofs.SendSync.{quiet, lies}
use Rattle.std_heap.proofs.Global.TheSendSync as allocator
use Rattle.faultsim_c.specs.{Held.{Value, held_by}, contracts.held.Held.{the_row, the_type}}
use Rattle.faultsim_c.proofs.holding.Holding.TheSendSync.{the_send as holding_crosses}
use Rattle.faultsim_c.specs.contracts.holding.Holding as holding

held_crosses : (a : Global) (p : Ptr) (held : Option Value) → Keyless (held_by a p held)
held_crosses a p (Some v) = (
  lies holding.the_row holding_crosses p v,
  heap.frees.frees a (raw (lone (holding.the_row).mir)) p,
)
held_crosses a p None = tt

fields_cross : AllSend (fields the_type)
fields_cross = (search sendable, (allocator.the_field_send, tt))

pub send : IsSend the_row
send = owning_send the_type fields_cross (λ h. held_crosses h.alloc h.at h.holding)
    (λ k. quiet (to the_type) (exits_of k (fields the_type)) ((struct_send
    (shape the_type) fields_cross).leaving k))

-- What lies behind a handle may go to another thread
use denote.Enum.Enum.{Enum}
use denote.Enum.Declared.{shape}
use denote.Param.Send.{IsSend, EachSend, recorded_send, enum_send, sendable}
use Rattle.std.proofs.Crossing.{crosses}
use Rattle.arrayvec.proofs.array_vec.ArrayVec.TheSendSync as arrayvec_arrayvec
use Rattle.arrayvec.proofs.cells.Cells.TheSendSync as arrayvec_cells
use Rattle.frames.proofs.cached_frame.CachedFrame.TheSendSync as backing_cachedframe
use Rattle.frames.proofs.file_object.FileObject.TheSendSync as backing_fileobject
use Rattle.frames.proofs.objects.Objects.TheSendSync as backing_objects
use Rattle.core.proofs.option.Option.TheSendSync as core_option
use Rattle.core.proofs.rt.Memory.TheSendSync as core_memory
use Rattle.core_steps.proofs.engine.Engine.TheSendSync as core_steps_engine
use Rattle.core_steps.proofs.engine.calls.CallTable.TheSendSync as core_steps_calltable
use Rattle.core_steps.proofs.engine.cores.Cores.TheSendSync as core_steps_cores
use Rattle.machine_log.proofs.ledger.entries.KeptEntries.TheSendSync as core_steps_keptentries
use Rattle.machine_log.proofs.ledger.forgotten.KeepsNone.TheSendSync as core_steps_forgotten
use Rattle.machine_log.proofs.ledger.kept.KeepsAll.TheSendSync as core_steps_kept
use Rattle.core_steps.proofs.machine.Machine.TheSendSync as core_steps_machine
use Rattle.frames.proofs.byte_store.ByteStore.TheSendSync as frames_bytestore
use Rattle.frames.proofs.frames.Frames.TheSendSync as frames_frames
use Rattle.frames.proofs.free_set.FreeSet.TheSendSync as frames_freeset
use Rattle.ghost_list.proofs.list.GhostList.TheSendSync as ghost_list_ghostlist
use Rattle.machine_model.proofs.phase.Phase.TheSendSync as machine_model_phase
use Rattle.mmu.proofs.cpu.Cpu.TheSendSync as mmu_cpu
use Rattle.mmu.proofs.entry.Translation.TheSendSync as mmu_translation
use Rattle.mmu.proofs.level.Inner.TheSendSync as mmu_inner
use Rattle.mmu.proofs.level.Leaf.TheSendSync as mmu_leaf
use Rattle.mmu.proofs.tlb.Tlb.TheSendSync as mmu_tlb
use Rattle.mmu.proofs.tlb.TlbEntry.TheSendSync as mmu_tlbentry
use Rattle.radix_node.proofs.state.BackKind.TheSendSync as radix_node_kind
use Rattle.radix_node.proofs.state.SlotState.TheSendSync as radix_node_slotstate
use Rattle.radix_range.proofs.tight.Tight.TheSendSync as radix_range_tight
use Rattle.refcache.proofs.core_counts.CoreCounts.TheSendSync as refcache_corecounts
use Rattle.refcache.proofs.epochs.Epochs.TheSendSync as refcache_epochs
use Rattle.refcache.proofs.object_count.ObjectCount.TheSendSync as refcache_objectcount
use Rattle.refcache.proofs.place_set.PlaceSet.TheSendSync as refcache_placeset
use Rattle.refcache.proofs.places.Delta.TheSendSync as refcache_entry
use Rattle.refcache.proofs.reports.Queued.TheSendSync as refcache_queued
use Rattle.refcache.proofs.table.CountTable.TheSendSync as refcache_counttable
use Rattle.refcache.proofs.whole.Refcache.TheSendSync as refcache_refcache
use Rattle.mmu.proofs.inbox.Inbox.TheSendSync as shootdown_inbox
use Rattle.mmu.proofs.inboxes.Inboxes.TheSendSync as shootdown_inboxes
use Rattle.mmu.proofs.message.Message.TheSendSync as shootdown_message
use Rattle.slot_lock.proofs.plan.Change.TheSendSync as slot_lock_change
use Rattle.slot_lock.proofs.plan.Goal.TheSendSync as slot_lock_goal
use Rattle.slot_lock.proofs.plan.Place.TheSendSync as slot_lock_place
use Rattle.slot_lock.proofs.plan.Target.TheSendSync as slot_lock_target
use Rattle.slot_lock.proofs.plan.Touch.TheSendSync as slot_lock_touch
use Rattle.std_heap.proofs.Global.TheSendSync as std_heap_global
use Rattle.vm_base.proofs.cores.CoreId.TheSendSync as vm_base_coreid
use Rattle.vm_base.proofs.cores.CoreSet.TheSendSync as vm_base_coreset
use Rattle.vm_base.proofs.info.Back.TheSendSync as vm_base_back
use Rattle.vm_base.proofs.info.Meta.TheSendSync as vm_base_meta
use Rattle.vm_base.proofs.log.Entry.TheSendSync as vm_base_entry
use Rattle.vm_base.proofs.page.PageRange.TheSendSync as vm_base_pagerange
use Rattle.vm_base.proofs.replies.Errno.TheSendSync as vm_base_errno
use Rattle.vm_base.proofs.replies.Reply.TheSendSync as vm_base_reply
use Rattle.vm_base.proofs.replies.SegvCode.TheSendSync as vm_base_segvcode
use Rattle.vm_base.proofs.requests.Flags.TheSendSync as vm_base_flags
use Rattle.vm_base.proofs.requests.Request.TheSendSync as vm_base_request
use Rattle.vm_base.proofs.rights.Access.TheSendSync as vm_base_access
use Rattle.vm_base.proofs.rights.Mode.TheSendSync as vm_base_mode
use Rattle.vm_base.proofs.rights.Prot.TheSendSync as vm_base_prot
use Rattle.radix_node.proofs.node.Node.TheLaws.TheKnot as knot
use Rattle.shared.proofs.space.SharedMachine.TheSendSync as shared_space
use Rattle.shared.proofs.space.CoreSeat.TheSendSync as shared_core
use Rattle.shared.proofs.space.Known.TheSendSync as shared_known
use Rattle.coded.specs.contracts.held.AnyMachine as held
use Rattle.radixvm_c.specs.contracts.placed.Placed as placed
use Rattle.radixvm_c.specs.contracts.chair.HeldSeat as seat
use Rattle.radixvm_c.specs.contracts.chair.Chair as chair

ruleset parts = (
  arrayvec_arrayvec.the_send,
  arrayvec_arrayvec.the_sync,
  arrayvec_cells.the_field_send,
  arrayvec_cells.the_field_sync,
  arrayvec_cells.the_send,
  arrayvec_cells.the_sync,
  backing_cachedframe.the_send,
  backing_cachedframe.the_sync,
  backing_fileobject.the_send,
  backing_fileobject.the_sync,
  backing_objects.the_send,
  backing_objects.the_sync,
  core_option.the_field_send,
  core_option.the_field_sync,
  core_option.the_send,
  core_option.the_sync,
  core_memory.the_field_send,
  core_memory.the_field_sync,
  core_memory.the_send,
  core_memory.the_sync,
  core_steps_engine.the_field_send,
  core_steps_engine.the_field_sync,
  core_steps_engine.the_send,
  core_steps_engine.the_sync,
  core_steps_calltable.the_field_send,
  core_steps_calltable.the_field_sync,
  core_steps_calltable.the_send,
  core_steps_calltable.the_sync,
  core_steps_cores.the_field_send,
  core_steps_cores.the_field_sync,
  core_steps_cores.the_send,
  core_steps_cores.the_sync,
  core_steps_keptentries.the_field_send,
  core_steps_keptentries.the_field_sync,
  core_steps_keptentries.the_send,
  core_steps_keptentries.the_sync,
  core_steps_forgotten.the_field_send,
  core_steps_forgotten.the_send,
  core_steps_kept.the_field_send,
  core_steps_kept.the_field_sync,
  core_steps_kept.the_send,
  core_steps_kept.the_sync,
  core_steps_machine.the_field_send,
  core_steps_machine.the_field_sync,
  core_steps_machine.the_send,
  core_steps_machine.the_sync,
  frames_bytestore.the_send,
  frames_bytestore.the_sync,
  frames_frames.the_send,
  frames_frames.the_sync,
  frames_freeset.the_send,
  frames_freeset.the_sync,
  ghost_list_ghostlist.the_send,
  machine_model_phase.the_field_send,
  machine_model_phase.the_field_sync,
  machine_model_phase.the_send,
  machine_model_phase.the_sync,
  mmu_cpu.the_field_send,
  mmu_cpu.the_field_sync,
  mmu_cpu.the_send,
  mmu_cpu.the_sync,
  mmu_translation.the_field_send,
  mmu_translation.the_field_sync,
  mmu_translation.the_send,
  mmu_translation.the_sync,
  mmu_inner.the_field_send,
  mmu_inner.the_field_sync,
  mmu_inner.the_send,
  mmu_inner.the_sync,
  mmu_leaf.the_field_send,
  mmu_leaf.the_field_sync,
  mmu_leaf.the_send,
  mmu_leaf.the_sync,
  mmu_tlb.the_field_send,
  mmu_tlb.the_field_sync,
  mmu_tlb.the_send,
  mmu_tlb.the_sync,
  mmu_tlbentry.the_field_send,
  mmu_tlbentry.the_field_sync,
  mmu_tlbentry.the_send,
  mmu_tlbentry.the_sync,
  radix_node_kind.the_field_send,
  radix_node_kind.the_field_sync,
  radix_node_kind.the_send,
  radix_node_kind.the_sync,
  radix_node_slotstate.the_field_send,
  radix_node_slotstate.the_field_sync,
  radix_node_slotstate.the_send,
  radix_node_slotstate.the_sync,
  radix_range_tight.the_field_send,
  radix_range_tight.the_field_sync,
  radix_range_tight.the_send,
  radix_range_tight.the_sync,
  refcache_corecounts.the_send,
  refcache_corecounts.the_sync,
  refcache_epochs.the_send,
  refcache_epochs.the_sync,
  refcache_objectcount.the_field_send,
  refcache_objectcount.the_field_sync,
  refcache_objectcount.the_send,
  refcache_objectcount.the_sync,
  refcache_placeset.the_send,
  refcache_placeset.the_sync,
  refcache_entry.the_field_send,
  refcache_entry.the_field_sync,
  refcache_entry.the_send,
  refcache_entry.the_sync,
  refcache_queued.the_field_send,
  refcache_queued.the_field_sync,
  refcache_queued.the_send,
  refcache_queued.the_sync,
  refcache_counttable.the_send,
  refcache_counttable.the_sync,
  refcache_refcache.the_send,
  refcache_refcache.the_sync,
  shootdown_inbox.the_send,
  shootdown_inbox.the_sync,
  shootdown_inboxes.the_send,
  shootdown_inboxes.the_sync,
  shootdown_message.the_field_send,
  shootdown_message.the_field_sync,
  shootdown_message.the_send,
  shootdown_message.the_sync,
  slot_lock_change.the_field_send,
  slot_lock_change.the_field_sync,
  slot_lock_change.the_send,
  slot_lock_change.the_sync,
  slot_lock_goal.the_field_send,
  slot_lock_goal.the_field_sync,
  slot_lock_goal.the_send,
  slot_lock_goal.the_sync,
  slot_lock_place.the_field_send,
  slot_lock_place.the_field_sync,
  slot_lock_place.the_send,
  slot_lock_place.the_sync,
  slot_lock_target.the_field_send,
  slot_lock_target.the_field_sync,
  slot_lock_target.the_send,
  slot_lock_target.the_sync,
  slot_lock_touch.the_field_send,
  slot_lock_touch.the_field_sync,
  slot_lock_touch.the_send,
  slot_lock_touch.the_sync,
  std_heap_global.the_field_send,
  std_heap_global.the_field_sync,
  std_heap_global.the_send,
  std_heap_global.the_sync,
  vm_base_coreid.the_send,
  vm_base_coreid.the_sync,
  vm_base_coreset.the_send,
  vm_base_coreset.the_sync,
  vm_base_back.the_field_send,
  vm_base_back.the_field_sync,
  vm_base_back.the_send,
  vm_base_back.the_sync,
  vm_base_meta.the_field_send,
  vm_base_meta.the_field_sync,
  vm_base_meta.the_send,
  vm_base_meta.the_sync,
  vm_base_entry.the_field_send,
  vm_base_entry.the_field_sync,
  vm_base_entry.the_send,
  vm_base_entry.the_sync,
  vm_base_pagerange.the_field_send,
  vm_base_pagerange.the_field_sync,
  vm_base_pagerange.the_send,
  vm_base_pagerange.the_sync,
  vm_base_errno.the_field_send,
  vm_base_errno.the_field_sync,
  vm_base_errno.the_send,
  vm_base_errno.the_sync,
  vm_base_reply.the_field_send,
  vm_base_reply.the_field_sync,
  vm_base_reply.the_send,
  vm_base_reply.the_sync,
  vm_base_segvcode.the_field_send,
  vm_base_segvcode.the_field_sync,
  vm_base_segvcode.the_send,
  vm_base_segvcode.the_sync,
  vm_base_flags.the_field_send,
  vm_base_flags.the_field_sync,
  vm_base_flags.the_send,
  vm_base_flags.the_sync,
  vm_base_request.the_field_send,
  vm_base_request.the_field_sync,
  vm_base_request.the_send,
  vm_base_request.the_sync,
  vm_base_access.the_field_send,
  vm_base_access.the_field_sync,
  vm_base_access.the_send,
  vm_base_access.the_sync,
  vm_base_mode.the_field_send,
  vm_base_mode.the_field_sync,
  vm_base_mode.the_send,
  vm_base_mode.the_sync,
  vm_base_prot.the_field_send,
  vm_base_prot.the_field_sync,
  vm_base_prot.the_send,
  vm_base_prot.the_sync,
  knot.crosses,
  shared_space.the_field_send,
  shared_space.the_field_sync,
  shared_space.the_send,
  shared_space.the_sync,
  shared_core.the_send,
  shared_known.the_field_send,
  shared_known.the_field_sync,
  shared_known.the_send,
  shared_known.the_sync,
)

pub home : IsSend held.the_row
home = search (sendable, crosses, parts) depth 60

placed_home : IsSend placed.the_row
placed_home = search (home, sendable, crosses, parts) depth 60

seat_home : IsSend (seat.the_field).row
seat_home = search (placed_home, sendable, crosses, parts) depth 60

pub chair_home : IsSend chair.the_row
chair_home =
    let each : EachSend (shape chair.the_type).variants = (tt, ((seat_home, tt), tt)) in
    recorded_send (Enum (shape chair.the_type)) _ _ (chair.the_type).to_one (enum_send (shape chair.the_type) each)

-- What a handle owns
use Rattle.std.specs.Prelude.{Option, None, Some}
use base.Fml.{Fml, feq}
use denote.RawPtr.{Ptr, null_ptr}
use Rattle.std.specs.Box.Ownership.{box_owns}
use Rattle.std.specs.declared.alloc.Global.{Global}
use Rattle.std.specs.contracts.impls.GlobalAllocator.TheImpl.{ghosts}
use Rattle.coded.specs.declared.held.AnyMachine.{AnyMachine}
use Rattle.radixvm_c.specs.declared.chair.Chair.{Chair}
use Rattle.coded.specs.contracts.held.AnyMachine.{the_row}
use Rattle.radixvm_c.specs.contracts.chair.Chair.{the_row as chair_row}

-- the pointer is null, or the machine lies there, in a block that may be freed
abbrev pub held_at : Global → Ptr → Option AnyMachine → Fml
held_at alloc p None = feq Ptr p null_ptr
held_at alloc p (Some x) = box_owns (ghosts.dealloc_token alloc) the_row p x

abbrev pub chair_at : Global → Ptr → Option Chair → Fml
chair_at alloc p None = feq Ptr p null_ptr
chair_at alloc p (Some x) = box_owns (ghosts.dealloc_token alloc) chair_row p x

-- An access that the tables of its core permit
use Rattle.std.specs.Prelude.{◌≡◌, ℕ, Bool, true, None, Some, Result, Ok}
use Rattle.vm_base.specs.declared.memory.NoMemory.{NoMemory as MemoryFault}
use Rattle.vm_base.specs.declared.requests.Request.{Request}
use Rattle.vm_base.specs.declared.requests.Request.TheVariants as Asks
use Rattle.vm_base.specs.Pages.{page_of}
use Rattle.mmu.specs.declared.entry.Translation.{Translation}
use Rattle.mmu.specs.Entry.{permits}
use Rattle.mmu.specs.Tlb.{tlb_at}
use Rattle.slot_lock.specs.declared.plan.Touch.{Touch}
use Rattle.slot_lock.specs.declared.plan.Plan.TheVariants as PlanOf
use Rattle.machine_model.specs.declared.event.Event.TheVariants.{Evict}
use Rattle.machine_model.specs.declared.event.Outcome.{Outcome}
use Rattle.machine_model.specs.declared.phase.Phase.TheVariants.{Free}
use Rattle.machine_model.specs.Changes.{checked_by}
use Rattle.machine_model.specs.Step.{Step}
use Rattle.machine_model.specs.World.{World}
use Rattle.driven.specs.declared.telling.Told.{Told}
use Rattle.driven.specs.Telling.{CallsTelling}

-- the entry permits what the request asks for
abbrev pub IsPermitted : Translation → Request → Type 0
IsPermitted e (Asks.Load at) = Unit {0}
IsPermitted e (Asks.Store at byte) = e.write ≡ true
IsPermitted e (Asks.Fetch at) = e.exec ≡ true
IsPermitted e _ = ⊥

-- it is an access of the byte at this address
abbrev pub IsAccessAt : ℕ → Request → Type 0
IsAccessAt at (Asks.Load a) = a ≡ at
IsAccessAt at (Asks.Store a byte) = a ≡ at
IsAccessAt at (Asks.Fetch a) = a ≡ at
IsAccessAt at _ = ⊥

-- the core's tables have such an entry of the page
abbrev pub HasEntryFor : World → ℕ → ℕ → Request → Type 0
HasEntryFor w core p request = (e : Translation) × (w.hardware.table core p ≡ Some e) × IsPermitted e request

-- the core has no call, and this one is an access of a page that its TLB hasn't, and that its tables permit
pub record IsServed (w : World) (core : ℕ) (request : Request) : Type 0 where
  pub touch : Touch
  pub entry : Translation
  pub free : w.calls.phase core ≡ Free
  pub plan : checked_by w.made core request ≡ Ok (PlanOf.Touch touch)
  pub anew : tlb_at (w.hardware.tlb core) touch.page ≡ None
  pub found : w.hardware.table core touch.page ≡ Some entry
  pub permitted : permits entry touch.access ≡ true

-- the core's TLB drops the page of the address, and a call of the core begins and goes on
abbrev pub EvictsAndCalls : Bool → World → ℕ → ℕ → Request → Told → Result Outcome MemoryFault → World → Type 0
EvictsAndCalls keeps w at core request told ended v =
    (x : Outcome) × (m : World) × Step w (Evict core (page_of at)) x m × CallsTelling keeps m core request told ended v

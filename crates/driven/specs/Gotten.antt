-- An access by which no page loses its frame: what it tells follows from what its page had, and what it has then
use Rattle.std.specs.Prelude.{◌≡◌, ℕ, ◌==◌, ◌&&◌, if◌then◌else◌, Bool, false, Option, None, Some, is_some, Ok}
use Rattle.vm_base.specs.declared.info.Back.{Back}
use Rattle.vm_base.specs.declared.info.PageInfo.{PageInfo}
use Rattle.vm_base.specs.declared.requests.Request.{Request}
use Rattle.vm_base.specs.declared.requests.Request.TheVariants as Asks
use Rattle.vm_base.specs.Info.{frame_of}
use Rattle.slot_lock.specs.declared.plan.Touch.{Touch}
use Rattle.slot_lock.specs.declared.plan.Plan.TheVariants as PlanOf
use Rattle.machine_model.specs.declared.phase.Phase.TheVariants.{Free}
use Rattle.vm_calls.specs.Settling.{is_private_store}
use Rattle.machine_model.specs.Changes.{checked_by}
use Rattle.machine_model.specs.Files.{back_of, is_private}
use Rattle.machine_model.specs.World.{World}
use Rattle.real_mmu.specs.Fills.{source_of}
use Rattle.driven.specs.declared.telling.Origin.{Origin}
use Rattle.driven.specs.declared.telling.Origin.TheVariants as From
use Rattle.driven.specs.declared.telling.FrameFill.{FrameFill}
use Rattle.driven.specs.Telling.{origin_of}

-- a store to a private page that has a frame may have it copied
abbrev pub may_copy : Option PageInfo → Request → Bool
may_copy info (Asks.Store at byte) = is_private (back_of info) && is_some (frame_of info)
may_copy info _ = false

-- the core has no call, and this one is an access that doesn't have its page's frame copied
pub record IsUncopied (w : World) (core : ℕ) (request : Request) : Type 0 where
  pub touch : Touch
  pub free : w.calls.phase core ≡ Free
  pub plan : checked_by w.made core request ≡ Ok (PlanOf.Touch touch)
  pub kept : is_private_store (back_of (w.slots.info touch.page)) touch.access && is_some (frame_of (w.slots.info touch.page)) ≡ false

-- its page is this one
abbrev pub IsUncopiedAt : World → ℕ → ℕ → Request → Type 0
IsUncopiedAt w core page request = (h : IsUncopied w core request) × (h.touch.page ≡ page)

-- where the bytes of a new frame come from, if the page has none
abbrev pub missing_by : World → Back → Option ℕ → Option Origin
missing_by w back None = Some (origin_of (source_of w.memory.cached back))
missing_by w back (Some f) = None

abbrev pub missing_from : World → Option PageInfo → Option Origin
missing_from w info = missing_by w (back_of info) (frame_of info)

abbrev pub is_from : Origin → ℕ → Bool
is_from (From.Frame g) f = g == f
is_from _ f = false

-- The page's frame now, if it was missing and the page got a new one. One from which the bytes of a new one would come is none: it caches
-- the page of the file.
abbrev pub gotten : ℕ → Option Origin → Option ℕ → Option FrameFill
gotten page None now = None
gotten page (Some from) None = None
gotten page (Some from) (Some f) = if is_from from f then None else Some (record { page = page; frame = f; from = from })

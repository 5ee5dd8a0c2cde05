-- What the arguments of a request decide: what its call is to do, or a reply at once
use Rattle.std.specs.Prelude.{ℕ, ◌≡◌, ◌^◌, min, if◌then◌else◌, Option, None, Some, Result, Ok, Err}
use Rattle.vm_base.specs.declared.page.PageRange.{PageRange}
use Rattle.vm_base.specs.declared.info.Meta.{Meta}
use Rattle.vm_base.specs.declared.rights.Access.{Access}
use Rattle.vm_base.specs.declared.rights.Access.TheVariants.{Load, Store, Fetch}
use Rattle.vm_base.specs.declared.rights.Mode.{Mode}
use Rattle.vm_base.specs.declared.requests.Request.{Request}
use Rattle.vm_base.specs.declared.requests.Request.TheVariants.{Mmap, Munmap, Mprotect}
use Rattle.vm_base.specs.declared.requests.Request.TheVariants.{Load as LoadOf, Store as StoreOf}
use Rattle.vm_base.specs.declared.requests.Request.TheVariants.{Fetch as FetchOf}
use Rattle.vm_base.specs.declared.replies.SegvCode.TheVariants.{MapErr}
use Rattle.vm_base.specs.declared.replies.Reply.{Reply}
use Rattle.vm_base.specs.declared.replies.Reply.TheVariants.{Segv}
use Rattle.vm_base.specs.Pages.{is_page, page_of, offset_of, page_count, are_pages, pages_of}
use Rattle.vm_base.specs.Pages.{pages_from, window_of}
use Rattle.vm_base.specs.Plain.{Plain, File, mode_of}
use Rattle.vm_base.specs.Refusals.{refusal}
use Rattle.vm_base.specs.Apply.{meta_of}
use Rattle.slot_lock.specs.declared.plan.Change.TheVariants.{Put, Clear, Protect}
use Rattle.slot_lock.specs.declared.plan.Place.{Place}
use Rattle.slot_lock.specs.declared.plan.Touch.{Touch}
use Rattle.slot_lock.specs.declared.plan.Plan.{Plan}
use Rattle.slot_lock.specs.declared.plan.Plan.TheVariants as PlanOf

-- ---- a mapping without MAP_FIXED

-- How many pages are to be placed for so many bytes. There are fewer than 2^35 pages, so from that
-- number on none is placed, and the count stops there.
abbrev pub placed_count : ℕ → ℕ
placed_count len = min (page_count len) (2 ^ 35)

-- the n pages from the hint on, if all are valid
abbrev pub hint_at : ℕ → ℕ → Option PageRange
hint_at h n = if are_pages (pages_from h n) then Some (pages_from h n) else None

-- where a mapping without a fixed address is looked for: by its hint, then in its core's window
abbrev pub place_of : ℕ → ℕ → ℕ → Meta → Place
place_of core addr len meta = record {
  hint = hint_at (page_of addr) (placed_count len);
  window = window_of core;
  count = placed_count len;
  meta = meta;
}

-- ---- an access

abbrev pub touch_of : ℕ → Access → ℕ → Touch
touch_of addr access byte =
    record { page = page_of addr; offset = offset_of addr; access = access; byte = byte }

-- on an invalid page nothing is mapped
abbrev pub touched : ℕ → Access → ℕ → Result Plan Reply
touched addr access byte =
    if is_page (page_of addr) then Ok (PlanOf.Touch (touch_of addr access byte))
    else Err (Segv MapErr)

-- ---- every request

-- what a request is to do that its arguments don't refuse
abbrev pub plan_of : ℕ → Request → Result Plan Reply
plan_of core (Mmap addr len prot flags file off) =
    if flags.fixed then Ok (PlanOf.Change (Put (pages_of addr len) (meta_of prot flags file off)))
    else Ok (PlanOf.Place (place_of core addr len (meta_of prot flags file off)))
plan_of core (Munmap addr len) = Ok (PlanOf.Change (Clear (pages_of addr len)))
plan_of core (Mprotect addr len prot) = Ok (PlanOf.Change (Protect (pages_of addr len) prot))
plan_of core (LoadOf addr) = touched addr Load 0
plan_of core (StoreOf addr byte) = touched addr Store byte
plan_of core (FetchOf addr) = touched addr Fetch 0

-- the plan, but for a reason to refuse it
abbrev pub unless_refused : Option Reply → Result Plan Reply → Result Plan Reply
unless_refused (Some reply) plan = Err reply
unless_refused None plan = plan

-- by the modes of the files
abbrev pub checked : (ℕ → Option Mode) → ℕ → Request → Result Plan Reply
checked modes core request = unless_refused (refusal modes request) (plan_of core request)

-- the files of the plain map are open for the same as these
abbrev pub HasModes : Plain → (ℕ → Option File) → Type 0
HasModes t files = (n : ℕ) → mode_of (t.file n) ≡ mode_of (files n)

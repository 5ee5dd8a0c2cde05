-- A fault whose page is a slot of its own that nobody holds: what it finds there, where the page's
-- frame comes from, and what is left, there and after a change of such a page
use Rattle.std.specs.Prelude.{◌≡◌, ℕ, ◌+◌, ◌<◌, ◌≤◌, ◌^◌, [], ◌∷◌, ◌++◌, Bool, true, false}
use Rattle.std.specs.Prelude.{Option, None, Some, IfSome, List, is_some, pos, ◌<ℤ◌, Result, Ok, Err}
use Rattle.vm_base.specs.declared.info.Back.{Back}
use Rattle.vm_base.specs.declared.info.Back.TheVariants.{Anon, Private}
use Rattle.vm_base.specs.declared.info.PageInfo.{PageInfo}
use Rattle.vm_base.specs.declared.replies.Reply.{Reply}
use Rattle.vm_base.specs.declared.rights.Access.{Access}
use Rattle.vm_base.specs.declared.rights.Access.TheVariants.{Store}
use Rattle.vm_base.specs.declared.log.Entry.{Entry}
use Rattle.vm_base.specs.Functions.{put}
use Rattle.vm_base.specs.Pages.{pages_from}
use Rattle.vm_base.specs.Plain.{File, file_bytes, zeros}
use Rattle.slot_lock.specs.declared.plan.Goal.TheVariants as To
use Rattle.slot_lock.specs.declared.plan.Touch.{Touch}
use Rattle.slot_lock.specs.Slots.{IsFreeSlot, with_info}
use Rattle.vm_calls.specs.declared.fault.Settled.{Settled}
use Rattle.vm_calls.specs.declared.fault.Settled.TheVariants as Found
use Rattle.vm_calls.specs.Settling.{is_private_store}
use Rattle.mmu.specs.declared.entry.Translation.{Translation}
use Rattle.refcache.specs.Counts.{Counts, true_count}
use Rattle.refcache.specs.Steps.{Takes, Begin, Inc, IsUnused}
use Rattle.vm_base.specs.declared.log.Entry.TheVariants as EntryOf
use Rattle.machine_model.specs.declared.phase.Phase.{Phase}
use Rattle.machine_model.specs.declared.phase.Phase.TheVariants.{Answer}
use Rattle.machine_model.specs.Accesses.{IsLeastFree}
use Rattle.vm_base.specs.Info.{info_with_core}
use Rattle.machine_model.specs.Actions.{after_reply, to}
use Rattle.machine_model.specs.Files.{page_now}
use Rattle.machine_model.specs.Holding.{page_of_touch}
use Rattle.machine_model.specs.Locks.{locking}
use Rattle.machine_model.specs.Step.{StepsTo, event_limit}
use Rattle.machine_model.specs.Filling.{CountsCopy}
use Rattle.machine_model.specs.Translating.{entry_of_page, tlb_invalidated, with_table}
use Rattle.machine_model.specs.World.{Calls, Hardware, Memory, World}
use Rattle.machine_model.specs.Sound.{IsReached}
use Rattle.core_steps.specs.Filling.{IsOfFile}
use Rattle.core_steps.specs.Moving.{tried_to}
use Rattle.core_steps.specs.PageChange.{IsAlone}
use Rattle.core_steps.specs.declared.at_once.fault.Source.{Source}
use Rattle.core_steps.specs.declared.at_once.fault.Source.TheVariants.{Own, Cached, Free, Read, First, Shown}

-- the core's call is to lock the page of its access, which is a slot of its own that nobody holds,
-- and all events of the fault can be counted
pub record IsFault (w : World) (core : ℕ) (touch : Touch) : Type 0 where
  pub reached : ∥ IsReached w ∥₁
  pub here : core < w.made.cores
  pub phase : w.calls.phase core ≡ locking (To.Access touch)
  pub alone : IsFreeSlot w.slots touch.page
  pub room : w.calls.events + 8 ≤ event_limit

-- the access goes on in a phase by what it found at its page, or is answered
abbrev pub after_settling : ℕ → Touch → Result Phase Reply → World → World
after_settling core touch (Ok phase) w = to core phase w
after_settling core touch (Err reply) w = after_reply core (Some (page_of_touch touch)) reply w

-- what the access found asks for a frame to be taken: for a page that has none, or for a copy of
-- the page's
abbrev pub wants_frame : Settled → Bool
wants_frame Found.Wants = true
wants_frame (Found.Copies f) = true
wants_frame _ = false

-- ---- where the page's frame comes from

abbrev pub frame_from : Source → ℕ
frame_from (Own f) = f
frame_from (Cached f) = f
frame_from (Free f) = f
frame_from (Read f n k) = f
frame_from (First f n k) = f
frame_from (Shown f g) = f

-- in how many steps the page gets it
abbrev pub steps_from : Source → ℕ
steps_from (Own f) = 0
steps_from (Cached f) = 1
steps_from (Free f) = 2
steps_from (Read f n k) = 2
steps_from (First f n k) = 2
steps_from (Shown f g) = 3

-- the state in which the core's call is to lock the page of its access
abbrev pub at_lock : ℕ → Touch → World → World
at_lock core touch w = to core (locking (To.Access touch)) w

-- The access, which is no store to a private page, finds that its page, which this page of a file
-- backs, wants a frame; and this is the least free one.
pub record IsToRead (access : Access) (settled : Settled) (back : Back) (is_free : ℕ → Bool)
    (f n k : ℕ) : Type 0 where
  pub wants : settled ≡ Found.Wants
  pub shared : is_private_store back access ≡ false
  pub backed : IsOfFile back n k
  pub least : IsLeastFree is_free f

-- The access, a store, finds that its private page of this page of a file wants a frame; and this is
-- the least free one.
pub record IsToCopy (access : Access) (settled : Settled) (back : Back) (is_free : ℕ → Bool)
    (f n k : ℕ) : Type 0 where
  pub wants : settled ≡ Found.Wants
  pub stores : access ≡ Store
  pub backed : back ≡ Private n k
  pub least : IsLeastFree is_free f

-- an access that finds this at a page with this backing gets the frame from there
abbrev pub IsSource : Access → Settled → Back → (ℕ → Bool) → Source → Type 0
IsSource access settled back is_free (Own f) = settled ≡ Found.Has f
IsSource access settled back is_free (Cached f) = settled ≡ Found.Cached f
IsSource access settled back is_free (Free f) =
    (settled ≡ Found.Wants) × (back ≡ Anon) × IsLeastFree is_free f
IsSource access settled back is_free (Read f n k) = IsToRead access settled back is_free f n k
IsSource access settled back is_free (First f n k) = IsToCopy access settled back is_free f n k
IsSource access settled back is_free (Shown f g) = (settled ≡ Found.Copies g) × IsLeastFree is_free f

-- no other core has to be told of a copy: of these cores, which are recorded on the page
abbrev pub IsUntold : Source → ℕ → ℕ → Type 0
IsUntold (Shown f g) core cores = IsAlone cores core
IsUntold _ core cores = Unit {0}

-- the page that is read is the one of a file that backs the page
abbrev pub ReadsBacking : Source → Back → Type 0
ReadsBacking (Read f n k) back = IsOfFile back n k
ReadsBacking _ back = Unit {0}

-- which frames cache pages of files once the page has its frame
abbrev pub cached_from : (ℕ → ℕ → Option ℕ) → Source → ℕ → ℕ → Option ℕ
cached_from cached (Read f n k) = put cached n (put (cached n) k (Some f))
cached_from cached _ = cached

-- the core can count the frame up
pub record CanCount (counts : Counts) (core f : ℕ) : Type 0 where
  pub here : core < counts.cores
  pub object : f < counts.objects
  pub used : pos 0 <ℤ true_count counts f
  pub few : true_count counts f <ℤ pos (2 ^ 40)

-- the frame can be taken, and its count can begin
pub record CanTakeFree (m : Memory) (frames f : ℕ) : Type 0 where
  pub here : f < frames
  pub free : m.is_free f ≡ true
  pub object : f < m.counts.objects
  pub unused : IsUnused m.counts f

-- it can be taken for a page of a file, which no frame caches
pub record CanRead (m : Memory) (frames : ℕ) (file : Option File) (f n k : ℕ) : Type 0 where
  pub frame : CanTakeFree m frames f
  pub there : is_some (file_bytes file k) ≡ true
  pub uncached : m.cached n k ≡ None

-- it can be taken for a copy of a page of a file
pub record CanFill (m : Memory) (frames : ℕ) (file : Option File) (f n k : ℕ) : Type 0 where
  pub frame : CanTakeFree m frames f
  pub there : is_some (file_bytes file k) ≡ true
  pub below : IfSome (m.cached n k) (λ g. g < frames)

-- it can be taken for a copy of frame g, which is counted down then
pub record CanCopy (m : Memory) (frames core f g : ℕ) : Type 0 where
  pub frame : CanTakeFree m frames f
  pub shown : g < frames
  pub here : core < m.counts.cores
  pub object : g < m.counts.objects
  pub used : (counts : Counts) → Takes m.counts (Begin f 1) counts → pos 0 <ℤ true_count counts g

abbrev pub CanTake : World → ℕ → Source → Type 0
CanTake w core (Own f) = Unit {0}
CanTake w core (Cached f) = CanCount w.memory.counts core f
CanTake w core (Free f) = CanTakeFree w.memory w.made.frames f
CanTake w core (Read f n k) = CanRead w.memory w.made.frames (w.made.file n) f n k
CanTake w core (First f n k) = CanFill w.memory w.made.frames (w.made.file n) f n k
CanTake w core (Shown f g) = CanCopy w.memory w.made.frames core f g

-- the memory once frame f is taken, has the page of the file as it now is and caches it, with these
-- counts
abbrev pub with_page_read : (ℕ → Option File) → ℕ → ℕ → ℕ → Counts → Memory → Memory
with_page_read file f n k counts m =
    let taken = record m { is_free = put m.is_free f false } in
    record taken {
      bytes = put m.bytes f (page_now taken (file n) n k);
      counts = counts;
      cached = put m.cached n (put (m.cached n) k (Some f));
    }

-- the memory once frame f is taken and has the page of the file as it now is, with these counts
abbrev pub with_page_copied : (ℕ → Option File) → ℕ → ℕ → ℕ → Counts → Memory → Memory
with_page_copied file f n k counts m =
    let taken = record m { is_free = put m.is_free f false } in
    record taken { bytes = put m.bytes f (page_now taken (file n) n k); counts = counts }

-- the memory once frame f is taken and has the bytes of frame g, with these counts
abbrev pub with_frame_copied : ℕ → ℕ → Counts → Memory → Memory
with_frame_copied f g counts m =
    record m { is_free = put m.is_free f false; bytes = put m.bytes f (m.bytes g); counts = counts }

-- The memory once the frame is the page's: one of a file's page is counted up; a free one is taken,
-- has zeros and is counted once; or it gets a page of a file, which it caches, and is counted for the
-- file too, or for the page alone as its copy; or that is a copy of the frame that the page showed.
abbrev pub TakesFrom : (ℕ → Option File) → Memory → ℕ → Source → Memory → Type 0
TakesFrom file m core (Own f) n = n ≡ m
TakesFrom file m core (Cached f) n =
    (counts : Counts) × Takes m.counts (Inc core f) counts × (n ≡ record m { counts = counts })
TakesFrom file m core (Free f) n =
    (counts : Counts) × Takes m.counts (Begin f 1) counts
    × (n ≡ record m {
      bytes = put m.bytes f zeros;
      is_free = put m.is_free f false;
      counts = counts;
    })
TakesFrom file m core (Read f i k) n =
    (counts : Counts) × Takes m.counts (Begin f 2) counts
    × (n ≡ with_page_read file f i k counts m)
TakesFrom file m core (First f i k) n =
    (counts : Counts) × Takes m.counts (Begin f 1) counts
    × (n ≡ with_page_copied file f i k counts m)
TakesFrom file m core (Shown f g) n =
    (counts : Counts) × CountsCopy core f g m.counts counts × (n ≡ with_frame_copied f g counts m)

-- A copy is logged: the fourth event of the fault makes it, or the fifth where cores may translate the
-- page.
abbrev pub log_from : ℕ → ℕ → Source → Calls → List Entry
log_from core page (First f n k) calls =
    calls.log ++ EntryOf.Detach (calls.events + 4) (calls.number core) page ∷ []
log_from core page (Shown f g) calls =
    calls.log ++ EntryOf.Detach (calls.events + 5) (calls.number core) page ∷ []
log_from core page _ calls = calls.log

-- the core's TLB has no translation by the frame that the page showed before
abbrev pub hardware_from : ℕ → ℕ → Source → Hardware → Hardware
hardware_from core page (Shown f g) h = tlb_invalidated h core (pages_from page 1)
hardware_from core page _ h = h

abbrev pub detached_from : ℕ → ℕ → Source → World → World
detached_from core page from w = record w {
  hardware = hardware_from core page from w.hardware;
  calls = record w.calls { log = log_from core page from w.calls };
}

-- for which there is memory, where one is to be logged: for more entries than may be logged so far
abbrev pub HasRoom : Source → ℕ → ℕ → Type 0
HasRoom (First f n k) limit fits = limit < fits
HasRoom (Shown f g) limit fits = limit < fits
HasRoom _ limit fits = Unit {0}

-- ---- what is left

-- no core is recorded on a page that gets another frame
abbrev pub cores_from : Source → ℕ → ℕ
cores_from (Shown f g) cores = 0
cores_from _ cores = cores

-- what the page has once it has the frame, but for the core that is recorded then
abbrev pub shown_from : Source → PageInfo → PageInfo
shown_from from info =
    record info { frame = Some (frame_from from); cores = cores_from from info.cores }

-- the page has this, with the core recorded, and the core's tables have this entry of it
abbrev pub with_entry_of : ℕ → ℕ → PageInfo → Option Translation → World → World
with_entry_of core page info entry w = record w {
  slots = with_info w.slots page (info_with_core core (Some info));
  hardware = with_table w.hardware core (put (w.hardware.table core) page entry);
}

-- and they have the page's entry
abbrev pub with_translation : ℕ → ℕ → PageInfo → World → World
with_translation core page info w =
    with_entry_of core page info (entry_of_page w.memory.cached (Some info)) w

-- n steps of the core's call lead from this phase of it in w to that one in v, where its phase isn't
-- written
pub record Passes (w : World) (core : ℕ) (from : Phase) (n : ℕ) (upto : Phase) (v : World)
    : Type 0 where
  pub steps : StepsTo (to core from w) core n (to core upto v)
  pub cores : v.made.cores ≡ w.made.cores
  pub phases : v.calls.phase ≡ w.calls.phase
  pub events : v.calls.events ≡ w.calls.events + n
  pub edges : v.slots.edge ≡ w.slots.edge

-- so many events more are counted
abbrev pub later : ℕ → World → World
later n w = record w { calls = record w.calls { events = w.calls.events + n } }

-- the core's call has this reply, which was logged at the event so many later, and at the next one
-- the call let its page go: but for the core's phase,
abbrev pub logged_later : ℕ → Reply → ℕ → World → World
logged_later core reply n w = record w {
  calls = record w.calls {
    log = w.calls.log ++ EntryOf.Answer (w.calls.events + n) (w.calls.number core) core reply ∷ [];
    events = w.calls.events + n + 1;
  };
}

-- and with it
abbrev pub replied : ℕ → Reply → ℕ → World → World
replied core reply n w = to core (Answer reply) (logged_later core reply n w)

-- the steps of the fault lead there from the lock of its page
pub record Makes (w : World) (core : ℕ) (touch : Touch) (reply : Option Reply) (v : World) : Type 0 where
  pub steps : ℕ
  pub few : steps ≤ 8
  pub passes : Passes w core (locking (To.Access touch)) steps (tried_to touch reply) v

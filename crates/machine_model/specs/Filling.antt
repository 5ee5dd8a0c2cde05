-- How a page gets its frame: a new one, the one that caches its file page, or a copy of that one
use Rattle.std.specs.Prelude.{◌≡◌, ℕ, ◌⊎◌, Option, None, Some}
use Rattle.vm_base.specs.declared.info.Back.{Back}
use Rattle.vm_base.specs.declared.info.Back.TheVariants.{Anon, Shared, Private}
use Rattle.vm_base.specs.declared.info.PageInfo.{PageInfo}
use Rattle.vm_base.specs.declared.rights.Access.{Access}
use Rattle.vm_base.specs.declared.rights.Access.TheVariants.{Store}
use Rattle.vm_base.specs.Functions.{put}
use Rattle.vm_base.specs.Info.{frame_of, info_with_copy, info_with_frame, recorded_cores}
use Rattle.slot_lock.specs.declared.plan.Touch.{Touch}
use Rattle.slot_lock.specs.Slots.{with_info}
use Rattle.refcache.specs.Counts.{Counts}
use Rattle.refcache.specs.Steps.{Takes, Begin, Inc, Dec}
use Rattle.machine_model.specs.declared.event.Blocker.TheVariants as WaitsFor
use Rattle.machine_model.specs.declared.event.Outcome.{Outcome}
use Rattle.machine_model.specs.declared.event.Outcome.TheVariants.{Wait}
use Rattle.machine_model.specs.declared.phase.Phase.TheVariants.{Install, CopyAcks}
use Rattle.machine_model.specs.World.{World}
use Rattle.machine_model.specs.Actions.{Becomes, to, with_entry, detach_entry}
use Rattle.machine_model.specs.Changes.{AwaitsNobody, Awaits}
use Rattle.machine_model.specs.Files.{back_of, with_cached, bytes_shown}
use Rattle.machine_model.specs.GivingUp.{given_back}
use Rattle.machine_model.specs.Holding.{page_of_touch}
use Rattle.machine_model.specs.Translating.{after_shot, with_hardware}

-- ---- Fill

-- the page has this frame
abbrev pub with_frame_at : Touch → ℕ → World → World
with_frame_at touch f w =
    record w { slots = with_info w.slots touch.page (info_with_frame f (w.slots.info touch.page)) }

-- the page has this frame, which has the bytes that the page showed before, and these are the
-- counts
abbrev pub with_new_frame : Touch → ℕ → Counts → World → World
with_new_frame touch f counts w =
    let shown = bytes_shown w.made.file w.memory (back_of (w.slots.info touch.page)) in
    with_frame_at touch f (record w {
      memory = record w.memory { bytes = put w.memory.bytes f shown; counts = counts };
    })

-- an anonymous page gets a frame of zeros
abbrev pub after_zeros : ℕ → Touch → ℕ → Counts → World → World
after_zeros c touch f counts w = to c (Install touch) (with_new_frame touch f counts w)

-- a private page gets a copy of its file page, for a store
abbrev pub after_first_copy : ℕ → Touch → ℕ → Counts → World → World
after_first_copy c touch f counts w =
    to c (Install touch) (with_entry (detach_entry w c touch.page) (with_new_frame touch f counts w))

-- the frame gets the file page, which it caches from here on, and the page shows it
abbrev pub after_caching : ℕ → Touch → ℕ → Counts → World → World
after_caching c touch f counts w =
    let filled = with_new_frame touch f counts w in
    let cached = with_cached w.memory.cached (back_of (w.slots.info touch.page)) f in
    to c (Install touch) (record filled { memory = record filled.memory { cached = cached } })

-- the page shows the frame that caches its file page, and a frame that the call has taken goes back
abbrev pub after_sharing : ℕ → Touch → Option ℕ → ℕ → Counts → World → World
after_sharing c touch own g counts w =
    to c (Install touch) (with_frame_at touch g (record w {
      memory = record w.memory { counts = counts; is_free = given_back own w.memory.is_free };
    }))

-- The page shows its file's page: by the frame that caches it, or else by this one, which is
-- counted for the page and for the file. (A call that has taken no frame comes here where one
-- caches it.)
abbrev pub FillsFromFile : World → ℕ → Touch → Option ℕ → Option ℕ → Outcome → World → Type 0
FillsFromFile w c touch own (Some g) o v =
    (counts : Counts) × Takes w.memory.counts (Inc c g) counts
    × Becomes (after_sharing c touch own g counts w) o v
FillsFromFile w c touch (Some f) None o v =
    (counts : Counts) × Takes w.memory.counts (Begin f 2) counts
    × Becomes (after_caching c touch f counts w) o v
FillsFromFile w c touch None None o v = ⊥

-- the page has a frame of its own, counted once, which leads to this state
abbrev pub FillsOwn : World → (ℕ → Counts → World) → Option ℕ → Outcome → World → Type 0
FillsOwn w after None o v = ⊥
FillsOwn w after (Some f) o v =
    (counts : Counts) × Takes w.memory.counts (Begin f 1) counts × Becomes (after f counts) o v

-- by what backs the page, and the access
abbrev pub FillsBacked : World → ℕ → Touch → Option ℕ → Back → Access → Outcome → World → Type 0
FillsBacked w c touch frame Anon access o v =
    FillsOwn w (λ f counts. after_zeros c touch f counts w) frame o v
FillsBacked w c touch frame (Shared n k) access o v =
    FillsFromFile w c touch frame (w.memory.cached n k) o v
FillsBacked w c touch frame (Private n k) Store o v =
    FillsOwn w (λ f counts. after_first_copy c touch f counts w) frame o v
FillsBacked w c touch frame (Private n k) _ o v =
    FillsFromFile w c touch frame (w.memory.cached n k) o v

-- the page gets its frame as its backing asks
abbrev pub FillsFrame : World → ℕ → Touch → Option ℕ → Outcome → World → Type 0
FillsFrame w c touch frame o v =
    FillsBacked w c touch frame (back_of (w.slots.info touch.page)) touch.access o v

-- ---- CopyPost: a private page that shows its file's page is to get a copy, so no core may go on
-- translating it

-- the recorded cores are told to drop the page before its copy shows
abbrev pub after_copy_post : ℕ → Touch → ℕ → World → World
after_copy_post c touch f w =
    to c (CopyAcks touch f)
    (with_hardware
    (after_shot w.hardware c (recorded_cores (w.slots.info touch.page)) (page_of_touch touch)) w)

-- ---- CopyAcks

-- the frame has the bytes of g as they now are, and the page has the frame in place of g
abbrev pub after_copy : ℕ → Touch → ℕ → ℕ → Counts → World → World
after_copy c touch f g counts w =
    to c (Install touch) (with_entry (detach_entry w c touch.page) (record w {
      slots = with_info w.slots touch.page (info_with_copy f (w.slots.info touch.page));
      memory = record w.memory { bytes = put w.memory.bytes f (w.memory.bytes g); counts = counts };
    }))

-- the copy is counted for the page, and g no more
abbrev pub CountsCopy : ℕ → ℕ → ℕ → Counts → Counts → Type 0
CountsCopy c f g v w = (m : Counts) × Takes v (Begin f 1) m × Takes m (Dec c g) w

-- the copy is made once no core that was told is awaited any more
abbrev pub CopiesNext : World → ℕ → Touch → ℕ → Outcome → World → Type 0
CopiesNext w c touch f o v =
    (AwaitsNobody w.hardware c
    × ((g : ℕ) × (counts : Counts) × (frame_of (w.slots.info touch.page) ≡ Some g)
    × CountsCopy c f g w.memory.counts counts
    × Becomes (after_copy c touch f g counts w) o v))
    ⊎ ((set : ℕ) × Awaits w.hardware c set × (o ≡ Wait (WaitsFor.Acks set)) × (v ≡ w))

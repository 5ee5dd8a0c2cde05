-- The steps of a load, a store or a fetch
use Rattle.std.specs.Prelude.{◌≡◌, ℕ, ◌<◌, ◌⊎◌, Bool, true, false, not, cond, Option, None, Some}
use Rattle.std.specs.Prelude.{is_some}
use Rattle.vm_base.specs.declared.info.PageInfo.{PageInfo}
use Rattle.vm_base.specs.declared.info.Back.{Back}
use Rattle.vm_base.specs.declared.info.Back.TheVariants.{Anon, Shared, Private}
use Rattle.vm_base.specs.declared.rights.Access.{Access}
use Rattle.vm_base.specs.declared.rights.Access.TheVariants.{Load, Store, Fetch}
use Rattle.vm_base.specs.declared.replies.SegvCode.TheVariants as Code
use Rattle.vm_base.specs.declared.replies.Reply.{Reply}
use Rattle.vm_base.specs.declared.replies.Reply.TheVariants as ReplyOf
use Rattle.vm_base.specs.Functions.{put}
use Rattle.vm_base.specs.Info.{info_with_core}
use Rattle.vm_base.specs.Plain.{Bytes, File, file_bytes}
use Rattle.vm_base.specs.Apply.{byte_reply}
use Rattle.slot_lock.specs.declared.plan.Touch.{Touch}
use Rattle.slot_lock.specs.declared.plan.Goal.TheVariants as To
use Rattle.slot_lock.specs.Slots.{with_info}
use Rattle.vm_calls.specs.declared.fault.Settled.{Settled}
use Rattle.vm_calls.specs.declared.fault.Settled.TheVariants.{MapErr, AccErr, Bus, Has, Copies, Cached}
use Rattle.vm_calls.specs.declared.fault.Settled.TheVariants.{Wants}
use Rattle.vm_calls.specs.Settling.{settled}
use Rattle.machine_model.specs.declared.event.Outcome.{Outcome}
use Rattle.machine_model.specs.declared.phase.Phase.{Phase}
use Rattle.machine_model.specs.declared.phase.Phase.TheVariants.{Want, Fill, CopyPost, Install, Release}
use Rattle.machine_model.specs.World.{World, Memory}
use Rattle.machine_model.specs.Actions.{Idles, Becomes, to, after_reply}
use Rattle.machine_model.specs.Files.{back_of, file_frame}
use Rattle.machine_model.specs.Holding.{page_of_touch}
use Rattle.machine_model.specs.Locks.{locking}
use Rattle.machine_model.specs.Translating.{translated_by, frame_reached, after_translating}
use Rattle.machine_model.specs.Translating.{entry_of_page, with_table, with_hardware}

-- ---- Try

-- the bytes of all frames after the access: a store changes one
abbrev pub bytes_after : Access → ℕ → ℕ → ℕ → (ℕ → Bytes) → ℕ → Bytes
bytes_after Load frame i byte bytes = bytes
bytes_after Store frame i byte bytes = put bytes frame (put (bytes frame) i byte)
bytes_after Fetch frame i byte bytes = bytes

-- the memory after an access of a frame
abbrev pub memory_after : Touch → ℕ → Memory → Memory
memory_after touch frame m =
    record m { bytes = bytes_after touch.access frame touch.offset touch.byte m.bytes }

-- what an access of a frame answers
abbrev pub reply_of : Touch → ℕ → Memory → Reply
reply_of touch frame m = byte_reply touch.access (m.bytes frame touch.offset)

-- the byte is read or written
abbrev pub after_access : ℕ → Touch → ℕ → World → World
after_access c touch frame w = after_reply c None (reply_of touch frame w.memory)
    (record w { memory = memory_after touch frame w.memory })

-- a fault leads to the lock of its page
abbrev pub after_translation : ℕ → Touch → Option ℕ → World → World
after_translation c touch (Some f) w = after_access c touch f w
after_translation c touch None w = to c (locking (To.Access touch)) w

-- the core translates the page, and the access is served, or its page is to be locked
abbrev pub after_try : ℕ → Touch → World → World
after_try c touch w =
    after_translation c touch (frame_reached (translated_by w.hardware c touch))
    (with_hardware (after_translating w.hardware c touch) w)

-- ---- Settle

-- the page of the mapping's file doesn't exist
abbrev pub lies_past_end : (ℕ → Option File) → Back → Bool
lies_past_end file Anon = false
lies_past_end file (Shared n k) = not (is_some (file_bytes (file n) k))
lies_past_end file (Private n k) = not (is_some (file_bytes (file n) k))

-- whether the page lies behind the end of its file
abbrev pub is_past_end : (ℕ → Option File) → Option PageInfo → Bool
is_past_end file None = false
is_past_end file (Some info) = lies_past_end file info.meta.back

-- what the access finds at its page
abbrev pub found_at : World → Touch → Settled
found_at w touch =
    let info = w.slots.info touch.page in
    settled info touch.access (is_past_end w.made.file info)
    (file_frame w.memory.cached (back_of info))

-- a page that has a frame is ready, another gets the one that caches its file page, or wants one;
-- so does a copy of its frame
abbrev pub after_finding : ℕ → Touch → Settled → World → World
after_finding c touch MapErr w =
    after_reply c (Some (page_of_touch touch)) (ReplyOf.Segv Code.MapErr) w
after_finding c touch AccErr w =
    after_reply c (Some (page_of_touch touch)) (ReplyOf.Segv Code.AccErr) w
after_finding c touch Bus w = after_reply c (Some (page_of_touch touch)) ReplyOf.Bus w
after_finding c touch (Has f) w = to c (Install touch) w
after_finding c touch (Copies f) w = to c (Want touch (Some f)) w
after_finding c touch (Cached f) w = to c (Fill touch None) w
after_finding c touch Wants w = to c (Want touch None) w

-- the locked page is looked at: the access fails, its frame is to be installed, or to be found first
abbrev pub after_settle : ℕ → Touch → World → World
after_settle c touch w = after_finding c touch (found_at w touch) w

-- ---- Want

-- with the frame taken the page gets it, or first the copy is made known of the frame that the page
-- has
abbrev pub taken_for : Touch → Option ℕ → ℕ → Phase
taken_for touch None f = Fill touch (Some f)
taken_for touch (Some old) f = CopyPost touch f

-- this free frame is taken for the page
abbrev pub after_frame : ℕ → Touch → Option ℕ → ℕ → World → World
after_frame c touch old f w =
    to c (taken_for touch old f)
    (record w { memory = record w.memory { is_free = put w.memory.is_free f false } })

-- the least free frame
pub record IsLeastFree (is_free : ℕ → Bool) (f : ℕ) : Type 0 where
  pub free : is_free f ≡ true
  pub least : (g : ℕ) → g < f → is_free g ≡ false

abbrev pub NoneFree : (ℕ → Bool) → Type 0
NoneFree is_free = (f : ℕ) → is_free f ≡ false

-- the least free frame is taken, or the reply says that there is none
abbrev pub TakesFrame : World → ℕ → Touch → Option ℕ → Outcome → World → Type 0
TakesFrame w c touch old o v =
    (NoneFree w.memory.is_free
    × Becomes (after_reply c (Some (page_of_touch touch)) ReplyOf.NoFrame w) o v)
    ⊎ ((f : ℕ) × IsLeastFree w.memory.is_free f × Becomes (after_frame c touch old f w) o v)

-- a call that wants a frame takes this one, if it is free
abbrev pub TakesThisFrame : World → ℕ → Phase → ℕ → Outcome → World → Type 0
TakesThisFrame w c (Want touch old) f o v =
    cond (w.memory.is_free f) (Becomes (after_frame c touch old f w) o v) (Idles w o v)
TakesThisFrame w c _ f o v = Idles w o v

-- ---- Install: the core is recorded on the page, and its tables get the page's entry

-- the page's translation is in the core's tables, and the core is recorded on it
abbrev pub after_install : ℕ → Touch → World → World
after_install c touch w =
    let info = w.slots.info touch.page in
    to c (Release touch) (record w {
      slots = with_info w.slots touch.page (info_with_core c info);
      hardware = with_table w.hardware c
          (put (w.hardware.table c) touch.page (entry_of_page w.memory.cached info));
    })

-- How a plain page map is kept: slots say what backs each page, and a frame has a page's own bytes, or
-- those of a page of a file, once a store has changed them
use Rattle.std.specs.Prelude.{◌≡◌, ℕ, ◌<◌, ◌≤◌, ◌⊎◌, ◌==◌, ◌||◌, Bool, true, false, List, [], ◌∷◌, Option, None, Some}
use Rattle.std.specs.List.{list_any}
use Rattle.vm_base.specs.declared.info.Back.{Back}
use Rattle.vm_base.specs.declared.info.Back.TheVariants.{Anon, Shared, Private}
use Rattle.vm_base.specs.declared.info.PageInfo.{PageInfo}
use Rattle.vm_base.specs.declared.page.PageRange.{PageRange}
use Rattle.vm_base.specs.Functions.{put}
use Rattle.vm_base.specs.Plain.{Bytes, File, PageEntry, Plain, zeros, bytes_in}
use Rattle.vm_base.specs.Info.{frame_of}
use Rattle.slot_lock.specs.declared.plan.Change.{Change}
use Rattle.slot_lock.specs.declared.plan.Change.TheVariants.{Put, Clear, Protect}
use Rattle.slot_lock.specs.declared.framed.Framed.{Framed}
use Rattle.slot_lock.specs.Slots.{Slots, cleared}
use Rattle.slot_lock.specs.Framed.{frames_in}
use Rattle.frames.specs.Parts.{FrameParts, frame_bytes, free_frames}
use Rattle.frames.specs.Files.{FileParts, files_of, cached_in}

-- ---- the plain map that is kept

-- A page's own bytes: those of its frame. An anonymous page without one has zeros, and a page of a
-- file none; a shared page never has any.
abbrev pub own_kept : (ℕ → Bytes) → Back → Option ℕ → Option Bytes
own_kept bytes Anon None = Some zeros
own_kept bytes Anon (Some f) = Some (bytes f)
own_kept bytes (Shared file page) frame = None
own_kept bytes (Private file page) None = None
own_kept bytes (Private file page) (Some f) = Some (bytes f)

abbrev pub entry_kept : (ℕ → Bytes) → Option PageInfo → Option PageEntry
entry_kept bytes None = None
entry_kept bytes (Some info) = Some (record {
  back = info.meta.back;
  prot = info.meta.prot;
  own = own_kept bytes info.meta.back info.frame;
})

-- a file: where a frame has a page's bytes, these, and else the first ones
abbrev pub file_kept : (ℕ → Bytes) → (ℕ → Option ℕ) → Option File → Option File
file_kept bytes cached None = None
file_kept bytes cached (Some file) =
    Some (record file { bytes = λ k. bytes_in bytes (file.bytes k) (cached k) })

abbrev pub files_kept : List FileParts → FrameParts → ℕ → Option File
files_kept objects frames n = file_kept (frame_bytes frames) (cached_in objects n) (files_of objects n)

-- the plain page map
abbrev pub plain_kept : Slots → List FileParts → FrameParts → Plain
plain_kept s objects frames = record {
  entry = λ p. entry_kept (frame_bytes frames) (s.info p);
  file = files_kept objects frames;
}

-- a byte, if there are any
abbrev pub byte_at : Option Bytes → ℕ → Option ℕ
byte_at None i = None
byte_at (Some bytes) i = Some (bytes i)

-- ---- who has which frame

-- the frame of a page, or of a page of the file with this number
abbrev pub frame_at : (ℕ → Option ℕ) → (ℕ → ℕ → Option ℕ) → Option ℕ → ℕ → Option ℕ
frame_at own cached None p = own p
frame_at own cached (Some n) k = cached n k

-- Each frame that a page, or a page of a file, has is taken, and no other has it.
pub record IsKept (frame : Option ℕ → ℕ → Option ℕ) (frames : FrameParts) : Type 0 where
  pub taken : (o : Option ℕ) (p f : ℕ) → frame o p ≡ Some f
      → (f < frames.count) × (free_frames frames f ≡ false)
  pub one : (o a : Option ℕ) (p q f : ℕ) → frame o p ≡ Some f → frame a q ≡ Some f
      → (o ≡ a) × (p ≡ q)

-- of slots, with these frames of pages of files
abbrev pub Keeps : Slots → (ℕ → ℕ → Option ℕ) → FrameParts → Type 0
Keeps s cached frames = IsKept (frame_at (frames_in s) cached) frames

-- there are the frames of pages of files
abbrev pub AreFrames : (ℕ → ℕ → Option ℕ) → FrameParts → Type 0
AreFrames cached frames = (n k f : ℕ) → cached n k ≡ Some f → f < frames.count

-- the frame that a page which has this loses by a change of it
abbrev pub frame_lost : Change → Option PageInfo → Option ℕ
frame_lost (Put range meta) info = frame_of info
frame_lost (Clear range) info = frame_of info
frame_lost (Protect range prot) info = None

-- no page of a file has a frame
abbrev pub none_cached : ℕ → ℕ → Option ℕ
none_cached n k = None

-- the frame was free and is taken, and has these bytes
pub record TakesFrame (old new : FrameParts) (f : ℕ) (filled : Bytes) : Type 0 where
  pub was_free : free_frames old f ≡ true
  pub within : f < old.count
  pub free : free_frames new ≡ put (free_frames old) f false
  pub bytes : frame_bytes new ≡ put (frame_bytes old) f filled
  pub count : new.count ≡ old.count

-- ---- who holds pages

-- nobody holds a page
abbrev pub NobodyHolds : Slots → Type 0
NobodyHolds s = (p : ℕ) → s.owner p ≡ None

-- core 0 holds just the pages from first up to end, and no slot crosses an edge of these
pub record HeldFrom (s : Slots) (first end : ℕ) : Type 0 where
  pub held : (p : ℕ) → first ≤ p → p < end → s.owner p ≡ Some 0
  pub others : (p : ℕ) → (p < first) ⊎ (end ≤ p) → s.owner p ≡ None
  pub cut : first < end → (s.edge first ≡ true) × (s.edge end ≡ true)

-- ---- which frames are given back

-- the listed frames are taken, each once
abbrev pub AreTaken : List Framed → ℕ → (ℕ → Bool) → Type 0
AreTaken [] count free = Unit {0}
AreTaken (x ∷ xs) count free =
    (x.frame < count) × (free x.frame ≡ false) × AreTaken xs count (put free x.frame true)

-- once they were given back these are free, and all that were free before
abbrev pub freed : List Framed → (ℕ → Bool) → ℕ → Bool
freed list free frame = list_any (λ (x : Framed). frame == x.frame) list || free frame

-- The frames of the pages of a range were given back: what is left is kept as though these were unmapped.
pub record Forgets (s : Slots) (old new : FrameParts) (range : PageRange) : Type 0 where
  pub bytes : frame_bytes new ≡ frame_bytes old
  pub kept : (cached : ℕ → ℕ → Option ℕ) → Keeps s cached old → Keeps (cleared s range) cached new

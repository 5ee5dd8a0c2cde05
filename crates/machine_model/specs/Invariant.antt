-- What the states of a run have in common beside their order, their translations and their counts:
-- each shows the plain page map to which its log leads.
use Rattle.std.specs.Prelude.{◌≡◌, ◌≢◌, ℕ, false, cond, if◌then◌else◌, List, Option, None, Some}
use Rattle.vm_base.specs.declared.info.Back.{Back}
use Rattle.vm_base.specs.declared.info.Back.TheVariants.{Anon, Shared, Private}
use Rattle.vm_base.specs.declared.info.PageInfo.{PageInfo}
use Rattle.vm_base.specs.declared.requests.Request.{Request}
use Rattle.vm_base.specs.Apply.{first_own}
use Rattle.vm_base.specs.Info.{frame_of}
use Rattle.vm_base.specs.Plain.{Bytes, File, PageEntry, Plain, nothing_mapped, bytes_in}
use Rattle.slot_lock.specs.Slots.{Slots}
use Rattle.vm_base.specs.declared.log.Entry.{Entry}
use Rattle.machine_model.specs.declared.phase.Phase.{Phase}
use Rattle.machine_model.specs.Accesses.{is_past_end}
use Rattle.machine_model.specs.Files.{shows_file}
use Rattle.machine_model.specs.World.{World, Made, Hardware, Memory}
use Rattle.machine_model.specs.Orderly.{Order}
use Rattle.machine_model.specs.Coherent.{IsCoherent}
use Rattle.machine_model.specs.Counted.{IsCounted}
use Rattle.vm_base.specs.Log.{Replays}

-- ---- frames

-- the frame that a page shares with no other and with no file
abbrev pub own_frame_of : (ℕ → ℕ → Option ℕ) → Back → Option ℕ → Option ℕ
own_frame_of cached back None = None
own_frame_of cached back (Some f) = if shows_file cached back f then None else Some f

-- the same of a page that may be unmapped
abbrev pub own_frame : (ℕ → ℕ → Option ℕ) → Option PageInfo → Option ℕ
own_frame cached None = None
own_frame cached (Some info) = own_frame_of cached info.meta.back info.frame

-- a page's own frame is no other page's
abbrev pub AreApart : (ℕ → ℕ → Option ℕ) → (ℕ → Option PageInfo) → Type 0
AreApart cached info =
    (p q f : ℕ) → own_frame cached (info p) ≡ Some f → frame_of (info q) ≡ Some f → p ≡ q

-- nor a file's
abbrev pub AreUnfiled : (ℕ → ℕ → Option ℕ) → (ℕ → Option PageInfo) → Type 0
AreUnfiled cached info = (p n k f : ℕ) → own_frame cached (info p) ≡ Some f → cached n k ≢ Some f

-- ---- the plain page map that a state shows

-- a shared page's frame is always that of its file page
abbrev pub MayOwn : Back → Type 0
MayOwn Anon = Unit {0}
MayOwn (Shared n k) = ⊥
MayOwn (Private n k) = Unit {0}

-- The bytes of its own that a page has: without a frame the first ones, none where its frame caches
-- its file page, else the frame's.
abbrev pub Owns : Memory → Back → Option ℕ → Option Bytes → Type 0
Owns m back None own = own ≡ first_own back
Owns m back (Some f) own =
    cond (shows_file m.cached back f) (own ≡ None) (MayOwn back × (own ≡ Some (m.bytes f)))

-- slots show a page as the plain page map has it, and no others
abbrev pub ShowsPage : Memory → Option PageInfo → Option PageEntry → Type 0
ShowsPage m None None = Unit {0}
ShowsPage m (Some info) (Some page) =
    (info.meta.back ≡ page.back) × (info.meta.prot ≡ page.prot)
    × Owns m info.meta.back info.frame page.own
ShowsPage m None (Some page) = ⊥
ShowsPage m (Some info) None = ⊥

-- a file has its caching frames' bytes now, and else the first ones
abbrev pub ShowsFile : (ℕ → Bytes) → (ℕ → Option ℕ) → Option File → Option File → Type 0
ShowsFile bytes cached None None = Unit {0}
ShowsFile bytes cached (Some first) (Some now) =
    (first.mode ≡ now.mode) × (first.count ≡ now.count)
    × ((k : ℕ) → now.bytes k ≡ bytes_in bytes (first.bytes k) (cached k))
ShowsFile bytes cached None (Some now) = ⊥
ShowsFile bytes cached (Some first) None = ⊥

-- slots and memory that show the plain page map t, where the files were these at the start
pub record Shows (file : ℕ → Option File) (info : ℕ → Option PageInfo) (m : Memory)
    (t : Plain) : Type 0 where
  pub pages : (p : ℕ) → ShowsPage m (info p) (t.entry p)
  pub files : (n : ℕ) → ShowsFile m.bytes (m.cached n) (file n) (t.file n)
  pub apart : AreApart m.cached info
  pub unfiled : AreUnfiled m.cached info
  -- a page with a frame doesn't lie past the end of its file
  pub whole : (p f : ℕ) → frame_of (info p) ≡ Some f → is_past_end file (info p) ≡ false

-- a state that shows the plain page map
abbrev pub ShowsPlain : World → Plain → Type 0
ShowsPlain w t = Shows w.made.file w.slots.info w.memory t

-- ---- the invariant

-- of these parts of a state: they are orderly, translations keep up with slots, frames are counted,
-- and the log leads to a plain page map that slots and memory show
pub record AreWellFormed (made : Made) (s : Slots) (h : Hardware) (m : Memory) (phase : ℕ → Phase)
    (number : ℕ → ℕ) (requests : List Request) (entries : List Entry) : Type 0 where
  pub order : Order made s m phase number requests entries
  pub coherent : IsCoherent m.cached s.info phase h
  pub counted : IsCounted s.info phase m
  pub plain : Plain
  pub log : Replays requests (nothing_mapped made.file) entries plain
  pub good : Shows made.file s.info m plain

-- the invariant of every reached state: what its parts have in common
abbrev pub IsWellFormed : World → Type 0
IsWellFormed w =
    AreWellFormed w.made w.slots w.hardware w.memory w.calls.phase w.calls.number w.calls.requests w.calls.log

-- Translations, and when they agree with a plain page map (Intel SDM volume 3A, 4-level paging and
-- caching translation information)
use Rattle.std.specs.Prelude.{◌≡◌, ℕ, ◌<◌, true, slice_get, Option, None, Some}
use Rattle.vm_base.specs.declared.rights.Access.{Access}
use Rattle.vm_base.specs.Info.{frame_of}
use Rattle.vm_base.specs.Rights.{is_allowed}
use Rattle.vm_base.specs.Plain.{Bytes, File, PageEntry, Plain, bytes_of}
use Rattle.mmu.specs.declared.entry.Translation.{Translation}
use Rattle.mmu.specs.Entry.{permits}
use Rattle.machine_model.specs.World.{World, Hardware}
use Rattle.machine_model.specs.Holding.{taken_in}

-- a translation of the page that the core may use: an entry of its tables, or of its TLB
pub data Translates (h : Hardware) (c p : ℕ) (e : Translation) : Type 0 where
  by_table : h.table c p ≡ Some e → Translates h c p e
  by_tlb : (i : ℕ) → slice_get (h.tlb c) i ≡ Some (record { page = p; translation = e })
      → Translates h c p e

-- the frame has the 4096 bytes
abbrev pub HasBytes : Bytes → Option Bytes → Type 0
HasBytes frame None = ⊥
HasBytes frame (Some page) = (i : ℕ) → i < 4096 → frame i ≡ page i

-- the page is mapped, each access that the translation permits is allowed, and its frame has the
-- page's bytes
abbrev pub AgreesWith : (ℕ → Bytes) → Translation → (ℕ → Option File) → Option PageEntry → Type 0
AgreesWith bytes e files None = ⊥
AgreesWith bytes e files (Some page) =
    ((access : Access) → permits e access ≡ true → is_allowed page.prot access ≡ true)
    × HasBytes (bytes e.frame) (bytes_of files page.back page.own)

-- a page's translation leads to the bytes that the plain page map has there, and allows no more
abbrev pub Agrees : World → Plain → ℕ → Translation → Type 0
Agrees w t p e = AgreesWith w.memory.bytes e t.file (t.entry p)

-- a frame that a page's slot has, that caches a file's page, that a core's translation leads to, or
-- that a call has taken for a page
pub data IsNamed (w : World) (f : ℕ) : Type 0 where
  by_slot : (p : ℕ) → frame_of (w.slots.info p) ≡ Some f → IsNamed w f
  by_file : (n k : ℕ) → w.memory.cached n k ≡ Some f → IsNamed w f
  by_translation : (c p : ℕ) (e : Translation) → Translates w.hardware c p e → e.frame ≡ f
      → IsNamed w f
  by_call : (c : ℕ) → taken_in (w.calls.phase c) ≡ Some f → IsNamed w f

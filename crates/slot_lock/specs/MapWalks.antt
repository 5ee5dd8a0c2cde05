-- What pages are mapped to in slots, and what is known of those that were walked over
use Rattle.std.specs.Prelude.{◌≡◌, ℕ, ◌-◌, ◌^◌, ◌<◌, ◌≤◌, Option, None, Some}
use Rattle.vm_base.specs.declared.info.Meta.{Meta}
use Rattle.vm_base.specs.declared.info.PageInfo.{PageInfo}
use Rattle.vm_base.specs.Info.{advance}
use Rattle.slot_lock.specs.Slots.{Slots}
use Rattle.vm_base.specs.Runs.{NoneIn}

-- what a page is mapped to, if it is mapped
abbrev pub info_meta : Option PageInfo → Option Meta
info_meta None = None
info_meta (Some info) = Some info.meta

abbrev pub slot_metas : Slots → ℕ → Option Meta
slot_metas s p = info_meta (s.info p)

-- the valid page is the first from a page on that is mapped, and it is mapped so
pub record IsFirstMapped (meta : ℕ → Option Meta) (from first : ℕ) (its : Meta) : Type 0 where
  pub low : from ≤ first
  pub high : first < 2 ^ 35
  pub before : NoneIn meta from first
  pub mapped : meta first ≡ Some its

-- the valid pages from first up to end are mapped one after another
pub record IsRun (meta : ℕ → Option Meta) (first : ℕ) (its : Meta) (end : ℕ) : Type 0 where
  pub some : first < end
  pub high : end ≤ 2 ^ 35
  pub mapped : (p : ℕ) → first ≤ p → p < end → meta p ≡ Some (advance its (p - first))

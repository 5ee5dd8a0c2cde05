-- What giving a page its frame needs
use Rattle.std.specs.Prelude.{◌≡◌, ℕ, ◌+◌, ◌⊎◌, Some}
use Rattle.vm_base.specs.declared.info.Back.{Back}
use Rattle.vm_base.specs.declared.info.Back.TheVariants.{Shared, Private}
use Rattle.vm_base.specs.Pages.{IsPage}
use Rattle.slot_lock.specs.declared.plan.Touch.{Touch}
use Rattle.slot_lock.specs.Slots.{Slots, IsSlot}
use Rattle.refcache.specs.Counts.{Counts}
use Rattle.machine_model.specs.Filling.{CountsCopy, after_copy}
use Rattle.machine_model.specs.World.{World}

-- the page is a slot of its own, which the core holds
pub record IsAloneAt (s : Slots) (core page : ℕ) : Type 0 where
  pub valid : IsPage page
  pub held : s.owner page ≡ Some core
  pub alone : IsSlot s page (page + 1)

-- a page of the file backs it
abbrev pub IsOfFile : Back → ℕ → ℕ → Type 0
IsOfFile back n k = (back ≡ Shared n k) ⊎ (back ≡ Private n k)

-- the copy in frame f, of frame g, is counted and made
abbrev pub MakesCopy : World → ℕ → Touch → ℕ → ℕ → World → Type 0
MakesCopy w c touch f g v = (counts : Counts) × CountsCopy c f g w.memory.counts counts
    × (v ≡ after_copy c touch f g counts w)

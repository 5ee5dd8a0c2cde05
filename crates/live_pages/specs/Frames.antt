-- Frames and the epoch under their locks, and which frame a page may get
use Rattle.std.specs.Prelude.{◌≡◌, ℕ, Option, None, Some}
use Rattle.std.specs.Sync.Mutex.{mutex_guard_value}
use Rattle.std.specs.declared.sync.MutexGuard.{MutexGuard}
use Rattle.refcache.specs.Epochs.{Epoch}
use Rattle.vm_base.specs.declared.info.Back.{Back}
use Rattle.vm_base.specs.declared.info.Back.TheVariants.{Anon, Shared, Private}
use Rattle.vm_base.specs.declared.rights.Access.{Access}
use Rattle.vm_base.specs.declared.rights.Access.TheVariants.{Load, Store, Fetch}

-- the number of an epoch that is locked, and 0 where none is
abbrev pub epoch_of : Option (MutexGuard Epoch) → ℕ
epoch_of None = 0
epoch_of (Some guard) = (mutex_guard_value guard).number

-- Which frame a page gets: the one that the call took, but where it shows its file page, which
-- another frame may cache
abbrev pub MayGet : Option ℕ → Back → Access → ℕ → Type 0
MayGet own Anon access frame = own ≡ Some frame
MayGet own (Shared file page) access frame = Unit {0}
MayGet own (Private file page) Load frame = Unit {0}
MayGet own (Private file page) Store frame = own ≡ Some frame
MayGet own (Private file page) Fetch frame = Unit {0}

-- what backs a page is this page of this file
abbrev pub IsFilePage : Back → ℕ → ℕ → Type 0
IsFilePage Anon n k = ⊥
IsFilePage (Shared file page) n k = (file ≡ n) × (page ≡ k)
IsFilePage (Private file page) n k = (file ≡ n) × (page ≡ k)

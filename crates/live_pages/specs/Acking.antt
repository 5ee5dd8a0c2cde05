-- Cores that made their takes after a post
use Rattle.std.specs.Prelude.{◌≡◌, ◌≢◌, ℕ, ◌<◌, true, Option}
use Rattle.vm_base.specs.Cores.{members}
use Rattle.vm_base.specs.Info.{is_recorded}
use Rattle.vm_base.specs.Pages.{pages_from}
use Rattle.vm_base.specs.declared.info.PageInfo.{PageInfo}
use Rattle.vm_base.specs.declared.page.PageRange.{PageRange}
use Rattle.live_pages.specs.declared.telling.Acked.{Acked}

-- each core of the set made its takes, after a post of the range
pub record HaveAcked (set : ℕ) (pages : PageRange) (a : Acked) : Type 0 where
  pub each : (d : ℕ) → d < 64 → members set d ≡ true → members a.set d ≡ true
  pub range : a.range ≡ pages

-- so did one core more, if it is one of the set
pub record AcksIn (set target : ℕ) (a b : Acked) : Type 0 where
  pub kept : (d : ℕ) → members a.set d ≡ true → members b.set d ≡ true
  pub told : members set target ≡ true → members b.set target ≡ true
  pub range : b.range ≡ a.range

-- the set has each core but this one that is recorded on a page with this
abbrev pub HasOthers : ℕ → Option PageInfo → ℕ → Type 0
HasOthers core info set = (d : ℕ) → d < 64 → d ≢ core → is_recorded info d ≡ true → members set d ≡ true

-- each core but this one that is recorded on the page, which has this, made its takes after a post of the page
pub record OthersHaveAcked (core page : ℕ) (info : Option PageInfo) (a : Acked) : Type 0 where
  pub others : HasOthers core info a.set
  pub range : a.range ≡ pages_from page 1

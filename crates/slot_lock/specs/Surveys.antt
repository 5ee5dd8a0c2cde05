-- What the slots of a range have together
use Rattle.std.specs.Prelude.{◌≡◌, ℕ, ◌+◌, ◌↔◌, Bool, true, false, not, Option, None, Some, is_some}
use Rattle.vm_base.specs.declared.page.PageRange.{PageRange}
use Rattle.vm_base.specs.declared.info.Back.{Back}
use Rattle.vm_base.specs.declared.info.Back.TheVariants.{Anon, Shared, Private}
use Rattle.vm_base.specs.declared.info.PageInfo.{PageInfo}
use Rattle.vm_base.specs.Cores.{members}
use Rattle.vm_base.specs.Functions.{has}
use Rattle.vm_base.specs.Info.{frame_of, is_recorded}
use Rattle.vm_base.specs.Runs.{NoneIn}
use Rattle.slot_lock.specs.declared.survey.Survey.{Survey}
use Rattle.slot_lock.specs.Slots.{Slots, IsCut}
use Rattle.slot_lock.specs.Edges.{edges_below}

-- ---- what is asked of each page

-- it isn't mapped
abbrev pub is_gap : Option PageInfo → Bool
is_gap o = not (is_some o)

-- it has a frame
abbrev pub is_framed : Option PageInfo → Bool
is_framed o = is_some (frame_of o)

abbrev pub is_shared_back : Back → Bool
is_shared_back Anon = false
is_shared_back (Shared file page) = true
is_shared_back (Private file page) = false

-- it is a shared one of a file
abbrev pub is_shared : Option PageInfo → Bool
is_shared None = false
is_shared (Some info) = is_shared_back info.meta.back

-- the core is recorded on it
abbrev pub is_user : ℕ → Option PageInfo → Bool
is_user core o = is_recorded o core

-- some page of the range passes the test
abbrev pub HasSome : (Option PageInfo → Bool) → Slots → PageRange → Type 0
HasSome test s range = (p : ℕ) × (has range p ≡ true) × (test (s.info p) ≡ true)

-- ---- surveys

-- nobody holds the pages of the range, so many slots begin in it, and this is what its pages have
pub record IsSurvey (s : Slots) (range : PageRange) (found : Survey) : Type 0 where
  pub free : NoneIn s.owner range.first range.end
  pub slots : edges_below s range.end ≡ edges_below s range.first + found.slots
  pub cores : (core : ℕ) → (members found.cores core ≡ true) ↔ HasSome (is_user core) s range
  pub gap : (found.gap ≡ true) ↔ HasSome is_gap s range
  pub framed : (found.framed ≡ true) ↔ HasSome is_framed s range
  pub shared : (found.shared ≡ true) ↔ HasSome is_shared s range

-- and no slot crosses an edge of it
pub record AreFree (s : Slots) (range : PageRange) (found : Survey) : Type 0 where
  pub cut : IsCut s range
  pub survey : IsSurvey s range found

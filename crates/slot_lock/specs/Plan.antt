-- What a call does: the pages that it locks and changes, and which plans and goals there are
use Rattle.std.specs.Prelude.{ℕ, ◌≡◌, ◌+◌, ◌-◌, ◌≤◌, ◌<◌, ◌^◌, Option, None, Some}
use Rattle.vm_base.specs.declared.page.PageRange.{PageRange}
use Rattle.vm_base.specs.declared.info.Meta.{Meta}
use Rattle.vm_base.specs.Info.{file_page}
use Rattle.vm_base.specs.Pages.{IsPage, IsPageRange, pages_from}
use Rattle.vm_base.specs.Runs.{LiesIn}
use Rattle.slot_lock.specs.declared.plan.Change.{Change}
use Rattle.slot_lock.specs.declared.plan.Change.TheVariants.{Put, Clear, Protect}
use Rattle.slot_lock.specs.declared.plan.Place.{Place}
use Rattle.slot_lock.specs.declared.plan.Touch.{Touch}
use Rattle.slot_lock.specs.declared.plan.Plan.{Plan}
use Rattle.slot_lock.specs.declared.plan.Plan.TheVariants as PlanOf
use Rattle.slot_lock.specs.declared.plan.Target.{Target}
use Rattle.slot_lock.specs.declared.plan.Target.TheVariants.{Hint, Run, Window}
use Rattle.slot_lock.specs.declared.plan.Goal.{Goal}
use Rattle.slot_lock.specs.declared.plan.Goal.TheVariants as To

abbrev pub range_of : Change → PageRange
range_of (Put range meta) = range
range_of (Clear range) = range
range_of (Protect range prot) = range

-- the pages of a placed mapping's target
abbrev pub target_range : Place → Target → PageRange
target_range place (Hint range) = range
target_range place (Run range) = range
target_range place Window = place.window

-- the pages that a call has locked, or is to lock (its footprint)
abbrev pub goal_range : Goal → PageRange
goal_range (To.Place place target) = target_range place target
goal_range (To.Change change) = range_of change
goal_range (To.Access touch) = pages_from touch.page 1

-- the plan that the call follows
abbrev pub goal_plan : Goal → Plan
goal_plan (To.Place place target) = PlanOf.Place place
goal_plan (To.Change change) = PlanOf.Change change
goal_plan (To.Access touch) = PlanOf.Touch touch

-- the file pages of so many pages from the mapping's first on are numbers that a file can have
abbrev pub FitsFile : Meta → ℕ → Type 0
FitsFile meta count = file_page meta.back + count ≤ 2 ^ 35

-- ---- what the tests of a request's arguments leave: ranges of valid pages, with some page

-- what is put there is so long as its range
pub record IsSoundPut (range : PageRange) (meta : Meta) : Type 0 where
  pub pages : IsPageRange range
  pub fits : FitsFile meta (range.end - range.first)

-- its pages can be mapped
abbrev pub IsSoundChange : Change → Type 0
IsSoundChange (Put range meta) = IsSoundPut range meta
IsSoundChange (Clear range) = IsPageRange range
IsSoundChange (Protect range prot) = IsPageRange range

-- a hint is as long as the mapping
abbrev pub IsSoundHint : Option PageRange → ℕ → Type 0
IsSoundHint None count = Unit {0}
IsSoundHint (Some hint) count = IsPageRange hint × (hint.end ≡ hint.first + count)

-- some pages are to be placed in a window, and the backing has as many
pub record IsSoundPlace (place : Place) : Type 0 where
  pub some : 1 ≤ place.count
  pub hint : IsSoundHint place.hint place.count
  pub window : IsPageRange place.window
  pub fits : FitsFile place.meta place.count

-- the address is one that can be mapped
pub record IsSoundTouch (touch : Touch) : Type 0 where
  pub page : IsPage touch.page
  pub offset : touch.offset < 4096

abbrev pub IsSoundPlan : Plan → Type 0
IsSoundPlan (PlanOf.Place place) = IsSoundPlace place
IsSoundPlan (PlanOf.Change change) = IsSoundChange change
IsSoundPlan (PlanOf.Touch touch) = IsSoundTouch touch

-- ---- goals

-- so many pages of the window
pub record IsRunOf (window : PageRange) (count : ℕ) (run : PageRange) : Type 0 where
  pub size : run.end ≡ run.first + count
  pub inside : LiesIn window count run.first

-- the target is the mapping's hint, some run of its window, or its window
abbrev pub IsTarget : Place → Target → Type 0
IsTarget place (Hint range) = place.hint ≡ Some range
IsTarget place (Run range) = IsRunOf place.window place.count range
IsTarget place Window = Unit {0}

-- a place is looked for where its target says
abbrev pub HasTarget : Goal → Type 0
HasTarget (To.Place place target) = IsTarget place target
HasTarget (To.Change change) = Unit {0}
HasTarget (To.Access touch) = Unit {0}

pub record IsSoundGoal (goal : Goal) : Type 0 where
  pub plan : IsSoundPlan (goal_plan goal)
  pub target : HasTarget goal

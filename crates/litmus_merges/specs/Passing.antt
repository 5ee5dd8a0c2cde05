-- Steps that may change places, and steps of which later ones leave nothing
use Rattle.std.specs.Prelude.{◌≡◌, ℕ, ◌+◌, ◌≤◌, ◌==◌, ◌&&◌, ◌||◌, nat_le, not, Bool, true, false, List, Some, slice_get}
use Rattle.vm_base.specs.declared.page.PageRange.{PageRange}
use Rattle.vm_base.specs.Functions.{has}
use Rattle.vm_base.specs.Plain.{Plain}
use Rattle.slot_lock.specs.declared.plan.Change.{Change}
use Rattle.slot_lock.specs.declared.plan.Change.TheVariants.{Put, Clear, Protect}
use Rattle.slot_lock.specs.Plan.{range_of}
use Rattle.litmus_merges.specs.declared.change.MapChange.{MapChange}
use Rattle.litmus_merges.specs.declared.change.MapChange.TheVariants as StepOf
use Rattle.litmus_merges.specs.Steps.{after, after_all}

-- in either order they make the same of each map
abbrev pub Commute : MapChange → MapChange → Type 0
Commute one other = (t : Plain) → after (after t one) other ≡ after (after t other) one

-- the later step leaves nothing of the earlier one
abbrev pub Covers : MapChange → MapChange → Type 0
Covers later earlier = (t : Plain) → after (after t earlier) later ≡ after t later

-- from this place on, each step may change places with this one
abbrev pub PassFrom : List MapChange → ℕ → MapChange → Type 0
PassFrom steps at step = (k : ℕ) (other : MapChange) → at ≤ k → slice_get steps k ≡ Some other → Commute other step

-- this step leaves nothing of the one at the place, which may stand right before it
pub record IsCovered (steps : List MapChange) (step : MapChange) (at : ℕ) : Type 0 where
  pub earlier : MapChange
  pub is : slice_get steps at ≡ Some earlier
  pub covers : Covers step earlier
  pub pass : PassFrom steps (at + 1) step

-- what the step makes of the map that some steps make, it makes of that of others
abbrev pub AreAlikeBefore : MapChange → List MapChange → List MapChange → Type 0
AreAlikeBefore step old new = (t : Plain) → after (after_all t new) step ≡ after (after_all t old) step

-- ---- tests

-- no page is in both ranges
abbrev pub are_apart : PageRange → PageRange → Bool
are_apart one other = nat_le one.end other.first || nat_le other.end one.first

-- each page of the one range is in the other
abbrev pub is_inside : PageRange → PageRange → Bool
is_inside one other = nat_le other.first one.first && nat_le one.end other.end

-- own bytes of the page are the same before and after the change
abbrev pub spares : Change → ℕ → Bool
spares (Put range meta) page = not (has range page)
spares (Clear range) page = not (has range page)
spares (Protect range prot) page = true

abbrev pub change_passes : Change → MapChange → Bool
change_passes change (StepOf.Change other) = are_apart (range_of change) (range_of other)
change_passes change (StepOf.Copy page) = spares change page
change_passes change (StepOf.Own page i byte) = spares change page
change_passes change (StepOf.File file page i byte) = true

abbrev pub copy_passes : ℕ → MapChange → Bool
copy_passes page (StepOf.Change change) = spares change page
copy_passes page (StepOf.Copy other) = not (page == other)
copy_passes page (StepOf.Own other i byte) = not (page == other)
copy_passes page (StepOf.File file k i byte) = false

abbrev pub own_passes : ℕ → ℕ → MapChange → Bool
own_passes page i (StepOf.Change change) = spares change page
own_passes page i (StepOf.Copy other) = not (page == other)
own_passes page i (StepOf.Own other j byte) = not (page == other) || not (i == j)
own_passes page i (StepOf.File file k j byte) = true

abbrev pub file_passes : ℕ → ℕ → ℕ → MapChange → Bool
file_passes file page i (StepOf.Change change) = true
file_passes file page i (StepOf.Copy other) = false
file_passes file page i (StepOf.Own other j byte) = true
file_passes file page i (StepOf.File n k j byte) = not (file == n) || (not (page == k) || not (i == j))

-- both may change places
abbrev pub may_pass : MapChange → MapChange → Bool
may_pass (StepOf.Change change) other = change_passes change other
may_pass (StepOf.Copy page) other = copy_passes page other
may_pass (StepOf.Own page i byte) other = own_passes page i other
may_pass (StepOf.File file page i byte) other = file_passes file page i other

-- the step changes pages of the range alone
abbrev pub is_within : MapChange → PageRange → Bool
is_within (StepOf.Change change) range = is_inside (range_of change) range
is_within (StepOf.Copy page) range = has range page
is_within (StepOf.Own page i byte) range = has range page
is_within (StepOf.File file page i byte) range = false

-- the step protects pages of the range alone
abbrev pub protects_within : MapChange → PageRange → Bool
protects_within (StepOf.Change (Protect other prot)) range = is_inside other range
protects_within _ range = false

abbrev pub change_covers : Change → MapChange → Bool
change_covers (Put range meta) earlier = is_within earlier range
change_covers (Clear range) earlier = is_within earlier range
change_covers (Protect range prot) earlier = protects_within earlier range

abbrev pub own_covers : ℕ → ℕ → MapChange → Bool
own_covers page i (StepOf.Own other j byte) = page == other && i == j
own_covers page i _ = false

abbrev pub file_covers : ℕ → ℕ → ℕ → MapChange → Bool
file_covers file page i (StepOf.File n k j byte) = file == n && (page == k && i == j)
file_covers file page i _ = false

-- the later step leaves nothing of the earlier one
abbrev pub covers : MapChange → MapChange → Bool
covers (StepOf.Change change) earlier = change_covers change earlier
covers (StepOf.Copy page) earlier = false
covers (StepOf.Own page i byte) earlier = own_covers page i earlier
covers (StepOf.File file page i byte) earlier = file_covers file page i earlier

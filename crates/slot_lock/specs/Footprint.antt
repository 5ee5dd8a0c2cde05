-- The pages that an acquisition locks, and a cursor over them
use Rattle.std.specs.Prelude.{ℕ, ◌<◌, ◌==◌, ◌||◌, nat_lt, nat_le, min, max, Bool, false, if◌then◌else◌}
use Rattle.std.specs.Prelude.{Option, Some, None}
use Rattle.std.specs.Option.{ForSome}
use Rattle.vm_base.specs.declared.page.PageRange.{PageRange}
use Rattle.vm_base.specs.Functions.{has}
use Rattle.vm_base.specs.Pages.{IsPageRange}
use Rattle.slot_lock.specs.declared.footprint.Footprint.{Footprint}
use Rattle.slot_lock.specs.declared.slot_map.Got.{Got}
use Rattle.slot_lock.specs.declared.slot_map.Got.TheVariants.{Split, Locked, Held}
use Rattle.slot_lock.specs.Slots.{between}

-- ---- which footprints there are

-- the ranges are of valid pages, from left to right, with a gap between
pub record IsFootprint (fp : Footprint) : Type 0 where
  pub front : IsPageRange fp.first
  pub apart : ForSome fp.second (λ r. (fp.first.end < r.first) × IsPageRange r)

-- ---- footprints of ranges

abbrev pub one_range : PageRange → Footprint
one_range r = record { first = r; second = None }

abbrev pub two_ranges : PageRange → PageRange → Footprint
two_ranges r s = record { first = r; second = Some s }

-- the pages of two ranges: from left to right, as one range where they overlap or touch
abbrev pub both : PageRange → PageRange → Footprint
both r s =
    if nat_lt r.end s.first then two_ranges r s
    else if nat_lt s.end r.first then two_ranges s r
    else one_range (between (min r.first s.first) (max r.end s.end))

-- ---- the cursor

abbrev pub second_has : Option PageRange → ℕ → Bool
second_has None p = false
second_has (Some r) p = has r p

-- the footprint has the page
abbrev pub covers : Footprint → ℕ → Bool
covers fp p = has fp.first p || second_has fp.second p

-- of the second range, or this where there is none
abbrev pub second_or : Option PageRange → ℕ → (PageRange → ℕ) → ℕ
second_or None n f = n
second_or (Some r) n f = f r

-- the end of the range that has the cursor
abbrev pub end_at : Footprint → ℕ → ℕ
end_at fp cursor =
    second_or fp.second fp.first.end
    (λ r. if nat_le fp.first.end cursor then r.end else fp.first.end)

-- where the cursor goes after the pages up to b of a range
abbrev pub next_after : Footprint → ℕ → ℕ
next_after fp b = second_or fp.second b (λ r. if b == fp.first.end then r.first else b)

-- the end of the last range
abbrev pub last_end : Footprint → ℕ
last_end fp = second_or fp.second fp.first.end (λ r. r.end)

-- the cursor is past all pages
abbrev pub is_past : Footprint → ℕ → Bool
is_past fp cursor = nat_le (last_end fp) cursor

-- a page of the footprint, or its end
abbrev pub is_place : Footprint → ℕ → Bool
is_place fp cursor = covers fp cursor || cursor == last_end fp

-- where the cursor is after a step
abbrev pub cursor_after : Footprint → ℕ → Got → ℕ
cursor_after fp cursor Split = cursor
cursor_after fp cursor (Locked b) = next_after fp b
cursor_after fp cursor (Held by) = cursor
